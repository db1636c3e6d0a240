-- The rules by their numbers.
use Rattle.std.proofs.Common.{◌≡◌, ◌+◌, ◌<◌, ◌≤◌, ℕ, zero, suc, List, Option, Some, None, arith, refl, subst, inl, inr}
use Rattle.std.proofs.lemmas.Bool.{cases_lt}
use Rattle.handoff_data.specs.declared.entry.Entry.{Entry}
use Rattle.handoff_data.specs.History.{History}
use Rattle.handoff_data.specs.Legal.{Keeps}
use Rattle.handoff_data.specs.Rules.{InRange, NotRepeated, Chained, Caused, RisesInJournal, RunsAlternate, LeavesWhileRunning, ListedInOrder, OutageLeavesNone, MaskedAndStood, DoneStood}
use Rattle.journal_legal.specs.Judging.{KeepsAll, KeepsBelow, EarlierKeepAll, IsLowestBroken}
use Rattle.journal_rules.specs.Order.{RoseBefore}
use Rattle.journal_rules.specs.declared.marks.Mark.{Mark}
use Rattle.journal_rules.specs.Marks.{IsTakenFrom, IsMarkOf, AreMarks}
use Rattle.journal_rules.specs.Turns.{KeptSoFar}

-- the rule of this number
abbrev pub Rule : ℕ → History → ℕ → ℕ → Entry → Type 0
Rule zero j s i e = Unit {0}
Rule (suc zero) j s i e = InRange j s i e
Rule (suc (suc zero)) j s i e = NotRepeated j s i e
Rule (suc (suc (suc zero))) j s i e = Chained j s i e
Rule (suc (suc (suc (suc zero)))) j s i e = Caused j s i e
Rule (suc (suc (suc (suc (suc zero))))) j s i e = RisesInJournal j s i e
Rule (suc (suc (suc (suc (suc (suc zero)))))) j s i e = RunsAlternate j s i e
Rule (suc (suc (suc (suc (suc (suc (suc zero))))))) j s i e = LeavesWhileRunning j s i e
Rule (suc (suc (suc (suc (suc (suc (suc (suc zero)))))))) j s i e = ListedInOrder j s i e
Rule (suc (suc (suc (suc (suc (suc (suc (suc (suc zero))))))))) j s i e = OutageLeavesNone j s i e
Rule (suc (suc (suc (suc (suc (suc (suc (suc (suc (suc zero)))))))))) j s i e = MaskedAndStood j s i e
Rule (suc (suc (suc (suc (suc (suc (suc (suc (suc (suc (suc zero))))))))))) j s i e = DoneStood j s i e
Rule (suc (suc (suc (suc (suc (suc (suc (suc (suc (suc (suc (suc rule)))))))))))) j s i e = Unit {0}

module _ (j : History) (s i : ℕ) (e : Entry) where
  keeps : (rule : ℕ) → Rule rule j s i e → Keeps rule j s i e
  keeps rule h = record {
    in_range = λ is. subst (λ (n : ℕ). Rule n j s i e) is h;
    not_repeated = λ is. subst (λ (n : ℕ). Rule n j s i e) is h;
    chained = λ is. subst (λ (n : ℕ). Rule n j s i e) is h;
    caused = λ is. subst (λ (n : ℕ). Rule n j s i e) is h;
    rises_in_journal = λ is. subst (λ (n : ℕ). Rule n j s i e) is h;
    runs_alternate = λ is. subst (λ (n : ℕ). Rule n j s i e) is h;
    leaves_while_running = λ is. subst (λ (n : ℕ). Rule n j s i e) is h;
    listed_in_order = λ is. subst (λ (n : ℕ). Rule n j s i e) is h;
    outage_leaves_none = λ is. subst (λ (n : ℕ). Rule n j s i e) is h;
    masked_and_stood = λ is. subst (λ (n : ℕ). Rule n j s i e) is h;
    done_stood = λ is. subst (λ (n : ℕ). Rule n j s i e) is h;
  }

  kept : (rule : ℕ) → Keeps rule j s i e → Rule rule j s i e
  kept zero k = tt
  kept (suc zero) k = k.in_range refl
  kept (suc (suc zero)) k = k.not_repeated refl
  kept (suc (suc (suc zero))) k = k.chained refl
  kept (suc (suc (suc (suc zero)))) k = k.caused refl
  kept (suc (suc (suc (suc (suc zero))))) k = k.rises_in_journal refl
  kept (suc (suc (suc (suc (suc (suc zero)))))) k = k.runs_alternate refl
  kept (suc (suc (suc (suc (suc (suc (suc zero))))))) k = k.leaves_while_running refl
  kept (suc (suc (suc (suc (suc (suc (suc (suc zero)))))))) k = k.listed_in_order refl
  kept (suc (suc (suc (suc (suc (suc (suc (suc (suc zero))))))))) k = k.outage_leaves_none refl
  kept (suc (suc (suc (suc (suc (suc (suc (suc (suc (suc zero)))))))))) k = k.masked_and_stood refl
  kept (suc (suc (suc (suc (suc (suc (suc (suc (suc (suc (suc zero))))))))))) k = k.done_stood refl
  kept (suc (suc (suc (suc (suc (suc (suc (suc (suc (suc (suc (suc rule)))))))))))) k = tt

  past_all : (rule : ℕ) → 12 ≤ rule → Keeps rule j s i e
  past_all rule past = record {
    in_range = λ is. absurd (omega arith);
    not_repeated = λ is. absurd (omega arith);
    chained = λ is. absurd (omega arith);
    caused = λ is. absurd (omega arith);
    rises_in_journal = λ is. absurd (omega arith);
    runs_alternate = λ is. absurd (omega arith);
    leaves_while_running = λ is. absurd (omega arith);
    listed_in_order = λ is. absurd (omega arith);
    outage_leaves_none = λ is. absurd (omega arith);
    masked_and_stood = λ is. absurd (omega arith);
    done_stood = λ is. absurd (omega arith);
  }

  -- one more rule is kept
  pub one_more : (rule : ℕ) → KeepsBelow rule j s i e → Rule rule j s i e → KeepsBelow (rule + 1) j s i e
  one_more rule below h lower less = elim (cases_lt lower rule) [
    | inl lower_less ↦ below lower lower_less
    | inr other ↦ let same : rule ≡ lower = omega arith in subst (λ (n : ℕ). Keeps n j s i e) same (keeps rule h)
  ]

  pub keeps_all : KeepsBelow 12 j s i e → KeepsAll j s i e
  keeps_all below rule = elim (cases_lt rule 12) [ inl less ↦ below rule less | inr past ↦ past_all rule past ]

  -- the rule is the lowest that is broken
  pub lowest : (rule : ℕ) → 1 ≤ rule → rule ≤ 11 → KeepsBelow rule j s i e → (Rule rule j s i e → ⊥) → IsLowestBroken j s i e rule
  lowest rule from to below broken = record { from_1 = from; to_11 = to; broken = λ k. broken (kept rule k); lower_kept = below }

-- what earlier entries of the journal keep
pub rose : (j : History) (s i : ℕ) → EarlierKeepAll j s i → RoseBefore j s i
rose j s i earlier before e less stands = (earlier s before e (inr (refl, less)) stands 5).rises_in_journal refl

pub kept_so_far : (j : History) (s i : ℕ) → EarlierKeepAll j s i → KeptSoFar j s i
kept_so_far j s i earlier = record {
  in_range = λ before e less stands. (earlier s before e (inr (refl, less)) stands 1).in_range refl;
  leaves_none = λ before e less stands. (earlier s before e (inr (refl, less)) stands 9).outage_leaves_none refl;
}

enter_mark : (j : History) (before i s w : ℕ) (mark : Option Mark) → before < s → IsMarkOf (IsTakenFrom j before i w) before mark → IsMarkOf (IsTakenFrom j s 0 w) s mark
enter_mark j before i s w None later x = λ k t. let less : t.0 < 0 = t.4 in omega arith
enter_mark j before i s w (Some m) later x =
    let low : m.seat ≤ before = x.not_later in
    record {
      not_later = omega arith;
      last = λ k t. let less : t.0 < 0 = t.4 in absurd (omega arith);
      taken = λ same. let e : m.seat ≡ s = same in absurd (omega arith);
    }

-- the marks of an earlier journal are marks at the start of a later one
pub enter_marks : (j : History) (before i s : ℕ) (marks : List (Option Mark)) → before < s → AreMarks j before i marks → AreMarks j s 0 marks
enter_marks j before i s marks later x = record { marked = x.marked; each = λ w mark at. enter_mark j before i s w mark later (x.each w mark at) }
