-- The rules after one entry more, which follows from what stands before it.
use Rattle.std.proofs.Common.{◌≡◌, ◌≢◌, ℕ, ◌<◌, inl, inr, Option, Some, refl, sym, subst, ap, ◌∙◌, arith}
use Rattle.core_invariant.specs.Journals.{EachKeeps, RulesKept, IsPlain, PlainEntries}
use Rattle.core_invariant.proofs.Logs.{Logged}
use Rattle.core_journals.proofs.Kept.{IsNoList, IsUpTo, below-old, range-old, chained-old, caused-old, alternate-old, leaves-old}
use Rattle.handoff_data.specs.History.{History}
use Rattle.handoff_data.specs.Numbers.{change_of, run_of, identity, Identity}
use Rattle.handoff_data.specs.Positions.{Stands}
use Rattle.handoff_data.specs.Rules.{InRange, NotRepeated, Chained, Caused, RisesInJournal, RunsAlternate, LeavesWhileRunning}
use Rattle.handoff_data.specs.declared.entry.Entry.{Entry}

-- no entry has this one's identity
abbrev pub IsUnlike : History → Entry → Type 0
IsUnlike before e = (k i : ℕ) (x : Entry) (g : Identity) → Stands before k i x → identity e ≡ Some g → identity x ≢ Some g

-- it has the highest number of its task's changes in this journal
abbrev pub IsHighest : (Entry → Option (ℕ × ℕ)) → History → ℕ → Entry → Type 0
IsHighest number before s e = (t m : ℕ) → number e ≡ Some (t, m) → (i m' : ℕ) (x : Entry) → Stands before s i x → number x ≡ Some (t, m') → m' < m

-- The entry may be the next in the journal of s: it keeps each rule.
pub record IsNext (before : History) (s n : ℕ) (e : Entry) : Type 0 where
  pub plain : IsPlain e
  pub in_range : InRange before s n e
  pub unlike : IsUnlike before e
  pub chained : Chained before s n e
  pub no_list : IsNoList e
  pub caused : Caused before s n e
  pub changes : IsHighest change_of before s e
  pub runs : IsHighest run_of before s e
  pub alternates : RunsAlternate before s n e
  pub leaves : LeavesWhileRunning before s n e

-- an entry that stood lies within its journal
up-old : {before after : History} {s n : ℕ} {e : Entry} → Logged before after s n e → (k i : ℕ) (x : Entry) → Stands before k i x → IsUpTo s n k i
up-old {before} l k i x h q = let r = l.within i x (subst (λ z. Stands before z i x) q h) in omega (arith, r)

up-new : (s n k i : ℕ) → i ≡ n → IsUpTo s n k i
up-new s n k i h q = omega (arith, h)

-- a rule that each entry keeps once it does, and the new one does
each-log : (Rule : History → ℕ → ℕ → Entry → Type 0) {before after : History} {s n : ℕ} {e : Entry} → Logged before after s n e
    → ((k i : ℕ) (x : Entry) → IsUpTo s n k i → Rule before k i x → Rule after k i x) → EachKeeps Rule before → Rule before s n e → EachKeeps Rule after
each-log Rule {before} {after} {s} {n} {e} l old p new =
    λ k i x h. elim (l.log k i x h) [
      | inl a ↦ old k i x (up-old l k i x a) (p k i x a)
      | inr b ↦ subst (λ z. Rule after z i x) (sym b.0) (subst (λ z. Rule after s z x) (sym b.1) (subst (λ z. Rule after s n z) (sym b.2) (old s n e (up-new s n s n refl) new)))
    ]

repeated-log : {before after : History} {s n : ℕ} {e : Entry} → Logged before after s n e → EachKeeps NotRepeated before → IsUnlike before e → EachKeeps NotRepeated after
repeated-log l p unlike =
    λ k i x h g is k' i' x' early h' is'. elim (l.log k i x h) [
      | inl a ↦ elim (l.log k' i' x' h') [
        | inl b ↦ p k i x a g is k' i' x' early b is'
        | inr b ↦ unlike k i x g a (ap identity (sym b.2) ∙ is') is
      ]
      | inr a ↦ elim (l.log k' i' x' h') [
        | inl b ↦ unlike k' i' x' g b (ap identity (sym a.2) ∙ is) is'
        | inr b ↦ grind (arith, early, a.0, a.1, b.0, b.1)
      ]
    ]

rises-log : {before after : History} {s n : ℕ} {e : Entry} → Logged before after s n e → EachKeeps RisesInJournal before → IsHighest change_of before s e → IsHighest run_of before s e
    → EachKeeps RisesInJournal after
rises-log {before} {after} {s} {n} {e} l p changes runs =
    λ k i x h. elim (l.log k i x h) [
      | inl a ↦ let up = up-old l k i x a in record {
        changes = λ t m c j m' x' lt g. (p k i x a).changes t m c j m' x' lt (below-old l k i j x' up lt g);
        runs = λ t m c j m' x' lt g. (p k i x a).runs t m c j m' x' lt (below-old l k i j x' up lt g);
      }
      | inr b ↦ let up = up-new s n k i b.1 in record {
        changes = λ t m c j m' x' lt g. changes t m (ap change_of (sym b.2) ∙ c) j m' x' (subst (λ z. Stands before z j x') b.0 (below-old l k i j x' up lt g));
        runs = λ t m c j m' x' lt g. runs t m (ap run_of (sym b.2) ∙ c) j m' x' (subst (λ z. Stands before z j x') b.0 (below-old l k i j x' up lt g));
      }
    ]

pub RulesKept-log : {before after : History} {s n : ℕ} {e : Entry} → Logged before after s n e → RulesKept before → IsNext before s n e → RulesKept after
RulesKept-log l p new =
    record {
      in_range = each-log InRange l (λ k i x up. range-old l k i x) p.in_range new.in_range;
      not_repeated = repeated-log l p.not_repeated new.unlike;
      chained = each-log Chained l (λ k i x up. chained-old l k i x) p.chained new.chained;
      caused = each-log Caused l (λ k i x up. caused-old l new.no_list k i x) p.caused new.caused;
      rises_in_journal = rises-log l p.rises_in_journal new.changes new.runs;
      runs_alternate = each-log RunsAlternate l (λ k i x up. alternate-old l k i x) p.runs_alternate new.alternates;
      leaves_while_running = each-log LeavesWhileRunning l (λ k i x up. leaves-old l k i x up) p.leaves_while_running new.leaves;
    }

pub plain-log : {before after : History} {s n : ℕ} {e : Entry} → Logged before after s n e → PlainEntries before → IsPlain e → PlainEntries after
plain-log l p new k i x h = elim (l.log k i x h) [ inl a ↦ p k i x a | inr b ↦ subst IsPlain (sym b.2) new ]
