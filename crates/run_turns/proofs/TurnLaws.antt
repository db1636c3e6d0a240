-- Turns, by their parts.
use Rattle.std.proofs.Common.{◌≡◌, ◌∙◌, ℕ, ◌++◌, ◌∷◌, List, refl, sym, ap, subst, inl, inr, arith}
use Rattle.std.specs.Prelude.{Option, Some, None}
use Rattle.std.proofs.lemmas.Bool.{cases_lt}
use Rattle.std.specs.List.{Contains}
use Rattle.std.proofs.lemmas.List.Elements.{Contains-append_left, Contains-append_right, Contains-get_or}
use Rattle.handoff_data.specs.declared.entry.Entry.{Entry}
use Rattle.handoff_data.specs.declared.entry.Entry.TheVariants as entry
use Rattle.pipe_bodies.specs.declared.verdict.Then.{Then}
use Rattle.pipe_bodies.specs.declared.verdict.Then.TheVariants as verdict
use Rattle.run_cells.specs.Telling.{cleared, Grows}
use Rattle.run_cells.specs.declared.net_map.Inputs.{Inputs}
use Rattle.run_turns.specs.Conds.{wait_cond, wait_value}
use Rattle.run_turns.specs.Deaths.{HasDied}
use Rattle.run_turns.specs.Turns.{GoesAs, Sleeps, LookedIn, LeavesKept, HasLeftCond}
use Rattle.wait_queue.specs.Entering.{IsFinished}
use Rattle.run_turns.specs.declared.loads.Values.{Values}
use Rattle.sched_switch.specs.Switches.{HasDied as DiedInTurn}
use Rattle.task_words.specs.Views.{PassView, IsSame}
use Rattle.word_steps.specs.Records.{Rec}

-- a death that stands in the turn is told with it
pub died_told : (t : ℕ) (old made new : PassView) → DiedInTurn t old made → new ≡ cleared made → HasDied new.told t
died_told t old made new died is = record {
  m = died.m;
  c = old.seat;
  within = subst (λ (p : PassView). Contains p.told (entry.Die t died.m old.seat)) (sym is)
      (subst (λ (xs : List Entry). Contains (made.told ++ xs) (entry.Die t died.m old.seat)) (sym died.entries) (stands made.told old.turn.entries));
}
  where
    die : Entry
    die = entry.Die t died.m old.seat

    rest : List Entry
    rest = entry.Finish t died.n old.seat ∷ died.later

    stands : (xs ys : List Entry) → Contains (xs ++ (ys ++ die ∷ rest)) die
    stands xs ys = Contains-append_right xs (ys ++ die ∷ rest) die (Contains-append_right ys (die ∷ rest) die (Contains-get_or (die ∷ rest) 0 die (omega arith)))

-- .. and stays told
pub died_still : (t : ℕ) (old new : List Entry) → Grows old new → HasDied old t → HasDied new t
died_still t old new grows died = record {
  m = died.m;
  c = died.c;
  within = subst (λ (xs : List Entry). Contains xs (entry.Die t died.m died.c)) (sym grows.is)
      (Contains-append_left old grows.added (entry.Die t died.m died.c) died.within);
}

-- a task that has not ended goes on, or sleeps
pub goes_as : (inputs : Inputs) (values : Values) (t : ℕ) (then : Then) (old new : PassView) → (then ≡ verdict.Exit → ⊥)
    → Sleeps (wait_cond inputs t then) (wait_value values then) old new → GoesAs inputs values t then old new
goes_as inputs values t verdict.More old new other did = did
goes_as inputs values t (verdict.WaitIn side) old new other did = did
goes_as inputs values t verdict.WaitOut old new other did = did
goes_as inputs values t verdict.Exit old new other did = absurd (other refl)

-- the cell kept no condition, or one that was left
left_none : (t : ℕ) (old mid new : PassView) → LookedIn t old mid → new ≡ mid → HasLeftCond t old new
left_none t old mid new looked is = record { ended = looked.ended; left = inl (ap (λ (p : PassView). p.trace) is ∙ looked.did) }

left_finished : (t k : ℕ) (old mid new : PassView) → IsSame old mid → LookedIn t old mid → IsFinished k mid.seat mid.trace new.trace
    → HasLeftCond t old new
left_finished t k old mid new same looked finished = record {
  ended = looked.ended;
  left = inr (k, subst (λ (z : ℕ × List Rec). IsFinished k z.0 z.1 new.trace) (λ i. (same.same.same_seat i, looked.did i)) finished);
}

pub left_kept : (t conds : ℕ) (kept : Option ℕ) (old mid new : PassView) → IsSame old mid → LookedIn t old mid
    → LeavesKept conds kept mid new → HasLeftCond t old new
left_kept t conds None old mid new same looked left = left_none t old mid new looked left
left_kept t conds (Some k) old mid new same looked left =
    elim (cases_lt k conds) [
      | inl low ↦ left_finished t k old mid new same looked (left.0 low)
      | inr high ↦ left_none t old mid new looked (left.1 high)
    ]
