-- A run goes on by one step.
use Rattle.std.proofs.Common.{◌≡◌, ℕ, ◌+◌, ◌<◌, length, take, get_or, sym, ◌∙◌, List, [], ◌∷◌, ◌++◌, subst, ap}
use Rattle.std.proofs.lemmas.List.{take_more}
use Rattle.core_data.specs.Columns.{Columns}
use Rattle.core_law.proofs.Reached.{Ran-push}
use Rattle.core_law.specs.Runs.{Ran}
use Rattle.core_law.specs.Steps.{May, after}
use Rattle.core_law.specs.declared.event.Event.{Event}

pub taken_one : (events : List Event) (i : ℕ) (e : Event) → i < length events → e ≡ get_or events i e → take i events ++ e ∷ [] ≡ take (i + 1) events
taken_one events i e h is = ap (λ (x : Event). take i events ++ x ∷ []) is ∙ sym (take_more events i e h)

pub ran_on : (core : Columns) (events : List Event) (i : ℕ) (mid next : Columns) (e : Event) → i < length events → e ≡ get_or events i e → Ran core (take i events) mid → May mid e.seat e.step
    → next ≡ after mid e.seat e.step → Ran core (take (i + 1) events) next
ran_on core events i mid next e h is ran may n =
    subst (λ (x : Columns). Ran core (take (i + 1) events) x) (sym n)
    (subst (λ (xs : List Event). Ran core xs (after mid e.seat e.step)) (taken_one events i e h is) (Ran-push core (take i events) mid e ran may))
