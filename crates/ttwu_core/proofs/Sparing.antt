-- A wake-up takes at most two entries of a turn.
use Rattle.std.proofs.Common.{◌≡◌, ℕ, ◌+◌, ◌-◌, ◌≤◌, ap, arith}
use Rattle.handoff_data.specs.declared.entry.Entry.{Entry}
use Rattle.handoff_data.specs.declared.shape.Shape.{Shape}
use Rattle.handoff_data.specs.declared.state.State.{State}
use Rattle.run_queue.proofs.Sparing.{spare_same, spare_once}
use Rattle.task_words.specs.Views.{PassView, TurnView, logged}
use Rattle.ttwu_core.specs.Own.{DidWakeOwn}
use Rattle.ttwu_core.specs.Wakes.{DidWake}
use Rattle.ttwu_core.specs.declared.answers.How.TheVariants as how
use Rattle.ttwu_core.specs.declared.answers.Wake.{Wake}
use Rattle.ttwu_core.specs.declared.answers.Wake.TheVariants as wake

spare_twice : (e f : Entry) (old new : TurnView) → new ≡ logged e (logged f old) → old.spare ≤ new.spare + 2
spare_twice e f old new same =
    let left : new.spare ≡ old.spare - 1 - 1 = ap (λ (z : TurnView). z.spare) same in omega arith

pub spare_own : (mask : State) (old new : PassView) (answer : Wake) → DidWakeOwn mask old new answer
    → old.turn.spare ≤ new.turn.spare + 1
spare_own mask old new (wake.Woke how.Own) did = let all = spare_same old.turn new.turn did.turn in omega arith
spare_own mask old new (wake.Woke how.Runnable) did = absurd did
spare_own mask old new (wake.Woke (how.Queued c)) did = absurd did
spare_own mask old new (wake.NoMatch seen) did = spare_once _ old.turn new.turn did.turn

pub spare_wake : (t : ℕ) (mask : State) (shape : Shape) (old new : PassView) (answer : Wake) → DidWake t mask shape old new answer
    → old.turn.spare ≤ new.turn.spare + 2
spare_wake t mask shape old new (wake.Woke how.Own) did = absurd did
spare_wake t mask shape old new (wake.Woke how.Runnable) did = let all = spare_same old.turn new.turn did.turn in omega arith
spare_wake t mask shape old new (wake.Woke (how.Queued c)) did = spare_twice _ _ old.turn new.turn did.turn
spare_wake t mask shape old new (wake.NoMatch seen) did = let one = spare_once _ old.turn new.turn did.turn in omega arith
