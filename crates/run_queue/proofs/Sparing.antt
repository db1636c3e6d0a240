-- How many entries of a turn a call takes.
use Rattle.std.proofs.Common.{◌≡◌, ℕ, ◌+◌, ◌-◌, ◌≤◌, ap, inl, inr, arith}
use Rattle.handoff_data.specs.declared.entry.Entry.{Entry}
use Rattle.run_queue.specs.Starts.{DidStart}
use Rattle.run_queue.specs.declared.answer.Start.{Start}
use Rattle.run_queue.specs.declared.answer.Start.TheVariants as start
use Rattle.task_words.specs.Views.{PassView, TurnView, logged}

pub spare_same : (old new : TurnView) → new ≡ old → old.spare ≤ new.spare
spare_same old new same = let left : new.spare ≡ old.spare = ap (λ (z : TurnView). z.spare) same in omega arith

pub spare_once : (e : Entry) (old new : TurnView) → new ≡ logged e old → old.spare ≤ new.spare + 1
spare_once e old new same = let left : new.spare ≡ old.spare - 1 = ap (λ (z : TurnView). z.spare) same in omega arith

pub spare_start : (t c : ℕ) (old new : PassView) (answer : Start) → DidStart t c old new answer
    → old.turn.spare ≤ new.turn.spare + 1
spare_start t c old new (start.Started m) did = spare_once _ old.turn new.turn did.1.turn
spare_start t c old new (start.NotNew seen) (inl did) = let all = spare_same old.turn new.turn did.turn in omega arith
spare_start t c old new (start.NotNew seen) (inr did) = let all = spare_same old.turn new.turn did.turn in omega arith
