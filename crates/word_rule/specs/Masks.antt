-- What is known of the masks of tasks.
use Rattle.std.specs.Prelude.{ℕ, List, Option}
use Rattle.core_data.specs.declared.values.TaskVal.{TaskVal}
use Rattle.core_invariant.specs.Shapes.{HoldsOfValues}
use Rattle.handoff_data.specs.Mask.{HasCpu}
use Rattle.word_steps.specs.Decode.{Homes}
use Rattle.word_steps.specs.Folds.{task_held}
use Rattle.word_steps.specs.Records.{Rec}

-- the task may run on some processor
abbrev pub HasSome : TaskVal → Type 0
HasSome v = (c : ℕ) × HasCpu v.mask c

-- each task may, by its value at home, and by the one that was taken out
abbrev pub HaveSome : (ℕ → Option TaskVal) → (ℕ → ℕ → Option TaskVal) → Type 0
HaveSome home out = HoldsOfValues _ HasSome home out

abbrev pub MasksHold : Homes → (ℕ → List Rec) → Type 0
MasksHold homes traces = HaveSome homes.task (λ s. task_held (traces s))
