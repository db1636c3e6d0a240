-- What a new table has: its words, and its values at home.
use Rattle.std.specs.Prelude.{ℕ, ◌==◌, nat_lt, false, [], Some, None, if◌then◌else◌}
use Rattle.core_data.specs.Opening.{no_tasks}
use Rattle.core_data.specs.declared.values.TaskVal.{TaskVal}
use Rattle.core_kinds.specs.Steps.{fresh}
use Rattle.handoff_data.specs.declared.mask.CpuMask.{CpuMask}
use Rattle.handoff_data.specs.declared.shape.Shape.{Shape}
use Rattle.word_steps.specs.Decode.{Homes}
use Rattle.word_steps.specs.Words.{STATE, ACTIVE}

-- each task is TASK_NEW, each processor is active in epoch 0; every other word is 0
abbrev pub first_words : Shape → ℕ → ℕ → ℕ
first_words shape n c =
    if c == STATE then (if nat_lt n shape.tasks then fresh.0 else 0) else if c == ACTIVE
    then (if nat_lt n shape.cpus then 1 else 0) else 0

abbrev pub first_val : CpuMask → TaskVal
first_val mask = record {
  mask = mask;
  r = 0;
  narrowed = None;
  wake_cpu = 0;
  pending = None;
  stop_queued = false;
  dest = 0;
}

-- every value is home, and no body has ended
abbrev pub first_homes : Shape → CpuMask → Homes
first_homes shape mask =
    record {
      task = λ t. if nat_lt t shape.tasks then Some (first_val mask) else None;
      queue = λ c. if nat_lt c shape.cpus then Some no_tasks else None;
      works = λ c. if nat_lt c shape.cpus then Some [] else None;
      wait = λ k. if nat_lt k shape.conds then Some [] else None;
      body = λ t. nat_lt t shape.tasks;
      ended = λ t. false;
    }
