-- The core that words, values at home and traces show.
use Rattle.std.specs.Prelude.{ℕ, ◌+◌, ◌/◌, ◌%◌, nat_lt, Bool, List, [], ◌∷◌, Option, Some, None, if◌then◌else◌}
use Rattle.handoff_data.specs.declared.shape.Shape.{Shape}
use Rattle.core_data.specs.Queue.{Queue}
use Rattle.core_data.specs.Columns.{Columns, put, unserved}
use Rattle.core_data.specs.declared.values.TaskVal.{TaskVal}
use Rattle.core_data.specs.declared.values.WaitEntry.{WaitEntry}
use Rattle.core_data.specs.declared.values.WorkItem.{WorkItem}
use Rattle.word_steps.specs.Folds.{task_held, queue_held, works_held, wait_held, body_held, current_task, task_to_clear}
use Rattle.word_steps.specs.Folds.{seen_state, level_known, has_matched, is_unstored, saw_off, saw_rest, saw_rest_off}
use Rattle.word_steps.specs.Folds.{saw_rest_idle, is_claimed, saw_clear, has_stored, has_slept, is_requeued, last_reads}
use Rattle.word_steps.specs.Folds.{saw_idle, has_added, has_dropped, has_passed, has_own_stored, has_slept_in}
use Rattle.word_steps.specs.Folds.{has_retaken, owes_walk, tested, is_asleep, journal}
use Rattle.word_steps.specs.Records.{Rec}
use Rattle.word_steps.specs.Words.{LOCK, STATE, RQ, BUSY, CPU, COUNT, QUEUE_LOCK, WORKS_LOCK, LIST_LOCK, HINT, PINNED}
use Rattle.word_steps.specs.Words.{PHASE, ACTIVE, WAIT_LOCK, COND, MARK, DONE, REFS, holder, is_set, phase_of}

-- the values at home. A body that is out is `ended` as it was taken out.
pub record Homes : Type 0 where
  pub task : ℕ → Option TaskVal
  pub queue : ℕ → Option Queue
  pub works : ℕ → Option (List WorkItem)
  pub wait : ℕ → Option (List WaitEntry)
  pub body : ℕ → Bool
  pub ended : ℕ → Bool

-- The columns of remote lists, records, tickets and phases are those of the opening core until steps change them.
abbrev pub core_of : Shape → (ℕ → ℕ → ℕ) → Homes → (ℕ → List Rec) → Columns
core_of shape words homes traces =
    record {
      shape = shape;
      tasks = shape.tasks;
      cpus = shape.cpus;
      conds = shape.conds;
      seats = shape.cpus + shape.agents;
      state = λ t. record { 0 = words t STATE };
      on_rq = λ t. words t RQ % 4;
      changes = λ t. words t RQ / 4;
      on_cpu = λ t. is_set (words t BUSY);
      runs = λ t. words t BUSY / 2;
      cpu = λ t. words t CPU;
      count = λ t. words t COUNT;
      lock = λ t. holder (words t LOCK);
      val = homes.task;
      body = homes.body;
      ended = homes.ended;
      hint = λ c. words c HINT;
      pinned = λ c. words c PINNED;
      phase = λ c. phase_of (words c PHASE);
      active = λ c. is_set (words c ACTIVE);
      epoch = λ c. words c ACTIVE / 2;
      queue_lock = λ c. holder (words c QUEUE_LOCK);
      queue = homes.queue;
      list_lock = λ c. holder (words c LIST_LOCK);
      list = λ c. if nat_lt c shape.cpus then Some [] else None;
      works_lock = λ c. holder (words c WORKS_LOCK);
      works = homes.works;
      cond = λ k. words k COND;
      wait_lock = λ k. holder (words k WAIT_LOCK);
      wait = homes.wait;
      mark = λ s. is_set (words s MARK);
      done = λ s. is_set (words s DONE);
      refs = λ s. words s REFS;
      current_task = λ s. current_task s (traces s);
      task_held = λ s. task_held (traces s);
      queue_held = λ s. queue_held (traces s);
      list_held = λ s c. None;
      works_held = λ s. works_held (traces s);
      wait_held = λ s. wait_held (traces s);
      body_held = λ s. body_held (traces s);
      task_to_clear = λ s. task_to_clear s (traces s);
      seen_state = λ s. seen_state s (traces s);
      level_known = λ s. level_known s (traces s);
      has_matched = λ s. has_matched (traces s);
      is_unstored = λ s. is_unstored (traces s);
      saw_off = λ s. saw_off (traces s);
      is_claimed = λ s. is_claimed (traces s);
      saw_clear = λ s. saw_clear (traces s);
      has_stored = λ s. has_stored (traces s);
      saw_rest = λ s. saw_rest (traces s);
      saw_rest_off = λ s. saw_rest_off (traces s);
      saw_rest_idle = λ s. saw_rest_idle (traces s);
      has_slept = λ s. has_slept (traces s);
      is_requeued = λ s. is_requeued (traces s);
      saw_idle = λ s. saw_idle (traces s);
      has_added = λ s. has_added (traces s);
      has_dropped = λ s. has_dropped (traces s);
      has_passed = λ s. has_passed (traces s);
      has_own_stored = λ s. has_own_stored (traces s);
      has_slept_in = λ s. has_slept_in (traces s);
      owes_walk = λ s. owes_walk (traces s);
      has_retaken = λ s. has_retaken (traces s);
      tested = λ s. tested s (traces s);
      is_asleep = λ s. is_asleep s (traces s);
      last_reads = λ s. last_reads (traces s);
      hand = λ s. [];
      actives = λ s. [];
      counts = λ s. [];
      lowered = λ s. [];
      given_up = λ s. [];
      due = λ s. None;
      ticket = λ s. None;
      zeroed = λ s. [];
      joined = λ s. [];
      refs_zero = λ s. nat_lt s (shape.cpus + shape.agents);
      completing = λ s. [];
      posted = λ s. [];
      works_hand = λ s. [];
      phases = λ s. [];
      unmarked = λ s. [];
      alive = λ s. [];
      turns = λ s. [];
      served = λ s. unserved;
      journal = λ s. journal s (traces s);
    }

-- .. after a step of the seat s
abbrev pub core_after : Shape → (ℕ → ℕ → ℕ) → Homes → (ℕ → List Rec) → ℕ → Rec → Columns
core_after shape words homes traces s r = core_of shape words homes (put traces s (r ∷ traces s))
