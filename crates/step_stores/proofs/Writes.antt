-- The table after a write of one row of a core.
use Rattle.std.proofs.Common.{◌≡◌, ℕ, ◌<◌, [], false, None, get_or, sym}
use Rattle.std.proofs.lemmas.List.{length-set}
use Rattle.std.specs.Vec.{with_item}
use Rattle.core_data.specs.Columns.{columns, unserved, mark_of, done_of, refs_of, current_task_of, task_held_of, queue_held_of, list_held_of, works_held_of, wait_held_of, body_held_of}
use Rattle.core_data.specs.Columns.{task_to_clear_of, seen_state_of, level_known_of, has_matched_of, is_unstored_of, saw_off_of, is_claimed_of, saw_clear_of, has_stored_of, saw_rest_of}
use Rattle.core_data.specs.Columns.{saw_rest_off_of, saw_rest_idle_of, has_slept_of, is_requeued_of, saw_idle_of}
use Rattle.core_data.specs.Columns.{has_added_of, has_dropped_of, has_passed_of, has_own_stored_of, has_slept_in_of, owes_walk_of, has_retaken_of, tested_of, is_asleep_of, last_reads_of, hand_of}
use Rattle.core_data.specs.Columns.{actives_of, counts_of, lowered_of}
use Rattle.core_data.specs.Columns.{given_up_of, due_of, ticket_of, zeroed_of, joined_of, refs_zero_of, completing_of, posted_of, works_hand_of, phases_of, unmarked_of, alive_of, turns_of, served_of}
use Rattle.core_data.specs.Columns.{journal_of}
use Rattle.core_data.specs.Found.{no_reads}
use Rattle.core_data.specs.Rows.{task_words_of, with_task, with_cpu, with_cond, with_seat}
use Rattle.core_stores.proofs.Columns.{column-set, column-get, column-put}
use Rattle.core_data.specs.declared.machine.Core.{Core}
use Rattle.core_data.specs.declared.seat.SeatCore.{SeatCore}
use Rattle.core_data.specs.declared.words.TaskWords.{TaskWords}
use Rattle.core_data.specs.declared.words.CpuWords.{CpuWords}
use Rattle.core_data.specs.declared.words.CondWords.{CondWords}
use Rattle.core_data.specs.declared.words.Phase.TheVariants.{Live}

-- a write of a row, and a write of the row that is there
pub table-task : (core : Core) (k : ℕ) (w : TaskWords) → k < (columns core).tasks → columns (record core { tasks = with_item core.tasks k w }) ≡ with_task (columns core) k w
unfolding columns
table-task core k w h =
    λ i. record (columns core) {
      tasks = length-set core.tasks.items k w i;
      state = column-set (λ (w : TaskWords). w.state) (record { 0 = 0 }) core.tasks.items k w h i;
      on_rq = column-set (λ (w : TaskWords). w.on_rq) 0 core.tasks.items k w h i;
      changes = column-set (λ (w : TaskWords). w.changes) 0 core.tasks.items k w h i;
      on_cpu = column-set (λ (w : TaskWords). w.on_cpu) false core.tasks.items k w h i;
      runs = column-set (λ (w : TaskWords). w.runs) 0 core.tasks.items k w h i;
      cpu = column-set (λ (w : TaskWords). w.cpu) 0 core.tasks.items k w h i;
      count = column-set (λ (w : TaskWords). w.count) 0 core.tasks.items k w h i;
      lock = column-set (λ (w : TaskWords). w.lock) None core.tasks.items k w h i;
      val = column-set (λ (w : TaskWords). w.val) None core.tasks.items k w h i;
      body = column-set (λ (w : TaskWords). w.body) false core.tasks.items k w h i;
      ended = column-set (λ (w : TaskWords). w.ended) false core.tasks.items k w h i;
    }

pub same-task : (core : Core) (k : ℕ) (w : TaskWords) → k < (columns core).tasks → w ≡ get_or core.tasks.items k w → with_task (columns core) k w ≡ columns core
unfolding columns
same-task core k w h e =
    λ i. record (columns core) {
      state = column-put (λ (w : TaskWords). w.state) (record { 0 = 0 }) core.tasks.items k w h e i;
      on_rq = column-put (λ (w : TaskWords). w.on_rq) 0 core.tasks.items k w h e i;
      changes = column-put (λ (w : TaskWords). w.changes) 0 core.tasks.items k w h e i;
      on_cpu = column-put (λ (w : TaskWords). w.on_cpu) false core.tasks.items k w h e i;
      runs = column-put (λ (w : TaskWords). w.runs) 0 core.tasks.items k w h e i;
      cpu = column-put (λ (w : TaskWords). w.cpu) 0 core.tasks.items k w h e i;
      count = column-put (λ (w : TaskWords). w.count) 0 core.tasks.items k w h e i;
      lock = column-put (λ (w : TaskWords). w.lock) None core.tasks.items k w h e i;
      val = column-put (λ (w : TaskWords). w.val) None core.tasks.items k w h e i;
      body = column-put (λ (w : TaskWords). w.body) false core.tasks.items k w h e i;
      ended = column-put (λ (w : TaskWords). w.ended) false core.tasks.items k w h e i;
    }

-- a write of a row, and a write of the row that is there
pub table-cpu : (core : Core) (k : ℕ) (w : CpuWords) → k < (columns core).cpus → columns (record core { cpus = with_item core.cpus k w }) ≡ with_cpu (columns core) k w
unfolding columns
table-cpu core k w h =
    λ i. record (columns core) {
      cpus = length-set core.cpus.items k w i;
      hint = column-set (λ (w : CpuWords). w.hint) 0 core.cpus.items k w h i;
      pinned = column-set (λ (w : CpuWords). w.pinned) 0 core.cpus.items k w h i;
      phase = column-set (λ (w : CpuWords). w.phase) Live core.cpus.items k w h i;
      active = column-set (λ (w : CpuWords). w.active) false core.cpus.items k w h i;
      epoch = column-set (λ (w : CpuWords). w.epoch) 0 core.cpus.items k w h i;
      queue_lock = column-set (λ (w : CpuWords). w.queue_lock) None core.cpus.items k w h i;
      queue = column-set (λ (w : CpuWords). w.queue) None core.cpus.items k w h i;
      list_lock = column-set (λ (w : CpuWords). w.list_lock) None core.cpus.items k w h i;
      list = column-set (λ (w : CpuWords). w.list) None core.cpus.items k w h i;
      works_lock = column-set (λ (w : CpuWords). w.works_lock) None core.cpus.items k w h i;
      works = column-set (λ (w : CpuWords). w.works) None core.cpus.items k w h i;
    }

pub same-cpu : (core : Core) (k : ℕ) (w : CpuWords) → k < (columns core).cpus → w ≡ get_or core.cpus.items k w → with_cpu (columns core) k w ≡ columns core
unfolding columns
same-cpu core k w h e =
    λ i. record (columns core) {
      hint = column-put (λ (w : CpuWords). w.hint) 0 core.cpus.items k w h e i;
      pinned = column-put (λ (w : CpuWords). w.pinned) 0 core.cpus.items k w h e i;
      phase = column-put (λ (w : CpuWords). w.phase) Live core.cpus.items k w h e i;
      active = column-put (λ (w : CpuWords). w.active) false core.cpus.items k w h e i;
      epoch = column-put (λ (w : CpuWords). w.epoch) 0 core.cpus.items k w h e i;
      queue_lock = column-put (λ (w : CpuWords). w.queue_lock) None core.cpus.items k w h e i;
      queue = column-put (λ (w : CpuWords). w.queue) None core.cpus.items k w h e i;
      list_lock = column-put (λ (w : CpuWords). w.list_lock) None core.cpus.items k w h e i;
      list = column-put (λ (w : CpuWords). w.list) None core.cpus.items k w h e i;
      works_lock = column-put (λ (w : CpuWords). w.works_lock) None core.cpus.items k w h e i;
      works = column-put (λ (w : CpuWords). w.works) None core.cpus.items k w h e i;
    }

-- a write of a row, and a write of the row that is there
pub table-cond : (core : Core) (k : ℕ) (w : CondWords) → k < (columns core).conds → columns (record core { conds = with_item core.conds k w }) ≡ with_cond (columns core) k w
unfolding columns
table-cond core k w h =
    λ i. record (columns core) {
      conds = length-set core.conds.items k w i;
      cond = column-set (λ (w : CondWords). w.cond) 0 core.conds.items k w h i;
      wait_lock = column-set (λ (w : CondWords). w.wait_lock) None core.conds.items k w h i;
      wait = column-set (λ (w : CondWords). w.wait) None core.conds.items k w h i;
    }

pub same-cond : (core : Core) (k : ℕ) (w : CondWords) → k < (columns core).conds → w ≡ get_or core.conds.items k w → with_cond (columns core) k w ≡ columns core
unfolding columns
same-cond core k w h e =
    λ i. record (columns core) {
      cond = column-put (λ (w : CondWords). w.cond) 0 core.conds.items k w h e i;
      wait_lock = column-put (λ (w : CondWords). w.wait_lock) None core.conds.items k w h e i;
      wait = column-put (λ (w : CondWords). w.wait) None core.conds.items k w h e i;
    }

-- a write of a row, and a write of the row that is there
pub table-seat : (core : Core) (k : ℕ) (w : SeatCore) → k < (columns core).seats → columns (record core { seats = with_item core.seats k w }) ≡ with_seat (columns core) k w
unfolding columns
table-seat core k w h =
    λ i. record (columns core) {
      seats = length-set core.seats.items k w i;
      mark = column-set mark_of false core.seats.items k w h i;
      done = column-set done_of false core.seats.items k w h i;
      refs = column-set refs_of 0 core.seats.items k w h i;
      current_task = column-set current_task_of None core.seats.items k w h i;
      task_held = column-set task_held_of (λ t. None) core.seats.items k w h i;
      queue_held = column-set queue_held_of (λ c. None) core.seats.items k w h i;
      list_held = column-set list_held_of (λ c. None) core.seats.items k w h i;
      works_held = column-set works_held_of (λ c. None) core.seats.items k w h i;
      wait_held = column-set wait_held_of (λ k. None) core.seats.items k w h i;
      body_held = column-set body_held_of None core.seats.items k w h i;
      task_to_clear = column-set task_to_clear_of None core.seats.items k w h i;
      seen_state = column-set seen_state_of None core.seats.items k w h i;
      level_known = column-set level_known_of None core.seats.items k w h i;
      has_matched = column-set has_matched_of (λ t. false) core.seats.items k w h i;
      is_unstored = column-set is_unstored_of (λ t. false) core.seats.items k w h i;
      saw_off = column-set saw_off_of (λ t. false) core.seats.items k w h i;
      is_claimed = column-set is_claimed_of (λ t. false) core.seats.items k w h i;
      saw_clear = column-set saw_clear_of (λ t. false) core.seats.items k w h i;
      has_stored = column-set has_stored_of (λ t. false) core.seats.items k w h i;
      saw_rest = column-set saw_rest_of (λ t. false) core.seats.items k w h i;
      saw_rest_off = column-set saw_rest_off_of (λ t. false) core.seats.items k w h i;
      saw_rest_idle = column-set saw_rest_idle_of (λ t. false) core.seats.items k w h i;
      has_slept = column-set has_slept_of (λ t. false) core.seats.items k w h i;
      is_requeued = column-set is_requeued_of (λ t. false) core.seats.items k w h i;
      saw_idle = column-set saw_idle_of (λ c t. false) core.seats.items k w h i;
      has_added = column-set has_added_of (λ c t. false) core.seats.items k w h i;
      has_dropped = column-set has_dropped_of (λ c t. false) core.seats.items k w h i;
      has_passed = column-set has_passed_of (λ k t. false) core.seats.items k w h i;
      has_own_stored = column-set has_own_stored_of (λ k t. false) core.seats.items k w h i;
      has_slept_in = column-set has_slept_in_of (λ k t. false) core.seats.items k w h i;
      owes_walk = column-set owes_walk_of (λ k. false) core.seats.items k w h i;
      has_retaken = column-set has_retaken_of (λ k. false) core.seats.items k w h i;
      tested = column-set tested_of (λ t k. None) core.seats.items k w h i;
      is_asleep = column-set is_asleep_of (λ t k. false) core.seats.items k w h i;
      last_reads = column-set last_reads_of (λ t. no_reads t) core.seats.items k w h i;
      hand = column-set hand_of [] core.seats.items k w h i;
      actives = column-set actives_of [] core.seats.items k w h i;
      counts = column-set counts_of [] core.seats.items k w h i;
      lowered = column-set lowered_of [] core.seats.items k w h i;
      given_up = column-set given_up_of [] core.seats.items k w h i;
      due = column-set due_of None core.seats.items k w h i;
      ticket = column-set ticket_of None core.seats.items k w h i;
      zeroed = column-set zeroed_of [] core.seats.items k w h i;
      joined = column-set joined_of [] core.seats.items k w h i;
      refs_zero = column-set refs_zero_of false core.seats.items k w h i;
      completing = column-set completing_of [] core.seats.items k w h i;
      posted = column-set posted_of [] core.seats.items k w h i;
      works_hand = column-set works_hand_of [] core.seats.items k w h i;
      phases = column-set phases_of [] core.seats.items k w h i;
      unmarked = column-set unmarked_of [] core.seats.items k w h i;
      alive = column-set alive_of [] core.seats.items k w h i;
      turns = column-set turns_of [] core.seats.items k w h i;
      served = column-set served_of unserved core.seats.items k w h i;
      journal = column-set journal_of [] core.seats.items k w h i;
    }

pub same-seat : (core : Core) (k : ℕ) (w : SeatCore) → k < (columns core).seats → w ≡ get_or core.seats.items k w → with_seat (columns core) k w ≡ columns core
unfolding columns
same-seat core k w h e =
    λ i. record (columns core) {
      mark = column-put mark_of false core.seats.items k w h e i;
      done = column-put done_of false core.seats.items k w h e i;
      refs = column-put refs_of 0 core.seats.items k w h e i;
      current_task = column-put current_task_of None core.seats.items k w h e i;
      task_held = column-put task_held_of (λ t. None) core.seats.items k w h e i;
      queue_held = column-put queue_held_of (λ c. None) core.seats.items k w h e i;
      list_held = column-put list_held_of (λ c. None) core.seats.items k w h e i;
      works_held = column-put works_held_of (λ c. None) core.seats.items k w h e i;
      wait_held = column-put wait_held_of (λ k. None) core.seats.items k w h e i;
      body_held = column-put body_held_of None core.seats.items k w h e i;
      task_to_clear = column-put task_to_clear_of None core.seats.items k w h e i;
      seen_state = column-put seen_state_of None core.seats.items k w h e i;
      level_known = column-put level_known_of None core.seats.items k w h e i;
      has_matched = column-put has_matched_of (λ t. false) core.seats.items k w h e i;
      is_unstored = column-put is_unstored_of (λ t. false) core.seats.items k w h e i;
      saw_off = column-put saw_off_of (λ t. false) core.seats.items k w h e i;
      is_claimed = column-put is_claimed_of (λ t. false) core.seats.items k w h e i;
      saw_clear = column-put saw_clear_of (λ t. false) core.seats.items k w h e i;
      has_stored = column-put has_stored_of (λ t. false) core.seats.items k w h e i;
      saw_rest = column-put saw_rest_of (λ t. false) core.seats.items k w h e i;
      saw_rest_off = column-put saw_rest_off_of (λ t. false) core.seats.items k w h e i;
      saw_rest_idle = column-put saw_rest_idle_of (λ t. false) core.seats.items k w h e i;
      has_slept = column-put has_slept_of (λ t. false) core.seats.items k w h e i;
      is_requeued = column-put is_requeued_of (λ t. false) core.seats.items k w h e i;
      saw_idle = column-put saw_idle_of (λ c t. false) core.seats.items k w h e i;
      has_added = column-put has_added_of (λ c t. false) core.seats.items k w h e i;
      has_dropped = column-put has_dropped_of (λ c t. false) core.seats.items k w h e i;
      has_passed = column-put has_passed_of (λ k t. false) core.seats.items k w h e i;
      has_own_stored = column-put has_own_stored_of (λ k t. false) core.seats.items k w h e i;
      has_slept_in = column-put has_slept_in_of (λ k t. false) core.seats.items k w h e i;
      owes_walk = column-put owes_walk_of (λ k. false) core.seats.items k w h e i;
      has_retaken = column-put has_retaken_of (λ k. false) core.seats.items k w h e i;
      tested = column-put tested_of (λ t k. None) core.seats.items k w h e i;
      is_asleep = column-put is_asleep_of (λ t k. false) core.seats.items k w h e i;
      last_reads = column-put last_reads_of (λ t. no_reads t) core.seats.items k w h e i;
      hand = column-put hand_of [] core.seats.items k w h e i;
      actives = column-put actives_of [] core.seats.items k w h e i;
      counts = column-put counts_of [] core.seats.items k w h e i;
      lowered = column-put lowered_of [] core.seats.items k w h e i;
      given_up = column-put given_up_of [] core.seats.items k w h e i;
      due = column-put due_of None core.seats.items k w h e i;
      ticket = column-put ticket_of None core.seats.items k w h e i;
      zeroed = column-put zeroed_of [] core.seats.items k w h e i;
      joined = column-put joined_of [] core.seats.items k w h e i;
      refs_zero = column-put refs_zero_of false core.seats.items k w h e i;
      completing = column-put completing_of [] core.seats.items k w h e i;
      posted = column-put posted_of [] core.seats.items k w h e i;
      works_hand = column-put works_hand_of [] core.seats.items k w h e i;
      phases = column-put phases_of [] core.seats.items k w h e i;
      unmarked = column-put unmarked_of [] core.seats.items k w h e i;
      alive = column-put alive_of [] core.seats.items k w h e i;
      turns = column-put turns_of [] core.seats.items k w h e i;
      served = column-put served_of unserved core.seats.items k w h e i;
      journal = column-put journal_of [] core.seats.items k w h e i;
    }

-- the words of a task
pub words-task : (core : Core) (t : ℕ) (w : TaskWords) → t < (columns core).tasks → w ≡ get_or core.tasks.items t w → w ≡ task_words_of (columns core) t
unfolding columns
words-task core t w h e =
    λ i. record {
      state = sym (column-get (λ (w : TaskWords). w.state) (record { 0 = 0 }) core.tasks.items t w h e) i;
      on_rq = sym (column-get (λ (w : TaskWords). w.on_rq) 0 core.tasks.items t w h e) i;
      changes = sym (column-get (λ (w : TaskWords). w.changes) 0 core.tasks.items t w h e) i;
      on_cpu = sym (column-get (λ (w : TaskWords). w.on_cpu) false core.tasks.items t w h e) i;
      runs = sym (column-get (λ (w : TaskWords). w.runs) 0 core.tasks.items t w h e) i;
      cpu = sym (column-get (λ (w : TaskWords). w.cpu) 0 core.tasks.items t w h e) i;
      count = sym (column-get (λ (w : TaskWords). w.count) 0 core.tasks.items t w h e) i;
      lock = sym (column-get (λ (w : TaskWords). w.lock) None core.tasks.items t w h e) i;
      val = sym (column-get (λ (w : TaskWords). w.val) None core.tasks.items t w h e) i;
      body = sym (column-get (λ (w : TaskWords). w.body) false core.tasks.items t w h e) i;
      ended = sym (column-get (λ (w : TaskWords). w.ended) false core.tasks.items t w h e) i;
    }

pub get-queue_lock : (core : Core) (k : ℕ) (w : CpuWords) → k < (columns core).cpus → w ≡ get_or core.cpus.items k w → (columns core).queue_lock k ≡ w.queue_lock
unfolding columns
get-queue_lock core k w h e = column-get (λ (w : CpuWords). w.queue_lock) None core.cpus.items k w h e

pub get-queue : (core : Core) (k : ℕ) (w : CpuWords) → k < (columns core).cpus → w ≡ get_or core.cpus.items k w → (columns core).queue k ≡ w.queue
unfolding columns
get-queue core k w h e = column-get (λ (w : CpuWords). w.queue) None core.cpus.items k w h e

pub get-works_lock : (core : Core) (k : ℕ) (w : CpuWords) → k < (columns core).cpus → w ≡ get_or core.cpus.items k w → (columns core).works_lock k ≡ w.works_lock
unfolding columns
get-works_lock core k w h e = column-get (λ (w : CpuWords). w.works_lock) None core.cpus.items k w h e

pub get-works : (core : Core) (k : ℕ) (w : CpuWords) → k < (columns core).cpus → w ≡ get_or core.cpus.items k w → (columns core).works k ≡ w.works
unfolding columns
get-works core k w h e = column-get (λ (w : CpuWords). w.works) None core.cpus.items k w h e

pub get-cond : (core : Core) (k : ℕ) (w : CondWords) → k < (columns core).conds → w ≡ get_or core.conds.items k w → (columns core).cond k ≡ w.cond
unfolding columns
get-cond core k w h e = column-get (λ (w : CondWords). w.cond) 0 core.conds.items k w h e

pub get-wait_lock : (core : Core) (k : ℕ) (w : CondWords) → k < (columns core).conds → w ≡ get_or core.conds.items k w → (columns core).wait_lock k ≡ w.wait_lock
unfolding columns
get-wait_lock core k w h e = column-get (λ (w : CondWords). w.wait_lock) None core.conds.items k w h e

pub get-wait : (core : Core) (k : ℕ) (w : CondWords) → k < (columns core).conds → w ≡ get_or core.conds.items k w → (columns core).wait k ≡ w.wait
unfolding columns
get-wait core k w h e = column-get (λ (w : CondWords). w.wait) None core.conds.items k w h e

pub get-current : (core : Core) (k : ℕ) (w : SeatCore) → k < (columns core).seats → w ≡ get_or core.seats.items k w → (columns core).current_task k ≡ current_task_of w
unfolding columns
get-current core k w h e = column-get current_task_of None core.seats.items k w h e

pub get-task_out : (core : Core) (k : ℕ) (w : SeatCore) → k < (columns core).seats → w ≡ get_or core.seats.items k w → (columns core).task_held k ≡ task_held_of w
unfolding columns
get-task_out core k w h e = column-get task_held_of (λ t. None) core.seats.items k w h e

pub get-queue_out : (core : Core) (k : ℕ) (w : SeatCore) → k < (columns core).seats → w ≡ get_or core.seats.items k w → (columns core).queue_held k ≡ queue_held_of w
unfolding columns
get-queue_out core k w h e = column-get queue_held_of (λ c. None) core.seats.items k w h e

pub get-works_out : (core : Core) (k : ℕ) (w : SeatCore) → k < (columns core).seats → w ≡ get_or core.seats.items k w → (columns core).works_held k ≡ works_held_of w
unfolding columns
get-works_out core k w h e = column-get works_held_of (λ c. None) core.seats.items k w h e

pub get-wait_out : (core : Core) (k : ℕ) (w : SeatCore) → k < (columns core).seats → w ≡ get_or core.seats.items k w → (columns core).wait_held k ≡ wait_held_of w
unfolding columns
get-wait_out core k w h e = column-get wait_held_of (λ k. None) core.seats.items k w h e

pub get-body_out : (core : Core) (k : ℕ) (w : SeatCore) → k < (columns core).seats → w ≡ get_or core.seats.items k w → (columns core).body_held k ≡ body_held_of w
unfolding columns
get-body_out core k w h e = column-get body_held_of None core.seats.items k w h e

pub get-to_clear : (core : Core) (k : ℕ) (w : SeatCore) → k < (columns core).seats → w ≡ get_or core.seats.items k w → (columns core).task_to_clear k ≡ task_to_clear_of w
unfolding columns
get-to_clear core k w h e = column-get task_to_clear_of None core.seats.items k w h e

pub get-seen : (core : Core) (k : ℕ) (w : SeatCore) → k < (columns core).seats → w ≡ get_or core.seats.items k w → (columns core).seen_state k ≡ seen_state_of w
unfolding columns
get-seen core k w h e = column-get seen_state_of None core.seats.items k w h e

pub get-level_known : (core : Core) (k : ℕ) (w : SeatCore) → k < (columns core).seats → w ≡ get_or core.seats.items k w → (columns core).level_known k ≡ level_known_of w
unfolding columns
get-level_known core k w h e = column-get level_known_of None core.seats.items k w h e

pub get-reads : (core : Core) (k : ℕ) (w : SeatCore) → k < (columns core).seats → w ≡ get_or core.seats.items k w → (columns core).last_reads k ≡ last_reads_of w
unfolding columns
get-reads core k w h e = column-get last_reads_of (λ t. no_reads t) core.seats.items k w h e

pub get-test : (core : Core) (k : ℕ) (w : SeatCore) → k < (columns core).seats → w ≡ get_or core.seats.items k w → (columns core).tested k ≡ tested_of w
unfolding columns
get-test core k w h e = column-get tested_of (λ t k. None) core.seats.items k w h e

pub get-asleep : (core : Core) (k : ℕ) (w : SeatCore) → k < (columns core).seats → w ≡ get_or core.seats.items k w → (columns core).is_asleep k ≡ is_asleep_of w
unfolding columns
get-asleep core k w h e = column-get is_asleep_of (λ t k. false) core.seats.items k w h e

pub get-journal : (core : Core) (k : ℕ) (w : SeatCore) → k < (columns core).seats → w ≡ get_or core.seats.items k w → (columns core).journal k ≡ journal_of w
unfolding columns
get-journal core k w h e = column-get journal_of [] core.seats.items k w h e

pub get-matched : (core : Core) (k : ℕ) (w : SeatCore) → k < (columns core).seats → w ≡ get_or core.seats.items k w → (columns core).has_matched k ≡ has_matched_of w
unfolding columns
get-matched core k w h e = column-get has_matched_of (λ t. false) core.seats.items k w h e

pub get-unstored : (core : Core) (k : ℕ) (w : SeatCore) → k < (columns core).seats → w ≡ get_or core.seats.items k w → (columns core).is_unstored k ≡ is_unstored_of w
unfolding columns
get-unstored core k w h e = column-get is_unstored_of (λ t. false) core.seats.items k w h e

pub get-saw_off : (core : Core) (k : ℕ) (w : SeatCore) → k < (columns core).seats → w ≡ get_or core.seats.items k w → (columns core).saw_off k ≡ saw_off_of w
unfolding columns
get-saw_off core k w h e = column-get saw_off_of (λ t. false) core.seats.items k w h e

pub get-claimed : (core : Core) (k : ℕ) (w : SeatCore) → k < (columns core).seats → w ≡ get_or core.seats.items k w → (columns core).is_claimed k ≡ is_claimed_of w
unfolding columns
get-claimed core k w h e = column-get is_claimed_of (λ t. false) core.seats.items k w h e

pub get-clear : (core : Core) (k : ℕ) (w : SeatCore) → k < (columns core).seats → w ≡ get_or core.seats.items k w → (columns core).saw_clear k ≡ saw_clear_of w
unfolding columns
get-clear core k w h e = column-get saw_clear_of (λ t. false) core.seats.items k w h e

pub get-stored : (core : Core) (k : ℕ) (w : SeatCore) → k < (columns core).seats → w ≡ get_or core.seats.items k w → (columns core).has_stored k ≡ has_stored_of w
unfolding columns
get-stored core k w h e = column-get has_stored_of (λ t. false) core.seats.items k w h e

pub get-rest_state : (core : Core) (k : ℕ) (w : SeatCore) → k < (columns core).seats → w ≡ get_or core.seats.items k w → (columns core).saw_rest k ≡ saw_rest_of w
unfolding columns
get-rest_state core k w h e = column-get saw_rest_of (λ t. false) core.seats.items k w h e

pub get-rest_off : (core : Core) (k : ℕ) (w : SeatCore) → k < (columns core).seats → w ≡ get_or core.seats.items k w → (columns core).saw_rest_off k ≡ saw_rest_off_of w
unfolding columns
get-rest_off core k w h e = column-get saw_rest_off_of (λ t. false) core.seats.items k w h e

pub get-rest_idle : (core : Core) (k : ℕ) (w : SeatCore) → k < (columns core).seats → w ≡ get_or core.seats.items k w → (columns core).saw_rest_idle k ≡ saw_rest_idle_of w
unfolding columns
get-rest_idle core k w h e = column-get saw_rest_idle_of (λ t. false) core.seats.items k w h e

pub get-slept : (core : Core) (k : ℕ) (w : SeatCore) → k < (columns core).seats → w ≡ get_or core.seats.items k w → (columns core).has_slept k ≡ has_slept_of w
unfolding columns
get-slept core k w h e = column-get has_slept_of (λ t. false) core.seats.items k w h e

pub get-requeued : (core : Core) (k : ℕ) (w : SeatCore) → k < (columns core).seats → w ≡ get_or core.seats.items k w → (columns core).is_requeued k ≡ is_requeued_of w
unfolding columns
get-requeued core k w h e = column-get is_requeued_of (λ t. false) core.seats.items k w h e

pub get-idle : (core : Core) (k : ℕ) (w : SeatCore) → k < (columns core).seats → w ≡ get_or core.seats.items k w → (columns core).saw_idle k ≡ saw_idle_of w
unfolding columns
get-idle core k w h e = column-get saw_idle_of (λ c t. false) core.seats.items k w h e

pub get-added : (core : Core) (k : ℕ) (w : SeatCore) → k < (columns core).seats → w ≡ get_or core.seats.items k w → (columns core).has_added k ≡ has_added_of w
unfolding columns
get-added core k w h e = column-get has_added_of (λ c t. false) core.seats.items k w h e

pub get-dropped : (core : Core) (k : ℕ) (w : SeatCore) → k < (columns core).seats → w ≡ get_or core.seats.items k w → (columns core).has_dropped k ≡ has_dropped_of w
unfolding columns
get-dropped core k w h e = column-get has_dropped_of (λ c t. false) core.seats.items k w h e

pub get-passed : (core : Core) (k : ℕ) (w : SeatCore) → k < (columns core).seats → w ≡ get_or core.seats.items k w → (columns core).has_passed k ≡ has_passed_of w
unfolding columns
get-passed core k w h e = column-get has_passed_of (λ k t. false) core.seats.items k w h e

pub get-own_stored : (core : Core) (k : ℕ) (w : SeatCore) → k < (columns core).seats → w ≡ get_or core.seats.items k w → (columns core).has_own_stored k ≡ has_own_stored_of w
unfolding columns
get-own_stored core k w h e = column-get has_own_stored_of (λ k t. false) core.seats.items k w h e

pub get-slept_in : (core : Core) (k : ℕ) (w : SeatCore) → k < (columns core).seats → w ≡ get_or core.seats.items k w → (columns core).has_slept_in k ≡ has_slept_in_of w
unfolding columns
get-slept_in core k w h e = column-get has_slept_in_of (λ k t. false) core.seats.items k w h e

pub get-owes : (core : Core) (k : ℕ) (w : SeatCore) → k < (columns core).seats → w ≡ get_or core.seats.items k w → (columns core).owes_walk k ≡ owes_walk_of w
unfolding columns
get-owes core k w h e = column-get owes_walk_of (λ k. false) core.seats.items k w h e

pub get-retaken : (core : Core) (k : ℕ) (w : SeatCore) → k < (columns core).seats → w ≡ get_or core.seats.items k w → (columns core).has_retaken k ≡ has_retaken_of w
unfolding columns
get-retaken core k w h e = column-get has_retaken_of (λ k. false) core.seats.items k w h e
