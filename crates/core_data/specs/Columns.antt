-- The core as a table: for each word, lock value, journal and fact of a position its value at each number.
use Rattle.std.specs.Prelude.{ℕ, zero, suc, ◌==◌, ◌&&◌, Bool, true, false, List, [], ◌∷◌, Option, Some, None, length}
use Rattle.std.specs.Prelude.{if◌then◌else◌}
use Rattle.handoff_data.specs.declared.entry.Entry.{Entry}
use Rattle.handoff_data.specs.declared.shape.Shape.{Shape}
use Rattle.handoff_data.specs.declared.state.State.{State}
use Rattle.core_data.specs.Acts.{since}
use Rattle.core_data.specs.Found.{found, no_reads}
use Rattle.core_data.specs.Queue.{Queue}
use Rattle.core_data.specs.declared.act.Act.TheVariants.{TookTask, Renewed, Matched, SawOff, Claimed, SawClear, SawRest}
use Rattle.core_data.specs.declared.act.Act.TheVariants.{SawRestOff, SawRestIdle, StoredWord, TookQueue, Queued}
use Rattle.core_data.specs.declared.act.Act.TheVariants.{Dequeued, Picked, TookWait, OwnStored, Slept, Passed, Bumped}
use Rattle.core_data.specs.declared.act.Act.TheVariants.{Walked}
use Rattle.core_data.specs.declared.machine.Core.{Core}
use Rattle.core_data.specs.declared.held.HeldTask.{HeldTask}
use Rattle.core_data.specs.declared.held.HeldQueue.{HeldQueue}
use Rattle.core_data.specs.declared.held.HeldList.{HeldList}
use Rattle.core_data.specs.declared.held.HeldWorks.{HeldWorks}
use Rattle.core_data.specs.declared.held.HeldWait.{HeldWait}
use Rattle.core_data.specs.declared.seat.SeatCore.{SeatCore}
use Rattle.core_data.specs.declared.values.TaskVal.{TaskVal}
use Rattle.core_data.specs.declared.values.WaitEntry.{WaitEntry}
use Rattle.core_data.specs.declared.values.WorkItem.{WorkItem}
use Rattle.core_data.specs.declared.words.TaskWords.{TaskWords}
use Rattle.core_data.specs.declared.words.CpuWords.{CpuWords}
use Rattle.core_data.specs.declared.words.CondWords.{CondWords}
use Rattle.core_data.specs.declared.words.Phase.{Phase}
use Rattle.core_data.specs.declared.words.Phase.TheVariants.{Live}
use Rattle.core_data.specs.declared.pos.TaskReads.{TaskReads}
use Rattle.core_data.specs.declared.pos.Test.{Test}
use Rattle.core_data.specs.declared.pos.Asleep.{Asleep}
use Rattle.core_data.specs.declared.pos.ActiveRead.{ActiveRead}
use Rattle.core_data.specs.declared.pos.CountRead.{CountRead}
use Rattle.core_data.specs.declared.pos.Due.{Due}
use Rattle.core_data.specs.declared.pos.Ticket.{Ticket}
use Rattle.core_data.specs.declared.pos.Completing.{Completing}
use Rattle.core_data.specs.declared.pos.PhaseRead.{PhaseRead}
use Rattle.core_data.specs.declared.pos.MarkRead.{MarkRead}
use Rattle.core_data.specs.declared.pos.PhaseTurns.{PhaseTurns}
use Rattle.core_data.specs.declared.pos.Served.{Served}

pub record Columns : Type 0 where
  pub shape : Shape
  pub tasks : ℕ
  pub cpus : ℕ
  pub conds : ℕ
  pub seats : ℕ
  -- per task
  pub state : ℕ → State
  pub on_rq : ℕ → ℕ
  pub changes : ℕ → ℕ
  pub on_cpu : ℕ → Bool
  pub runs : ℕ → ℕ
  pub cpu : ℕ → ℕ
  pub count : ℕ → ℕ
  pub lock : ℕ → Option ℕ
  pub val : ℕ → Option TaskVal
  pub body : ℕ → Bool
  pub ended : ℕ → Bool
  -- per processor
  pub hint : ℕ → ℕ
  pub pinned : ℕ → ℕ
  pub phase : ℕ → Phase
  pub active : ℕ → Bool
  pub epoch : ℕ → ℕ
  pub queue_lock : ℕ → Option ℕ
  pub queue : ℕ → Option Queue
  pub list_lock : ℕ → Option ℕ
  pub list : ℕ → Option (List ℕ)
  pub works_lock : ℕ → Option ℕ
  pub works : ℕ → Option (List WorkItem)
  -- per condition
  pub cond : ℕ → ℕ
  pub wait_lock : ℕ → Option ℕ
  pub wait : ℕ → Option (List WaitEntry)
  -- per seat
  pub mark : ℕ → Bool
  pub done : ℕ → Bool
  pub refs : ℕ → ℕ
  pub current_task : ℕ → Option ℕ
  -- the values of the locks that it holds, as they were taken
  pub task_held : ℕ → ℕ → Option TaskVal
  pub queue_held : ℕ → ℕ → Option Queue
  pub list_held : ℕ → ℕ → Option (List ℕ)
  pub works_held : ℕ → ℕ → Option (List WorkItem)
  pub wait_held : ℕ → ℕ → Option (List WaitEntry)
  pub body_held : ℕ → Option ℕ
  pub task_to_clear : ℕ → Option ℕ
  pub seen_state : ℕ → Option State
  -- the level of its current task, as it was last read since the pick
  pub level_known : ℕ → Option ℕ
  -- a state of t that matches was read since its lock was taken
  pub has_matched : ℕ → ℕ → Bool
  -- .. and no word of t was stored since that read
  pub is_unstored : ℕ → ℕ → Bool
  -- .. and then `on_rq` was read as 0
  pub saw_off : ℕ → ℕ → Bool
  -- TASK_WAKING was stored, and t not queued since
  pub is_claimed : ℕ → ℕ → Bool
  -- the busy word was read as clear since TASK_WAKING was stored
  pub saw_clear : ℕ → ℕ → Bool
  -- a word of t was stored since its lock was taken
  pub has_stored : ℕ → ℕ → Bool
  -- a state that isn't TASK_WAKING was read, with no word of t stored since
  pub saw_rest : ℕ → ℕ → Bool
  -- .. and then `on_rq` was read as 0
  pub saw_rest_off : ℕ → ℕ → Bool
  -- .. and then the busy word was read as clear
  pub saw_rest_idle : ℕ → ℕ → Bool
  -- t stored a sleep state since it was picked
  pub has_slept : ℕ → ℕ → Bool
  -- the last of queueing t and taking it off a queue was queueing
  pub is_requeued : ℕ → ℕ → Bool
  -- the busy word of t was read as clear since the lock of queue c was taken
  pub saw_idle : ℕ → ℕ → ℕ → Bool
  -- t was queued since then
  pub has_added : ℕ → ℕ → ℕ → Bool
  -- t was taken off a queue since then
  pub has_dropped : ℕ → ℕ → ℕ → Bool
  -- t was passed since the lock of wait queue k was taken
  pub has_passed : ℕ → ℕ → ℕ → Bool
  -- t stored its state since then, as the current task
  pub has_own_stored : ℕ → ℕ → ℕ → Bool
  -- t stored a sleep state since then, as the current task
  pub has_slept_in : ℕ → ℕ → ℕ → Bool
  -- k was bumped, and its wait queue not walked since
  pub owes_walk : ℕ → ℕ → Bool
  -- the lock of wait queue k was taken since the last bump
  pub has_retaken : ℕ → ℕ → Bool
  -- what t tested at k
  pub tested : ℕ → ℕ → ℕ → Option ℕ
  -- whether t was put to sleep at k
  pub is_asleep : ℕ → ℕ → ℕ → Bool
  -- the last reads of t in their order
  pub last_reads : ℕ → ℕ → TaskReads
  pub hand : ℕ → List ℕ
  pub actives : ℕ → List ActiveRead
  pub counts : ℕ → List CountRead
  pub lowered : ℕ → List ℕ
  pub given_up : ℕ → List ℕ
  pub due : ℕ → Option Due
  pub ticket : ℕ → Option Ticket
  pub zeroed : ℕ → List ℕ
  pub joined : ℕ → List ℕ
  pub refs_zero : ℕ → Bool
  pub completing : ℕ → List Completing
  pub posted : ℕ → List ℕ
  pub works_hand : ℕ → List WorkItem
  pub phases : ℕ → List PhaseRead
  pub unmarked : ℕ → List MarkRead
  pub alive : ℕ → List ℕ
  pub turns : ℕ → List PhaseTurns
  pub served : ℕ → Served
  pub journal : ℕ → List Entry

-- f with the value v at k
abbrev pub put : {A : Type 0} → (ℕ → A) → ℕ → A → ℕ → A
put f k v j = if j == k then v else f j

-- f with the value v at k and l
abbrev pub put_at : {A : Type 0} → (ℕ → ℕ → A) → ℕ → ℕ → A → ℕ → ℕ → A
put_at f k l v = put f k (put (f k) l v)

-- what f reads of each element of a list, and d past its end
abbrev pub column : {A B : Type 0} → (A → B) → B → List A → ℕ → B
column f d [] k = d
column f d (x ∷ xs) zero = f x
column f d (x ∷ xs) (suc k) = column f d xs k

abbrev pub unserved : Served
unserved = record { swept = false; list_empty = false; queue_empty = false; pinned_zero = false; works_empty = false }

-- what a seat's row has of each column
abbrev pub mark_of : SeatCore → Bool
mark_of w = w.mark

abbrev pub done_of : SeatCore → Bool
done_of w = w.done

abbrev pub refs_of : SeatCore → ℕ
refs_of w = w.refs

abbrev pub current_task_of : SeatCore → Option ℕ
current_task_of w = w.current

abbrev pub task_held_of : SeatCore → ℕ → Option TaskVal
task_held_of w = λ t. found (λ (h : HeldTask). t == h.t) (λ h. Some h.val) None w.held.tasks

abbrev pub queue_held_of : SeatCore → ℕ → Option Queue
queue_held_of w = λ c. found (λ (h : HeldQueue). c == h.c) (λ h. Some h.val) None w.held.queues

abbrev pub list_held_of : SeatCore → ℕ → Option (List ℕ)
list_held_of w = λ c. found (λ (h : HeldList). c == h.c) (λ h. Some h.val) None w.held.lists

abbrev pub works_held_of : SeatCore → ℕ → Option (List WorkItem)
works_held_of w = λ c. found (λ (h : HeldWorks). c == h.c) (λ h. Some h.val) None w.held.works

abbrev pub wait_held_of : SeatCore → ℕ → Option (List WaitEntry)
wait_held_of w = λ k. found (λ (h : HeldWait). k == h.k) (λ h. Some h.val) None w.held.waits

abbrev pub body_held_of : SeatCore → Option ℕ
body_held_of w = w.held.body

abbrev pub task_to_clear_of : SeatCore → Option ℕ
task_to_clear_of w = w.pos.to_clear

abbrev pub seen_state_of : SeatCore → Option State
seen_state_of w = w.pos.seen

abbrev pub level_known_of : SeatCore → Option ℕ
level_known_of w = w.pos.level_known

abbrev pub has_matched_of : SeatCore → ℕ → Bool
has_matched_of w = λ t. since (Matched t) (TookTask t) w.pos.recent

abbrev pub is_unstored_of : SeatCore → ℕ → Bool
is_unstored_of w = λ t. since (Matched t) (Renewed t) w.pos.recent

abbrev pub saw_off_of : SeatCore → ℕ → Bool
saw_off_of w = λ t. since (SawOff t) (Renewed t) w.pos.recent

abbrev pub is_claimed_of : SeatCore → ℕ → Bool
is_claimed_of w = λ t. since (Claimed t) (Queued t) w.pos.recent

abbrev pub saw_clear_of : SeatCore → ℕ → Bool
saw_clear_of w = λ t. since (SawClear t) (Claimed t) w.pos.recent

abbrev pub has_stored_of : SeatCore → ℕ → Bool
has_stored_of w = λ t. since (StoredWord t) (TookTask t) w.pos.recent

abbrev pub saw_rest_of : SeatCore → ℕ → Bool
saw_rest_of w = λ t. since (SawRest t) (Renewed t) w.pos.recent

abbrev pub saw_rest_off_of : SeatCore → ℕ → Bool
saw_rest_off_of w = λ t. since (SawRestOff t) (Renewed t) w.pos.recent

abbrev pub saw_rest_idle_of : SeatCore → ℕ → Bool
saw_rest_idle_of w = λ t. since (SawRestIdle t) (Renewed t) w.pos.recent

abbrev pub has_slept_of : SeatCore → ℕ → Bool
has_slept_of w = λ t. since (Slept t) (Picked t) w.pos.recent

abbrev pub is_requeued_of : SeatCore → ℕ → Bool
is_requeued_of w = λ t. since (Queued t) (Dequeued t) w.pos.recent

abbrev pub saw_idle_of : SeatCore → ℕ → ℕ → Bool
saw_idle_of w = λ c t. since (SawClear t) (TookQueue c) w.pos.recent

abbrev pub has_added_of : SeatCore → ℕ → ℕ → Bool
has_added_of w = λ c t. since (Queued t) (TookQueue c) w.pos.recent

abbrev pub has_dropped_of : SeatCore → ℕ → ℕ → Bool
has_dropped_of w = λ c t. since (Dequeued t) (TookQueue c) w.pos.recent

abbrev pub has_passed_of : SeatCore → ℕ → ℕ → Bool
has_passed_of w = λ k t. since (Passed t) (TookWait k) w.pos.recent

abbrev pub has_own_stored_of : SeatCore → ℕ → ℕ → Bool
has_own_stored_of w = λ k t. since (OwnStored t) (TookWait k) w.pos.recent

abbrev pub has_slept_in_of : SeatCore → ℕ → ℕ → Bool
has_slept_in_of w = λ k t. since (Slept t) (TookWait k) w.pos.recent

abbrev pub owes_walk_of : SeatCore → ℕ → Bool
owes_walk_of w = λ k. since (Bumped k) (Walked k) w.pos.recent

abbrev pub has_retaken_of : SeatCore → ℕ → Bool
has_retaken_of w = λ k. since (TookWait k) (Bumped k) w.pos.recent

abbrev pub tested_of : SeatCore → ℕ → ℕ → Option ℕ
tested_of w = λ t k. found (λ (x : Test). (t == x.t) && (k == x.k)) (λ x. Some x.v) None w.pos.tests

abbrev pub is_asleep_of : SeatCore → ℕ → ℕ → Bool
is_asleep_of w = λ t k. found (λ (x : Asleep). (t == x.t) && (k == x.k)) (λ x. true) false w.pos.asleep

abbrev pub last_reads_of : SeatCore → ℕ → TaskReads
last_reads_of w = λ t. found (λ (x : TaskReads). t == x.t) (λ x. x) (no_reads t) w.pos.reads

abbrev pub hand_of : SeatCore → List ℕ
hand_of w = w.pos.hand

abbrev pub actives_of : SeatCore → List ActiveRead
actives_of w = w.pos.actives

abbrev pub counts_of : SeatCore → List CountRead
counts_of w = w.pos.counts

abbrev pub lowered_of : SeatCore → List ℕ
lowered_of w = w.pos.lowered

abbrev pub given_up_of : SeatCore → List ℕ
given_up_of w = w.pos.given_up

abbrev pub due_of : SeatCore → Option Due
due_of w = w.pos.due

abbrev pub ticket_of : SeatCore → Option Ticket
ticket_of w = w.pos.ticket

abbrev pub zeroed_of : SeatCore → List ℕ
zeroed_of w = w.pos.zeroed

abbrev pub joined_of : SeatCore → List ℕ
joined_of w = w.pos.joined

abbrev pub refs_zero_of : SeatCore → Bool
refs_zero_of w = w.pos.refs_zero

abbrev pub completing_of : SeatCore → List Completing
completing_of w = w.pos.completing

abbrev pub posted_of : SeatCore → List ℕ
posted_of w = w.pos.posted

abbrev pub works_hand_of : SeatCore → List WorkItem
works_hand_of w = w.pos.works_hand

abbrev pub phases_of : SeatCore → List PhaseRead
phases_of w = w.pos.phases

abbrev pub unmarked_of : SeatCore → List MarkRead
unmarked_of w = w.pos.unmarked

abbrev pub alive_of : SeatCore → List ℕ
alive_of w = w.pos.alive

abbrev pub turns_of : SeatCore → List PhaseTurns
turns_of w = w.pos.turns

abbrev pub served_of : SeatCore → Served
served_of w = w.pos.served

abbrev pub journal_of : SeatCore → List Entry
journal_of w = w.journal

-- the table of these rows
abbrev pub columns_of : Shape → List TaskWords → List CpuWords → List CondWords → List SeatCore → Columns
columns_of shape tasks cpus conds seats =
    record {
      shape = shape;
      tasks = length tasks;
      cpus = length cpus;
      conds = length conds;
      seats = length seats;
      state = column (λ (w : TaskWords). w.state) (record { 0 = 0 }) tasks;
      on_rq = column (λ (w : TaskWords). w.on_rq) 0 tasks;
      changes = column (λ (w : TaskWords). w.changes) 0 tasks;
      on_cpu = column (λ (w : TaskWords). w.on_cpu) false tasks;
      runs = column (λ (w : TaskWords). w.runs) 0 tasks;
      cpu = column (λ (w : TaskWords). w.cpu) 0 tasks;
      count = column (λ (w : TaskWords). w.count) 0 tasks;
      lock = column (λ (w : TaskWords). w.lock) None tasks;
      val = column (λ (w : TaskWords). w.val) None tasks;
      body = column (λ (w : TaskWords). w.body) false tasks;
      ended = column (λ (w : TaskWords). w.ended) false tasks;
      hint = column (λ (w : CpuWords). w.hint) 0 cpus;
      pinned = column (λ (w : CpuWords). w.pinned) 0 cpus;
      phase = column (λ (w : CpuWords). w.phase) Live cpus;
      active = column (λ (w : CpuWords). w.active) false cpus;
      epoch = column (λ (w : CpuWords). w.epoch) 0 cpus;
      queue_lock = column (λ (w : CpuWords). w.queue_lock) None cpus;
      queue = column (λ (w : CpuWords). w.queue) None cpus;
      list_lock = column (λ (w : CpuWords). w.list_lock) None cpus;
      list = column (λ (w : CpuWords). w.list) None cpus;
      works_lock = column (λ (w : CpuWords). w.works_lock) None cpus;
      works = column (λ (w : CpuWords). w.works) None cpus;
      cond = column (λ (w : CondWords). w.cond) 0 conds;
      wait_lock = column (λ (w : CondWords). w.wait_lock) None conds;
      wait = column (λ (w : CondWords). w.wait) None conds;
      mark = column mark_of false seats;
      done = column done_of false seats;
      refs = column refs_of 0 seats;
      current_task = column current_task_of None seats;
      task_held = column task_held_of (λ t. None) seats;
      queue_held = column queue_held_of (λ c. None) seats;
      list_held = column list_held_of (λ c. None) seats;
      works_held = column works_held_of (λ c. None) seats;
      wait_held = column wait_held_of (λ k. None) seats;
      body_held = column body_held_of None seats;
      task_to_clear = column task_to_clear_of None seats;
      seen_state = column seen_state_of None seats;
      level_known = column level_known_of None seats;
      has_matched = column has_matched_of (λ t. false) seats;
      is_unstored = column is_unstored_of (λ t. false) seats;
      saw_off = column saw_off_of (λ t. false) seats;
      is_claimed = column is_claimed_of (λ t. false) seats;
      saw_clear = column saw_clear_of (λ t. false) seats;
      has_stored = column has_stored_of (λ t. false) seats;
      saw_rest = column saw_rest_of (λ t. false) seats;
      saw_rest_off = column saw_rest_off_of (λ t. false) seats;
      saw_rest_idle = column saw_rest_idle_of (λ t. false) seats;
      has_slept = column has_slept_of (λ t. false) seats;
      is_requeued = column is_requeued_of (λ t. false) seats;
      saw_idle = column saw_idle_of (λ c t. false) seats;
      has_added = column has_added_of (λ c t. false) seats;
      has_dropped = column has_dropped_of (λ c t. false) seats;
      has_passed = column has_passed_of (λ k t. false) seats;
      has_own_stored = column has_own_stored_of (λ k t. false) seats;
      has_slept_in = column has_slept_in_of (λ k t. false) seats;
      owes_walk = column owes_walk_of (λ k. false) seats;
      has_retaken = column has_retaken_of (λ k. false) seats;
      tested = column tested_of (λ t k. None) seats;
      is_asleep = column is_asleep_of (λ t k. false) seats;
      last_reads = column last_reads_of (λ t. no_reads t) seats;
      hand = column hand_of [] seats;
      actives = column actives_of [] seats;
      counts = column counts_of [] seats;
      lowered = column lowered_of [] seats;
      given_up = column given_up_of [] seats;
      due = column due_of None seats;
      ticket = column ticket_of None seats;
      zeroed = column zeroed_of [] seats;
      joined = column joined_of [] seats;
      refs_zero = column refs_zero_of false seats;
      completing = column completing_of [] seats;
      posted = column posted_of [] seats;
      works_hand = column works_hand_of [] seats;
      phases = column phases_of [] seats;
      unmarked = column unmarked_of [] seats;
      alive = column alive_of [] seats;
      turns = column turns_of [] seats;
      served = column served_of unserved seats;
      journal = column journal_of [] seats;
    }

-- the table of a core
unfoldable pub columns : Core → Columns
columns core = columns_of core.shape core.tasks.items core.cpus.items core.conds.items core.seats.items
