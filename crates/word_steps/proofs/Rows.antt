-- A core is its rows: what the words and homes of each number show, and what each seat knows.
use Rattle.std.specs.Prelude.{ℕ, Bool, List, Option}
use Rattle.std.proofs.Common.{◌≡◌}
use Rattle.handoff_data.specs.declared.entry.Entry.{Entry}
use Rattle.handoff_data.specs.declared.shape.Shape.{Shape}
use Rattle.handoff_data.specs.declared.state.State.{State}
use Rattle.core_data.specs.Queue.{Queue}
use Rattle.core_data.specs.Columns.{Columns}
use Rattle.core_data.specs.declared.values.TaskVal.{TaskVal}
use Rattle.core_data.specs.declared.values.WaitEntry.{WaitEntry}
use Rattle.core_data.specs.declared.values.WorkItem.{WorkItem}
use Rattle.core_data.specs.declared.words.Phase.{Phase}
use Rattle.core_data.specs.declared.pos.TaskReads.{TaskReads}
use Rattle.core_data.specs.declared.pos.ActiveRead.{ActiveRead}
use Rattle.core_data.specs.declared.pos.CountRead.{CountRead}
use Rattle.core_data.specs.declared.pos.Due.{Due}
use Rattle.core_data.specs.declared.pos.Ticket.{Ticket}
use Rattle.core_data.specs.declared.pos.Completing.{Completing}
use Rattle.core_data.specs.declared.pos.PhaseRead.{PhaseRead}
use Rattle.core_data.specs.declared.pos.MarkRead.{MarkRead}
use Rattle.core_data.specs.declared.pos.PhaseTurns.{PhaseTurns}
use Rattle.core_data.specs.declared.pos.Served.{Served}

-- the sizes, and the words and homes of number n
pub record WordRow : Type 0 where
  pub shape : Shape
  pub tasks : ℕ
  pub cpus : ℕ
  pub conds : ℕ
  pub seats : ℕ
  pub state : State
  pub on_rq : ℕ
  pub changes : ℕ
  pub on_cpu : Bool
  pub runs : ℕ
  pub cpu : ℕ
  pub count : ℕ
  pub lock : Option ℕ
  pub val : Option TaskVal
  pub body : Bool
  pub ended : Bool
  pub hint : ℕ
  pub pinned : ℕ
  pub phase : Phase
  pub active : Bool
  pub epoch : ℕ
  pub queue_lock : Option ℕ
  pub queue : Option Queue
  pub list_lock : Option ℕ
  pub list : Option (List ℕ)
  pub works_lock : Option ℕ
  pub works : Option (List WorkItem)
  pub cond : ℕ
  pub wait_lock : Option ℕ
  pub wait : Option (List WaitEntry)
  pub mark : Bool
  pub done : Bool
  pub refs : ℕ

-- what a seat knows
pub record SeatRow : Type 0 where
  pub current_task : Option ℕ
  pub task_held : ℕ → Option TaskVal
  pub queue_held : ℕ → Option Queue
  pub list_held : ℕ → Option (List ℕ)
  pub works_held : ℕ → Option (List WorkItem)
  pub wait_held : ℕ → Option (List WaitEntry)
  pub body_held : Option ℕ
  pub task_to_clear : Option ℕ
  pub seen_state : Option State
  pub level_known : Option ℕ
  pub has_matched : ℕ → Bool
  pub is_unstored : ℕ → Bool
  pub saw_off : ℕ → Bool
  pub is_claimed : ℕ → Bool
  pub saw_clear : ℕ → Bool
  pub has_stored : ℕ → Bool
  pub saw_rest : ℕ → Bool
  pub saw_rest_off : ℕ → Bool
  pub saw_rest_idle : ℕ → Bool
  pub has_slept : ℕ → Bool
  pub is_requeued : ℕ → Bool
  pub saw_idle : ℕ → ℕ → Bool
  pub has_added : ℕ → ℕ → Bool
  pub has_dropped : ℕ → ℕ → Bool
  pub has_passed : ℕ → ℕ → Bool
  pub has_own_stored : ℕ → ℕ → Bool
  pub has_slept_in : ℕ → ℕ → Bool
  pub owes_walk : ℕ → Bool
  pub has_retaken : ℕ → Bool
  pub tested : ℕ → ℕ → Option ℕ
  pub is_asleep : ℕ → ℕ → Bool
  pub last_reads : ℕ → TaskReads
  pub hand : List ℕ
  pub actives : List ActiveRead
  pub counts : List CountRead
  pub lowered : List ℕ
  pub given_up : List ℕ
  pub due : Option Due
  pub ticket : Option Ticket
  pub zeroed : List ℕ
  pub joined : List ℕ
  pub refs_zero : Bool
  pub completing : List Completing
  pub posted : List ℕ
  pub works_hand : List WorkItem
  pub phases : List PhaseRead
  pub unmarked : List MarkRead
  pub alive : List ℕ
  pub turns : List PhaseTurns
  pub served : Served
  pub journal : List Entry

abbrev pub word_row : Columns → ℕ → WordRow
word_row core n =
    record {
      shape = core.shape;
      tasks = core.tasks;
      cpus = core.cpus;
      conds = core.conds;
      seats = core.seats;
      state = core.state n;
      on_rq = core.on_rq n;
      changes = core.changes n;
      on_cpu = core.on_cpu n;
      runs = core.runs n;
      cpu = core.cpu n;
      count = core.count n;
      lock = core.lock n;
      val = core.val n;
      body = core.body n;
      ended = core.ended n;
      hint = core.hint n;
      pinned = core.pinned n;
      phase = core.phase n;
      active = core.active n;
      epoch = core.epoch n;
      queue_lock = core.queue_lock n;
      queue = core.queue n;
      list_lock = core.list_lock n;
      list = core.list n;
      works_lock = core.works_lock n;
      works = core.works n;
      cond = core.cond n;
      wait_lock = core.wait_lock n;
      wait = core.wait n;
      mark = core.mark n;
      done = core.done n;
      refs = core.refs n;
    }

abbrev pub seat_row : Columns → ℕ → SeatRow
seat_row core s =
    record {
      current_task = core.current_task s;
      task_held = core.task_held s;
      queue_held = core.queue_held s;
      list_held = core.list_held s;
      works_held = core.works_held s;
      wait_held = core.wait_held s;
      body_held = core.body_held s;
      task_to_clear = core.task_to_clear s;
      seen_state = core.seen_state s;
      level_known = core.level_known s;
      has_matched = core.has_matched s;
      is_unstored = core.is_unstored s;
      saw_off = core.saw_off s;
      is_claimed = core.is_claimed s;
      saw_clear = core.saw_clear s;
      has_stored = core.has_stored s;
      saw_rest = core.saw_rest s;
      saw_rest_off = core.saw_rest_off s;
      saw_rest_idle = core.saw_rest_idle s;
      has_slept = core.has_slept s;
      is_requeued = core.is_requeued s;
      saw_idle = core.saw_idle s;
      has_added = core.has_added s;
      has_dropped = core.has_dropped s;
      has_passed = core.has_passed s;
      has_own_stored = core.has_own_stored s;
      has_slept_in = core.has_slept_in s;
      owes_walk = core.owes_walk s;
      has_retaken = core.has_retaken s;
      tested = core.tested s;
      is_asleep = core.is_asleep s;
      last_reads = core.last_reads s;
      hand = core.hand s;
      actives = core.actives s;
      counts = core.counts s;
      lowered = core.lowered s;
      given_up = core.given_up s;
      due = core.due s;
      ticket = core.ticket s;
      zeroed = core.zeroed s;
      joined = core.joined s;
      refs_zero = core.refs_zero s;
      completing = core.completing s;
      posted = core.posted s;
      works_hand = core.works_hand s;
      phases = core.phases s;
      unmarked = core.unmarked s;
      alive = core.alive s;
      turns = core.turns s;
      served = core.served s;
      journal = core.journal s;
    }

-- cores that agree at each number are one
pub table_path : (c d : Columns) → ((n : ℕ) → word_row c n ≡ word_row d n) → ((s : ℕ) → seat_row c s ≡ seat_row d s) → c ≡ d
table_path c d words seats = λ i. record {
  shape = (words 0 i).shape;
  tasks = (words 0 i).tasks;
  cpus = (words 0 i).cpus;
  conds = (words 0 i).conds;
  seats = (words 0 i).seats;
  state = λ n. (words n i).state;
  on_rq = λ n. (words n i).on_rq;
  changes = λ n. (words n i).changes;
  on_cpu = λ n. (words n i).on_cpu;
  runs = λ n. (words n i).runs;
  cpu = λ n. (words n i).cpu;
  count = λ n. (words n i).count;
  lock = λ n. (words n i).lock;
  val = λ n. (words n i).val;
  body = λ n. (words n i).body;
  ended = λ n. (words n i).ended;
  hint = λ n. (words n i).hint;
  pinned = λ n. (words n i).pinned;
  phase = λ n. (words n i).phase;
  active = λ n. (words n i).active;
  epoch = λ n. (words n i).epoch;
  queue_lock = λ n. (words n i).queue_lock;
  queue = λ n. (words n i).queue;
  list_lock = λ n. (words n i).list_lock;
  list = λ n. (words n i).list;
  works_lock = λ n. (words n i).works_lock;
  works = λ n. (words n i).works;
  cond = λ n. (words n i).cond;
  wait_lock = λ n. (words n i).wait_lock;
  wait = λ n. (words n i).wait;
  mark = λ n. (words n i).mark;
  done = λ n. (words n i).done;
  refs = λ n. (words n i).refs;
  current_task = λ s. (seats s i).current_task;
  task_held = λ s. (seats s i).task_held;
  queue_held = λ s. (seats s i).queue_held;
  list_held = λ s. (seats s i).list_held;
  works_held = λ s. (seats s i).works_held;
  wait_held = λ s. (seats s i).wait_held;
  body_held = λ s. (seats s i).body_held;
  task_to_clear = λ s. (seats s i).task_to_clear;
  seen_state = λ s. (seats s i).seen_state;
  level_known = λ s. (seats s i).level_known;
  has_matched = λ s. (seats s i).has_matched;
  is_unstored = λ s. (seats s i).is_unstored;
  saw_off = λ s. (seats s i).saw_off;
  is_claimed = λ s. (seats s i).is_claimed;
  saw_clear = λ s. (seats s i).saw_clear;
  has_stored = λ s. (seats s i).has_stored;
  saw_rest = λ s. (seats s i).saw_rest;
  saw_rest_off = λ s. (seats s i).saw_rest_off;
  saw_rest_idle = λ s. (seats s i).saw_rest_idle;
  has_slept = λ s. (seats s i).has_slept;
  is_requeued = λ s. (seats s i).is_requeued;
  saw_idle = λ s. (seats s i).saw_idle;
  has_added = λ s. (seats s i).has_added;
  has_dropped = λ s. (seats s i).has_dropped;
  has_passed = λ s. (seats s i).has_passed;
  has_own_stored = λ s. (seats s i).has_own_stored;
  has_slept_in = λ s. (seats s i).has_slept_in;
  owes_walk = λ s. (seats s i).owes_walk;
  has_retaken = λ s. (seats s i).has_retaken;
  tested = λ s. (seats s i).tested;
  is_asleep = λ s. (seats s i).is_asleep;
  last_reads = λ s. (seats s i).last_reads;
  hand = λ s. (seats s i).hand;
  actives = λ s. (seats s i).actives;
  counts = λ s. (seats s i).counts;
  lowered = λ s. (seats s i).lowered;
  given_up = λ s. (seats s i).given_up;
  due = λ s. (seats s i).due;
  ticket = λ s. (seats s i).ticket;
  zeroed = λ s. (seats s i).zeroed;
  joined = λ s. (seats s i).joined;
  refs_zero = λ s. (seats s i).refs_zero;
  completing = λ s. (seats s i).completing;
  posted = λ s. (seats s i).posted;
  works_hand = λ s. (seats s i).works_hand;
  phases = λ s. (seats s i).phases;
  unmarked = λ s. (seats s i).unmarked;
  alive = λ s. (seats s i).alive;
  turns = λ s. (seats s i).turns;
  served = λ s. (seats s i).served;
  journal = λ s. (seats s i).journal;
}
