-- The rows of the table, and the table with one row written.
use Rattle.std.specs.Prelude.{ℕ}
use Rattle.core_data.specs.Columns.{Columns, put, mark_of, done_of, refs_of, current_task_of, task_held_of}
use Rattle.core_data.specs.Columns.{queue_held_of, list_held_of, works_held_of, wait_held_of, body_held_of}
use Rattle.core_data.specs.Columns.{task_to_clear_of, seen_state_of, level_known_of, has_matched_of, is_unstored_of}
use Rattle.core_data.specs.Columns.{saw_off_of, is_claimed_of, saw_clear_of, has_stored_of, saw_rest_of}
use Rattle.core_data.specs.Columns.{saw_rest_off_of, saw_rest_idle_of, has_slept_of, is_requeued_of, saw_idle_of}
use Rattle.core_data.specs.Columns.{has_added_of, has_dropped_of, has_passed_of, has_own_stored_of, has_slept_in_of}
use Rattle.core_data.specs.Columns.{owes_walk_of, has_retaken_of, tested_of, is_asleep_of, last_reads_of, hand_of}
use Rattle.core_data.specs.Columns.{actives_of, counts_of, lowered_of, given_up_of, due_of, ticket_of, zeroed_of}
use Rattle.core_data.specs.Columns.{joined_of, refs_zero_of, completing_of, posted_of, works_hand_of, phases_of}
use Rattle.core_data.specs.Columns.{unmarked_of, alive_of, turns_of, served_of, journal_of}
use Rattle.core_data.specs.declared.seat.SeatCore.{SeatCore}
use Rattle.core_data.specs.declared.words.TaskWords.{TaskWords}
use Rattle.core_data.specs.declared.words.CpuWords.{CpuWords}
use Rattle.core_data.specs.declared.words.CondWords.{CondWords}

-- the words of a task
abbrev pub task_words_of : Columns → ℕ → TaskWords
task_words_of core t =
    record {
      state = core.state t;
      on_rq = core.on_rq t;
      changes = core.changes t;
      on_cpu = core.on_cpu t;
      runs = core.runs t;
      cpu = core.cpu t;
      count = core.count t;
      lock = core.lock t;
      val = core.val t;
      body = core.body t;
      ended = core.ended t;
    }

abbrev pub with_task : Columns → ℕ → TaskWords → Columns
with_task core k w =
    record core {
      state = put core.state k w.state;
      on_rq = put core.on_rq k w.on_rq;
      changes = put core.changes k w.changes;
      on_cpu = put core.on_cpu k w.on_cpu;
      runs = put core.runs k w.runs;
      cpu = put core.cpu k w.cpu;
      count = put core.count k w.count;
      lock = put core.lock k w.lock;
      val = put core.val k w.val;
      body = put core.body k w.body;
      ended = put core.ended k w.ended;
    }

abbrev pub with_cpu : Columns → ℕ → CpuWords → Columns
with_cpu core k w =
    record core {
      hint = put core.hint k w.hint;
      pinned = put core.pinned k w.pinned;
      phase = put core.phase k w.phase;
      active = put core.active k w.active;
      epoch = put core.epoch k w.epoch;
      queue_lock = put core.queue_lock k w.queue_lock;
      queue = put core.queue k w.queue;
      list_lock = put core.list_lock k w.list_lock;
      list = put core.list k w.list;
      works_lock = put core.works_lock k w.works_lock;
      works = put core.works k w.works;
    }

abbrev pub with_cond : Columns → ℕ → CondWords → Columns
with_cond core k w =
    record core {
      cond = put core.cond k w.cond;
      wait_lock = put core.wait_lock k w.wait_lock;
      wait = put core.wait k w.wait;
    }

abbrev pub with_seat : Columns → ℕ → SeatCore → Columns
with_seat core k w =
    record core {
      mark = put core.mark k (mark_of w);
      done = put core.done k (done_of w);
      refs = put core.refs k (refs_of w);
      current_task = put core.current_task k (current_task_of w);
      task_held = put core.task_held k (task_held_of w);
      queue_held = put core.queue_held k (queue_held_of w);
      list_held = put core.list_held k (list_held_of w);
      works_held = put core.works_held k (works_held_of w);
      wait_held = put core.wait_held k (wait_held_of w);
      body_held = put core.body_held k (body_held_of w);
      task_to_clear = put core.task_to_clear k (task_to_clear_of w);
      seen_state = put core.seen_state k (seen_state_of w);
      level_known = put core.level_known k (level_known_of w);
      has_matched = put core.has_matched k (has_matched_of w);
      is_unstored = put core.is_unstored k (is_unstored_of w);
      saw_off = put core.saw_off k (saw_off_of w);
      is_claimed = put core.is_claimed k (is_claimed_of w);
      saw_clear = put core.saw_clear k (saw_clear_of w);
      has_stored = put core.has_stored k (has_stored_of w);
      saw_rest = put core.saw_rest k (saw_rest_of w);
      saw_rest_off = put core.saw_rest_off k (saw_rest_off_of w);
      saw_rest_idle = put core.saw_rest_idle k (saw_rest_idle_of w);
      has_slept = put core.has_slept k (has_slept_of w);
      is_requeued = put core.is_requeued k (is_requeued_of w);
      saw_idle = put core.saw_idle k (saw_idle_of w);
      has_added = put core.has_added k (has_added_of w);
      has_dropped = put core.has_dropped k (has_dropped_of w);
      has_passed = put core.has_passed k (has_passed_of w);
      has_own_stored = put core.has_own_stored k (has_own_stored_of w);
      has_slept_in = put core.has_slept_in k (has_slept_in_of w);
      owes_walk = put core.owes_walk k (owes_walk_of w);
      has_retaken = put core.has_retaken k (has_retaken_of w);
      tested = put core.tested k (tested_of w);
      is_asleep = put core.is_asleep k (is_asleep_of w);
      last_reads = put core.last_reads k (last_reads_of w);
      hand = put core.hand k (hand_of w);
      actives = put core.actives k (actives_of w);
      counts = put core.counts k (counts_of w);
      lowered = put core.lowered k (lowered_of w);
      given_up = put core.given_up k (given_up_of w);
      due = put core.due k (due_of w);
      ticket = put core.ticket k (ticket_of w);
      zeroed = put core.zeroed k (zeroed_of w);
      joined = put core.joined k (joined_of w);
      refs_zero = put core.refs_zero k (refs_zero_of w);
      completing = put core.completing k (completing_of w);
      posted = put core.posted k (posted_of w);
      works_hand = put core.works_hand k (works_hand_of w);
      phases = put core.phases k (phases_of w);
      unmarked = put core.unmarked k (unmarked_of w);
      alive = put core.alive k (alive_of w);
      turns = put core.turns k (turns_of w);
      served = put core.served k (served_of w);
      journal = put core.journal k (journal_of w);
    }
