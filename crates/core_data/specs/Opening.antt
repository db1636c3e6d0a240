-- The opening core.
use Rattle.std.specs.Prelude.{◌≡◌, ◌<◌, ◌+◌, ◌↔◌, ℕ, true, false, [], Some, None, replicate}
use Rattle.handoff_data.specs.Mask.{HasCpu}
use Rattle.handoff_data.specs.declared.mask.CpuMask.{CpuMask}
use Rattle.handoff_data.specs.declared.shape.Shape.{Shape}
use Rattle.core_data.specs.Holding.{Holding}
use Rattle.core_data.specs.Position.{Position}
use Rattle.core_data.specs.Queue.{Queue}
use Rattle.core_data.specs.Columns.{Columns, columns_of, unserved}
use Rattle.core_data.specs.declared.seat.SeatCore.{SeatCore}
use Rattle.core_data.specs.declared.words.TaskWords.{TaskWords}
use Rattle.core_data.specs.declared.words.CpuWords.{CpuWords}
use Rattle.core_data.specs.declared.words.CondWords.{CondWords}
use Rattle.core_data.specs.declared.words.Phase.TheVariants.{Live}

-- a task that was never started: TASK_NEW
abbrev pub first_task : CpuMask → TaskWords
first_task mask =
    record {
      state = record { 0 = 0x800 };
      on_rq = 0;
      changes = 0;
      on_cpu = false;
      runs = 0;
      cpu = 0;
      count = 0;
      lock = None;
      val = Some (record {
        mask = mask;
        r = 0;
        narrowed = None;
        wake_cpu = 0;
        pending = None;
        stop_queued = false;
        dest = 0;
      });
      body = true;
      ended = false;
    }

abbrev pub no_tasks : Queue
no_tasks = record { waiting = []; cur = None; left = None }

-- a processor that is live and active
abbrev pub first_cpu : CpuWords
first_cpu =
    record {
      hint = 0;
      pinned = 0;
      phase = Live;
      active = true;
      epoch = 0;
      queue_lock = None;
      queue = Some no_tasks;
      list_lock = None;
      list = Some [];
      works_lock = None;
      works = Some [];
    }

abbrev pub first_cond : CondWords
first_cond = record { cond = 0; wait_lock = None; wait = Some [] }

abbrev pub no_holding : Holding
no_holding = record { tasks = []; queues = []; lists = []; works = []; waits = []; body = None }

-- nothing was read or stored; no ticket is to any record
abbrev pub no_position : Position
no_position =
    record {
      to_clear = None;
      seen = None;
      level_known = None;
      recent = [];
      tests = [];
      asleep = [];
      reads = [];
      hand = [];
      actives = [];
      counts = [];
      lowered = [];
      given_up = [];
      due = None;
      ticket = None;
      zeroed = [];
      joined = [];
      refs_zero = true;
      completing = [];
      posted = [];
      works_hand = [];
      phases = [];
      unmarked = [];
      alive = [];
      turns = [];
      served = unserved;
    }

abbrev pub first_seat : SeatCore
first_seat = record {
  mark = false;
  done = false;
  refs = 0;
  current = None;
  held = no_holding;
  pos = no_position;
  journal = [];
}

-- the opening core of a shape
pub record IsStart (shape : Shape) (core : Columns) : Type 0 where
  pub mask : CpuMask
  pub all : (c : ℕ) → HasCpu mask c ↔ (c < shape.cpus)
  pub rows : core ≡ columns_of shape (replicate shape.tasks (first_task mask)) (replicate shape.cpus first_cpu)
      (replicate shape.conds first_cond) (replicate (shape.cpus + shape.agents) first_seat)
