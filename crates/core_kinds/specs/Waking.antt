-- Waking and condition steps.
use Rattle.std.specs.Prelude.{◌≡◌, ◌≢◌, ℕ, ◌<◌, ◌==◌, ◌&&◌, ◌⊎◌, ◌++◌, ◌∷◌, ◌+◌, ◌%◌, ◌^◌, [], Bool, true, false}
use Rattle.std.specs.Prelude.{Option, Some, None, is_some, nat_lt, bit_and, if◌then◌else◌}
use mathlib.Core.Bool.{not}
use Rattle.core_data.specs.declared.act.Act.{Act}
use Rattle.handoff_data.specs.declared.entry.Entry.{Entry}
use Rattle.core_data.specs.Noted.{noted}
use Rattle.core_data.specs.Columns.{Columns, put, put_at}
use Rattle.core_data.specs.declared.act.Act.TheVariants.{Claimed, Passed, OwnStored, Slept, Matched, SawOff, SawClear}
use Rattle.core_data.specs.declared.act.Act.TheVariants.{SawRest, SawRestOff, SawRestIdle, Bumped}
use Rattle.core_data.specs.declared.pos.TaskReads.{TaskReads}
use Rattle.core_kinds.specs.Steps.{running, waking, dead, normal, is_sleep, is_match, stored_word}
use Rattle.handoff_data.specs.declared.entry.Entry.TheVariants.{Wake, Refused}
use Rattle.handoff_data.specs.declared.state.State.{State}

-- SetState: the current task, while it is queued; its death only under its own lock, once its body has ended
abbrev pub IsSettable : Columns → ℕ → ℕ → State → Type 0
IsSettable core s t state =
    (state ≡ running) ⊎ ((is_sleep state ≡ true) ⊎ ((state ≡ dead) × (core.lock t ≡ Some s) × (core.ended t ≡ true)))

pub record MaySetState (core : Columns) (s t : ℕ) (state : State) : Type 0 where
  pub seat : s < core.seats
  pub task : t < core.tasks
  pub current : core.current_task s ≡ Some t
  pub queued : core.on_rq t ≡ 1
  pub allowed : IsSettable core s t state

-- a sleep state that a task stores makes it forget what it tested and where it slept
abbrev pub slept_if : Bool → Columns → ℕ → ℕ → Columns
slept_if true core s t =
    noted (record core {
      tested = put core.tested s (λ u l. if u == t then None else core.tested s u l);
      is_asleep = put core.is_asleep s (λ u l. if u == t then false else core.is_asleep s u l);
    }) s (Slept t)
slept_if false core s t = core

abbrev pub ran_if : Bool → Columns → ℕ → ℕ → Columns
ran_if true core s t = noted core s (Passed t)
ran_if false core s t = core

abbrev pub set_state : Columns → ℕ → ℕ → State → Columns
set_state core s t state =
    ran_if (state.0 == 0) (slept_if (is_sleep state) (noted (stored_word (record core {
      state = put core.state t state;
      seen_state = put core.seen_state s None;
    }) s t) s (OwnStored t)) s t) s t

-- ClaimTask: under the task's lock the seat read a matching state and then `on_rq` as 0, and has
-- stored no word of the task since
pub record MayClaim (core : Columns) (s t : ℕ) : Type 0 where
  pub seat : s < core.seats
  pub task : t < core.tasks
  pub locked : core.lock t ≡ Some s
  pub saw_off : core.saw_off s t ≡ true

abbrev pub claim : Columns → ℕ → ℕ → Columns
claim core s t =
    noted (noted (stored_word (record core {
      state = put core.state t waking;
      journal = put core.journal s (core.journal s ++ Wake t (core.changes t) ∷ []);
    }) s t) s (Claimed t)) s (Passed t)

-- MakeRunnable
abbrev pub IsReadyToRun : Columns → ℕ → ℕ → Type 0
IsReadyToRun core s t =
    ((core.lock t ≡ Some s) × (core.changes t ≡ 0))
    ⊎ (((core.lock t ≡ Some s) × (core.has_matched s t ≡ true) × (core.on_rq t ≡ 1)
    × (core.queue_lock (core.cpu t) ≡ Some s) × (core.current_task s ≢ Some t))
    ⊎ ((core.queue_lock (core.cpu t) ≡ Some s) × (core.has_added s (core.cpu t) t ≡ true) × (core.on_rq t ≡ 1)
    × (core.on_cpu t ≡ false)))

pub record MayMakeRunnable (core : Columns) (s t : ℕ) : Type 0 where
  pub seat : s < core.seats
  pub task : t < core.tasks
  pub processor : core.cpu t < core.cpus
  pub ready : IsReadyToRun core s t

abbrev pub make_runnable : Columns → ℕ → ℕ → Columns
make_runnable core s t = noted (stored_word (record core { state = put core.state t running }) s t) s (Passed t)

-- the loads: any task, at any time
pub record MayLoad (core : Columns) (s t : ℕ) : Type 0 where
  pub seat : s < core.seats
  pub task : t < core.tasks

-- StoreCpu: at New, or half way to a queue
abbrev pub IsPlaceable : Columns → ℕ → ℕ → Type 0
IsPlaceable core s t =
    (core.changes t ≡ 0) ⊎ (((core.on_rq t ≡ 0) × (core.state t ≡ waking) × (core.saw_clear s t ≡ true))
    ⊎ (core.on_rq t ≡ 2))

pub record MayStoreCpu (core : Columns) (s t c : ℕ) : Type 0 where
  pub seat : s < core.seats
  pub task : t < core.tasks
  pub processor : c < core.cpus
  pub locked : core.lock t ≡ Some s
  pub placeable : IsPlaceable core s t

-- Bump: the seat owes the condition a walk of its wait queue
pub record MayBump (core : Columns) (s k : ℕ) : Type 0 where
  pub seat : s < core.seats
  pub condition : k < core.conds

abbrev pub bump : Columns → ℕ → ℕ → Columns
bump core s k = noted (record core { cond = put core.cond k ((core.cond k + 1) % 2 ^ 64) }) s (Bumped k)

-- what a seat notes where a test holds
abbrev pub noted_if : Bool → Columns → ℕ → Act → Columns
noted_if true core s act = noted core s act
noted_if false core s act = core

abbrev pub logged_if : Bool → Columns → ℕ → Entry → Columns
logged_if true core s entry = record core { journal = put core.journal s (core.journal s ++ entry ∷ []) }
logged_if false core s entry = core

abbrev pub seen_if : Bool → Columns → ℕ → State → Columns
seen_if true core s state = record core { seen_state = put core.seen_state s (Some state) }
seen_if false core s state = core

-- LoadState: with a mask that only has bits of TASK_NORMAL and TASK_WAKEKILL, or with none
abbrev pub IsMask : Option State → Type 0
IsMask None = Unit {0}
IsMask (Some mask) = bit_and mask.0 0x103 ≡ mask.0

pub record MayLoadState (core : Columns) (s t : ℕ) (mask : Option State) : Type 0 where
  pub seat : s < core.seats
  pub task : t < core.tasks
  pub allowed : IsMask mask

-- under its own queue's lock a seat keeps the state that it reads of its current task
abbrev pub is_some_of : Option ℕ → ℕ → Bool
is_some_of None k = false
is_some_of (Some j) k = j == k

abbrev pub is_own_read : Columns → ℕ → ℕ → Bool
is_own_read core s t = nat_lt s core.cpus && (is_some_of (core.current_task s) t && is_some_of (core.queue_lock s) s)

abbrev pub is_matched : State → Option State → Bool
is_matched state None = false
is_matched state (Some mask) = is_match state mask

abbrev pub is_refused : State → Option State → Bool
is_refused state None = false
is_refused state (Some mask) = not (is_match state mask)

abbrev pub state_read : ℕ → State → TaskReads → TaskReads
state_read t state reads = record {
  t = t;
  state = Some state;
  rq = None;
  busy = None;
  number = reads.number;
  cpu = reads.cpu;
}

-- the effect of reading this state; a state that doesn't match the mask is noted in the journal
abbrev pub load_this : Columns → ℕ → ℕ → Option State → Bool → TaskReads → State → Columns
load_this core s t mask own old state =
    logged_if (is_refused state mask)
    (noted_if (not (is_match state normal)) (noted_if (not (state.0 == waking.0)) (noted_if (is_matched state mask)
    (seen_if own (record core { last_reads = put_at core.last_reads s t (state_read t state old) }) s state)
    s (Matched t)) s (SawRest t)) s (Passed t)) s (Refused t state)

abbrev pub load_state : Columns → ℕ → ℕ → Option State → Columns
load_state core s t mask = load_this core s t mask (is_own_read core s t) (core.last_reads s t) (core.state t)

-- LoadRq: what was read of `on_rq` after the state, and the number of its changes
abbrev pub rq_read : ℕ → ℕ → ℕ → TaskReads → TaskReads
rq_read t on m reads = record {
  t = t;
  state = reads.state;
  rq = if is_some reads.state then Some (record { on = on; m = m }) else None;
  busy = None;
  number = Some m;
  cpu = reads.cpu;
}

abbrev pub load_rq_so : Columns → ℕ → ℕ → Bool → Bool → TaskReads → ℕ → ℕ → Columns
load_rq_so core s t fresh rests old on m =
    noted_if ((on == 0) && rests)
    (noted_if ((on == 0) && fresh) (record core { last_reads = put_at core.last_reads s t (rq_read t on m old) }) s
    (SawOff t)) s (SawRestOff t)

abbrev pub load_rq : Columns → ℕ → ℕ → Columns
load_rq core s t = load_rq_so core s t (core.is_unstored s t) (core.saw_rest s t) (core.last_reads s t) (core.on_rq t)
    (core.changes t)

-- LoadBusy: what was read of the busy word after the state and `on_rq`
abbrev pub busy_read : ℕ → Bool → TaskReads → TaskReads
busy_read t busy reads = record {
  t = t;
  state = reads.state;
  rq = reads.rq;
  busy = if is_some reads.rq then Some busy else None;
  number = reads.number;
  cpu = reads.cpu;
}

abbrev pub load_busy_so : Columns → ℕ → ℕ → Bool → TaskReads → Bool → Columns
load_busy_so core s t rests old busy =
    noted_if (not busy && rests)
    (noted_if (not busy) (record core { last_reads = put_at core.last_reads s t (busy_read t busy old) }) s
    (SawClear t)) s (SawRestIdle t)

abbrev pub load_busy : Columns → ℕ → ℕ → Columns
load_busy core s t = load_busy_so core s t (core.saw_rest_off s t) (core.last_reads s t) (core.on_cpu t)

-- LoadCpu, StoreCpu
abbrev pub cpu_read : ℕ → ℕ → TaskReads → TaskReads
cpu_read t c reads = record {
  t = t;
  state = reads.state;
  rq = reads.rq;
  busy = reads.busy;
  number = reads.number;
  cpu = Some c;
}

abbrev pub load_cpu : Columns → ℕ → ℕ → Columns
load_cpu core s t =
    record core { last_reads = put_at core.last_reads s t (cpu_read t (core.cpu t) (core.last_reads s t)) }

abbrev pub store_cpu : Columns → ℕ → ℕ → ℕ → Columns
store_cpu core s t c =
    stored_word (record core {
      cpu = put core.cpu t c;
      last_reads = put_at core.last_reads s t (cpu_read t c (core.last_reads s t));
    }) s t

-- LoadCount: of its current task a seat keeps the migrate-disable level that it reads
abbrev pub level_read : Option ℕ → ℕ → ℕ → Option ℕ → Option ℕ
level_read current t level known = if is_some_of current t then Some level else known

abbrev pub load_count : Columns → ℕ → ℕ → Columns
load_count core s t =
    record core {
      level_known =
          put core.level_known s (level_read (core.current_task s) t (core.count t) (core.level_known s));
    }

-- LoadCond: a current task that has stored a sleep state has tested the condition
abbrev pub tested_if : Bool → Columns → ℕ → ℕ → ℕ → ℕ → Columns
tested_if true core s t k v =
    record core { tested = put core.tested s (λ u l. if (u == t) && (l == k) then Some v else core.tested s u l) }
tested_if false core s t k v = core

abbrev pub test_by : Columns → ℕ → Option ℕ → ℕ → Columns
test_by core s None k = core
test_by core s (Some t) k = tested_if (core.has_slept s t) core s t k (core.cond k)

abbrev pub load_cond : Columns → ℕ → ℕ → Columns
load_cond core s k = test_by core s (core.current_task s) k
