-- What holds after each branch of a step holds after the step.
use Rattle.std.proofs.Common.{ℕ, ◌++◌, ◌∷◌, [], Bool, true, false, Some, None, Option}
use Rattle.std.specs.Prelude.{◌==◌, ◌&&◌}
use mathlib.Core.Bool.{not}
use Rattle.core_data.specs.Noted.{noted}
use Rattle.core_data.specs.Columns.{Columns, put, put_at}
use Rattle.core_data.specs.declared.act.Act.{Act}
use Rattle.core_data.specs.declared.act.Act.TheVariants.{Matched, SawOff, SawClear, SawRest, SawRestOff, SawRestIdle, Passed, OwnStored, Slept}
use Rattle.core_data.specs.declared.pos.TaskReads.{TaskReads}
use Rattle.core_kinds.specs.Steps.{normal, is_match, is_sleep, stored_word}
use Rattle.core_kinds.specs.Waking.{noted_if, logged_if, seen_if, slept_if, ran_if, set_state, load_state, is_own_read, is_matched, is_refused, state_read, load_rq, rq_read, load_busy, busy_read}
use Rattle.core_kinds.specs.Waking.{load_cond, test_by, tested_if}
use Rattle.handoff_data.specs.declared.entry.Entry.{Entry}
use Rattle.handoff_data.specs.declared.entry.Entry.TheVariants.{Refused}
use Rattle.handoff_data.specs.declared.state.State.{State}

-- a seat's note of this step leaves P as it is
abbrev pub IsFree : (Columns → Type 0) → ℕ → Act → Type 0
IsFree P s act = (core : Columns) → P core → P (noted core s act)

noted_if-keeps : (P : Columns → Type 0) (b : Bool) (core : Columns) (s : ℕ) (act : Act) → IsFree P s act → P core → P (noted_if b core s act)
noted_if-keeps P true core s act free p = free core p
noted_if-keeps P false core s act free p = p

logged_if-keeps : (P : Columns → Type 0) (b : Bool) (core : Columns) (s : ℕ) (entry : Entry)
    → ((core : Columns) → P core → P (record core { journal = put core.journal s (core.journal s ++ entry ∷ []) })) → P core → P (logged_if b core s entry)
logged_if-keeps P true core s entry log p = log core p
logged_if-keeps P false core s entry log p = p

seen_if-keeps : (P : Columns → Type 0) (b : Bool) (core : Columns) (s : ℕ) (state : State)
    → ((core : Columns) → P core → P (record core { seen_state = put core.seen_state s (Some state) })) → P core → P (seen_if b core s state)
seen_if-keeps P true core s state see p = see core p
seen_if-keeps P false core s state see p = p

-- what a load of a state may change leaves P as it is
pub record IsLoadFree (P : Columns → Type 0) (s t : ℕ) : Type 0 where
  pub reads : (core : Columns) (r : TaskReads) → P core → P (record core { last_reads = put_at core.last_reads s t r })
  pub seen : (core : Columns) (state : State) → P core → P (record core { seen_state = put core.seen_state s (Some state) })
  pub log : (core : Columns) (state : State) → P core → P (record core { journal = put core.journal s (core.journal s ++ Refused t state ∷ []) })
  pub matched : IsFree P s (Matched t)
  pub saw_off : IsFree P s (SawOff t)
  pub saw_clear : IsFree P s (SawClear t)
  pub saw_rest : IsFree P s (SawRest t)
  pub saw_rest_off : IsFree P s (SawRestOff t)
  pub saw_rest_idle : IsFree P s (SawRestIdle t)
  pub passed : IsFree P s (Passed t)

pub load_state-keeps : (P : Columns → Type 0) (core : Columns) (s t : ℕ) (mask : Option State) → IsLoadFree P s t → P core → P (load_state core s t mask)
load_state-keeps P core s t mask free p =
    let state = core.state t in
    let c0 = record core { last_reads = put_at core.last_reads s t (state_read t state (core.last_reads s t)) } in
    let c1 = seen_if (is_own_read core s t) c0 s state in
    let c2 = noted_if (is_matched state mask) c1 s (Matched t) in
    let c3 = noted_if (not (state.0 == 0x200)) c2 s (SawRest t) in
    let c4 = noted_if (not (is_match state normal)) c3 s (Passed t) in
    logged_if-keeps P (is_refused state mask) c4 s (Refused t state) (λ next. free.log next state)
    (noted_if-keeps P (not (is_match state normal)) c3 s (Passed t) free.passed
    (noted_if-keeps P (not (state.0 == 0x200)) c2 s (SawRest t) free.saw_rest
    (noted_if-keeps P (is_matched state mask) c1 s (Matched t) free.matched
    (seen_if-keeps P (is_own_read core s t) c0 s state (λ next. free.seen next state) (free.reads core (state_read t state (core.last_reads s t)) p)))))

pub load_rq-keeps : (P : Columns → Type 0) (core : Columns) (s t : ℕ) → IsLoadFree P s t → P core → P (load_rq core s t)
load_rq-keeps P core s t free p =
    let r = rq_read t (core.on_rq t) (core.changes t) (core.last_reads s t) in
    let c0 = record core { last_reads = put_at core.last_reads s t r } in
    let c1 = noted_if ((core.on_rq t == 0) && core.is_unstored s t) c0 s (SawOff t) in
    noted_if-keeps P ((core.on_rq t == 0) && core.saw_rest s t) c1 s (SawRestOff t) free.saw_rest_off
    (noted_if-keeps P ((core.on_rq t == 0) && core.is_unstored s t) c0 s (SawOff t) free.saw_off (free.reads core r p))

pub load_busy-keeps : (P : Columns → Type 0) (core : Columns) (s t : ℕ) → IsLoadFree P s t → P core → P (load_busy core s t)
load_busy-keeps P core s t free p =
    let r = busy_read t (core.on_cpu t) (core.last_reads s t) in
    let c0 = record core { last_reads = put_at core.last_reads s t r } in
    let c1 = noted_if (not (core.on_cpu t)) c0 s (SawClear t) in
    noted_if-keeps P (not (core.on_cpu t) && core.saw_rest_off s t) c1 s (SawRestIdle t) free.saw_rest_idle
    (noted_if-keeps P (not (core.on_cpu t)) c0 s (SawClear t) free.saw_clear (free.reads core r p))

-- .. and so does what a load of a condition may change
abbrev pub IsTestFree : (Columns → Type 0) → Type 0
IsTestFree P = (core : Columns) (x : ℕ → ℕ → ℕ → Option ℕ) → P core → P (record core { tested = x })

tested_if-keeps : (P : Columns → Type 0) (b : Bool) (core : Columns) (s t k v : ℕ) → IsTestFree P → P core → P (tested_if b core s t k v)
tested_if-keeps P true core s t k v free p = free core _ p
tested_if-keeps P false core s t k v free p = p

test_by-keeps : (P : Columns → Type 0) (core : Columns) (s : ℕ) (o : Option ℕ) (k : ℕ) → IsTestFree P → P core → P (test_by core s o k)
test_by-keeps P core s None k free p = p
test_by-keeps P core s (Some t) k free p = tested_if-keeps P (core.has_slept s t) core s t k (core.cond k) free p

pub load_cond-keeps : (P : Columns → Type 0) (core : Columns) (s k : ℕ) → IsTestFree P → P core → P (load_cond core s k)
load_cond-keeps P core s k free p = test_by-keeps P core s (core.current_task s) k free p

-- .. and what a store of the own state may change but that state
pub record IsOwnFree (P : Columns → Type 0) (s t : ℕ) : Type 0 where
  pub forget : (core : Columns) (x : ℕ → ℕ → ℕ → Option ℕ) (y : ℕ → ℕ → ℕ → Bool) → P core → P (record core { tested = x; is_asleep = y })
  pub slept : IsFree P s (Slept t)
  pub passed : IsFree P s (Passed t)

slept_if-keeps : (P : Columns → Type 0) (b : Bool) (core : Columns) (s t : ℕ) → IsOwnFree P s t → P core → P (slept_if b core s t)
slept_if-keeps P true core s t free p = free.slept _ (free.forget core _ _ p)
slept_if-keeps P false core s t free p = p

ran_if-keeps : (P : Columns → Type 0) (b : Bool) (core : Columns) (s t : ℕ) → IsOwnFree P s t → P core → P (ran_if b core s t)
ran_if-keeps P true core s t free p = free.passed core p
ran_if-keeps P false core s t free p = p

pub set_state-keeps : (P : Columns → Type 0) (core : Columns) (s t : ℕ) (state : State) → IsOwnFree P s t
    → P (noted (stored_word (record core { state = put core.state t state; seen_state = put core.seen_state s None }) s t) s (OwnStored t)) → P (set_state core s t state)
set_state-keeps P core s t state free p =
    let c0 = noted (stored_word (record core { state = put core.state t state; seen_state = put core.seen_state s None }) s t) s (OwnStored t) in
    ran_if-keeps P (state.0 == 0) (slept_if (is_sleep state) c0 s t) s t free (slept_if-keeps P (is_sleep state) c0 s t free p)
