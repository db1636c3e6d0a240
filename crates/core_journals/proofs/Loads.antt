-- Loads, and the steps of conditions.
use Rattle.std.proofs.Common.{ℕ, ◌<◌, length, Option, Some, None, refl, arith}
use Rattle.std.specs.Prelude.{◌==◌, ◌&&◌, Bool, true, false}
use mathlib.Core.Bool.{not}
use Rattle.core_data.specs.Columns.{Columns}
use Rattle.core_data.specs.declared.act.Act.TheVariants.{Matched, SawOff, SawClear, SawRest, SawRestOff, SawRestIdle, Passed}
use Rattle.core_data.specs.declared.pos.TaskReads.{TaskReads}
use Rattle.core_invariant.specs.Invariant.{Holds}
use Rattle.core_invariant.specs.Journals.{JournalsHold}
use Rattle.core_journals.proofs.Columns.{Numbered-log, LastChanges-log, Wakes-log, LastRuns-log}
use Rattle.core_journals.proofs.Next.{next-refused}
use Rattle.core_journals.proofs.RulesLog.{RulesKept-log, plain-log}
use Rattle.core_journals.proofs.Running.{past, log, in_tasks}
use Rattle.core_kinds.specs.Steps.{normal, is_match}
use Rattle.core_kinds.specs.Waking.{MayLoad, MayLoadState, load_state, load_this, is_own_read, is_matched, is_refused, noted_if, logged_if, seen_if, load_rq, load_rq_so, load_busy}
use Rattle.core_kinds.specs.Waking.{load_busy_so, load_cpu, load_count, MayBump, bump, tested_if, test_by, load_cond}
use Rattle.handoff_data.specs.declared.entry.Entry.{Entry}
use Rattle.handoff_data.specs.declared.entry.Entry.TheVariants as entry
use Rattle.handoff_data.specs.declared.state.State.{State}

-- a core in which seat s may put an entry of task t
record Ready (core : Columns) (s t : ℕ) : Type 0 where
  journals : JournalsHold core
  seat : s < core.seats
  task : t < core.tasks

note-matched : (b : Bool) (core : Columns) (s t n : ℕ) → Ready core s t → Ready (noted_if b core s (Matched n)) s t
note-matched true core s t n r =
    let p = r.journals in
    record { journals = record { plain = p.plain; rules = p.rules; numbered = p.numbered; last_changes = p.last_changes; wakes = p.wakes; last_runs = p.last_runs }; seat = r.seat; task = r.task }
note-matched false core s t n r = r

note-saw-off : (b : Bool) (core : Columns) (s t n : ℕ) → Ready core s t → Ready (noted_if b core s (SawOff n)) s t
note-saw-off true core s t n r =
    let p = r.journals in
    record { journals = record { plain = p.plain; rules = p.rules; numbered = p.numbered; last_changes = p.last_changes; wakes = p.wakes; last_runs = p.last_runs }; seat = r.seat; task = r.task }
note-saw-off false core s t n r = r

note-saw-clear : (b : Bool) (core : Columns) (s t n : ℕ) → Ready core s t → Ready (noted_if b core s (SawClear n)) s t
note-saw-clear true core s t n r =
    let p = r.journals in
    record { journals = record { plain = p.plain; rules = p.rules; numbered = p.numbered; last_changes = p.last_changes; wakes = p.wakes; last_runs = p.last_runs }; seat = r.seat; task = r.task }
note-saw-clear false core s t n r = r

note-saw-rest : (b : Bool) (core : Columns) (s t n : ℕ) → Ready core s t → Ready (noted_if b core s (SawRest n)) s t
note-saw-rest true core s t n r =
    let p = r.journals in
    record { journals = record { plain = p.plain; rules = p.rules; numbered = p.numbered; last_changes = p.last_changes; wakes = p.wakes; last_runs = p.last_runs }; seat = r.seat; task = r.task }
note-saw-rest false core s t n r = r

note-saw-rest-off : (b : Bool) (core : Columns) (s t n : ℕ) → Ready core s t → Ready (noted_if b core s (SawRestOff n)) s t
note-saw-rest-off true core s t n r =
    let p = r.journals in
    record { journals = record { plain = p.plain; rules = p.rules; numbered = p.numbered; last_changes = p.last_changes; wakes = p.wakes; last_runs = p.last_runs }; seat = r.seat; task = r.task }
note-saw-rest-off false core s t n r = r

note-saw-rest-idle : (b : Bool) (core : Columns) (s t n : ℕ) → Ready core s t → Ready (noted_if b core s (SawRestIdle n)) s t
note-saw-rest-idle true core s t n r =
    let p = r.journals in
    record { journals = record { plain = p.plain; rules = p.rules; numbered = p.numbered; last_changes = p.last_changes; wakes = p.wakes; last_runs = p.last_runs }; seat = r.seat; task = r.task }
note-saw-rest-idle false core s t n r = r

note-passed : (b : Bool) (core : Columns) (s t n : ℕ) → Ready core s t → Ready (noted_if b core s (Passed n)) s t
note-passed true core s t n r =
    let p = r.journals in
    record { journals = record { plain = p.plain; rules = p.rules; numbered = p.numbered; last_changes = p.last_changes; wakes = p.wakes; last_runs = p.last_runs }; seat = r.seat; task = r.task }
note-passed false core s t n r = r

see : (b : Bool) (core : Columns) (s t : ℕ) (state : State) → Ready core s t → Ready (seen_if b core s state) s t
see true core s t state r =
    let p = r.journals in
    record { journals = record { plain = p.plain; rules = p.rules; numbered = p.numbered; last_changes = p.last_changes; wakes = p.wakes; last_runs = p.last_runs }; seat = r.seat; task = r.task }
see false core s t state r = r

refuse : (b : Bool) (core : Columns) (s t : ℕ) (state : State) → Ready core s t → JournalsHold (logged_if b core s (entry.Refused t state))
refuse true core s t state r =
    let e : Entry = entry.Refused t state in
    let l = log core s e r.seat in
    let p = r.journals in
    let new = next-refused (past core) s (length (core.journal s)) t state (in_tasks core t r.task) in
    record {
      plain = plain-log l p.plain new.plain;
      rules = RulesKept-log l p.rules new;
      numbered = Numbered-log l refl refl p.numbered;
      last_changes = LastChanges-log l p.last_changes;
      wakes = Wakes-log l new.no_list (λ u m q. grind (arith, q)) p.wakes;
      last_runs = LastRuns-log l p.last_runs;
    }
refuse false core s t state r = r.journals

read-state : (core : Columns) (s t : ℕ) (mask : Option State) (own : Bool) (old : TaskReads) (state : State) → Ready core s t → JournalsHold (load_this core s t mask own old state)
read-state core s t mask own old state r =
    let p = r.journals in
    refuse (is_refused state mask) _ s t state
    (note-passed (not (is_match state normal)) _ s t t (note-saw-rest (not (state.0 == 0x200)) _ s t t (note-matched (is_matched state mask) _ s t t (see own _ s t state (
    record { journals = record { plain = p.plain; rules = p.rules; numbered = p.numbered; last_changes = p.last_changes; wakes = p.wakes; last_runs = p.last_runs }; seat = r.seat; task = r.task })))))

pub JournalsHold-load_state : (core : Columns) (s t : ℕ) (mask : Option State) → Holds core → MayLoadState core s t mask → JournalsHold (load_state core s t mask)
JournalsHold-load_state core s t mask holds may =
    read-state core s t mask (is_own_read core s t) (core.last_reads s t) (core.state t) (record { journals = holds.journals; seat = may.seat; task = may.task })

read-rq : (core : Columns) (s t : ℕ) (fresh rests : Bool) (old : TaskReads) (on m : ℕ) → Ready core s t → JournalsHold (load_rq_so core s t fresh rests old on m)
read-rq core s t fresh rests old on m r =
    let p = r.journals in
    (note-saw-rest-off ((on == 0) && rests) _ s t t (note-saw-off ((on == 0) && fresh) _ s t t (
    record {
      journals = record { plain = p.plain; rules = p.rules; numbered = p.numbered; last_changes = p.last_changes; wakes = p.wakes; last_runs = p.last_runs };
      seat = r.seat;
      task = r.task;
    }))).journals

pub JournalsHold-load_rq : (core : Columns) (s t : ℕ) → Holds core → MayLoad core s t → JournalsHold (load_rq core s t)
JournalsHold-load_rq core s t holds may =
    read-rq core s t (core.is_unstored s t) (core.saw_rest s t) (core.last_reads s t) (core.on_rq t) (core.changes t) (record { journals = holds.journals; seat = may.seat; task = may.task })

read-busy : (core : Columns) (s t : ℕ) (rests : Bool) (old : TaskReads) (busy : Bool) → Ready core s t → JournalsHold (load_busy_so core s t rests old busy)
read-busy core s t rests old busy r =
    let p = r.journals in
    (note-saw-rest-idle (not busy && rests) _ s t t (note-saw-clear (not busy) _ s t t (
    record {
      journals = record { plain = p.plain; rules = p.rules; numbered = p.numbered; last_changes = p.last_changes; wakes = p.wakes; last_runs = p.last_runs };
      seat = r.seat;
      task = r.task;
    }))).journals

pub JournalsHold-load_busy : (core : Columns) (s t : ℕ) → Holds core → MayLoad core s t → JournalsHold (load_busy core s t)
JournalsHold-load_busy core s t holds may =
    read-busy core s t (core.saw_rest_off s t) (core.last_reads s t) (core.on_cpu t) (record { journals = holds.journals; seat = may.seat; task = may.task })

pub JournalsHold-load_cpu : (core : Columns) (s t : ℕ) → Holds core → MayLoad core s t → JournalsHold (load_cpu core s t)
JournalsHold-load_cpu core s t holds may = let p = holds.journals in record {
  plain = p.plain;
  rules = p.rules;
  numbered = p.numbered;
  last_changes = p.last_changes;
  wakes = p.wakes;
  last_runs = p.last_runs;
}

pub JournalsHold-load_count : (core : Columns) (s t : ℕ) → Holds core → MayLoad core s t → JournalsHold (load_count core s t)
JournalsHold-load_count core s t holds may = let p = holds.journals in record {
  plain = p.plain;
  rules = p.rules;
  numbered = p.numbered;
  last_changes = p.last_changes;
  wakes = p.wakes;
  last_runs = p.last_runs;
}

pub JournalsHold-bump : (core : Columns) (s k : ℕ) → Holds core → MayBump core s k → JournalsHold (bump core s k)
JournalsHold-bump core s k holds may = let p = holds.journals in record {
  plain = p.plain;
  rules = p.rules;
  numbered = p.numbered;
  last_changes = p.last_changes;
  wakes = p.wakes;
  last_runs = p.last_runs;
}

tested : (b : Bool) (core : Columns) (s t k v : ℕ) → JournalsHold core → JournalsHold (tested_if b core s t k v)
tested true core s t k v p = record { plain = p.plain; rules = p.rules; numbered = p.numbered; last_changes = p.last_changes; wakes = p.wakes; last_runs = p.last_runs }
tested false core s t k v p = p

tests : (core : Columns) (s k : ℕ) (current : Option ℕ) → JournalsHold core → JournalsHold (test_by core s current k)
tests core s k None p = p
tests core s k (Some t) p = tested (core.has_slept s t) core s t k (core.cond k) p

pub JournalsHold-load_cond : (core : Columns) (s k : ℕ) → Holds core → MayBump core s k → JournalsHold (load_cond core s k)
JournalsHold-load_cond core s k holds may = tests core s k (core.current_task s) holds.journals
