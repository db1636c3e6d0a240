-- Running steps: stores of the queue word and of the busy word of a task, each with its entry.
use Rattle.std.proofs.Common.{◌≡◌, ◌≢◌, ℕ, ◌+◌, ◌<◌, inl, inr, ◌++◌, ◌∷◌, [], length, Option, Some, None, refl, sym, subst, ap, arith}
use Rattle.std.specs.Prelude.{◌^◌, true, false}
use Rattle.std.proofs.lemmas.Bool.{cases_eq}
use Rattle.std.proofs.lemmas.Bool.Decides.{nat_tests}
use Rattle.core_data.specs.Queue.{Queue}
use Rattle.core_data.specs.Columns.{Columns, put}
use Rattle.core_invariant.proofs.Logs.{Logged, logged, history-tasks, history-cpus}
use Rattle.core_invariant.specs.Histories.{history}
use Rattle.core_invariant.specs.Invariant.{Holds}
use Rattle.core_invariant.specs.Journals.{JournalsHold}
use Rattle.core_journals.proofs.Columns.{IsNoWake, Numbered-change, Numbered-run, LastChanges-change, LastChanges-log, LastChanges-busy, Wakes-change, Wakes-log, LastRuns-log, LastRuns-run}
use Rattle.core_journals.proofs.Next.{next-new, next-enq, next-in, next-out, next-sleep, next-die, next-pick, next-finish, running-now}
use Rattle.core_journals.proofs.Rows.{LastRow, last-row}
use Rattle.core_journals.proofs.RowsKept.{LastRow-queued, LastRow-moving, LastRow-sleeps, LastRow-dies, LastRow-clear, RunRow-pick, RunRow-finish}
use Rattle.core_journals.proofs.RulesLog.{IsNext, RulesKept-log, plain-log}
use Rattle.core_journals.proofs.States.{waking-sleep, waking-dead, sleep-dead}
use Rattle.core_kinds.specs.Running.{store_rq, MayQueue, queue_entry, queue_task, MayLeave, MayDequeue, dequeue_entry, dequeue_task, MayMove, move_task, MaySetBusy, set_busy, MayClearBusy, clear_busy}
use Rattle.core_kinds.specs.Steps.{waking, dead, is_sleep}
use Rattle.handoff_data.specs.History.{History}
use Rattle.handoff_data.specs.Numbers.{change_of, run_of}
use Rattle.handoff_data.specs.Positions.{Stands, IsIn}
use Rattle.handoff_data.specs.Rules.{IsQueued, IsListed, IsRunning}
use Rattle.handoff_data.specs.declared.entry.Entry.{Entry}
use Rattle.handoff_data.specs.declared.entry.Entry.TheVariants as entry
use Rattle.handoff_data.specs.declared.state.State.{State}

-- the journals, and those with one entry more
abbrev pub past : Columns → History
past core = history core.cpus core.tasks core.seats core.journal

abbrev pub with_entry : Columns → ℕ → Entry → History
with_entry core s e = history core.cpus core.tasks core.seats (put core.journal s (core.journal s ++ e ∷ []))

pub log : (core : Columns) (s : ℕ) (e : Entry) → s < core.seats → Logged (past core) (with_entry core s e) s (length (core.journal s)) e
log core s e seat = logged core.cpus core.tasks core.seats core.journal s e seat

pub in_tasks : (core : Columns) (t : ℕ) → t < core.tasks → t < (past core).tasks
in_tasks core t h = subst (λ x. t < x) (sym (history-tasks core.cpus core.tasks core.seats core.journal)) h

pub in_cpus : (core : Columns) (c : ℕ) → c < core.cpus → c < (past core).cpus
in_cpus core c h = subst (λ x. c < x) (sym (history-cpus core.cpus core.tasks core.seats core.journal)) h

pub within : (core : Columns) (s i : ℕ) (x : Entry) → s < core.seats → Stands (past core) s i x → i < length (core.journal s)
within core s i x seat h = (log core s x seat).within i x h

-- a task that was queued has changed
pub queued-some : (core : Columns) (t : ℕ) → Holds core → core.on_rq t ≢ 0 → core.changes t ≢ 0
queued-some core t holds on z = on (holds.places.new.off t z)

-- a queue word is stored with the entry of its change
stored : (core : Columns) (s t on : ℕ) (e : Entry) → s < core.seats → core.changes t < 2 ^ 60 → IsNext (past core) s (length (core.journal s)) e → change_of e ≡ Some (t, core.changes t + 1)
    → run_of e ≡ None → IsNoWake e
    → (on ≡ 0 → core.state t ≢ waking) → LastRow (with_entry core s e) t (core.state t) on (core.changes t + 1) (core.cpu t) (core.on_cpu t) (core.lock t) → JournalsHold core
    → JournalsHold (store_rq core s t on e)
stored core s t on e seat room new change no-run no-wake still row p =
    let l = log core s e seat in
    record {
      plain = plain-log l p.plain new.plain;
      rules = RulesKept-log l p.rules new;
      numbered = Numbered-change t l change no-run room p.numbered;
      last_changes = LastChanges-change t on (core.changes t + 1) l row p.last_changes;
      wakes = Wakes-change t on l new.no_list no-wake still p.wakes;
      last_runs = LastRuns-log l p.last_runs;
    }

queue-new : (core : Columns) (s c t : ℕ) → Holds core → MayQueue core s c t → core.changes t ≡ 0 → JournalsHold (store_rq core s t 1 (entry.New t (core.changes t + 1) c))
queue-new core s c t holds may never =
    let e : Entry = entry.New t (core.changes t + 1) c in
    let l = log core s e may.seat in
    let p = holds.journals in
    let queued : IsQueued (with_entry core s e) t (core.changes t + 1) (core.cpu t) =
    subst (λ z. IsQueued (with_entry core s e) t (core.changes t + 1) z) (sym may.here) (inl (s, (length (core.journal s), l.new))) in
    stored core s t 1 e may.seat may.room (next-new (past core) s (length (core.journal s)) t c p.numbered (in_tasks core t may.task) (in_cpus core c may.processor) never) refl refl
    (λ u m q. grind (arith, q))
    (λ h. absurd (omega (arith, h))) (LastRow-queued t _ _ _ _ _ queued) p

queue-in : (core : Columns) (s c t : ℕ) → Holds core → MayQueue core s c t → core.on_rq t ≡ 2 → JournalsHold (store_rq core s t 1 (entry.In t (core.changes t + 1) c))
queue-in core s c t holds may moving =
    let e : Entry = entry.In t (core.changes t + 1) c in
    let l = log core s e may.seat in
    let p = holds.journals in
    let queued : IsQueued (with_entry core s e) t (core.changes t + 1) (core.cpu t) =
    subst (λ z. IsQueued (with_entry core s e) t (core.changes t + 1) z) (sym may.here) (inr (inl (s, (length (core.journal s), l.new)))) in
    let out = p.last_changes.moving t s moving may.task_locked in
    let some = queued-some core t holds (λ z. omega (arith, z, moving)) in
    stored core s t 1 e may.seat may.room (next-in (past core) s (length (core.journal s)) t c out.0 p.numbered (in_tasks core t may.task) (in_cpus core c may.processor) some out.1) refl refl
    (λ u m q. grind (arith, q))
    (λ h. absurd (omega (arith, h))) (LastRow-queued t _ _ _ _ _ queued) p

queue-enq : (core : Columns) (s c t : ℕ) → Holds core → MayQueue core s c t → core.changes t ≢ 0 → core.on_rq t ≡ 0 → core.state t ≡ waking
    → JournalsHold (store_rq core s t 1 (entry.Enq t (core.changes t + 1) c false))
queue-enq core s c t holds may some off woken =
    let e : Entry = entry.Enq t (core.changes t + 1) c false in
    let l = log core s e may.seat in
    let p = holds.journals in
    let queued : IsQueued (with_entry core s e) t (core.changes t + 1) (core.cpu t) =
    subst (λ z. IsQueued (with_entry core s e) t (core.changes t + 1) z) (sym may.here) (inr (inr (false, (s, (length (core.journal s), l.new))))) in
    let sleep = p.last_changes.off t some off (waking-dead (core.state t) woken) in
    let wake = p.wakes.present t s off woken may.task_locked in
    let unlisted : (IsListed (past core) t (core.changes t) → ⊥) = λ h. let r = p.wakes.listed h.2.0 h.2.1.0 t (core.changes t) h.0 h.1 h.2.1.1 in omega (arith, r) in
    stored core s t 1 e may.seat may.room
    (next-enq (past core) s (length (core.journal s)) t c p.numbered (in_tasks core t may.task) (in_cpus core c may.processor)
    some sleep (wake.0, within core s wake.0 _ may.seat wake.1, wake.1) unlisted) refl refl (λ u m q. grind (arith, q))
    (λ h. absurd (omega (arith, h))) (LastRow-queued t _ _ _ _ _ queued) p

pub entry-new : (changes on t c : ℕ) → changes ≡ 0 → entry.New t (changes + 1) c ≡ queue_entry changes on t c
entry-new changes on t c h = grind (arith, nat_tests, h)

pub entry-in : (changes on t c : ℕ) → changes ≢ 0 → on ≡ 2 → entry.In t (changes + 1) c ≡ queue_entry changes on t c
entry-in changes on t c h q = grind (arith, nat_tests, h, q)

pub entry-enq : (changes on t c : ℕ) → changes ≢ 0 → on ≢ 2 → entry.Enq t (changes + 1) c false ≡ queue_entry changes on t c
entry-enq changes on t c h q = grind (arith, nat_tests, h, q)

queue-some : (core : Columns) (s c t : ℕ) → Holds core → MayQueue core s c t → JournalsHold (store_rq core s t 1 (queue_entry (core.changes t) (core.on_rq t) t c))
queue-some core s c t holds may = elim (cases_eq (core.changes t) 0) [
  | inl z ↦ subst (λ e. JournalsHold (store_rq core s t 1 e)) (entry-new (core.changes t) (core.on_rq t) t c z) (queue-new core s c t holds may z)
  | inr m ↦ elim (cases_eq (core.on_rq t) 2) [
    | inl h ↦ subst (λ e. JournalsHold (store_rq core s t 1 e)) (entry-in (core.changes t) (core.on_rq t) t c m h) (queue-in core s c t holds may h)
    | inr h ↦ subst (λ e. JournalsHold (store_rq core s t 1 e)) (entry-enq (core.changes t) (core.on_rq t) t c m h) (elim (may.ready) [
      | inl z ↦ absurd (m z)
      | inr r ↦ elim r [ inl w ↦ queue-enq core s c t holds may m w.0 w.1 | inr b ↦ absurd (h b) ]
    ])
  ]
]

pub JournalsHold-queue_task : (core : Columns) (s c t : ℕ) → Holds core → MayQueue core s c t → JournalsHold (queue_task core s c t)
JournalsHold-queue_task core s c t holds may =
    let p = queue-some core s c t holds may in record { plain = p.plain; rules = p.rules; numbered = p.numbered; last_changes = p.last_changes; wakes = p.wakes; last_runs = p.last_runs }

-- the current task runs, by the journal of its seat
runs-here : (core : Columns) (s t : ℕ) → Holds core → s < core.seats → core.current_task s ≡ Some t → IsRunning (past core) s (length (core.journal s)) t
runs-here core s t holds seat current =
    let p = holds.journals in
    running-now (past core) s (length (core.journal s)) t p.last_runs p.numbered p.rules.rises_in_journal (holds.busy.runner.current_busy s t current) (holds.busy.runner.current_here s t current)
    (λ i x. within core s i x seat)

dequeue-sleep : (core : Columns) (s t : ℕ) → Holds core → MayDequeue core s s t → is_sleep (core.state t) ≡ true → JournalsHold (store_rq core s t 0 (entry.Sleep t (core.changes t + 1) s))
dequeue-sleep core s t holds may asleep =
    let e : Entry = entry.Sleep t (core.changes t + 1) s in
    let l = log core s e may.seat in
    let p = holds.journals in
    let some = queued-some core t holds (λ z. let r = may.queued in omega (arith, z, r)) in
    let queued = subst (λ z. IsQueued (past core) t (core.changes t) z) may.here (p.last_changes.queued t may.queued) in
    let sleep : IsIn (with_entry core s e) (core.cpu t) (entry.Sleep t (core.changes t + 1) (core.cpu t)) =
    subst (λ z. IsIn (with_entry core s e) z (entry.Sleep t (core.changes t + 1) z)) (sym may.here) (length (core.journal s), l.new) in
    stored core s t 0 e may.seat may.room
    (next-sleep (past core) s (length (core.journal s)) t p.numbered (in_tasks core t may.task) (in_cpus core s may.processor) some queued (runs-here core s t holds may.seat may.current)) refl refl
    (λ u m q. grind (arith, q))
    (λ h w. waking-sleep (core.state t) w asleep) (LastRow-sleeps t _ _ _ _ _ (sleep-dead (core.state t) asleep) sleep) p

dequeue-die : (core : Columns) (s t : ℕ) → Holds core → MayDequeue core s s t → core.state t ≡ dead → JournalsHold (store_rq core s t 0 (entry.Die t (core.changes t + 1) s))
dequeue-die core s t holds may ended =
    let e : Entry = entry.Die t (core.changes t + 1) s in
    let l = log core s e may.seat in
    let p = holds.journals in
    let some = queued-some core t holds (λ z. let r = may.queued in omega (arith, z, r)) in
    let queued = subst (λ z. IsQueued (past core) t (core.changes t) z) may.here (p.last_changes.queued t may.queued) in
    let die : IsIn (with_entry core s e) (core.cpu t) (entry.Die t (core.changes t + 1) (core.cpu t)) =
    subst (λ z. IsIn (with_entry core s e) z (entry.Die t (core.changes t + 1) z)) (sym may.here) (length (core.journal s), l.new) in
    stored core s t 0 e may.seat may.room
    (next-die (past core) s (length (core.journal s)) t p.numbered (in_tasks core t may.task) (in_cpus core s may.processor) some queued (runs-here core s t holds may.seat may.current)) refl refl
    (λ u m q. grind (arith, q))
    (λ h w. waking-dead (core.state t) w ended) (LastRow-dies t _ _ _ _ _ ended die) p

pub entry-sleep : (x : State) (changes t c : ℕ) → is_sleep x ≡ true → entry.Sleep t (changes + 1) c ≡ dequeue_entry (Some x) changes t c
entry-sleep x changes t c h = grind (arith, nat_tests, h)

pub entry-die : (x : State) (changes t c : ℕ) → x ≡ dead → entry.Die t (changes + 1) c ≡ dequeue_entry (Some x) changes t c
entry-die x changes t c h = let q = ap (λ (y : State). y.0) h in grind (arith, nat_tests, q)

dequeue-seen : (core : Columns) (s t : ℕ) (seen : Option State) → Holds core → MayDequeue core s s t → core.seen_state s ≡ seen → MayLeave seen (core.count t)
    → JournalsHold (store_rq core s t 0 (dequeue_entry seen (core.changes t) t s))
dequeue-seen core s t None holds may q h = absurd h
dequeue-seen core s t (Some x) holds may q h =
    let is = holds.positions.seen.is s t x may.current may.queued q in
    elim h [
      | inl a ↦ subst (λ e. JournalsHold (store_rq core s t 0 e)) (entry-sleep x (core.changes t) t s a) (dequeue-sleep core s t holds may (subst (λ y. is_sleep y ≡ true) (sym is) a))
      | inr b ↦ subst (λ e. JournalsHold (store_rq core s t 0 e)) (entry-die x (core.changes t) t s b.0) (dequeue-die core s t holds may (subst (λ y. y ≡ dead) (sym is) b.0))
    ]

dequeue-own : (core : Columns) (s t : ℕ) → Holds core → MayDequeue core s s t → JournalsHold (dequeue_task core s s t)
dequeue-own core s t holds may =
    let p = dequeue-seen core s t (core.seen_state s) holds may refl may.seen in record {
      plain = p.plain;
      rules = p.rules;
      numbered = p.numbered;
      last_changes = p.last_changes;
      wakes = p.wakes;
      last_runs = p.last_runs;
    }

pub JournalsHold-dequeue_task : (core : Columns) (s c t : ℕ) → Holds core → MayDequeue core s c t → JournalsHold (dequeue_task core s c t)
JournalsHold-dequeue_task core s c t holds may = subst (λ z. MayDequeue core s z t → JournalsHold (dequeue_task core s z t)) may.own (dequeue-own core s t holds) may

pub JournalsHold-move_task : (core : Columns) (s c t : ℕ) (val : Queue) → Holds core → MayMove core s c t val → JournalsHold (move_task core s c t)
JournalsHold-move_task core s c t val holds may =
    let e : Entry = entry.Out t (core.changes t + 1) c in
    let l = log core s e may.seat in
    let old = holds.journals in
    let some = queued-some core t holds (λ z. let r = may.queued in omega (arith, z, r)) in
    let queued = subst (λ z. IsQueued (past core) t (core.changes t) z) may.here (old.last_changes.queued t may.queued) in
    let p = stored core s t 2 e may.seat may.room (next-out (past core) s (length (core.journal s)) t c old.numbered (in_tasks core t may.task) (in_cpus core c may.processor) some queued) refl refl
    (λ u m q. grind (arith, q))
    (λ h. absurd (omega (arith, h))) (LastRow-moving s t _ _ _ c _ _ may.task_locked (length (core.journal s), l.new)) old in
    record { plain = p.plain; rules = p.rules; numbered = p.numbered; last_changes = p.last_changes; wakes = p.wakes; last_runs = p.last_runs }

busy-own : (core : Columns) (s t : ℕ) (val : Queue) → Holds core → MaySetBusy core s s t val → JournalsHold (set_busy core s s t)
busy-own core s t val holds may =
    let e : Entry = entry.Pick t (core.runs t + 1) s in
    let l = log core s e may.seat in
    let p = holds.journals in
    let new = next-pick (past core) s (length (core.journal s)) t p.numbered (in_tasks core t may.task) (in_cpus core s may.processor) (p.last_runs.idle_even t may.idle)
    (p.last_runs.idle t may.idle) in
    let changes = LastChanges-log l p.last_changes in
    let row = subst (λ o. LastRow (with_entry core s e) t (core.state t) o (core.changes t) (core.cpu t) true (core.lock t)) (sym may.queued)
    (LastRow-queued t _ _ _ _ _ (changes.queued t may.queued)) in
    let pick : IsIn (with_entry core s e) (core.cpu t) (entry.Pick t (core.runs t + 1) (core.cpu t)) =
    subst (λ z. IsIn (with_entry core s e) z (entry.Pick t (core.runs t + 1) z)) (sym may.here) (length (core.journal s), l.new) in
    record {
      plain = plain-log l p.plain new.plain;
      rules = RulesKept-log l p.rules new;
      numbered = Numbered-run t l refl refl may.room p.numbered;
      last_changes = LastChanges-busy t true row changes;
      wakes = Wakes-log l new.no_list (λ u m q. grind (arith, q)) p.wakes;
      last_runs = LastRuns-run t true (core.runs t + 1) l (RunRow-pick t (core.runs t) (core.cpu t) (p.last_runs.idle_even t may.idle) pick) p.last_runs;
    }

pub JournalsHold-set_busy : (core : Columns) (s c t : ℕ) (val : Queue) → Holds core → MaySetBusy core s c t val → JournalsHold (set_busy core s c t)
JournalsHold-set_busy core s c t val holds may = subst (λ z. MaySetBusy core s z t val → JournalsHold (set_busy core s z t)) may.own (busy-own core s t val holds) may

pub JournalsHold-clear_busy : (core : Columns) (s t : ℕ) → Holds core → MayClearBusy core s t → JournalsHold (clear_busy core s t)
JournalsHold-clear_busy core s t holds may =
    let e : Entry = entry.Finish t (core.runs t + 1) s in
    let l = log core s e may.seat in
    let p = holds.journals in
    let busy = holds.busy.runner.left_busy s t may.left in
    let here = holds.busy.runner.left_here s t may.left in
    let cpu = subst (λ z. z < core.cpus) here (holds.shapes.cpu t may.task) in
    let pick : IsIn (past core) s (entry.Pick t (core.runs t) s) = subst (λ z. IsIn (past core) z (entry.Pick t (core.runs t) z)) here (p.last_runs.busy t busy) in
    let new = next-finish (past core) s (length (core.journal s)) t p.numbered (in_tasks core t may.task) (in_cpus core s cpu) (p.last_runs.busy_odd t busy) (
      pick.0,
      within core s pick.0 _ may.seat pick.1,
      pick.1,
    ) in
    let changes = LastChanges-log l p.last_changes in
    record {
      plain = plain-log l p.plain new.plain;
      rules = RulesKept-log l p.rules new;
      numbered = Numbered-run t l refl refl may.room p.numbered;
      last_changes = LastChanges-busy t false (LastRow-clear (last-row changes t)) changes;
      wakes = Wakes-log l new.no_list (λ u m q. grind (arith, q)) p.wakes;
      last_runs = LastRuns-run t false (core.runs t + 1) l (RunRow-finish t (core.runs t) (core.cpu t) s (p.last_runs.busy_odd t busy) (s, (length (core.journal s), l.new))) p.last_runs;
    }
