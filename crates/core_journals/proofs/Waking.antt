-- Stores of a task's state and of its processor word.
use Rattle.std.proofs.Common.{◌≡◌, ◌≢◌, ℕ, inl, inr, length, Some, refl, sym, subst, ap, arith}
use Rattle.std.specs.Prelude.{◌==◌, Bool, true, false}
use Rattle.std.proofs.lemmas.Bool.{cases_eq}
use Rattle.core_data.specs.Columns.{Columns}
use Rattle.core_invariant.specs.Invariant.{Holds}
use Rattle.core_invariant.specs.Journals.{JournalsHold}
use Rattle.core_journals.proofs.Columns.{Numbered-log, LastChanges-log, LastChanges-state, LastChanges-cpu, Wakes-state, Wakes-wake, LastRuns-log, LastRuns-cpu}
use Rattle.core_journals.proofs.Next.{next-wake}
use Rattle.core_journals.proofs.Rows.{LastRow, last-row}
use Rattle.core_journals.proofs.RowsKept.{LastRow-queued, LastRow-new, LastRow-wakes}
use Rattle.core_journals.proofs.RulesLog.{RulesKept-log, plain-log}
use Rattle.core_journals.proofs.Running.{past, log, in_tasks}
use Rattle.core_journals.proofs.States.{waking-runnable, waking-sleep, waking-dead, sleep-dead}
use Rattle.core_kinds.specs.Steps.{running, waking, dead, is_sleep}
use Rattle.core_kinds.specs.Waking.{MaySetState, set_state, slept_if, ran_if, MayClaim, claim, MayMakeRunnable, make_runnable, MayStoreCpu, store_cpu}
use Rattle.handoff_data.specs.Positions.{Stands}
use Rattle.handoff_data.specs.declared.entry.Entry.{Entry}
use Rattle.handoff_data.specs.declared.entry.Entry.TheVariants as entry
use Rattle.handoff_data.specs.declared.state.State.{State}

-- a state is stored of a queued task
queued-row : (core : Columns) (t : ℕ) (state : State) → JournalsHold core → core.on_rq t ≡ 1 → LastRow (past core) t state (core.on_rq t) (core.changes t) (core.cpu t) (core.on_cpu t) (core.lock t)
queued-row core t state p queued =
    subst (λ o. LastRow (past core) t state o (core.changes t) (core.cpu t) (core.on_cpu t) (core.lock t)) (sym queued) (LastRow-queued t _ _ _ _ _ (p.last_changes.queued t queued))

slept : (b : Bool) (core : Columns) (s t : ℕ) → JournalsHold core → JournalsHold (slept_if b core s t)
slept true core s t p = record { plain = p.plain; rules = p.rules; numbered = p.numbered; last_changes = p.last_changes; wakes = p.wakes; last_runs = p.last_runs }
slept false core s t p = p

ran : (b : Bool) (core : Columns) (s t : ℕ) → JournalsHold core → JournalsHold (ran_if b core s t)
ran true core s t p = record { plain = p.plain; rules = p.rules; numbered = p.numbered; last_changes = p.last_changes; wakes = p.wakes; last_runs = p.last_runs }
ran false core s t p = p

pub JournalsHold-set_state : (core : Columns) (s t : ℕ) (state : State) → Holds core → MaySetState core s t state → JournalsHold (set_state core s t state)
JournalsHold-set_state core s t state holds may =
    let p = holds.journals in
    let off : (core.on_rq t ≡ 0 → ⊥) = λ h. let r = may.queued in omega (arith, h, r) in
    ran (state.0 == 0) _ s t (slept (is_sleep state) _ s t (record {
      plain = p.plain;
      rules = p.rules;
      numbered = p.numbered;
      last_changes = LastChanges-state t state (queued-row core t state p may.queued) p.last_changes;
      wakes = Wakes-state t state (λ h w. off h) (λ h w. off h) p.wakes;
      last_runs = p.last_runs;
    }))

-- a task whose state was read as one that matches, and `on_rq` as 0, is asleep
pub claims-sleeper : (core : Columns) (s t : ℕ) → Holds core → MayClaim core s t → (core.on_rq t ≡ 0) × (is_sleep (core.state t) ≡ true) × (core.changes t ≢ 0)
claims-sleeper core s t holds may =
    let m = holds.positions.matched in
    let unstored = m.saw_after s t may.saw_off in
    let off = m.off s t may.locked may.saw_off in
    (off, elim (m.stands s t may.locked unstored) [ inl a ↦ absurd (omega (arith, a, off)) | inr b ↦ b.1 ], m.started s t may.locked unstored)

pub JournalsHold-claim : (core : Columns) (s t : ℕ) → Holds core → MayClaim core s t → JournalsHold (claim core s t)
JournalsHold-claim core s t holds may =
    let e : Entry = entry.Wake t (core.changes t) in
    let l = log core s e may.seat in
    let p = holds.journals in
    let sleeper = claims-sleeper core s t holds may in
    let awake : core.state t ≢ waking = λ w. waking-sleep (core.state t) w sleeper.1 in
    let alive : core.state t ≢ dead = sleep-dead (core.state t) sleeper.1 in
    let first : ((k i : ℕ) → Stands (past core) k i e → ⊥) = λ k i h. elim (p.wakes.past k i t (core.changes t) h) [ inl a ↦ omega (arith, a) | inr b ↦ awake b.2 ] in
    let new = next-wake (past core) s (length (core.journal s)) t (core.changes t) (in_tasks core t may.task) (p.last_changes.off t sleeper.2 sleeper.0 alive) first in
    let changes = LastChanges-log l p.last_changes in
    record {
      plain = plain-log l p.plain new.plain;
      rules = RulesKept-log l p.rules new;
      numbered = Numbered-log l refl refl p.numbered;
      last_changes = LastChanges-state t waking (LastRow-wakes alive (last-row changes t)) changes;
      wakes = Wakes-wake t l sleeper.0 awake may.locked p.wakes;
      last_runs = LastRuns-log l p.last_runs;
    }

-- TASK_RUNNING is no state of a task that is on its way to a queue
running-waking : running ≡ waking → ⊥
running-waking h = let q = ap (λ (y : State). y.0) h in omega (arith, q)

make_runnable-queued : (core : Columns) (s t : ℕ) → JournalsHold core → core.on_rq t ≡ 1 → JournalsHold (make_runnable core s t)
make_runnable-queued core s t p queued =
    record {
      plain = p.plain;
      rules = p.rules;
      numbered = p.numbered;
      last_changes = LastChanges-state t running (queued-row core t running p queued) p.last_changes;
      wakes = Wakes-state t running (λ h w. absurd (omega (arith, h, queued))) (λ h w. absurd (omega (arith, h, queued))) p.wakes;
      last_runs = p.last_runs;
    }

make_runnable-new : (core : Columns) (s t : ℕ) → Holds core → core.changes t ≡ 0 → JournalsHold (make_runnable core s t)
make_runnable-new core s t holds never =
    let p = holds.journals in
    record {
      plain = p.plain;
      rules = p.rules;
      numbered = p.numbered;
      last_changes = LastChanges-state t running (LastRow-new running never (last-row p.last_changes t)) p.last_changes;
      wakes = Wakes-state t running (λ h w. waking-runnable (core.state t) w (holds.places.new_states.runnable t never)) (λ h w. running-waking w) p.wakes;
      last_runs = p.last_runs;
    }

pub JournalsHold-make_runnable : (core : Columns) (s t : ℕ) → Holds core → MayMakeRunnable core s t → JournalsHold (make_runnable core s t)
JournalsHold-make_runnable core s t holds may = elim (may.ready) [
  | inl a ↦ make_runnable-new core s t holds a.1
  | inr b ↦ elim b [ inl a ↦ make_runnable-queued core s t holds.journals a.2 | inr a ↦ make_runnable-queued core s t holds.journals a.2 ]
]

-- a task that this seat has claimed, and whose busy word it has since read as clear, isn't busy
pub woken-idle : (core : Columns) (s t : ℕ) → Holds core → core.lock t ≡ Some s → core.changes t ≢ 0 → core.on_rq t ≡ 0 → core.state t ≡ waking → core.saw_clear s t ≡ true → core.on_cpu t ≡ false
woken-idle core s t holds locked m off w clear = elim (holds.places.off t m off) [
  | inl a ↦ absurd (waking-sleep (core.state t) w a)
  | inr b ↦ elim b [
    | inl a ↦ absurd (waking-dead (core.state t) w a)
    | inr a ↦
        let held = a.1.1 in
        let same : a.1.0 ≡ s = grind (arith, locked, held) in
        holds.positions.claimed.idle s t (subst (λ z. core.is_claimed z t ≡ true) same a.1.2) clear
  ]
]

-- where its processor word may be stored, a task isn't busy, nor queued, nor asleep
pub record IsPlacedAnew (core : Columns) (t : ℕ) : Type 0 where
  pub off : core.on_rq t ≢ 1
  pub idle : core.on_cpu t ≡ false
  pub woken : core.changes t ≢ 0 → core.on_rq t ≡ 0 → core.state t ≡ waking

pub placed-anew : (core : Columns) (s t c : ℕ) → Holds core → MayStoreCpu core s t c → IsPlacedAnew core t
placed-anew core s t c holds may = elim (cases_eq (core.changes t) 0) [
  | inl z ↦ let on = holds.places.new.off t z in record { off = λ h. omega (arith, h, on); idle = holds.places.new.idle t z; woken = λ m h. absurd (m z) }
  | inr m ↦ elim (may.placeable) [
    | inl z ↦ absurd (m z)
    | inr b ↦ elim b [
      | inl w ↦ record { off = λ h. let on = w.0 in omega (arith, h, on); idle = woken-idle core s t holds may.locked m w.0 w.1 w.2; woken = λ n h. w.1 }
      | inr two ↦ record { off = λ h. omega (arith, h, two); idle = holds.places.moving.idle t two; woken = λ n h. absurd (omega (arith, h, two)) }
    ]
  ]
]

pub JournalsHold-store_cpu : (core : Columns) (s t c : ℕ) → Holds core → MayStoreCpu core s t c → JournalsHold (store_cpu core s t c)
JournalsHold-store_cpu core s t c holds may =
    let p = holds.journals in
    let place = placed-anew core s t c holds may in
    record {
      plain = p.plain;
      rules = p.rules;
      numbered = p.numbered;
      last_changes = LastChanges-cpu t c place.off (λ h. place.idle) place.woken p.last_changes;
      wakes = p.wakes;
      last_runs = LastRuns-cpu t c place.idle p.last_runs;
    }
