-- Steps that store a word of a task: who may, what happens to a dead task, and what the seat has read.
use Rattle.std.proofs.Common.{◌≡◌, ◌≢◌, ℕ, ◌⊎◌, inl, inr, ◌+◌, true, false, Some, None, refl, sym, ap, ◌∙◌, subst, arith}
use Rattle.std.proofs.lemmas.Bool.{cases_eq}
use Rattle.std.proofs.lemmas.Bool.Decides.{nat_tests}
use Rattle.core_data.specs.Columns.{Columns, put_at}
use Rattle.core_data.specs.declared.pos.TaskReads.{TaskReads}
use Rattle.core_invariant.proofs.Puts.{put_there}
use Rattle.core_invariant.specs.Invariant.{Holds}
use Rattle.core_kinds.specs.Running.{queue_task, dequeue_task, move_task, set_busy, clear_busy}
use Rattle.core_kinds.specs.Steps.{running, waking, dead, kept_reads, numbered_reads}
use Rattle.core_kinds.specs.Waking.{MaySetState, set_state, MayClaim, claim, IsReadyToRun, MayMakeRunnable, make_runnable, store_cpu, cpu_read}
use Rattle.core_law.specs.StepLaws.{KeepsTheDead, StoresItsStates, EndsReads, HasSameWords, IsUnread}
use Rattle.core_locks.proofs.Branches.{IsOwnFree, set_state-keeps}
use Rattle.core_places.proofs.Facts.{idle_apart}
use Rattle.core_places.proofs.LastReads.{reads_here}
use Rattle.handoff_data.specs.declared.state.State.{State}

-- ---- reads

ends : (core next : Columns) (s t : ℕ) → ((u : ℕ) → u ≢ t → HasSameWords core next u) → IsUnread (next.last_reads s t) → EndsReads s core next
ends core next s t same unread u =
    elim (cases_eq u t) [
      | inl q ↦ inr (subst (λ z. IsUnread (next.last_reads s z)) (sym q) unread)
      | inr q ↦ inl (same u q)
    ]

unread : (reads : ℕ → ℕ → TaskReads) (s t : ℕ) (r : TaskReads) → r.state ≡ None → r.rq ≡ None → r.busy ≡ None → IsUnread (put_at reads s t r s t)
unread reads s t r state rq busy =
    let here = reads_here reads s t r s t refl refl in
    record {
      state = ap (λ (x : TaskReads). x.state) here ∙ state;
      rq = ap (λ (x : TaskReads). x.rq) here ∙ rq;
      busy = ap (λ (x : TaskReads). x.busy) here ∙ busy;
    }

pub ends-queue_task : (core : Columns) (s c t : ℕ) → EndsReads s core (queue_task core s c t)
ends-queue_task core s c t =
    ends core (queue_task core s c t) s t
    (λ u other. record { state = refl; on_rq = put_there core.on_rq t 1 u other; changes = put_there core.changes t (core.changes t + 1) u other; on_cpu = refl; cpu = refl })
    (unread core.last_reads s t (numbered_reads t (core.changes t + 1) (core.last_reads s t)) refl refl refl)

pub ends-dequeue_task : (core : Columns) (s c t : ℕ) → EndsReads s core (dequeue_task core s c t)
ends-dequeue_task core s c t =
    ends core (dequeue_task core s c t) s t
    (λ u other. record { state = refl; on_rq = put_there core.on_rq t 0 u other; changes = put_there core.changes t (core.changes t + 1) u other; on_cpu = refl; cpu = refl })
    (unread core.last_reads s t (numbered_reads t (core.changes t + 1) (core.last_reads s t)) refl refl refl)

pub ends-move_task : (core : Columns) (s c t : ℕ) → EndsReads s core (move_task core s c t)
ends-move_task core s c t =
    ends core (move_task core s c t) s t
    (λ u other. record { state = refl; on_rq = put_there core.on_rq t 2 u other; changes = put_there core.changes t (core.changes t + 1) u other; on_cpu = refl; cpu = refl })
    (unread core.last_reads s t (numbered_reads t (core.changes t + 1) (core.last_reads s t)) refl refl refl)

pub ends-set_busy : (core : Columns) (s c t : ℕ) → EndsReads s core (set_busy core s c t)
ends-set_busy core s c t =
    ends core (set_busy core s c t) s t (λ u other. record { state = refl; on_rq = refl; changes = refl; on_cpu = put_there core.on_cpu t true u other; cpu = refl })
    (unread core.last_reads s t (kept_reads t (core.last_reads s t)) refl refl refl)

pub ends-clear_busy : (core : Columns) (s t : ℕ) → EndsReads s core (clear_busy core s t)
ends-clear_busy core s t =
    ends core (clear_busy core s t) s t (λ u other. record { state = refl; on_rq = refl; changes = refl; on_cpu = put_there core.on_cpu t false u other; cpu = refl })
    (unread core.last_reads s t (kept_reads t (core.last_reads s t)) refl refl refl)

pub ends-claim : (core : Columns) (s t : ℕ) → EndsReads s core (claim core s t)
ends-claim core s t =
    ends core (claim core s t) s t (λ u other. record { state = put_there core.state t waking u other; on_rq = refl; changes = refl; on_cpu = refl; cpu = refl })
    (unread core.last_reads s t (kept_reads t (core.last_reads s t)) refl refl refl)

pub ends-make_runnable : (core : Columns) (s t : ℕ) → EndsReads s core (make_runnable core s t)
ends-make_runnable core s t =
    ends core (make_runnable core s t) s t (λ u other. record { state = put_there core.state t running u other; on_rq = refl; changes = refl; on_cpu = refl; cpu = refl })
    (unread core.last_reads s t (kept_reads t (core.last_reads s t)) refl refl refl)

pub ends-store_cpu : (core : Columns) (s t c : ℕ) → EndsReads s core (store_cpu core s t c)
ends-store_cpu core s t c =
    let between = put_at core.last_reads s t (cpu_read t c (core.last_reads s t)) in
    ends core (store_cpu core s t c) s t (λ u other. record { state = refl; on_rq = refl; changes = refl; on_cpu = refl; cpu = put_there core.cpu t c u other })
    (unread between s t (kept_reads t (between s t)) refl refl refl)

own_same : (core : Columns) (u s t : ℕ) → IsOwnFree (λ next. HasSameWords core next u) s t
own_same core u s t = record { forget = λ next x y p. assumption p; slept = λ next p. assumption p; passed = λ next p. assumption p }

own_unread : (s t : ℕ) → IsOwnFree (λ next. IsUnread (next.last_reads s t)) s t
own_unread s t = record { forget = λ next x y p. p; slept = λ next p. p; passed = λ next p. p }

pub ends-set_state : (core : Columns) (s t : ℕ) (state : State) → EndsReads s core (set_state core s t state)
ends-set_state core s t state =
    ends core (set_state core s t state) s t
    (λ u other. set_state-keeps (λ next. HasSameWords core next u) core s t state (own_same core u s t)
    (record { state = put_there core.state t state u other; on_rq = refl; changes = refl; on_cpu = refl; cpu = refl }))
    (set_state-keeps (λ next. IsUnread (next.last_reads s t)) core s t state (own_unread s t) (unread core.last_reads s t (kept_reads t (core.last_reads s t)) refl refl refl))

-- ---- states

-- what a state store leaves of the states of others
set_state-there : (core : Columns) (s t : ℕ) (state : State) (u : ℕ) → u ≢ t → (set_state core s t state).state u ≡ core.state u
set_state-there core s t state u other =
    set_state-keeps (λ next. next.state u ≡ core.state u) core s t state (record { forget = λ next x y p. p; slept = λ next p. p; passed = λ next p. p })
    (put_there core.state t state u other)

pub stores-set_state : (core : Columns) (s t : ℕ) (state : State) → MaySetState core s t state → StoresItsStates s core (set_state core s t state)
stores-set_state core s t state may u =
    elim (cases_eq u t) [
      | inl q ↦ inr (inl (may.current ∙ ap (λ z. Some z) (sym q)))
      | inr q ↦ inl (set_state-there core s t state u q)
    ]

pub stores-claim : (core : Columns) (s t : ℕ) → MayClaim core s t → StoresItsStates s core (claim core s t)
stores-claim core s t may u =
    elim (cases_eq u t) [
      | inl q ↦ inr (inr (inl (ap core.lock q ∙ may.locked)))
      | inr q ↦ inl (put_there core.state t waking u q)
    ]

pub stores-make_runnable : (core : Columns) (s t : ℕ) → MayMakeRunnable core s t → StoresItsStates s core (make_runnable core s t)
stores-make_runnable core s t may u =
    elim (cases_eq u t) [
      | inl q ↦
          inr (subst (λ z. (core.current_task s ≡ Some z) ⊎ ((core.lock z ≡ Some s) ⊎ ((core.queue_lock (core.cpu z) ≡ Some s) × (core.has_added s (core.cpu z) z ≡ true)))) (sym q)
          (inr (by may.ready)))
      | inr q ↦ inl (put_there core.state t running u q)
    ]
  where
    by : IsReadyToRun core s t → (core.lock t ≡ Some s) ⊎ ((core.queue_lock (core.cpu t) ≡ Some s) × (core.has_added s (core.cpu t) t ≡ true))
    by (inl a) = inl a.0
    by (inr (inl a)) = inl a.0
    by (inr (inr a)) = inr (a.0, a.1)

-- ---- dead tasks

pub dead-set_state : (core : Columns) (s t : ℕ) (state : State) → MaySetState core s t state → KeepsTheDead s core (set_state core s t state)
dead-set_state core s t state may u dead other =
    let apart : u ≢ t = λ q. other (may.current ∙ ap (λ z. Some z) (sym q)) in
    set_state-there core s t state u apart ∙ dead

pub dead-claim : (core : Columns) (s t : ℕ) → Holds core → MayClaim core s t → KeepsTheDead s core (claim core s t)
dead-claim core s t holds may u dead other =
    let matched = holds.positions.matched in
    let apart : u ≢ t = λ q. matched.alive s t may.locked (matched.saw_after s t may.saw_off) (ap core.state (sym q) ∙ dead) in
    put_there core.state t waking u apart ∙ dead

-- a task whose state another seat may store as TASK_RUNNING isn't dead
made_runnable_alive : (core : Columns) (s t : ℕ) → Holds core → IsReadyToRun core s t → core.state t ≢ dead
made_runnable_alive core s t holds (inl a) d = grind (arith, nat_tests, holds.places.new_states.runnable t a.1, d)
made_runnable_alive core s t holds (inr (inl a)) d = holds.positions.made_runnable s t a.0 a.1 a.2 a.4 d
made_runnable_alive core s t holds (inr (inr a)) d =
    elim (holds.places.waiting t a.2 (idle_apart core t holds a.3)) [
      | inl b ↦ grind (arith, nat_tests, b, d)
      | inr b ↦ grind (arith, b.0, d)
    ]

pub dead-make_runnable : (core : Columns) (s t : ℕ) → Holds core → MayMakeRunnable core s t → KeepsTheDead s core (make_runnable core s t)
dead-make_runnable core s t holds may u dead other =
    let apart : u ≢ t = λ q. made_runnable_alive core s t holds may.ready (ap core.state (sym q) ∙ dead) in
    put_there core.state t running u apart ∙ dead
