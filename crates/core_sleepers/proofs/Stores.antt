-- Stores of states, and picks.
use Rattle.std.proofs.Common.{◌≡◌, ◌≢◌, ℕ, ◌==◌, inl, inr, Bool, true, false, Some, None, refl, sym, ap, subst, ◌∙◌, arith}
use Rattle.std.proofs.lemmas.Bool.Decides.{nat_tests}
use Rattle.core_data.specs.Noted.{noted}
use Rattle.core_data.specs.Queue.{Queue}
use Rattle.core_data.specs.Columns.{Columns, put, put_at}
use Rattle.core_data.specs.declared.act.Act.TheVariants.{OwnStored, Slept, Passed}
use Rattle.core_invariant.proofs.Puts.{put_here}
use Rattle.core_gives.specs.Queues.{MayGiveQueue, give_queue, give_up_if, gives_up}
use Rattle.core_invariant.specs.Invariant.{Holds}
use Rattle.core_invariant.specs.Sleepers.{SleepersHold, IsAwake}
use Rattle.core_kinds.specs.Locks.{unseen}
use Rattle.core_kinds.specs.Running.{MaySetBusy, set_busy}
use Rattle.core_kinds.specs.Steps.{running, waking, dead, fresh, is_sleep, stored_word}
use Rattle.core_kinds.specs.Waking.{MaySetState, set_state, MayClaim, claim, MayMakeRunnable, make_runnable, slept_if, ran_if}
use Rattle.core_sleepers.proofs.Moves.{forgets, hold-forgets, states, hold-states, hold-passes, hold-stores, hold-slept, hold-picked, hold-current, hold-no_current, awake-no_sleep, awake-no_fresh}
use Rattle.handoff_data.specs.declared.state.State.{State}

-- an awake state stored, and the task passed
awake_passed : (core : Columns) (s t : ℕ) (new : State) → SleepersHold core → IsAwake new → SleepersHold (noted (states core t new) s (Passed t))
awake_passed core s t new h awake =
    let is = put_here core.state t new t refl in
    hold-passes (states core t new) s t
    (hold-states core t new h (awake-no_fresh new awake) (λ k. inl awake) (λ k a. awake-no_sleep new awake))
    (λ k. inl (subst (λ x. IsAwake x) (sym is) awake)) (ap (λ x. is_sleep x) is ∙ awake-no_sleep new awake)

pub SleepersHold-claim : (core : Columns) (s t : ℕ) → Holds core → MayClaim core s t → SleepersHold (claim core s t)
SleepersHold-claim core s t holds may = assumption (awake_passed core s t waking holds.sleepers (inr (inl refl)))

pub SleepersHold-make_runnable : (core : Columns) (s t : ℕ) → Holds core → MayMakeRunnable core s t → SleepersHold (make_runnable core s t)
SleepersHold-make_runnable core s t holds may = assumption (awake_passed core s t running holds.sleepers (inl refl))

-- an awake state stored by the task itself
awake_stored : (core : Columns) (s t : ℕ) (new : State) → SleepersHold core → IsAwake new → SleepersHold (noted (states core t new) s (OwnStored t))
awake_stored core s t new h awake =
    let is = put_here core.state t new t refl in
    hold-stores (states core t new) s t
    (hold-states core t new h (awake-no_fresh new awake) (λ k. inl awake) (λ k a. awake-no_sleep new awake))
    (λ k. inl (subst (λ x. IsAwake x) (sym is) awake))

own_running : (core : Columns) (s t : ℕ) → SleepersHold core → SleepersHold (set_state core s t running)
own_running core s t h =
    let is = put_here core.state t running t refl in
    assumption (hold-passes (noted (states core t running) s (OwnStored t)) s t (awake_stored core s t running h (inl refl)) (λ k. inl (inl is)) (ap (λ x. is_sleep x) is))

own_dead : (core : Columns) (s t : ℕ) → SleepersHold core → SleepersHold (set_state core s t dead)
own_dead core s t h = assumption (awake_stored core s t dead h (inr (inr refl)))

sleep-no_fresh : (x : State) → is_sleep x ≡ true → x ≢ fresh
sleep-no_fresh x h e = (let f = ap (λ y. is_sleep y) e in grind (arith, h, f))

-- a sleep state: the tests and sleeps of earlier are forgotten
slept_stored : (core : Columns) (s t : ℕ) (new : State) → SleepersHold core → core.cpu t ≡ s → is_sleep new ≡ true
    → SleepersHold (noted (noted (states (forgets core s t) t new) s (OwnStored t)) s (Slept t))
slept_stored core s t new h here sleep =
    let is = put_here core.state t new t refl in
    let none : (k : ℕ) → (forgets core s t).tested (core.cpu t) t k ≡ None = λ k. grind (arith, nat_tests, here) in
    let gone : (k : ℕ) → (forgets core s t).is_asleep (core.cpu t) t k ≡ true → is_sleep new ≡ false = λ k a. absurd (grind (arith, nat_tests, here, a)) in
    let stated = hold-states (forgets core s t) t new (hold-forgets core s t h) (sleep-no_fresh new sleep) (λ k. inr (none k)) gone in
    hold-slept (noted (states (forgets core s t) t new) s (OwnStored t)) s t (hold-stores (states (forgets core s t) t new) s t stated (λ k. inr (none k))) (λ e. sleep-no_fresh new sleep (sym is ∙ e))

own_slept : (core : Columns) (s t : ℕ) (new : State) → SleepersHold core → core.cpu t ≡ s → is_sleep new ≡ true → (r z : Bool) → r ≡ false → z ≡ true
    → SleepersHold (ran_if r (slept_if z (noted (stored_word (record core { state = put core.state t new; seen_state = put core.seen_state s None }) s t) s (OwnStored t)) s t) s t)
own_slept core s t new h here sleep true z p q = absurd (grind (arith, p))
own_slept core s t new h here sleep false false p q = absurd (grind (arith, q))
own_slept core s t new h here sleep false true p q = assumption (slept_stored core s t new h here sleep)

no_run : (x : State) → is_sleep x ≡ true → (x.0 == 0) ≡ false
no_run x h = grind (arith, nat_tests, h)

pub SleepersHold-set_state : (core : Columns) (s t : ℕ) (state : State) → Holds core → MaySetState core s t state → SleepersHold (set_state core s t state)
SleepersHold-set_state core s t state holds may =
    elim may.allowed [
      | inl e ↦ subst (λ x. SleepersHold (set_state core s t x)) (sym e) (own_running core s t holds.sleepers)
      | inr (inl z) ↦ own_slept core s t state holds.sleepers (holds.busy.runner.current_here s t may.current) z (state.0 == 0) (is_sleep state) (no_run state z) z
      | inr (inr d) ↦ subst (λ x. SleepersHold (set_state core s t x)) (sym d.0) (own_dead core s t holds.sleepers)
    ]

pub SleepersHold-set_busy : (core : Columns) (s c t : ℕ) (val : Queue) → Holds core → MaySetBusy core s c t val → SleepersHold (set_busy core s c t)
SleepersHold-set_busy core s c t val holds may =
    let here : core.cpu t ≡ s = may.here ∙ sym may.own in
    let none : (k : ℕ) → (forgets core s t).tested (core.cpu t) t k ≡ None = λ k. grind (arith, nat_tests, here) in
    let current = hold-current (forgets core s t) s t (hold-forgets core s t holds.sleepers) (λ k. inr (none k)) in
    assumption (hold-picked (record (forgets core s t) { current_task = put core.current_task s (Some t) }) s t current)

pub SleepersHold-give_queue : (core : Columns) (s c : ℕ) (queue : Queue) → Holds core → MayGiveQueue core s c queue → SleepersHold (give_queue core s c queue)
SleepersHold-give_queue core s c queue holds may = by (gives_up s c queue)
  where
    by : (b : Bool)
        → SleepersHold (unseen (give_up_if b (record core { queue_lock = put core.queue_lock c None; queue = put core.queue c (Some queue); queue_held = put_at core.queue_held s c None }) s) s c)
    by true = assumption (hold-no_current core s holds.sleepers)
    by false = assumption (holds.sleepers)
