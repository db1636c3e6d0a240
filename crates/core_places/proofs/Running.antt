-- What holds of queued tasks, and of those that are moved, step by step.
use Rattle.std.proofs.Common.{◌≡◌, ◌≢◌, ℕ, ◌⊎◌, inl, inr, Bool, true, false, Option, Some, None, refl, sym, ap, ◌∙◌, subst, arith}
use Rattle.std.specs.Prelude.{if◌then◌else◌, ◌==◌}
use Rattle.std.proofs.lemmas.Bool.{cases_eq}
use Rattle.std.proofs.lemmas.Bool.Decides.{nat_tests}
use Rattle.core_data.specs.Queue.{Queue, times_in}
use Rattle.core_data.specs.Columns.{put}
use Rattle.core_gives.specs.Queues.{IsQueueOf, times, is_some_of}
use Rattle.core_invariant.proofs.Puts.{put_here, put_there}
use Rattle.core_invariant.specs.Places.{CurrentTasks, WaitingTasks, MovingTasks}
use Rattle.core_kinds.specs.Steps.{waking, dead, is_sleep, IsRunnable}
use Rattle.handoff_data.specs.declared.state.State.{State}

-- a task's state as its own seat may leave it
abbrev IsOwn : State → Type 0
IsOwn x = IsRunnable x ⊎ ((is_sleep x ≡ true) ⊎ (x ≡ dead))

-- a task that no seat has as current is queued
pub CurrentTasks-queue : (state : ℕ → State) (on_rq : ℕ → ℕ) (current : ℕ → Option ℕ) (t : ℕ) → CurrentTasks state on_rq current → ((s : ℕ) → current s ≢ Some t)
    → CurrentTasks state (put on_rq t 1) current
CurrentTasks-queue state on_rq current t p idle s u c e =
    let other : u ≢ t = λ q. idle s (c ∙ ap Some q) in
    p s u c (sym (put_there on_rq t 1 u other) ∙ e)

-- a task is taken off its queue
pub CurrentTasks-off : (state : ℕ → State) (on_rq : ℕ → ℕ) (current : ℕ → Option ℕ) (t v : ℕ) → CurrentTasks state on_rq current → v ≢ 1
    → CurrentTasks state (put on_rq t v) current
CurrentTasks-off state on_rq current t v p off s u c e =
    let other : u ≢ t = λ q. off (sym (put_here on_rq t v u q) ∙ e) in
    p s u c (sym (put_there on_rq t v u other) ∙ e)

pub CurrentTasks-pick : (state : ℕ → State) (on_rq : ℕ → ℕ) (current : ℕ → Option ℕ) (s t : ℕ) → CurrentTasks state on_rq current → IsRunnable (state t)
    → CurrentTasks state on_rq (put current s (Some t))
CurrentTasks-pick state on_rq current s t p ready k u c e =
    elim (cases_eq k s) [
      | inl q ↦ let same : u ≡ t = cc (put_here current s (Some t) k q) in inl (subst (λ z. IsRunnable (state z)) (sym same) ready)
      | inr q ↦ p k u (sym (put_there current s (Some t) k q) ∙ c) e
    ]

pub CurrentTasks-state : (state : ℕ → State) (on_rq : ℕ → ℕ) (current : ℕ → Option ℕ) (t : ℕ) (x : State) → CurrentTasks state on_rq current → (on_rq t ≢ 1) ⊎ IsOwn x
    → CurrentTasks (put state t x) on_rq current
CurrentTasks-state state on_rq current t x p by k u c e =
    elim (cases_eq u t) [
      | inl q ↦ elim by [ inl off ↦ absurd (off (ap on_rq (sym q) ∙ e)) | inr own ↦ subst IsOwn (sym (put_here state t x u q)) own ]
      | inr q ↦ subst IsOwn (sym (put_there state t x u q)) (p k u c e)
    ]

-- what WaitingTasks says of a task
abbrev IsWaiting : State → Option ℕ → (ℕ → Bool) → Type 0
IsWaiting x l added = IsRunnable x ⊎ ((x ≡ waking) × ((s : ℕ) × (l ≡ Some s) × (added s ≡ true)))

waiting_keep : (x y : State) (l m : Option ℕ) (added next : ℕ → Bool) → IsWaiting x l added → y ≡ x → ((s : ℕ) → l ≡ Some s → added s ≡ true → (m ≡ Some s) × (next s ≡ true)) → IsWaiting y m next
waiting_keep x y l m added next (inl a) q k = inl (subst IsRunnable (sym q) a)
waiting_keep x y l m added next (inr w) q k = let r = k w.1.0 w.1.1 w.1.2 in inr (q ∙ w.0, (w.1.0, r.0, r.1))

pub WaitingTasks-take : (state : ℕ → State) (on_rq cpu : ℕ → ℕ) (current queue_lock : ℕ → Option ℕ) (added : ℕ → ℕ → ℕ → Bool) (s c : ℕ) → WaitingTasks state on_rq cpu current queue_lock added
    → queue_lock c ≡ None
    → WaitingTasks state on_rq cpu current (put queue_lock c (Some s)) (put added s (λ d u. if d == c then false else added s d u))
WaitingTasks-take state on_rq cpu current queue_lock added s c p free u e idle =
    waiting_keep (state u) (state u) (queue_lock (cpu u)) (put queue_lock c (Some s) (cpu u)) (λ k. added k (cpu u) u) (λ k. put added s (λ d v. if d == c then false else added s d v) k (cpu u) u)
    (p u e idle) refl (λ k l a. (grind (arith, nat_tests, l, free), grind (arith, nat_tests, l, free, a)))

-- a new task, one that was woken or one that was moved is queued
pub WaitingTasks-queue : (state : ℕ → State) (on_rq cpu : ℕ → ℕ) (current queue_lock : ℕ → Option ℕ) (added : ℕ → ℕ → ℕ → Bool) (s c t : ℕ) → WaitingTasks state on_rq cpu current queue_lock added
    → queue_lock c ≡ Some s → cpu t ≡ c → IsRunnable (state t) ⊎ (state t ≡ waking)
    → WaitingTasks state (put on_rq t 1) cpu current queue_lock (put added s (λ d u. if u == t then true else added s d u))
WaitingTasks-queue state on_rq cpu current queue_lock added s c t p locked here ready u e idle =
    elim (cases_eq u t) [
      | inl q ↦ elim ready [
        | inl a ↦ inl (subst (λ z. IsRunnable (state z)) (sym q) a)
        | inr w ↦ inr (ap state q ∙ w, (s, ap (λ z. queue_lock (cpu z)) q ∙ (ap queue_lock here ∙ locked), grind (arith, nat_tests, q)))
      ]
      | inr q ↦ waiting_keep (state u) (state u) (queue_lock (cpu u)) (queue_lock (cpu u)) (λ k. added k (cpu u) u) (λ k. put added s (λ d v. if v == t then true else added s d v) k (cpu u) u)
          (p u (sym (put_there on_rq t 1 u q) ∙ e) idle) refl (λ k l a. (l, grind (arith, nat_tests, a, q)))
    ]

pub WaitingTasks-off : (state : ℕ → State) (on_rq cpu : ℕ → ℕ) (current queue_lock : ℕ → Option ℕ) (added : ℕ → ℕ → ℕ → Bool) (t v : ℕ) → WaitingTasks state on_rq cpu current queue_lock added → v ≢ 1
    → WaitingTasks state (put on_rq t v) cpu current queue_lock added
WaitingTasks-off state on_rq cpu current queue_lock added t v p off u e idle =
    let other : u ≢ t = λ q. off (sym (put_here on_rq t v u q) ∙ e) in
    p u (sym (put_there on_rq t v u other) ∙ e) idle

pub WaitingTasks-pick : (state : ℕ → State) (on_rq cpu : ℕ → ℕ) (current queue_lock : ℕ → Option ℕ) (added : ℕ → ℕ → ℕ → Bool) (s t : ℕ) → WaitingTasks state on_rq cpu current queue_lock added
    → current s ≡ None
    → WaitingTasks state on_rq cpu (put current s (Some t)) queue_lock added
WaitingTasks-pick state on_rq cpu current queue_lock added s t p none u e idle =
    p u e (λ k h. let other : k ≢ s = λ q. grind (arith, none, h, q) in idle k (put_there current s (Some t) k other ∙ h))

-- the state of a task is stored: of a current one, of one off its queue, or so that it may run
pub WaitingTasks-state : (state : ℕ → State) (on_rq cpu : ℕ → ℕ) (current queue_lock : ℕ → Option ℕ) (added : ℕ → ℕ → ℕ → Bool) (t : ℕ) (x : State)
    → WaitingTasks state on_rq cpu current queue_lock added
    → ((s : ℕ) × (current s ≡ Some t)) ⊎ ((on_rq t ≢ 1) ⊎ IsRunnable x)
    → WaitingTasks (put state t x) on_rq cpu current queue_lock added
WaitingTasks-state state on_rq cpu current queue_lock added t x p by u e idle =
    elim (cases_eq u t) [
      | inl q ↦ elim by [
        | inl k ↦ absurd (idle k.0 (k.1 ∙ ap Some (sym q)))
        | inr r ↦ elim r [ inl off ↦ absurd (off (ap on_rq (sym q) ∙ e)) | inr ready ↦ inl (subst IsRunnable (sym (put_here state t x u q)) ready) ]
      ]
      | inr q ↦ waiting_keep (state u) (put state t x u) (queue_lock (cpu u)) (queue_lock (cpu u)) (λ k. added k (cpu u) u) (λ k. added k (cpu u) u) (p u e idle) (put_there state t x u q)
          (λ k l a. (l, a))
    ]

-- the processor word of a task that isn't queued is stored
pub WaitingTasks-cpu : (state : ℕ → State) (on_rq cpu : ℕ → ℕ) (current queue_lock : ℕ → Option ℕ) (added : ℕ → ℕ → ℕ → Bool) (t c : ℕ) → WaitingTasks state on_rq cpu current queue_lock added
    → on_rq t ≢ 1
    → WaitingTasks state on_rq (put cpu t c) current queue_lock added
WaitingTasks-cpu state on_rq cpu current queue_lock added t c p off u e idle =
    let other : u ≢ t = λ q. off (ap on_rq (sym q) ∙ e) in
    let same : cpu u ≡ put cpu t c u = sym (put_there cpu t c u other) in
    subst (λ d. IsWaiting (state u) (queue_lock d) (λ k. added k d u)) same (p u e idle)

pub MovingTasks-take : (state : ℕ → State) (on_rq : ℕ → ℕ) (on_cpu : ℕ → Bool) (lock : ℕ → Option ℕ) (s t : ℕ) → MovingTasks state on_rq on_cpu lock → lock t ≡ None
    → MovingTasks state on_rq on_cpu (put lock t (Some s))
MovingTasks-take state on_rq on_cpu lock s t p free =
    record {
      runnable = p.runnable;
      idle = p.idle;
      locked = λ u e. let l = p.locked u e in (l.0, grind (arith, nat_tests, l.1, free));
    }

pub MovingTasks-give : (state : ℕ → State) (on_rq : ℕ → ℕ) (on_cpu : ℕ → Bool) (lock : ℕ → Option ℕ) (t : ℕ) → MovingTasks state on_rq on_cpu lock → on_rq t ≢ 2
    → MovingTasks state on_rq on_cpu (put lock t None)
MovingTasks-give state on_rq on_cpu lock t p settled =
    record {
      runnable = p.runnable;
      idle = p.idle;
      locked = λ u e. let l = p.locked u e in (l.0, grind (arith, nat_tests, l.1, settled, e));
    }

-- a task is queued, or sleeps, or dies
pub MovingTasks-change : (state : ℕ → State) (on_rq : ℕ → ℕ) (on_cpu : ℕ → Bool) (lock : ℕ → Option ℕ) (t v : ℕ) → MovingTasks state on_rq on_cpu lock → v ≢ 2
    → MovingTasks state (put on_rq t v) on_cpu lock
MovingTasks-change state on_rq on_cpu lock t v p other =
    record {
      runnable = λ u e. p.runnable u (grind (arith, nat_tests, e, other));
      idle = λ u e. p.idle u (grind (arith, nat_tests, e, other));
      locked = λ u e. p.locked u (grind (arith, nat_tests, e, other));
    }

pub MovingTasks-move : (state : ℕ → State) (on_rq : ℕ → ℕ) (on_cpu : ℕ → Bool) (lock : ℕ → Option ℕ) (s t : ℕ) → MovingTasks state on_rq on_cpu lock → IsRunnable (state t) → on_cpu t ≡ false
    → lock t ≡ Some s
    → MovingTasks state (put on_rq t 2) on_cpu lock
MovingTasks-move state on_rq on_cpu lock s t p ready idle locked =
    record {
      runnable = λ u e. elim (cases_eq u t) [ inl q ↦ subst (λ z. IsRunnable (state z)) (sym q) ready | inr q ↦ p.runnable u (sym (put_there on_rq t 2 u q) ∙ e) ];
      idle = λ u e. grind (arith, nat_tests, p.idle u, idle);
      locked = λ u e. elim (cases_eq u t) [ inl q ↦ (s, ap lock q ∙ locked) | inr q ↦ p.locked u (sym (put_there on_rq t 2 u q) ∙ e) ];
    }

pub MovingTasks-busy : (state : ℕ → State) (on_rq : ℕ → ℕ) (on_cpu : ℕ → Bool) (lock : ℕ → Option ℕ) (t : ℕ) → MovingTasks state on_rq on_cpu lock → on_rq t ≡ 1
    → MovingTasks state on_rq (put on_cpu t true) lock
MovingTasks-busy state on_rq on_cpu lock t p queued =
    record { runnable = p.runnable; idle = λ u e. grind (arith, nat_tests, p.idle u, queued, e); locked = p.locked }

pub MovingTasks-clear : (state : ℕ → State) (on_rq : ℕ → ℕ) (on_cpu : ℕ → Bool) (lock : ℕ → Option ℕ) (t : ℕ) → MovingTasks state on_rq on_cpu lock
    → MovingTasks state on_rq (put on_cpu t false) lock
MovingTasks-clear state on_rq on_cpu lock t p =
    record { runnable = p.runnable; idle = λ u e. grind (arith, nat_tests, p.idle u, e); locked = p.locked }

pub MovingTasks-state : (state : ℕ → State) (on_rq : ℕ → ℕ) (on_cpu : ℕ → Bool) (lock : ℕ → Option ℕ) (t : ℕ) (x : State) → MovingTasks state on_rq on_cpu lock → (on_rq t ≢ 2) ⊎ IsRunnable x
    → MovingTasks (put state t x) on_rq on_cpu lock
MovingTasks-state state on_rq on_cpu lock t x p by =
    record {
      runnable = λ u e. elim (cases_eq u t) [
        | inl q ↦ elim by [ inl h ↦ absurd (h (ap on_rq (sym q) ∙ e)) | inr ready ↦ subst IsRunnable (sym (put_here state t x u q)) ready ]
        | inr q ↦ subst IsRunnable (sym (put_there state t x u q)) (p.runnable u e)
      ];
      idle = p.idle;
      locked = p.locked;
    }

pub CurrentTasks-less : (state : ℕ → State) (on_rq : ℕ → ℕ) (current next : ℕ → Option ℕ) → CurrentTasks state on_rq current → ((k u : ℕ) → next k ≡ Some u → current k ≡ Some u)
    → CurrentTasks state on_rq next
CurrentTasks-less state on_rq current next p less k u c e = p k u (less k u c) e

-- a queue is given, and with it the current task of its seat may be given up
pub WaitingTasks-give : (state : ℕ → State) (on_rq cpu : ℕ → ℕ) (current next queue_lock : ℕ → Option ℕ) (added : ℕ → ℕ → ℕ → Bool) (c : ℕ) (queue : Queue)
    → WaitingTasks state on_rq cpu current queue_lock added
    → IsQueueOf on_rq cpu c queue → ((u : ℕ) → times_in queue.waiting u ≢ 0 → IsRunnable (state u)) → ((u : ℕ) → queue.cur ≡ Some u → IsRunnable (state u) ⊎ ((k : ℕ) × (next k ≡ Some u)))
    → ((k u : ℕ) → current k ≡ Some u → (next k ≡ Some u) ⊎ (cpu u ≡ c))
    → WaitingTasks state on_rq cpu next (put queue_lock c None) added
WaitingTasks-give state on_rq cpu current next queue_lock added c queue p fits waiting chosen kept u e idle =
    elim (cases_eq (cpu u) c) [
      | inl here ↦ let once : times queue u ≡ 1 = grind (arith, nat_tests, fits u, e, here) in stands (is_some_of queue.cur u) refl once
      | inr there ↦ waiting_keep (state u) (state u) (queue_lock (cpu u)) (put queue_lock c None (cpu u)) (λ k. added k (cpu u) u) (λ k. added k (cpu u) u)
          (p u e (λ k h. elim (kept k u h) [ inl n ↦ idle k n | inr here ↦ there here ])) refl (λ k l a. (put_there queue_lock c None (cpu u) there ∙ l, a))
    ]
  where
    is_cur : (o : Option ℕ) → is_some_of o u ≡ true → o ≡ Some u
    is_cur None h = absurd (grind (arith, h))
    is_cur (Some j) h = grind (arith, nat_tests, h)

    stands : (b : Bool) → is_some_of queue.cur u ≡ b → times queue u ≡ 1 → IsRunnable (state u)
        ⊎ ((state u ≡ waking) × ((k : ℕ) × (put queue_lock c None (cpu u) ≡ Some k) × (added k (cpu u) u ≡ true)))
    stands true h once = elim (chosen u (is_cur queue.cur h)) [ inl a ↦ inl a | inr k ↦ absurd (idle k.0 k.1) ]
    stands false h once = inl (waiting u (λ z. grind (arith, nat_tests, once, h, z)))
