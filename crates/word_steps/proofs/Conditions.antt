-- When a step is possible, by what its seat has done, the word that it finds, and the value that it has out.
use Rattle.std.proofs.Common.{◌≡◌, ◌≢◌, ℕ, ◌<◌, ◌+◌, refl, sym, ap, subst, ◌∙◌, inl, inr, List, arith}
use Rattle.std.specs.Prelude.{◌/◌, ◌%◌, ◌^◌, ◌==◌, ◌&&◌, ◌⊎◌, if◌then◌else◌, true, false, Option, Some, None, IsSome, unwrap_or}
use Rattle.std.proofs.lemmas.Bool.{cases_Bool, cases_eq}
use Rattle.std.proofs.lemmas.Bool.Decides.{nat_tests}
use Rattle.core_data.specs.Entries.{has_entry}
use Rattle.core_data.specs.declared.values.TaskVal.{TaskVal}
use Rattle.core_data.specs.declared.values.WaitEntry.{WaitEntry}
use Rattle.core_data.specs.declared.values.WorkItem.{WorkItem}
use Rattle.core_data.specs.Queue.{Queue, times_in}
use Rattle.core_gives.specs.Queues.{times}
use Rattle.core_gives.specs.Waits.{MayGiveWait, HasEachOnce}
use Rattle.core_invariant.specs.Invariant.{Holds}
use Rattle.core_kinds.specs.Locks.{MayTakeTask, MayTakeQueue, MayTakeWait, MayTakeWorks, MayGiveTask, MayGiveWorks, IsKept, IsSettled}
use Rattle.core_kinds.specs.Running.{MayQueue, MayDequeue, MayMove, MaySetBusy, MayClearBusy, MayBodyOut, MayLeave}
use Rattle.core_kinds.specs.Steps.{fresh, waking, is_sleep, IsRunnable}
use Rattle.core_kinds.specs.Waking.{MayClaim, MayStoreCpu}
use Rattle.handoff_data.specs.declared.state.State.{State}
use Rattle.handoff_data.specs.declared.shape.Shape.{Shape}
use Rattle.word_steps.specs.Decode.{Homes, core_of}
use Rattle.word_steps.specs.Folds.{task_held, queue_held, works_held, wait_held, body_held, current_task, task_to_clear, seen_state, saw_off, is_claimed, saw_clear, has_stored, last_reads, has_passed}
use Rattle.word_steps.specs.Folds.{has_own_stored, has_added, has_dropped, saw_idle}
use Rattle.word_steps.specs.Records.{Rec}
use Rattle.word_steps.specs.Words.{LOCK, RQ, BUSY, CPU, COUNT, QUEUE_LOCK, WORKS_LOCK, WAIT_LOCK, holder, is_set}

is_there : {A : Type 0} (o : Option A) (v : A) → o ≡ Some v → IsSome o
is_there o v e = subst (λ z. IsSome z) (sym e) refl

same_value : {A : Type 0} (o : Option A) (v w : A) → o ≡ Some v → o ≡ Some w → v ≡ w
same_value o v w a b = ap (λ z. unwrap_or z v) (sym a ∙ b)

-- a task that stands once in a queue is queued there
at_once : (on cpu c n : ℕ) → n ≡ 1 → n ≡ (if (on == 1) && (cpu == c) then 1 else 0) → (on ≡ 1) × (cpu ≡ c)
at_once on cpu c n once counts = (grind (arith, nat_tests, once, counts), grind (arith, nat_tests, once, counts))

-- a sleep state was read
abbrev pub IsSleepSeen : Option State → Type 0
IsSleepSeen None = ⊥
IsSleepSeen (Some state) = is_sleep state ≡ true

may_leave : (seen : Option State) (count : ℕ) → IsSleepSeen seen → MayLeave seen count
may_leave None count h = absurd h
may_leave (Some state) count h = inl h

module _ (shape : Shape) (words : ℕ → ℕ → ℕ) (homes : Homes) (traces : ℕ → List Rec) (s : ℕ) (holds : Holds (core_of shape words homes traces)) (seat : s < shape.cpus + shape.agents) where
  -- takes: the lock's word is found as 0
  pub take_task_may : (t : ℕ) → t < shape.tasks → words t LOCK ≡ 0 → MayTakeTask (core_of shape words homes traces) s t
  take_task_may t task found = record { seat = seat; task = task; free = ap holder found; home = holds.locks.tasks.free_home t task (ap holder found) }

  pub take_queue_may : (c : ℕ) → c < shape.cpus → words c QUEUE_LOCK ≡ 0 → MayTakeQueue (core_of shape words homes traces) s c
  take_queue_may c processor found = record { seat = seat; processor = processor; free = ap holder found; home = holds.locks.queues.free_home c processor (ap holder found) }

  pub take_works_may : (c : ℕ) → c < shape.cpus → words c WORKS_LOCK ≡ 0 → MayTakeWorks (core_of shape words homes traces) s c
  take_works_may c processor found = record { seat = seat; processor = processor; free = ap holder found; home = holds.locks.works.free_home c processor (ap holder found) }

  pub take_wait_may : (k : ℕ) → k < shape.conds → words k WAIT_LOCK ≡ 0 → MayTakeWait (core_of shape words homes traces) s k
  take_wait_may k condition found = record { seat = seat; condition = condition; free = ap holder found; home = holds.locks.waits.free_home k condition (ap holder found) }

  -- a lock whose value the seat has out has the seat in its word
  pub task_locked : (t : ℕ) (v : TaskVal) → task_held (traces s) t ≡ Some v → holder (words t LOCK) ≡ Some s
  task_locked t v out = holds.locks.tasks.out_held s t (is_there (task_held (traces s) t) v out)

  pub queue_locked : (c : ℕ) (v : Queue) → queue_held (traces s) c ≡ Some v → holder (words c QUEUE_LOCK) ≡ Some s
  queue_locked c v out = holds.locks.queues.out_held s c (is_there (queue_held (traces s) c) v out)

  pub works_locked : (c : ℕ) (v : List WorkItem) → works_held (traces s) c ≡ Some v → holder (words c WORKS_LOCK) ≡ Some s
  works_locked c v out = holds.locks.works.out_held s c (is_there (works_held (traces s) c) v out)

  pub wait_locked : (k : ℕ) (v : List WaitEntry) → wait_held (traces s) k ≡ Some v → holder (words k WAIT_LOCK) ≡ Some s
  wait_locked k v out = holds.locks.waits.out_held s k (is_there (wait_held (traces s) k) v out)

  -- gives: works as they were taken
  pub give_works_may : (c : ℕ) (v : List WorkItem) → c < shape.cpus → works_held (traces s) c ≡ Some v → MayGiveWorks (core_of shape words homes traces) s c v
  give_works_may c v processor out = record { seat = seat; processor = processor; locked = works_locked c v out; kept = out }

  -- a wait queue, into which the current task was put after its state was stored, and from which only it or passed ones were taken
  pub give_wait_may : (k : ℕ) (taken given : List WaitEntry) → k < shape.conds → wait_held (traces s) k ≡ Some taken → HasEachOnce given
      → ((x : WaitEntry) → has_entry given x ≡ true → x.t < shape.tasks)
      → ((x : WaitEntry) → has_entry given x ≡ true → has_entry taken x ≡ false → (current_task s (traces s) ≡ Some x.t) × (has_own_stored (traces s) k x.t ≡ true))
      → ((x : WaitEntry) → has_entry taken x ≡ true → has_entry given x ≡ false → (current_task s (traces s) ≡ Some x.t) ⊎ (has_passed (traces s) k x.t ≡ true))
      → MayGiveWait (core_of shape words homes traces) s k given
  give_wait_may k taken given condition out once tasks put_in taken_out =
      record {
        seat = seat;
        condition = condition;
        locked = wait_locked k taken out;
        out = is_there (wait_held (traces s) k) taken out;
        once = once;
        put_in = λ was x e a b. put_in x a (subst (λ z. has_entry z x ≡ false) (same_value (wait_held (traces s) k) was taken e out) b);
        taken_out = λ was x e a b. taken_out x (subst (λ z. has_entry z x ≡ true) (same_value (wait_held (traces s) k) was taken e out) a) b;
        tasks = tasks;
      }

  -- a task's lock, where no task is half way to a queue by this seat
  pub give_task_may : (t : ℕ) (taken given : TaskVal) → t < shape.tasks → task_held (traces s) t ≡ Some taken → IsKept taken given
      → given.wake_cpu < shape.cpus → given.dest < shape.cpus
      → IsSettled (core_of shape words homes traces) t → (words t RQ / 4 ≡ 0 → (core_of shape words homes traces).state t ≡ fresh)
      → MayGiveTask (core_of shape words homes traces) s t given false false
  give_task_may t taken given task out kept wake_cpu dest settled is_fresh =
      record {
        seat = seat;
        task = task;
        locked = task_locked t taken out;
        settled = settled;
        fresh = is_fresh;
        kept = λ was e. subst (λ z. IsKept z given) (same_value (task_held (traces s) t) taken was out e) kept;
        out = is_there (task_held (traces s) t) taken out;
        wake_cpu = wake_cpu;
        dest = dest;
        not_stood = refl;
        not_done = refl;
      }

  -- .. as it is where the seat has stored no word of the task since it took the lock
  pub settled_unstored : (t : ℕ) (v : TaskVal) → task_held (traces s) t ≡ Some v → has_stored (traces s) t ≡ false → IsSettled (core_of shape words homes traces) t
  settled_unstored t v out unstored =
      (λ moves. absurd (grind (arith, holds.positions.moving_stored s t (task_locked t v out) moves, unstored)), off_or_not t v out unstored)
    where
      off_or_not : (t : ℕ) (v : TaskVal) → task_held (traces s) t ≡ Some v → has_stored (traces s) t ≡ false
          → ((core_of shape words homes traces).on_rq t ≢ 0) ⊎ ((core_of shape words homes traces).state t ≢ waking)
      off_or_not t v out unstored = elim (cases_eq (words t RQ % 4) 0) [
        | inl e ↦ inr (λ w. absurd (grind (arith, holds.positions.waking_stored s t (task_locked t v out) e w, unstored)))
        | inr ne ↦ inl ne
      ]

  pub fresh_unstored : (t : ℕ) (v : TaskVal) → t < shape.tasks → task_held (traces s) t ≡ Some v → has_stored (traces s) t ≡ false → words t RQ / 4 ≡ 0
      → (core_of shape words homes traces).state t ≡ fresh
  fresh_unstored t v task out unstored new = holds.places.new_states.held t s task new (task_locked t v out) unstored

  -- .. and where it isn't moving, and the seat hasn't claimed it without queueing it
  pub settled_unclaimed : (t : ℕ) (v : TaskVal) → task_held (traces s) t ≡ Some v → is_claimed (traces s) t ≡ false → words t RQ % 4 ≢ 2 → IsSettled (core_of shape words homes traces) t
  settled_unclaimed t v out unclaimed still = (still, elim (cases_eq (words t RQ % 4) 0) [ inl e ↦ inr (λ w. awaits e w) | inr ne ↦ inl ne ])
    where
      claims : (words t RQ % 4 ≡ 0) → (o : ℕ) → holder (words t LOCK) ≡ Some o → is_claimed (traces o) t ≡ true → ⊥
      claims e o locked claimed = let same : o ≡ s = same_value (holder (words t LOCK)) o s locked (task_locked t v out) in
          absurd (grind (arith, subst (λ z. is_claimed (traces z) t ≡ true) same claimed, unclaimed))

      off : words t RQ % 4 ≡ 0 → (core_of shape words homes traces).state t ≡ waking → words t RQ / 4 ≢ 0 → ⊥
      off e w started = elim (holds.places.off t started e) [
        | inl asleep ↦ absurd (grind (arith, subst (λ z. is_sleep z ≡ true) w asleep))
        | inr rest ↦ elim rest [
          | inl is_dead ↦ absurd (grind (arith, ap (λ z. z.0) (sym is_dead ∙ w)))
          | inr claimed ↦ claims e claimed.1.0 claimed.1.1 claimed.1.2
        ]
      ]

      awaits : words t RQ % 4 ≡ 0 → (core_of shape words homes traces).state t ≡ waking → ⊥
      awaits e w = elim (cases_eq (words t RQ / 4) 0) [
        | inl new ↦ elim (subst (λ z. IsRunnable z) w (holds.places.new_states.runnable t new)) [
          | inl h ↦ absurd (omega (arith, h))
          | inr h ↦ absurd (omega (arith, h))
        ]
        | inr started ↦ off e w started
      ]

  -- the body of the current task, which the seat doesn't have out
  pub body_out_may : (t : ℕ) → t < shape.tasks → current_task s (traces s) ≡ Some t → body_held (traces s) ≡ None → MayBodyOut (core_of shape words homes traces) s t
  body_out_may t task current none = record { seat = seat; task = task; current = current; home = home (cases_Bool (homes.body t)) }
    where
      home : (homes.body t ≡ true) ⊎ (homes.body t ≡ false) → homes.body t ≡ true
      home (inl h) = h
      home (inr h) = let o = holds.busy.bodies.away_out t task h in
          let same : o.0 ≡ s = sym (holds.busy.runner.current_here o.0 t (holds.busy.bodies.out_current o.0 t o.1)) ∙ holds.busy.runner.current_here s t current in
          absurd (grind (arith, subst (λ z. body_held (traces z) ≡ Some t) same o.1, none))

  -- TASK_WAKING: under the task's lock the seat read a matching state and then `on_rq` as 0
  pub claim_may : (t : ℕ) (v : TaskVal) → t < shape.tasks → task_held (traces s) t ≡ Some v → saw_off (traces s) t ≡ true → MayClaim (core_of shape words homes traces) s t
  claim_may t v task out off = record { seat = seat; task = task; locked = task_locked t v out; saw_off = off }

  -- a processor, for a task that the seat has claimed and has then read as not busy
  pub store_cpu_may : (t c : ℕ) → t < shape.tasks → c < shape.cpus → is_claimed (traces s) t ≡ true → saw_clear (traces s) t ≡ true → MayStoreCpu (core_of shape words homes traces) s t c
  store_cpu_may t c task processor claimed clear =
      record {
        seat = seat;
        task = task;
        processor = processor;
        locked = holds.positions.claimed.locked s t claimed;
        placeable = inr (inl (holds.positions.claimed.off s t claimed, holds.positions.claimed.awaits s t claimed, clear));
      }

  -- the busy word of the task that the seat gave up
  pub clear_busy_may : (t : ℕ) → t < shape.tasks → task_to_clear s (traces s) ≡ Some t → current_task s (traces s) ≢ Some t → words t BUSY / 2 < 2 ^ 60
      → MayClearBusy (core_of shape words homes traces) s t
  clear_busy_may t task left other room = record { seat = seat; task = task; left = left; other = other; room = room }

  -- a claimed task that was read as not busy, onto the queue of its processor
  pub queue_claimed_may : (c t : ℕ) (v : TaskVal) (q : Queue) → t < shape.tasks → c < shape.cpus → task_held (traces s) t ≡ Some v → queue_held (traces s) c ≡ Some q
      → is_claimed (traces s) t ≡ true → saw_clear (traces s) t ≡ true → (last_reads (traces s) t).cpu ≡ Some c → words t RQ / 4 < 2 ^ 60
      → MayQueue (core_of shape words homes traces) s c t
  queue_claimed_may c t v q task processor out queue claimed clear read room =
      record {
        seat = seat;
        task = task;
        processor = processor;
        locked = queue_locked c q queue;
        task_locked = task_locked t v out;
        here = holds.positions.cpu s t c (task_locked t v out) read;
        off = λ e. absurd (grind (arith, holds.positions.claimed.off s t claimed, e));
        ready = inr (inl (holds.positions.claimed.off s t claimed, holds.positions.claimed.awaits s t claimed, clear));
        room = room;
      }

  -- a new task, whose queue word is found with the number 0
  pub queue_new_may : (c t : ℕ) (v : TaskVal) (q : Queue) → t < shape.tasks → c < shape.cpus → task_held (traces s) t ≡ Some v → queue_held (traces s) c ≡ Some q
      → words t RQ / 4 ≡ 0 → (last_reads (traces s) t).cpu ≡ Some c → MayQueue (core_of shape words homes traces) s c t
  queue_new_may c t v q task processor out queue new read =
      record {
        seat = seat;
        task = task;
        processor = processor;
        locked = queue_locked c q queue;
        task_locked = task_locked t v out;
        here = holds.positions.cpu s t c (task_locked t v out) read;
        off = λ e. absurd (grind (arith, holds.places.new.off t new, e));
        ready = inl new;
        room = subst (λ z. z < 2 ^ 60) (sym new) (omega arith);
      }

  -- the current task, whose queue word is found as queued, after a sleep state was read of it under its queue's lock
  pub dequeue_asleep_may : (t : ℕ) (q : Queue) → t < shape.tasks → s < shape.cpus → queue_held (traces s) s ≡ Some q → current_task s (traces s) ≡ Some t
      → words t RQ % 4 ≡ 1 → IsSleepSeen (seen_state s (traces s)) → words t RQ / 4 < 2 ^ 60 → MayDequeue (core_of shape words homes traces) s s t
  dequeue_asleep_may t q task processor queue current queued asleep room =
      record {
        seat = seat;
        task = task;
        own = refl;
        processor = processor;
        locked = queue_locked s q queue;
        current = current;
        queued = queued;
        here = holds.busy.runner.current_here s t current;
        seen = may_leave (seen_state s (traces s)) (words t COUNT) asleep;
        room = room;
      }

  -- a task that waits under this queue's lock may run where the seat didn't put it there
  waits : (c t : ℕ) (q : Queue) → queue_held (traces s) c ≡ Some q → words t RQ % 4 ≡ 1 → words t CPU ≡ c → has_added (traces s) c t ≡ false
      → ((o : ℕ) → current_task o (traces o) ≢ Some t) → IsRunnable ((core_of shape words homes traces).state t)
  waits c t q queue queued here unadded nobody = elim (holds.places.waiting t queued nobody) [
    | inl h ↦ h
    | inr w ↦ absurd (grind (arith, unadded, by_holder w.1.0 w.1.1 w.1.2))
  ]
    where
      by_holder : (o : ℕ) → holder (words (words t CPU) QUEUE_LOCK) ≡ Some o → has_added (traces o) (words t CPU) t ≡ true → has_added (traces s) c t ≡ true
      by_holder o locked added =
          let same : o ≡ s = same_value (holder (words c QUEUE_LOCK)) o s (subst (λ z. holder (words z QUEUE_LOCK) ≡ Some o) here locked) (queue_locked c q queue) in
          subst (λ z. has_added (traces z) c t ≡ true) same (subst (λ z. has_added (traces o) z t ≡ true) here added)

  -- a waiting task, to be moved: its busy word was read as clear under this queue's lock
  pub move_may : (c t : ℕ) (v : TaskVal) (taken val : Queue) → t < shape.tasks → c < shape.cpus → task_held (traces s) t ≡ Some v → queue_held (traces s) c ≡ Some taken
      → times_in val.waiting t ≡ 1 → words t RQ % 4 ≡ 1 → (last_reads (traces s) t).cpu ≡ Some c → has_added (traces s) c t ≡ false
      → saw_idle (traces s) c t ≡ true → current_task s (traces s) ≢ Some t → words t RQ / 4 < 2 ^ 60
      → MayMove (core_of shape words homes traces) s c t val
  move_may c t v taken val task processor out queue waiting queued read unadded idle other room =
      record {
        seat = seat;
        task = task;
        processor = processor;
        locked = queue_locked c taken queue;
        task_locked = task_locked t v out;
        waiting = waiting;
        queued = queued;
        here = here;
        runnable = waits c t taken queue queued here unadded nobody;
        other = other;
        idle = idle;
        room = room;
      }
    where
      here : words t CPU ≡ c
      here = holds.positions.cpu s t c (task_locked t v out) read

      nobody : (o : ℕ) → current_task o (traces o) ≢ Some t
      nobody o e = elim (holds.positions.idle.read s c t (queue_locked c taken queue) idle queued here) [
        | inl clear ↦ absurd (grind (arith, clear, holds.busy.runner.current_busy o t e))
        | inr mine ↦ other mine
      ]

  -- a task that waited in the seat's own queue, as it was taken, and is its next
  pub set_busy_may : (t : ℕ) (taken val : Queue) → t < shape.tasks → s < shape.cpus → queue_held (traces s) s ≡ Some taken → times taken t ≡ 1 → val.cur ≡ Some t
      → has_added (traces s) s t ≡ false → has_dropped (traces s) s t ≡ false → current_task s (traces s) ≡ None → task_to_clear s (traces s) ≡ None
      → words t BUSY / 2 < 2 ^ 60 → MaySetBusy (core_of shape words homes traces) s s t val
  set_busy_may t taken val task processor queue once chosen unadded undropped none clear room =
      record {
        seat = seat;
        task = task;
        own = refl;
        processor = processor;
        locked = queue_locked s taken queue;
        chosen = chosen;
        queued = queued;
        here = here;
        runnable = waits s t taken queue queued here unadded nobody;
        idle = idle (cases_Bool (is_set (words t BUSY)));
        none = none;
        clear = clear;
        room = room;
      }
    where
      stands : (words t RQ % 4 ≡ 1) × (words t CPU ≡ s)
      stands = at_once (words t RQ % 4) (words t CPU) s (times taken t) once (holds.queues.left s s taken t queue unadded undropped)

      queued : words t RQ % 4 ≡ 1
      queued = stands.0

      here : words t CPU ≡ s
      here = stands.1

      nobody : (o : ℕ) → current_task o (traces o) ≢ Some t
      nobody o e = let same : o ≡ s = sym (holds.busy.runner.current_here o t e) ∙ here in
          absurd (grind (arith, subst (λ z. current_task z (traces z) ≡ Some t) same e, none))

      idle : (is_set (words t BUSY) ≡ true) ⊎ (is_set (words t BUSY) ≡ false) → is_set (words t BUSY) ≡ false
      idle (inl busy) = elim (holds.busy.runner.busy_is t busy) [
        | inl runs ↦ absurd (grind (arith, subst (λ z. current_task z (traces z) ≡ Some t) here runs, none))
        | inr left ↦ absurd (grind (arith, subst (λ z. task_to_clear z (traces z) ≡ Some t) here left, clear))
      ]
      idle (inr h) = h
