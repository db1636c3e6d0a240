-- What a seat may do as its own trace tells, the core that the table shows allows: words of tasks.
use Rattle.std.proofs.Common.{◌≡◌, ◌≢◌, ℕ, ◌<◌, ◌≤◌, ◌+◌, refl, sym, subst, ◌∙◌, inl, inr, List, arith}
use Rattle.std.specs.Prelude.{◌/◌, ◌%◌, ◌^◌, ◌==◌, ◌&&◌, ◌⊎◌, if◌then◌else◌, Bool, true, false, Option, Some, None, IsSome}
use Rattle.std.proofs.lemmas.Bool.{cases_Bool}
use Rattle.std.proofs.lemmas.Bool.Decides.{nat_tests}
use Rattle.core_data.specs.Queue.{Queue, times_in}
use Rattle.core_gives.specs.Queues.{times}
use Rattle.core_kinds.specs.Running.{MayQueue, MayDequeue, MayMove, MaySetBusy, MayClearBusy, MayLeave, IsReady}
use Rattle.core_kinds.specs.Waking.{MaySetState, MayClaim, MayMakeRunnable, MayStoreCpu, IsSettable}
use Rattle.handoff_data.specs.declared.shape.Shape.{Shape}
use Rattle.handoff_data.specs.declared.state.State.{State}
use Rattle.word_rule.proofs.GrownKept.{same_number}
use Rattle.word_rule.specs.WordsHold.{WordsHold}
use Rattle.word_rule.specs.May.{MayQueueWord, MayDequeueWord, MayMoveWord, MaySetBusyWord, MayClearBusyWord, MaySetStateWord, MayClaimWord, MayMakeRunnableWord, MayCpuWord, IsMatchedHere, IsPutHere}
use Rattle.word_rule.specs.May.{on_of}
use Rattle.word_steps.proofs.Conditions.{queue_locked, store_cpu_may, set_busy_may, move_may}
use Rattle.word_steps.proofs.CurrentKept.{set_state_may}
use Rattle.word_steps.proofs.EndedKept.{dead_allowed}
use Rattle.word_steps.proofs.NumbersKept.{make_runnable_new_may, store_cpu_new_may}
use Rattle.word_steps.proofs.PutKept.{make_runnable_put_may}
use Rattle.word_steps.proofs.QueuedKept.{make_runnable_queued_may}
use Rattle.word_steps.specs.Decode.{Homes, core_of}
use Rattle.word_steps.specs.Folds.{task_held, queue_held, current_task, task_to_clear, seen_state, is_claimed, saw_clear, is_moving, number_read, last_reads}
use Rattle.word_steps.specs.Records.{Rec}
use Rattle.word_steps.specs.Words.{LOCK, STATE, RQ, BUSY, CPU, QUEUE_LOCK, holder, is_set}

-- the value that is there
pub value_of : {A : Type 0} (o : Option A) → IsSome o → (v : A) × (o ≡ Some v)
value_of None h = absurd (grind (arith, h))
value_of (Some v) h = (v, refl)

-- a task that waits stands in its queue, and so is queued there
waits_once : (w n on cpu c : ℕ) → w ≡ 1 → w ≤ n → n ≡ (if (on == 1) && (cpu == c) then 1 else 0) → on ≡ 1
waits_once w n on cpu c once more counts = grind (arith, nat_tests, once, more, counts)

-- .. and on its processor
stands_here : (n on cpu c : ℕ) → n ≡ 1 → n ≡ (if (on == 1) && (cpu == c) then 1 else 0) → cpu ≡ c
stands_here n on cpu c once counts = grind (arith, nat_tests, once, counts)

-- a queue whose next is the task
abbrev pub next_queue : Queue → ℕ → Queue
next_queue taken t = record { waiting = taken.waiting; cur = Some t; left = taken.left }

-- an odd number up to an even one is below it
below_even : (n : ℕ) → n % 2 ≡ 1 → n ≤ 2 ^ 60 → n < 2 ^ 60
below_even n odd most = omega (arith, odd, most)

module _ (shape : Shape) (words : ℕ → ℕ → ℕ) (homes : Homes) (traces : ℕ → List Rec) (s : ℕ)
    (kept : WordsHold shape words homes traces) (seat : s < shape.cpus + shape.agents) where
  task_locked : (t : ℕ) → IsSome (task_held (traces s) t) → holder (words t LOCK) ≡ Some s
  task_locked t out = kept.holds.locks.tasks.out_held s t out

  -- the processor that was read last under a task's lock
  here_read : (t c : ℕ) → IsSome (task_held (traces s) t) → (last_reads (traces s) t).cpu ≡ Some c → words t CPU ≡ c
  here_read t c out read = kept.holds.positions.cpu s t c (task_locked t out) read

  processor_of : (t c : ℕ) → t < shape.tasks → words t CPU ≡ c → c < shape.cpus
  processor_of t c task here = subst (λ (z : ℕ). z < shape.cpus) here (kept.holds.shapes.cpu t task)

  -- the number that the seat has read or made of a task that it may queue is its number
  pub queue_number : (t y : ℕ) → (may : MayQueueWord s (traces s) t (words t RQ) y) → words t RQ / 4 ≡ may.number
  queue_number t y may = elim may.ready [
    | inl new ↦ kept.numbers s t (task_locked t may.locked) new ∙ same_number 0 may.number (sym new ∙ may.known)
    | inr way ↦ elim way [
      | inl claims ↦ kept.ways s t may.number (inl claims.0) may.known
      | inr moves ↦ kept.ways s t may.number (inr moves) may.known
    ]
  ]

  -- .. and it is between two queues exactly where the seat moves it
  pub queue_on : (t y : ℕ) → MayQueueWord s (traces s) t (words t RQ) y → words t RQ % 4 ≡ on_of (traces s) t
  queue_on t y may = on (is_moving (traces s) t) refl
    where
      still : is_moving (traces s) t ≡ false → words t RQ % 4 ≡ 0
      still unmoved = elim may.ready [
        | inl new ↦ kept.holds.places.new.off t (kept.numbers s t (task_locked t may.locked) new)
        | inr way ↦ elim way [
          | inl claims ↦ kept.holds.positions.claimed.off s t claims.0
          | inr moves ↦ absurd (grind (arith, moves, unmoved))
        ]
      ]

      on : (b : Bool) → is_moving (traces s) t ≡ b → words t RQ % 4 ≡ (if b then 2 else 0)
      on true moves = (kept.moving.known s t moves).1
      on false unmoved = still unmoved

  pub queue_possible : (t y : ℕ) → t < shape.tasks → (may : MayQueueWord s (traces s) t (words t RQ) y)
      → MayQueue (core_of shape words homes traces) s may.cpu t
  queue_possible t y task may =
      record {
        seat = seat;
        task = task;
        processor = processor_of t may.cpu task here;
        locked = kept.holds.locks.queues.out_held s may.cpu may.queue;
        task_locked = task_locked t may.locked;
        here = here;
        off = off may.ready;
        ready = ready may.ready;
        room = subst (λ (z : ℕ). z < 2 ^ 60) (sym (queue_number t y may)) may.room;
      }
    where
      here : words t CPU ≡ may.cpu
      here = here_read t may.cpu may.locked may.read

      -- a task that was read as new under its lock is new
      is_new : number_read (traces s) t ≡ Some 0 → words t RQ / 4 ≡ 0
      is_new read = kept.numbers s t (task_locked t may.locked) read

      ready : (number_read (traces s) t ≡ Some 0)
          ⊎ (((is_claimed (traces s) t ≡ true) × (saw_clear (traces s) t ≡ true)) ⊎ (is_moving (traces s) t ≡ true))
          → IsReady (core_of shape words homes traces) s t
      ready (inl new) = inl (is_new new)
      ready (inr (inl (claimed, clear))) =
          let claims = kept.holds.positions.claimed in
          inr (inl (claims.off s t claimed, claims.awaits s t claimed, clear))
      ready (inr (inr moves)) = inr (inr (kept.moving.known s t moves).1)

      off : (number_read (traces s) t ≡ Some 0)
          ⊎ (((is_claimed (traces s) t ≡ true) × (saw_clear (traces s) t ≡ true)) ⊎ (is_moving (traces s) t ≡ true))
          → words t RQ % 4 ≢ 1
      off (inl new) on = absurd (grind (arith, kept.holds.places.new.off t (is_new new), on))
      off (inr (inl (claimed, clear))) on = absurd (grind (arith, kept.holds.positions.claimed.off s t claimed, on))
      off (inr (inr moves)) on = absurd (grind (arith, (kept.moving.known s t moves).1, on))

  pub dequeue_possible : (t y : ℕ) → t < shape.tasks → MayDequeueWord s (traces s) t (words t RQ) y
      → MayDequeue (core_of shape words homes traces) s s t
  dequeue_possible t y task may =
      record {
        seat = seat;
        task = task;
        own = refl;
        processor = kept.holds.shapes.current_seat s t may.current;
        locked = kept.holds.locks.queues.out_held s s may.queue;
        current = may.current;
        queued = kept.current s t may.current may.stays;
        here = kept.holds.busy.runner.current_here s t may.current;
        seen = subst (λ (z : ℕ). MayLeave (seen_state s (traces s)) z) (sym (kept.counts t)) may.seen;
        room = may.room;
      }

  pub move_possible : (t y : ℕ) → t < shape.tasks → (may : MayMoveWord s (traces s) t (words t RQ) y)
      → MayMove (core_of shape words homes traces) s may.cpu t may.taken
  move_possible t y task may =
      let out = value_of (task_held (traces s) t) may.locked in
      move_may shape words homes traces s kept.holds seat may.cpu t out.0 may.taken may.taken task
      (processor_of t may.cpu task (here_read t may.cpu may.locked may.read)) out.1 may.queue
      may.waiting queued may.read may.unadded may.idle may.other may.room
    where
      queued : words t RQ % 4 ≡ 1
      queued = waits_once (times_in may.taken.waiting t) (times may.taken t) (words t RQ % 4)
          (words t CPU) may.cpu may.waiting (omega arith)
          (kept.holds.queues.left s may.cpu may.taken t may.queue may.unadded may.undropped)

  pub set_busy_possible : (t y : ℕ) → t < shape.tasks → (may : MaySetBusyWord s (traces s) t (words t BUSY) y)
      → MaySetBusy (core_of shape words homes traces) s s t (next_queue may.taken t)
  set_busy_possible t y task may = elim may.stands [
    | inl runs ↦ let there = kept.runs s s t locked runs in record {
      seat = seat;
      task = task;
      own = refl;
      processor = processor_of t s task there.here;
      locked = locked;
      chosen = refl;
      queued = there.queued;
      here = there.here;
      runnable = there.runnable;
      idle = idle there.here (cases_Bool (is_set (words t BUSY)));
      none = may.none;
      clear = may.clear;
      room = may.room;
    }
    | inr waits ↦ let counts = kept.holds.queues.left s s may.taken t may.queue waits.1 waits.2 in
        set_busy_may shape words homes traces s kept.holds seat t may.taken (next_queue may.taken t) task
        (processor_of t s task (stands_here (times may.taken t) (words t RQ % 4) (words t CPU) s waits.0 counts))
        may.queue waits.0 refl waits.1 waits.2 may.none may.clear may.room
  ]
    where
      locked : holder (words s QUEUE_LOCK) ≡ Some s
      locked = queue_locked shape words homes traces s kept.holds seat s may.taken may.queue

      idle : words t CPU ≡ s → (is_set (words t BUSY) ≡ true) ⊎ (is_set (words t BUSY) ≡ false)
          → is_set (words t BUSY) ≡ false
      idle here (inl busy) = elim (kept.holds.busy.runner.busy_is t busy) [
        | inl runs ↦ absurd (grind (arith, subst (λ (z : ℕ). current_task z (traces z) ≡ Some t) here runs, may.none))
        | inr left ↦ absurd (grind (arith, subst (λ (z : ℕ). task_to_clear z (traces z) ≡ Some t) here left, may.clear))
      ]
      idle here (inr h) = h

  -- a task whose busy word is left to clear has picks and finishes that are odd in number
  is_odd : (t : ℕ) → task_to_clear s (traces s) ≡ Some t → (words t BUSY / 2) % 2 ≡ 1
  is_odd t left = kept.holds.journals.last_runs.busy_odd t (kept.holds.busy.runner.left_busy s t left)

  pub clear_busy_possible : (t y : ℕ) → t < shape.tasks → MayClearBusyWord s (traces s) t (words t BUSY) y
      → MayClearBusy (core_of shape words homes traces) s t
  clear_busy_possible t y task may =
      record {
        seat = seat;
        task = task;
        left = may.left;
        other = may.other;
        room = below_even (words t BUSY / 2)
            (is_odd t may.left) (kept.holds.journals.numbered.runs_end t);
      }

  pub set_state_possible : (t y : ℕ) → t < shape.tasks → MaySetStateWord s (traces s) t (words t STATE) y
      → MaySetState (core_of shape words homes traces) s t (record { 0 = y })
  set_state_possible t y task may =
      set_state_may words traces s kept.current shape homes kept.holds t
      (record { 0 = y }) seat task may.current may.stays (elim may.allowed [
        | inl runs ↦ inl runs
        | inr rest ↦ elim rest [
          | inl sleeps ↦ inr (inl sleeps)
          | inr dies ↦ subst (λ (x : State). IsSettable (core_of shape words homes traces) s t x) (sym dies.0)
              (dead_allowed shape words homes traces s kept.holds kept.ended t
              (task_locked t dies.1) may.current dies.2)
        ]
      ])

  pub claim_possible : (t y : ℕ) → t < shape.tasks → MayClaimWord s (traces s) t (words t STATE) y
      → MayClaim (core_of shape words homes traces) s t
  claim_possible t y task may =
      record { seat = seat; task = task; locked = task_locked t may.locked; saw_off = may.off }

  pub make_runnable_possible : (t y : ℕ) → t < shape.tasks → MayMakeRunnableWord s (traces s) t (words t STATE) y
      → MayMakeRunnable (core_of shape words homes traces) s t
  make_runnable_possible t y task may = elim may.ready [
    | inl new ↦ let out = value_of (task_held (traces s) t) new.0 in
        make_runnable_new_may words traces s kept.numbers shape homes kept.holds t out.0 seat task out.1 new.1
    | inr rest ↦ elim rest [
      | inl matched ↦ by_match matched.0 matched.1
      | inr there ↦ by_put there.0 there.1
    ]
  ]
    where
      by_match : (c : ℕ) → IsMatchedHere s (traces s) c t → MayMakeRunnable (core_of shape words homes traces) s t
      by_match c here =
          let out = value_of (task_held (traces s) t) here.locked in
          let queue = value_of (queue_held (traces s) c) here.queue in
          make_runnable_queued_may words traces s kept.queued shape homes c t out.0 queue.0 kept.holds seat task out.1
          queue.1 (here_read t c here.locked here.read) here.matched here.queued here.other

      by_put : (c : ℕ) → IsPutHere s (traces s) c t → MayMakeRunnable (core_of shape words homes traces) s t
      by_put c here =
          let queue = value_of (queue_held (traces s) c) here.queue in
          make_runnable_put_may shape words homes traces s kept.holds kept.put_there c t queue.0 seat task queue.1
          here.there here.added here.other

  pub store_cpu_possible : (t y : ℕ) → t < shape.tasks → MayCpuWord s (traces s) shape t (words t CPU) y
      → MayStoreCpu (core_of shape words homes traces) s t y
  store_cpu_possible t y task may = elim may.placeable [
    | inl new ↦ let out = value_of (task_held (traces s) t) new.0 in
        store_cpu_new_may words traces s kept.numbers shape homes kept.holds t y out.0 seat task
        may.processor out.1 new.1
    | inr rest ↦ elim rest [
      | inl claimed ↦ store_cpu_may shape words homes traces s kept.holds seat t y task may.processor
          claimed.0 claimed.1
      | inr moves ↦ record {
        seat = seat;
        task = task;
        processor = may.processor;
        locked = task_locked t moves.0;
        placeable = inr (inr (kept.moving.known s t moves.1).1);
      }
    ]
  ]
