-- Each kind of step on the words is an event of the core that they show.
use Rattle.std.proofs.Common.{◌≡◌, ℕ, suc, refl, List}
use Rattle.std.specs.Prelude.{◌+◌, ◌/◌, ◌%◌, ◌^◌, Bool, true, false, Option, Some, None}
use Rattle.core_data.specs.Queue.{Queue}
use Rattle.core_data.specs.Columns.{put, put_at}
use Rattle.core_data.specs.declared.values.TaskVal.{TaskVal}
use Rattle.core_data.specs.declared.values.WaitEntry.{WaitEntry}
use Rattle.core_data.specs.declared.values.WorkItem.{WorkItem}
use Rattle.core_gives.specs.Queues.{MayGiveQueue}
use Rattle.core_gives.specs.Waits.{MayGiveWait}
use Rattle.core_invariant.specs.Invariant.{Holds}
use Rattle.core_kinds.specs.Locks.{MayTakeTask, MayGiveTask, MayTakeQueue, MayTakeWait, MayTakeWorks, MayGiveWorks}
use Rattle.core_kinds.specs.Running.{MayQueue, MayDequeue, MayMove, MaySetBusy, MayClearBusy, MayBodyOut, MayBodyHome}
use Rattle.core_kinds.specs.Waking.{MaySetState, MayClaim, MayMakeRunnable, MayLoad, MayLoadState, MayStoreCpu, MayBump}
use Rattle.core_law.specs.declared.step.StepKind.TheVariants as step
use Rattle.handoff_data.specs.declared.shape.Shape.{Shape}
use Rattle.handoff_data.specs.declared.state.State.{State}
use Rattle.word_steps.proofs.Takes.{take_task_shown, take_queue_shown, take_works_shown, take_wait_shown}
use Rattle.word_steps.proofs.Gives.{give_task_shown, give_queue_shown, give_works_shown, give_wait_shown}
use Rattle.word_steps.proofs.Stores.{store_cpu_shown, set_state_shown, claim_shown, make_runnable_shown, bump_shown}
use Rattle.word_steps.proofs.Loads.{load_cpu_shown, load_count_shown, load_state_shown, load_rq_shown, load_busy_shown, load_cond_shown}
use Rattle.word_steps.proofs.Runs.{queue_task_shown, dequeue_task_shown, move_task_shown, set_busy_shown, clear_busy_shown, body_out_shown, body_home_shown}
use Rattle.word_steps.proofs.OwnRead.{own_read}
use Rattle.word_steps.specs.Decode.{Homes, core_of}
use Rattle.word_steps.specs.Events.{IsEvent}
use Rattle.word_steps.specs.Folds.{task_held, queue_held, works_held, wait_held}
use Rattle.word_steps.specs.Records.{Rec, Took, Gave, OutBody, HomeBody, Queued, Dequeued, Moved, SetBusy, ClearedBusy, StateSet, Claimed, MadeRunnable, LoadedState, LoadedRq, LoadedBusy, LoadedCpu}
use Rattle.word_steps.specs.Records.{LoadedCount, StoredCpu, Bumped, LoadedCond}
use Rattle.word_steps.specs.Words.{LOCK, STATE, RQ, BUSY, CPU, COUNT, QUEUE_LOCK, WORKS_LOCK, WAIT_LOCK, COND, is_set}
use Rattle.word_steps.specs.declared.val.Val.TheVariants as val

module _ (shape : Shape) (words : ℕ → ℕ → ℕ) (homes : Homes) (traces : ℕ → List Rec) (s : ℕ) where
  pub take_task_event : (t : ℕ) (v : TaskVal) → homes.task t ≡ Some v → MayTakeTask (core_of shape words homes traces) s t
      → IsEvent shape words homes traces s (Took t (val.Task v)) (put_at words t LOCK (suc s)) (record homes { task = put homes.task t None })
  take_task_event t v home may =
      record { kind = step.TakeTask t; noted = (v, home, refl); writes = refl; event = record { possible = may; next_is = take_task_shown shape words homes traces s t v home } }

  pub take_queue_event : (c : ℕ) (v : Queue) → homes.queue c ≡ Some v → MayTakeQueue (core_of shape words homes traces) s c
      → IsEvent shape words homes traces s (Took c (val.Queue v)) (put_at words c QUEUE_LOCK (suc s)) (record homes { queue = put homes.queue c None })
  take_queue_event c v home may =
      record { kind = step.TakeQueue c; noted = (v, home, refl); writes = refl; event = record { possible = may; next_is = take_queue_shown shape words homes traces s c v home } }

  pub take_works_event : (c : ℕ) (v : List WorkItem) → homes.works c ≡ Some v → MayTakeWorks (core_of shape words homes traces) s c
      → IsEvent shape words homes traces s (Took c (val.Works v)) (put_at words c WORKS_LOCK (suc s)) (record homes { works = put homes.works c None })
  take_works_event c v home may =
      record { kind = step.TakeWorks c; noted = (v, home, refl); writes = refl; event = record { possible = may; next_is = take_works_shown shape words homes traces s c v home } }

  pub take_wait_event : (k : ℕ) (v : List WaitEntry) → homes.wait k ≡ Some v → MayTakeWait (core_of shape words homes traces) s k
      → IsEvent shape words homes traces s (Took k (val.Wait v)) (put_at words k WAIT_LOCK (suc s)) (record homes { wait = put homes.wait k None })
  take_wait_event k v home may =
      record { kind = step.TakeWait k; noted = (v, home, refl); writes = refl; event = record { possible = may; next_is = take_wait_shown shape words homes traces s k v home } }

  pub give_task_event : (t : ℕ) (taken : TaskVal) (given : TaskVal) → task_held (traces s) t ≡ Some taken → MayGiveTask (core_of shape words homes traces) s t given false false
      → IsEvent shape words homes traces s (Gave t (val.Task taken) (val.Task given)) (put_at words t LOCK 0) (record homes { task = put homes.task t (Some given) })
  give_task_event t taken given out may =
      record {
        kind = step.GiveTask t given false false;
        noted = (taken, out, refl);
        writes = refl;
        event = record { possible = may; next_is = give_task_shown shape words homes traces s t taken given };
      }

  pub give_queue_event : (c : ℕ) (taken : Queue) (given : Queue) → queue_held (traces s) c ≡ Some taken → MayGiveQueue (core_of shape words homes traces) s c given
      → IsEvent shape words homes traces s (Gave c (val.Queue taken) (val.Queue given)) (put_at words c QUEUE_LOCK 0) (record homes { queue = put homes.queue c (Some given) })
  give_queue_event c taken given out may =
      record { kind = step.GiveQueue c given; noted = (taken, out, refl); writes = refl; event = record { possible = may; next_is = give_queue_shown shape words homes traces s c taken given } }

  pub give_works_event : (c : ℕ) (taken : List WorkItem) (given : List WorkItem) → works_held (traces s) c ≡ Some taken → MayGiveWorks (core_of shape words homes traces) s c given
      → IsEvent shape words homes traces s (Gave c (val.Works taken) (val.Works given)) (put_at words c WORKS_LOCK 0) (record homes { works = put homes.works c (Some given) })
  give_works_event c taken given out may =
      record { kind = step.GiveWorks c given; noted = (taken, out, refl); writes = refl; event = record { possible = may; next_is = give_works_shown shape words homes traces s c taken given } }

  pub give_wait_event : (k : ℕ) (taken : List WaitEntry) (given : List WaitEntry) → wait_held (traces s) k ≡ Some taken → MayGiveWait (core_of shape words homes traces) s k given
      → IsEvent shape words homes traces s (Gave k (val.Wait taken) (val.Wait given)) (put_at words k WAIT_LOCK 0) (record homes { wait = put homes.wait k (Some given) })
  give_wait_event k taken given out may =
      record { kind = step.GiveWait k given; noted = (taken, out, refl); writes = refl; event = record { possible = may; next_is = give_wait_shown shape words homes traces s k taken given out } }

  pub store_cpu_event : (t : ℕ) (c : ℕ) → MayStoreCpu (core_of shape words homes traces) s t c
      → IsEvent shape words homes traces s (StoredCpu t c) (put_at words t CPU c) homes
  store_cpu_event t c may =
      record { kind = step.StoreCpu t c; noted = refl; writes = refl; event = record { possible = may; next_is = store_cpu_shown shape words homes traces s t c } }

  pub set_state_event : (t : ℕ) (state : State) → MaySetState (core_of shape words homes traces) s t state
      → IsEvent shape words homes traces s (StateSet t state) (put_at words t STATE state.0) homes
  set_state_event t state may =
      record { kind = step.SetState t state; noted = refl; writes = refl; event = record { possible = may; next_is = set_state_shown shape words homes traces s t state } }

  pub claim_event : (t : ℕ) → MayClaim (core_of shape words homes traces) s t
      → IsEvent shape words homes traces s (Claimed t (words t RQ / 4)) (put_at words t STATE 0x200) homes
  claim_event t may =
      record { kind = step.ClaimTask t; noted = refl; writes = refl; event = record { possible = may; next_is = claim_shown shape words homes traces s t } }

  pub make_runnable_event : (t : ℕ) → MayMakeRunnable (core_of shape words homes traces) s t
      → IsEvent shape words homes traces s (MadeRunnable t) (put_at words t STATE 0) homes
  make_runnable_event t may =
      record { kind = step.MakeRunnable t; noted = refl; writes = refl; event = record { possible = may; next_is = make_runnable_shown shape words homes traces s t } }

  pub bump_event : (k : ℕ) → MayBump (core_of shape words homes traces) s k
      → IsEvent shape words homes traces s (Bumped k (words k COND)) (put_at words k COND ((words k COND + 1) % 2 ^ 64)) homes
  bump_event k may =
      record { kind = step.Bump k; noted = refl; writes = refl; event = record { possible = may; next_is = bump_shown shape words homes traces s k } }

  pub load_cpu_event : (t : ℕ) → MayLoad (core_of shape words homes traces) s t
      → IsEvent shape words homes traces s (LoadedCpu t (words t CPU)) words homes
  load_cpu_event t may =
      record { kind = step.LoadCpu t; noted = refl; writes = refl; event = record { possible = may; next_is = load_cpu_shown shape words homes traces s t } }

  pub load_count_event : (t : ℕ) → MayLoad (core_of shape words homes traces) s t
      → IsEvent shape words homes traces s (LoadedCount t (words t COUNT)) words homes
  load_count_event t may =
      record { kind = step.LoadCount t; noted = refl; writes = refl; event = record { possible = may; next_is = load_count_shown shape words homes traces s t } }

  pub load_state_event : (t : ℕ) (mask : Option State) → Holds (core_of shape words homes traces) → MayLoadState (core_of shape words homes traces) s t mask
      → IsEvent shape words homes traces s (LoadedState t mask (record { 0 = words t STATE })) words homes
  load_state_event t mask holds may =
      record {
        kind = step.LoadState t mask;
        noted = refl;
        writes = refl;
        event = record { possible = may; next_is = load_state_shown shape words homes traces s t mask (own_read (core_of shape words homes traces) s t holds) };
      }

  pub load_rq_event : (t : ℕ) → MayLoad (core_of shape words homes traces) s t
      → IsEvent shape words homes traces s (LoadedRq t (words t RQ % 4) (words t RQ / 4)) words homes
  load_rq_event t may =
      record { kind = step.LoadRq t; noted = refl; writes = refl; event = record { possible = may; next_is = load_rq_shown shape words homes traces s t } }

  pub load_busy_event : (t : ℕ) → MayLoad (core_of shape words homes traces) s t
      → IsEvent shape words homes traces s (LoadedBusy t (is_set (words t BUSY)) (words t BUSY / 2)) words homes
  load_busy_event t may =
      record { kind = step.LoadBusy t; noted = refl; writes = refl; event = record { possible = may; next_is = load_busy_shown shape words homes traces s t } }

  pub load_cond_event : (k : ℕ) → MayBump (core_of shape words homes traces) s k
      → IsEvent shape words homes traces s (LoadedCond k (words k COND)) words homes
  load_cond_event k may =
      record { kind = step.LoadCond k; noted = refl; writes = refl; event = record { possible = may; next_is = load_cond_shown shape words homes traces s k } }

  pub queue_task_event : (c : ℕ) (t : ℕ) (x : ℕ) → x % 4 ≡ 1 → x / 4 ≡ words t RQ / 4 + 1 → MayQueue (core_of shape words homes traces) s c t
      → IsEvent shape words homes traces s (Queued t c (words t RQ % 4) (words t RQ / 4)) (put_at words t RQ x) homes
  queue_task_event c t x on_is next may =
      record { kind = step.QueueTask c t; noted = refl; writes = (x, refl); event = record { possible = may; next_is = queue_task_shown shape words homes traces s c t x on_is next } }

  pub dequeue_task_event : (c : ℕ) (t : ℕ) (x : ℕ) → x % 4 ≡ 0 → x / 4 ≡ words t RQ / 4 + 1 → MayDequeue (core_of shape words homes traces) s c t
      → IsEvent shape words homes traces s (Dequeued t c (words t RQ / 4)) (put_at words t RQ x) homes
  dequeue_task_event c t x on_is next may =
      record { kind = step.DequeueTask c t; noted = refl; writes = (x, refl); event = record { possible = may; next_is = dequeue_task_shown shape words homes traces s c t x on_is next } }

  pub move_task_event : (c : ℕ) (t : ℕ) (x : ℕ) (queue : Queue) → x % 4 ≡ 2 → x / 4 ≡ words t RQ / 4 + 1 → MayMove (core_of shape words homes traces) s c t queue
      → IsEvent shape words homes traces s (Moved t c (words t RQ / 4)) (put_at words t RQ x) homes
  move_task_event c t x queue on_is next may =
      record { kind = step.MoveTask c t queue; noted = refl; writes = (x, refl); event = record { possible = may; next_is = move_task_shown shape words homes traces s c t x on_is next } }

  pub set_busy_event : (c : ℕ) (t : ℕ) (x : ℕ) (queue : Queue) → x % 2 ≡ 1 → x / 2 ≡ words t BUSY / 2 + 1 → MaySetBusy (core_of shape words homes traces) s c t queue
      → IsEvent shape words homes traces s (SetBusy t c (words t BUSY / 2)) (put_at words t BUSY x) homes
  set_busy_event c t x queue busy_is next may =
      record { kind = step.SetBusy c t queue; noted = refl; writes = (x, refl); event = record { possible = may; next_is = set_busy_shown shape words homes traces s c t x busy_is next } }

  pub clear_busy_event : (t : ℕ) (x : ℕ) → x % 2 ≡ 0 → x / 2 ≡ words t BUSY / 2 + 1 → MayClearBusy (core_of shape words homes traces) s t
      → IsEvent shape words homes traces s (ClearedBusy t (words t BUSY / 2)) (put_at words t BUSY x) homes
  clear_busy_event t x busy_is next may =
      record { kind = step.ClearBusy t; noted = refl; writes = (x, refl); event = record { possible = may; next_is = clear_busy_shown shape words homes traces s t x busy_is next } }

  pub body_out_event : (t : ℕ) → MayBodyOut (core_of shape words homes traces) s t
      → IsEvent shape words homes traces s (OutBody t (homes.ended t)) words (record homes { body = put homes.body t false })
  body_out_event t may =
      record { kind = step.BodyOut t; noted = refl; writes = refl; event = record { possible = may; next_is = body_out_shown shape words homes traces s t (homes.ended t) } }

  pub body_home_event : (t : ℕ) (ended : Bool) → MayBodyHome (core_of shape words homes traces) s t ended
      → IsEvent shape words homes traces s (HomeBody t ended) words (record homes { body = put homes.body t true; ended = put homes.ended t ended })
  body_home_event t ended may =
      record { kind = step.BodyHome t ended; noted = refl; writes = refl; event = record { possible = may; next_is = body_home_shown shape words homes traces s t ended } }
