-- Takes and gives of locks keep the rule; a free lock has its value home, and a held one names its seat.
use Rattle.std.proofs.Common.{◌≡◌, ◌≢◌, ℕ, zero, suc, ◌<◌, ◌+◌, refl, sym, ap, subst, ◌∙◌, List, ◌∷◌, arith}
use Rattle.std.specs.Prelude.{false, Option, Some, None, IsSome, unwrap_or}
use Rattle.core_data.specs.Queue.{Queue}
use Rattle.core_data.specs.Columns.{put, put_at}
use Rattle.core_data.specs.declared.values.TaskVal.{TaskVal}
use Rattle.core_data.specs.declared.values.WaitEntry.{WaitEntry}
use Rattle.core_data.specs.declared.values.WorkItem.{WorkItem}
use Rattle.core_gives.specs.Queues.{MayGiveQueue}
use Rattle.core_gives.specs.Waits.{MayGiveWait}
use Rattle.core_kinds.specs.Locks.{MayGiveTask, MayGiveWorks}
use Rattle.handoff_data.specs.declared.shape.Shape.{Shape}
use Rattle.word_rule.proofs.BodiesKept.{known_still}
use Rattle.word_rule.proofs.GiveQueue.{give_queue_may}
use Rattle.word_rule.proofs.GrownKept.{grown_beside, take_task_grown}
use Rattle.word_rule.proofs.OffKept.{off_beside, take_task_off, give_task_off}
use Rattle.word_rule.proofs.Possible.{value_of}
use Rattle.word_rule.proofs.PossibleGives.{give_task_possible, give_works_possible, give_wait_possible}
use Rattle.word_rule.proofs.Quiet.{IsQuiet, IsSteady, IsOutside, IsBeside, words_hold_after, quiet_beside, works_beside, wait_beside}
use Rattle.word_rule.proofs.RunsKept.{runs_beside, take_queue_runs, give_queue_runs}
use Rattle.word_rule.proofs.StandingKept.{standing_beside, take_queue_standing, give_queue_standing}
use Rattle.word_rule.specs.WordsHold.{WordsHold}
use Rattle.word_rule.specs.May.{MayGive}
use Rattle.word_rule.specs.Sorts.{Sort, OfTask, OfQueue, OfWorks, OfWait, IsOf, lock_of, count_of, some_of, held_of, home_of, without, with_home}
use Rattle.word_rule.specs.Standing.{may_run}
use Rattle.word_steps.proofs.Conditions.{take_task_may, take_queue_may, take_works_may, take_wait_may}
use Rattle.word_steps.proofs.CurrentKept.{current_quiet, give_queue_current}
use Rattle.word_steps.proofs.EndedKept.{ended_still, give_queue_ended, counts_put}
use Rattle.word_steps.proofs.Events.{take_task_event, take_queue_event, take_works_event, take_wait_event, give_task_event, give_queue_event, give_works_event, give_wait_event}
use Rattle.word_steps.proofs.ExclusivesKept.{exclusives_beside, take_wait_exclusives, give_wait_exclusives}
use Rattle.word_steps.proofs.MatchedKept.{matched_beside, grows_beside, take_task_matched, give_task_matched}
use Rattle.word_steps.proofs.MovingKept.{states_put}
use Rattle.word_steps.proofs.MovingSteps.{moving_beside, take_task_moves, give_task_moves}
use Rattle.word_steps.proofs.NumbersKept.{numbers_beside, take_task_numbers, give_task_numbers}
use Rattle.word_steps.proofs.PutKept.{put_beside, take_queue_put, give_queue_put}
use Rattle.word_steps.proofs.QueuedKept.{take_task_queued, take_queue_queued, give_task_queued, give_queue_queued}
use Rattle.word_steps.specs.Decode.{Homes, core_of}
use Rattle.word_steps.specs.Events.{IsEvent}
use Rattle.word_steps.specs.Exclusives.{ExclusivesHold}
use Rattle.word_steps.specs.Folds.{task_held, queue_held, works_held, wait_held}
use Rattle.word_steps.specs.Records.{Rec, Took, Gave}
use Rattle.word_steps.specs.Words.{LOCK, STATE, QUEUE_LOCK, WORKS_LOCK, WAIT_LOCK, holder}
use Rattle.word_steps.specs.declared.val.Val.{Val}
use Rattle.word_steps.specs.declared.val.Val.TheVariants as val

-- the value of one sort that is there
of_sort : {A : Type 0} (f : A → Val) (o : Option A) (v : Val) → some_of f o ≡ Some v
    → (w : A) × (o ≡ Some w) × (f w ≡ v)
of_sort f None v e = absurd (grind (arith, e))
of_sort f (Some w) v e = (w, refl, ap (λ (z : Option Val). unwrap_or z (f w)) e)

-- .. and of two that are there
one_value : {A : Type 0} (f : A → Val) (o : Option A) (w : A) (v : Val) → o ≡ Some w → some_of f o ≡ Some v → f w ≡ v
one_value f o w v is e = ap (λ (z : Option Val). unwrap_or z (f w)) (ap (some_of f) (sym is) ∙ e)

seat_word : (x s : ℕ) → holder x ≡ Some s → x ≡ suc s
seat_word zero s e = absurd (grind (arith, e))
seat_word (suc k) s e = ap (λ (o : Option ℕ). suc (unwrap_or o k)) e

module _ (shape : Shape) (words : ℕ → ℕ → ℕ) (homes : Homes) (traces : ℕ → List Rec) (s n : ℕ)
    (kept : WordsHold shape words homes traces) (seat : s < shape.cpus + shape.agents) where
  take_task_kept : (v : TaskVal) → homes.task n ≡ Some v → n < shape.tasks → words n LOCK ≡ 0
      → WordsHold shape (put_at words n LOCK (suc s)) (record homes { task = put homes.task n None })
      (put traces s (Took n (val.Task v) ∷ traces s))
  take_task_kept v home near free =
      let may = take_task_may shape words homes traces s kept.holds seat n near free in
      words_hold_after shape words homes traces s kept (Took n (val.Task v)) (put_at words n LOCK (suc s))
      (record homes { task = put homes.task n None })
      (take_task_event shape words homes traces s n v home may)
      (record {
        moving = take_task_moves shape words homes traces s kept.moving n v kept.holds may;
        current = current_quiet words traces s kept.current n LOCK (suc s) (Took n (val.Task v))
            (λ e. omega (arith, e)) (λ j. refl) refl;
        numbers = take_task_numbers words traces s kept.numbers n v;
        matched = take_task_matched words traces s kept.matched n v;
        queued = take_task_queued words traces s kept.queued n v;
        exclusives = exclusives_beside words homes.wait traces s kept.exclusives n LOCK (suc s) (Took n (val.Task v))
            (λ e. omega (arith, e)) (λ e. omega (arith, e)) (λ t k e. e) refl refl;
        put_there = put_beside words traces s kept.put_there n LOCK (suc s) (Took n (val.Task v))
            (λ e. omega (arith, e)) (λ e. omega (arith, e)) (λ e. omega (arith, e)) refl;
        ended = ended_still homes.ended traces s kept.ended (Took n (val.Task v)) (λ j. refl) refl;
        counts = counts_put words n LOCK (suc s) kept.counts (λ e. omega (arith, e));
        states = states_put words n LOCK (suc s) kept.states (λ e. absurd (omega (arith, e)));
        standing = standing_beside words traces s kept.standing n LOCK (suc s) (Took n (val.Task v))
            (λ e. omega (arith, e)) (λ e. omega (arith, e)) (λ e. omega (arith, e)) refl;
        runs = runs_beside words traces s kept.runs n LOCK (suc s) (Took n (val.Task v))
            (λ e. omega (arith, e)) (λ e. omega (arith, e)) (λ e. omega (arith, e)) (λ e. omega (arith, e)) refl refl;
        off = take_task_off words traces s kept.off n v;
        grown = take_task_grown words traces s kept.grown n (suc s) v;
        known = known_still traces s kept.known (Took n (val.Task v)) refl refl;
      })

  take_queue_kept : (v : Queue) → homes.queue n ≡ Some v → n < shape.cpus → words n QUEUE_LOCK ≡ 0
      → WordsHold shape (put_at words n QUEUE_LOCK (suc s)) (record homes { queue = put homes.queue n None })
      (put traces s (Took n (val.Queue v) ∷ traces s))
  take_queue_kept v home near free =
      let may = take_queue_may shape words homes traces s kept.holds seat n near free in
      words_hold_after shape words homes traces s kept (Took n (val.Queue v)) (put_at words n QUEUE_LOCK (suc s))
      (record homes { queue = put homes.queue n None })
      (take_queue_event shape words homes traces s n v home may)
      (record {
        moving = moving_beside shape words homes traces s kept.moving n QUEUE_LOCK (suc s) (Took n (val.Queue v))
            (λ e. omega (arith, e)) (λ e. omega (arith, e)) (λ h. refl);
        current = current_quiet words traces s kept.current n QUEUE_LOCK (suc s) (Took n (val.Queue v))
            (λ e. omega (arith, e)) (λ j. refl) refl;
        numbers = numbers_beside words traces s kept.numbers n QUEUE_LOCK (suc s) (Took n (val.Queue v))
            (λ e. omega (arith, e)) (λ e. omega (arith, e)) (λ h. refl);
        matched = matched_beside words traces s kept.matched n QUEUE_LOCK (suc s) (Took n (val.Queue v))
            (λ e. omega (arith, e))
            (grows_beside words traces s kept.matched n QUEUE_LOCK (suc s) (λ e. omega (arith, e))) refl;
        queued = take_queue_queued words traces s kept.queued n v;
        exclusives = exclusives_beside words homes.wait traces s kept.exclusives n QUEUE_LOCK (suc s) (Took n (val.Queue v))
            (λ e. omega (arith, e)) (λ e. omega (arith, e)) (λ t k e. e) refl refl;
        put_there = take_queue_put words traces s kept.put_there n v;
        ended = ended_still homes.ended traces s kept.ended (Took n (val.Queue v)) (λ j. refl) refl;
        counts = counts_put words n QUEUE_LOCK (suc s) kept.counts (λ e. omega (arith, e));
        states = states_put words n QUEUE_LOCK (suc s) kept.states (λ e. absurd (omega (arith, e)));
        standing = take_queue_standing words traces s kept.standing shape homes kept.holds n v home;
        runs = take_queue_runs words traces s kept.runs shape homes kept.holds n v home may;
        off = off_beside words traces s kept.off n QUEUE_LOCK (suc s) (Took n (val.Queue v)) (λ e. omega (arith, e))
            (λ e. omega (arith, e)) (λ t e. e) refl;
        grown = grown_beside words traces s kept.grown n QUEUE_LOCK (suc s) (Took n (val.Queue v))
            (λ e. omega (arith, e)) refl;
        known = known_still traces s kept.known (Took n (val.Queue v)) refl refl;
      })

  give_task_kept : (taken given : TaskVal) → task_held (traces s) n ≡ Some taken
      → MayGiveTask (core_of shape words homes traces) s n given false false
      → WordsHold shape (put_at words n LOCK 0) (record homes { task = put homes.task n (Some given) })
      (put traces s (Gave n (val.Task taken) (val.Task given) ∷ traces s))
  give_task_kept taken given out may =
      words_hold_after shape words homes traces s kept (Gave n (val.Task taken) (val.Task given)) (put_at words n LOCK 0)
      (record homes { task = put homes.task n (Some given) })
      (give_task_event shape words homes traces s n taken given out may)
      (record {
        moving = give_task_moves shape words homes traces s kept.moving n taken given false false may;
        current = current_quiet words traces s kept.current n LOCK 0 (Gave n (val.Task taken) (val.Task given))
            (λ e. omega (arith, e)) (λ j. refl) refl;
        numbers = give_task_numbers words traces s kept.numbers n taken given;
        matched = give_task_matched words traces s kept.matched n taken given;
        queued = give_task_queued words traces s kept.queued n taken given;
        exclusives = exclusives_beside words homes.wait traces s kept.exclusives n LOCK 0 (Gave n (val.Task taken) (val.Task given))
            (λ e. omega (arith, e)) (λ e. omega (arith, e)) (λ t k e. e) refl refl;
        put_there = put_beside words traces s kept.put_there n LOCK 0 (Gave n (val.Task taken) (val.Task given))
            (λ e. omega (arith, e)) (λ e. omega (arith, e)) (λ e. omega (arith, e)) refl;
        ended = ended_still homes.ended traces s kept.ended (Gave n (val.Task taken) (val.Task given)) (λ j. refl) refl;
        counts = counts_put words n LOCK 0 kept.counts (λ e. omega (arith, e));
        states = states_put words n LOCK 0 kept.states (λ e. absurd (omega (arith, e)));
        standing = standing_beside words traces s kept.standing n LOCK 0 (Gave n (val.Task taken) (val.Task given))
            (λ e. omega (arith, e)) (λ e. omega (arith, e)) (λ e. omega (arith, e)) refl;
        runs = runs_beside words traces s kept.runs n LOCK 0 (Gave n (val.Task taken) (val.Task given))
            (λ e. omega (arith, e)) (λ e. omega (arith, e)) (λ e. omega (arith, e)) (λ e. omega (arith, e)) refl refl;
        off = give_task_off words traces s kept.off n taken given;
        grown = grown_beside words traces s kept.grown n LOCK 0 (Gave n (val.Task taken) (val.Task given))
            (λ e. omega (arith, e)) refl;
        known = known_still traces s kept.known (Gave n (val.Task taken) (val.Task given)) refl refl;
      })

  give_queue_kept : (taken given : Queue) → queue_held (traces s) n ≡ Some taken
      → MayGiveQueue (core_of shape words homes traces) s n given
      → WordsHold shape (put_at words n QUEUE_LOCK 0) (record homes { queue = put homes.queue n (Some given) })
      (put traces s (Gave n (val.Queue taken) (val.Queue given) ∷ traces s))
  give_queue_kept taken given out may =
      words_hold_after shape words homes traces s kept (Gave n (val.Queue taken) (val.Queue given)) (put_at words n QUEUE_LOCK 0)
      (record homes { queue = put homes.queue n (Some given) })
      (give_queue_event shape words homes traces s n taken given out may)
      (record {
        moving = moving_beside shape words homes traces s kept.moving n QUEUE_LOCK 0
            (Gave n (val.Queue taken) (val.Queue given)) (λ e. omega (arith, e)) (λ e. omega (arith, e)) (λ h. refl);
        current = give_queue_current words traces s kept.current n QUEUE_LOCK 0 taken given (λ e. omega (arith, e));
        numbers = numbers_beside words traces s kept.numbers n QUEUE_LOCK 0
            (Gave n (val.Queue taken) (val.Queue given)) (λ e. omega (arith, e)) (λ e. omega (arith, e)) (λ h. refl);
        matched = matched_beside words traces s kept.matched n QUEUE_LOCK 0
            (Gave n (val.Queue taken) (val.Queue given)) (λ e. omega (arith, e))
            (grows_beside words traces s kept.matched n QUEUE_LOCK 0 (λ e. omega (arith, e))) refl;
        queued = give_queue_queued words traces s kept.queued n taken given;
        exclusives = exclusives_beside words homes.wait traces s kept.exclusives n QUEUE_LOCK 0 (Gave n (val.Queue taken) (val.Queue given))
            (λ e. omega (arith, e)) (λ e. omega (arith, e)) (λ t k e. e) refl refl;
        put_there = give_queue_put words traces s kept.put_there n taken given;
        ended = give_queue_ended homes.ended traces s kept.ended n taken given;
        counts = counts_put words n QUEUE_LOCK 0 kept.counts (λ e. omega (arith, e));
        states = states_put words n QUEUE_LOCK 0 kept.states (λ e. absurd (omega (arith, e)));
        standing = give_queue_standing words traces s kept.standing n taken given;
        runs = give_queue_runs words traces s kept.runs n taken given;
        off = off_beside words traces s kept.off n QUEUE_LOCK 0 (Gave n (val.Queue taken) (val.Queue given))
            (λ e. omega (arith, e)) (λ e. omega (arith, e)) (λ t e. e) refl;
        grown = grown_beside words traces s kept.grown n QUEUE_LOCK 0 (Gave n (val.Queue taken) (val.Queue given))
            (λ e. omega (arith, e)) refl;
        known = known_still traces s kept.known (Gave n (val.Queue taken) (val.Queue given)) refl refl;
      })

  -- the locks of works and of wait queues tell nothing of what stands beside the invariant
  quiet_lock : (c x : ℕ) (homes' : Homes) (r : Rec) → homes'.ended ≡ homes.ended → IsBeside c → STATE ≢ c
      → IsQuiet r (traces s) → IsSteady r (traces s) → IsOutside r (traces s)
      → may_run s (r ∷ traces s) ≡ may_run s (traces s)
      → ExclusivesHold (put_at words n c x) homes'.wait (put traces s (r ∷ traces s))
      → IsEvent shape words homes traces s r (put_at words n c x) homes'
      → WordsHold shape (put_at words n c x) homes' (put traces s (r ∷ traces s))
  quiet_lock c x homes' r same at state quiet steady outside runs exclusives event =
      quiet_beside shape words homes homes' traces s kept same n c x r at
      (λ e. absurd (state (sym e))) quiet steady outside exclusives event
      (runs_beside words traces s kept.runs n c x r at.queue at.cpu at.rq state runs (steady.current s))

  take_works_kept : (v : List WorkItem) → homes.works n ≡ Some v → n < shape.cpus → words n WORKS_LOCK ≡ 0
      → WordsHold shape (put_at words n WORKS_LOCK (suc s)) (record homes { works = put homes.works n None })
      (put traces s (Took n (val.Works v) ∷ traces s))
  take_works_kept v home near free =
      quiet_lock WORKS_LOCK (suc s) (record homes { works = put homes.works n None })
      (Took n (val.Works v)) refl works_beside (λ e. omega (arith, e))
      (record {
        moving = λ h. refl;
        numbers = λ h. refl;
        matched = refl;
        queued = λ c t e. e;
        put_there = refl;
        standing = refl;
        off = λ t e. e;
      })
      (record { current = λ j. refl; stays = refl }) (record { ended = refl; body = refl }) refl
      (exclusives_beside words homes.wait traces s kept.exclusives n WORKS_LOCK (suc s) (Took n (val.Works v))
      (λ e. omega (arith, e)) (λ e. omega (arith, e)) (λ t k e. e) refl refl)
      (take_works_event shape words homes traces s n v home
      (take_works_may shape words homes traces s kept.holds seat n near free))

  take_wait_kept : (v : List WaitEntry) → homes.wait n ≡ Some v → n < shape.conds → words n WAIT_LOCK ≡ 0
      → WordsHold shape (put_at words n WAIT_LOCK (suc s)) (record homes { wait = put homes.wait n None })
      (put traces s (Took n (val.Wait v) ∷ traces s))
  take_wait_kept v home near free =
      quiet_lock WAIT_LOCK (suc s) (record homes { wait = put homes.wait n None })
      (Took n (val.Wait v)) refl wait_beside (λ e. omega (arith, e))
      (record {
        moving = λ h. refl;
        numbers = λ h. refl;
        matched = refl;
        queued = λ c t e. e;
        put_there = refl;
        standing = refl;
        off = λ t e. e;
      })
      (record { current = λ j. refl; stays = refl }) (record { ended = refl; body = refl }) refl
      (take_wait_exclusives words homes.wait traces s kept.exclusives n (suc s) v home)
      (take_wait_event shape words homes traces s n v home
      (take_wait_may shape words homes traces s kept.holds seat n near free))

  give_works_kept : (taken given : List WorkItem) → works_held (traces s) n ≡ Some taken
      → MayGiveWorks (core_of shape words homes traces) s n given
      → WordsHold shape (put_at words n WORKS_LOCK 0) (record homes { works = put homes.works n (Some given) })
      (put traces s (Gave n (val.Works taken) (val.Works given) ∷ traces s))
  give_works_kept taken given out may =
      quiet_lock WORKS_LOCK 0 (record homes { works = put homes.works n (Some given) })
      (Gave n (val.Works taken) (val.Works given)) refl works_beside (λ e. omega (arith, e))
      (record {
        moving = λ h. refl;
        numbers = λ h. refl;
        matched = refl;
        queued = λ c t e. e;
        put_there = refl;
        standing = refl;
        off = λ t e. e;
      })
      (record { current = λ j. refl; stays = refl }) (record { ended = refl; body = refl }) refl
      (exclusives_beside words homes.wait traces s kept.exclusives n WORKS_LOCK 0 (Gave n (val.Works taken) (val.Works given))
      (λ e. omega (arith, e)) (λ e. omega (arith, e)) (λ t k e. e) refl refl)
      (give_works_event shape words homes traces s n taken given out may)

  give_wait_kept : (taken given : List WaitEntry) → wait_held (traces s) n ≡ Some taken
      → MayGiveWait (core_of shape words homes traces) s n given
      → WordsHold shape (put_at words n WAIT_LOCK 0) (record homes { wait = put homes.wait n (Some given) })
      (put traces s (Gave n (val.Wait taken) (val.Wait given) ∷ traces s))
  give_wait_kept taken given out may =
      quiet_lock WAIT_LOCK 0 (record homes { wait = put homes.wait n (Some given) })
      (Gave n (val.Wait taken) (val.Wait given)) refl wait_beside (λ e. omega (arith, e))
      (record {
        moving = λ h. refl;
        numbers = λ h. refl;
        matched = refl;
        queued = λ c t e. e;
        put_there = refl;
        standing = refl;
        off = λ t e. e;
      })
      (record { current = λ j. refl; stays = refl }) (record { ended = refl; body = refl }) refl
      (give_wait_exclusives shape words homes traces s kept.exclusives kept.holds n 0 taken given out may)
      (give_wait_event shape words homes traces s n taken given out may)

-- The laws for each sort of lock

-- a free lock has its value home
pub home_there : (sort : Sort) (shape : Shape) (words : ℕ → ℕ → ℕ) (homes : Homes) (traces : ℕ → List Rec) (n : ℕ)
    → WordsHold shape words homes traces → n < count_of sort shape → words n (lock_of sort) ≡ 0
    → (v : Val) × (home_of sort homes n ≡ Some v) × IsOf sort v
home_there OfTask shape words homes traces n kept near free =
    let v = value_of (homes.task n) (kept.holds.locks.tasks.free_home n near (ap holder free)) in
    (val.Task v.0, ap (some_of val.Task) v.1, tt)
home_there OfQueue shape words homes traces n kept near free =
    let v = value_of (homes.queue n) (kept.holds.locks.queues.free_home n near (ap holder free)) in
    (val.Queue v.0, ap (some_of val.Queue) v.1, tt)
home_there OfWorks shape words homes traces n kept near free =
    let v = value_of (homes.works n) (kept.holds.locks.works.free_home n near (ap holder free)) in
    (val.Works v.0, ap (some_of val.Works) v.1, tt)
home_there OfWait shape words homes traces n kept near free =
    let v = value_of (homes.wait n) (kept.holds.locks.waits.free_home n near (ap holder free)) in
    (val.Wait v.0, ap (some_of val.Wait) v.1, tt)

some_there : {A : Type 0} (f : A → Val) (o : Option A) (v : Val) → some_of f o ≡ Some v → IsSome o
some_there f o v e = let w = of_sort f o v e in subst (λ (z : Option _). IsSome z) (sym w.1) refl

-- the lock of a value that a seat has out has that seat in its word
pub held_locked : (sort : Sort) (shape : Shape) (words : ℕ → ℕ → ℕ) (homes : Homes) (traces : ℕ
    → List Rec) (s n : ℕ) (v : Val)
    → WordsHold shape words homes traces → held_of sort (traces s) n ≡ Some v → words n (lock_of sort) ≡ suc s
held_locked OfTask shape words homes traces s n v kept held =
    seat_word (words n LOCK) s (kept.holds.locks.tasks.out_held s n
    (some_there val.Task (task_held (traces s) n) v held))
held_locked OfQueue shape words homes traces s n v kept held =
    seat_word (words n QUEUE_LOCK) s (kept.holds.locks.queues.out_held s n
    (some_there val.Queue (queue_held (traces s) n) v held))
held_locked OfWorks shape words homes traces s n v kept held =
    seat_word (words n WORKS_LOCK) s (kept.holds.locks.works.out_held s n
    (some_there val.Works (works_held (traces s) n) v held))
held_locked OfWait shape words homes traces s n v kept held =
    seat_word (words n WAIT_LOCK) s (kept.holds.locks.waits.out_held s n
    (some_there val.Wait (wait_held (traces s) n) v held))

pub take_law : (sort : Sort) (shape : Shape) (words : ℕ → ℕ → ℕ) (homes : Homes) (traces : ℕ
    → List Rec) (s n : ℕ) (v : Val)
    → WordsHold shape words homes traces → s < shape.cpus + shape.agents → n < count_of sort shape
    → words n (lock_of sort) ≡ 0 → home_of sort homes n ≡ Some v
    → WordsHold shape (put_at words n (lock_of sort) (suc s)) (without sort n homes) (put traces s (Took n v ∷ traces s))
take_law OfTask shape words homes traces s n v kept seat near free home =
    let w = of_sort val.Task (homes.task n) v home in
    subst
    (λ (z : Val). WordsHold shape (put_at words n LOCK (suc s)) (without OfTask n homes)
    (put traces s (Took n z ∷ traces s)))
    w.2 (take_task_kept shape words homes traces s n kept seat w.0 w.1 near free)
take_law OfQueue shape words homes traces s n v kept seat near free home =
    let w = of_sort val.Queue (homes.queue n) v home in
    subst
    (λ (z : Val). WordsHold shape (put_at words n QUEUE_LOCK (suc s)) (without OfQueue n homes)
    (put traces s (Took n z ∷ traces s)))
    w.2 (take_queue_kept shape words homes traces s n kept seat w.0 w.1 near free)
take_law OfWorks shape words homes traces s n v kept seat near free home =
    let w = of_sort val.Works (homes.works n) v home in
    subst
    (λ (z : Val). WordsHold shape (put_at words n WORKS_LOCK (suc s)) (without OfWorks n homes)
    (put traces s (Took n z ∷ traces s)))
    w.2 (take_works_kept shape words homes traces s n kept seat w.0 w.1 near free)
take_law OfWait shape words homes traces s n v kept seat near free home =
    let w = of_sort val.Wait (homes.wait n) v home in
    subst
    (λ (z : Val). WordsHold shape (put_at words n WAIT_LOCK (suc s)) (without OfWait n homes)
    (put traces s (Took n z ∷ traces s)))
    w.2 (take_wait_kept shape words homes traces s n kept seat w.0 w.1 near free)

pub give_law : (sort : Sort) (shape : Shape) (words : ℕ → ℕ → ℕ) (homes : Homes) (traces : ℕ
    → List Rec) (s n : ℕ) (taken given : Val)
    → WordsHold shape words homes traces → s < shape.cpus + shape.agents → n < count_of sort shape
    → held_of sort (traces s) n ≡ Some taken → MayGive s (traces s) shape sort n given
    → WordsHold shape (put_at words n (lock_of sort) 0) (with_home n given homes)
    (put traces s (Gave n taken given ∷ traces s))
give_law OfTask shape words homes traces s n taken (val.Task v) kept seat near held may =
    subst
    (λ (z : Val). WordsHold shape (put_at words n LOCK 0) (with_home n (val.Task v) homes)
    (put traces s (Gave n z (val.Task v) ∷ traces s)))
    (one_value val.Task (task_held (traces s) n) may.taken taken may.held held)
    (give_task_kept shape words homes traces s n kept seat may.taken v may.held
    (give_task_possible shape words homes traces s kept seat n v near may))
give_law OfQueue shape words homes traces s n taken (val.Queue v) kept seat near held may =
    subst
    (λ (z : Val). WordsHold shape (put_at words n QUEUE_LOCK 0) (with_home n (val.Queue v) homes)
    (put traces s (Gave n z (val.Queue v) ∷ traces s)))
    (one_value val.Queue (queue_held (traces s) n) may.taken taken may.held held)
    (give_queue_kept shape words homes traces s n kept seat may.taken v may.held
    (give_queue_may shape words homes traces s n v kept seat near may))
give_law OfWorks shape words homes traces s n taken (val.Works v) kept seat near held may =
    subst
    (λ (z : Val). WordsHold shape (put_at words n WORKS_LOCK 0) (with_home n (val.Works v) homes)
    (put traces s (Gave n z (val.Works v) ∷ traces s)))
    (one_value val.Works (works_held (traces s) n) v taken may held)
    (give_works_kept shape words homes traces s n kept seat v v may
    (give_works_possible shape words homes traces s kept seat n v near may))
give_law OfWait shape words homes traces s n taken (val.Wait v) kept seat near held may =
    subst
    (λ (z : Val). WordsHold shape (put_at words n WAIT_LOCK 0) (with_home n (val.Wait v) homes)
    (put traces s (Gave n z (val.Wait v) ∷ traces s)))
    (one_value val.Wait (wait_held (traces s) n) may.taken taken may.held held)
    (give_wait_kept shape words homes traces s n kept seat may.taken v may.held
    (give_wait_possible shape words homes traces s kept seat n v near may))
give_law sort shape words homes traces s n taken given kept seat near held may = absurd may

-- A take of a free lock, and a give, is the event of its sort

pub take_event : (sort : Sort) (shape : Shape) (words : ℕ → ℕ → ℕ) (homes : Homes) (traces : ℕ
    → List Rec) (s n : ℕ) (v : Val)
    → WordsHold shape words homes traces → s < shape.cpus + shape.agents → n < count_of sort shape
    → words n (lock_of sort) ≡ 0 → home_of sort homes n ≡ Some v
    → IsEvent shape words homes traces s (Took n v) (put_at words n (lock_of sort) (suc s)) (without sort n homes)
take_event OfTask shape words homes traces s n v kept seat near free home =
    let w = of_sort val.Task (homes.task n) v home in
    subst
    (λ (z : Val). IsEvent shape words homes traces s (Took n z) (put_at words n LOCK (suc s)) (without OfTask n homes))
    w.2 (take_task_event shape words homes traces s n w.0 w.1
    (take_task_may shape words homes traces s kept.holds seat n near free))
take_event OfQueue shape words homes traces s n v kept seat near free home =
    let w = of_sort val.Queue (homes.queue n) v home in
    subst
    (λ (z : Val). IsEvent shape words homes traces s (Took n z) (put_at words n QUEUE_LOCK (suc s))
    (without OfQueue n homes))
    w.2 (take_queue_event shape words homes traces s n w.0 w.1
    (take_queue_may shape words homes traces s kept.holds seat n near free))
take_event OfWorks shape words homes traces s n v kept seat near free home =
    let w = of_sort val.Works (homes.works n) v home in
    subst
    (λ (z : Val). IsEvent shape words homes traces s (Took n z) (put_at words n WORKS_LOCK (suc s))
    (without OfWorks n homes))
    w.2 (take_works_event shape words homes traces s n w.0 w.1
    (take_works_may shape words homes traces s kept.holds seat n near free))
take_event OfWait shape words homes traces s n v kept seat near free home =
    let w = of_sort val.Wait (homes.wait n) v home in
    subst
    (λ (z : Val). IsEvent shape words homes traces s (Took n z) (put_at words n WAIT_LOCK (suc s)) (without OfWait n homes))
    w.2 (take_wait_event shape words homes traces s n w.0 w.1
    (take_wait_may shape words homes traces s kept.holds seat n near free))

pub give_event : (sort : Sort) (shape : Shape) (words : ℕ → ℕ → ℕ) (homes : Homes) (traces : ℕ
    → List Rec) (s n : ℕ) (taken given : Val)
    → WordsHold shape words homes traces → s < shape.cpus + shape.agents → n < count_of sort shape
    → held_of sort (traces s) n ≡ Some taken → MayGive s (traces s) shape sort n given
    → IsEvent shape words homes traces s (Gave n taken given) (put_at words n (lock_of sort) 0) (with_home n given homes)
give_event OfTask shape words homes traces s n taken (val.Task v) kept seat near held may =
    subst
    (λ (z : Val). IsEvent shape words homes traces s (Gave n z (val.Task v)) (put_at words n LOCK 0)
    (with_home n (val.Task v) homes))
    (one_value val.Task (task_held (traces s) n) may.taken taken may.held held)
    (give_task_event shape words homes traces s n may.taken v may.held
    (give_task_possible shape words homes traces s kept seat n v near may))
give_event OfQueue shape words homes traces s n taken (val.Queue v) kept seat near held may =
    subst
    (λ (z : Val). IsEvent shape words homes traces s (Gave n z (val.Queue v)) (put_at words n QUEUE_LOCK 0)
    (with_home n (val.Queue v) homes))
    (one_value val.Queue (queue_held (traces s) n) may.taken taken may.held held)
    (give_queue_event shape words homes traces s n may.taken v may.held
    (give_queue_may shape words homes traces s n v kept seat near may))
give_event OfWorks shape words homes traces s n taken (val.Works v) kept seat near held may =
    subst
    (λ (z : Val). IsEvent shape words homes traces s (Gave n z (val.Works v)) (put_at words n WORKS_LOCK 0)
    (with_home n (val.Works v) homes))
    (one_value val.Works (works_held (traces s) n) v taken may held)
    (give_works_event shape words homes traces s n v v may
    (give_works_possible shape words homes traces s kept seat n v near may))
give_event OfWait shape words homes traces s n taken (val.Wait v) kept seat near held may =
    subst
    (λ (z : Val). IsEvent shape words homes traces s (Gave n z (val.Wait v)) (put_at words n WAIT_LOCK 0)
    (with_home n (val.Wait v) homes))
    (one_value val.Wait (wait_held (traces s) n) may.taken taken may.held held)
    (give_wait_event shape words homes traces s n may.taken v may.held
    (give_wait_possible shape words homes traces s kept seat n v near may))
give_event sort shape words homes traces s n taken given kept seat near held may = absurd may
