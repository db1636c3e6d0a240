-- What the value of a lock is known to be as it is taken.
use Rattle.std.proofs.Common.{◌≡◌, ◌≢◌, ℕ, ◌<◌, ◌≤◌, refl, ap, subst, inl, inr, List, arith}
use Rattle.std.specs.Prelude.{◌%◌, ◌==◌, ◌&&◌, Option, Some, None, unwrap_or, if◌then◌else◌}
use Rattle.std.proofs.lemmas.Bool.Decides.{nat_tests}
use Rattle.core_data.specs.Queue.{Queue, times_in}
use Rattle.core_data.specs.declared.values.WaitEntry.{WaitEntry}
use Rattle.core_gives.specs.Queues.{times}
use Rattle.handoff_data.specs.declared.shape.Shape.{Shape}
use Rattle.word_rule.proofs.Pigeons.{room_for, room_of_entries, room_for_entry}
use Rattle.word_rule.specs.WordsHold.{WordsHold}
use Rattle.word_rule.specs.Sorts.{Sort, OfTask, OfQueue, OfWorks, OfWait, home_of, some_of}
use Rattle.word_rule.specs.Told.{TakeTold, TakenQueue, TakenWait, IsOff}
use Rattle.word_steps.specs.Decode.{Homes}
use Rattle.word_steps.specs.Folds.{current_task, task_to_clear}
use Rattle.word_steps.specs.Records.{Rec}
use Rattle.word_steps.specs.Words.{RQ, CPU}
use Rattle.word_steps.specs.declared.val.Val.{Val}
use Rattle.word_steps.specs.declared.val.Val.TheVariants as val

-- what holds of each value that is there holds of the one that is found
of_some : {A : Type 0} (f : A → Val) (P : Val → Type 0) (o : Option A) (v : Val) → some_of f o ≡ Some v
    → ((w : A) → o ≡ Some w → P (f w)) → P v
of_some f P None v e h = absurd (grind (arith, e))
of_some f P (Some w) v e h = subst P (ap (λ (z : Option Val). unwrap_or z (f w)) e) (h w refl)

-- how often a task stands in a queue at home, by its words
once_there : (on at c n : ℕ) → n ≡ (if (on == 1) && (at == c) then 1 else 0) → n ≤ 1
once_there on at c n e = grind (arith, nat_tests, e)

queued_there : (on at c n : ℕ) → n ≡ (if (on == 1) && (at == c) then 1 else 0) → n ≢ 0 → on ≡ 1
queued_there on at c n e some = grind (arith, nat_tests, e, some)

none_there : (on at c n : ℕ) → n ≡ (if (on == 1) && (at == c) then 1 else 0) → on ≢ 1 → n ≡ 0
none_there on at c n e off = grind (arith, nat_tests, e, off)

module _ (shape : Shape) (words : ℕ → ℕ → ℕ) (homes : Homes) (traces : ℕ → List Rec) (s n : ℕ)
    (kept : WordsHold shape words homes traces) where
  taken_queue : (v : Queue) → homes.queue n ≡ Some v → TakenQueue shape s (traces s) n v
  taken_queue v home =
      let named = kept.holds.shapes.queue_values.at_home n v home in
      record {
        waiting = named.waiting;
        cur = named.cur;
        once = once;
        left = named.left;
        room = room_for shape.tasks v.waiting waits_once (λ t waits. tasks t (also_in t waits));
        off = λ t off. none_there (words t RQ % 4) (words t CPU) n (times v t) (counts t) (unqueued t off);
        current = λ own t current. runs t (subst (λ (k : ℕ). current_task k (traces k) ≡ Some t) own current);
        first = λ t e. kept.holds.busy.runner.clear_first s t e;
        clear = λ own t left. clears t (subst (λ (k : ℕ). task_to_clear k (traces k) ≡ Some t) own left);
      }
    where
      counts : (t : ℕ) → times v t ≡ (if (words t RQ % 4 == 1) && (words t CPU == n) then 1 else 0)
      counts = kept.holds.queues.at_home n v home

      once : (t : ℕ) → times v t ≤ 1
      once t = once_there (words t RQ % 4) (words t CPU) n (times v t) (counts t)

      tasks : (t : ℕ) → times v t ≢ 0 → t < shape.tasks
      tasks t some =
          let queued = queued_there (words t RQ % 4) (words t CPU) n (times v t) (counts t) some in
          kept.holds.shapes.queued t (λ off. absurd (omega (arith, queued, off)))

      waits_once : (t : ℕ) → times_in v.waiting t ≤ 1
      waits_once t = let o = once t in omega (arith, o)

      also_in : (t : ℕ) → times_in v.waiting t ≢ 0 → times v t ≢ 0
      also_in t waits = λ none. waits (omega (arith, none))

      runs : (t : ℕ) → current_task n (traces n) ≡ Some t → v.cur ≡ Some t
      runs t current = kept.holds.busy.named.cur_home n t v current home

      clears : (t : ℕ) → task_to_clear n (traces n) ≡ Some t → v.left ≡ Some t
      clears t left = kept.holds.busy.named.left_home n t v left home

      unqueued : (t : ℕ) → IsOff (traces s) t → words t RQ % 4 ≢ 1
      unqueued t (inl claimed) on =
          let off = kept.holds.positions.claimed.off s t claimed in absurd (omega (arith, off, on))
      unqueued t (inr (inl moves)) on = let off = (kept.moving.known s t moves).1 in absurd (omega (arith, off, on))
      unqueued t (inr (inr new)) on =
          let number = kept.numbers s t (kept.holds.locks.tasks.out_held s t new.0) new.1 in
          let off = kept.holds.places.new.off t number in absurd (omega (arith, off, on))

  taken_wait : (v : List WaitEntry) → homes.wait n ≡ Some v → TakenWait shape v
  taken_wait v home =
      let once = kept.holds.sleepers.once.at_home n v home in
      let tasks = kept.holds.shapes.wait_values.at_home n v home in
      record {
        once = once;
        tasks = tasks;
        room = room_of_entries shape.tasks v once tasks;
        space = room_for_entry shape.tasks v once tasks;
      }

module _ (shape : Shape) (words : ℕ → ℕ → ℕ) (homes : Homes) (traces : ℕ → List Rec) (s : ℕ)
    (kept : WordsHold shape words homes traces) where
  pub take_told : (sort : Sort) (n : ℕ) (v : Val) → home_of sort homes n ≡ Some v → TakeTold shape s (traces s) sort n v
  take_told OfTask n v home = of_some val.Task (TakeTold shape s (traces s) OfTask n) (homes.task n) v home (λ w is.
      let told = kept.holds.shapes.task_values.at_home n w is in
      record {
        some = kept.masks.at_home n w is;
        mask = told.mask;
        narrowed = told.narrowed;
        wake_cpu = told.wake_cpu;
        dest = told.dest;
      })
  take_told OfQueue n v home = of_some val.Queue (TakeTold shape s (traces s) OfQueue n) (homes.queue n) v home
      (taken_queue shape words homes traces s n kept)
  take_told OfWorks n v home = of_some val.Works (TakeTold shape s (traces s) OfWorks n) (homes.works n) v home
      (λ w is. tt)
  take_told OfWait n v home = of_some val.Wait (TakeTold shape s (traces s) OfWait n) (homes.wait n) v home
      (taken_wait shape words homes traces s n kept)
