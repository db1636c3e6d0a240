-- What a seat may do with a queue between the take of its lock and the give: each shows the condition of the give.
use Rattle.std.proofs.Common.{◌≡◌, ◌≢◌, ℕ, inl, inr, refl, sym, ap, subst, ◌∙◌, List, ◌∷◌, arith}
use Rattle.std.specs.Prelude.{◌+◌, ◌-◌, ◌==◌, ◌&&◌, ◌⊎◌, Bool, true, false, Option, Some, None, is_some, if◌then◌else◌}
use Rattle.std.proofs.lemmas.Bool.{cases_eq}
use Rattle.std.proofs.lemmas.Bool.Decides.{nat_tests}
use Rattle.core_data.specs.Queue.{Queue, times_in}
use Rattle.core_data.specs.Columns.{put}
use Rattle.core_gives.specs.Queues.{is_some_of}
use Rattle.handoff_data.specs.declared.shape.Shape.{Shape}
use Rattle.handoff_data.specs.declared.state.State.{State}
use Rattle.word_rule.specs.May.{MayGiveQueueVal}
use Rattle.word_rule.specs.Standing.{may_run, is_runnable}
use Rattle.word_rule.specs.Told.{TakenQueue}
use Rattle.word_steps.specs.Folds.{current_task, stays_queued, queue_held, body_held, has_added, task_to_clear, put_both}
use Rattle.word_steps.specs.Records.{Rec, Took, Queued, Dequeued, Moved, SetBusy, MadeRunnable, LoadedState, LoadedRq, LoadedBusy}
use Rattle.word_steps.specs.declared.val.Val.TheVariants as val

-- t stands once more in the new list, and each other task as often
abbrev pub IsPushed : List ℕ → List ℕ → ℕ → Type 0
IsPushed old new t = (u : ℕ) → times_in new u ≡ times_in old u + (if u == t then 1 else 0)

pushed_count : (w w' x t u : ℕ) → w' ≡ w + (if u == t then 1 else 0) → w' + x ≡ (if u == t then w + x + 1 else w + x)
pushed_count w w' x t u e = grind (arith, nat_tests, e)

pulled_count : (w w' x t u : ℕ) → w ≡ w' + (if u == t then 1 else 0) → w' + x ≡ (if u == t then (w + x) - 1 else w + x)
pulled_count w w' x t u e = grind (arith, nat_tests, e)

next_count : (w : ℕ) (o o' : Option ℕ) (u : ℕ) → o' ≡ o
    → w + (if is_some_of o' u then 1 else 0) ≡ w + (if is_some_of o u then 1 else 0)
next_count w o o' u e = ap (λ (z : Option ℕ). w + (if is_some_of z u then 1 else 0)) e

-- what is known to run after a read, by what was known
still_known : (b : Bool) (h : ℕ → ℕ → Bool) (s t c u : ℕ) → h c u ≡ true
    → (if b then put_both h s t true else h) c u ≡ true
still_known true h s t c u e = grind (arith, nat_tests, e)
still_known false h s t c u e = e

now_known : (b : Bool) (h : ℕ → ℕ → Bool) (s t : ℕ) → b ≡ true → (if b then put_both h s t true else h) s t ≡ true
now_known true h s t e = grind (arith, nat_tests)
now_known false h s t e = absurd (grind (arith, e))

module _ (shape : Shape) (s c : ℕ) (v : Queue) (rs : List Rec) (told : TakenQueue shape s rs c v) where
  -- given back as it was
  pub gives_same : MayGiveQueueVal s (Took c (val.Queue v) ∷ rs) shape c v
  gives_same = record {
    taken = v;
    held = grind (arith, nat_tests);
    stands = λ t. grind (arith, nat_tests);
    waits = λ t w. grind (arith, nat_tests, w);
    next = λ t e. inr (grind (arith, nat_tests));
    others = λ ne. (refl, refl);
    own = λ own t e. inl (told.current own t e);
    clear = told.clear;
    left = told.left;
  }

  -- t is put at its back: new, or half way from another queue
  pub gives_put : (t on m : ℕ) (given : Queue) → (m ≡ 0) ⊎ (on ≡ 2) → IsPushed v.waiting given.waiting t
      → given.cur ≡ v.cur → given.left ≡ v.left
      → MayGiveQueueVal s (Queued t c on m ∷ Took c (val.Queue v) ∷ rs) shape c given
  gives_put t on m given ready pushed cur left = record {
    taken = v;
    held = grind (arith, nat_tests);
    stands = λ u. next_count (times_in given.waiting u) v.cur given.cur u cur
        ∙ pushed_count (times_in v.waiting u) (times_in given.waiting u) (if is_some_of v.cur u then 1 else 0) t u
        (pushed u) ∙ grind (arith, nat_tests);
    waits = λ u w. grind (arith, nat_tests, w, pushed u, ready);
    next = λ u e. next u;
    others = λ ne. (cur, left);
    own = λ own u e. inl (cur ∙ told.current own u e);
    clear = λ own u e. left ∙ told.clear own u e;
    left = λ u e. told.left u (sym left ∙ e);
  }
    where
      next : (u : ℕ)
          → (may_run s (Queued t c on m ∷ Took c (val.Queue v) ∷ rs) c u ≡ true)
          ⊎ (has_added (Queued t c on m ∷ Took c (val.Queue v) ∷ rs) c u ≡ false)
      next u = elim (cases_eq u t) [
        | inl same ↦ inl (grind (arith, nat_tests, same, ready))
        | inr apart ↦ inr (grind (arith, nat_tests, apart))
      ]

  -- t was woken: put at its back, and then stored as running
  pub gives_woken : (t on m : ℕ) (given : Queue) → IsPushed v.waiting given.waiting t → given.cur ≡ v.cur
      → given.left ≡ v.left
      → MayGiveQueueVal s (MadeRunnable t ∷ Queued t c on m ∷ Took c (val.Queue v) ∷ rs) shape c given
  gives_woken t on m given pushed cur left = record {
    taken = v;
    held = grind (arith, nat_tests);
    stands = λ u. next_count (times_in given.waiting u) v.cur given.cur u cur
        ∙ pushed_count (times_in v.waiting u) (times_in given.waiting u) (if is_some_of v.cur u then 1 else 0) t u
        (pushed u) ∙ grind (arith, nat_tests);
    waits = λ u w. waits u w;
    next = λ u e. next u;
    others = λ ne. (cur, left);
    own = λ own u e. inl (cur ∙ told.current own u e);
    clear = λ own u e. left ∙ told.clear own u e;
    left = λ u e. told.left u (sym left ∙ e);
  }
    where
      waits : (u : ℕ) → times_in given.waiting u ≢ 0
          → may_run s (MadeRunnable t ∷ Queued t c on m ∷ Took c (val.Queue v) ∷ rs) c u ≡ true
      waits u w = grind (arith, nat_tests, w, pushed u)

      next : (u : ℕ) → (may_run s (MadeRunnable t ∷ Queued t c on m ∷ Took c (val.Queue v) ∷ rs) c u ≡ true)
          ⊎ (has_added (MadeRunnable t ∷ Queued t c on m ∷ Took c (val.Queue v) ∷ rs) c u ≡ false)
      next u = elim (cases_eq u t) [
        | inl same ↦ inl (grind (arith, nat_tests, same))
        | inr apart ↦ inr (grind (arith, nat_tests, apart))
      ]

  -- one that was queued was woken, and the queue is given as it was
  pub gives_made_runnable : (t m : ℕ) → MayGiveQueueVal s (MadeRunnable t ∷ LoadedRq t 1 m ∷ Took c (val.Queue v) ∷ rs) shape c v
  gives_made_runnable t m = record {
    taken = v;
    held = grind (arith, nat_tests);
    stands = λ u. grind (arith, nat_tests);
    waits = λ u w. grind (arith, nat_tests, w);
    next = λ u e. inr (grind (arith, nat_tests));
    others = λ ne. (refl, refl);
    own = λ own u e. inl (told.current own u e);
    clear = told.clear;
    left = told.left;
  }

  -- t was taken off it, to be moved
  pub gives_moved : (t n m : ℕ) (given : Queue) → IsPushed given.waiting v.waiting t → given.cur ≡ v.cur
      → given.left ≡ v.left
      → MayGiveQueueVal s (Moved t c m ∷ LoadedBusy t false n ∷ Took c (val.Queue v) ∷ rs) shape c given
  gives_moved t n m given pulled cur left = record {
    taken = v;
    held = grind (arith, nat_tests);
    stands = λ u. next_count (times_in given.waiting u) v.cur given.cur u cur
        ∙ pulled_count (times_in v.waiting u) (times_in given.waiting u) (if is_some_of v.cur u then 1 else 0) t u
        (pulled u) ∙ grind (arith, nat_tests);
    waits = λ u w. waits u w;
    next = λ u e. inr (grind (arith, nat_tests));
    others = λ ne. (cur, left);
    own = λ own u e. inl (cur ∙ told.current own u e);
    clear = λ own u e. left ∙ told.clear own u e;
    left = λ u e. told.left u (sym left ∙ e);
  }
    where
      waits : (u : ℕ) → times_in given.waiting u ≢ 0
          → may_run s (Moved t c m ∷ LoadedBusy t false n ∷ Took c (val.Queue v) ∷ rs) c u ≡ true
      waits u w = grind (arith, nat_tests, w, pulled u, told.once u)

module _ (shape : Shape) (s : ℕ) (v : Queue) (rs : List Rec) (told : TakenQueue shape s rs s v) where
  -- t, which waited, is picked
  pub gives_picked : (t n : ℕ) (given : Queue) → task_to_clear s rs ≡ None → v.cur ≡ None
      → IsPushed given.waiting v.waiting t → given.cur ≡ Some t → given.left ≡ v.left
      → MayGiveQueueVal s (SetBusy t s n ∷ Took s (val.Queue v) ∷ rs) shape s given
  gives_picked t n given clear none pulled cur left = record {
    taken = v;
    held = grind (arith, nat_tests);
    stands = λ u. next_count (times_in given.waiting u) (Some t) given.cur u cur ∙ picked_count u
        ∙ sym (next_count (times_in v.waiting u) None v.cur u none)
        ∙ grind (arith, nat_tests);
    waits = λ u w. grind (arith, nat_tests, w, pulled u);
    next = λ u e. inr (grind (arith, nat_tests));
    others = λ ne. absurd (ne refl);
    own = λ own u e. inl (cur ∙ e);
    clear = λ own u e. left ∙ told.clear own u e;
    left = λ u e. told.left u (sym left ∙ e);
  }
    where
      picked_count : (u : ℕ) → times_in given.waiting u + (if is_some_of (Some t) u then 1 else 0)
          ≡ times_in v.waiting u + (if is_some_of None u then 1 else 0)
      picked_count u = grind (arith, nat_tests, pulled u)

  -- the current task, which runs, is put back at the end
  pub gives_back : (t : ℕ) (given : Queue) → current_task s rs ≡ Some t → stays_queued rs ≡ true → body_held rs ≡ None
      → IsPushed v.waiting given.waiting t → given.cur ≡ None → given.left ≡ Some t
      → MayGiveQueueVal s (LoadedState t None (record { 0 = 0 }) ∷ Took s (val.Queue v) ∷ rs) shape s given
  gives_back t given current stays body pushed cur left = record {
    taken = v;
    held = grind (arith, nat_tests);
    stands = λ u. next_count (times_in given.waiting u) None given.cur u cur ∙ back_count u
        ∙ sym (next_count (times_in v.waiting u) (Some t) v.cur u (told.current refl t current))
        ∙ grind (arith, nat_tests);
    waits = λ u w. known u (cases_eq u t) w;
    next = λ u e. inr (grind (arith, nat_tests));
    others = λ ne. absurd (ne refl);
    own = λ own u e. inr (cur, left ∙ sym current ∙ e, body);
    clear = λ own u e. absurd (grind (arith, sym (told.first t current) ∙ e));
    left = λ u e. told.cur u (told.current refl t current ∙ sym left ∙ e);
  }
    where
      reads : Bool
      reads = is_some_of (current_task s rs) t &&
          (stays_queued rs && (is_some (put (queue_held rs) s (Some v) s) && true))

      reads_is : reads ≡ true
      reads_is = rw (current, stays) (grind (arith, nat_tests))

      known : (u : ℕ) → (u ≡ t) ⊎ (u ≢ t) → times_in given.waiting u ≢ 0
          → may_run s (LoadedState t None (record { 0 = 0 }) ∷ Took s (val.Queue v) ∷ rs) s u ≡ true
      known u (inl same) w =
          subst (λ (k : ℕ). may_run s (LoadedState t None (record { 0 = 0 }) ∷ Took s (val.Queue v) ∷ rs) s k ≡ true)
          (sym same)
          (now_known reads (may_run s (Took s (val.Queue v) ∷ rs)) s t reads_is)
      known u (inr apart) w =
          still_known reads (may_run s (Took s (val.Queue v) ∷ rs)) s t s u
          (grind (arith, nat_tests, apart, w, pushed u))

      back_count : (u : ℕ) → times_in given.waiting u + (if is_some_of None u then 1 else 0) ≡ times_in v.waiting u +
          (if is_some_of (Some t) u then 1 else 0)
      back_count u = grind (arith, nat_tests, pushed u)

  -- the current task has left its queue to sleep
  pub gives_asleep : (t m : ℕ) (state : State) (given : Queue) → current_task s rs ≡ Some t → body_held rs ≡ None
      → ((u : ℕ) → times_in given.waiting u ≡ times_in v.waiting u) → given.cur ≡ None → given.left ≡ Some t
      → MayGiveQueueVal s (Dequeued t s m ∷ LoadedState t None state ∷ Took s (val.Queue v) ∷ rs) shape s given
  gives_asleep t m state given current body same cur left = record {
    taken = v;
    held = grind (arith, nat_tests);
    stands = λ u. next_count (times_in given.waiting u) None given.cur u cur ∙ left_count u
        ∙ ap (λ (k : ℕ). if u == t then k - 1 else k)
        (sym (next_count (times_in v.waiting u) (Some t) v.cur u (told.current refl t current)))
        ∙ grind (arith, nat_tests);
    waits = λ u w. known u w;
    next = λ u e. inr (grind (arith, nat_tests));
    others = λ ne. absurd (ne refl);
    own = λ own u e. inr (cur, left ∙ sym current ∙ e, body);
    clear = λ own u e. absurd (grind (arith, sym (told.first t current) ∙ e));
    left = λ u e. told.cur u (told.current refl t current ∙ sym left ∙ e);
  }
    where
      left_count : (u : ℕ) → times_in given.waiting u + (if is_some_of None u then 1 else 0)
          ≡ (if u == t then (times_in v.waiting u +
          (if is_some_of (Some t) u then 1 else 0)) - 1 else times_in v.waiting u +
          (if is_some_of (Some t) u then 1 else 0))
      left_count u = grind (arith, nat_tests, same u)

      -- it stands there once, as the next
      gone : (u : ℕ) → times_in given.waiting u ≢ 0 → u ≢ t
      gone u w e = let once = sym (next_count (times_in v.waiting u) (Some t) v.cur u (told.current refl t current)) in
          absurd (grind (arith, nat_tests, w, e, same u, once, told.once u))

      reads : Bool
      reads = is_some_of (current_task s rs) t &&
          (stays_queued rs && (is_some (put (queue_held rs) s (Some v) s) && is_runnable state))

      before : (u : ℕ) → times_in given.waiting u ≢ 0
          → may_run s (LoadedState t None state ∷ Took s (val.Queue v) ∷ rs) s u ≡ true
      before u w = still_known reads (may_run s (Took s (val.Queue v) ∷ rs)) s t s u
          (grind (arith, nat_tests, w, same u))

      known : (u : ℕ) → times_in given.waiting u ≢ 0
          → may_run s (Dequeued t s m ∷ LoadedState t None state ∷ Took s (val.Queue v) ∷ rs) s u ≡ true
      known u w = let apart : u ≢ t = gone u w in grind (arith, nat_tests, apart, before u w)
