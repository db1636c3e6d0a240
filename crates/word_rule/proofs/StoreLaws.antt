-- Stores of a task's state, busy word and processor, and the raise of a condition, keep the rule. Beside it stands what
-- is known of the word found.
use Rattle.std.proofs.Common.{◌≡◌, ◌≢◌, ℕ, ◌<◌, ◌+◌, refl, sym, ap, subst, inl, inr, List, ◌∷◌, lit<, arith}
use Rattle.std.specs.Prelude.{◌/◌, ◌%◌, ◌^◌, ◌⊎◌, true, Some, IsSome}
use Rattle.std.proofs.lemmas.Bool.Decides.{nat_tests}
use Rattle.core_data.specs.Queue.{Queue}
use Rattle.core_data.specs.Columns.{put, put_at}
use Rattle.core_kinds.specs.Running.{MaySetBusy}
use Rattle.core_kinds.specs.Steps.{is_sleep, dead, running}
use Rattle.core_kinds.specs.Waking.{MayStoreCpu}
use Rattle.handoff_data.specs.declared.shape.Shape.{Shape}
use Rattle.handoff_data.specs.declared.state.State.{State}
use Rattle.word_rule.proofs.BodiesKept.{known_still, set_busy_known}
use Rattle.word_rule.proofs.GrownKept.{grown_beside}
use Rattle.word_rule.proofs.OffKept.{off_beside, renewed}
use Rattle.word_rule.proofs.Possible.{next_queue, set_busy_possible, clear_busy_possible, set_state_possible, claim_possible, make_runnable_possible, store_cpu_possible}
use Rattle.word_rule.proofs.PossibleGives.{claim_number}
use Rattle.word_rule.proofs.Quiet.{IsQuiet, IsSteady, IsOutside, words_hold_after, beside_kept, quiet_beside, state_beside, busy_beside, cond_beside}
use Rattle.word_rule.proofs.RunsKept.{runs_beside, set_busy_runs, set_state_runs, claim_runs, make_runnable_runs, store_cpu_runs}
use Rattle.word_rule.proofs.StandingKept.{store_cpu_standing}
use Rattle.word_rule.specs.WordsHold.{WordsHold}
use Rattle.word_rule.specs.May.{MaySetBusyWord, MayClearBusyWord, MaySetStateWord, MayClaimWord, MayMakeRunnableWord, MayCpuWord, number_of}
use Rattle.word_rule.specs.Standing.{RunsHold}
use Rattle.word_steps.proofs.CurrentKept.{current_quiet, set_busy_current}
use Rattle.word_steps.proofs.EndedKept.{ended_still, set_busy_ended, counts_put}
use Rattle.word_steps.proofs.Events.{bump_event, set_busy_event, clear_busy_event, set_state_event, claim_event, make_runnable_event, store_cpu_event}
use Rattle.word_steps.proofs.ExclusivesKept.{exclusives_beside, exclusives_state, set_busy_exclusives, set_state_exclusives, store_cpu_exclusives}
use Rattle.word_steps.proofs.MatchedKept.{matched_beside, grows_beside}
use Rattle.word_steps.proofs.MovingKept.{states_put}
use Rattle.word_steps.proofs.MovingSteps.{moving_beside}
use Rattle.word_steps.proofs.NumbersKept.{numbers_beside}
use Rattle.word_steps.proofs.PutKept.{store_cpu_put}
use Rattle.word_steps.proofs.QueuedKept.{store_cpu_queued}
use Rattle.word_steps.specs.Decode.{Homes, core_of}
use Rattle.word_steps.specs.Events.{IsEvent}
use Rattle.word_steps.specs.Exclusives.{ExclusivesHold}
use Rattle.word_steps.specs.Folds.{body_held, task_held, ended_known}
use Rattle.word_steps.specs.Records.{Rec, SetBusy, ClearedBusy, StateSet, Claimed, MadeRunnable, StoredCpu, Bumped}
use Rattle.word_steps.specs.Words.{LOCK, STATE, RQ, BUSY, CPU, COND}

-- a busy word that is set, and the one after it
busy_next : (x y : ℕ) → x % 2 ≡ 1 → x / 2 < 2 ^ 60 → y ≡ (x + 1) % 2 ^ 64 → (y % 2 ≡ 0) × (y / 2 ≡ x / 2 + 1)
busy_next x y odd room after = (omega (arith, odd, room, after), omega (arith, odd, room, after))

module _ (shape : Shape) (words : ℕ → ℕ → ℕ) (homes : Homes) (traces : ℕ → List Rec) (s n y : ℕ)
    (kept : WordsHold shape words homes traces) (seat : s < shape.cpus + shape.agents) where
  abbrev bump_note : Rec
  bump_note = Bumped n (words n COND)

  pub bump_is_event : n < shape.conds → y ≡ (words n COND + 1) % 2 ^ 64
      → IsEvent shape words homes traces s (Bumped n (words n COND)) (put_at words n COND y) homes
  bump_is_event condition after =
      subst (λ (z : ℕ). IsEvent shape words homes traces s bump_note (put_at words n COND z) homes) (sym after)
      (bump_event shape words homes traces s n (record { seat = seat; condition = condition }))

  pub bump_law : n < shape.conds → y ≡ (words n COND + 1) % 2 ^ 64
      → WordsHold shape (put_at words n COND y) homes (put traces s (Bumped n (words n COND) ∷ traces s)) × Unit {0}
  bump_law condition after = (
    subst (λ (z : ℕ). WordsHold shape (put_at words n COND z) homes (put traces s (bump_note ∷ traces s))) (sym after)
        (quiet_beside shape words homes homes traces s kept refl n COND
        ((words n COND + 1) % 2 ^ 64) bump_note cond_beside
        (λ e. absurd (omega (arith, e)))
        (record {
          moving = λ h. refl;
          numbers = λ h. refl;
          matched = refl;
          queued = λ c t e. e;
          put_there = refl;
          standing = refl;
          off = λ t e. e;
        })
        (record { current = λ j. refl; stays = refl }) (record { ended = refl; body = refl })
        (exclusives_beside words homes.wait traces s kept.exclusives n COND ((words n COND + 1) % 2 ^ 64) bump_note
        (λ e. omega (arith, e)) (λ e. omega (arith, e)) (λ t k e. e) refl refl)
        (bump_event shape words homes traces s n (record { seat = seat; condition = condition }))
        (runs_beside words traces s kept.runs n COND ((words n COND + 1) % 2 ^ 64) bump_note
        cond_beside.queue cond_beside.cpu cond_beside.rq (λ e. omega (arith, e)) refl refl)),
    tt,
  )

  -- The busy word

  pub set_busy_is_event : n < shape.tasks → MaySetBusyWord s (traces s) n (words n BUSY) y
      → IsEvent shape words homes traces s (SetBusy n s (words n BUSY / 2)) (put_at words n BUSY y) homes
  set_busy_is_event task may =
      set_busy_event shape words homes traces s s n y (next_queue may.taken n) (omega (arith, may.after)) (omega (arith, may.after))
      (set_busy_possible shape words homes traces s kept seat n y task may)

  pub set_busy_law : n < shape.tasks → MaySetBusyWord s (traces s) n (words n BUSY) y
      → WordsHold shape (put_at words n BUSY y) homes (put traces s (SetBusy n s (words n BUSY / 2) ∷ traces s)) × Unit {0}
  set_busy_law task may =
      (words_hold_after (next_queue may.taken n) (set_busy_possible shape words homes traces s kept seat n y task may), tt)
    where
      none : (u : ℕ) → body_held (traces s) ≡ Some u → ⊥
      none u e = absurd (grind (arith, kept.holds.busy.bodies.out_current s u e, may.none))

      words_hold_after : (q : Queue) → MaySetBusy (core_of shape words homes traces) s s n q
          → WordsHold shape (put_at words n BUSY y) homes (put traces s (SetBusy n s (words n BUSY / 2) ∷ traces s))
      words_hold_after q core =
          beside_kept shape words homes homes traces s kept n BUSY y (SetBusy n s (words n BUSY / 2)) busy_beside
          (λ e. absurd (omega (arith, e)))
          (record {
            moving = λ h. refl;
            numbers = λ h. refl;
            matched = refl;
            queued = λ c t e. e;
            put_there = refl;
            standing = refl;
            off = renewed words traces s kept.off n;
          })
          (set_busy_exclusives words homes.wait traces s kept.exclusives n s (words n BUSY / 2) y BUSY
          (λ e. omega (arith, e)) (λ e. omega (arith, e)))
          (set_busy_event shape words homes traces s s n y q (omega (arith, may.after))
          (omega (arith, may.after)) core)
          (set_busy_current words traces s kept.current shape homes kept.holds s n (words n BUSY / 2) y q core)
          (set_busy_ended homes.ended traces s kept.ended n s (words n BUSY / 2))
          (set_busy_runs words traces s kept.runs shape homes s n (words n BUSY / 2) y q core)
          (set_busy_known traces s kept.known n s (words n BUSY / 2) none)

  abbrev clear_note : Rec
  clear_note = ClearedBusy n (words n BUSY / 2)

  -- the busy word that is to be cleared is set
  left_busy : MayClearBusyWord s (traces s) n (words n BUSY) y → words n BUSY % 2 ≡ 1
  left_busy may = let busy = kept.holds.busy.runner.left_busy s n may.left in grind (arith, nat_tests, busy)

  pub clear_busy_is_event : n < shape.tasks → MayClearBusyWord s (traces s) n (words n BUSY) y
      → IsEvent shape words homes traces s (ClearedBusy n (words n BUSY / 2)) (put_at words n BUSY y) homes
  clear_busy_is_event task may =
      let core = clear_busy_possible shape words homes traces s kept seat n y task may in
      let next = busy_next (words n BUSY) y (left_busy may) core.room may.after in
      clear_busy_event shape words homes traces s n y next.0 next.1 core

  pub clear_busy_law : n < shape.tasks → MayClearBusyWord s (traces s) n (words n BUSY) y
      → WordsHold shape (put_at words n BUSY y) homes (put traces s (ClearedBusy n (words n BUSY / 2) ∷ traces s))
      × ((words n BUSY % 2 ≡ 1) × (words n BUSY / 2 < 2 ^ 60))
  clear_busy_law task may = (
    quiet_beside shape words homes homes traces s kept refl n BUSY y clear_note busy_beside
        (λ e. absurd (omega (arith, e)))
        (record {
          moving = λ h. refl;
          numbers = λ h. refl;
          matched = refl;
          queued = λ c t e. e;
          put_there = refl;
          standing = refl;
          off = renewed words traces s kept.off n;
        })
        (record { current = λ j. refl; stays = refl }) (record { ended = refl; body = refl })
        (exclusives_beside words homes.wait traces s kept.exclusives n BUSY y clear_note
        (λ e. omega (arith, e)) (λ e. omega (arith, e)) (λ t k e. e) refl refl)
        (clear_busy_is_event task may)
        (runs_beside words traces s kept.runs n BUSY y clear_note busy_beside.queue busy_beside.cpu busy_beside.rq
        (λ e. omega (arith, e)) refl refl),
    (left_busy may, (clear_busy_possible shape words homes traces s kept seat n y task may).room),
  )

  -- The state

  -- a store of it that tells nothing new of what stands beside the invariant
  quiet_state : (x : ℕ) (r : Rec) → x < 2 ^ 16 → IsQuiet r (traces s) → IsSteady r (traces s) → IsOutside r (traces s)
      → ExclusivesHold (put_at words n STATE x) homes.wait (put traces s (r ∷ traces s))
      → IsEvent shape words homes traces s r (put_at words n STATE x) homes
      → RunsHold (put_at words n STATE x) (put traces s (r ∷ traces s))
      → WordsHold shape (put_at words n STATE x) homes (put traces s (r ∷ traces s))
  quiet_state x r small quiet steady outside exclusives event runs =
      quiet_beside shape words homes homes traces s kept refl n STATE x r state_beside
      (λ e. small) quiet steady outside exclusives event runs

  pub set_state_is_event : n < shape.tasks → MaySetStateWord s (traces s) n (words n STATE) y
      → IsEvent shape words homes traces s (StateSet n (record { 0 = y })) (put_at words n STATE y) homes
  set_state_is_event task may =
      set_state_event shape words homes traces s n (record { 0 = y })
      (set_state_possible shape words homes traces s kept seat n y task may)

  pub set_state_law : n < shape.tasks → MaySetStateWord s (traces s) n (words n STATE) y
      → WordsHold shape (put_at words n STATE y) homes (put traces s (StateSet n (record { 0 = y }) ∷ traces s)) × Unit {0}
  set_state_law task may =
      let core = set_state_possible shape words homes traces s kept seat n y task may in (
        quiet_state y (StateSet n (record { 0 = y })) (narrow may.allowed)
            (record {
              moving = λ h. refl;
              numbers = λ h. refl;
              matched = refl;
              queued = λ c t e. e;
              put_there = refl;
              standing = refl;
              off = renewed words traces s kept.off n;
            })
            (record { current = λ j. refl; stays = refl }) (record { ended = refl; body = refl })
            (set_state_exclusives words homes.wait traces s kept.exclusives shape homes kept.holds n y may.current)
            (set_state_event shape words homes traces s n (record { 0 = y }) core)
            (set_state_runs words traces s kept.runs shape homes n (record { 0 = y }) core),
        tt,
      )
    where
      narrow : (record { 0 = y } ≡ running) ⊎ ((is_sleep (record { 0 = y }) ≡ true)
          ⊎ ((record { 0 = y } ≡ dead) × IsSome (task_held (traces s) n) × (ended_known (traces s) n ≡ Some true)))
          → y < 2 ^ 16
      narrow (inl runs) = let same = ap (λ (x : State). x.0) runs in omega (arith, same)
      narrow (inr (inl sleeps)) = grind (arith, nat_tests, sleeps)
      narrow (inr (inr dies)) = let same = ap (λ (x : State). x.0) dies.0 in omega (arith, same)

  pub claim_is_event : n < shape.tasks → MayClaimWord s (traces s) n (words n STATE) y
      → IsEvent shape words homes traces s (Claimed n (number_of (traces s) n)) (put_at words n STATE y) homes
  claim_is_event task may =
      subst (λ (m : ℕ). IsEvent shape words homes traces s (Claimed n m) (put_at words n STATE y) homes)
      (claim_number shape words homes traces s kept seat n y may)
      (subst (λ (z : ℕ). IsEvent shape words homes traces s (Claimed n (words n RQ / 4)) (put_at words n STATE z) homes)
      (sym may.after)
      (claim_event shape words homes traces s n (claim_possible shape words homes traces s kept seat n y task may)))

  pub claim_law : n < shape.tasks → MayClaimWord s (traces s) n (words n STATE) y
      → WordsHold shape (put_at words n STATE y) homes
      (put traces s (Claimed n (number_of (traces s) n) ∷ traces s)) × Unit {0}
  claim_law task may = (
    subst (λ (m : ℕ). WordsHold shape (put_at words n STATE y) homes (put traces s (Claimed n m ∷ traces s)))
        (claim_number shape words homes traces s kept seat n y may)
        (subst (λ (z : ℕ). WordsHold shape (put_at words n STATE z) homes
        (put traces s (Claimed n (words n RQ / 4) ∷ traces s)))
        (sym may.after) words_hold_after),
    tt,
  )
    where
      words_hold_after : WordsHold shape (put_at words n STATE 0x200) homes (put traces s (Claimed n (words n RQ / 4) ∷ traces s))
      words_hold_after =
          let core = claim_possible shape words homes traces s kept seat n y task may in
          quiet_state 0x200 (Claimed n (words n RQ / 4)) (lit< tt)
          (record {
            moving = λ h. refl;
            numbers = λ h. refl;
            matched = refl;
            queued = λ c t e. e;
            put_there = refl;
            standing = refl;
            off = renewed words traces s kept.off n;
          })
          (record { current = λ j. refl; stays = refl }) (record { ended = refl; body = refl })
          (exclusives_state words homes.wait traces s kept.exclusives n 0x200 (Claimed n (words n RQ / 4)) (λ t k e. e) refl
          refl (λ k e sleeps. absurd (grind (arith, nat_tests, e))))
          (claim_event shape words homes traces s n core)
          (claim_runs words traces s kept.runs shape homes kept.holds n (words n RQ / 4) core)

  pub make_runnable_is_event : n < shape.tasks → MayMakeRunnableWord s (traces s) n (words n STATE) y
      → IsEvent shape words homes traces s (MadeRunnable n) (put_at words n STATE y) homes
  make_runnable_is_event task may =
      subst (λ (z : ℕ). IsEvent shape words homes traces s (MadeRunnable n) (put_at words n STATE z) homes) (sym may.after)
      (make_runnable_event shape words homes traces s n (make_runnable_possible shape words homes traces s kept seat n y task may))

  pub make_runnable_law : n < shape.tasks → MayMakeRunnableWord s (traces s) n (words n STATE) y
      → WordsHold shape (put_at words n STATE y) homes (put traces s (MadeRunnable n ∷ traces s)) × Unit {0}
  make_runnable_law task may =
      let core = make_runnable_possible shape words homes traces s kept seat n y task may in (
        subst (λ (z : ℕ). WordsHold shape (put_at words n STATE z) homes (put traces s (MadeRunnable n ∷ traces s)))
            (sym may.after)
            (quiet_state 0 (MadeRunnable n) (lit< tt)
            (record {
              moving = λ h. refl;
              numbers = λ h. refl;
              matched = refl;
              queued = λ c t e. e;
              put_there = refl;
              standing = refl;
              off = renewed words traces s kept.off n;
            })
            (record { current = λ j. refl; stays = refl }) (record { ended = refl; body = refl })
            (exclusives_state words homes.wait traces s kept.exclusives n 0 (MadeRunnable n) (λ t k e. e) refl refl
            (λ k e sleeps. absurd (grind (arith, nat_tests, e))))
            (make_runnable_event shape words homes traces s n core)
            (make_runnable_runs words traces s kept.runs shape homes kept.holds n kept.put_there)),
        tt,
      )

  -- The processor word

  pub store_cpu_is_event : n < shape.tasks → MayCpuWord s (traces s) shape n (words n CPU) y
      → IsEvent shape words homes traces s (StoredCpu n y) (put_at words n CPU y) homes
  store_cpu_is_event task may =
      store_cpu_event shape words homes traces s n y (store_cpu_possible shape words homes traces s kept seat n y task may)

  pub store_cpu_law : n < shape.tasks → MayCpuWord s (traces s) shape n (words n CPU) y
      → WordsHold shape (put_at words n CPU y) homes (put traces s (StoredCpu n y ∷ traces s)) × Unit {0}
  store_cpu_law task may = (
    words_hold_after shape words homes traces s kept (StoredCpu n y) (put_at words n CPU y) homes
        (store_cpu_event shape words homes traces s n y core) (record {
          moving = moving_beside shape words homes traces s kept.moving n CPU y (StoredCpu n y) lock rq (λ h. refl);
          current = current_quiet words traces s kept.current n CPU y (StoredCpu n y) rq (λ j. refl) refl;
          numbers = numbers_beside words traces s kept.numbers n CPU y (StoredCpu n y) lock rq (λ h. refl);
          matched = matched_beside words traces s kept.matched n CPU y (StoredCpu n y) lock
              (grows_beside words traces s kept.matched n CPU y rq) refl;
          queued = store_cpu_queued words traces s kept.queued shape homes n y core;
          exclusives = store_cpu_exclusives words homes.wait traces s kept.exclusives shape homes kept.holds n y core.placeable;
          put_there = store_cpu_put words traces s kept.put_there shape homes kept.holds n y core;
          ended = ended_still homes.ended traces s kept.ended (StoredCpu n y) (λ j. refl) refl;
          counts = counts_put words n CPU y kept.counts (λ e. omega (arith, e));
          states = states_put words n CPU y kept.states (λ e. absurd (omega (arith, e)));
          standing = store_cpu_standing words traces s kept.standing shape homes kept.holds n y core;
          runs = store_cpu_runs words traces s kept.runs shape homes kept.holds n y core;
          off = off_beside words traces s kept.off n CPU y (StoredCpu n y) lock rq (renewed words traces s kept.off n) refl;
          grown = grown_beside words traces s kept.grown n CPU y (StoredCpu n y) rq refl;
          known = known_still traces s kept.known (StoredCpu n y) refl refl;
        }),
    tt,
  )
    where
      core : MayStoreCpu (core_of shape words homes traces) s n y
      core = store_cpu_possible shape words homes traces s kept seat n y task may

      lock : LOCK ≢ CPU
      lock e = omega (arith, e)

      rq : RQ ≢ CPU
      rq e = omega (arith, e)
