-- Loads keep the rule. Beside it stands what is known of the word found.
use Rattle.std.proofs.Common.{◌≡◌, ◌≢◌, ℕ, ◌<◌, ◌+◌, refl, sym, ap, subst, ◌∙◌, List, ◌∷◌}
use Rattle.std.specs.Prelude.{◌/◌, ◌%◌, true, Option, Some, None, IsSome}
use Rattle.core_data.specs.Columns.{put, put_at}
use Rattle.core_kinds.specs.Steps.{dead}
use Rattle.core_kinds.specs.Waking.{IsMask}
use Rattle.core_law.proofs.Reached.{Holds-step}
use Rattle.handoff_data.specs.declared.shape.Shape.{Shape}
use Rattle.handoff_data.specs.declared.state.State.{State}
use Rattle.word_rule.proofs.BodiesKept.{known_still}
use Rattle.word_rule.proofs.GrownKept.{grown_still, load_rq_grown}
use Rattle.word_rule.proofs.OffKept.{off_still, load_rq_off}
use Rattle.word_rule.proofs.OwnKept.{stays_dead}
use Rattle.word_rule.proofs.Quiet.{IsQuiet, IsSteady, IsOutside, words_hold_after, still_kept}
use Rattle.word_rule.proofs.RunsKept.{runs_still, load_state_runs}
use Rattle.word_rule.proofs.StandingKept.{standing_still}
use Rattle.word_rule.specs.WordsHold.{WordsHold}
use Rattle.word_rule.specs.Own.{StateTold}
use Rattle.word_rule.specs.Standing.{may_run}
use Rattle.word_steps.proofs.CurrentKept.{current_still}
use Rattle.word_steps.proofs.EndedKept.{ended_still}
use Rattle.word_steps.proofs.ExclusivesKept.{exclusives_still}
use Rattle.word_steps.proofs.Events.{load_state_event, load_rq_event, load_busy_event, load_cpu_event, load_count_event, load_cond_event}
use Rattle.word_steps.proofs.MatchedKept.{matched_still, load_state_matched}
use Rattle.word_steps.proofs.MovingSteps.{moving_still}
use Rattle.word_steps.proofs.NumbersKept.{numbers_still, load_rq_numbers}
use Rattle.word_steps.proofs.PutKept.{put_still}
use Rattle.word_steps.proofs.Puts.{word_same}
use Rattle.word_steps.proofs.QueuedKept.{queued_still, load_rq_queued}
use Rattle.word_steps.specs.Decode.{Homes, core_of, core_after}
use Rattle.word_steps.specs.Events.{IsEvent}
use Rattle.word_steps.specs.Exclusives.{ExclusivesHold}
use Rattle.word_steps.specs.Folds.{task_held, has_matched}
use Rattle.word_steps.specs.Records.{Rec, LoadedState, LoadedRq, LoadedBusy, LoadedCpu, LoadedCount, LoadedCond}
use Rattle.word_steps.specs.Words.{STATE, RQ, BUSY, CPU, COUNT, COND, is_set}

module _ (shape : Shape) (words : ℕ → ℕ → ℕ) (homes : Homes) (traces : ℕ → List Rec) (s n y : ℕ)
    (kept : WordsHold shape words homes traces) (seat : s < shape.cpus + shape.agents) where
  -- a load leaves the word that it finds
  as_found : (c : ℕ) (r : Rec) → y ≡ words n c → WordsHold shape words homes (put traces s (r ∷ traces s))
      → WordsHold shape (put_at words n c y) homes (put traces s (r ∷ traces s))
  as_found c r same after =
      subst (λ (w : ℕ → ℕ → ℕ). WordsHold shape w homes (put traces s (r ∷ traces s)))
      (sym (ap (put_at words n c) same ∙ word_same words n c)) after

  event_found : (c : ℕ) (r : Rec) → y ≡ words n c → IsEvent shape words homes traces s r words homes
      → IsEvent shape words homes traces s r (put_at words n c y) homes
  event_found c r same event =
      subst (λ (w : ℕ → ℕ → ℕ). IsEvent shape words homes traces s r w homes)
      (sym (ap (put_at words n c) same ∙ word_same words n c)) event

  -- one that tells nothing new of what stands beside the invariant
  quiet_load : (c : ℕ) (r : Rec) → y ≡ words n c → IsQuiet r (traces s) → IsSteady r (traces s) → IsOutside r (traces s)
      → may_run s (r ∷ traces s) ≡ may_run s (traces s) → ExclusivesHold words homes.wait (put traces s (r ∷ traces s))
      → IsEvent shape words homes traces s r words homes
      → WordsHold shape (put_at words n c y) homes (put traces s (r ∷ traces s))
  quiet_load c r same quiet steady outside runs exclusives event =
      as_found c r same (still_kept shape words homes homes traces s kept r quiet steady runs exclusives event
      (ended_still homes.ended traces s kept.ended r steady.current outside.ended)
      (known_still traces s kept.known r outside.body outside.ended))

  abbrev state_note : Option State → Rec
  state_note mask = LoadedState n mask (record { 0 = words n STATE })

  state_event : (mask : Option State) → n < shape.tasks → IsMask mask
      → IsEvent shape words homes traces s (state_note mask) words homes
  state_event mask task allowed =
      load_state_event shape words homes traces s n mask kept.holds
      (record { seat = seat; task = task; allowed = allowed })

  state_kept : (mask : Option State) → n < shape.tasks → IsMask mask
      → WordsHold shape words homes (put traces s (state_note mask ∷ traces s))
  state_kept mask task allowed =
      let event = state_event mask task allowed in
      let holds = Holds-step (core_of shape words homes traces) (record { seat = s; step = event.kind })
      (core_after shape words homes traces s (state_note mask)) kept.holds event.event in
      words_hold_after shape words homes traces s kept (state_note mask) words homes event (record {
        moving = moving_still shape words homes traces s kept.moving (state_note mask) (λ h. refl);
        current = current_still words traces s kept.current (state_note mask) (λ j. refl) refl;
        numbers = numbers_still words traces s kept.numbers (state_note mask) (λ h. refl);
        matched = load_state_matched words traces s kept.matched shape homes n mask
            (record { 0 = words n STATE }) holds;
        queued = queued_still words traces s kept.queued (state_note mask) (λ c t e. e);
        exclusives = exclusives_still words homes.wait traces s kept.exclusives (state_note mask) (λ t k e. e) refl refl;
        put_there = put_still words traces s kept.put_there (state_note mask) refl;
        ended = ended_still homes.ended traces s kept.ended (state_note mask) (λ j. refl) refl;
        counts = kept.counts;
        states = kept.states;
        standing = standing_still words traces s kept.standing (state_note mask) refl;
        runs = load_state_runs words traces s kept.runs shape homes kept.holds n mask kept.current;
        off = off_still words traces s kept.off (state_note mask) (λ t e. e) refl;
        grown = grown_still words traces s kept.grown (state_note mask) refl;
        known = known_still traces s kept.known (state_note mask) refl refl;
      })

  -- of the state, with no mask
  pub load_state_is_event : n < shape.tasks → y ≡ words n STATE
      → IsEvent shape words homes traces s (LoadedState n None (record { 0 = words n STATE })) (put_at words n STATE y) homes
  load_state_is_event task same = event_found STATE (state_note None) same (state_event None task tt)

  -- what is known of the state that is there
  state_told : StateTold s (traces s) n (words n STATE)
  state_told = record {
    narrow = kept.states n;
    own = λ is on. kept.holds.places.current s n is (kept.current s n is on);
    still = λ stored is on last. kept.own s n stored is on last;
    dead = λ is on last. stays_dead (record { 0 = words n STATE }) (kept.own s n dead is on last);
  }

  pub load_state_law : n < shape.tasks → y ≡ words n STATE
      → WordsHold shape (put_at words n STATE y) homes
      (put traces s (LoadedState n None (record { 0 = words n STATE }) ∷ traces s)) × StateTold s (traces s) n (words n STATE)
  load_state_law task same = (as_found STATE (state_note None) same (state_kept None task tt), state_told)

  abbrev rq_note : Rec
  rq_note = LoadedRq n (words n RQ % 4) (words n RQ / 4)

  rq_kept : n < shape.tasks → WordsHold shape words homes (put traces s (rq_note ∷ traces s))
  rq_kept task =
      words_hold_after shape words homes traces s kept rq_note words homes
      (load_rq_event shape words homes traces s n (record { seat = seat; task = task })) (record {
        moving = moving_still shape words homes traces s kept.moving rq_note (λ h. refl);
        current = current_still words traces s kept.current rq_note (λ j. refl) refl;
        numbers = load_rq_numbers words traces s kept.numbers n (words n RQ % 4);
        matched = matched_still words traces s kept.matched rq_note refl;
        queued = load_rq_queued words traces s kept.queued n (words n RQ / 4);
        exclusives = exclusives_still words homes.wait traces s kept.exclusives rq_note (λ t k e. e) refl refl;
        put_there = put_still words traces s kept.put_there rq_note refl;
        ended = ended_still homes.ended traces s kept.ended rq_note (λ j. refl) refl;
        counts = kept.counts;
        states = kept.states;
        standing = standing_still words traces s kept.standing rq_note refl;
        runs = runs_still words traces s kept.runs rq_note refl refl;
        off = load_rq_off words traces s kept.off n (words n RQ % 4);
        grown = load_rq_grown words traces s kept.grown n (words n RQ % 4);
        known = known_still traces s kept.known rq_note refl refl;
      })

  pub load_rq_is_event : n < shape.tasks → y ≡ words n RQ
      → IsEvent shape words homes traces s (LoadedRq n (words n RQ % 4) (words n RQ / 4)) (put_at words n RQ y) homes
  load_rq_is_event task same =
      event_found RQ rq_note same (load_rq_event shape words homes traces s n (record { seat = seat; task = task }))

  -- a task that matched since the seat took its lock was queued before
  pub load_rq_law : n < shape.tasks → y ≡ words n RQ
      → WordsHold shape (put_at words n RQ y) homes
      (put traces s (LoadedRq n (words n RQ % 4) (words n RQ / 4) ∷ traces s))
      × (IsSome (task_held (traces s) n) → has_matched (traces s) n ≡ true → words n RQ / 4 ≢ 0)
  load_rq_law task same = (
    as_found RQ rq_note same (rq_kept task),
    λ out matched. kept.matched s n (kept.holds.locks.tasks.out_held s n out) matched,
  )

  pub load_busy_is_event : n < shape.tasks → y ≡ words n BUSY
      → IsEvent shape words homes traces s (LoadedBusy n (is_set (words n BUSY)) (words n BUSY / 2)) (put_at words n BUSY y) homes
  load_busy_is_event task same =
      event_found BUSY (LoadedBusy n (is_set (words n BUSY)) (words n BUSY / 2)) same
      (load_busy_event shape words homes traces s n (record { seat = seat; task = task }))

  pub load_busy_law : n < shape.tasks → y ≡ words n BUSY
      → WordsHold shape (put_at words n BUSY y) homes
      (put traces s (LoadedBusy n (is_set (words n BUSY)) (words n BUSY / 2) ∷ traces s)) × Unit {0}
  load_busy_law task same = (
    quiet_load BUSY (LoadedBusy n (is_set (words n BUSY)) (words n BUSY / 2)) same
        (record {
          moving = λ h. refl;
          numbers = λ h. refl;
          matched = refl;
          queued = λ c t e. e;
          put_there = refl;
          standing = refl;
          off = λ t e. e;
        })
        (record { current = λ j. refl; stays = refl }) (record { ended = refl; body = refl }) refl
        (exclusives_still words homes.wait traces s kept.exclusives (LoadedBusy n (is_set (words n BUSY)) (words n BUSY / 2)) (λ t k e. e) refl refl)
        (load_busy_event shape words homes traces s n (record { seat = seat; task = task })),
    tt,
  )

  pub load_cpu_is_event : n < shape.tasks → y ≡ words n CPU
      → IsEvent shape words homes traces s (LoadedCpu n (words n CPU)) (put_at words n CPU y) homes
  load_cpu_is_event task same =
      event_found CPU (LoadedCpu n (words n CPU)) same
      (load_cpu_event shape words homes traces s n (record { seat = seat; task = task }))

  pub load_cpu_law : n < shape.tasks → y ≡ words n CPU
      → WordsHold shape (put_at words n CPU y) homes
      (put traces s (LoadedCpu n (words n CPU) ∷ traces s)) × (words n CPU < shape.cpus)
  load_cpu_law task same = (
    quiet_load CPU (LoadedCpu n (words n CPU)) same
        (record {
          moving = λ h. refl;
          numbers = λ h. refl;
          matched = refl;
          queued = λ c t e. e;
          put_there = refl;
          standing = refl;
          off = λ t e. e;
        })
        (record { current = λ j. refl; stays = refl }) (record { ended = refl; body = refl }) refl
        (exclusives_still words homes.wait traces s kept.exclusives (LoadedCpu n (words n CPU)) (λ t k e. e) refl refl)
        (load_cpu_event shape words homes traces s n (record { seat = seat; task = task })),
    kept.holds.shapes.cpu n task,
  )

  pub load_count_is_event : n < shape.tasks → y ≡ words n COUNT
      → IsEvent shape words homes traces s (LoadedCount n (words n COUNT)) (put_at words n COUNT y) homes
  load_count_is_event task same =
      event_found COUNT (LoadedCount n (words n COUNT)) same
      (load_count_event shape words homes traces s n (record { seat = seat; task = task }))

  -- no step stores a level, so each is 0
  pub load_count_law : n < shape.tasks → y ≡ words n COUNT
      → WordsHold shape (put_at words n COUNT y) homes
      (put traces s (LoadedCount n (words n COUNT) ∷ traces s)) × (words n COUNT ≡ 0)
  load_count_law task same = (
    quiet_load COUNT (LoadedCount n (words n COUNT)) same
        (record {
          moving = λ h. refl;
          numbers = λ h. refl;
          matched = refl;
          queued = λ c t e. e;
          put_there = refl;
          standing = refl;
          off = λ t e. e;
        })
        (record { current = λ j. refl; stays = refl }) (record { ended = refl; body = refl }) refl
        (exclusives_still words homes.wait traces s kept.exclusives (LoadedCount n (words n COUNT)) (λ t k e. e) refl refl)
        (load_count_event shape words homes traces s n (record { seat = seat; task = task })),
    kept.counts n,
  )

  pub load_cond_is_event : n < shape.conds → y ≡ words n COND
      → IsEvent shape words homes traces s (LoadedCond n (words n COND)) (put_at words n COND y) homes
  load_cond_is_event condition same =
      event_found COND (LoadedCond n (words n COND)) same
      (load_cond_event shape words homes traces s n (record { seat = seat; condition = condition }))

  pub load_cond_law : n < shape.conds → y ≡ words n COND
      → WordsHold shape (put_at words n COND y) homes (put traces s (LoadedCond n (words n COND) ∷ traces s)) × Unit {0}
  load_cond_law condition same = (
    quiet_load COND (LoadedCond n (words n COND)) same
        (record {
          moving = λ h. refl;
          numbers = λ h. refl;
          matched = refl;
          queued = λ c t e. e;
          put_there = refl;
          standing = refl;
          off = λ t e. e;
        })
        (record { current = λ j. refl; stays = refl }) (record { ended = refl; body = refl }) refl
        (exclusives_still words homes.wait traces s kept.exclusives (LoadedCond n (words n COND)) (λ t k e. e) refl refl)
        (load_cond_event shape words homes traces s n (record { seat = seat; condition = condition })),
    tt,
  )

-- of the state, with a mask
pub load_masked_is_event : (mask : State) → IsMask (Some mask)
    → (shape : Shape) (words : ℕ → ℕ → ℕ) (homes : Homes) (traces : ℕ → List Rec) (s n y : ℕ)
    → WordsHold shape words homes traces → s < shape.cpus + shape.agents → n < shape.tasks → y ≡ words n STATE
    → IsEvent shape words homes traces s (LoadedState n (Some mask) (record { 0 = words n STATE })) (put_at words n STATE y) homes
load_masked_is_event mask allowed shape words homes traces s n y kept seat task same =
    event_found shape words homes traces s n y kept seat STATE
    (state_note shape words homes traces s n y kept seat (Some mask)) same
    (state_event shape words homes traces s n y kept seat (Some mask) task allowed)

pub load_masked_law : (mask : State) → IsMask (Some mask)
    → (shape : Shape) (words : ℕ → ℕ → ℕ) (homes : Homes) (traces : ℕ → List Rec) (s n y : ℕ)
    → WordsHold shape words homes traces → s < shape.cpus + shape.agents → n < shape.tasks → y ≡ words n STATE
    → WordsHold shape (put_at words n STATE y) homes
    (put traces s (LoadedState n (Some mask) (record { 0 = words n STATE }) ∷ traces s)) × StateTold s (traces s) n (words n STATE)
load_masked_law mask allowed shape words homes traces s n y kept seat task same = (
  as_found shape words homes traces s n y kept seat STATE
      (state_note shape words homes traces s n y kept seat (Some mask)) same
      (state_kept shape words homes traces s n y kept seat (Some mask) task allowed),
  state_told shape words homes traces s n y kept seat,
)
