-- Bodies taken out and put home keep the rule; and a new table keeps it.
use Rattle.std.proofs.Common.{◌≡◌, ℕ, ◌<◌, ◌+◌, refl, List, [], ◌∷◌}
use Rattle.std.specs.Prelude.{◌↔◌, Bool, true, false}
use Rattle.core_data.specs.Columns.{put}
use Rattle.core_law.proofs.Reached.{Holds-opening, reached_opening}
use Rattle.handoff_data.specs.Mask.{HasCpu}
use Rattle.handoff_data.specs.Shape.{IsShape}
use Rattle.handoff_data.specs.declared.mask.CpuMask.{CpuMask}
use Rattle.handoff_data.specs.declared.shape.Shape.{Shape}
use Rattle.word_rule.proofs.BodiesKept.{known_start, body_out_known, body_home_known}
use Rattle.word_rule.proofs.GrownKept.{grown_start}
use Rattle.word_rule.proofs.MasksKept.{masks_start}
use Rattle.word_rule.proofs.OffKept.{off_start}
use Rattle.word_rule.proofs.OwnKept.{own_start}
use Rattle.word_rule.proofs.WaysKept.{ways_start}
use Rattle.word_rule.proofs.PossibleGives.{take_body_possible, return_body_possible}
use Rattle.word_rule.proofs.Quiet.{still_kept}
use Rattle.word_rule.proofs.RunsKept.{runs_start}
use Rattle.word_rule.proofs.StandingKept.{standing_first}
use Rattle.word_rule.specs.WordsHold.{WordsHold}
use Rattle.word_rule.specs.May.{MayTakeBody, MayReturnBody}
use Rattle.word_steps.proofs.CurrentKept.{current_start}
use Rattle.word_steps.proofs.EndedKept.{ended_start, body_out_ended, body_home_ended}
use Rattle.word_steps.proofs.FirstCore.{first_is_opening}
use Rattle.word_steps.proofs.Events.{body_out_event, body_home_event}
use Rattle.word_steps.proofs.ExclusivesKept.{exclusives_start, exclusives_still}
use Rattle.word_steps.proofs.MatchedKept.{matched_start}
use Rattle.word_steps.proofs.MovingSteps.{moving_start, states_start}
use Rattle.word_steps.proofs.NumbersKept.{numbers_start}
use Rattle.word_steps.proofs.PutKept.{put_start}
use Rattle.word_steps.proofs.QueuedKept.{queued_start}
use Rattle.word_steps.specs.Decode.{Homes, core_of}
use Rattle.word_steps.specs.Events.{IsEvent}
use Rattle.word_steps.specs.Opening.{first_words, first_homes}
use Rattle.word_steps.specs.Records.{Rec, OutBody, HomeBody}

module _ (shape : Shape) (words : ℕ → ℕ → ℕ) (homes : Homes) (traces : ℕ → List Rec) (s t : ℕ) where
  -- the body is home, and the record tells whether it has ended
  pub take_body_law : WordsHold shape words homes traces → s < shape.cpus + shape.agents → t < shape.tasks
      → MayTakeBody s (traces s) t
      → (homes.body t ≡ true)
      × WordsHold shape words (record homes { body = put homes.body t false })
      (put traces s (OutBody t (homes.ended t) ∷ traces s))
  take_body_law kept seat task may =
      let core = take_body_possible shape words homes traces s kept seat t task may in (
        core.home,
        still_kept shape words homes (record homes { body = put homes.body t false }) traces s kept
            (OutBody t (homes.ended t))
            (record {
              moving = λ h. refl;
              numbers = λ h. refl;
              matched = refl;
              queued = λ c u e. e;
              put_there = refl;
              standing = refl;
              off = λ u e. e;
            })
            (record { current = λ j. refl; stays = refl }) refl
            (exclusives_still words homes.wait traces s kept.exclusives (OutBody t (homes.ended t)) (λ u k e. e) refl refl)
            (body_out_event shape words homes traces s t core)
            (body_out_ended homes.ended traces s kept.ended t (homes.ended t) refl)
            (body_out_known traces s kept.known t (homes.ended t)),
      )

  pub take_body_event : WordsHold shape words homes traces → s < shape.cpus + shape.agents → t < shape.tasks
      → MayTakeBody s (traces s) t
      → IsEvent shape words homes traces s (OutBody t (homes.ended t)) words (record homes { body = put homes.body t false })
  take_body_event kept seat task may =
      body_out_event shape words homes traces s t (take_body_possible shape words homes traces s kept seat t task may)

  -- the body isn't home, and is told whether it has ended by now
  pub return_body_law : (ended : Bool) → WordsHold shape words homes traces → s < shape.cpus + shape.agents → t < shape.tasks
      → MayReturnBody s (traces s) t ended
      → (homes.body t ≡ false)
      × WordsHold shape words (record homes { body = put homes.body t true; ended = put homes.ended t ended })
      (put traces s (HomeBody t ended ∷ traces s))
  return_body_law ended kept seat task may =
      let core = return_body_possible shape words homes traces s kept seat t ended task may in (
        kept.holds.busy.bodies.out_away s t may.out,
        still_kept shape words homes
            (record homes { body = put homes.body t true; ended = put homes.ended t ended }) traces s kept
            (HomeBody t ended)
            (record {
              moving = λ h. refl;
              numbers = λ h. refl;
              matched = refl;
              queued = λ c u e. e;
              put_there = refl;
              standing = refl;
              off = λ u e. e;
            })
            (record { current = λ j. refl; stays = refl }) refl
            (exclusives_still words homes.wait traces s kept.exclusives (HomeBody t ended) (λ u k e. e) refl refl)
            (body_home_event shape words homes traces s t ended core)
            (body_home_ended shape words homes traces s kept.holds kept.ended t ended core)
            (body_home_known traces s kept.known t ended),
      )

  pub return_body_event : (ended : Bool) → WordsHold shape words homes traces → s < shape.cpus + shape.agents → t < shape.tasks
      → MayReturnBody s (traces s) t ended
      → IsEvent shape words homes traces s (HomeBody t ended) words
      (record homes { body = put homes.body t true; ended = put homes.ended t ended })
  return_body_event ended kept seat task may =
      body_home_event shape words homes traces s t ended
      (return_body_possible shape words homes traces s kept seat t ended task may)

-- a new table keeps the rule, whichever bodies have ended
pub start_law : (shape : Shape) (mask : CpuMask) (ended : ℕ → Bool) → IsShape shape → ((c : ℕ) → HasCpu mask c ↔ (c < shape.cpus))
    → WordsHold shape (first_words shape) (record (first_homes shape mask) { ended = ended }) (λ s. [])
start_law shape mask ended is_shape all =
    let core = core_of shape (first_words shape) (record (first_homes shape mask) { ended = ended }) (λ s. []) in
    let opening = first_is_opening shape mask ended all in
    record {
      reached = reached_opening shape core is_shape opening;
      holds = Holds-opening shape core is_shape opening;
      moving = moving_start shape;
      current = current_start (first_words shape);
      numbers = numbers_start (first_words shape);
      matched = matched_start (first_words shape);
      queued = queued_start (first_words shape);
      exclusives = exclusives_start (first_words shape) (first_homes shape mask).wait;
      put_there = put_start (first_words shape);
      ended = ended_start ended;
      counts = λ t. refl;
      states = states_start shape;
      standing = standing_first shape;
      runs = runs_start (first_words shape);
      off = off_start (first_words shape);
      grown = grown_start (first_words shape);
      known = known_start;
      own = own_start (first_words shape);
      ways = ways_start (first_words shape);
      masks = masks_start shape mask (record (first_homes shape mask) { ended = ended }) refl is_shape.some_cpu all;
    }
