-- What a seat knows of the state of its current task that it reads under its queue's lock.
use Rattle.std.proofs.Common.{◌≡◌, ◌∙◌, ℕ, ◌∷◌, List, ap, inl, inr, arith}
use Rattle.std.specs.Prelude.{true, false, ◌⊎◌, Some}
use Rattle.std.proofs.lemmas.Bool.Decides.{nat_tests}
use Rattle.core_data.specs.Queue.{Queue}
use Rattle.core_kinds.specs.Steps.{is_sleep, dead, IsRunnable}
use Rattle.handoff_data.specs.declared.state.State.{State}
use Rattle.sched_switch.specs.Standing.{IsSteady}
use Rattle.sched_switch.specs.Switches.{IsReadAs}
use Rattle.task_words.specs.Views.{PassView}
use Rattle.word_rule.specs.Own.{IsOfCurrent, IsStill, last_own}
use Rattle.word_rule.specs.Standing.{is_runnable}
use Rattle.word_steps.specs.Folds.{current_task, stays_queued}
use Rattle.word_steps.specs.Records.{Rec, Took}
use Rattle.word_steps.specs.declared.val.Val.TheVariants as val

not_runnable : (state : State) → IsRunnable state → is_runnable state ≡ false → ⊥
not_runnable state (inl e) f = grind (arith, nat_tests, e, f)
not_runnable state (inr e) f = grind (arith, nat_tests, e, f)

stops_of : (state : State) → IsOfCurrent state → is_runnable state ≡ false → (is_sleep state ≡ true) ⊎ (state ≡ dead)
stops_of state (inl runs) f = absurd (not_runnable state runs f)
stops_of state (inr stops) f = stops

module _ (t : ℕ) (state : State) (c : ℕ) (v : Queue) (old mid : PassView) (seat : mid.seat ≡ old.seat)
    (trace : mid.trace ≡ Took c (val.Queue v) ∷ old.trace) (steady : IsSteady old)
    (current : current_task old.seat old.trace ≡ Some t) where
  current_under : current_task mid.seat mid.trace ≡ Some t
  current_under = ap (λ (z : ℕ × List Rec). current_task z.0 z.1) (λ i. (seat i, trace i)) ∙ current

  stays_under : stays_queued mid.trace ≡ true
  stays_under = ap stays_queued trace ∙ steady.stays t current

  pub read_under :
      ((stored : State) → current_task mid.seat mid.trace ≡ Some t → stays_queued mid.trace ≡ true
      → last_own mid.trace t ≡ Some stored → IsStill stored state)
      → IsReadAs t state old
  read_under told = record {
    current = current;
    still = λ stored e. told stored current_under stays_under (ap (λ (z : List Rec). last_own z t) trace ∙ e);
  }

  pub stops_under :
      (current_task mid.seat mid.trace ≡ Some t → stays_queued mid.trace ≡ true → IsOfCurrent state)
      → is_runnable state ≡ false → (is_sleep state ≡ true) ⊎ (state ≡ dead)
  stops_under own f = stops_of state (own current_under stays_under) f
