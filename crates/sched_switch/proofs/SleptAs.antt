-- A sleep, by the state as which the task was read.
use Rattle.std.proofs.Common.{◌≡◌, ◌∙◌, ℕ, ◌∷◌, List, sym, ap, subst, inl, inr, arith}
use Rattle.std.specs.Prelude.{Bool, true, false, ◌⊎◌, ◌==◌, Some, if◌then◌else◌}
use Rattle.std.proofs.lemmas.Bool.Decides.{nat_tests}
use Rattle.core_kinds.specs.Steps.{is_sleep, running, dead}
use Rattle.handoff_data.specs.declared.state.State.{State}
use Rattle.sched_switch.specs.Sleeps.{interruptible, IsTested, HasSlept, WasWoken}
use Rattle.sched_switch.specs.Switches.{IsPutBack, IsGone}
use Rattle.sched_switch.specs.declared.answer.Next.TheVariants as asked
use Rattle.task_words.specs.Views.{PassView, IsSame}
use Rattle.wait_queue.specs.Entering.{IsPrepared, with_entry}
use Rattle.word_rule.specs.Own.{IsStill, last_own}
use Rattle.word_rule.specs.Standing.{is_runnable}
use Rattle.word_steps.specs.Folds.{current_task}
use Rattle.word_steps.specs.Records.{Rec, Took, Gave, StateSet, LoadedCond}
use Rattle.word_steps.specs.declared.val.Val.TheVariants as val

pub is_tested : (k w : ℕ) (old mid new : PassView) → IsSame old mid → IsSame mid new
    → IsPrepared k false interruptible old.seat old.trace mid.trace → new.trace ≡ LoadedCond k w ∷ mid.trace → IsTested k w old new
is_tested k w old mid new first second entered did = record {
  prepared = mid.trace;
  entered = entered;
  did = did;
  turn = second.same_turn ∙ first.same_turn;
  same_seat = second.same.same_seat ∙ first.same.same_seat;
}

eq_self : (u : ℕ) → (u == u) ≡ true
eq_self u = grind (arith, nat_tests)

same_some : (x y : ℕ) → Some x ≡ Some y → x ≡ y
same_some x y e = cc

-- what the task has stored last as its state
module _ (k w : ℕ) (old between : PassView) (tested : IsTested k w old between) where
  trace_between : between.trace
      ≡ LoadedCond k w ∷ Gave k (val.Wait tested.entered.v)
      (val.Wait (with_entry (record { t = tested.entered.t; exclusive = false }) tested.entered.v))
      ∷ StateSet tested.entered.t interruptible ∷ Took k (val.Wait tested.entered.v) ∷ old.trace
  trace_between = tested.did ∙ ap (λ (z : List Rec). LoadedCond k w ∷ z) tested.entered.did

  task_between : (t : ℕ) → current_task between.seat between.trace ≡ Some t → tested.entered.t ≡ t
  task_between t current =
      same_some tested.entered.t t
      (sym tested.entered.current ∙ sym (ap (λ (s : ℕ). current_task s old.trace) tested.same_seat)
      ∙ sym (ap (λ (z : List Rec). current_task between.seat z) trace_between) ∙ current)

  stored_at : (u : ℕ) → (if u == u then Some interruptible else last_own old.trace u) ≡ Some interruptible
  stored_at u = ap (λ (b : Bool). if b then Some interruptible else last_own old.trace u) (eq_self u)

  stored_between : (t : ℕ) → current_task between.seat between.trace ≡ Some t → last_own between.trace t ≡ Some interruptible
  stored_between t current =
      ap (λ (z : List Rec). last_own z t) trace_between
      ∙ ap (λ (u : ℕ). if t == u then Some interruptible else last_own old.trace t) (task_between t current)
      ∙ stored_at t

asleep_still : (state : State) → IsStill interruptible state → (is_sleep state ≡ true) ⊎ (state ≡ dead) → state ≡ interruptible
asleep_still state (inl e) stops = e
asleep_still state (inr e) (inl sleeps) =
    absurd (let f : is_sleep running ≡ true = subst (λ (z : State). is_sleep z ≡ true) e.0 sleeps in grind (arith, f))
asleep_still state (inr e) (inr dies) =
    absurd (let f : dead.0 ≡ running.0 = ap (λ (z : State). z.0) (sym dies ∙ e.0) in grind (arith, f))

woken_still : (state : State) → IsStill interruptible state → is_runnable state ≡ true → state ≡ running
woken_still state (inl e) runs =
    absurd (let f : is_runnable interruptible ≡ true = subst (λ (z : State). is_runnable z ≡ true) e runs in grind (arith, f))
woken_still state (inr e) runs = e.0

pub has_slept_as : (k w v t m : ℕ) (old between new : PassView) → IsTested k w old between → w ≡ v
    → (state : State) × IsGone t state m between new → HasSlept k v m old new
has_slept_as k w v t m old between new tested same gone =
    let is_state : gone.0 ≡ interruptible =
    asleep_still gone.0 (gone.1.read.still interruptible (stored_between k w old between tested t gone.1.read.current)) gone.1.stops in
    record {
      t = t;
      between = between;
      tested = subst (λ (x : ℕ). IsTested k x old between) same tested;
      gone = subst (λ (z : State). IsGone t z m between new) is_state gone.1;
    }

pub was_woken_as : (k w v t : ℕ) (old between new : PassView) → IsTested k w old between → w ≡ v
    → (state : State) × IsPutBack asked.Nobody t state between new → WasWoken k v old new
was_woken_as k w v t old between new tested same back =
    let is_state : back.0 ≡ running =
    woken_still back.0 (back.1.read.still interruptible (stored_between k w old between tested t back.1.read.current)) back.1.runs in
    record {
      t = t;
      between = between;
      tested = subst (λ (x : ℕ). IsTested k x old between) same tested;
      back = subst (λ (z : State). IsPutBack asked.Nobody t z between new) is_state back.1;
    }
