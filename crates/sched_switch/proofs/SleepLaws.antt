-- What a sleep means, from what it did.
use Rattle.std.proofs.Common.{◌≡◌, ◌∙◌, ℕ, ◌++◌, ◌∷◌, [], List, refl, sym, ap, subst, inl, inr, arith}
use Rattle.std.specs.Prelude.{Bool, true, false, Option, Some, None, ◌==◌, ◌&&◌, ◌||◌, if◌then◌else◌}
use mathlib.Core.Bool.{not}
use Rattle.std.proofs.lemmas.Bool.{cases_Bool}
use Rattle.std.proofs.lemmas.Bool.Decides.{nat_tests}
use Rattle.std.specs.List.{filter}
use Rattle.core_data.specs.Entries.{any_from, is_gone}
use Rattle.core_data.specs.Noted.{given_asleep}
use Rattle.core_data.specs.Queue.{Queue}
use Rattle.core_data.specs.declared.values.WaitEntry.{WaitEntry}
use Rattle.core_gives.specs.Waits.{has_task, sleeper_of}
use Rattle.core_invariant.specs.Sleepers.{IsAwake}
use Rattle.core_kinds.specs.Steps.{is_sleep, running, waking, dead}
use Rattle.handoff_data.specs.declared.state.State.{State}
use Rattle.sched_switch.specs.Laws.{HasTestedFirst, HasFoundChanged, IsAsleepAt, IsNotMissed, IsNotMissedAtEnd}
use Rattle.sched_switch.specs.Sleeps.{HasSlept, HasChanged, interruptible}
use Rattle.sched_switch.specs.Switches.{left_by}
use Rattle.task_words.specs.Gives.{entered}
use Rattle.task_words.specs.Views.{PassView}
use Rattle.wait_queue.specs.Entering.{IsPrepared, IsFinished, with_entry}
use Rattle.wait_queue.specs.Laws.{IsGone}
use Rattle.word_steps.specs.Entries.{is_of_other}
use Rattle.word_steps.specs.Folds.{current_task, is_asleep, tested, has_slept, has_slept_in, put_test, put_test_if}
use Rattle.word_steps.specs.Records.{Rec, Took, Gave, Dequeued, StateSet, ClearedBusy, LoadedState, LoadedCount, LoadedCond}
use Rattle.word_steps.specs.declared.val.Val.TheVariants as val

-- The trace after a sleep

abbrev slept_trace : ℕ → ℕ → ℕ → ℕ → ℕ → ℕ → Queue → List WaitEntry → List WaitEntry → List Rec → List Rec
slept_trace s t k v n b q w given old =
    ClearedBusy t n ∷ Gave s (val.Queue q) (val.Queue (left_by t q)) ∷ Dequeued t s b ∷ LoadedCount t 0 ∷ LoadedState t None interruptible
    ∷ Took s (val.Queue q) ∷ LoadedCond k v ∷ Gave k (val.Wait w) (val.Wait given) ∷ StateSet t interruptible
    ∷ Took k (val.Wait w) ∷ old

same_number : (t : ℕ) → (t == t) ≡ true
same_number t = grind (arith, nat_tests)

-- An entry of the task stands in the wait queue once it was put in

either : (b : Bool) → (if b then true else true) ≡ true
either true = refl
either false = refl

any_known : (p : WaitEntry → Bool) (xs : List WaitEntry) → any_from p true xs ≡ true
any_known p [] = refl
any_known p (x ∷ xs) = ap (λ (b : Bool). any_from p b xs) (either (p x)) ∙ any_known p xs

task_at_head : (x : WaitEntry) (v : List WaitEntry) → has_task (x ∷ v) x.t ≡ true
task_at_head x v =
    ap (λ (b : Bool). any_from (λ z. z.t == x.t) (if b then true else false) v) (same_number x.t)
    ∙ any_known (λ z. z.t == x.t) v

task_within : (x : WaitEntry) (v : List WaitEntry) → x.exclusive ≡ false → has_task (with_entry x v) x.t ≡ true
unfolding with_entry entered
task_within x v e = elim (cases_Bool (has_task v x.t)) [
  | inl q ↦ ap (λ (b : Bool). has_task (if b then v else entered x v) x.t) q ∙ q
  | inr q ↦ ap (λ (b : Bool). has_task (if b then v else entered x v) x.t) q
      ∙ ap (λ (b : Bool). has_task (if b then v ++ x ∷ [] else x ∷ v) x.t) e ∙ task_at_head x v
]

module _ (s t k v n b : ℕ) (q : Queue) (w given : List WaitEntry) (old : List Rec) (current : current_task s old ≡ Some t) where
  test_there : tested s (slept_trace s t k v n b q w given old) t k ≡ Some v
  test_there =
      let before : List Rec = Gave k (val.Wait w) (val.Wait given) ∷ StateSet t interruptible ∷ Took k (val.Wait w) ∷ old in
      ap (λ (o : Option ℕ). put_test o (has_slept before) k v (tested s before) t k) current
      ∙ ap (λ (e : Bool). put_test_if (if e then true else has_slept old t) t k v (tested s before) t k) (same_number t)
      ∙ ap (λ (e : Bool × Bool). if e.0 && e.1 then Some v else tested s before t k) (λ i. (same_number t i, same_number k i))

  sleeper_there : has_task given t ≡ true
      → sleeper_of (current_task s old) (has_slept_in (StateSet t interruptible ∷ Took k (val.Wait w) ∷ old) k) given ≡ Some t
  sleeper_there within =
      let before : List Rec = Took k (val.Wait w) ∷ old in
      ap (λ (o : Option ℕ). sleeper_of o (has_slept_in (StateSet t interruptible ∷ before) k) given) current
      ∙ ap (λ (e : Bool × Bool). if e.0 && (if e.1 then true else has_slept_in before k t) then Some t else None)
      (λ i. (within i, same_number t i))

  asleep_there : has_task given t ≡ true → is_asleep s (slept_trace s t k v n b q w given old) t k ≡ true
  asleep_there within =
      let before : List Rec = StateSet t interruptible ∷ Took k (val.Wait w) ∷ old in
      ap (λ (o : Option ℕ). given_asleep k w given o (is_asleep s before) t k) (sleeper_there within)
      ∙ ap (λ (e : Bool × Bool). (e.0 && e.1) || (not (e.1 && is_gone w given t) && is_asleep s before t k))
      (λ i. (same_number t i, same_number k i))

module _ (k v m : ℕ) (old new : PassView) (slept : HasSlept k v m old new) where
  given : List WaitEntry
  given = with_entry (record { t = slept.tested.entered.t; exclusive = false }) slept.tested.entered.v

  between_trace : slept.between.trace
      ≡ LoadedCond k v ∷ Gave k (val.Wait slept.tested.entered.v) (val.Wait given)
      ∷ StateSet slept.tested.entered.t interruptible ∷ Took k (val.Wait slept.tested.entered.v) ∷ old.trace
  unfolding given
  between_trace = slept.tested.did ∙ ap (λ (z : List Rec). LoadedCond k v ∷ z) slept.tested.entered.did

  current_between : current_task slept.between.seat slept.between.trace ≡ current_task old.seat old.trace
  current_between =
      ap (λ (z : List Rec). current_task slept.between.seat z) between_trace
      ∙ ap (λ (s : ℕ). current_task s old.trace) slept.tested.same_seat

  some_one : (x y : ℕ) → Some x ≡ Some y → x ≡ y
  some_one x y e = cc

  same_task : slept.tested.entered.t ≡ slept.t
  same_task = some_one slept.tested.entered.t slept.t
      (sym slept.tested.entered.current ∙ sym current_between ∙ slept.gone.read.current)

  current_there : current_task old.seat old.trace ≡ Some slept.t
  current_there = sym current_between ∙ slept.gone.read.current

  whole_trace : new.trace
      ≡ slept_trace old.seat slept.t k v slept.gone.n slept.gone.before slept.gone.queue slept.tested.entered.v given old.trace
  whole_trace =
      slept.gone.did
      ∙ ap (λ (z : ℕ × List Rec). ClearedBusy slept.t slept.gone.n
      ∷ Gave z.0 (val.Queue slept.gone.queue) (val.Queue (left_by slept.t slept.gone.queue))
      ∷ Dequeued slept.t z.0 slept.gone.before ∷ LoadedCount slept.t 0 ∷ LoadedState slept.t None interruptible ∷ Took z.0 (val.Queue slept.gone.queue) ∷ z.1)
      (λ i. (slept.tested.same_seat i, between_trace i))
      ∙ ap (λ (u : ℕ). ClearedBusy slept.t slept.gone.n
      ∷ Gave old.seat (val.Queue slept.gone.queue) (val.Queue (left_by slept.t slept.gone.queue))
      ∷ Dequeued slept.t old.seat slept.gone.before ∷ LoadedCount slept.t 0 ∷ LoadedState slept.t None interruptible ∷ Took old.seat (val.Queue slept.gone.queue)
      ∷ LoadedCond k v ∷ Gave k (val.Wait slept.tested.entered.v) (val.Wait given) ∷ StateSet u interruptible
      ∷ Took k (val.Wait slept.tested.entered.v) ∷ old.trace) same_task

  pub slept_after_test : HasTestedFirst k v m old new
  slept_after_test = record {
    t = slept.t;
    before = slept.gone.before;
    first = Took k (val.Wait slept.tested.entered.v) ∷ [];
    second = Gave k (val.Wait slept.tested.entered.v) (val.Wait given) ∷ [];
    third = LoadedCount slept.t 0 ∷ LoadedState slept.t None interruptible ∷ Took old.seat (val.Queue slept.gone.queue) ∷ [];
    last = ClearedBusy slept.t slept.gone.n
        ∷ Gave old.seat (val.Queue slept.gone.queue) (val.Queue (left_by slept.t slept.gone.queue)) ∷ [];
    current = current_there;
    number = slept.gone.number;
    did = whole_trace;
    untouched = refl;
  }

  within_given : has_task given slept.t ≡ true
  unfolding given
  within_given =
      ap (λ (u : ℕ). has_task (with_entry (record { t = slept.tested.entered.t; exclusive = false }) slept.tested.entered.v) u)
      (sym same_task)
      ∙ task_within (record { t = slept.tested.entered.t; exclusive = false }) slept.tested.entered.v refl

  seat_there : new.seat ≡ old.seat
  seat_there = slept.gone.same_seat ∙ slept.tested.same_seat

  pub slept_asleep : IsAsleepAt k v slept.t new
  slept_asleep = record {
    asleep = ap (λ (z : ℕ × List Rec). is_asleep z.0 z.1 slept.t k) (λ i. (seat_there i, whole_trace i))
        ∙ asleep_there old.seat slept.t k v slept.gone.n slept.gone.before slept.gone.queue slept.tested.entered.v given old.trace
        current_there within_given;
    test = ap (λ (z : ℕ × List Rec). tested z.0 z.1 slept.t k) (λ i. (seat_there i, whole_trace i))
        ∙ test_there old.seat slept.t k v slept.gone.n slept.gone.before slept.gone.queue slept.tested.entered.v given old.trace
        current_there;
  }

sleeper_awake : (state : State) → is_sleep state ≡ true → IsAwake state → ⊥
sleeper_awake state sleeps (inl e) =
    let f : is_sleep running ≡ true = subst (λ (z : State). is_sleep z ≡ true) e sleeps in grind (arith, f)
sleeper_awake state sleeps (inr (inl e)) =
    let f : is_sleep waking ≡ true = subst (λ (z : State). is_sleep z ≡ true) e sleeps in grind (arith, f)
sleeper_awake state sleeps (inr (inr e)) =
    let f : is_sleep dead ≡ true = subst (λ (z : State). is_sleep z ≡ true) e sleeps in grind (arith, f)

pub not_missed : (k v m : ℕ) (old new : PassView) → (slept : HasSlept k v m old new) → IsNotMissed k v slept.t new
not_missed k v m old new slept core law cpu same sleeps waits other =
    law k slept.t v waits (sleeper_awake (core.state slept.t) sleeps)
    (ap (λ (c : ℕ). core.tested c slept.t k) cpu ∙ same ∙ (slept_asleep k v m old new slept).test) other

pub not_missed_at_end : (k v m : ℕ) (old new : PassView) → (slept : HasSlept k v m old new) → IsNotMissedAtEnd k v slept.t new
not_missed_at_end k v m old new slept shape passes states conds state count law same last is_state is_count =
    let there = slept_asleep k v m old new slept in
    elim (cases_Bool (is_sleep state)) [
      | inl asleep ↦ inr (law new.seat slept.t k v count state is_state asleep is_count (record {
        seat = last;
        asleep = ap (λ (z : List Rec). is_asleep new.seat z slept.t k) same ∙ there.asleep;
        test = ap (λ (z : List Rec). tested new.seat z slept.t k) same ∙ there.test;
      }))
      | inr awake ↦ inl awake
    ]

-- A sleeper that finds its condition changed

pub found_changed : ((k s : ℕ) (old new : List Rec) → IsFinished k s old new → IsGone k s old new)
    → (k v now : ℕ) (old new : PassView) → HasChanged k v now old new → HasFoundChanged k v now old new
found_changed finished_gone k v now old new changed = record {
  t = changed.finished.t;
  before = changed.tested.prepared;
  current = sym current_between ∙ changed.finished.current;
  start = record {
    added = Gave k (val.Wait entered.v) (val.Wait (with_entry (record { t = entered.t; exclusive = false }) entered.v))
        ∷ StateSet entered.t interruptible ∷ Took k (val.Wait entered.v) ∷ [];
    did = entered.did;
  };
  other = changed.other;
  runs = record {
    added = Gave k (val.Wait changed.finished.v) (val.Wait (filter (is_of_other changed.finished.t) changed.finished.v))
        ∷ Took k (val.Wait changed.finished.v) ∷ [];
    did = changed.finished.did
        ∙ ap (λ (z : List Rec). Gave k (val.Wait changed.finished.v)
        (val.Wait (filter (is_of_other changed.finished.t) changed.finished.v))
        ∷ Took k (val.Wait changed.finished.v) ∷ StateSet changed.finished.t running ∷ z) changed.tested.did;
  };
  gone = subst (λ (z : ℕ × List Rec). IsGone k z.0 z.1 new.trace) (λ i. (changed.tested.same_seat i, changed.tested.did i))
      (finished_gone k changed.between.seat changed.between.trace new.trace changed.finished);
  turn = changed.turn ∙ changed.tested.turn;
}
  where
    entered : IsPrepared k false interruptible old.seat old.trace changed.tested.prepared
    entered = changed.tested.entered

    current_between : current_task changed.between.seat changed.between.trace ≡ current_task old.seat old.trace
    current_between =
        ap (λ (z : ℕ × List Rec). current_task z.0 z.1) (λ i. (changed.tested.same_seat i, changed.tested.did i))
        ∙ ap (λ (z : List Rec). current_task old.seat z) entered.did
