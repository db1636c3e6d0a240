-- A wait queue that the current task has entered, or left, may be given.
use Rattle.std.proofs.Common.{◌≡◌, ◌∙◌, ℕ, ◌<◌, ◌∷◌, List, refl, sym, ap, subst, inl, inr, arith}
use Rattle.std.specs.Prelude.{Bool, Option, Some, unwrap_or, if◌then◌else◌}
use Rattle.std.specs.List.{filter}
use Rattle.std.proofs.lemmas.Bool.{cases_Bool}
use Rattle.std.proofs.lemmas.Bool.Decides.{nat_tests}
use Rattle.core_data.specs.declared.values.WaitEntry.{WaitEntry}
use Rattle.core_gives.specs.Waits.{has_task}
use Rattle.handoff_data.specs.declared.shape.Shape.{Shape}
use Rattle.handoff_data.specs.declared.state.State.{State}
use Rattle.task_words.proofs.Entered.{entered_gives}
use Rattle.task_words.specs.Gives.{entered}
use Rattle.wait_queue.proofs.Parts.{part_gives, part_same, part_others, part_more}
use Rattle.wait_queue.specs.Entering.{with_entry}
use Rattle.word_rule.specs.May.{MayGiveWaitVal}
use Rattle.word_rule.specs.Told.{TakenWait}
use Rattle.word_steps.specs.Entries.{is_of_other}
use Rattle.word_steps.specs.Folds.{current_task, wait_held}
use Rattle.word_steps.specs.Records.{Rec, Took, StateSet}
use Rattle.word_steps.specs.declared.val.Val.TheVariants as val

module _ (shape : Shape) (s k : ℕ) (v : List WaitEntry) (rs : List Rec) (told : TakenWait shape v) where
  held_there : wait_held (Took k (val.Wait v) ∷ rs) k ≡ Some v
  held_there = grind (arith, nat_tests)

  pub prepared_gives : (x : WaitEntry) (state : State) → current_task s rs ≡ Some x.t → x.t < shape.tasks
      → MayGiveWaitVal s (StateSet x.t state ∷ Took k (val.Wait v) ∷ rs) shape k (with_entry x v)
  unfolding with_entry
  prepared_gives x state current task = elim (cases_Bool (has_task v x.t)) [
    | inl q ↦ subst (λ (b : Bool). MayGiveWaitVal s (StateSet x.t state ∷ Took k (val.Wait v) ∷ rs) shape k (if b then v else entered x v)) (sym q)
        (part_gives shape s (StateSet x.t state ∷ Took k (val.Wait v) ∷ rs) k v v told held_there (part_same _ v))
    | inr q ↦ subst (λ (b : Bool). MayGiveWaitVal s (StateSet x.t state ∷ Took k (val.Wait v) ∷ rs) shape k (if b then v else entered x v)) (sym q)
        (entered_gives shape s (StateSet x.t state ∷ Took k (val.Wait v) ∷ rs) k (entered x v) record {
          v = v;
          x = x;
          put = refl;
          state = state;
          rs = rs;
          did = refl;
          told = told;
          absent = q;
          current = current;
          task = task;
        })
  ]

  pub finished_gives : (t : ℕ) → current_task s rs ≡ Some t
      → MayGiveWaitVal s (Took k (val.Wait v) ∷ rs) shape k (filter (is_of_other t) v)
  finished_gives t current =
      part_gives shape s (Took k (val.Wait v) ∷ rs) k (filter (is_of_other t) v) v told held_there
      (part_more (λ u. t ≡ u) _ (λ u e. inl (current ∙ ap (λ (z : ℕ). Some z) e)) (filter (is_of_other t) v) v (part_others t v))

-- .. by what the calls tell of it

pub prepared_may : (shape : Shape) (s seat before k cond : ℕ) (v given : List WaitEntry) (rs between trace : List Rec) (x : WaitEntry) (state : State)
    → TakenWait shape v → current_task s rs ≡ Some x.t → x.t < shape.tasks
    → between ≡ Took k (val.Wait v) ∷ rs
    → trace ≡ StateSet (unwrap_or (current_task before between) 0) state ∷ between
    → before ≡ s → seat ≡ s → cond ≡ k → given ≡ with_entry x v
    → MayGiveWaitVal seat trace shape cond given
prepared_may shape s seat before k cond v given rs between trace x state told current task took stored was same at put =
    let all : trace ≡ StateSet x.t state ∷ Took k (val.Wait v) ∷ rs =
    stored
    ∙ ap (λ (z : ℕ × List Rec). StateSet (unwrap_or (current_task z.0 z.1) 0) state ∷ z.1) (λ i. (was i, took i))
    ∙ ap (λ (o : Option ℕ). StateSet (unwrap_or o 0) state ∷ Took k (val.Wait v) ∷ rs) current in
    subst (λ (z : (ℕ × List Rec) × (ℕ × List WaitEntry)). MayGiveWaitVal z.0.0 z.0.1 shape z.1.0 z.1.1)
    (λ i. ((sym same i, sym all i), (sym at i, sym put i)))
    (prepared_gives shape s k v rs told x state current task)

pub finished_may : (shape : Shape) (s seat k cond t : ℕ) (v given : List WaitEntry) (rs trace : List Rec)
    → TakenWait shape v → current_task s rs ≡ Some t → trace ≡ Took k (val.Wait v) ∷ rs
    → seat ≡ s → cond ≡ k → given ≡ filter (is_of_other t) v
    → MayGiveWaitVal seat trace shape cond given
finished_may shape s seat k cond t v given rs trace told current took same at put =
    subst (λ (z : (ℕ × List Rec) × (ℕ × List WaitEntry)). MayGiveWaitVal z.0.0 z.0.1 shape z.1.0 z.1.1)
    (λ i. ((sym same i, sym took i), (sym at i, sym put i)))
    (finished_gives shape s k v rs told t current)
