use Rattle.std.proofs.Common.{◌≡◌, ◌∙◌, ℕ, List, true, false, refl, sym, subst}
use Rattle.bench_steps.proofs.steps.WaitQueueStep.once.Goals as goal
use Rattle.handoff_data.specs.declared.shape.Shape.{Shape}
use Rattle.word_rule.specs.May.{MayGiveWaitVal}
use Rattle.word_rule.specs.Told.{TakenWait}
use Rattle.word_steps.specs.Records.{Rec}

pub give-requires-clause-may : goal.give-requires-clause-may
give-requires-clause-may g c κs =
    let wait = c.lock_wait-wait in let v = wait.result.val in let shape = c.args.wk.now.shape in
    let told = subst (λ (z : Shape). TakenWait z v) c.requires.of.same_shape wait.ensures.taken in
    subst (λ (z : List Rec × ℕ). MayGiveWaitVal wait.new.pass.seat z.0 shape z.1 v) (λ i. (sym wait.ensures.trace i, sym wait.ensures.condition i))
    record {
      taken = v;
      held = refl;
      once = told.once;
      tasks = told.tasks;
      put_in = λ x has none. let no : true ≡ false = sym has ∙ none in cc;
      taken_out = λ x has none. let no : true ≡ false = sym has ∙ none in cc;
    }
