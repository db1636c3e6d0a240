use Rattle.std.specs.Prelude.{◌≡◌}
use Rattle.bench_steps.proofs.placing.repeat_placing.Given as goal
use Rattle.bench_steps.specs.Placing.{IsPlacing}
use Rattle.task_words.specs.Views.{IsSame}
use Rattle.word_steps.specs.Folds.{current_task}

abbrev pub invariant-loop : goal.invariant-loop
invariant-loop g l = record {
  same : IsSame l.initial.pass l.pass;
  placing : IsPlacing l.task.task l.c l.task.val l.pass.trace;
  current : current_task l.pass.seat l.pass.trace ≡ current_task l.initial.pass.seat l.initial.pass.trace;
}
