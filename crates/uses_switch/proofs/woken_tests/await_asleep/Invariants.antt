use Rattle.std.specs.Prelude.{◌≡◌, None}
use Rattle.task_words.specs.Views.{IsSame}
use Rattle.uses_switch.proofs.woken_tests.await_asleep.Given as goal
use Rattle.uses_switch.specs.Looks.{HasLooked}
use Rattle.word_steps.specs.Folds.{current_task}

abbrev pub invariant-loop : goal.invariant-loop
invariant-loop g l = record {
  same : IsSame l.initial.pass l.pass;
  idle : current_task l.pass.seat l.pass.trace ≡ None;
  looked : HasLooked l.initial.pass.trace l.pass.trace;
}
