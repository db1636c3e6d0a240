use Rattle.task_words.specs.Views.{IsSame}
use Rattle.task_words.specs.Waited.{IsLoaded}
use Rattle.task_words.proofs.waits.wait_clear.Given as goal

abbrev pub invariant-loop : goal.invariant-loop
invariant-loop g l = IsSame l.initial.pass l.pass × IsLoaded l.initial.pass.seat l.initial.pass.trace l.pass.trace
