use Rattle.bench_steps.proofs.step.repeat.Given as goal
use Rattle.task_words.specs.Seats.{HoldsNothing}
use Rattle.task_words.specs.Views.{IsSame}

abbrev pub invariant-loop : goal.invariant-loop
invariant-loop g l = record { same : IsSame l.initial.pass l.pass; nothing : HoldsNothing l.pass.trace }
