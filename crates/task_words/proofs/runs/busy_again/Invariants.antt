use Rattle.task_words.proofs.Tokens.{IsStill}
use Rattle.task_words.proofs.runs.busy_again.Given as goal

abbrev pub invariant-loop : goal.invariant-loop
invariant-loop g l = IsStill l.initial.token l.token
