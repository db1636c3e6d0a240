use Rattle.run_turns.proofs.Beginning.{popped, unpopped}
use Rattle.run_turns.proofs.tests.take_last.Goals as goal
use Rattle.run_turns.specs.Standing.{IsAtRest}
use Rattle.task_words.specs.Views.{PassView, IsOf}

pub returns-clause-of : goal.returns-clause-of
returns-clause-of g c =
    popped (λ (p : PassView). IsOf c.args.wk.now p) c.args.passes.now.items c.pop.new.self.items c.pop.result c.pop.ensures.items c.requires.of

pub returns-clause-rest : goal.returns-clause-rest
returns-clause-rest g c = popped IsAtRest c.args.passes.now.items c.pop.new.self.items c.pop.result c.pop.ensures.items c.requires.rest

pub returns-clause-of_others : goal.returns-clause-of_others
returns-clause-of_others g c =
    unpopped (λ (p : PassView). IsOf c.args.wk.now p) c.args.passes.now.items c.pop.new.self.items c.pop.result c.pop.ensures.items c.requires.of

pub returns-clause-rest_of_others : goal.returns-clause-rest_of_others
returns-clause-rest_of_others g c =
    unpopped IsAtRest c.args.passes.now.items c.pop.new.self.items c.pop.result c.pop.ensures.items c.requires.rest
