use Rattle.std.proofs.Common.{◌+◌, ◌∙◌, subst, sym}
use Rattle.std.specs.List.{All}
use Rattle.word_table.proofs.Tokens.{firsts_idle}
use Rattle.word_table.specs.End.{IsIdle}
use Rattle.word_table.proofs.shape_tests.made_and_closed.Goals as goal

pub close-requires-clause-idle : goal.close-requires-clause-idle
close-requires-clause-idle g c κs live =
    let words = c.in_ok-words.words in let shape = c.args.shape.now in
    subst (All IsIdle) (sym (c.gather_all-gathered.ensures.tokens ∙ c.in_ok-words.ensures.tokens)) (firsts_idle words.name words.shape words.lasting (shape.cpus + shape.agents))
