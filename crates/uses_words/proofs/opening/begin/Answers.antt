use Rattle.std.proofs.Common.{◌+◌}
use Rattle.uses_words.proofs.FirstPasses.{ok_firsts}
use Rattle.uses_words.proofs.opening.begin.Goals as goal

pub returns-clause-between : goal.returns-clause-between
returns-clause-between g c =
    ok_firsts c.new.result (λ r. r.1.items) (λ r. r.0.name) (λ r. r.0.shape) (λ r. r.0.lasting) (c.args.cpus + 0) c.new.ensures.passes
