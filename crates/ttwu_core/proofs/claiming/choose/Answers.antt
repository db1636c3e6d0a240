use Rattle.std.proofs.Common.{arith}
use Rattle.std.proofs.lemmas.Grind.{common_steps}
use Rattle.ttwu_core.proofs.claiming.choose.Goals as goal

pub fallback-requires-clause-first_active : goal.fallback-requires-clause-first_active
fallback-requires-clause-first_active g c = grind (arith, common_steps, c.all-all.ensures 0, c.shape.ensures.shape, c.shape.ensures.valid.some_cpu)
