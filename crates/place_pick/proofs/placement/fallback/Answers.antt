use Rattle.std.proofs.Common.{arith, IsNone}
use Rattle.std.proofs.lemmas.Grind.{common_steps}
use Rattle.place_pick.proofs.placement.fallback.Goals as goal

-- processor 0 is active, so there is a lowest one
pub unwrap-requires : goal.unwrap-requires
unwrap-requires c = let some : ¬ IsNone c.lowest.result = λ none. c.lowest.ensures.none.0 none 0 c.requires.first_active in grind (arith, common_steps)
