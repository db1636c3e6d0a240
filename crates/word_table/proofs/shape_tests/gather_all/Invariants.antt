use Rattle.std.proofs.Common.{◌≡◌, ◌++◌}
use Rattle.std.specs.Vec.{vec_len}
use Rattle.word_table.specs.Gathered.{IsGatheredOf}
use Rattle.word_table.specs.Ruled.{Each}
use Rattle.word_table.specs.Views.{IsOf}
use Rattle.word_table.proofs.shape_tests.gather_all.Given as goal

abbrev pub invariant-loop-token : goal.invariant-loop-token
invariant-loop-token g l = record {
  of : Each (IsOf l.words) l.tokens.items;
  gathered : IsGatheredOf l.words l.gathered;
  done : l.tokens.items ++ l.gathered.tokens ≡ l.fn.tokens.items;
}

abbrev pub decreases-loop-token : goal.decreases-loop-token
decreases-loop-token g l = vec_len l.tokens
