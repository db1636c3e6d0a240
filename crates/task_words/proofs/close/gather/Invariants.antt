use Rattle.std.proofs.Common.{◌≡◌, ◌++◌, map}
use Rattle.std.specs.Vec.{vec_len}
use Rattle.task_words.specs.Closing.{token_of}
use Rattle.task_words.specs.Views.{IsOf}
use Rattle.word_table.specs.Gathered.{IsGatheredOf}
use Rattle.word_table.specs.Ruled.{Each}
use Rattle.task_words.proofs.close.gather.Given as goal

abbrev pub invariant-loop-pass : goal.invariant-loop-pass
invariant-loop-pass g l = record {
  of : Each (IsOf l.words) l.passes.items;
  gathered : IsGatheredOf l.words l.gathered;
  done : map token_of l.passes.items ++ l.gathered.tokens ≡ map token_of l.fn.passes.items;
}

abbrev pub decreases-loop-pass : goal.decreases-loop-pass
decreases-loop-pass g l = vec_len l.passes
