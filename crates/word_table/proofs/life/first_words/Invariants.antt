use Rattle.std.proofs.Common.{◌≡◌, ◌*◌, length}
use Rattle.word_steps.specs.Words.{STRIDE, words_of}
use Rattle.word_table.specs.Begin.{words_with}
use Rattle.word_table.proofs.life.first_words.Given as goal

abbrev pub invariant-loop-t : goal.invariant-loop-t
invariant-loop-t l = record {
  words : words_of l.words.items ≡ words_with l.t 0;
  long : length
      l.words.items ≡ STRIDE * l.rows;
}

abbrev pub invariant-loop-c : goal.invariant-loop-c
invariant-loop-c l = record {
  words : words_of l.words.items ≡ words_with l.shape.tasks l.c;
  long : length
      l.words.items ≡ STRIDE * l.rows;
}
