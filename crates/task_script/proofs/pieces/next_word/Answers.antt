use Rattle.std.proofs.Common.{sym}
use Rattle.task_script.proofs.LineLaws.{no_words, word_found, last_word}
use Rattle.task_script.proofs.pieces.next_word.Goals as goal

pub returns-then-is_empty-clause-words : goal.returns-then-is_empty-clause-words
returns-then-is_empty-clause-words c = no_words c.args.line.now c.skip_blanks-line.result.now c.skip_blanks-line.ensures.value (sym c.if-is_empty.ensures)

pub returns-in-Some-clause-words : goal.returns-in-Some-clause-words
returns-in-Some-clause-words c =
    word_found c.args.line.now c.skip_blanks-line.result.now c.in-Some.end c.skip_blanks-line.ensures.value (sym c.if-is_empty.ensures) c.in-Some.ensures.0 c.in-Some.ensures.1

pub returns-in-None-clause-words : goal.returns-in-None-clause-words
returns-in-None-clause-words c =
    last_word c.args.line.now c.skip_blanks-line.result.now c.skip_blanks-line.ensures.value (sym c.if-is_empty.ensures) c.in-None.ensures
