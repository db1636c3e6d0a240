use Rattle.std.proofs.Common.{◌∙◌, rules}
use Rattle.command_words.proofs.Following.{run_has_reading}
use Rattle.command_words.proofs.forms.have_reading.Goals as goal

pub returns-then-is_word : goal.returns-then-is_word
returns-then-is_word c =
    c.may_follow.ensures ∙ run_has_reading c.args.words.now c.in-Some.word.now c.in-Some.rest.now (search rules) (search rules)
