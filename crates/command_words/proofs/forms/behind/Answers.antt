use Rattle.command_words.proofs.Spelling.{stripped}
use Rattle.command_words.proofs.forms.behind.Goals as goal

pub returns : goal.returns
returns c = stripped c.args.front.now c.args.text.now c.strip_prefix.result c.strip_prefix.ensures.cases
