use Rattle.journal_text.proofs.FreeBlanks.{more_blanks}
use Rattle.journal_text.proofs.law.blanks_are_free.Goals as goal

pub returns : goal.returns
returns c = more_blanks
