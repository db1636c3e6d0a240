use Rattle.journal_text.proofs.FreeLines.{more_lines}
use Rattle.journal_text.proofs.law.blank_lines_are_free.Goals as goal

pub returns : goal.returns
returns c = more_lines
