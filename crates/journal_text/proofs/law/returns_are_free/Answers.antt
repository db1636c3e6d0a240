use Rattle.journal_text.proofs.FreeLines.{more_returns}
use Rattle.journal_text.proofs.law.returns_are_free.Goals as goal

pub returns : goal.returns
returns c = more_returns
