use Rattle.journal_text.proofs.FreeNumbers.{more_zeros}
use Rattle.journal_text.proofs.law.leading_zeros_are_free.Goals as goal

pub returns : goal.returns
returns c = more_zeros
