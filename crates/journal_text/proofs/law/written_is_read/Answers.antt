use Rattle.journal_text.proofs.TextBack.{read_back}
use Rattle.journal_text.proofs.law.written_is_read.Goals as goal

pub returns : goal.returns
returns c = read_back
