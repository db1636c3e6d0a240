use Rattle.journal_text.proofs.OneFreedom.{one_freedom}
use Rattle.journal_text.proofs.law.freedoms_change_nothing.Goals as goal

pub returns : goal.returns
returns c = one_freedom
