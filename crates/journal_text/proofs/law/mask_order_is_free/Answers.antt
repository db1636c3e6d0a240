use Rattle.journal_text.proofs.FreeNumbers.{other_order}
use Rattle.journal_text.proofs.law.mask_order_is_free.Goals as goal

pub returns : goal.returns
returns c = other_order
