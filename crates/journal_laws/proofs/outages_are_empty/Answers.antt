-- An outage leaves nothing listed.
use Rattle.journal_laws.proofs.OutageLaws.{outage-empty}
use Rattle.journal_laws.proofs.outages_are_empty.Goals as goal

pub returns : goal.returns
returns c = outage-empty
