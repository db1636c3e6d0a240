-- The runs of each task alternate.
use Rattle.journal_laws.proofs.RunLaws.{runs-alternate}
use Rattle.journal_laws.proofs.runs_alternate.Goals as goal

pub returns : goal.returns
returns c = runs-alternate
