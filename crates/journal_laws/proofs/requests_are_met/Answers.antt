-- A request that is done was met.
use Rattle.journal_laws.proofs.RequestLaws.{done-met}
use Rattle.journal_laws.proofs.requests_are_met.Goals as goal

pub returns : goal.returns
returns c = done-met
