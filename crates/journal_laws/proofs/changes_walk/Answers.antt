-- The changes of each task walk.
use Rattle.journal_laws.proofs.ChangeLaws.{changes-walk}
use Rattle.journal_laws.proofs.changes_walk.Goals as goal

pub returns : goal.returns
returns c = changes-walk
