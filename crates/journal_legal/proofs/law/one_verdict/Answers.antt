-- Journals have one verdict.
use Rattle.journal_legal.proofs.VerdictLaws.{one-verdict}
use Rattle.journal_legal.proofs.law.one_verdict.Goals as goal

pub returns : goal.returns
returns c = one-verdict
