use Rattle.journal_text.proofs.Refusals.{refused_final}
use Rattle.journal_text.proofs.law.refused_lines_are_final.Goals as goal

pub returns : goal.returns
returns c = refused_final
