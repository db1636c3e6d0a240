use Rattle.std.proofs.Common.{arith}
use Rattle.journal_text.proofs.FieldLaws.{gap_end}
use Rattle.journal_text.proofs.fields.gap_length.Goals as goal

pub returns-then-not-blank-clause-value : goal.returns-then-not-blank-clause-value
returns-then-not-blank-clause-value c =
    gap_end c.args.bytes.now c.loop-i.i (omega arith) c.loop-i.invariant (λ _. grind arith)

pub returns-clause-value : goal.returns-clause-value
returns-clause-value c =
    gap_end c.args.bytes.now _ (omega arith) (λ k less. c.loop-i.invariant k (omega arith)) (λ less. absurd (omega arith))
