use Rattle.std.proofs.Common.{arith}
use Rattle.handoff_data.proofs.Bits.{lowest_bit, none_lower}
use Rattle.handoff_data.proofs.mask.CpuMask.lowest.Goals as goal

pub returns-else-self-eq0-clause-none : goal.returns-else-self-eq0-clause-none
returns-else-self-eq0-clause-none c = (
  λ e. absurd (cc),
  λ none. absurd (none _ (record { bit = lowest_bit c.args.self.now.bits (omega arith) (omega arith) })),
)

pub returns-else-self-eq0-clause-member : goal.returns-else-self-eq0-clause-member
returns-else-self-eq0-clause-member c =
    record { bit = lowest_bit c.args.self.now.bits (omega arith) (omega arith) }

pub returns-else-self-eq0-clause-lowest : goal.returns-else-self-eq0-clause-lowest
returns-else-self-eq0-clause-lowest c = λ k h.
    none_lower c.args.self.now.bits k (omega arith) (omega arith) h.bit
