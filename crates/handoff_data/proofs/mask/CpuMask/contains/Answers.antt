use Rattle.std.specs.Int.{bit_at}
use Rattle.std.proofs.lemmas.Bool.Decides.{nat_tests}
use Rattle.std.proofs.lemmas.Nat.Bits.{bit_at_above}
use Rattle.std.proofs.Common.{◌≡◌, arith, ltb-true}
use Rattle.handoff_data.proofs.Bits.{none_above}
use Rattle.handoff_data.proofs.mask.CpuMask.contains.Goals as goal

pub returns-else-c-lt128-clause-member : goal.returns-else-c-lt128-clause-member
returns-else-c-lt128-clause-member c = (
  λ z. absurd (omega (arith, ltb-true c.args.c 128 z)),
  λ h. absurd (none_above c.args.self.now.bits c.args.c (omega arith) c.if-c-lt128.false h.bit),
)

pub returns-else-c-lt128-clause-value : goal.returns-else-c-lt128-clause-value
returns-else-c-lt128-clause-value c =
    let none : bit_at c.args.self.now.bits c.args.c ≡ 0 = bit_at_above c.args.self.now.bits 128 c.args.c (omega arith) c.if-c-lt128.false in
    rw none (grind (arith, nat_tests, c.if-c-lt128.false))
