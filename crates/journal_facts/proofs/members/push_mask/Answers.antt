use Rattle.std.proofs.Common.{◌<◌, arith, inl, inr}
use Rattle.journal_facts.proofs.Growth.{joined, next_cpu}
use Rattle.journal_facts.proofs.members.push_mask.Goals as goal

pub loop-cpu-init : goal.loop-cpu-init
loop-cpu-init c = λ f. (λ h. inl h, λ h. elim h [ inl old ↦ old | inr b ↦ absurd (omega (arith, b.below)) ])

pub loop-cpu-preserved : goal.loop-cpu-preserved
loop-cpu-preserved c = λ f. joined (c.in_ok-push_cpu.ensures f) (c.loop-cpu.invariant f) (next_cpu c.args.t c.args.r c.args.mask c.loop-cpu.cpu f)

pub returns : goal.returns
returns c = λ f. (
  λ h. elim ((c.loop-cpu.invariant f).0 h) [ inl old ↦ inl old | inr b ↦ inr (record { cpu = b.cpu; has = b.has; is = b.is }) ],
  λ h. (c.loop-cpu.invariant f).1 (elim h [
    | inl old ↦ inl old
    | inr m ↦ let small : m.cpu < c.limit-cpu-end.result = c.limit-cpu-end.ensures m.cpu m.has in
        inr (record { cpu = m.cpu; below = omega arith; has = m.has; is = m.is })
  ]),
)
