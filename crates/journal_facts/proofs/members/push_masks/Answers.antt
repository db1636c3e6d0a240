use Rattle.std.proofs.Common.{arith, inl, inr}
use Rattle.std.proofs.Common.{◌<◌, length}
use Rattle.std.proofs.lemmas.Option.{slice_get-get_or, slice_get_within}
use Rattle.journal_facts.proofs.Growth.{joined, next_entry}
use Rattle.journal_facts.proofs.members.push_masks.Goals as goal

pub loop-entry-init : goal.loop-entry-init
loop-entry-init c = λ f. (λ h. inl h, λ h. elim h [ inl old ↦ old | inr b ↦ absurd (omega (arith, b.below)) ])

pub loop-entry-preserved : goal.loop-entry-preserved
loop-entry-preserved c = λ f.
    joined (c.in_ok-push_masked.ensures f) (c.loop-entry.invariant f) (next_entry c.args.entries.now c.loop-entry.entry-index _ f (slice_get-get_or _ _ _ c.loop-entry-test.true))

pub returns : goal.returns
returns c = λ f. (
  λ h. elim ((c.loop-entry.invariant f).0 h) [ inl old ↦ inl old | inr b ↦ inr (record { index = b.index; entry = b.entry; in_journal = b.at; has = b.has }) ],
  λ h. (c.loop-entry.invariant f).1 (elim h [
    | inl old ↦ inl old
    | inr m ↦ let inside : m.index < length c.args.entries.now = slice_get_within _ _ _ m.in_journal in
        inr (record { index = m.index; below = omega arith; entry = m.entry; at = m.in_journal; has = m.has })
  ]),
)
