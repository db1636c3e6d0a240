use Rattle.std.proofs.Common.{◌≡◌, ◌∙◌, arith, ap, sym, List}
use Rattle.std.specs.Prelude.{IsPermutation}
use Rattle.std.proofs.lemmas.Option.{slice_get_within, slice_get_read}
use Rattle.std.proofs.Common.{◌<◌, ◌≡◌, length, refl}
use Rattle.std.proofs.Common.{Some}
use Rattle.std.specs.Prelude.{slice_get}
use Rattle.handoff_data.specs.declared.entry.Entry.{Entry}
use Rattle.std.proofs.lemmas.List.Sorted.{Contains-permutation, IsPermutation-sym}
use Rattle.journal_facts.proofs.Growth.{joined_first, next_journal}
use Rattle.journal_facts.proofs.members.members_of.Goals as goal

pub loop-journal-init : goal.loop-journal-init
loop-journal-init c = λ f. (λ h. absurd (omega (arith, h.1)), λ b. absurd (omega (arith, b.below)))

pub loop-journal-preserved : goal.loop-journal-preserved
loop-journal-preserved c = λ f.
    let seats = c.args.seats.now in
    let i = c.loop-journal.journal-index in
    let journal : List Entry = c.as_slice.result.now in
    let at : slice_get seats i ≡ Some c.journal-item.result = slice_get_read seats (length seats) i c.journal-item.result refl c.loop-journal-test.true c.journal-item.is in
    let same : journal ≡ c.journal-item.result = c.as_slice.ensures in
    joined_first (c.in_ok-push_masks.ensures f) (c.loop-journal.invariant f) (next_journal seats i journal f (at ∙ ap (λ (x : List Entry). Some x) (sym same)))

pub returns : goal.returns
returns c =
    let old = c.loop-journal.members.items in
    let new = c.sorted.result in
    let perm : IsPermutation old new = c.sorted.ensures in
    let seats = c.args.seats.now in
    record {
      told = λ f. (
        λ has. let b = (c.loop-journal.invariant f).0 (Contains-permutation new old f (IsPermutation-sym old new perm) has) in
            record { seat = b.seat; journal = b.journal; in_journals = b.at; has = b.has },
        λ m. Contains-permutation old new f perm ((c.loop-journal.invariant f).1 (
            let inside : m.seat < length seats = slice_get_within _ _ _ m.in_journals in
            record { seat = m.seat; below = omega arith; journal = m.journal; at = m.in_journals; has = m.has })),
      );
    }
