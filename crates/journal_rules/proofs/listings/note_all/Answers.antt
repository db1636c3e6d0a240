use Rattle.std.proofs.Common.{◌+◌, ◌⊎◌, ℕ, length}
use Rattle.journal_rules.specs.Marks.{IsTakenFrom}
use Rattle.journal_rules.proofs.Marking.{none_below, one_more, all_below, marks_ext, raise, inside, IsPlaceBelow}
use Rattle.journal_rules.proofs.listings.note_all.Goals as goal

pub loop-listing-init : goal.loop-listing-init
loop-listing-init c = λ j here are.
    let T = IsTakenFrom j c.args.seat here in
    marks_ext T (λ (w k : ℕ). T w k ⊎ IsPlaceBelow c.args.listings.now 0 w k) (length j.seats) c.args.seat c.args.marks.now (none_below T c.args.listings.now) are

pub slice_copy_out-raised : goal.slice_copy_out-raised
slice_copy_out-raised c =
    inside c.args.listings.now (length c.args.marks.now) (length c.loop-listing.marks) c.loop-listing.listing-index _ c.requires c.loop-listing-test.true c.loop-listing.auto.marks

pub bounds-marks-waker : goal.bounds-marks-waker
bounds-marks-waker c =
    inside c.args.listings.now (length c.args.marks.now) (length c.loop-listing.marks) c.loop-listing.listing-index _ c.requires c.loop-listing-test.true c.loop-listing.auto.marks

pub loop-listing-preserved : goal.loop-listing-preserved
loop-listing-preserved c = λ j here are.
    let T = IsTakenFrom j c.args.seat here in
    let xs = c.args.listings.now in
    let i = c.loop-listing.listing-index in
    marks_ext _ (λ (w k : ℕ). T w k ⊎ IsPlaceBelow xs (i + 1) w k) (length j.seats) c.args.seat _ (one_more T xs i _ c.loop-listing-test.true)
    (raise (λ (w k : ℕ). T w k ⊎ IsPlaceBelow xs i w k) (length j.seats) c.args.seat c.loop-listing.marks _ _ _ c.raised.result
    (c.loop-listing.invariant j here are)
    (inside xs (length c.args.marks.now) (length c.loop-listing.marks) i _ c.requires c.loop-listing-test.true c.loop-listing.auto.marks) c.raised.ensures)

pub returns : goal.returns
returns c = λ j here are.
    let T = IsTakenFrom j c.args.seat here in
    let xs = c.args.listings.now in
    let i = c.loop-listing.listing-index in
    marks_ext (λ (w k : ℕ). T w k ⊎ IsPlaceBelow xs i w k) _ (length j.seats) c.args.seat c.loop-listing.marks (all_below T xs i c.loop-listing-test.false)
    (c.loop-listing.invariant j here are)
