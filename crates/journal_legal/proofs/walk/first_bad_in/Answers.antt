-- Where an entry keeps all rules, all before the next one do.
use Rattle.std.proofs.Common.{ℕ, ◌<◌, length, arith, subst}
use Rattle.std.proofs.lemmas.Option.{slice_get-get_or}
use Rattle.journal_legal.specs.Judging.{EarlierKeepAll}
use Rattle.journal_legal.proofs.Earlier.{earlier_next, earlier_seat, stands-at}
use Rattle.journal_legal.proofs.walk.first_bad_in.Goals as goal

pub loop-i-preserved : goal.loop-i-preserved
loop-i-preserved c = record {
  at = c.in_default.ensures.next;
  earlier = earlier_next c.args.journals.now c.args.seat c.loop-i.i _ c.loop-i.invariant.earlier
      (stands-at c.args.journals.now c.args.seat c.loop-i.i c.args.entries.now _ c.requires.journal (slice_get-get_or c.args.entries.now c.loop-i.i _ (omega arith)))
      c.in_default.ensures.kept;
}

pub returns-clause-none : goal.returns-clause-none
returns-clause-none c =
    earlier_seat c.args.journals.now c.args.seat c.args.entries.now c.requires.journal
    (subst (λ (n : ℕ). EarlierKeepAll c.args.journals.now c.args.seat n) (omega arith) c.loop-i.invariant.earlier)
