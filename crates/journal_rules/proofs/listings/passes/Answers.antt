use Rattle.std.proofs.Common.{subst, Option}
use Rattle.journal_rules.proofs.Words.{both}
use Rattle.journal_rules.specs.declared.marks.Mark.{Mark}
use Rattle.journal_rules.specs.Marks.{IsMarkOf, IsTakenFrom}
use Rattle.journal_rules.proofs.Marking.{mark_passes}
use Rattle.journal_rules.proofs.listings.passes.Goals as goal

pub returns-in-Some : goal.returns-in-Some
returns-in-Some c = λ j here waker is.
    let P = IsTakenFrom j c.args.seat here waker in
    both c.is_behind.ensures (mark_passes P c.args.seat c.args.index c.in-Some.last (subst (λ (x : Option Mark). IsMarkOf P c.args.seat x) c.in-Some.is is))

pub returns-in-None : goal.returns-in-None
returns-in-None c = λ j here waker is.
    let P = IsTakenFrom j c.args.seat here waker in
    let none = subst (λ (x : Option Mark). IsMarkOf P c.args.seat x) c.in-None.is is in
    (λ z. absurd (cc), λ h. absurd (none h.0 h.2))
