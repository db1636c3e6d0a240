use Rattle.std.proofs.Common.{subst}
use Rattle.handoff_data.specs.declared.entry.Entry.{Entry}
use Rattle.journal_rules.specs.Turns.{IsTakenBefore}
use Rattle.journal_rules.proofs.Turning.{one_stands}
use Rattle.journal_rules.proofs.turns.is_done.Goals as goal

pub returns : goal.returns
returns c =
    let j = c.args.journals.now in
    let a = c.standing.result in
    let e = c.is_taken.ensures j c.requires.facts in (
      λ yes b there. subst (λ (x : Entry). IsTakenBefore j c.args.seat c.args.index x)
          (one_stands j c.args.due.seat c.args.due.index a b c.standing.ensures there) (e.0 yes),
      λ h. e.1 (h a c.standing.ensures),
    )
