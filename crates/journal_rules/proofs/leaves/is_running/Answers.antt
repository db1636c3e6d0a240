use Rattle.std.proofs.Common.{refl}
use Rattle.journal_rules.proofs.Rising.{picks, picked}
use Rattle.journal_rules.proofs.leaves.is_running.Goals as goal

pub returns-in-Some : goal.returns-in-Some
returns-in-Some c =
    let last = c.in-Some.ensures.last in (
      λ yes. let p = c.is_pick.ensures.0 yes in picks c.args.journals.now c.args.seat c.args.index c.args.t c.in-Some.last last p.0 p.1 p.2 p.3,
      λ h. let p = picked c.args.journals.now c.args.seat c.args.index c.args.t c.in-Some.last last h in c.is_pick.ensures.1 (c.args.t, p.0, p.1, p.2),
    )

pub returns-in-None : goal.returns-in-None
returns-in-None c = (λ z. absurd (cc), λ h. absurd (c.in-None.ensures.none h.0 h.1 _ h.3 h.4 refl))
