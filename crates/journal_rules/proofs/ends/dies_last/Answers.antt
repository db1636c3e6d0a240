use Rattle.std.proofs.Common.{refl}
use Rattle.journal_rules.proofs.Ending.{dies, died}
use Rattle.journal_rules.proofs.ends.dies_last.Goals as goal

pub returns-in-Some : goal.returns-in-Some
returns-in-Some c = λ j knows.
    let last = c.in-Some.ensures.highest j knows in
    let asked = c.is_end.ensures j knows in
    (λ yes. dies j c.args.t c.in-Some.m last (asked.0 yes), λ h. asked.1 (died j c.args.t c.in-Some.m last h))

pub returns-in-None : goal.returns-in-None
returns-in-None c = λ j knows. (λ z. absurd (cc), λ h. absurd (c.in-None.ensures.none j knows _ h.0 h.2 refl))
