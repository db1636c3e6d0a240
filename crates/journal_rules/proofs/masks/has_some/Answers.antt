use Rattle.std.proofs.Common.{refl}
use Rattle.journal_rules.proofs.masks.has_some.Goals as goal

pub returns-in-None : goal.returns-in-None
returns-in-None c = (λ z. absurd (cc), λ h. absurd (c.in-None.ensures.none.0 refl h.0 h.1))
