-- What the judge knows of the journals: their facts.
use Rattle.std.specs.Prelude.{◌↔◌, List, Contains}
use Rattle.handoff_data.specs.History.{History}
use Rattle.journal_facts.specs.declared.fact.Fact.{Fact}
use Rattle.journal_facts.specs.Facts.{IsTold}
use Rattle.journal_facts.specs.Members.{IsMember}

-- the facts are those that the entries tell
pub record KnowsFacts (j : History) (facts : List Fact) : Type 0 where
  pub told : (f : Fact) → Contains facts f ↔ IsTold j.seats f

-- the facts are the processors of all masks
pub record KnowsMembers (j : History) (members : List Fact) : Type 0 where
  pub told : (f : Fact) → Contains members f ↔ IsMember j.seats f
