-- What is asked of a list of facts.
use Rattle.std.specs.Prelude.{◌≡◌, ◌<◌, ◌≤◌, ℕ, List, Contains}
use Rattle.handoff_data.specs.Positions.{IsEarlier}
use Rattle.journal_facts.specs.declared.fact.Fact.{Fact}
use Rattle.journal_facts.specs.declared.fact.Kind.{Kind}
use Rattle.journal_facts.specs.Facts.{here_on}

-- the fact has this kind, subject and number
pub record HasFront (f : Fact) (kind : Kind) (subject number : ℕ) : Type 0 where
  pub kind_is : f.kind ≡ kind
  pub subject_is : f.subject ≡ subject
  pub number_is : f.number ≡ number

-- and this processor
pub record IsOn (f : Fact) (kind : Kind) (subject number cpu : ℕ) : Type 0 where
  pub front : HasFront f kind subject number
  pub cpu_is : f.cpu ≡ cpu

-- some fact of the kind has this subject and number
pub record Tells (facts : List Fact) (kind : Kind) (subject number : ℕ) : Type 0 where
  pub cpu : ℕ
  pub seat : ℕ
  pub index : ℕ
  pub told : Contains facts (here_on kind seat index subject number cpu)

-- and this processor
pub record TellsOn (facts : List Fact) (kind : Kind) (subject number cpu : ℕ) : Type 0 where
  pub seat : ℕ
  pub index : ℕ
  pub told : Contains facts (here_on kind seat index subject number cpu)

-- and this seat, with an index below this one
pub record TellsBefore (facts : List Fact) (kind : Kind) (subject number cpu seat index : ℕ) : Type 0 where
  pub before : ℕ
  pub below : before < index
  pub told : Contains facts (here_on kind seat before subject number cpu)

-- some fact of the kind has this subject and number, no processor, and an earlier position than this one
pub record TellsEarlier (facts : List Fact) (kind : Kind) (subject number seat index : ℕ) : Type 0 where
  pub seat' : ℕ
  pub index' : ℕ
  pub earlier : IsEarlier seat' index' seat index
  pub told : Contains facts (here_on kind seat' index' subject number 0)

-- some fact of the kind has this subject and at least this number
pub record TellsFrom (facts : List Fact) (kind : Kind) (subject number : ℕ) : Type 0 where
  pub number' : ℕ
  pub from : number ≤ number'
  pub cpu : ℕ
  pub seat : ℕ
  pub index : ℕ
  pub told : Contains facts (here_on kind seat index subject number' cpu)

-- of the facts of the kind with this subject, no number and no processor, the last of this seat below the index
pub record IsLastIndex (facts : List Fact) (kind : Kind) (subject seat index last : ℕ) : Type 0 where
  pub below : last < index
  pub told : Contains facts (here_on kind seat last subject 0 0)
  pub none_later : (k : ℕ) → last < k → k < index → ¬ Contains facts (here_on kind seat k subject 0 0)

-- of the facts of the kind with this subject, one with the highest number
pub record IsHighest (facts : List Fact) (kind : Kind) (subject : ℕ) (highest : Fact) : Type 0 where
  pub listed : Contains facts highest
  pub is : highest ≡ here_on kind highest.seat highest.index subject highest.number highest.cpu
  pub none_higher : (number cpu seat index : ℕ) → Contains facts (here_on kind seat index subject number cpu)
      → number ≤ highest.number
