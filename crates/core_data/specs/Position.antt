-- The position of a seat, as contracts see it.
use Rattle.std.specs.Prelude.{ℕ, ◌==◌, ◌&&◌, Bool, List, [], ◌∷◌, Option, Some, None}
use mathlib.Core.Bool.{not}
use Rattle.handoff_data.specs.declared.state.State.{State}
use Rattle.core_data.specs.Entries.{is_gone}
use Rattle.core_data.specs.declared.act.Act.{Act}
use Rattle.core_data.specs.declared.values.WaitEntry.{WaitEntry}
use Rattle.core_data.specs.declared.values.WorkItem.{WorkItem}
use Rattle.core_data.specs.declared.pos.TaskReads.{TaskReads}
use Rattle.core_data.specs.declared.pos.Test.{Test}
use Rattle.core_data.specs.declared.pos.Asleep.{Asleep}
use Rattle.core_data.specs.declared.pos.ActiveRead.{ActiveRead}
use Rattle.core_data.specs.declared.pos.CountRead.{CountRead}
use Rattle.core_data.specs.declared.pos.Due.{Due}
use Rattle.core_data.specs.declared.pos.Ticket.{Ticket}
use Rattle.core_data.specs.declared.pos.Completing.{Completing}
use Rattle.core_data.specs.declared.pos.PhaseRead.{PhaseRead}
use Rattle.core_data.specs.declared.pos.MarkRead.{MarkRead}
use Rattle.core_data.specs.declared.pos.PhaseTurns.{PhaseTurns}
use Rattle.core_data.specs.declared.pos.Served.{Served}

-- its fields are described at the struct `Pos`
pub record Position : Type 0 where
  pub to_clear : Option ℕ
  pub seen : Option State
  pub level_known : Option ℕ
  pub recent : List Act
  pub tests : List Test
  pub asleep : List Asleep
  pub reads : List TaskReads
  pub hand : List ℕ
  pub actives : List ActiveRead
  pub counts : List CountRead
  pub lowered : List ℕ
  pub given_up : List ℕ
  pub due : Option Due
  pub ticket : Option Ticket
  pub zeroed : List ℕ
  pub joined : List ℕ
  pub refs_zero : Bool
  pub completing : List Completing
  pub posted : List ℕ
  pub works_hand : List WorkItem
  pub phases : List PhaseRead
  pub unmarked : List MarkRead
  pub alive : List ℕ
  pub turns : List PhaseTurns
  pub served : Served

abbrev pub is_other_test : Test → Test → Bool
is_other_test test x = not ((x.t == test.t) && (x.k == test.k))

abbrev pub is_test_of_other : ℕ → Test → Bool
is_test_of_other t x = not (x.t == t)

abbrev pub is_sleep_of_other : ℕ → Asleep → Bool
is_sleep_of_other t x = not (x.t == t)

abbrev pub is_reads_of_other : ℕ → TaskReads → Bool
is_reads_of_other t x = not (x.t == t)

abbrev pub stays_asleep : ℕ → List WaitEntry → List WaitEntry → Asleep → Bool
stays_asleep k taken given x = not ((x.k == k) && is_gone taken given x.t)

abbrev pub newly_asleep : ℕ → Option ℕ → List Asleep
newly_asleep k None = []
newly_asleep k (Some t) = record { t = t; k = k } ∷ []
