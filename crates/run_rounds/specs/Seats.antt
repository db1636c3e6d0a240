-- What a run keeps of its seats.
use Rattle.std.specs.Prelude.{◌≡◌, ◌<◌, ◌++◌, ◌∷◌, [], ℕ, Bool, true, false, List, Option, None}
use Rattle.std.specs.Prelude.{map, length, slice_index_or, is_some}
use Rattle.std.specs.List.{All, Contains}
use Rattle.handoff_data.specs.declared.entry.Entry.{Entry}
use Rattle.handoff_data.specs.declared.shape.Shape.{Shape}
use Rattle.pipe_bodies.specs.declared.verdict.Then.{Then}
use Rattle.pipe_bodies.specs.declared.verdict.Then.TheVariants as verdict
use Rattle.run_cells.specs.Telling.{IsTold, list_of}
use Rattle.run_cells.specs.declared.net_map.Inputs.{Inputs}
use Rattle.run_turns.specs.Deaths.{HasDied}
use Rattle.run_turns.specs.Standing.{IsAtRest}
use Rattle.run_turns.specs.Turns.{DidTurn}
use Rattle.run_turns.specs.declared.turn.Turned.{Turned}
use Rattle.run_turns.specs.declared.turn.Turned.TheVariants as turned
use Rattle.run_rounds.specs.declared.seat.Seat.{Seat}
use Rattle.run_rounds.specs.declared.seat.Worker.{Worker}
use Rattle.task_words.specs.Views.{IsOf, IsOneSeat}
use Rattle.word_steps.specs.Folds.{current_task}
use Rattle.word_table.specs.Views.{WordsView}

-- whether a task ran in a turn
abbrev pub has_run : Turned → Bool
has_run turned.Idle = false
has_run (turned.Ran t v) = true

-- the list of the dead after a turn: a task whose body put out its end is on it
abbrev pub dead_when : Then → ℕ → List ℕ → List ℕ
dead_when verdict.Exit t dead = dead ++ t ∷ []
dead_when then t dead = dead

abbrev pub dead_after : Turned → List ℕ → List ℕ
dead_after turned.Idle dead = dead
dead_after (turned.Ran t v) dead = dead_when v.then t dead

-- by the seat's number, whether it has a gate, and what that had told before the run
pub record Gates : Type 0 where
  pub there : ℕ → Bool
  pub list : ℕ → Option (List Entry)

module _ {G : Type 0} where
  abbrev pub number_of : Seat G → ℕ
  number_of seat = seat.pass.seat

  -- the pass is that of a processor of this table, and rests
  pub record IsReady (wk : WordsView) (seat : Seat G) : Type 0 where
    pub of : IsOf wk seat.pass
    pub processor : seat.pass.seat < wk.shape.cpus
    pub rest : IsAtRest seat.pass

  -- the seat has no current task
  abbrev pub IsIdle : Seat G → Type 0
  IsIdle seat = current_task seat.pass.seat seat.pass.trace ≡ None

  -- the seat had a turn, and who died in it is on the list of the dead
  pub record HasTurned (shape : Shape) (net : List Inputs) (ran : Bool) (old new : Seat G) : Type 0 where
    pub answer : Turned
    pub did : DidTurn shape net answer old.pass new.pass
    pub is_ran : ran ≡ has_run answer
    pub dead : new.dead.items ≡ dead_after answer old.dead.items

  -- t is on the list of the dead of one of these seats, of one of these workers
  pub record HasDiedAt (seats : List (Seat G)) (t : ℕ) : Type 0 where
    pub seat : Seat G
    pub within : Contains seats seat
    pub dead : Contains seat.dead.items t

  pub record HasDiedSomewhere (workers : List (Worker G)) (t : ℕ) : Type 0 where
    pub worker : Worker G
    pub within : Contains workers worker
    pub at : HasDiedAt worker.seats.items t

  -- each of so many tasks is on such a list, and no seat has a current task
  pub record IsOver (tasks : ℕ) (workers : List (Worker G)) : Type 0 where
    pub dead : (t : ℕ) → t < tasks → HasDiedSomewhere workers t
    pub idle : All (λ w. All IsIdle w.seats.items) workers

module _ {G : Type 0} (told : G → Option (List Entry)) where
  -- the seat has the gate that it had, which was told what the seat has told; and each task on the list of the dead has
  -- died there
  pub record IsKept (gates : Gates) (seat : Seat G) : Type 0 where
    pub there : is_some seat.gate ≡ gates.there seat.pass.seat
    pub telling : IsTold (gates.list seat.pass.seat) (list_of told seat.gate) seat.pass
    pub died : All (HasDied seat.pass.told) seat.dead.items

  -- a seat after some turns
  pub record Goes (old new : Seat G) : Type 0 where
    pub same : IsOneSeat old.pass new.pass
    pub kept : (gates : Gates) → IsKept gates old → IsKept gates new

  -- the seats of a worker after some turns
  pub record GoOn (old new : List (Seat G)) : Type 0 where
    pub numbers : map number_of new ≡ map number_of old
    pub kept : (gates : Gates) → All (IsKept gates) old → All (IsKept gates) new

  -- .. of each worker
  abbrev pub AllGoOn : List (Worker G) → List (Worker G) → Type 0
  AllGoOn old new =
      (i : ℕ) (d e : Worker G) → i < length old
      → GoOn (slice_index_or old i d).seats.items (slice_index_or new i e).seats.items
