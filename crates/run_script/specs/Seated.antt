-- The seats of a run, and what they come from and go to.
use Rattle.std.specs.Prelude.{◌≡◌, ◌<◌, ◌≤◌, ◌++◌, ℕ, List, [], ◌∷◌, Option, Some, None, is_some, slice_get}
use Rattle.std.specs.List.{All}
use Rattle.std.specs.Option.{option_to_list}
use Rattle.std.specs.Vec.{vec_capacity}
use Rattle.handoff_data.specs.declared.entry.Entry.{Entry}
use Rattle.run_cells.specs.Telling.{list_of}
use Rattle.run_rounds.specs.Seats.{Gates, IsIdle, HasDiedAt}
use Rattle.run_rounds.specs.declared.seat.Seat.{Seat}
use Rattle.run_rounds.specs.declared.seat.Worker.{Worker}
use Rattle.task_words.specs.Views.{PassView}

module _ {G : Type 0} where
  abbrev pub seats_of : Worker G → List (Seat G)
  seats_of worker = worker.seats.items

  -- a worker with room for so many seats
  abbrev pub HasRoom : ℕ → Worker G → Type 0
  HasRoom room worker = room ≤ vec_capacity worker.seats

  abbrev pub pass_of : Seat G → PassView
  pass_of seat = seat.pass

  -- the gates of these seats
  abbrev pub gates_in : List (Seat G) → List G
  gates_in [] = []
  gates_in (seat ∷ seats) = option_to_list seat.gate ++ gates_in seats

  -- the seats are those of these passes, in their order, with these gates as far as there are any, and nobody has died
  -- there
  abbrev pub AreSeated : List PassView → List G → List (Seat G) → Type 0
  AreSeated [] gates [] = Unit {0}
  AreSeated [] gates (seat ∷ seats) = ⊥
  AreSeated (pass ∷ passes) gates [] = ⊥
  AreSeated (pass ∷ passes) [] (seat ∷ seats) =
      (seat.pass ≡ pass) × (seat.gate ≡ None) × (seat.dead.items ≡ []) × AreSeated passes [] seats
  AreSeated (pass ∷ passes) (gate ∷ gates) (seat ∷ seats) =
      (seat.pass ≡ pass) × (seat.gate ≡ Some gate) × (seat.dead.items ≡ []) × AreSeated passes gates seats

  -- each of so many tasks has died at one of these seats, and none has a current task
  pub record AreOver (tasks : ℕ) (seats : List (Seat G)) : Type 0 where
    pub dead : (t : ℕ) → t < tasks → HasDiedAt seats t
    pub idle : All IsIdle seats

-- the gates that are left once so many passes have taken theirs
abbrev pub gates_left : {G : Type 0} → List PassView → List G → List G
gates_left [] gates = gates
gates_left (pass ∷ passes) [] = []
gates_left (pass ∷ passes) (gate ∷ gates) = gates_left passes gates

-- by the number of a seat, whether there is a gate for it, and what that has told
abbrev pub gates_by : {G : Type 0} → (G → Option (List Entry)) → List G → Gates
gates_by told gates = record {
  there = λ s. is_some (slice_get gates s);
  list = λ s. list_of told (slice_get gates s);
}
