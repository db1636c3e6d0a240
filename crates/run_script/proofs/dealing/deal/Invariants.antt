use Rattle.std.proofs.Common.{◌≡◌, All, length, map}
use Rattle.std.specs.Vec.{vec_capacity}
use Rattle.run_script.proofs.Rows.{IsPartOf}
use Rattle.run_script.specs.Seated.{seats_of, HasRoom}
use Rattle.run_script.proofs.dealing.deal.Given as goal

abbrev pub invariant-loop-seat : goal.invariant-loop-seat
invariant-loop-seat g l = record {
  part : IsPartOf (length l.initial.workers.items) l.initial.seats.items l.seats.items (map seats_of l.workers.items);
  room : All (HasRoom (length l.initial.seats.items)) l.workers.items;
  count : length l.workers.items ≡ length l.initial.workers.items;
  capacity : vec_capacity l.seats ≡ vec_capacity l.initial.seats;
}

abbrev pub decreases-loop-seat : goal.decreases-loop-seat
decreases-loop-seat g l = goal.left-loop-seat g l
