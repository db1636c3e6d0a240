use Rattle.std.proofs.Common.{◌≡◌, List, length, map}
use Rattle.std.specs.Vec.{vec_capacity}
use Rattle.run_rounds.specs.declared.seat.Seat.{Seat}
use Rattle.run_script.proofs.Rows.{IsPartOf}
use Rattle.run_script.specs.Dealt.{dealt}
use Rattle.run_script.specs.Seated.{seats_of}
use Rattle.run_script.proofs.dealing.gather.Given as goal

abbrev pub invariant-loop-s : goal.invariant-loop-s
invariant-loop-s g l = record {
  part : (all : List (Seat g.row.G.Denot)) → length all ≡ l.count
      → map seats_of l.initial.workers.items ≡ dealt (length l.initial.workers.items) 0 all
      → IsPartOf (length l.initial.workers.items) all l.seats.items (map seats_of l.workers.items);
  many : length l.seats.items ≡ l.s;
  count : length l.workers.items ≡ length l.initial.workers.items;
  capacity : vec_capacity l.seats ≡ vec_capacity l.initial.seats;
}
