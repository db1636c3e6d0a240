use Rattle.std.proofs.Common.{◌≡◌, [], All, map, replicate}
use Rattle.run_script.specs.Seated.{seats_of, HasRoom}
use Rattle.run_script.proofs.dealing.workers_of.Given as goal

abbrev pub invariant-loop : goal.invariant-loop
invariant-loop g l = record {
  none : map seats_of l.workers.items ≡ replicate l.counter [];
  room : All (HasRoom l.room) l.workers.items;
}
