use Rattle.std.proofs.Common.{List, subst}
use Rattle.run_rounds.proofs.Keeping.{found_somewhere}
use Rattle.run_rounds.proofs.rounds.has_died.Goals as goal
use Rattle.run_rounds.specs.Seats.{HasDiedAt}
use Rattle.run_rounds.specs.declared.seat.Seat.{Seat}

pub returns-then-has_died_at : goal.returns-then-has_died_at
returns-then-has_died_at g c true_is =
    found_somewhere c.args.workers.now c.loop-worker.worker-index c.worker-item.result c.args.t c.loop-worker-test.true c.worker-item.is
    (subst (λ (seats : List (Seat _)). HasDiedAt seats c.args.t) c.as_slice.ensures.value (c.has_died_at.ensures c.if-has_died_at.true))
