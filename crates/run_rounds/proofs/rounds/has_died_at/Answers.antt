use Rattle.std.proofs.Common.{ℕ, List, subst}
use Rattle.std.specs.List.{Contains}
use Rattle.run_rounds.proofs.Keeping.{found_at}
use Rattle.run_rounds.proofs.rounds.has_died_at.Goals as goal

pub returns-then-has : goal.returns-then-has
returns-then-has g c true_is =
    found_at c.args.seats.now c.loop-seat.seat-index c.seat-item.result c.args.t c.loop-seat-test.true c.seat-item.is
    (subst (λ (ts : List ℕ). Contains ts c.args.t) c.as_slice.ensures.value (c.has.ensures c.if-has.true))
