use Rattle.run_rounds.proofs.Keeping.{goes_noted}
use Rattle.run_rounds.proofs.seat.turn.Goals as goal

pub returns-clause-goes : goal.returns-clause-goes
returns-clause-goes g c =
    goes_noted g.G.Gate.told c.args.seat.now (record { pass = c.cpu_turn.new.pass; gate = c.cpu_turn.new.gate; dead = c.note.new.dead }) c.in_ok-turned.turned
    c.cpu_turn.ensures.there c.in_ok-ran.ensures.dead c.cpu_turn.ensures.goes c.in_ok-turned.ensures.died
