use Rattle.run_cells.proofs.TellingLaws.{goes_again}
use Rattle.run_cells.specs.Telling.{list_of}
use Rattle.run_turns.proofs.turn.after_body.Goals as goal

pub returns-in_err-raise_some-2-clause-goes : goal.returns-in_err-raise_some-2-clause-goes
returns-in_err-raise_some-2-clause-goes g c =
    goes_again (list_of g.G.Gate.told c.args.gate.now) (list_of g.G.Gate.told c.raise_some.new.gate) (list_of g.G.Gate.told c.raise_some-2.new.gate)
    c.args.pass.now c.raise_some.new.pass c.raise_some-2.new.pass c.raise_some.ensures.goes c.raise_some-2.ensures.goes

pub returns-clause-goes : goal.returns-clause-goes
returns-clause-goes g c =
    goes_again (list_of g.G.Gate.told c.args.gate.now) (list_of g.G.Gate.told c.raise_some.new.gate) (list_of g.G.Gate.told c.go_on.new.gate)
    c.args.pass.now c.raise_some.new.pass c.go_on.new.pass c.raise_some.ensures.goes
    (goes_again (list_of g.G.Gate.told c.raise_some.new.gate) (list_of g.G.Gate.told c.raise_some-2.new.gate) (list_of g.G.Gate.told c.go_on.new.gate)
    c.raise_some.new.pass c.raise_some-2.new.pass c.go_on.new.pass c.raise_some-2.ensures.goes c.go_on.ensures.goes)
