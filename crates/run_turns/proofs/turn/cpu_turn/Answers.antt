use Rattle.std.proofs.Common.{rules}
use Rattle.run_cells.proofs.TellingLaws.{goes_again}
use Rattle.run_cells.specs.Telling.{list_of}
use Rattle.run_turns.proofs.NetLaws.{inputs_within}
use Rattle.run_turns.proofs.turn.cpu_turn.Goals as goal

pub run_task-requires-clause-inputs : goal.run_task-requires-clause-inputs
run_task-requires-clause-inputs g c κs within =
    inputs_within c.args.net.now c.args.wk.now.shape c.in-Running.t c.get-inputs.result c.requires.net (search rules) c.get-inputs.ensures

pub returns-in_err-verdict-in-Running-clause-goes : goal.returns-in_err-verdict-in-Running-clause-goes
returns-in_err-verdict-in-Running-clause-goes g c =
    goes_again (list_of g.G.Gate.told c.args.gate.now) (list_of g.G.Gate.told c.switch_told.new.gate) (list_of g.G.Gate.told c.run_task.new.gate)
    c.args.pass.now c.switch_told.new.pass c.run_task.new.pass c.switch_told.ensures.goes c.run_task.ensures.goes

pub returns-in_ok-verdict-in-Running-clause-goes : goal.returns-in_ok-verdict-in-Running-clause-goes
returns-in_ok-verdict-in-Running-clause-goes g c =
    goes_again (list_of g.G.Gate.told c.args.gate.now) (list_of g.G.Gate.told c.switch_told.new.gate) (list_of g.G.Gate.told c.run_task.new.gate)
    c.args.pass.now c.switch_told.new.pass c.run_task.new.pass c.switch_told.ensures.goes c.run_task.ensures.goes
