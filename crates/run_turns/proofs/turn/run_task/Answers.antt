use Rattle.run_cells.proofs.TellingLaws.{goes_call, goes_then}
use Rattle.run_cells.specs.Telling.{list_of}
use Rattle.run_turns.proofs.RestLaws.{same_again}
use Rattle.run_turns.proofs.turn.run_task.Goals as goal

pub returns-in_err-verdict-clause-goes : goal.returns-in_err-verdict-clause-goes
returns-in_err-verdict-clause-goes g c =
    goes_call (list_of g.G.Gate.told c.args.gate.now) c.args.pass.now c.run_body-turned.new.pass
    (same_again c.args.pass.now c.leave_cond.new.pass c.run_body-turned.new.pass c.leave_cond.ensures.same
    (same_again c.leave_cond.new.pass c.load_values-values.new.pass c.run_body-turned.new.pass c.load_values-values.ensures.same c.run_body-turned.ensures.same)).same

pub returns-in_err-after_body-clause-goes : goal.returns-in_err-after_body-clause-goes
returns-in_err-after_body-clause-goes g c =
    goes_then (list_of g.G.Gate.told c.args.gate.now) (list_of g.G.Gate.told c.after_body.new.gate) c.args.pass.now c.run_body-turned.new.pass c.after_body.new.pass
    (same_again c.args.pass.now c.leave_cond.new.pass c.run_body-turned.new.pass c.leave_cond.ensures.same
    (same_again c.leave_cond.new.pass c.load_values-values.new.pass c.run_body-turned.new.pass c.load_values-values.ensures.same c.run_body-turned.ensures.same)).same
    c.after_body.ensures.goes

pub returns-clause-goes : goal.returns-clause-goes
returns-clause-goes g c =
    goes_then (list_of g.G.Gate.told c.args.gate.now) (list_of g.G.Gate.told c.after_body.new.gate) c.args.pass.now c.run_body-turned.new.pass c.after_body.new.pass
    (same_again c.args.pass.now c.leave_cond.new.pass c.run_body-turned.new.pass c.leave_cond.ensures.same
    (same_again c.leave_cond.new.pass c.load_values-values.new.pass c.run_body-turned.new.pass c.load_values-values.ensures.same c.run_body-turned.ensures.same)).same
    c.after_body.ensures.goes

pub returns-clause-did : goal.returns-clause-did
returns-clause-did g c = record {
  left = c.leave_cond.new.pass;
  loaded = c.load_values-values.new.pass;
  turned = c.run_body-turned.new.pass;
  values = c.load_values-values.result;
  leaves = c.leave_cond.ensures.did;
  loads = c.load_values-values.ensures.trace;
  had = c.run_body-turned.ensures.did;
  after = c.in_ok-after_body.ensures.did;
}
