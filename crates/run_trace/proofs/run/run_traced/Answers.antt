use Rattle.std.proofs.Common.{◌∙◌, sym}
use Rattle.run_trace.proofs.Homes.{traced_journals}
use Rattle.run_trace.proofs.run.run_traced.Goals as goal

pub returns-clause-told : goal.returns-clause-told
returns-clause-told g c =
    traced_journals g.G.Gate.told c.args.script.now c.args.gates.now.items c.run_around.new.gates.items c.in_ok-lines.ensures.told.0
    c.in_ok-journals_of.field-0.items (c.in_ok-lines.ensures.told.1 ∙ sym c.in_ok-journals_of.ensures)
