use Rattle.std.proofs.Common.{map}
use Rattle.wk_run.proofs.OutputLaws.{report_traced}
use Rattle.wk_run.proofs.command.traced_output.Goals as goal

pub returns-clause-output : goal.returns-clause-output
returns-clause-output g c =
    report_traced g.G.Gate.told c.args.options (map g.W.Work.meaning c.args.customs.items) c.args.script.now c.args.gates.now.items c.run_traced.new.gates.items c.push_journals.new.text.items
    c.in_ok-text.text.items _ c.requires.traced (c.in_ok-text.ensures (map g.W.Work.meaning c.args.customs.items) c.in_ok-outputs.ensures.lines) c.in_ok-push_journals.ensures
    c.in_ok-outputs.ensures.told
