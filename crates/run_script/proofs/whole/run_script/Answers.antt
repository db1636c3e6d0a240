use Rattle.std.proofs.Common.{◌≡◌, ◌∙◌, List, length, map, subst, sym}
use Rattle.std.specs.Prelude.{IfOk}
use Rattle.std.proofs.lemmas.List.{length-map}
use Rattle.pipe_tasks.specs.Tasks.{forest_lines, meant, meant_tasks}
use Rattle.run_script.proofs.Telling.{begun_as_meant, cell_count, table_of, always, tells_run}
use Rattle.task_script.specs.declared.script.TaskDef.{TaskDef}
use Rattle.run_script.proofs.whole.run_script.Goals as goal

pub new-requires-clause-shape : goal.new-requires-clause-shape
new-requires-clause-shape g c κs within = (c.law_script.ensures.machine (length c.args.customs.items) c.requires.script.0 c.args.script.now c.requires.script.1).valid

pub new-requires-clause-tasks : goal.new-requires-clause-tasks
new-requires-clause-tasks g c κs within =
    cell_count c.in_ok-into_cells.field-0.items c.in_ok-bodies.bodies.items c.in_ok-into_cells.ensures.bodies (meant_tasks (map g.W.Work.meaning c.args.customs.items) c.args.script.now.tasks)
    c.in_ok-bodies.ensures.net ∙ length-map c.args.script.now.tasks (meant (map g.W.Work.meaning c.args.customs.items))
    ∙ sym (c.law_script.ensures.machine (length c.args.customs.items) c.requires.script.0 c.args.script.now c.requires.script.1).counted

pub finish_run-requires-clause-table : goal.finish_run-requires-clause-table
finish_run-requires-clause-table g c κs within =
    table_of c.in_ok-into_cells.field-0.items c.in_ok-bodies.bodies.items c.in_ok-into_cells.ensures.bodies c.args.script.now.tasks c.as_slice.result.now
    (meant_tasks (map g.W.Work.meaning c.args.customs.items) c.args.script.now.tasks) c.in_ok-wk.wk.lasting c.as_slice.ensures c.in_ok-bodies.ensures.net c.in_ok-bodies.ensures.begun
    c.in_ok-wk.ensures.lasting

pub returns-clause-lines : goal.returns-clause-lines
returns-clause-lines g c =
    subst (λ (ts : List TaskDef). IfOk c.finish_run.result (λ r. r.items ≡ forest_lines ts))
    (begun_as_meant c.in_ok-into_cells.field-0.items c.in_ok-bodies.bodies.items c.in_ok-into_cells.ensures.bodies c.args.script.now.tasks c.as_slice.result.now
    (meant_tasks (map g.W.Work.meaning c.args.customs.items) c.args.script.now.tasks) c.in_ok-wk.wk.lasting c.law_lastings.ensures.back c.as_slice.ensures c.in_ok-bodies.ensures.begun
    c.in_ok-wk.ensures.lasting) c.finish_run.ensures.lines

pub returns-clause-told : goal.returns-clause-told
returns-clause-told g c =
    always c.finish_run.result
    (tells_run g.G.Gate.told c.args.script.now c.in_ok-wk.wk c.args.gates.now.items c.run_gates.new.gates.items c.in_ok-passes.passes.items
    c.in_ok-wk.ensures.shape c.finish_run.ensures.legal c.in_ok-passes.ensures.ran)
