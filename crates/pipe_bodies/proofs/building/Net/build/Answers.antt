use Rattle.std.proofs.Common.{subst, sym, ap, ◌∙◌, map, length, List}
use Rattle.std.specs.Prelude.{IfOk}
use Rattle.task_script.specs.Forest.{IsForest}
use Rattle.task_script.specs.Valid.{AreCustoms}
use Rattle.task_script.specs.declared.script.TaskDef.{TaskDef}
use Rattle.pipe_tasks.specs.Tasks.{meant_tasks}
use Rattle.pipe_bodies.specs.Courses.{plan_in}
use Rattle.pipe_bodies.specs.Nets.{IsNet, with_plans, lasting_of}
use Rattle.pipe_bodies.proofs.DealLaws.{forest_with, meant_plans, begun_meant, if_ok}
use Rattle.pipe_bodies.proofs.building.Net.build.Goals as goal

pub courses_of-requires-clause-customs : goal.courses_of-requires-clause-customs
courses_of-requires-clause-customs g c κs within = subst (λ z. AreCustoms (length c.args.customs.items) z) (sym c.as_slice-tasks.ensures)
    (c.law_script.ensures.customs (length c.args.customs.items) c.requires.script.0 c.args.script.now c.requires.script.1)

pub build_courses-requires-clause-forest : goal.build_courses-requires-clause-forest
build_courses-requires-clause-forest g c κs within = forest_with c.as_slice-tasks.result.now (map plan_in c.in_ok-courses.courses.items) c.in_ok-courses.ensures.sides
    (subst (λ z. IsForest z) (sym c.as_slice-tasks.ensures) (c.law_script.ensures.forest (length c.args.customs.items) c.requires.script.0 c.args.script.now c.requires.script.1))

pub returns-clause-net : goal.returns-clause-net
returns-clause-net g c = subst (λ (ds : List TaskDef). IfOk c.build_courses.result (λ r. IsNet ds (map lasting_of r.items)))
    (ap (λ z. with_plans c.as_slice-tasks.result.now z) c.in_ok-courses.ensures.plans ∙ meant_plans (map g.W.Work.meaning c.args.customs.items) c.as_slice-tasks.result.now ∙ ap (meant_tasks (map
    g.W.Work.meaning c.args.customs.items)) c.as_slice-tasks.ensures) c.build_courses.ensures.net

pub returns-clause-begun : goal.returns-clause-begun
returns-clause-begun g c = if_ok c.build_courses.result (returns-clause-net g c) (λ r n. begun_meant (map g.W.Work.meaning c.args.customs.items) c.args.script.now.tasks (map lasting_of r.items) n)
