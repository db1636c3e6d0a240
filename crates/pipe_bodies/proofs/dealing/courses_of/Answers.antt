use Rattle.std.proofs.Common.{ap, ◌∙◌, ◌+◌, map, sym, subst, length, take, List}
use Rattle.std.proofs.lemmas.List.{length-map, map_push}
use Rattle.task_script.specs.declared.plan.Plan.{Plan}
use Rattle.pipe_bodies.specs.Courses.{plan_in, seen_works}
use Rattle.pipe_bodies.proofs.DealLaws.{Dealt, dealt-none, dealt-there, dealt-one, custom-one, are_customs}
use Rattle.pipe_bodies.proofs.dealing.courses_of.Goals as goal

pub loop-task-init : goal.loop-task-init
loop-task-init g c = rw (c.in_ok-courses.ensures.items, c.in_ok-works.ensures) (dealt-none (map g.W.Work.meaning c.args.customs.items))

pub course_of-requires-clause-there : goal.course_of-requires-clause-there
course_of-requires-clause-there g c κs within = dealt-there (map g.W.Work.meaning c.args.customs.items) c.args.tasks.now c.loop-task.task-index c.task-item.result c.loop-task-test.true
    c.task-item.is (are_customs (map g.W.Work.meaning c.args.customs.items) c.args.tasks.now (length c.args.customs.items) (length-map c.args.customs.items g.W.Work.meaning) c.requires.customs)
    (map plan_in c.loop-task.courses.items) (seen_works g.W.Work.meaning c.loop-task.works.items) c.loop-task.invariant

pub course_of-requires-clause-one : goal.course_of-requires-clause-one
course_of-requires-clause-one g c κs within = custom-one (map g.W.Work.meaning c.args.customs.items) c.args.tasks.now c.loop-task.task-index c.task-item.result c.loop-task-test.true c.task-item.is
    (are_customs (map g.W.Work.meaning c.args.customs.items) c.args.tasks.now (length c.args.customs.items) (length-map c.args.customs.items g.W.Work.meaning) c.requires.customs)

pub loop-task-preserved : goal.loop-task-preserved
loop-task-preserved g c =
    subst (λ (ps : List Plan). Dealt (map g.W.Work.meaning c.args.customs.items) (take (c.loop-task.task-index + 1) c.args.tasks.now) ps (seen_works g.W.Work.meaning c.course_of.new.works.items))
    (sym (ap (map plan_in) c.in_ok-push.ensures.items ∙ map_push plan_in c.loop-task.courses.items c.in_ok-course_of.field-0))
    (dealt-one (map g.W.Work.meaning c.args.customs.items) c.args.tasks.now c.loop-task.task-index c.task-item.result c.loop-task-test.true c.task-item.is (are_customs (map g.W.Work.meaning
    c.args.customs.items) c.args.tasks.now (length c.args.customs.items) (length-map c.args.customs.items g.W.Work.meaning) c.requires.customs)
    (map plan_in c.loop-task.courses.items) (seen_works g.W.Work.meaning c.loop-task.works.items) c.loop-task.invariant
    (plan_in c.in_ok-course_of.field-0) (seen_works g.W.Work.meaning c.course_of.new.works.items) c.in_ok-course_of.ensures.plan c.in_ok-course_of.ensures.sides c.in_ok-course_of.ensures.left)
