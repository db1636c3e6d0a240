use Rattle.std.proofs.Common.{◌≡◌, map, take}
use Rattle.pipe_bodies.specs.Courses.{plan_in, seen_works}
use Rattle.pipe_bodies.proofs.DealLaws.{Dealt}
use Rattle.pipe_bodies.proofs.dealing.courses_of.Given as goal

abbrev pub invariant-loop-task : goal.invariant-loop-task
invariant-loop-task g l =
    Dealt (map g.W.Work.meaning l.fn.customs.items) (take l.task-index l.tasks) (map plan_in l.courses.items) (seen_works g.W.Work.meaning l.works.items)
