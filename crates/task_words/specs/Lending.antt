-- A guard, while what its lock guards is lent: it ends with what is left behind r.
use Rattle.std.specs.Prelude.{List}
use Rattle.std.specs.Borrow.{Lends, MutBor, Fml}
use denote.RattleType.{RattleType}
use Rattle.core_data.specs.Queue.{Queue}
use Rattle.core_data.specs.declared.values.TaskVal.{TaskVal}
use Rattle.core_data.specs.declared.values.WaitEntry.{WaitEntry}
use Rattle.core_data.specs.declared.values.WorkItem.{WorkItem}
use Rattle.task_words.specs.Guards.{TaskGuardView, QueueGuardView, WorksGuardView, WaitGuardView}
use Rattle.task_words.specs.contracts.guards.TaskGuard as task_guard
use Rattle.task_words.specs.contracts.guards.QueueGuard as queue_guard
use Rattle.task_words.specs.contracts.guards.WorksGuard as works_guard
use Rattle.task_words.specs.contracts.guards.WaitGuard as wait_guard
use Rattle.word_steps.specs.contracts.boxes.TaskBox as task_box
use Rattle.word_steps.specs.contracts.boxes.QueueBox as queue_box
use Rattle.word_steps.specs.contracts.works.WorksBox as works_box
use Rattle.word_steps.specs.contracts.wait.WaitQueue as wait_queue

module _ (B : RattleType) where
  abbrev pub LendsTask : MutBor TaskGuardView → MutBor TaskVal → Fml
  LendsTask g r = Lends (task_guard.the_row B) task_box.the_row g r (λ w. record g.now { val = w })

  abbrev pub LendsQueue : MutBor QueueGuardView → MutBor Queue → Fml
  LendsQueue g r = Lends (queue_guard.the_row B) queue_box.the_row g r (λ w. record g.now { val = w })

  abbrev pub LendsWorks : MutBor WorksGuardView → MutBor (List WorkItem) → Fml
  LendsWorks g r = Lends (works_guard.the_row B) works_box.the_row g r (λ w. record g.now { val = w })

  abbrev pub LendsWait : MutBor WaitGuardView → MutBor (List WaitEntry) → Fml
  LendsWait g r = Lends (wait_guard.the_row B) wait_queue.the_row g r (λ w. record g.now { val = w })
