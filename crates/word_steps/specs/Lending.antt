-- A value that a lock guards, while the part of it that it holds is lent.
use Rattle.std.specs.Prelude.{◌≡◌, List}
use Rattle.std.specs.Borrow.{Lends, MutBor, Fml}
use Rattle.core_data.specs.Queue.{Queue}
use Rattle.core_data.specs.declared.values.TaskVal.{TaskVal}
use Rattle.core_data.specs.declared.values.WaitEntry.{WaitEntry}
use Rattle.core_data.specs.declared.values.WorkItem.{WorkItem}
use Rattle.word_steps.specs.declared.val.Val.{Val}
use Rattle.word_steps.specs.declared.val.Val.TheVariants as val
use Rattle.word_steps.specs.contracts.boxes.TaskBox as task_box
use Rattle.word_steps.specs.contracts.boxes.QueueBox as queue_box
use Rattle.word_steps.specs.contracts.works.WorksBox as works_box
use Rattle.word_steps.specs.contracts.val.Val as any
use Rattle.word_steps.specs.contracts.wait.WaitQueue as wait_queue

-- it is a task's, a queue, works, or a wait queue
abbrev pub IsTask : Val → Type 0
IsTask v = (t : TaskVal) × (v ≡ val.Task t)

abbrev pub IsQueue : Val → Type 0
IsQueue v = (q : Queue) × (v ≡ val.Queue q)

abbrev pub IsWorks : Val → Type 0
IsWorks v = (w : List WorkItem) × (v ≡ val.Works w)

abbrev pub IsWait : Val → Type 0
IsWait v = (w : List WaitEntry) × (v ≡ val.Wait w)

-- it ends with what is left behind r
abbrev pub LendsTask : MutBor Val → MutBor TaskVal → Fml
LendsTask v r = Lends any.the_row task_box.the_row v r val.Task

abbrev pub LendsQueue : MutBor Val → MutBor Queue → Fml
LendsQueue v r = Lends any.the_row queue_box.the_row v r val.Queue

abbrev pub LendsWorks : MutBor Val → MutBor (List WorkItem) → Fml
LendsWorks v r = Lends any.the_row works_box.the_row v r val.Works

abbrev pub LendsWait : MutBor Val → MutBor (List WaitEntry) → Fml
LendsWait v r = Lends any.the_row wait_queue.the_row v r val.Wait
