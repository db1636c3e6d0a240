-- A lock that a seat has taken, while the value under it is lent.
use Rattle.std.specs.Prelude.{List}
use Rattle.std.specs.Borrow.{Lends, MutBor, Fml}
use denote.RattleType.{RattleType}
use Rattle.core_data.specs.Queue.{Queue}
use Rattle.core_data.specs.declared.values.TaskVal.{TaskVal}
use Rattle.core_data.specs.declared.values.WaitEntry.{WaitEntry}
use Rattle.core_data.specs.declared.values.WorkItem.{WorkItem}
use Rattle.word_steps.specs.declared.val.Val.{Val}
use Rattle.word_steps.specs.declared.val.Val.TheVariants as val
use Rattle.word_steps.specs.contracts.boxes.TaskBox as task_box
use Rattle.word_steps.specs.contracts.boxes.QueueBox as queue_box
use Rattle.word_steps.specs.contracts.works.WorksBox as works_box
use Rattle.word_steps.specs.contracts.wait.WaitQueue as wait_queue
use Rattle.word_table.specs.Taken.{TakenView, BodyView}
use Rattle.word_table.specs.contracts.taken.Taken as taken
use Rattle.word_table.specs.contracts.taken.BodyOut as body_out

abbrev pub with_val : TakenView → Val → TakenView
with_val t v = record t { val = v }

-- it ends with what is left behind r
module _ (B : RattleType) where
  abbrev pub LendsTask : MutBor TakenView → MutBor TaskVal → Fml
  LendsTask t r = Lends (taken.the_row B) task_box.the_row t r (λ w. with_val t.now (val.Task w))

  abbrev pub LendsQueue : MutBor TakenView → MutBor Queue → Fml
  LendsQueue t r = Lends (taken.the_row B) queue_box.the_row t r (λ w. with_val t.now (val.Queue w))

  abbrev pub LendsWorks : MutBor TakenView → MutBor (List WorkItem) → Fml
  LendsWorks t r = Lends (taken.the_row B) works_box.the_row t r (λ w. with_val t.now (val.Works w))

  abbrev pub LendsWait : MutBor TakenView → MutBor (List WaitEntry) → Fml
  LendsWait t r = Lends (taken.the_row B) wait_queue.the_row t r (λ w. with_val t.now (val.Wait w))

  abbrev pub LendsBody : MutBor (BodyView B.Denot) → MutBor B.Denot → Fml
  LendsBody t r = Lends (body_out.the_row B) B t r (λ w. record t.now { body = w })
