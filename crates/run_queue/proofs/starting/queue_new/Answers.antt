use Rattle.std.proofs.Common.{◌≡◌, ◌∙◌, ℕ, ◌∷◌, List, sym, subst, ap, inl, inr}
use Rattle.core_data.specs.Queue.{Queue}
use Rattle.handoff_data.specs.declared.shape.Shape.{Shape}
use Rattle.std.specs.Prelude.{unwrap_or}
use Rattle.run_queue.specs.Queueing.{pushed}
use Rattle.run_queue.proofs.Guards.{taken_current, taken_clear}
use Rattle.word_steps.specs.Folds.{queue_held, current_task, task_to_clear}
use Rattle.run_queue.proofs.Steps.{give_new_may}
use Rattle.run_queue.proofs.starting.queue_new.Goals as goal
use Rattle.word_rule.specs.May.{MayGiveQueueVal}
use Rattle.task_words.specs.Gives.{since}
use Rattle.word_rule.specs.Told.{TakenQueue, IsOff}
use Rattle.word_steps.specs.Records.{Rec, Took, Gave, Queued, MadeRunnable}
use Rattle.word_steps.specs.declared.val.Val.TheVariants as val

pub give-requires-clause-may : goal.give-requires-clause-may
give-requires-clause-may g c κs within =
    let shape = c.make_runnable.ensures.same.same.same_shape ∙ c.requires.of.same_shape in
    let seat = c.queue_task.ensures.same.same_seat ∙ c.lock_queue-queue.ensures.same.same.same_seat in
    let cpu = c.lock_queue-queue.ensures.processor in
    let v = c.lock_queue-queue.result.val in
    let trace = c.queue_task.ensures.trace
    ∙ ap (λ (k : ℕ). Queued c.args.t k 0 0 ∷ c.lock_queue-queue.new.pass.trace) cpu
    ∙ ap (λ (z : List Rec). Queued c.args.t c.args.c 0 0 ∷ z) (c.lock_queue-queue.ensures.trace
    ∙ ap (λ (z : List Rec). Took c.args.c (val.Queue v) ∷ z) c.make_runnable.ensures.trace) in
    let known = subst (λ (z : Shape × List Rec). TakenQueue z.0 c.make_runnable.new.pass.seat z.1 c.args.c v)
    (λ i. (shape i, c.make_runnable.ensures.trace i)) c.lock_queue-queue.ensures.taken in
    subst (λ (z : ℕ × List Rec × ℕ × Queue). MayGiveQueueVal z.0 z.1 c.args.wk.now.shape z.2 z.3)
    (λ i. (sym seat i, sym trace i, sym (c.push.ensures.processor ∙ cpu) i, sym c.push.ensures.value i))
    (give_new_may c.args.wk.now.shape c.make_runnable.new.pass.seat c.args.t c.args.c v c.args.pass.now.trace known)

pub returns-clause-current : goal.returns-clause-current
returns-clause-current g c =
    let t = c.args.t in
    let s = c.args.pass.now.seat in
    let old = c.args.pass.now.trace in
    let v = c.lock_queue-queue.result.val in
    let cpu = c.lock_queue-queue.ensures.processor in
    let taken = val.Queue (unwrap_or (queue_held c.queue_task.new.pass.trace c.push.new.self.cpu) c.push.new.self.val) in
    let seat = c.give.ensures.same.same.same_seat ∙ c.queue_task.ensures.same.same_seat
    ∙ c.lock_queue-queue.ensures.same.same.same_seat ∙ c.make_runnable.ensures.same.same.same_seat in
    let queued : c.queue_task.new.pass.trace ≡ Queued t c.args.c 0 0 ∷ Took c.args.c (val.Queue v) ∷ MadeRunnable t ∷ old =
    c.queue_task.ensures.trace ∙ ap (λ (z : ℕ × List Rec). Queued t z.0 0 0 ∷ z.1)
    (λ i. (cpu i, (c.lock_queue-queue.ensures.trace ∙ ap (λ (z : List Rec). Took c.args.c (val.Queue v) ∷ z) c.make_runnable.ensures.trace) i)) in
    let did : c.give.new.pass.trace
    ≡ Gave c.args.c taken (val.Queue (pushed t v)) ∷ Queued t c.args.c 0 0 ∷ Took c.args.c (val.Queue v) ∷ MadeRunnable t ∷ old =
    c.give.ensures.trace ∙ ap (λ (z : ℕ × Queue × List Rec). Gave z.0 taken (val.Queue z.1) ∷ z.2)
    (λ i. ((c.push.ensures.processor ∙ cpu) i, c.push.ensures.value i, queued i)) in
    let told = subst (λ (z : ℕ × List Rec). TakenQueue c.make_runnable.new.pass.shape z.0 z.1 c.args.c v)
    (λ i. (c.make_runnable.ensures.same.same.same_seat i, c.make_runnable.ensures.trace i)) c.lock_queue-queue.ensures.taken in
    ap (λ (z : ℕ × List Rec). current_task z.0 z.1) (λ i. (seat i, did i))
    ∙ taken_current c.make_runnable.new.pass.shape s c.args.c v (MadeRunnable t ∷ old) told

pub returns-clause-clear : goal.returns-clause-clear
returns-clause-clear g c =
    let t = c.args.t in
    let s = c.args.pass.now.seat in
    let old = c.args.pass.now.trace in
    let v = c.lock_queue-queue.result.val in
    let cpu = c.lock_queue-queue.ensures.processor in
    let taken = val.Queue (unwrap_or (queue_held c.queue_task.new.pass.trace c.push.new.self.cpu) c.push.new.self.val) in
    let seat = c.give.ensures.same.same.same_seat ∙ c.queue_task.ensures.same.same_seat
    ∙ c.lock_queue-queue.ensures.same.same.same_seat ∙ c.make_runnable.ensures.same.same.same_seat in
    let queued : c.queue_task.new.pass.trace ≡ Queued t c.args.c 0 0 ∷ Took c.args.c (val.Queue v) ∷ MadeRunnable t ∷ old =
    c.queue_task.ensures.trace ∙ ap (λ (z : ℕ × List Rec). Queued t z.0 0 0 ∷ z.1)
    (λ i. (cpu i, (c.lock_queue-queue.ensures.trace ∙ ap (λ (z : List Rec). Took c.args.c (val.Queue v) ∷ z) c.make_runnable.ensures.trace) i)) in
    let did : c.give.new.pass.trace
    ≡ Gave c.args.c taken (val.Queue (pushed t v)) ∷ Queued t c.args.c 0 0 ∷ Took c.args.c (val.Queue v) ∷ MadeRunnable t ∷ old =
    c.give.ensures.trace ∙ ap (λ (z : ℕ × Queue × List Rec). Gave z.0 taken (val.Queue z.1) ∷ z.2)
    (λ i. ((c.push.ensures.processor ∙ cpu) i, c.push.ensures.value i, queued i)) in
    let told = subst (λ (z : ℕ × List Rec). TakenQueue c.make_runnable.new.pass.shape z.0 z.1 c.args.c v)
    (λ i. (c.make_runnable.ensures.same.same.same_seat i, c.make_runnable.ensures.trace i)) c.lock_queue-queue.ensures.taken in
    ap (λ (z : ℕ × List Rec). task_to_clear z.0 z.1) (λ i. (seat i, did i))
    ∙ taken_clear c.make_runnable.new.pass.shape s c.args.c v (MadeRunnable t ∷ old) told

-- the task is new, so it stands on no queue
pub push-requires-clause-room : goal.push-requires-clause-room
push-requires-clause-room g c κs within =
    let t = c.args.t in
    let begun = c.make_runnable.new.pass in
    let v = c.lock_queue-queue.result.val in
    let k = c.lock_queue-queue.result.cpu in
    let cpu = c.lock_queue-queue.ensures.processor in
    let seat = c.queue_task.ensures.same.same_seat ∙ c.lock_queue-queue.ensures.same.same.same_seat in
    let shape = c.queue_task.ensures.same.same_shape ∙ c.lock_queue-queue.ensures.same.same.same_shape in
    let did : c.queue_task.new.pass.trace ≡ Queued t k 0 0 ∷ Took k (val.Queue v) ∷ begun.trace =
    c.queue_task.ensures.trace
    ∙ ap (λ (z : List Rec). Queued t k 0 0 ∷ z) (c.lock_queue-queue.ensures.trace
    ∙ ap (λ (n : ℕ). Took n (val.Queue v) ∷ begun.trace) (sym cpu)) in
    inl (record {
      rs = begun.trace;
      on = 0;
      m = 0;
      did = ap since did;
      told = subst (λ (z : Shape × ℕ × ℕ). TakenQueue z.0 z.1 begun.trace z.2 v) (λ i. (sym shape i, sym seat i, sym cpu i)) c.lock_queue-queue.ensures.taken;
      off = subst (λ (z : List Rec). IsOff z t) (sym c.make_runnable.ensures.trace) (inr (inr (c.requires.locked, c.requires.never)));
    })
