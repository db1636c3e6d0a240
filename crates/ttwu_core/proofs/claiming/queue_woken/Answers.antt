use Rattle.std.proofs.Common.{◌≡◌, ◌∙◌, ℕ, ◌∷◌, List, sym, subst, ap, inl}
use Rattle.core_data.specs.Queue.{Queue}
use Rattle.handoff_data.specs.declared.shape.Shape.{Shape}
use Rattle.run_queue.proofs.Guards.{gave_queue, queue_there}
use Rattle.task_words.specs.Gives.{since}
use Rattle.ttwu_core.proofs.Waiting.{queued_keeps}
use Rattle.ttwu_core.specs.Claims.{queued_woken}
use Rattle.ttwu_core.specs.Keeps.{Keeps}
use Rattle.ttwu_core.proofs.Steps.{make_runnable_woken_may}
use Rattle.ttwu_core.proofs.claiming.queue_woken.Given.{Over}
use Rattle.ttwu_core.proofs.claiming.queue_woken.Goals as goal
use Rattle.word_rule.specs.May.{MayMakeRunnableWord}
use Rattle.word_rule.specs.Told.{TakenQueue}
use Rattle.word_steps.specs.Records.{Rec, Took, Gave, Queued, MadeRunnable}
use Rattle.word_steps.specs.declared.val.Val.TheVariants as val

pub make_runnable-requires-clause-may : goal.make_runnable-requires-clause-may
make_runnable-requires-clause-may g c κs within = λ x.
    let v = c.lock_queue-queue.result.val in
    let seat = c.queue_task.ensures.same.same_seat ∙ c.lock_queue-queue.ensures.same.same.same_seat in
    let trace = c.queue_task.ensures.trace
    ∙ ap (λ (z : ℕ × List Rec). Queued c.args.t z.0 0 c.args.m ∷ z.1)
    (λ i. (c.lock_queue-queue.ensures.processor i, c.lock_queue-queue.ensures.trace i)) in
    subst (λ (z : ℕ × List Rec). MayMakeRunnableWord z.0 z.1 c.args.t x 0)
    (λ i. (sym seat i, sym trace i))
    (make_runnable_woken_may c.args.wk.now.shape c.args.pass.now.seat c.args.t c.args.c c.args.m v c.args.pass.now.trace c.requires.other x)

-- the task is claimed, so it stands on no queue
pub push-requires-clause-room : goal.push-requires-clause-room
push-requires-clause-room g c κs within =
    let t = c.args.t in
    let old = c.args.pass.now in
    let v = c.lock_queue-queue.result.val in
    let k = c.lock_queue-queue.result.cpu in
    let cpu = c.lock_queue-queue.ensures.processor in
    let seat = c.queue_task.ensures.same.same_seat ∙ c.lock_queue-queue.ensures.same.same.same_seat in
    let shape = c.queue_task.ensures.same.same_shape ∙ c.lock_queue-queue.ensures.same.same.same_shape in
    let did : c.queue_task.new.pass.trace ≡ Queued t k 0 c.args.m ∷ Took k (val.Queue v) ∷ old.trace =
    c.queue_task.ensures.trace
    ∙ ap (λ (z : List Rec). Queued t k 0 c.args.m ∷ z) (c.lock_queue-queue.ensures.trace
    ∙ ap (λ (n : ℕ). Took n (val.Queue v) ∷ old.trace) (sym cpu)) in
    inl (record {
      rs = old.trace;
      on = 0;
      m = c.args.m;
      did = ap since did;
      told = subst (λ (z : Shape × ℕ × ℕ). TakenQueue z.0 z.1 old.trace z.2 v) (λ i. (sym shape i, sym seat i, sym cpu i)) c.lock_queue-queue.ensures.taken;
      off = inl c.requires.claimed;
    })

pub give_woken-requires-clause-may : goal.give_woken-requires-clause-may
give_woken-requires-clause-may g c κs within =
    let t = c.args.t in
    let old = c.args.pass.now in
    let v = c.lock_queue-queue.result.val in
    let k = c.push.new.self.cpu in
    let cpu : k ≡ c.args.c = c.push.ensures.processor ∙ c.lock_queue-queue.ensures.processor in
    let seat = c.make_runnable.ensures.same.same.same_seat ∙ c.queue_task.ensures.same.same_seat ∙ c.lock_queue-queue.ensures.same.same.same_seat in
    let shape = c.make_runnable.ensures.same.same.same_shape ∙ c.queue_task.ensures.same.same_shape ∙ c.lock_queue-queue.ensures.same.same.same_shape in
    let did : c.make_runnable.new.pass.trace ≡ MadeRunnable t ∷ Queued t k 0 c.args.m ∷ Took k (val.Queue v) ∷ old.trace =
    c.make_runnable.ensures.trace ∙ ap (λ (z : List Rec). MadeRunnable t ∷ z) (c.queue_task.ensures.trace
    ∙ ap (λ (z : ℕ × List Rec). Queued t z.0 0 c.args.m ∷ z.1) (λ i. (sym c.push.ensures.processor i, c.lock_queue-queue.ensures.trace i))
    ∙ ap (λ (n : ℕ). Queued t k 0 c.args.m ∷ Took n (val.Queue v) ∷ old.trace) (sym cpu)) in record {
      t = t;
      on = 0;
      m = c.args.m;
      v = v;
      rs = old.trace;
      did = ap since did;
      told = subst (λ (z : Shape × ℕ × ℕ). TakenQueue z.0 z.1 old.trace z.2 v) (λ i. (sym shape i, sym seat i, sym cpu i)) c.lock_queue-queue.ensures.taken;
      put = c.push.ensures.value;
    }

woken_did : (g : Over) (c : goal.After-give_woken g)
    → c.give_woken.new.pass.trace ≡ queued_woken c.args.t c.args.c c.args.m c.lock_queue-queue.result.val c.args.pass.now.trace
woken_did g c =
    let t = c.args.t in
    let v = c.lock_queue-queue.result.val in
    let old = c.args.pass.now.trace in
    let at = c.lock_queue-queue.ensures.processor in
    let stored : c.make_runnable.new.pass.trace ≡ MadeRunnable t ∷ Queued t c.args.c 0 c.args.m ∷ Took c.args.c (val.Queue v) ∷ old =
    c.make_runnable.ensures.trace ∙ ap (λ (z : List Rec). MadeRunnable t ∷ z) (c.queue_task.ensures.trace
    ∙ ap (λ (z : ℕ × List Rec). Queued t z.0 0 c.args.m ∷ z.1) (λ i. (at i, c.lock_queue-queue.ensures.trace i))) in
    c.give_woken.ensures.trace
    ∙ gave_queue c.args.c c.push.new.self.cpu v c.push.new.self.val c.make_runnable.new.pass.trace
    (MadeRunnable t ∷ Queued t c.args.c 0 c.args.m ∷ Took c.args.c (val.Queue v) ∷ old) (c.push.ensures.processor ∙ at) stored
    (queue_there c.args.c v old)
    ∙ ap (λ (q : Queue). Gave c.args.c (val.Queue v) (val.Queue q) ∷ MadeRunnable t ∷ Queued t c.args.c 0 c.args.m ∷ Took c.args.c (val.Queue v) ∷ old)
    c.push.ensures.value

pub returns-clause-keeps : goal.returns-clause-keeps
returns-clause-keeps g c =
    let v = c.lock_queue-queue.result.val in
    let s = c.args.pass.now.seat in
    let old = c.args.pass.now.trace in
    subst (λ (z : List Rec). Keeps s old z) (sym (woken_did g c))
    (queued_keeps s c.args.t old c.args.pass.now.shape c.args.c c.args.m v c.lock_queue-queue.ensures.taken)
