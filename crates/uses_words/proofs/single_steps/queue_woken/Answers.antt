use Rattle.std.proofs.Common.{◌≡◌, ◌∙◌, ℕ, ◌∷◌, List, sym, subst, ap, inl, inr, refl, rules, arith, Some}
use Rattle.std.proofs.lemmas.Grind.{common_steps}
use Rattle.handoff_data.specs.declared.shape.Shape.{Shape}
use Rattle.uses_words.proofs.Shapes.{queued_here, woken_here}
use Rattle.uses_words.proofs.single_steps.queue_woken.Goals as goal
use Rattle.word_rule.specs.Told.{TakenQueue, IsOff}
use Rattle.word_steps.specs.Folds.{number_read}
use Rattle.word_steps.specs.Records.{Rec, Took, Queued, MadeRunnable}
use Rattle.word_steps.specs.declared.val.Val.TheVariants as val

pub push-requires-clause-room : goal.push-requires-clause-room
push-requires-clause-room g c κs within =
    let t = c.args.t in
    let old = c.args.pass.now in
    let v = c.lock_queue-queue.result.val in
    let k = c.lock_queue-queue.result.cpu in
    let cpu = c.lock_queue-queue.ensures.processor in
    let seat = c.queue_task.ensures.same.same_seat ∙ c.lock_queue-queue.ensures.same.same.same_seat in
    let shape = c.queue_task.ensures.same.same_shape ∙ c.lock_queue-queue.ensures.same.same.same_shape in
    let did : c.queue_task.new.pass.trace ≡ Queued t k 0 c.args.m ∷ Took k (val.Queue v) ∷ old.trace =
    c.queue_task.ensures.trace
    ∙ ap (λ (z : List Rec). Queued t k 0 c.args.m ∷ z) (c.lock_queue-queue.ensures.trace
    ∙ ap (λ (n : ℕ). Took n (val.Queue v) ∷ old.trace) (sym cpu)) in
    let told = subst (λ (z : Shape × ℕ × ℕ). TakenQueue z.0 z.1 old.trace z.2 v) (λ i. (sym shape i, sym seat i, sym cpu i)) c.lock_queue-queue.ensures.taken in
    inl (queued_here c.queue_task.new.pass.shape c.queue_task.new.pass.seat k t 0 c.args.m v c.queue_task.new.pass.trace old.trace did told (inl c.requires.claimed))

pub give_woken-requires-clause-may : goal.give_woken-requires-clause-may
give_woken-requires-clause-may g c κs within =
    let t = c.args.t in
    let old = c.args.pass.now in
    let v = c.lock_queue-queue.result.val in
    let k = c.push.new.self.cpu in
    let cpu = c.push.ensures.processor ∙ c.lock_queue-queue.ensures.processor in
    let seat = c.make_runnable.ensures.same.same.same_seat ∙ c.queue_task.ensures.same.same_seat ∙ c.lock_queue-queue.ensures.same.same.same_seat in
    let shape = c.make_runnable.ensures.same.same.same_shape ∙ c.queue_task.ensures.same.same_shape ∙ c.lock_queue-queue.ensures.same.same.same_shape in
    let did : c.make_runnable.new.pass.trace ≡ MadeRunnable t ∷ Queued t k 0 c.args.m ∷ Took k (val.Queue v) ∷ old.trace =
    c.make_runnable.ensures.trace ∙ ap (λ (z : List Rec). MadeRunnable t ∷ z) (c.queue_task.ensures.trace
    ∙ ap (λ (z : ℕ × List Rec). Queued t z.0 0 c.args.m ∷ z.1) (λ i. (sym c.push.ensures.processor i, c.lock_queue-queue.ensures.trace i))
    ∙ ap (λ (n : ℕ). Queued t k 0 c.args.m ∷ Took n (val.Queue v) ∷ old.trace) (sym cpu)) in
    let told = subst (λ (z : Shape × ℕ × ℕ). TakenQueue z.0 z.1 old.trace z.2 v) (λ i. (sym shape i, sym seat i, sym cpu i)) c.lock_queue-queue.ensures.taken in
    woken_here c.make_runnable.new.pass.shape c.make_runnable.new.pass.seat k t 0 c.args.m v c.make_runnable.new.pass.trace old.trace c.push.new.self.val did told c.push.ensures.value
