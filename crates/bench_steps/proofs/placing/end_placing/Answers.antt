use Rattle.std.proofs.Common.{◌≡◌, ◌∙◌, ℕ, ◌∷◌, List, false, refl, sym, ap, subst, inl, rules, arith}
use Rattle.std.proofs.lemmas.Bool.Decides.{nat_tests}
use Rattle.bench_steps.proofs.placing.end_placing.Goals as goal
use Rattle.handoff_data.specs.declared.shape.Shape.{Shape}
use Rattle.task_words.specs.Gives.{IsQueuedUnder}
use Rattle.task_words.specs.Views.{PassView}
use Rattle.uses_words.proofs.Shapes.{queued_here, put_here}
use Rattle.word_rule.specs.May.{number_of}
use Rattle.word_rule.specs.Told.{TakenQueue, IsOff}
use Rattle.word_steps.specs.Folds.{task_held, is_claimed, is_moving}
use Rattle.word_steps.specs.Records.{Rec, Took, Queued}
use Rattle.word_steps.specs.declared.val.Val.TheVariants as val

queued_unclaimed : (t u c : ℕ) (rs : List Rec) → u ≡ t → is_claimed (Queued u c 0 0 ∷ rs) t ≡ false
queued_unclaimed t u c rs same = grind (arith, nat_tests, same)

queued_unmoved : (t u c : ℕ) (rs : List Rec) → u ≡ t → is_moving (Queued u c 0 0 ∷ rs) t ≡ false
queued_unmoved t u c rs same = grind (arith, nat_tests, same)

queued_number : (t u c : ℕ) (rs : List Rec) → u ≡ t → number_of (Queued u c 0 0 ∷ rs) t ≡ 1
queued_number t u c rs same = grind (arith, nat_tests, same)

pub give_queued-requires-clause-may : goal.give_queued-requires-clause-may
give_queued-requires-clause-may g c κs =
    let t = c.args.task.task in let v = c.args.task.val in let before = c.lock_queue-queue.new.pass.trace in
    let queued = c.queue_task.ensures.trace in let gave = c.give_put.ensures.trace in
    let shape : c.give_put.new.pass.shape ≡ c.args.wk.now.shape =
    c.give_put.ensures.same.same.same_shape ∙ c.queue_task.ensures.same.same_shape ∙ c.lock_queue-queue.ensures.same.same.same_shape
    ∙ ap (λ (p : PassView). p.shape) c.clear_turn.ensures.cleared ∙ c.requires.of.same_shape in
    subst (λ (z : Shape). IsQueuedUnder z c.give_put.new.pass.trace t v) (sym shape) record {
      taken = v;
      held = ap (λ (z : List Rec). task_held z t) gave ∙ ap (λ (z : List Rec). task_held z t) queued
          ∙ ap (λ (z : List Rec). task_held z t) c.lock_queue-queue.ensures.trace
          ∙ ap (λ (p : PassView). task_held p.trace t) c.clear_turn.ensures.cleared ∙ c.requires.placing.held;
      kept = record { mask = refl; r = refl; narrowed = refl; pending = refl; stop_queued = refl };
      wake_cpu = c.requires.fits.wake_cpu;
      dest = c.requires.fits.dest;
      unclaimed = ap (λ (z : List Rec). is_claimed z t) gave ∙ ap (λ (z : List Rec). is_claimed z t) queued ∙ queued_unclaimed t c.task-t.result c.lock_queue-queue.result.cpu before c.task-t.ensures;
      unmoved = ap (λ (z : List Rec). is_moving z t) gave ∙ ap (λ (z : List Rec). is_moving z t) queued ∙ queued_unmoved t c.task-t.result c.lock_queue-queue.result.cpu before c.task-t.ensures;
      number =
          let one : number_of c.give_put.new.pass.trace t ≡ 1 =
          ap (λ (z : List Rec). number_of z t) gave ∙ ap (λ (z : List Rec). number_of z t) queued ∙ queued_number t c.task-t.result c.lock_queue-queue.result.cpu before c.task-t.ensures in
          omega (arith, one);
    }

-- what the seat did since it took the queue's lock, by its trace
pub push-requires-clause-room : goal.push-requires-clause-room
push-requires-clause-room g c κs =
    let t = c.task-t.result in
    let old = c.clear_turn.new.self in
    let v = c.lock_queue-queue.result.val in
    let k = c.lock_queue-queue.result.cpu in
    let cpu = c.lock_queue-queue.ensures.processor in
    let seat = c.queue_task.ensures.same.same_seat ∙ c.lock_queue-queue.ensures.same.same.same_seat in
    let shape = c.queue_task.ensures.same.same_shape ∙ c.lock_queue-queue.ensures.same.same.same_shape in
    let did : c.queue_task.new.pass.trace ≡ Queued t k 0 0 ∷ Took k (val.Queue v) ∷ old.trace =
    c.queue_task.ensures.trace
    ∙ ap (λ (z : List Rec). Queued t k 0 0 ∷ z) (c.lock_queue-queue.ensures.trace
    ∙ ap (λ (n : ℕ). Took n (val.Queue v) ∷ old.trace) (sym cpu)) in
    let told = subst (λ (z : Shape × ℕ × ℕ). TakenQueue z.0 z.1 old.trace z.2 v) (λ i. (sym shape i, sym seat i, sym cpu i)) c.lock_queue-queue.ensures.taken in
    let off : IsOff old.trace t = search rules in
    inl (queued_here c.queue_task.new.pass.shape c.queue_task.new.pass.seat k t 0 0 v c.queue_task.new.pass.trace old.trace did told off)

pub give_put-requires-clause-may : goal.give_put-requires-clause-may
give_put-requires-clause-may g c κs =
    let t = c.task-t.result in
    let old = c.clear_turn.new.self in
    let v = c.lock_queue-queue.result.val in
    let k = c.push.new.self.cpu in
    let cpu = c.push.ensures.processor ∙ c.lock_queue-queue.ensures.processor in
    let seat = c.queue_task.ensures.same.same_seat ∙ c.lock_queue-queue.ensures.same.same.same_seat in
    let shape = c.queue_task.ensures.same.same_shape ∙ c.lock_queue-queue.ensures.same.same.same_shape in
    let did : c.queue_task.new.pass.trace ≡ Queued t k 0 0 ∷ Took k (val.Queue v) ∷ old.trace =
    c.queue_task.ensures.trace
    ∙ ap (λ (z : ℕ × List Rec). Queued t z.0 0 0 ∷ z.1) (λ i. (sym c.push.ensures.processor i, c.lock_queue-queue.ensures.trace i))
    ∙ ap (λ (n : ℕ). Queued t k 0 0 ∷ Took n (val.Queue v) ∷ old.trace) (sym cpu) in
    let told = subst (λ (z : Shape × ℕ × ℕ). TakenQueue z.0 z.1 old.trace z.2 v) (λ i. (sym shape i, sym seat i, sym cpu i)) c.lock_queue-queue.ensures.taken in
    put_here c.queue_task.new.pass.shape c.queue_task.new.pass.seat k t 0 0 v c.queue_task.new.pass.trace old.trace c.push.new.self.val did told (inl refl) c.push.ensures.value
