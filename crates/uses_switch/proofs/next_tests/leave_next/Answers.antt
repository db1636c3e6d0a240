use Rattle.std.proofs.Common.{◌≡◌, ◌∙◌, ℕ, ◌∷◌, List, sym, subst, ap, rules}
use Rattle.handoff_data.specs.declared.shape.Shape.{Shape}
use Rattle.uses_switch.proofs.NextGives.{next_gives}
use Rattle.uses_switch.proofs.next_tests.leave_next.Goals as goal
use Rattle.word_rule.specs.May.{MayGiveQueueVal}
use Rattle.word_rule.specs.Told.{TakenQueue}
use Rattle.word_steps.specs.Records.{Rec, Took}
use Rattle.word_steps.specs.declared.val.Val.TheVariants as val

pub give-requires-clause-may : goal.give-requires-clause-may
give-requires-clause-may g c κs within =
    let v = c.lock_queue-queue.result.val in
    let rs = c.args.pass.now.trace in
    let s = c.args.pass.now.seat in
    let given = c.set_cur.new.self in
    let told = subst (λ (z : Shape × ℕ). TakenQueue z.0 s rs z.1 v) (λ i. (c.requires.of.same_shape i, c.seat-c.ensures i))
    c.lock_queue-queue.ensures.taken in
    let cpu : s ≡ c.pop.new.self.cpu = search rules in
    let trace : Took s (val.Queue v) ∷ rs ≡ c.lock_queue-queue.new.pass.trace =
    sym (c.lock_queue-queue.ensures.trace ∙ ap (λ (n : ℕ). Took n (val.Queue v) ∷ rs) c.seat-c.ensures) in
    subst (λ (z : ℕ × List Rec × ℕ). MayGiveQueueVal z.0 z.1 c.args.wk.now.shape z.2 given)
    (λ i. (sym c.lock_queue-queue.ensures.same.same.same_seat i, trace i, cpu i))
    (next_gives c.args.wk.now.shape s v rs told c.in-Some.t given (search rules) (search rules) (search rules)
    (search rules) (search rules) (search rules))
