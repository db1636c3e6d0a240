use Rattle.std.proofs.Common.{◌≡◌, ◌∙◌, ℕ, ◌<◌, ◌+◌, ◌-◌, ◌∷◌, List, sym, ap, subst, length, arith}
use Rattle.std.specs.Prelude.{IfSome, slice_get}
use Rattle.core_data.specs.declared.values.WaitEntry.{WaitEntry}
use Rattle.wait_queue.proofs.Meetings.{underway_none, underway_more, underway_head, underway_length, underway_counts, one_counts, still_below, least_asked, walked_reached}
use Rattle.wait_queue.proofs.meeting.walk_entries.Goals as goal
use Rattle.wait_queue.specs.Walks.{IsTurned}

pub loop-met-init : goal.loop-met-init
loop-met-init g c = record {
  walk = underway_none c.args.wk.now.shape c.args.limit c.args.entries.now c.args.pass.now;
  below = least_asked c.args.limit c.requires.limit;
}

pub meet-one-requires-clause-some : goal.meet-one-requires-clause-some
meet-one-requires-clause-some g c κs within =
    let lt : c.loop-met.met < length c.args.entries.now = (let test = c.loop-met-test.true in let len = c.len-all.ensures in omega arith) in
    let left = underway_head c.args.wk.now.shape c.args.limit c.args.entries.now c.loop-met.entries c.args.pass.now
    c.loop-met.pass c.loop-met.met c.loop-met.tally.woken c.loop-met.tally.exclusive c.loop-met.invariant.walk lt in
    λ none. let none_left : length (left.head ∷ left.others) ≡ 0 = ap length (sym left.there ∙ none) in absurd (omega arith)

pub meet-one-requires-clause-few : goal.meet-one-requires-clause-few
meet-one-requires-clause-few g c κs within =
    let walk = underway_length c.args.wk.now.shape c.args.limit c.args.entries.now c.loop-met.entries c.args.pass.now
    c.loop-met.pass c.loop-met.met c.loop-met.tally.woken c.loop-met.tally.exclusive c.loop-met.invariant.walk in
    let less = walk.0 in
    let room = c.requires.taken.room in
    let few = c.few_tasks.ensures in
    omega arith

pub meet-one-requires-clause-tasks : goal.meet-one-requires-clause-tasks
meet-one-requires-clause-tasks g c κs within =
    let lt : c.loop-met.met < length c.args.entries.now = (let test = c.loop-met-test.true in let len = c.len-all.ensures in omega arith) in
    let left = underway_head c.args.wk.now.shape c.args.limit c.args.entries.now c.loop-met.entries c.args.pass.now
    c.loop-met.pass c.loop-met.met c.loop-met.tally.woken c.loop-met.tally.exclusive c.loop-met.invariant.walk lt in
    subst (λ (zs : List WaitEntry). IfSome (slice_get zs 0) (λ x. x.t < c.args.wk.now.shape.tasks)) (sym left.there)
    (c.requires.taken.tasks left.head left.among)

pub overflow_add-tally : goal.overflow_add-tally
overflow_add-tally g c =
    let walk = underway_counts c.args.wk.now.shape c.args.limit c.args.entries.now c.loop-met.entries c.args.pass.now
    c.loop-met.pass c.loop-met.met c.loop-met.tally.woken c.loop-met.tally.exclusive c.loop-met.invariant.walk in
    let one = one_counts c.args.wk.now.shape c.meet-one.new.entries c.loop-met.entries c.loop-met.pass
    c.meet-one.new.pass c.meet-one.result.woken c.meet-one.result.exclusive c.meet-one.ensures.did in
    let least = walk.0 in
    let more = one.0 in
    let lt = c.loop-met-test.true in
    let len = c.len-all.ensures in
    let room = c.requires.taken.room in
    let few = c.few_tasks.ensures in
    omega arith

pub overflow_add-tally-in-loop-met : goal.overflow_add-tally-in-loop-met
overflow_add-tally-in-loop-met g c =
    let walk = underway_counts c.args.wk.now.shape c.args.limit c.args.entries.now c.loop-met.entries c.args.pass.now
    c.loop-met.pass c.loop-met.met c.loop-met.tally.woken c.loop-met.tally.exclusive c.loop-met.invariant.walk in
    let one = one_counts c.args.wk.now.shape c.meet-one.new.entries c.loop-met.entries c.loop-met.pass
    c.meet-one.new.pass c.meet-one.result.woken c.meet-one.result.exclusive c.meet-one.ensures.did in
    let least = walk.1 in
    let more = one.1 in
    let lt = c.loop-met-test.true in
    let len = c.len-all.ensures in
    let room = c.requires.taken.room in
    let few = c.few_tasks.ensures in
    omega arith

pub rotate-requires-clause-few : goal.rotate-requires-clause-few
rotate-requires-clause-few g c =
    let lt : c.loop-met.met < length c.args.entries.now = (let test = c.loop-met-test.true in let len = c.len-all.ensures in omega arith) in
    let more = underway_more c.args.wk.now.shape c.args.limit c.args.entries.now c.loop-met.entries c.meet-one.new.entries
    c.args.pass.now c.loop-met.pass c.meet-one.new.pass c.loop-met.met c.loop-met.tally.woken c.loop-met.tally.exclusive
    c.meet-one.result.woken c.meet-one.result.exclusive c.loop-met.invariant.walk c.loop-met.invariant.below lt
    c.meet-one.ensures.did c.meet-one.ensures.same c.meet-one.ensures.rests c.meet-one.ensures.spare in
    let walk = underway_length c.args.wk.now.shape c.args.limit c.args.entries.now c.meet-one.new.entries c.args.pass.now
    c.meet-one.new.pass (c.loop-met.met + 1) (c.loop-met.tally.woken + c.meet-one.result.woken)
    (c.loop-met.tally.exclusive + c.meet-one.result.exclusive) more in
    let less = walk.0 in
    let room = c.requires.taken.room in
    let few = c.few_tasks.ensures in
    omega arith

pub rotate-requires-clause-count : goal.rotate-requires-clause-count
rotate-requires-clause-count g c =
    let lt : c.loop-met.met < length c.args.entries.now = (let test = c.loop-met-test.true in let len = c.len-all.ensures in omega arith) in
    let more = underway_more c.args.wk.now.shape c.args.limit c.args.entries.now c.loop-met.entries c.meet-one.new.entries
    c.args.pass.now c.loop-met.pass c.meet-one.new.pass c.loop-met.met c.loop-met.tally.woken c.loop-met.tally.exclusive
    c.meet-one.result.woken c.meet-one.result.exclusive c.loop-met.invariant.walk c.loop-met.invariant.below lt
    c.meet-one.ensures.did c.meet-one.ensures.same c.meet-one.ensures.rests c.meet-one.ensures.spare in
    let walk = underway_length c.args.wk.now.shape c.args.limit c.args.entries.now c.meet-one.new.entries c.args.pass.now
    c.meet-one.new.pass (c.loop-met.met + 1) (c.loop-met.tally.woken + c.meet-one.result.woken)
    (c.loop-met.tally.exclusive + c.meet-one.result.exclusive) more in
    let less = walk.1 in
    let len = c.len-all.ensures in
    omega arith

pub returns-then-is_asked-clause-did : goal.returns-then-is_asked-clause-did
returns-then-is_asked-clause-did g c =
    let len = c.len-all.ensures in
    let lt : c.loop-met.met < length c.args.entries.now = (let test = c.loop-met-test.true in omega arith) in
    let more = underway_more c.args.wk.now.shape c.args.limit c.args.entries.now c.loop-met.entries c.meet-one.new.entries
    c.args.pass.now c.loop-met.pass c.meet-one.new.pass c.loop-met.met c.loop-met.tally.woken c.loop-met.tally.exclusive
    c.meet-one.result.woken c.meet-one.result.exclusive c.loop-met.invariant.walk c.loop-met.invariant.below lt
    c.meet-one.ensures.did c.meet-one.ensures.same c.meet-one.ensures.rests c.meet-one.ensures.spare in
    let left : c.len-all.result - c.loop-met.met - 1 ≡ length c.args.entries.now - (c.loop-met.met + 1) = omega arith in
    walked_reached c.args.wk.now.shape c.args.limit c.args.entries.now c.meet-one.new.entries c.rotate.new.entries
    c.args.pass.now c.meet-one.new.pass (c.loop-met.met + 1) (c.loop-met.tally.woken + c.meet-one.result.woken)
    (c.loop-met.tally.exclusive + c.meet-one.result.exclusive) more (c.is_asked.ensures.asked c.if-is_asked.true)
    (subst (λ (n : ℕ). IsTurned n c.meet-one.new.entries c.rotate.new.entries) left c.rotate.ensures.turned)

pub loop-met-preserved : goal.loop-met-preserved
loop-met-preserved g c =
    let lt : c.loop-met.met < length c.args.entries.now = (let test = c.loop-met-test.true in let len = c.len-all.ensures in omega arith) in
    let more = underway_more c.args.wk.now.shape c.args.limit c.args.entries.now c.loop-met.entries c.meet-one.new.entries
    c.args.pass.now c.loop-met.pass c.meet-one.new.pass c.loop-met.met c.loop-met.tally.woken c.loop-met.tally.exclusive
    c.meet-one.result.woken c.meet-one.result.exclusive c.loop-met.invariant.walk c.loop-met.invariant.below lt
    c.meet-one.ensures.did c.meet-one.ensures.same c.meet-one.ensures.rests c.meet-one.ensures.spare in
    let exclusives = more.exclusives in
    record {
      walk = more;
      below = still_below c.args.limit (c.loop-met.tally.exclusive + c.meet-one.result.exclusive)
          (λ n e. let most = more.most n e in omega arith) (c.is_asked.ensures.not c.if-is_asked.false);
    }

pub returns-then-is_asked-clause-spare : goal.returns-then-is_asked-clause-spare
returns-then-is_asked-clause-spare g c =
    let len = c.len-all.ensures in
    let lt : c.loop-met.met < length c.args.entries.now = (let test = c.loop-met-test.true in omega arith) in
    let spent = c.meet-one.ensures.spare in
    let spare = c.loop-met.invariant.walk.spare in
    let room = c.requires.taken.room in
    omega arith
