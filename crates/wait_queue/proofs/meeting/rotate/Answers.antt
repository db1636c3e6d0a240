use Rattle.std.proofs.Common.{◌≡◌, ◌+◌, sym, subst, ap, length, arith}
use Rattle.wait_queue.proofs.Turning.{turned_more, turned_length}
use Rattle.wait_queue.proofs.meeting.rotate.Goals as goal
use Rattle.wait_queue.specs.Walks.{IsTurned}

pub turn-requires-clause-some : goal.turn-requires-clause-some
turn-requires-clause-some c none =
    let len = turned_length c.loop.counter c.args.entries.now c.loop.entries c.loop.invariant in
    let count = c.requires.count in
    let nothing : length c.loop.entries ≡ 0 = ap length none in absurd (omega arith)

pub turn-requires-clause-few : goal.turn-requires-clause-few
turn-requires-clause-few c =
    let len = turned_length c.loop.counter c.args.entries.now c.loop.entries c.loop.invariant in
    let few = c.requires.few in
    omega arith

pub loop-preserved : goal.loop-preserved
loop-preserved c =
    subst (IsTurned (c.loop.counter + 1) c.args.entries.now) (sym c.turn.ensures.turned.after)
    (turned_more c.loop.counter c.args.entries.now c.loop.entries c.turn.ensures.turned.others c.turn.ensures.turned.head
    c.loop.invariant (let count = c.requires.count in omega arith) c.turn.ensures.turned.before)
