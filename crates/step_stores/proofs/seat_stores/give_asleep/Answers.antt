use Rattle.step_stores.proofs.Stores.{give_asleep_lem}
use Rattle.step_stores.proofs.seat_stores.give_asleep.Goals as goal

pub returns : goal.returns
returns c = give_asleep_lem c.args.core.now c.args.s c.index_mut-row.result.now _ c.args.l c.args.taken.now c.args.given.now c.args.sleeper c.requires c.index_mut-row.ensures.value
    c.in_ok-give_asleep.ensures
