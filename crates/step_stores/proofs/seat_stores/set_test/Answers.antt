use Rattle.step_stores.proofs.Stores.{set_test_lem}
use Rattle.step_stores.proofs.seat_stores.set_test.Goals as goal

pub returns : goal.returns
returns c = set_test_lem c.args.core.now c.args.s c.index_mut-row.result.now _ c.args.test c.requires c.index_mut-row.ensures.value c.in_ok-set_test.ensures
