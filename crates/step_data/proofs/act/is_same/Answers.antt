use Rattle.step_data.proofs.ActLemmas.{is_act_test}
use Rattle.step_data.proofs.act.is_same.Goals as goal

pub returns : goal.returns
returns c = is_act_test _ _ _ c.is_equal-same.ensures
