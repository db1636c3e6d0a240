use Rattle.run_turns.proofs.TurnMeaning.{turn_waited_in, turn_waited_out, turn_died}
use Rattle.run_turns.proofs.law.law_went_on.Goals as goal

pub returns-clause-waits_in : goal.returns-clause-waits_in
returns-clause-waits_in c = λ shape net t side x v old new did then is. turn_waited_in shape net t v old new did side x then is

pub returns-clause-waits_out : goal.returns-clause-waits_out
returns-clause-waits_out c = λ shape net t v old new did then. turn_waited_out shape net t v old new did then

pub returns-clause-exits : goal.returns-clause-exits
returns-clause-exits c = λ shape net t v old new did then. turn_died shape net t v old new did then
