use Rattle.run_turns.proofs.TurnMeaning.{idled, turn_picked, turn_raised}
use Rattle.run_turns.proofs.law.law_turn.Goals as goal

pub returns-clause-idle : goal.returns-clause-idle
returns-clause-idle c = λ shape net old new did. idled old new did

pub returns-clause-ran : goal.returns-clause-ran
returns-clause-ran c = λ shape net t v old new did. turn_picked shape net t v old new did

pub returns-clause-raised : goal.returns-clause-raised
returns-clause-raised c = λ shape net t v old new did. turn_raised shape net t v old new did
