use Rattle.pipe_bodies.proofs.LastingLaws.{lasting_back, same_lasting, same_lastings}
use Rattle.pipe_bodies.proofs.laws.law_lastings.Goals as goal

pub returns-clause-back : goal.returns-clause-back
returns-clause-back c = lasting_back

pub returns-clause-one : goal.returns-clause-one
returns-clause-one c = same_lasting

pub returns-clause-all : goal.returns-clause-all
returns-clause-all c = same_lastings
