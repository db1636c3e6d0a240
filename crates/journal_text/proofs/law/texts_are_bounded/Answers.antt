-- What a text says is bounded by its bytes.
use Rattle.journal_text.proofs.Bounds.{reading_bounded}
use Rattle.journal_text.proofs.law.texts_are_bounded.Goals as goal

pub returns-clause-within : goal.returns-clause-within
returns-clause-within c = λ bytes j is. (reading_bounded bytes j is).0

pub returns-clause-few : goal.returns-clause-few
returns-clause-few c = λ bytes j is. (reading_bounded bytes j is).1
