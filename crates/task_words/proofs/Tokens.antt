-- A token from one step to the next.
use Rattle.std.proofs.Common.{◌≡◌, ◌∙◌, ap}
use Rattle.task_words.specs.Closing.{token_of}
use Rattle.task_words.specs.Views.{PassView}
use Rattle.task_words.specs.Views.{IsOf as IsPassOf}
use Rattle.word_table.specs.Views.{WordsView, TokenView, IsOf, IsSame}

-- nothing was done
pub record IsStill (old new : TokenView) : Type 0 where
  pub same : IsSame old new
  pub trace : new.trace ≡ old.trace

-- the token of a pass is of the table that the pass is of
pub token_is_of : (words : WordsView) (pass : PassView) (token : TokenView) → token ≡ token_of pass → IsPassOf words pass → IsOf words token
token_is_of words pass token is of =
    record {
      table = ap (λ (t : TokenView). t.of) is ∙ of.table;
      same_shape = ap (λ (t : TokenView). t.shape) is ∙ of.same_shape;
      same_lasting = ap (λ (t : TokenView). t.lasting) is ∙ of.same_lasting;
    }
