-- One more line of a copy.
use Rattle.std.proofs.Common.{◌≡◌, ℕ, ◌+◌, List, [], ◌∷◌, ◌++◌, take, sym, ap, ◌∙◌}
use Rattle.std.specs.Prelude.{Some, slice_get}
use Rattle.std.proofs.lemmas.List.{take_more}
use Rattle.std.proofs.lemmas.Option.{get_or_from_slice_get, slice_get_within}
use Rattle.pipe_tasks.specs.Words.{Line}

pub copied : (xs copy more : List Line) (i : ℕ) (line x : Line) → slice_get xs i ≡ Some line → x ≡ line → copy ≡ take i xs → more ≡ copy ++ x ∷ [] → more ≡ take (i + 1) xs
copied xs copy more i line x found same before pushed =
    pushed ∙ ap (λ z. z ++ x ∷ []) before ∙ ap (λ z. take i xs ++ z ∷ []) (same ∙ sym (get_or_from_slice_get xs i line x found)) ∙ sym (take_more xs i x (slice_get_within xs i line found))
