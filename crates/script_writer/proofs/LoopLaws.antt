-- One text more is written.
use Rattle.std.proofs.Common.{◌≡◌, ℕ, ◌+◌, List, [], ◌∷◌, ◌++◌, map, drop, Some, sym, ap, ◌∙◌, append_assoc}
use Rattle.std.specs.Prelude.{slice_get}
use Rattle.std.proofs.lemmas.List.{at_drop_more}
use Rattle.std.proofs.lemmas.Option.{slice_get_within, get_or_from_slice_get}
use Rattle.script_writer.specs.Spelling.{spelled_text, text_of}

abbrev texts_text : List (List ℕ) → List ℕ
texts_text texts = text_of (map spelled_text texts)

pub one_text : (front new whole : List ℕ) (texts : List (List ℕ)) (i : ℕ) (text word : List ℕ) → slice_get texts i ≡ Some text → word ≡ text
    → new ≡ front ++ (spelled_text word ++ 10 ∷ []) → front ++ text_of (map spelled_text (drop i texts)) ≡ whole
    → new ++ text_of (map spelled_text (drop (i + 1) texts)) ≡ whole
one_text front new whole texts i text word e same n left =
    let rest = drop (i + 1) texts in
    ap (λ (z : List ℕ). z ++ texts_text rest) (n ∙ ap (λ (w : List ℕ). front ++ (spelled_text w ++ 10 ∷ [])) same)
    ∙ append_assoc front (spelled_text text ++ 10 ∷ []) (texts_text rest)
    ∙ ap (λ (z : List ℕ). front ++ z)
    (sym (at_drop_more texts_text texts i text (slice_get_within texts i text e) ∙ ap (λ (t : List ℕ). texts_text (t ∷ rest)) (get_or_from_slice_get texts i text text e)))
    ∙ left
