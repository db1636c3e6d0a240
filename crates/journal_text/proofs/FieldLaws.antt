-- Where words and gaps end.
use Rattle.std.proofs.Common.{◌≡◌, ℕ, ◌<◌, ◌≤◌, List, length, get_or, true, false, not, sym, ap}
use Rattle.std.proofs.lemmas.List.Sums.{position_or_len_is}
use Rattle.journal_text.specs.Fields.{is_blank, word_len, gap_len}

pub word_end : (bs : List ℕ) (i : ℕ) → i ≤ length bs → ((k : ℕ) → k < i → is_blank (get_or bs k 0) ≡ false)
    → (i < length bs → is_blank (get_or bs i 0) ≡ true) → i ≡ word_len bs
unfolding word_len
word_end bs i within before here = sym (position_or_len_is is_blank bs i 0 within before here)

pub gap_end : (bs : List ℕ) (i : ℕ) → i ≤ length bs → ((k : ℕ) → k < i → is_blank (get_or bs k 0) ≡ true)
    → (i < length bs → is_blank (get_or bs i 0) ≡ false) → i ≡ gap_len bs
unfolding gap_len
gap_end bs i within before here =
    sym (position_or_len_is (λ b. not (is_blank b)) bs i 0 within (λ k less. ap not (before k less)) (λ less. ap not (here less)))
