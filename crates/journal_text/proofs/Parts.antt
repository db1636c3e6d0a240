-- The parts of a list round each place that passes a test, one at a time.
use Rattle.std.proofs.Common.{◌≡◌, ℕ, zero, suc, ◌+◌, ◌≤◌, Bool, List, [], ◌∷◌, length, take, drop, ap, sym, ◌∙◌, refl, arith, inl, inr, length-drop}
use Rattle.std.specs.List.{slice_split, position_or_len}
use Rattle.std.proofs.lemmas.Bool.{cases_lt}
use Rattle.std.proofs.lemmas.List.Sums.{fails_before_first}
use Rattle.std.proofs.lemmas.List.Splits.{slice_split_first, slice_split_none}
use Rattle.std.proofs.lemmas.Grind.{common_steps}

-- The first part, and the others.
pub record Parts (p : ℕ → Bool) (rest : List ℕ) : Type 0 where
  pub others : List (List ℕ)
  pub is : slice_split p rest ≡ take (position_or_len p rest) rest ∷ others
  pub last : length (drop (position_or_len p rest) rest) ≡ 0 → others ≡ []
  pub more : (b : ℕ) (more : List ℕ) → drop (position_or_len p rest) rest ≡ b ∷ more → others ≡ slice_split p more

drop_none : (n : ℕ) → drop {A = ℕ} n [] ≡ []
drop_none n = grind (arith, common_steps)

take-all : (rest : List ℕ) (n : ℕ) → length rest ≤ n → take n rest ≡ rest
take-all rest n past = grind (arith, common_steps)

tail_of : (rest : List ℕ) (n b : ℕ) (more : List ℕ) → drop n rest ≡ b ∷ more → drop (n + 1) rest ≡ more
tail_of [] n b more e = absurd (cc (drop_none n))
tail_of (x ∷ rest) zero b more e = cc
tail_of (x ∷ rest) (suc n) b more e =
    let plus : suc n + 1 ≡ suc (n + 1) = omega arith in
    ap (λ k. drop k (x ∷ rest)) plus ∙ tail_of rest n b more e

pub parts : (p : ℕ → Bool) (rest : List ℕ) → position_or_len p rest ≤ length rest → Parts p rest
parts p rest within =
    elim (cases_lt (position_or_len p rest) (length rest)) [
      | inl there ↦ record {
        others = slice_split p (drop (position_or_len p rest + 1) rest);
        is = slice_split_first p rest 0 there;
        last = λ none. absurd (omega (arith, length-drop (position_or_len p rest) rest, none));
        more = λ b more e. ap (slice_split p) (tail_of rest (position_or_len p rest) b more e);
      }
      | inr past ↦ record {
        others = [];
        is = slice_split_none p rest (λ k d less. fails_before_first p rest k d (omega arith))
            ∙ ap (λ front. front ∷ []) (sym (take-all rest (position_or_len p rest) past));
        last = λ _. refl;
        more = λ b more e. absurd (omega (arith, length-drop (position_or_len p rest) rest, ap length e));
      }
    ]
