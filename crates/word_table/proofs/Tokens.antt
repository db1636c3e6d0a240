-- The tokens of a new table.
use Rattle.std.proofs.Common.{◌≡◌, ℕ, zero, suc, ◌+◌, map, refl, sym, ◌∙◌, List, [], ◌∷◌, ◌++◌, subst, zero-add, arith}
use Rattle.std.specs.List.{All, range_with_len}
use Rattle.std.proofs.lemmas.List.FromFn.{length-range_with_len, get_or-range_with_len, map-range_with_len_more}
use Rattle.atomic_table.specs.Seated.{TableId}
use Rattle.handoff_data.specs.declared.shape.Shape.{Shape}
use Rattle.word_table.specs.Begin.{new_token, first_tokens}
use Rattle.word_table.specs.End.{HasEachSeat, IsIdle}
use Rattle.word_table.specs.Parts.{Known}
use Rattle.word_table.specs.Ruled.{lastings, known_of}
use Rattle.word_table.specs.Views.{TokenView, IsFor}
use Rattle.word_table.specs.declared.slot.Key.{Key}

module _ (name : TableId) (shape : Shape) (lasting : List (List ℕ)) where
  token_more : (n : ℕ) → first_tokens name shape lasting (n + 1) ≡ first_tokens name shape lasting n ++ new_token name
      shape lasting n ∷ []
  token_more n = map-range_with_len_more (new_token name shape lasting) 0 n n (zero-add n)

  -- one token more is dealt
  pub token_dealt : (n : ℕ) (before after : List TokenView) (token : TokenView)
      → before ≡ first_tokens name shape lasting n → token ≡ new_token name shape lasting n
      → after ≡ before ++ token ∷ []
      → after ≡ first_tokens name shape lasting (n + 1)
  token_dealt n before after token were is got = got ∙ (λ j. were j ++ is j ∷ []) ∙ sym (token_more n)

  news_are : (seats : List ℕ) → All (IsFor name shape lasting) (map (new_token name shape lasting) seats)
  news_are [] k d lt = absurd (omega arith)
  news_are (s ∷ seats) zero d lt = record { table = refl; same_shape = refl; same_lasting = refl }
  news_are (s ∷ seats) (suc k) d lt = news_are seats k d (omega arith)

  -- each is of its table
  pub firsts_are : (n : ℕ) → All (IsFor name shape lasting) (first_tokens name shape lasting n)
  firsts_are n = news_are (range_with_len 0 n)

  seats_are : (seats : List ℕ) → map (λ (t : TokenView). t.seat) (map (new_token name shape lasting) seats) ≡ seats
  seats_are [] = refl
  seats_are (s ∷ seats) = λ j. s ∷ seats_are seats j

  -- each seat has one
  pub firsts_each : (n : ℕ) → HasEachSeat n (map (λ (t : TokenView). t.seat) (first_tokens name shape lasting n))
  firsts_each n = subst (HasEachSeat n) (sym (seats_are (range_with_len 0 n))) record {
    each = λ s lt. (s, omega (arith, length-range_with_len 0 n), get_or-range_with_len 0 n s s lt ∙ zero-add s);
  }

  news_idle : (seats : List ℕ) → All IsIdle (map (new_token name shape lasting) seats)
  news_idle [] k d lt = absurd (omega arith)
  news_idle (s ∷ seats) zero d lt = record {
    tasks = λ t. refl;
    queues = λ c. refl;
    works = λ c. refl;
    waits = λ k. refl;
    body = refl;
    current = refl;
    clear = refl;
  }
  news_idle (s ∷ seats) (suc k) d lt = news_idle seats k d (omega arith)

  -- each is idle
  pub firsts_idle : (n : ℕ) → All IsIdle (first_tokens name shape lasting n)
  firsts_idle n = news_idle (range_with_len 0 n)

-- the token of a seat that was dealt
pub token_is : {B : Type 0} (lasting : B → List ℕ) (key : Key B) (name id : TableId) (k s : ℕ) (known : Known)
    (token : TokenView) → id ≡ name → known ≡ known_of lasting key → k ≡ s
    → token ≡ new_token id known.shape known.lasting k → token ≡ new_token name key.shape (lastings lasting key) s
token_is lasting key name id k s known token table is same got = got
    ∙ λ j. new_token (table j) (is j).shape (is j).lasting (same j)
