-- The passes of a new table.
use Rattle.std.proofs.Common.{◌≡◌, ℕ, zero, suc, ◌∙◌, map, refl, sym, subst, List, [], ◌∷◌, zero-add, arith}
use Rattle.std.specs.List.{All, range_with_len}
use Rattle.std.proofs.lemmas.List.FromFn.{length-range_with_len, get_or-range_with_len}
use Rattle.atomic_table.specs.Seated.{TableId}
use Rattle.handoff_data.specs.declared.shape.Shape.{Shape}
use Rattle.task_words.specs.Closing.{new_pass, first_passes, IsDone}
use Rattle.task_words.specs.Views.{PassView, IsOf}
use Rattle.word_table.specs.Begin.{new_token, first_tokens}
use Rattle.word_table.specs.End.{HasEachSeat}
use Rattle.word_table.specs.Views.{TokenView}

module _ (name : TableId) (shape : Shape) (lasting : List (List ℕ)) where
  news_begun : (seats : List ℕ) → All (λ t. t.trace ≡ []) (map (new_token name shape lasting) seats)
  news_begun [] k d lt = absurd (omega arith)
  news_begun (s ∷ seats) zero d lt = refl
  news_begun (s ∷ seats) (suc k) d lt = news_begun seats k d (omega arith)

  pub tokens_begun : (n : ℕ) → All (λ t. t.trace ≡ []) (first_tokens name shape lasting n)
  tokens_begun n = news_begun (range_with_len 0 n)

  news_sized : (seats : List ℕ) → All (λ t. t.shape.tasks ≡ shape.tasks) (map (new_token name shape lasting) seats)
  news_sized [] k d lt = absurd (omega arith)
  news_sized (s ∷ seats) zero d lt = refl
  news_sized (s ∷ seats) (suc k) d lt = news_sized seats k d (omega arith)

  pub tokens_sized : (n : ℕ) → All (λ t. t.shape.tasks ≡ shape.tasks) (first_tokens name shape lasting n)
  tokens_sized n = news_sized (range_with_len 0 n)

  abbrev pub pass_with : TokenView → PassView
  pass_with t = new_pass t.of t.shape t.lasting t.seat

  news_are : (seats : List ℕ)
      → map pass_with (map (new_token name shape lasting) seats) ≡ map (new_pass name shape lasting) seats
  news_are [] = refl
  news_are (s ∷ seats) = λ j. new_pass name shape lasting s ∷ news_are seats j

  pub passes_are : (n : ℕ) → map pass_with (first_tokens name shape lasting n) ≡ first_passes name shape lasting n
  passes_are n = news_are (range_with_len 0 n)

  news_of : (seats : List ℕ)
      → All (IsOf record { name = name; shape = shape; lasting = lasting }) (map (new_pass name shape lasting) seats)
  news_of [] k d lt = absurd (omega arith)
  news_of (s ∷ seats) zero d lt = record { table = refl; same_shape = refl; same_lasting = refl }
  news_of (s ∷ seats) (suc k) d lt = news_of seats k d (omega arith)

  -- each is of its table
  pub firsts_of : (n : ℕ)
      → All (IsOf record { name = name; shape = shape; lasting = lasting }) (first_passes name shape lasting n)
  firsts_of n = news_of (range_with_len 0 n)

  seats_are : (seats : List ℕ) → map (λ (p : PassView). p.seat) (map (new_pass name shape lasting) seats) ≡ seats
  seats_are [] = refl
  seats_are (s ∷ seats) = λ j. s ∷ seats_are seats j

  -- each seat has one
  pub firsts_each : (n : ℕ) → HasEachSeat n (map (λ (p : PassView). p.seat) (first_passes name shape lasting n))
  firsts_each n = subst (HasEachSeat n) (sym (seats_are (range_with_len 0 n))) record {
    each = λ s lt. (s, omega (arith, length-range_with_len 0 n), get_or-range_with_len 0 n s s lt ∙ zero-add s);
  }

  news_done : (seats : List ℕ) → All IsDone (map (new_pass name shape lasting) seats)
  news_done [] k d lt = absurd (omega arith)
  news_done (s ∷ seats) zero d lt = record {
    tasks = λ t. refl;
    queues = λ c. refl;
    works = λ c. refl;
    waits = λ k. refl;
    body = refl;
    current = refl;
    clear = refl;
  }
  news_done (s ∷ seats) (suc k) d lt = news_done seats k d (omega arith)

  -- each has given all back
  pub firsts_done : (n : ℕ) → All IsDone (first_passes name shape lasting n)
  firsts_done n = news_done (range_with_len 0 n)
