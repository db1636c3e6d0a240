-- The passes of a new table stand between two calls.
use Rattle.std.proofs.Common.{◌≡◌, ℕ, zero, suc, map, refl, sym, subst, List, [], ◌∷◌, arith, Result, Ok, Err, IfOk}
use Rattle.std.specs.List.{All, range_with_len}
use Rattle.atomic_table.specs.Seated.{TableId}
use Rattle.handoff_data.specs.declared.shape.Shape.{Shape}
use Rattle.task_words.specs.Closing.{new_pass, first_passes}
use Rattle.task_words.specs.Seats.{IsBetween}
use Rattle.task_words.specs.Views.{PassView}

module _ (name : TableId) (shape : Shape) (lasting : List (List ℕ)) where
  news_between : (seats : List ℕ) → All IsBetween (map (new_pass name shape lasting) seats)
  news_between [] k d lt = absurd (omega arith)
  news_between (s ∷ seats) zero d lt = record {
    free = record {
      nothing = record { tasks = λ t. refl; queues = λ c. refl; works = λ c. refl; waits = λ k. refl; body = refl };
      unclaimed = λ t. refl;
    };
    idle = refl;
    clear = refl;
  }
  news_between (s ∷ seats) (suc k) d lt = news_between seats k d (omega arith)

  pub firsts_between : (n : ℕ) → All IsBetween (first_passes name shape lasting n)
  firsts_between n = news_between (range_with_len 0 n)

-- .. where a table was made
pub ok_firsts :
    {A E : Type 0} (r : Result A E) (items : A → List PassView) (name : A → TableId) (shape : A → Shape)
    (lasting : A → List (List ℕ)) (n : ℕ)
    → IfOk r (λ a. items a ≡ first_passes (name a) (shape a) (lasting a) n) → IfOk r (λ a. All IsBetween (items a))
ok_firsts (Ok a) items name shape lasting n is =
    subst (λ (xs : List PassView). All IsBetween xs) (sym is) (firsts_between (name a) (shape a) (lasting a) n)
ok_firsts (Err e) items name shape lasting n is = is
