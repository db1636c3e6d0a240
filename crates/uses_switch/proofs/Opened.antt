-- The passes of a new table have no current task.
use Rattle.std.proofs.Common.{ℕ, zero, suc, map, refl, List, [], ◌∷◌, arith}
use Rattle.std.specs.List.{All, range_with_len}
use Rattle.atomic_table.specs.Seated.{TableId}
use Rattle.handoff_data.specs.declared.shape.Shape.{Shape}
use Rattle.task_words.specs.Closing.{new_pass, first_passes}
use Rattle.uses_switch.specs.Seated.{IsIdle}

module _ (name : TableId) (shape : Shape) (lasting : List (List ℕ)) where
  news_idle : (seats : List ℕ) → All IsIdle (map (new_pass name shape lasting) seats)
  news_idle [] k d lt = absurd (omega arith)
  news_idle (s ∷ seats) zero d lt = record {
    steady = record {
      tasks = λ t. refl;
      queues = λ c. refl;
      works = λ c. refl;
      waits = λ k. refl;
      body = refl;
      claimed = λ t. refl;
      clear = refl;
      stays = λ t e. absurd (grind (arith, e));
    };
    none = refl;
  }
  news_idle (s ∷ seats) (suc k) d lt = news_idle seats k d (omega arith)

  pub firsts_idle : (n : ℕ) → All IsIdle (first_passes name shape lasting n)
  firsts_idle n = news_idle (range_with_len 0 n)
