-- The locks of one kind, when one of them is taken or given.
use Rattle.std.proofs.Common.{◌≡◌, ℕ, ◌<◌, Some, None, Option, arith}
use Rattle.std.specs.Prelude.{IsSome}
use Rattle.std.proofs.lemmas.Bool.Decides.{nat_tests}
use Rattle.core_data.specs.Columns.{put, put_at}
use Rattle.core_invariant.specs.Locks.{IsGuarded}

pub IsGuarded-take : (A : Type 0) (count seats : ℕ) (lock : ℕ → Option ℕ) (home : ℕ → Option A) (out : ℕ → ℕ → Option A) (s k : ℕ) → IsGuarded A count seats lock home out → s < seats → lock k ≡ None
    → IsSome (home k)
    → IsGuarded A count seats (put lock k (Some s)) (put home k None) (put_at out s k (home k))
IsGuarded-take A count seats lock home out s k p seat free there =
    record {
      free_home = λ j h e. grind (arith, nat_tests, p.free_home j h);
      held_seat = λ j u e. grind (arith, nat_tests, p.held_seat j u);
      held_away = λ j u e. grind (arith, nat_tests, p.held_away j u);
      held_out = λ j u e. grind (arith, nat_tests, p.held_out j u);
      out_held = λ u j e. grind (arith, nat_tests, p.out_held u j);
    }

pub IsGuarded-give : (A : Type 0) (count seats : ℕ) (lock : ℕ → Option ℕ) (home : ℕ → Option A) (out : ℕ → ℕ → Option A) (s k : ℕ) (val : A) → IsGuarded A count seats lock home out → lock k ≡ Some s
    → IsGuarded A count seats (put lock k None) (put home k (Some val)) (put_at out s k None)
IsGuarded-give A count seats lock home out s k val p locked =
    record {
      free_home = λ j h e. grind (arith, nat_tests, p.free_home j h);
      held_seat = λ j u e. grind (arith, nat_tests, p.held_seat j u);
      held_away = λ j u e. grind (arith, nat_tests, p.held_away j u);
      held_out = λ j u e. grind (arith, nat_tests, p.held_out j u);
      out_held = λ u j e. grind (arith, nat_tests, p.out_held u j);
    }
