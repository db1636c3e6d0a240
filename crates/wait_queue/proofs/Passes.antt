-- What a wake-up leaves to those after it.
use Rattle.std.proofs.Common.{◌≡◌, ◌∙◌, ℕ, ◌++◌, ◌∷◌, [], List, refl, sym}
use Rattle.run_queue.proofs.Apart.{apart_again, none_apart}
use Rattle.run_queue.specs.Rests.{IsApart, Rests}
use Rattle.task_words.specs.Views.{PassView, IsSameSeat}
use Rattle.wait_queue.specs.Meets.{Meeting, HasPassedAll}
use Rattle.wait_queue.specs.Settles.{IsFree}
use Rattle.word_steps.specs.Records.{Rec}

pub same_seat_again : (a b c : PassView) → IsSameSeat a b → IsSameSeat b c → IsSameSeat a c
same_seat_again a b c x y = record {
  table = y.table ∙ x.table;
  same_shape = y.same_shape ∙ x.same_shape;
  same_lasting = y.same_lasting ∙ x.same_lasting;
  same_seat = y.same_seat ∙ x.same_seat;
  same_told = y.same_told ∙ x.same_told;
}

module _ (s : ℕ) where
  pub rests_none : (a : List Rec) → Rests s a a
  rests_none a = record {
    tasks = λ u e. e;
    queues = λ e. e;
    claimed = λ u e. e;
    current = refl;
    clear = refl;
    apart = none_apart a;
  }

  pub rests_again : (a b c : List Rec) → Rests s a b → Rests s b c → Rests s a c
  rests_again a b c x y = record {
    tasks = λ u e. y.tasks u (x.tasks u e);
    queues = λ e. y.queues (x.queues e);
    claimed = λ u e. y.claimed u (x.claimed u e);
    current = y.current ∙ x.current;
    clear = y.clear ∙ x.clear;
    apart = apart_again a b c x.apart y.apart;
  }

  pub free_still : (a b : List Rec) → IsFree s a → Rests s a b → IsFree s b
  free_still a b free x = record {
    tasks = λ t. x.tasks t (free.tasks t);
    queues = x.queues free.queues;
    claimed = λ t. x.claimed t (free.claimed t);
    cleared = x.clear ∙ free.cleared;
    stays = λ t e. x.apart.untouched.stays ∙ free.stays t (sym x.current ∙ e);
  }

-- whom the seat has passed it has passed still
pub passed_still : (ms : List Meeting) (a b : List Rec) → HasPassedAll ms a → IsApart a b → HasPassedAll ms b
passed_still [] a b passed apart = tt
passed_still (x ∷ xs) a b passed apart =
    (λ k. apart.passed k x.entry.t (passed.0 k), passed_still xs a b passed.1 apart)

pub passed_more : (ms : List Meeting) (x : Meeting) (trace : List Rec) → HasPassedAll ms trace
    → HasPassedAll (x ∷ []) trace → HasPassedAll (ms ++ x ∷ []) trace
passed_more [] x trace passed one = one
passed_more (y ∷ ys) x trace passed one = (passed.0, passed_more ys x trace passed.1 one)
