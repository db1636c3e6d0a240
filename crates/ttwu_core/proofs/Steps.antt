-- What a seat may do next on its way through a wake-up.
use Rattle.std.proofs.Common.{◌≢◌, ℕ, ◌∷◌, List, inr, refl, arith}
use Rattle.std.specs.Prelude.{Some}
use Rattle.std.proofs.lemmas.Bool.Decides.{nat_tests}
use Rattle.core_data.specs.Queue.{Queue}
use Rattle.handoff_data.specs.declared.shape.Shape.{Shape}
use Rattle.word_rule.proofs.Uses.{gives_same}
use Rattle.word_rule.specs.May.{MayMakeRunnableWord, MayGiveQueueVal}
use Rattle.word_rule.specs.Told.{TakenQueue}
use Rattle.word_steps.specs.Folds.{current_task}
use Rattle.word_steps.specs.Records.{Rec, Took, Queued, LoadedRq}
use Rattle.word_steps.specs.declared.val.Val.TheVariants as val

-- The queueing of a claimed task

module _ (shape : Shape) (s t c m : ℕ) (v : Queue) (rs : List Rec) where
  pub make_runnable_woken_may : current_task s rs ≢ Some t → (x : ℕ)
      → MayMakeRunnableWord s (Queued t c 0 m ∷ Took c (val.Queue v) ∷ rs) t x 0
  make_runnable_woken_may other x = record {
    after = refl;
    ready = inr (inr (
      c,
      record {
        queue = grind (arith, nat_tests);
        there = grind (arith, nat_tests);
        added = grind (arith, nat_tests);
        other = other;
      },
    ));
  }

-- The look for a task under the lock of its queue

module _ (shape : Shape) (s c : ℕ) (v : Queue) (rs : List Rec) where
  pub give_looked_may : (t on m : ℕ) → TakenQueue shape s rs c v
      → MayGiveQueueVal s (LoadedRq t on m ∷ Took c (val.Queue v) ∷ rs) shape c v
  give_looked_may t on m told =
      let may = gives_same shape s c v rs told in
      record {
        taken = may.taken;
        held = may.held;
        stands = may.stands;
        waits = may.waits;
        next = may.next;
        others = may.others;
        own = may.own;
        clear = may.clear;
        left = may.left;
      }
