-- Steps that are apart from wait queues, works and bodies.
use Rattle.std.proofs.Common.{◌≡◌, ◌∙◌, ℕ, ◌∷◌, List, refl, arith}
use Rattle.std.specs.Prelude.{Bool, true, false, ◌==◌, if◌then◌else◌, Option}
use Rattle.std.proofs.lemmas.Bool.Decides.{nat_tests}
use Rattle.core_data.specs.Queue.{Queue}
use Rattle.core_data.specs.declared.values.TaskVal.{TaskVal}
use Rattle.core_kinds.specs.Steps.{is_match, normal}
use Rattle.handoff_data.specs.declared.state.State.{State}
use Rattle.run_queue.specs.Queueing.{placed}
use Rattle.run_queue.specs.Rests.{IsApart}
use Rattle.task_words.proofs.Frames.{untouched_still, untouched_again, untouched_next}
use Rattle.word_steps.specs.Folds.{put_column_if, has_passed}
use Rattle.word_steps.specs.Records.{Rec, Took, Gave, Queued, Claimed, MadeRunnable, LoadedState, LoadedRq, LoadedBusy, LoadedCpu, StoredCpu}
use Rattle.word_steps.specs.declared.val.Val.TheVariants as val
use mathlib.Core.Bool.{not}

pub apart_again : (a b c : List Rec) → IsApart a b → IsApart b c → IsApart a c
apart_again a b c x y = record {
  untouched = untouched_again a b c x.untouched y.untouched;
  waits = y.waits ∙ x.waits;
  owes = y.owes ∙ x.owes;
  retaken = y.retaken ∙ x.retaken;
  passed = λ k u e. y.passed k u (x.passed k u e);
}

passed_if : (b : Bool) (t : ℕ) (h : ℕ → ℕ → Bool) (k u : ℕ) → h k u ≡ true → put_column_if b t true h k u ≡ true
passed_if true t h k u e = grind (arith, nat_tests, e)
passed_if false t h k u e = e

module _ (old : List Rec) where
  pub none_apart : IsApart old old
  none_apart = record {
    untouched = untouched_still old;
    waits = refl;
    owes = refl;
    retaken = refl;
    passed = λ k u e. e;
  }

  pub took_task_apart : (t : ℕ) (v : TaskVal) → IsApart old (Took t (val.Task v) ∷ old)
  took_task_apart t v = record {
    untouched = untouched_next old (Took t (val.Task v)) refl;
    waits = refl;
    owes = refl;
    retaken = refl;
    passed = λ k u e. e;
  }

  pub gave_task_apart : (t : ℕ) (v w : TaskVal) → IsApart old (Gave t (val.Task v) (val.Task w) ∷ old)
  gave_task_apart t v w = record {
    untouched = untouched_next old (Gave t (val.Task v) (val.Task w)) refl;
    waits = refl;
    owes = refl;
    retaken = refl;
    passed = λ k u e. e;
  }

  pub took_queue_apart : (c : ℕ) (v : Queue) → IsApart old (Took c (val.Queue v) ∷ old)
  took_queue_apart c v = record {
    untouched = untouched_next old (Took c (val.Queue v)) refl;
    waits = refl;
    owes = refl;
    retaken = refl;
    passed = λ k u e. e;
  }

  pub gave_queue_apart : (c : ℕ) (v w : Queue) → IsApart old (Gave c (val.Queue v) (val.Queue w) ∷ old)
  gave_queue_apart c v w = record {
    untouched = untouched_next old (Gave c (val.Queue v) (val.Queue w)) refl;
    waits = refl;
    owes = refl;
    retaken = refl;
    passed = λ k u e. e;
  }

  pub queued_apart : (t c on m : ℕ) → IsApart old (Queued t c on m ∷ old)
  queued_apart t c on m = record {
    untouched = untouched_next old (Queued t c on m) refl;
    waits = refl;
    owes = refl;
    retaken = refl;
    passed = λ k u e. e;
  }

  pub rq_apart : (t on m : ℕ) → IsApart old (LoadedRq t on m ∷ old)
  rq_apart t on m = record {
    untouched = untouched_next old (LoadedRq t on m) refl;
    waits = refl;
    owes = refl;
    retaken = refl;
    passed = λ k u e. e;
  }

  pub busy_apart : (t : ℕ) (busy : Bool) (n : ℕ) → IsApart old (LoadedBusy t busy n ∷ old)
  busy_apart t busy n = record {
    untouched = untouched_next old (LoadedBusy t busy n) refl;
    waits = refl;
    owes = refl;
    retaken = refl;
    passed = λ k u e. e;
  }

  pub cpu_apart : (t c : ℕ) → IsApart old (LoadedCpu t c ∷ old)
  cpu_apart t c = record {
    untouched = untouched_next old (LoadedCpu t c) refl;
    waits = refl;
    owes = refl;
    retaken = refl;
    passed = λ k u e. e;
  }

  pub store_cpu_apart : (t c : ℕ) → IsApart old (StoredCpu t c ∷ old)
  store_cpu_apart t c = record {
    untouched = untouched_next old (StoredCpu t c) refl;
    waits = refl;
    owes = refl;
    retaken = refl;
    passed = λ k u e. e;
  }

  pub claimed_apart : (t m : ℕ) → IsApart old (Claimed t m ∷ old)
  claimed_apart t m = record { untouched = untouched_next old (Claimed t m) refl; waits = refl; owes = refl; retaken = refl; passed = λ k u e. grind (arith, nat_tests, e) }

  pub made_runnable_apart : (t : ℕ) → IsApart old (MadeRunnable t ∷ old)
  made_runnable_apart t = record { untouched = untouched_next old (MadeRunnable t) refl; waits = refl; owes = refl; retaken = refl; passed = λ k u e. grind (arith, nat_tests, e) }

  pub state_apart : (t : ℕ) (mask : Option State) (state : State) → IsApart old (LoadedState t mask state ∷ old)
  state_apart t mask state = record {
    untouched = untouched_next old (LoadedState t mask state) refl;
    waits = refl;
    owes = refl;
    retaken = refl;
    passed = λ k u e. passed_if (not (is_match state normal)) t (has_passed old) k u e;
  }

either_apart : (same : Bool) (t c from : ℕ) (trace : List Rec)
    → IsApart trace (if same then LoadedCpu t from ∷ trace else StoredCpu t c ∷ LoadedCpu t from ∷ trace)
either_apart true t c from trace = cpu_apart trace t from
either_apart false t c from trace =
    apart_again trace (LoadedCpu t from ∷ trace) (StoredCpu t c ∷ LoadedCpu t from ∷ trace) (cpu_apart trace t from)
    (store_cpu_apart (LoadedCpu t from ∷ trace) t c)

pub placed_apart : (t c from : ℕ) (trace : List Rec) → IsApart trace (placed t from c trace)
placed_apart t c from trace = either_apart (from == c) t c from trace
