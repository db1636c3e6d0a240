-- What entering and leaving a wait queue, and a raise before a walk, leave as it was.
use Rattle.std.proofs.Common.{◌≡◌, ◌≢◌, ◌∙◌, ℕ, ◌∷◌, List, refl, sym, subst, inl, inr, arith}
use Rattle.std.specs.Prelude.{Bool, true, false, ◌==◌, Option, Some, None}
use Rattle.std.specs.List.{filter}
use Rattle.std.proofs.lemmas.Bool.{cases_eq}
use Rattle.std.proofs.lemmas.Bool.Decides.{nat_tests}
use Rattle.core_data.specs.declared.values.WaitEntry.{WaitEntry}
use Rattle.core_kinds.specs.Steps.{running}
use Rattle.core_stores.proofs.Columns.{put_there, put_other}
use Rattle.handoff_data.specs.declared.state.State.{State}
use Rattle.run_queue.specs.Rests.{Rests}
use Rattle.wait_queue.proofs.Passes.{rests_none}
use Rattle.wait_queue.proofs.Walked.{around, apart_of}
use Rattle.wait_queue.specs.Entering.{IsPrepared, IsFinished, with_entry}
use Rattle.wait_queue.specs.Settles.{Settles}
use Rattle.word_steps.specs.Entries.{is_of_other}
use Rattle.word_steps.specs.Folds.{put_column_if, has_passed, wait_held, owes_walk, has_retaken, task_to_clear}
use Rattle.word_steps.specs.Records.{Rec, Took, StateSet, Bumped}
use Rattle.word_steps.specs.declared.val.Val.TheVariants as val

pub none_to_clear : (s t : ℕ) (trace : List Rec) → task_to_clear s trace ≡ None → task_to_clear s trace ≢ Some t
none_to_clear s t trace none e =
    let no : ◌≡◌ {A = Option ℕ} None (Some t) = sym none ∙ e in grind (arith, no)

passed_if : (b : Bool) (t : ℕ) (h : ℕ → ℕ → Bool) (k u : ℕ) → h k u ≡ true → put_column_if b t true h k u ≡ true
passed_if true t h k u e = grind (arith, nat_tests, e)
passed_if false t h k u e = e

-- the own state was stored
own_rests : (s t : ℕ) (state : State) (old : List Rec) → Rests s old (StateSet t state ∷ old)
own_rests s t state old = record {
  tasks = λ u e. e;
  queues = λ e. e;
  claimed = λ u e. e;
  current = refl;
  clear = refl;
  apart = record {
    untouched = record { works = refl; body = refl; ended = refl; stays = refl };
    waits = refl;
    owes = refl;
    retaken = refl;
    passed = λ k u e. passed_if (state.0 == 0) t (has_passed old) k u e;
  };
}

pub prepared_settles : (k : ℕ) (exclusive : Bool) (state : State) (s : ℕ) (old new : List Rec) → wait_held old k ≡ None
    → IsPrepared k exclusive state s old new → Settles s old new
prepared_settles k exclusive state s old new free did =
    subst (Settles s old) (sym did.did)
    (around s k did.v did.v (with_entry (record { t = did.t; exclusive = exclusive }) did.v) old
    (StateSet did.t state ∷ Took k (val.Wait did.v) ∷ old) free
    (own_rests s did.t state (Took k (val.Wait did.v) ∷ old)))

pub finished_settles : (k s : ℕ) (old new : List Rec) → wait_held old k ≡ None → IsFinished k s old new → Settles s old new
finished_settles k s old new free did =
    let stored = StateSet did.t running ∷ old in
    let first = own_rests s did.t running old in
    let then = around s k did.v did.v (filter (is_of_other did.t) did.v) stored (Took k (val.Wait did.v) ∷ stored) free
    (rests_none s (Took k (val.Wait did.v) ∷ stored)) in
    subst (Settles s old) (sym did.did) (record {
      tasks = then.tasks;
      queues = then.queues;
      waits = then.waits;
      claimed = then.claimed;
      owes = then.owes;
      still = λ j v there. let still = then.still j v there in record {
        held = still.held;
        passed = λ t e. still.passed t (first.apart.passed j t e);
        retaken = still.retaken;
      };
      untouched = record { works = then.untouched.works; body = then.untouched.body; ended = then.untouched.ended; stays = then.untouched.stays };
      current = then.current;
      clear = then.clear;
    })

-- a condition was raised, which is paid after it
pub bumped_settles : (s k v : ℕ) (old new : List Rec) → wait_held old k ≡ None → Settles s (Bumped k v ∷ old) new
    → owes_walk new k ≡ false → Settles s old new
bumped_settles s k v old new free x paid = record {
  tasks = x.tasks;
  queues = x.queues;
  waits = x.waits;
  claimed = x.claimed;
  owes = λ j e. elim (cases_eq j k) [
    | inl same ↦ subst (λ (n : ℕ). owes_walk new n ≡ false) (sym same) paid
    | inr apart ↦ x.owes j (put_other (owes_walk old) k true j apart ∙ e)
  ];
  still = λ j w there. let still = x.still j w there in record {
    held = still.held;
    passed = still.passed;
    retaken = still.retaken ∙ put_other (has_retaken old) k false j (apart_of (wait_held old) k j w free there);
  };
  untouched = record { works = x.untouched.works; body = x.untouched.body; ended = x.untouched.ended; stays = x.untouched.stays };
  current = x.current;
  clear = x.clear;
}
