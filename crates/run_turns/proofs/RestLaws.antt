-- A pass stands at rest after a call that gives all back, and after its telling.
use Rattle.std.proofs.Common.{◌≡◌, ◌∙◌, ℕ, List, refl, sym, ap, subst}
use Rattle.std.specs.Prelude.{Bool, false, Option, Some}
use Rattle.core_data.specs.declared.values.WorkItem.{WorkItem}
use Rattle.handoff_data.specs.declared.shape.Shape.{Shape}
use Rattle.run_cells.specs.Telling.{cleared}
use Rattle.run_queue.specs.Rests.{Rests}
use Rattle.run_turns.specs.Standing.{IsAtRest}
use Rattle.sched_switch.specs.Standing.{IsSteady}
use Rattle.task_words.specs.Closing.{empty_turn}
use Rattle.task_words.specs.Views.{PassView, IsSame}
use Rattle.wait_queue.specs.Settles.{Settles}
use Rattle.word_steps.specs.Folds.{current_task, task_to_clear, owes_walk}

-- all is told, and the turn empty
pub rest_told : (made new : PassView) → new ≡ cleared made → IsSteady made → ((k : ℕ) → owes_walk made.trace k ≡ false) → IsAtRest new
rest_told made new is steady paid = subst IsAtRest (sym is) (record {
  steady = record {
    tasks = steady.tasks;
    queues = steady.queues;
    works = steady.works;
    waits = steady.waits;
    body = steady.body;
    claimed = steady.claimed;
    clear = steady.clear;
    stays = steady.stays;
  };
  turn = refl;
  paid = paid;
})

module _ (old new : PassView) (same : new.seat ≡ old.seat) where
  still_current : current_task old.seat new.trace ≡ current_task old.seat old.trace → (t : ℕ) → current_task new.seat new.trace ≡ Some t
      → current_task old.seat old.trace ≡ Some t
  still_current current t is = sym current ∙ sym (ap (λ (n : ℕ). current_task n new.trace) same) ∙ is

  -- after a call on a wait queue
  pub steady_settled : Settles old.seat old.trace new.trace → IsSteady old → IsSteady new
  steady_settled settles is = record {
    tasks = λ t. settles.tasks t (is.tasks t);
    queues = settles.queues is.queues;
    works = λ c. ap (λ (h : ℕ → Option (List WorkItem)). h c) settles.untouched.works ∙ is.works c;
    waits = λ k. settles.waits k (is.waits k);
    body = settles.untouched.body ∙ is.body;
    claimed = λ t. settles.claimed t (is.claimed t);
    clear = ap (λ (n : ℕ). task_to_clear n new.trace) same ∙ settles.clear ∙ is.clear;
    stays = λ t current. settles.untouched.stays ∙ is.stays t (still_current settles.current t current);
  }

  pub current_settled : Settles old.seat old.trace new.trace → current_task new.seat new.trace ≡ current_task old.seat old.trace
  current_settled settles = ap (λ (n : ℕ). current_task n new.trace) same ∙ settles.current

  -- after a start
  pub steady_rests : Rests old.seat old.trace new.trace → IsSteady old → IsSteady new
  steady_rests rests is = record {
    tasks = λ t. rests.tasks t (is.tasks t);
    queues = rests.queues is.queues;
    works = λ c. ap (λ (h : ℕ → Option (List WorkItem)). h c) rests.apart.untouched.works ∙ is.works c;
    waits = λ k. ap (λ (h : ℕ → Option _). h k) rests.apart.waits ∙ is.waits k;
    body = rests.apart.untouched.body ∙ is.body;
    claimed = λ t. rests.claimed t (is.claimed t);
    clear = ap (λ (n : ℕ). task_to_clear n new.trace) same ∙ rests.clear ∙ is.clear;
    stays = λ t current. rests.apart.untouched.stays ∙ is.stays t (still_current rests.current t current);
  }

  pub paid_rests : Rests old.seat old.trace new.trace → ((k : ℕ) → owes_walk old.trace k ≡ false) → (k : ℕ) → owes_walk new.trace k ≡ false
  paid_rests rests paid k = ap (λ (h : ℕ → Bool). h k) rests.apart.owes ∙ paid k

-- steps without an entry leave the turn empty
pub turn_same : (old new : PassView) → IsSame old new → old.turn ≡ empty_turn old.shape.tasks → new.turn ≡ empty_turn new.shape.tasks
turn_same old new same is = same.same_turn ∙ is ∙ ap (λ (shape : Shape). empty_turn shape.tasks) (sym same.same.same_shape)

pub rest_settled : (old new : PassView) → IsSame old new → Settles old.seat old.trace new.trace → IsAtRest old → IsAtRest new
rest_settled old new same settles is = record {
  steady = steady_settled old new same.same.same_seat settles is.steady;
  turn = turn_same old new same is.turn;
  paid = λ k. settles.owes k (is.paid k);
}

pub same_again : (a b c : PassView) → IsSame a b → IsSame b c → IsSame a c
same_again a b c x y = record {
  same = record {
    table = y.same.table ∙ x.same.table;
    same_shape = y.same.same_shape ∙ x.same.same_shape;
    same_lasting = y.same.same_lasting ∙ x.same.same_lasting;
    same_seat = y.same.same_seat ∙ x.same.same_seat;
    same_told = y.same.same_told ∙ x.same.same_told;
  };
  same_turn = y.same_turn ∙ x.same_turn;
}
