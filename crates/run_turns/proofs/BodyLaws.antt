-- The body of the current task goes out, and comes home.
use Rattle.std.proofs.Common.{◌≡◌, ◌∙◌, ℕ, ◌∷◌, List, refl, sym, ap, subst, arith}
use Rattle.std.specs.Prelude.{Bool, true, Option, Some, IsSome, IfSome, unwrap_or}
use Rattle.std.proofs.lemmas.Bool.Decides.{nat_tests}
use Rattle.run_turns.proofs.RestLaws.{turn_same}
use Rattle.run_turns.specs.Standing.{IsAtRest}
use Rattle.task_words.specs.Bodies.{IsBodyOut}
use Rattle.task_words.specs.Views.{PassView, IsSame}
use Rattle.word_steps.specs.Folds.{task_held, queue_held, works_held, wait_held, body_held, is_claimed, current_task, stays_queued, task_to_clear, ended_known, owes_walk}
use Rattle.word_steps.specs.Records.{Rec, OutBody, HomeBody}

out_known : (t : ℕ) (e : Bool) (old : List Rec) → ended_known (OutBody t e ∷ old) t ≡ Some e
out_known t e old = grind (arith, nat_tests)

pub home_known : (t : ℕ) (e : Bool) (old : List Rec) → ended_known (HomeBody t e ∷ old) t ≡ Some e
home_known t e old = grind (arith, nat_tests)

pub out_body : (s t : ℕ) (old : List Rec) (e e' : Bool) → current_task s old ≡ Some t → (e ≡ true → e' ≡ true)
    → IsBodyOut s (OutBody t e ∷ old) e'
out_body s t old e e' current stays = record {
  runs = subst (λ (o : Option ℕ). IsSome o) (sym current) refl;
  out = sym current;
  stays = subst (λ (o : Option ℕ). IfSome (ended_known (OutBody t e ∷ old) (unwrap_or o 0)) (λ was. was ≡ true → e' ≡ true)) (sym current)
      (subst (λ (o : Option Bool). IfSome o (λ was. was ≡ true → e' ≡ true)) (sym (out_known t e old)) stays);
}

-- the body may come home to the pass from which it went out
pub may_come_home : (old out : PassView) (t : ℕ) (e e' : Bool) → IsSame old out → current_task old.seat old.trace ≡ Some t
    → out.trace ≡ OutBody (unwrap_or (current_task old.seat old.trace) 0) e ∷ old.trace → (e ≡ true → e' ≡ true)
    → IsBodyOut out.seat out.trace e'
may_come_home old out t e e' same current did stays =
    let is : out.trace ≡ OutBody t e ∷ old.trace = did ∙ ap (λ (o : Option ℕ). OutBody (unwrap_or o 0) e ∷ old.trace) current in
    subst (λ (z : ℕ × List Rec). IsBodyOut z.0 z.1 e') (λ i. (sym same.same.same_seat i, sym is i)) (out_body old.seat t old.trace e e' current stays)

-- .. which then has both steps
pub came_home : (old out new : PassView) (t : ℕ) (e e' : Bool) → IsSame old out → current_task old.seat old.trace ≡ Some t
    → out.trace ≡ OutBody (unwrap_or (current_task old.seat old.trace) 0) e ∷ old.trace
    → new.trace ≡ HomeBody (unwrap_or (current_task out.seat out.trace) 0) e' ∷ out.trace
    → new.trace ≡ HomeBody t e' ∷ OutBody t e ∷ old.trace
came_home old out new t e e' same current did home =
    let is : out.trace ≡ OutBody t e ∷ old.trace = did ∙ ap (λ (o : Option ℕ). OutBody (unwrap_or o 0) e ∷ old.trace) current in
    let cur : current_task out.seat out.trace ≡ Some t =
    ap (λ (z : ℕ × List Rec). current_task z.0 z.1) (λ i. (same.same.same_seat i, is i)) ∙ current in
    home ∙ ap (λ (z : Option ℕ × List Rec). HomeBody (unwrap_or z.0 0) e' ∷ z.1) (λ i. (cur i, is i))

module _ (old new : PassView) (t : ℕ) (e e' : Bool) (same : IsSame old new) (did : new.trace ≡ HomeBody t e' ∷ OutBody t e ∷ old.trace) where
  pub current_body : current_task new.seat new.trace ≡ current_task old.seat old.trace
  current_body = ap (λ (z : ℕ × List Rec). current_task z.0 z.1) (λ i. (same.same.same_seat i, did i))

  pub rest_body : IsAtRest old → IsAtRest new
  rest_body is = record {
    steady = record {
      tasks = λ u. ap (λ (z : List Rec). task_held z u) did ∙ is.steady.tasks u;
      queues = λ u. ap (λ (z : List Rec). queue_held z u) did ∙ is.steady.queues u;
      works = λ u. ap (λ (z : List Rec). works_held z u) did ∙ is.steady.works u;
      waits = λ u. ap (λ (z : List Rec). wait_held z u) did ∙ is.steady.waits u;
      body = ap body_held did;
      claimed = λ u. ap (λ (z : List Rec). is_claimed z u) did ∙ is.steady.claimed u;
      clear = ap (λ (z : ℕ × List Rec). task_to_clear z.0 z.1) (λ i. (same.same.same_seat i, did i)) ∙ is.steady.clear;
      stays = λ u x. ap stays_queued did ∙ is.steady.stays u (sym current_body ∙ x);
    };
    turn = turn_same old new same is.turn;
    paid = λ k. ap (λ (z : List Rec). owes_walk z k) did ∙ is.paid k;
  }

  pub known_body : ended_known new.trace t ≡ Some e'
  known_body = ap (λ (z : List Rec). ended_known z t) did ∙ home_known t e' (OutBody t e ∷ old.trace)
