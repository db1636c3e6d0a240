-- A plan that reads two sides takes one item.
use Rattle.std.proofs.Common.{◌≡◌, ◌<◌, ℕ, zero, suc, List, [], ◌∷◌, ◌++◌, length, Bool, true, false, refl, sym, ap, ◌∙◌, subst, arith, append_assoc, append-nil}
use Rattle.std.specs.Prelude.{Some, None, if◌then◌else◌}
use Rattle.task_script.specs.Plan.{sides}
use Rattle.task_script.specs.declared.plan.Plan.{Plan}
use Rattle.task_script.specs.declared.plan.Plan.TheVariants.{Lines, Count, Upper, Number, Keep, Drop, Tally, Cat, Weave, Pin, Table}
use Rattle.pipe_tasks.specs.Words.{Line}
use Rattle.pipe_tasks.specs.Plans.{wants, says, next, last, closed, lines_of}
use Rattle.pipe_tasks.specs.Joins.{ends_left, Advances}
use Rattle.pipe_tasks.proofs.PlanLaws.{lines_of-first, lines_of-second, lines_of-first_end, lines_of-first_ends, lines_of-second_end, lines_of-second_ends, sides-next}

ends_left-next : (p : Plan) (side : ℕ) (line : Line) → ends_left (next p side line) ≡ ends_left p
ends_left-next (Lines left) side line = refl
ends_left-next (Count n l) side line = refl
ends_left-next Upper side line = refl
ends_left-next (Number n) side line = refl
ends_left-next (Keep prefix) side line = refl
ends_left-next (Drop prefix) side line = refl
ends_left-next (Tally n) side line = refl
ends_left-next (Cat turn) side line = refl
ends_left-next (Weave turn false) side line = refl
ends_left-next (Weave turn true) side line = refl
ends_left-next (Pin left on) side line = refl
ends_left-next (Table table ends) side line = refl

-- what is left of a plan that was told an end
record GoesOn (p q : Plan) : Type 0 where
  two : sides q ≡ 2
  fewer : ends_left q < ends_left p

goes_on : (p q : Plan) (side : ℕ) → closed p side ≡ Some q → GoesOn p q
goes_on (Lines left) q side e = cc
goes_on (Count n l) q side e = cc
goes_on Upper q side e = cc
goes_on (Number n) q side e = cc
goes_on (Keep prefix) q side e = cc
goes_on (Drop prefix) q side e = cc
goes_on (Tally n) q side e = cc
goes_on (Cat zero) q side e = let same : Cat 1 ≡ q = cc in subst (λ z. GoesOn (Cat 0) z) same record { two = refl; fewer = omega arith }
goes_on (Cat (suc n)) q side e = cc
goes_on (Weave turn true) q side e = cc
goes_on (Weave zero false) q side e = let same : Weave 1 true ≡ q = cc in subst (λ z. GoesOn (Weave 0 false) z) same record { two = refl; fewer = omega arith }
goes_on (Weave (suc n) false) q side e = let same : Weave 0 true ≡ q = cc in subst (λ z. GoesOn (Weave (suc n) false) z) same record { two = refl; fewer = omega arith }
goes_on (Pin left on) q side e = cc
goes_on (Table table ends) q side e = cc

module _ (p p' : Plan) (x y out out' : List Line) where
  pub advances-first : (line : Line) (x' : List Line) → wants p ≡ Some 0 → sides p ≡ 2 → x ≡ line ∷ x' → p' ≡ next p 0 line → out' ≡ out ++ says p 0 line → Advances p x y out true p' x' y out'
  advances-first line x' w two popped moved said = record {
    lines = ap (λ z. z ++ lines_of p' x' y) said ∙ append_assoc out (says p 0 line) (lines_of p' x' y) ∙ ap (λ q. out ++ (says p 0 line ++ lines_of q x' y)) moved
        ∙ ap (λ z. out ++ z) (sym (lines_of-first p line x' y w)) ∙ ap (λ z. out ++ lines_of p z y) (sym popped);
    two = λ _. ap sides moved ∙ sides-next p 0 line ∙ two;
    fewer = λ _. (let same = ap ends_left moved ∙ ends_left-next p 0 line in let longer = ap length popped in omega arith);
  }

  pub advances-second : (line : Line) (y' : List Line) → wants p ≡ Some 1 → sides p ≡ 2 → y ≡ line ∷ y' → p' ≡ next p 1 line → out' ≡ out ++ says p 1 line → Advances p x y out true p' x y' out'
  advances-second line y' w two popped moved said = record {
    lines = ap (λ z. z ++ lines_of p' x y') said ∙ append_assoc out (says p 1 line) (lines_of p' x y') ∙ ap (λ q. out ++ (says p 1 line ++ lines_of q x y')) moved
        ∙ ap (λ z. out ++ z) (sym (lines_of-second p line x y' w)) ∙ ap (λ z. out ++ lines_of p x z) (sym popped);
    two = λ _. ap sides moved ∙ sides-next p 1 line ∙ two;
    fewer = λ _. (let same = ap ends_left moved ∙ ends_left-next p 1 line in let longer = ap length popped in omega arith);
  }

  pub advances-first_end : (on : Bool) (x' : List Line) → wants p ≡ Some 0 → x ≡ [] → x' ≡ [] → closed p 0 ≡ (if on then Some p' else None) → out' ≡ out ++ last p 0
      → Advances p x y out on p' x' y out'
  advances-first_end true x' w none none' e said =
      let g = goes_on p p' 0 e in
      record {
        lines = ap (λ z. z ++ lines_of p' x' y) said ∙ ap (λ z. (out ++ last p 0) ++ lines_of p' z y) none' ∙ append_assoc out (last p 0) (lines_of p' [] y)
            ∙ ap (λ z. out ++ z) (sym (lines_of-first_end p p' y w e)) ∙ ap (λ z. out ++ lines_of p z y) (sym none);
        two = λ _. g.two;
        fewer = λ _. (let shorter = ap length none' in let few = g.fewer in omega arith);
      }
  advances-first_end false x' w none none' e said = record {
    lines = append-nil out' ∙ said ∙ ap (λ z. out ++ z) (sym (lines_of-first_ends p y w e)) ∙ ap (λ z. out ++ lines_of p z y) (sym none);
    two = λ f. cc;
    fewer = λ f. cc;
  }

  pub advances-second_end : (on : Bool) (y' : List Line) → wants p ≡ Some 1 → y ≡ [] → y' ≡ [] → closed p 1 ≡ (if on then Some p' else None) → out' ≡ out ++ last p 1
      → Advances p x y out on p' x y' out'
  advances-second_end true y' w none none' e said =
      let g = goes_on p p' 1 e in
      record {
        lines = ap (λ z. z ++ lines_of p' x y') said ∙ ap (λ z. (out ++ last p 1) ++ lines_of p' x z) none' ∙ append_assoc out (last p 1) (lines_of p' x [])
            ∙ ap (λ z. out ++ z) (sym (lines_of-second_end p p' x w e)) ∙ ap (λ z. out ++ lines_of p x z) (sym none);
        two = λ _. g.two;
        fewer = λ _. (let shorter = ap length none' in let few = g.fewer in omega arith);
      }
  advances-second_end false y' w none none' e said = record {
    lines = append-nil out' ∙ said ∙ ap (λ z. out ++ z) (sym (lines_of-second_ends p x w e)) ∙ ap (λ z. out ++ lines_of p x z) (sym none);
    two = λ f. cc;
    fewer = λ f. cc;
  }
