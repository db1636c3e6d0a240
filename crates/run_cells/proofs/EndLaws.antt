-- What the end of a table says of its bodies.
use Rattle.std.proofs.Common.{zero, suc, ◌≡◌, ◌<◌, ◌∙◌, ℕ, List, [], ◌∷◌, map, length, get_or, refl, sym, ap, subst, All, arith}
use Rattle.std.specs.Prelude.{Some, slice_get, true}
use Rattle.handoff_data.specs.History.{History}
use Rattle.handoff_data.specs.declared.shape.Shape.{Shape}
use Rattle.handoff_data.specs.declared.state.State.{State}
use Rattle.pipe_bodies.specs.Bodies.{Lasting, BodyView}
use Rattle.pipe_bodies.specs.Lastings.{lasting_code}
use Rattle.pipe_bodies.specs.Lastings.{lasting_of as kept_in}
use Rattle.pipe_bodies.specs.Nets.{HasEnded, lasting_of}
use Rattle.run_cells.specs.Ends.{body_of, kept_of, AllDied}
use Rattle.run_cells.specs.declared.cell.Cell.{Cell}
use Rattle.task_words.specs.Closing.{AllDead, DeadHaveEnded, DeathsAreOfDead}

pub are_dead : (shape : Shape) (j : History) (states : List State) → AllDied j shape.tasks → DeathsAreOfDead j states → AllDead shape states
are_dead shape j states died dead t low = dead t (died t low).0 (died t low).1 (died t low).2

-- what bodies keep comes back from its numbers
pub kept_back : ((l : Lasting) → kept_in (lasting_code l) ≡ l) → (ls : List Lasting) → kept_of (map lasting_code ls) ≡ ls
kept_back law [] = refl
kept_back law (l ∷ ls) = λ i. law l i ∷ kept_back law ls i

module _ {W : Type 0} where
  pub have_ended : (shape : Shape) (cells : List (Cell W)) (states : List State) → length cells ≡ shape.tasks
      → AllDead shape states → DeadHaveEnded (λ (c : Cell W). c.body.seen.ended) cells states → All HasEnded (map body_of cells)
  have_ended shape cells states same dead ended k d lt = ended_at cells k d lt
      (λ c there low. ended k c there (dead k (subst (λ (n : ℕ). k < n) same low)))
    where
      ended_at : (xs : List (Cell W)) (i : ℕ) (e : BodyView) → i < length (map (body_of {W = W}) xs)
          → ((c : Cell W) → slice_get xs i ≡ Some c → i < length xs → c.body.seen.ended ≡ true) → HasEnded (get_or (map body_of xs) i e)
      ended_at [] i e low f = absurd (omega (arith, low))
      ended_at (x ∷ xs) zero e low f = f x refl (omega arith)
      ended_at (x ∷ xs) (suc i) e low f = ended_at xs i e (omega (arith, low)) (λ c there low'. f c there (omega (arith, low')))

  codes_of : (cells : List (Cell W)) → map (λ (c : Cell W). lasting_code c.body.lasting) cells ≡ map lasting_code (map lasting_of (map body_of cells))
  codes_of [] = refl
  codes_of (x ∷ xs) = ap (λ z. lasting_code x.body.lasting ∷ z) (codes_of xs)

  -- the bodies keep what those had that the table began with
  pub same_net : ((a b : List Lasting) → map lasting_code a ≡ map lasting_code b → a ≡ b) → (cells : List (Cell W)) (ls : List Lasting)
      → map (λ (c : Cell W). lasting_code c.body.lasting) cells ≡ map lasting_code ls → ls ≡ map lasting_of (map body_of cells)
  same_net law cells ls e = law ls (map lasting_of (map body_of cells)) (sym e ∙ codes_of cells)
