-- A plan comes back from its code.
use Rattle.std.proofs.Common.{◌≡◌, ℕ, List, [], ◌∷◌, ◌++◌, length, take, drop, refl, ap, ◌∙◌, append_assoc, Bool, true, false}
use Rattle.pipe_tasks.specs.Words.{Line}
use Rattle.pipe_bodies.specs.Codes.{lines_code, lines_from, lines_behind, flag_code, flag_of, plan_code, plan_of}
use Rattle.task_script.specs.declared.plan.Plan.{Plan}
use Rattle.task_script.specs.declared.plan.Plan.TheVariants.{Lines, Count, Upper, Number, Keep, Drop, Tally, Cat, Weave, Pin, Table}

take-whole : (a s : List ℕ) → take (length a) (a ++ s) ≡ a
take-whole [] s = refl
take-whole (x ∷ a) s = ap (λ z. x ∷ z) (take-whole a s)

drop-whole : (a s : List ℕ) → drop (length a) (a ++ s) ≡ s
drop-whole [] s = refl
drop-whole (x ∷ a) s = drop-whole a s

lines_from-code : (x : List Line) → lines_from (length x) (lines_code x) ≡ x
lines_from-code [] = refl
lines_from-code (a ∷ x) = rw (take-whole a (lines_code x), drop-whole a (lines_code x)) (ap (λ z. a ∷ z) (lines_from-code x))

-- the same before more numbers
lines_from-more : (x : List Line) (s : List ℕ) → lines_from (length x) (lines_code x ++ s) ≡ x
lines_from-more [] s = refl
lines_from-more (a ∷ x) s =
    let code : (a ++ lines_code x) ++ s ≡ a ++ (lines_code x ++ s) = append_assoc a (lines_code x) s in
    rw (code, take-whole a (lines_code x ++ s), drop-whole a (lines_code x ++ s)) (ap (λ z. a ∷ z) (lines_from-more x s))

lines_behind-more : (x : List Line) (s : List ℕ) → lines_behind (length x) (lines_code x ++ s) ≡ s
lines_behind-more [] s = refl
lines_behind-more (a ∷ x) s =
    let code : (a ++ lines_code x) ++ s ≡ a ++ (lines_code x ++ s) = append_assoc a (lines_code x) s in
    rw (code, drop-whole a (lines_code x ++ s)) (lines_behind-more x s)

flag_of-code : (b : Bool) → flag_of (flag_code b) ≡ b
flag_of-code true = refl
flag_of-code false = refl

pub plan_of-code : (p : Plan) → plan_of (plan_code p) ≡ p
plan_of-code (Lines left) = ap Lines (lines_from-code left)
plan_of-code (Count n l) = refl
plan_of-code Upper = refl
plan_of-code (Number n) = refl
plan_of-code (Keep prefix) = refl
plan_of-code (Drop prefix) = refl
plan_of-code (Tally n) = refl
plan_of-code (Cat turn) = refl
plan_of-code (Weave turn ended) = ap (λ b. Weave turn b) (flag_of-code ended)
plan_of-code (Pin left on) = ap (λ b. Pin left b) (flag_of-code on)
plan_of-code (Table table ends) = ap (λ z. Table z (lines_from (length ends) (lines_code ends ++ table))) (lines_behind-more ends table) ∙ ap (λ z. Table table z) (lines_from-more ends table)
