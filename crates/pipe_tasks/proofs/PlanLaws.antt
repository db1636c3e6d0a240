-- One item of a plan: what is put out for it, and what is still to come, make up the lines of the whole lists.
use Rattle.std.proofs.Common.{◌≡◌, ℕ, zero, suc, ◌+◌, ◌-◌, ◌<◌, ◌≤◌, List, [], ◌∷◌, ◌++◌, length, Bool, true, false, refl, sym, ap, ◌∙◌, arith}
use Rattle.std.specs.Prelude.{Option, Some, None, filter, not, nat_lt, nat_le, if◌then◌else◌}
use Rattle.std.proofs.lemmas.Bool.Decides.{nat_tests}
use Rattle.std.specs.Fmt.{decimal}
use Rattle.std.specs.List.{range_with_len}
use Rattle.std.proofs.Common.{map}
use Rattle.task_script.specs.Plan.{sides}
use Rattle.task_script.specs.declared.plan.Plan.{Plan}
use Rattle.task_script.specs.declared.plan.Plan.TheVariants.{Lines, Count, Upper, Number, Keep, Drop, Tally, Cat, Weave, Pin, Table}
use Rattle.pipe_tasks.specs.Words.{Line, counted, count_line, numbered_line, has_prefix, woven}
use Rattle.pipe_tasks.specs.Plans.{wants, says, next, last, closed, made, numbered, lines_of}

-- a counter that stands still numbers as one that goes on
pub numbered-counted : (n : ℕ) (x : List Line) → numbered (counted n) x ≡ numbered n x
numbered-counted n [] = refl
numbered-counted n (line ∷ x) =
    let same : counted (counted n) ≡ counted n = omega arith in
    let after : counted (counted n + 1) ≡ counted (n + 1) = omega arith in
    let there = numbered-counted (counted n + 1) x in
    let here = numbered-counted (n + 1) x in
    cc

pub tallied : (n : ℕ) (line : Line) (x : List Line) → count_line (counted (n + 1) + length x) ≡ count_line (n + length (line ∷ x))
tallied n line x =
    let same : counted (counted (n + 1) + length x) ≡ counted (n + length (line ∷ x)) = omega arith in
    ap decimal same

pub woven-cons : (a : Line) (x y : List Line) → woven (a ∷ x) y ≡ a ∷ woven y x
woven-cons a x [] = refl
woven-cons a [] (b ∷ y) = refl
woven-cons a (c ∷ x) (b ∷ y) = ap (λ z. a ∷ b ∷ z) (woven-cons c x y)

pub woven-nil : (x : List Line) → woven x [] ≡ x
woven-nil [] = refl
woven-nil (a ∷ x) = refl

-- ---- a line

kept-first : (b : Bool) (line : Line) (x : List Line) → (if b then line ∷ x else x) ≡ (if b then line ∷ [] else []) ++ x
kept-first true line x = refl
kept-first false line x = refl

dropped-first : (b : Bool) (line : Line) (x : List Line) → (if not b then line ∷ x else x) ≡ (if b then [] else line ∷ []) ++ x
dropped-first true line x = refl
dropped-first false line x = refl

pub lines_of-first : (p : Plan) (line : Line) (x y : List Line) → wants p ≡ Some 0 → lines_of p (line ∷ x) y ≡ says p 0 line ++ lines_of (next p 0 line) x y
lines_of-first (Lines left) line x y w = cc
lines_of-first (Count n l) line x y w = cc
lines_of-first Upper line x y w = refl
lines_of-first (Number n) line x y w = ap (λ z. numbered_line n line ∷ z) (sym (numbered-counted (n + 1) x))
lines_of-first (Keep prefix) line x y w = kept-first (has_prefix prefix line) line (filter (has_prefix prefix) x)
lines_of-first (Drop prefix) line x y w = dropped-first (has_prefix prefix line) line (filter (λ l. not (has_prefix prefix l)) x)
lines_of-first (Tally n) line x y w = ap (λ z. z ∷ []) (sym (tallied n line x))
lines_of-first (Cat zero) line x y w = refl
lines_of-first (Cat (suc n)) line x y w = cc
lines_of-first (Weave zero false) line x y w = woven-cons line x y
lines_of-first (Weave (suc n) false) line x y w = cc
lines_of-first (Weave zero true) line x y w = refl
lines_of-first (Weave (suc n) true) line x y w = cc
lines_of-first (Pin left on) line x y w = refl
lines_of-first (Table table ends) line x y w = refl

pub lines_of-second : (p : Plan) (line : Line) (x y : List Line) → wants p ≡ Some 1 → lines_of p x (line ∷ y) ≡ says p 1 line ++ lines_of (next p 1 line) x y
lines_of-second (Lines left) line x y w = cc
lines_of-second (Count n l) line x y w = cc
lines_of-second Upper line x y w = cc
lines_of-second (Number n) line x y w = cc
lines_of-second (Keep prefix) line x y w = cc
lines_of-second (Drop prefix) line x y w = cc
lines_of-second (Tally n) line x y w = cc
lines_of-second (Cat zero) line x y w = cc
lines_of-second (Cat (suc n)) line x y w = refl
lines_of-second (Weave zero false) line x y w = cc
lines_of-second (Weave (suc n) false) line x y w = woven-cons line y x
lines_of-second (Weave zero true) line x y w = cc
lines_of-second (Weave (suc n) true) line x y w = refl
lines_of-second (Pin left on) line x y w = cc
lines_of-second (Table table ends) line x y w = cc

-- ---- an end

pub lines_of-first_end : (p q : Plan) (y : List Line) → wants p ≡ Some 0 → closed p 0 ≡ Some q → lines_of p [] y ≡ last p 0 ++ lines_of q [] y
lines_of-first_end (Lines left) q y w e = cc
lines_of-first_end (Count n l) q y w e = cc
lines_of-first_end Upper q y w e = cc
lines_of-first_end (Number n) q y w e = cc
lines_of-first_end (Keep prefix) q y w e = cc
lines_of-first_end (Drop prefix) q y w e = cc
lines_of-first_end (Tally n) q y w e = cc
lines_of-first_end (Cat zero) q y w e = let same : Cat 1 ≡ q = cc in ap (λ z. lines_of z [] y) same
lines_of-first_end (Cat (suc n)) q y w e = cc
lines_of-first_end (Weave zero false) q y w e = let same : Weave 1 true ≡ q = cc in ap (λ z. lines_of z [] y) same
lines_of-first_end (Weave (suc n) false) q y w e = cc
lines_of-first_end (Weave zero true) q y w e = cc
lines_of-first_end (Weave (suc n) true) q y w e = cc
lines_of-first_end (Pin left on) q y w e = cc
lines_of-first_end (Table table ends) q y w e = cc

pub lines_of-first_ends : (p : Plan) (y : List Line) → wants p ≡ Some 0 → closed p 0 ≡ None → lines_of p [] y ≡ last p 0
lines_of-first_ends (Lines left) y w e = cc
lines_of-first_ends (Count n l) y w e = cc
lines_of-first_ends Upper y w e = refl
lines_of-first_ends (Number n) y w e = refl
lines_of-first_ends (Keep prefix) y w e = refl
lines_of-first_ends (Drop prefix) y w e = refl
lines_of-first_ends (Tally n) y w e = let same : n + length {A = Line} [] ≡ n = omega arith in ap (λ z. count_line z ∷ []) same
lines_of-first_ends (Cat zero) y w e = cc
lines_of-first_ends (Cat (suc n)) y w e = cc
lines_of-first_ends (Weave zero false) y w e = cc
lines_of-first_ends (Weave (suc n) false) y w e = cc
lines_of-first_ends (Weave zero true) y w e = refl
lines_of-first_ends (Weave (suc n) true) y w e = cc
lines_of-first_ends (Pin left on) y w e = refl
lines_of-first_ends (Table table ends) y w e = refl

pub lines_of-second_end : (p q : Plan) (x : List Line) → wants p ≡ Some 1 → closed p 1 ≡ Some q → lines_of p x [] ≡ last p 1 ++ lines_of q x []
lines_of-second_end (Lines left) q x w e = cc
lines_of-second_end (Count n l) q x w e = cc
lines_of-second_end Upper q x w e = cc
lines_of-second_end (Number n) q x w e = cc
lines_of-second_end (Keep prefix) q x w e = cc
lines_of-second_end (Drop prefix) q x w e = cc
lines_of-second_end (Tally n) q x w e = cc
lines_of-second_end (Cat zero) q x w e = cc
lines_of-second_end (Cat (suc n)) q x w e = cc
lines_of-second_end (Weave zero false) q x w e = cc
lines_of-second_end (Weave (suc n) false) q x w e = let same : Weave 0 true ≡ q = cc in ap (λ z. lines_of z x []) same
lines_of-second_end (Weave zero true) q x w e = cc
lines_of-second_end (Weave (suc n) true) q x w e = cc
lines_of-second_end (Pin left on) q x w e = cc
lines_of-second_end (Table table ends) q x w e = cc

pub lines_of-second_ends : (p : Plan) (x : List Line) → wants p ≡ Some 1 → closed p 1 ≡ None → lines_of p x [] ≡ last p 1
lines_of-second_ends (Lines left) x w e = cc
lines_of-second_ends (Count n l) x w e = cc
lines_of-second_ends Upper x w e = cc
lines_of-second_ends (Number n) x w e = cc
lines_of-second_ends (Keep prefix) x w e = cc
lines_of-second_ends (Drop prefix) x w e = cc
lines_of-second_ends (Tally n) x w e = cc
lines_of-second_ends (Cat zero) x w e = cc
lines_of-second_ends (Cat (suc n)) x w e = refl
lines_of-second_ends (Weave zero false) x w e = cc
lines_of-second_ends (Weave (suc n) false) x w e = cc
lines_of-second_ends (Weave zero true) x w e = cc
lines_of-second_ends (Weave (suc n) true) x w e = refl
lines_of-second_ends (Pin left on) x w e = cc
lines_of-second_ends (Table table ends) x w e = cc

-- ---- a source

-- the lines of a source, from its next line on
abbrev pub own_lines : Option (Line × Plan) → List Line → List Line → List Line
own_lines None x y = []
own_lines (Some (line, q)) x y = line ∷ lines_of q x y

counts : (n l : ℕ) (within more : Bool) → nat_le n l ≡ within → nat_lt n l ≡ more → (x y : List Line)
    → map decimal (range_with_len n (l + 1 - n)) ≡ own_lines (if within then Some (decimal n, (if more then Count (n + 1) l else Count 1 0)) else None) x y
counts n l false more p q x y =
    let above : l < n = grind (arith, nat_tests) in
    let none : l + 1 - n ≡ 0 = omega arith in
    rw none refl
counts n l true true p q x y =
    let below : n < l = grind (arith, nat_tests) in
    let some : l + 1 - n ≡ suc (l + 1 - (n + 1)) = omega arith in
    rw some refl
counts n l true false p q x y =
    let within : n ≤ l = grind (arith, nat_tests) in
    let above : l ≤ n = grind (arith, nat_tests) in
    let one : l + 1 - n ≡ 1 = omega arith in
    rw one refl

pub lines_of-made : (p : Plan) (x y : List Line) → wants p ≡ None → lines_of p x y ≡ own_lines (made p) x y
lines_of-made (Lines []) x y w = refl
lines_of-made (Lines (line ∷ left)) x y w = refl
lines_of-made (Count n l) x y w = counts n l (nat_le n l) (nat_lt n l) refl refl x y
lines_of-made Upper x y w = cc
lines_of-made (Number n) x y w = cc
lines_of-made (Keep prefix) x y w = cc
lines_of-made (Drop prefix) x y w = cc
lines_of-made (Tally n) x y w = cc
lines_of-made (Cat turn) x y w = cc
lines_of-made (Weave turn ended) x y w = cc
lines_of-made (Pin left on) x y w = cc
lines_of-made (Table table ends) x y w = cc

-- ---- the sides of a plan

pub sides-next : (p : Plan) (side : ℕ) (line : Line) → sides (next p side line) ≡ sides p
sides-next (Lines left) side line = refl
sides-next (Count n l) side line = refl
sides-next Upper side line = refl
sides-next (Number n) side line = refl
sides-next (Keep prefix) side line = refl
sides-next (Drop prefix) side line = refl
sides-next (Tally n) side line = refl
sides-next (Cat turn) side line = refl
sides-next (Weave turn false) side line = refl
sides-next (Weave turn true) side line = refl
sides-next (Pin left on) side line = refl
sides-next (Table table ends) side line = refl

pub one-wants : (p : Plan) → sides p ≡ 1 → wants p ≡ Some 0
one-wants (Lines left) e = absurd (omega arith)
one-wants (Count n l) e = absurd (omega arith)
one-wants Upper e = refl
one-wants (Number n) e = refl
one-wants (Keep prefix) e = refl
one-wants (Drop prefix) e = refl
one-wants (Tally n) e = refl
one-wants (Cat turn) e = absurd (omega arith)
one-wants (Weave turn ended) e = absurd (omega arith)
one-wants (Pin left on) e = refl
one-wants (Table table ends) e = refl

pub one-closed : (p : Plan) (side : ℕ) → sides p ≡ 1 → closed p side ≡ None
one-closed (Lines left) side e = refl
one-closed (Count n l) side e = refl
one-closed Upper side e = refl
one-closed (Number n) side e = refl
one-closed (Keep prefix) side e = refl
one-closed (Drop prefix) side e = refl
one-closed (Tally n) side e = refl
one-closed (Cat turn) side e = absurd (omega arith)
one-closed (Weave turn ended) side e = absurd (omega arith)
one-closed (Pin left on) side e = refl
one-closed (Table table ends) side e = refl

pub none-wants : (p : Plan) → sides p ≡ 0 → wants p ≡ None
none-wants (Lines left) e = refl
none-wants (Count n l) e = refl
none-wants Upper e = absurd (omega arith)
none-wants (Number n) e = absurd (omega arith)
none-wants (Keep prefix) e = absurd (omega arith)
none-wants (Drop prefix) e = absurd (omega arith)
none-wants (Tally n) e = absurd (omega arith)
none-wants (Cat turn) e = absurd (omega arith)
none-wants (Weave turn ended) e = absurd (omega arith)
none-wants (Pin left on) e = absurd (omega arith)
none-wants (Table table ends) e = absurd (omega arith)

after_made : Option (Line × Plan) → Option ℕ
after_made None = None
after_made (Some (line, q)) = wants q

counts-wants : (n l : ℕ) (within more : Bool) → after_made (if within then Some (decimal n, (if more then Count (n + 1) l else Count 1 0)) else None) ≡ None
unfolding after_made
counts-wants n l false more = refl
counts-wants n l true true = refl
counts-wants n l true false = refl

-- a source stays one
pub made-wants : (p q : Plan) (line : Line) → made p ≡ Some (line, q) → wants q ≡ None
unfolding after_made
made-wants (Lines []) q line m = cc
made-wants (Lines (a ∷ left)) q line m = sym (ap after_made m)
made-wants (Count n l) q line m = sym (ap after_made m) ∙ counts-wants n l (nat_le n l) (nat_lt n l)
made-wants Upper q line m = cc
made-wants (Number n) q line m = cc
made-wants (Keep prefix) q line m = cc
made-wants (Drop prefix) q line m = cc
made-wants (Tally n) q line m = cc
made-wants (Cat turn) q line m = cc
made-wants (Weave turn ended) q line m = cc
made-wants (Pin left on) q line m = cc
made-wants (Table table ends) q line m = cc
