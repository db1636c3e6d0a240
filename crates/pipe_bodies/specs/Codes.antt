-- A plan as a list of numbers, which a `Tag` can carry.
use Rattle.std.specs.Prelude.{ℕ, zero, suc, List, [], ◌∷◌, ◌++◌, length, take, drop, Bool, true, false}
use Rattle.pipe_tasks.specs.Words.{Line}
use Rattle.task_script.specs.declared.plan.Plan.{Plan}
use Rattle.task_script.specs.declared.plan.Plan.TheVariants.{Lines, Count, Upper, Number, Keep, Drop, Tally, Cat, Weave}
use Rattle.task_script.specs.declared.plan.Plan.TheVariants.{Pin, Table}

abbrev pub lines_code : List Line → List ℕ
lines_code [] = []
lines_code (a ∷ x) = length a ∷ (a ++ lines_code x)

abbrev pub flag_code : Bool → ℕ
flag_code false = 0
flag_code true = 1

abbrev pub plan_code : Plan → List ℕ
plan_code (Lines left) = 0 ∷ length left ∷ lines_code left
plan_code (Count n l) = 1 ∷ n ∷ l ∷ []
plan_code Upper = 2 ∷ []
plan_code (Number n) = 3 ∷ n ∷ []
plan_code (Keep prefix) = 4 ∷ prefix
plan_code (Drop prefix) = 5 ∷ prefix
plan_code (Tally n) = 6 ∷ n ∷ []
plan_code (Cat turn) = 7 ∷ turn ∷ []
plan_code (Weave turn ended) = 8 ∷ turn ∷ flag_code ended ∷ []
plan_code (Pin left on) = 9 ∷ left ∷ flag_code on ∷ []
plan_code (Table table ends) = 10 ∷ length ends ∷ (lines_code ends ++ table)

abbrev pub lines_from : ℕ → List ℕ → List Line
lines_from zero s = []
lines_from (suc k) [] = []
lines_from (suc k) (n ∷ s) = take n s ∷ lines_from k (drop n s)

-- what stands behind so many lines
abbrev pub lines_behind : ℕ → List ℕ → List ℕ
lines_behind zero s = s
lines_behind (suc k) [] = []
lines_behind (suc k) (n ∷ s) = lines_behind k (drop n s)

abbrev pub first : List ℕ → ℕ
first [] = 0
first (x ∷ s) = x

abbrev pub rest : List ℕ → List ℕ
rest [] = []
rest (x ∷ s) = s

abbrev pub flag_of : ℕ → Bool
flag_of zero = false
flag_of (suc n) = true

abbrev pub plan_by : ℕ → List ℕ → Plan
plan_by zero s = Lines (lines_from (first s) (rest s))
plan_by (suc zero) s = Count (first s) (first (rest s))
plan_by (suc (suc zero)) s = Upper
plan_by (suc (suc (suc zero))) s = Number (first s)
plan_by (suc (suc (suc (suc zero)))) s = Keep s
plan_by (suc (suc (suc (suc (suc zero))))) s = Drop s
plan_by (suc (suc (suc (suc (suc (suc zero)))))) s = Tally (first s)
plan_by (suc (suc (suc (suc (suc (suc (suc zero))))))) s = Cat (first s)
plan_by (suc (suc (suc (suc (suc (suc (suc (suc zero)))))))) s = Weave (first s) (flag_of (first (rest s)))
plan_by (suc (suc (suc (suc (suc (suc (suc (suc (suc zero))))))))) s = Pin (first s) (flag_of (first (rest s)))
plan_by n s = Table (lines_behind (first s) (rest s)) (lines_from (first s) (rest s))

abbrev pub plan_of : List ℕ → Plan
plan_of s = plan_by (first s) (rest s)
