-- What a plan puts out: for one line or one end, and for the whole lists of lines that it reads.
use Rattle.std.specs.Prelude.{ℕ, zero, suc, ◌+◌, ◌-◌, List, [], ◌∷◌, ◌++◌, length, map, filter, Bool, true, false, not}
use Rattle.std.specs.Prelude.{nat_lt, nat_le, Option, Some, None, if◌then◌else◌}
use Rattle.std.specs.Fmt.{decimal}
use Rattle.std.specs.List.{enumerate_from, range_with_len}
use Rattle.pipe_tasks.specs.Words.{Line, upper_line, counted, count_line, numbered_line, has_prefix, woven}
use Rattle.task_script.specs.declared.plan.Plan.{Plan}
use Rattle.task_script.specs.declared.plan.Plan.TheVariants.{Lines, Count, Upper, Number, Keep, Drop, Tally, Cat, Weave}
use Rattle.task_script.specs.declared.plan.Plan.TheVariants.{Pin, Table}
use Rattle.task_script.specs.Maps.{mapped_line}

-- the two sides are 0 and 1, and any other number stands for 1
abbrev pub side_number : ℕ → ℕ
side_number zero = 0
side_number (suc n) = 1

abbrev pub other_side : ℕ → ℕ
other_side zero = 1
other_side (suc n) = 0

-- ---- for one line, or one end

-- the side that a plan reads next; none for a source
abbrev pub wants : Plan → Option ℕ
wants (Lines left) = None
wants (Count n last) = None
wants Upper = Some 0
wants (Number n) = Some 0
wants (Keep prefix) = Some 0
wants (Drop prefix) = Some 0
wants (Tally n) = Some 0
wants (Cat turn) = Some (side_number turn)
wants (Weave turn ended) = Some (side_number turn)
wants (Pin left on) = Some 0
wants (Table table ends) = Some 0

-- the lines that are put out for a line of a side
abbrev pub says : Plan → ℕ → Line → List Line
says (Lines left) side line = []
says (Count n last) side line = []
says Upper side line = upper_line line ∷ []
says (Number n) side line = numbered_line n line ∷ []
says (Keep prefix) side line = if has_prefix prefix line then line ∷ [] else []
says (Drop prefix) side line = if has_prefix prefix line then [] else line ∷ []
says (Tally n) side line = []
says (Cat turn) side line = line ∷ []
says (Weave turn ended) side line = line ∷ []
says (Pin left on) side line = line ∷ []
says (Table table ends) side line = mapped_line table line ∷ []

-- the plan after a line of a side
abbrev pub next : Plan → ℕ → Line → Plan
next (Lines left) side line = Lines left
next (Count n last) side line = Count n last
next Upper side line = Upper
next (Number n) side line = Number (counted (n + 1))
next (Keep prefix) side line = Keep prefix
next (Drop prefix) side line = Drop prefix
next (Tally n) side line = Tally (counted (n + 1))
next (Cat turn) side line = Cat turn
next (Weave turn false) side line = Weave (other_side turn) false
next (Weave turn true) side line = Weave turn true
next (Pin left on) side line = Pin (left - 1) (nat_lt 0 left)
next (Table table ends) side line = Table table ends

-- the lines that are put out at the end of a side
abbrev pub last : Plan → ℕ → List Line
last (Lines left) side = []
last (Count n l) side = []
last Upper side = []
last (Number n) side = []
last (Keep prefix) side = []
last (Drop prefix) side = []
last (Tally n) side = count_line n ∷ []
last (Cat turn) side = []
last (Weave turn ended) side = []
last (Pin left on) side = []
last (Table table ends) side = ends

-- the plan after the end of a side, if it goes on
abbrev pub closed : Plan → ℕ → Option Plan
closed (Lines left) side = None
closed (Count n last) side = None
closed Upper side = None
closed (Number n) side = None
closed (Keep prefix) side = None
closed (Drop prefix) side = None
closed (Tally n) side = None
closed (Cat zero) side = Some (Cat 1)
closed (Cat (suc n)) side = None
closed (Weave turn false) side = Some (Weave (other_side turn) true)
closed (Weave turn true) side = None
closed (Pin left on) side = None
closed (Table table ends) side = None

-- the numbers from n to l that are left after n; where there are none, 1 to 0
abbrev pub counts_on : ℕ → ℕ → Plan
counts_on n l = if nat_lt n l then Count (n + 1) l else Count 1 0

-- a source's next line and the plan after it; none where it has ended
abbrev pub made : Plan → Option (Line × Plan)
made (Lines []) = None
made (Lines (line ∷ left)) = Some (line, Lines left)
made (Count n l) = if nat_le n l then Some (decimal n, counts_on n l) else None
made Upper = None
made (Number n) = None
made (Keep prefix) = None
made (Drop prefix) = None
made (Tally n) = None
made (Cat turn) = None
made (Weave turn ended) = None
made (Pin left on) = None
made (Table table ends) = None

-- whether a plan pins its task at all
abbrev pub is_pin : Plan → Bool
is_pin (Lines left) = false
is_pin (Count n l) = false
is_pin Upper = false
is_pin (Number n) = false
is_pin (Keep prefix) = false
is_pin (Drop prefix) = false
is_pin (Tally n) = false
is_pin (Cat turn) = false
is_pin (Weave turn ended) = false
is_pin (Pin left on) = true
is_pin (Table table ends) = false

-- ---- for whole lists

-- each line after its number, where the first has the number n
abbrev pub numbered : ℕ → List Line → List Line
numbered n x = map (λ (e : ℕ × Line). numbered_line e.0 e.1) (enumerate_from n x)

-- the lines that a plan puts out in all, where x are the lines of its first side and y those of its second
abbrev pub lines_of : Plan → List Line → List Line → List Line
lines_of (Lines left) x y = left
lines_of (Count n l) x y = map decimal (range_with_len n (l + 1 - n))
lines_of Upper x y = map upper_line x
lines_of (Number n) x y = numbered n x
lines_of (Keep prefix) x y = filter (has_prefix prefix) x
lines_of (Drop prefix) x y = filter (λ line. not (has_prefix prefix line)) x
lines_of (Tally n) x y = count_line (n + length x) ∷ []
lines_of (Cat zero) x y = x ++ y
lines_of (Cat (suc n)) x y = y
lines_of (Weave zero false) x y = woven x y
lines_of (Weave (suc n) false) x y = woven y x
lines_of (Weave zero true) x y = x
lines_of (Weave (suc n) true) x y = y
lines_of (Pin left on) x y = x
lines_of (Table table ends) x y = map (mapped_line table) x ++ ends
