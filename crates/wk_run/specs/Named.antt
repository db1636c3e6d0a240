-- A task's lines as the report has them.
use Rattle.std.specs.Prelude.{ℕ, Bool, true, false, List, [], ◌∷◌, ◌++◌, codes}
use Rattle.std.specs.List.{flat_map}

-- what stands before a line: the name, a colon and a space; nothing in a plain report
abbrev pub front_of : Bool → List ℕ → List ℕ
front_of true name = []
front_of false name = name ++ codes ": "

-- what stands before the line, the line, and a line end
abbrev pub report_line : Bool → List ℕ → List ℕ → List ℕ
report_line plain name line = front_of plain name ++ line ++ 10 ∷ []

-- each line of a task
abbrev pub report_lines : Bool → List ℕ → List (List ℕ) → List ℕ
report_lines plain name lines = flat_map (report_line plain name) lines
