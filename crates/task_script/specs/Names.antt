-- Names with their numbers.
use Rattle.std.specs.Prelude.{◌≡◌, ℕ, List, map}
use Rattle.std.specs.Ordering.{nat_cmp}
use Rattle.std.specs.Cmp.Lexicographic.{slice_cmp}
use Rattle.std.specs.BTreeMap.{BTreeMap, get_by}
use Rattle.std.specs.Borrow.{Bor}
use Rattle.task_script.specs.Script.{number_of}

-- the names that references lead to
abbrev pub texts : List (Bor (List ℕ)) → List (List ℕ)
texts names = map (λ (name : Bor (List ℕ)). name.now) names

-- the map has each name's number, and no other name
abbrev pub AreNumbered : List (Bor (List ℕ)) → BTreeMap (Bor (List ℕ)) ℕ → Type 0
AreNumbered names numbers = (name : List ℕ)
    → get_by (λ k. slice_cmp nat_cmp name k.now) numbers ≡ number_of (texts names) name
