-- The entries of a wait queue.
use Rattle.std.specs.Prelude.{ℕ, ◌==◌, ◌&&◌, Bool, true, false, List, [], ◌∷◌, if◌then◌else◌}
use mathlib.Core.Bool.{not}
use Rattle.core_data.specs.declared.values.WaitEntry.{WaitEntry}

abbrev pub same_truth : Bool → Bool → Bool
same_truth true b = b
same_truth false b = not b

abbrev pub same_entry : WaitEntry → WaitEntry → Bool
same_entry a b = (a.t == b.t) && same_truth a.exclusive b.exclusive

-- whether some element passes the test
abbrev pub any_from : {A : Type 0} → (A → Bool) → Bool → List A → Bool
any_from p known [] = known
any_from p known (x ∷ xs) = any_from p (if p x then true else known) xs

-- whether the entry is among these
abbrev pub has_entry : List WaitEntry → WaitEntry → Bool
has_entry entries entry = any_from (λ x. same_entry x entry) false entries

-- whether an entry of the task was taken and not given back
abbrev pub is_gone : List WaitEntry → List WaitEntry → ℕ → Bool
is_gone taken given t = any_from (λ x. (x.t == t) && not (has_entry given x)) false taken
