-- What is found in the lists of a seat.
use Rattle.std.specs.Prelude.{ℕ, Bool, List, [], ◌∷◌, None, if◌then◌else◌}
use Rattle.core_data.specs.declared.pos.TaskReads.{TaskReads}

-- what val reads of the last element that the test hits, and d where it hits none
abbrev pub found : {A B : Type 0} → (A → Bool) → (A → B) → B → List A → B
found hit val d [] = d
found hit val d (x ∷ xs) = found hit val (if hit x then val x else d) xs

-- nothing was read of t
abbrev pub no_reads : ℕ → TaskReads
no_reads t = record { t = t; state = None; rq = None; busy = None; number = None; cpu = None }
