-- Which of a seat's latest steps came after which.
use Rattle.std.specs.Prelude.{ℕ, ◌==◌, ◌&&◌, ◌++◌, ◌∷◌, [], Bool, true, false, List, if◌then◌else◌}
use Rattle.std.specs.List.{filter}
use mathlib.Core.Bool.{not}
use Rattle.core_data.specs.declared.act.Act.{Act}
use Rattle.core_data.specs.declared.act.Act.TheVariants.{TookTask, Renewed, StoredWord, Matched, SawOff, Claimed}
use Rattle.core_data.specs.declared.act.Act.TheVariants.{SawClear, SawRest, SawRestOff, SawRestIdle, TookQueue, Queued}
use Rattle.core_data.specs.declared.act.Act.TheVariants.{Dequeued, Picked, TookWait, OwnStored, Slept, Passed, Bumped}
use Rattle.core_data.specs.declared.act.Act.TheVariants.{Walked}

-- which sort of step it is
abbrev pub sort_of : Act → ℕ
sort_of (TookTask t) = 0
sort_of (Renewed t) = 1
sort_of (StoredWord t) = 2
sort_of (Matched t) = 3
sort_of (SawOff t) = 4
sort_of (Claimed t) = 5
sort_of (SawClear t) = 6
sort_of (SawRest t) = 7
sort_of (SawRestOff t) = 8
sort_of (SawRestIdle t) = 9
sort_of (TookQueue c) = 10
sort_of (Queued t) = 11
sort_of (Dequeued t) = 12
sort_of (Picked t) = 13
sort_of (TookWait k) = 14
sort_of (OwnStored t) = 15
sort_of (Slept t) = 16
sort_of (Passed t) = 17
sort_of (Bumped k) = 18
sort_of (Walked k) = 19

-- the task, processor or condition of the step
abbrev pub number_of : Act → ℕ
number_of (TookTask t) = t
number_of (Renewed t) = t
number_of (StoredWord t) = t
number_of (Matched t) = t
number_of (SawOff t) = t
number_of (Claimed t) = t
number_of (SawClear t) = t
number_of (SawRest t) = t
number_of (SawRestOff t) = t
number_of (SawRestIdle t) = t
number_of (TookQueue c) = c
number_of (Queued t) = t
number_of (Dequeued t) = t
number_of (Picked t) = t
number_of (TookWait k) = k
number_of (OwnStored t) = t
number_of (Slept t) = t
number_of (Passed t) = t
number_of (Bumped k) = k
number_of (Walked k) = k

-- whether both are the same step
abbrev pub is_act : Act → Act → Bool
is_act a x = (sort_of a == sort_of x) && (number_of a == number_of x)

-- whether the last step that is one of the two is the first of them
abbrev pub since_from : Act → Act → Bool → List Act → Bool
since_from fact end known [] = known
since_from fact end known (x ∷ xs) = since_from fact end (if is_act fact x then true else if is_act end x then false
    else known) xs

-- whether the seat has made the step `fact`, and not made the step `end` since
abbrev pub since : Act → Act → List Act → Bool
since fact end acts = since_from fact end false acts

-- the list with one step more, as the latest; each step stands once
abbrev pub with_act : List Act → Act → List Act
with_act acts act = filter (λ x. not (is_act act x)) acts ++ act ∷ []
