-- What legal journals tell of each task: the sentences that the rules are there for.
use Rattle.std.specs.Prelude.{◌≡◌, ◌+◌, ◌-◌, ◌*◌, ◌<◌, ◌≤◌, ℕ, Bool, Option, Some}
use Rattle.handoff_data.specs.declared.entry.Entry.{Entry}
use Rattle.handoff_data.specs.declared.entry.Entry.TheVariants as entry
use Rattle.handoff_data.specs.declared.place.Q.{Q}
use Rattle.handoff_data.specs.declared.place.Q.TheVariants as q
use Rattle.handoff_data.specs.History.{History}
use Rattle.handoff_data.specs.Moves.{Moves}
use Rattle.handoff_data.specs.Numbers.{change_of, run_of}
use Rattle.handoff_data.specs.Positions.{Stands, IsIn, IsSomewhere}

-- ---- numbers

-- the entries of t that have a number have the numbers from 1 to the last, each of them once
pub record AreNumbered (number_of : Entry → Option (ℕ × ℕ)) (j : History) (t last : ℕ) : Type 0 where
  pub within : (e : Entry) (n : ℕ) → IsSomewhere j e → number_of e ≡ Some (t, n) → (1 ≤ n) × (n ≤ last)
  pub each : (n : ℕ) → 1 ≤ n → n ≤ last → (e : Entry) × IsSomewhere j e × (number_of e ≡ Some (t, n))
  pub once : (n seat index seat' index' : ℕ) (e e' : Entry) → Stands j seat index e → Stands j seat' index' e'
      → number_of e ≡ Some (t, n) → number_of e' ≡ Some (t, n) → (seat ≡ seat') × (index ≡ index')

-- ---- changes

-- by the table of moves an entry of this seat takes a task from the one to the other, wherever the task is busy
pub record QueueMoves (seat : ℕ) (before : Q) (entry : Entry) (after : Q) : Type 0 where
  pub busy_before : Option ℕ
  pub busy_after : Option ℕ
  pub moves : Moves seat (record { q = before; b = busy_before }) entry (record { q = after; b = busy_after })

-- A walk of t from New to where it is queued after its change m: through its changes in the order of their numbers,
-- and behind a change through the wake and the listing that name it. Each step is a move.
pub data Walks (j : History) (t : ℕ) : ℕ → Q → Type 0 where
  starts : Walks j t 0 q.New
  changes : (m n seat : ℕ) (before after : Q) (e : Entry) → n ≡ m + 1 → Walks j t m before
      → IsIn j seat e → change_of e ≡ Some (t, n) → QueueMoves seat before e after → Walks j t n after
  wakes : (m seat : ℕ) (before after : Q) → Walks j t m before
      → IsIn j seat (entry.Wake t m) → QueueMoves seat before (entry.Wake t m) after → Walks j t m after
  lists : (m seat c e : ℕ) (before after : Q) → Walks j t m before
      → IsIn j seat (entry.List t m c e) → QueueMoves seat before (entry.List t m c e) after → Walks j t m after

-- The changes of t are numbered from 1, and in the order of their numbers they are a walk from New to Dead.
pub record ChangesWalk (j : History) (t : ℕ) : Type 0 where
  pub last : ℕ
  pub numbered : AreNumbered change_of j t last
  pub walk : Walks j t last q.Dead

-- ---- runs

-- In one journal, and on one processor, a pick of t stands before the finish that has the next number.
pub record IsRun (j : History) (t pick_number finish_number : ℕ) : Type 0 where
  pub seat : ℕ
  pub c : ℕ
  pub pick : ℕ
  pub finish : ℕ
  pub in_order : pick < finish
  pub picks : Stands j seat pick (entry.Pick t pick_number c)
  pub finishes : Stands j seat finish (entry.Finish t finish_number c)

-- The picks and finishes of t are numbered from 1, and alternate: with the numbers 1 and 2, 3 and 4, and so on, they
-- are runs.
pub record RunsAlternateWholly (j : History) (t : ℕ) : Type 0 where
  pub runs : ℕ
  pub numbered : AreNumbered run_of j t (2 * runs)
  pub in_turn : (k : ℕ) → k < runs → IsRun j t (2 * k + 1) (2 * k + 2)

-- ---- wakes

-- A wake of a task that sleeps by its change m is followed by a queueing as the next change, and each queueing by a
-- wake; no wake and no queueing stands twice.
pub record WakesQueueOnce (j : History) : Type 0 where
  pub queued : (t m : ℕ) → IsSomewhere j (entry.Wake t m)
      → (c : ℕ) × (by_list : Bool) × IsSomewhere j (entry.Enq t (m + 1) c by_list)
  pub woken : (t m c : ℕ) (by_list : Bool) → IsSomewhere j (entry.Enq t m c by_list)
      → (0 < m) × IsSomewhere j (entry.Wake t (m - 1))
  pub one_queueing : (t m seat index seat' index' c c' : ℕ) (by_list by_list' : Bool)
      → Stands j seat index (entry.Enq t m c by_list) → Stands j seat' index' (entry.Enq t m c' by_list')
      → (seat ≡ seat') × (index ≡ index')
  pub one_wake : (t m seat index seat' index' : ℕ)
      → Stands j seat index (entry.Wake t m) → Stands j seat' index' (entry.Wake t m)
      → (seat ≡ seat') × (index ≡ index')
