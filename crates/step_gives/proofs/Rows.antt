-- What the table shows past the rows of a core, and of the seats.
use Rattle.std.proofs.Common.{◌≡◌, ℕ, zero, suc, ◌≤◌, ◌==◌, ◌⊎◌, inl, inr, List, [], ◌∷◌, Bool, true, false, Option, Some, None, refl, sym, ◌∙◌, ap, arith}
use Rattle.std.specs.Prelude.{IsTrue, ◌↔◌, ◌||◌}
use Rattle.std.specs.List.{list_any}
use Rattle.core_data.specs.Columns.{columns, column, current_task_of}
use Rattle.core_data.specs.declared.machine.Core.{Core}
use Rattle.core_data.specs.declared.seat.SeatCore.{SeatCore}
use Rattle.core_data.specs.declared.words.TaskWords.{TaskWords}
use Rattle.core_gives.specs.Queues.{is_some_of}
use Rattle.core_gives.proofs.FitsLemmas.{column-past, bool_cases, is_some_of-same, is_some_of-at}

-- past the last task the state is TASK_RUNNING
pub state-past : (core : Core) (t : ℕ) → (columns core).tasks ≤ t → ((columns core).state t).0 ≡ 0
unfolding columns
state-past core t h = ap (λ s. s.0) (column-past (λ (w : TaskWords). w.state) (record { 0 = 0 }) core.tasks.items t h)

-- and no body is home
pub body-past : (core : Core) (t : ℕ) → (columns core).tasks ≤ t → (columns core).body t ≡ false
unfolding columns
body-past core t h = column-past (λ (w : TaskWords). w.body) false core.tasks.items t h

abbrev has_current : ℕ → SeatCore → Bool
has_current t w = is_some_of w.current t

seat-of : (t : ℕ) (rows : List SeatCore) → list_any (has_current t) rows ≡ true → (s : ℕ) × (column current_task_of None rows s ≡ Some t)
seat-of t [] h = absurd (grind (arith, h))
seat-of t (w ∷ ws) h =
    elim (bool_cases (has_current t w)) [
      | inl here ↦ (0, is_some_of-same w.current t here)
      | inr other ↦
          let rest : list_any (has_current t) ws ≡ true = ap (λ (b : Bool). b || list_any (has_current t) ws) (sym other) ∙ h in
          let found = seat-of t ws rest in
          (suc found.0, found.1)
    ]

any-seat : (t : ℕ) (rows : List SeatCore) (s : ℕ) → column current_task_of None rows s ≡ Some t → list_any (has_current t) rows ≡ true
any-seat t [] s h = absurd (cc)
any-seat t (w ∷ ws) zero h = ap (λ (b : Bool). b || list_any (has_current t) ws) (is_some_of-at w.current t h)
any-seat t (w ∷ ws) (suc s) h =
    let rest = any-seat t ws s h in
    elim (bool_cases (has_current t w)) [
      | inl here ↦ ap (λ (b : Bool). b || list_any (has_current t) ws) here
      | inr other ↦ ap (λ (b : Bool). b || list_any (has_current t) ws) other ∙ rest
    ]

-- one of the rows has the task as its current one, exactly where some seat does
pub current-rows : (core : Core) (t : ℕ) → IsTrue (list_any (has_current t) core.seats.items) ↔ ((s : ℕ) × ((columns core).current_task s ≡ Some t))
unfolding columns
current-rows core t = (λ h. seat-of t core.seats.items h, λ found. any-seat t core.seats.items found.0 found.1)
