-- A list of different numbers below n, or of entries of different tasks below n, is no longer than n.
use Rattle.std.proofs.Common.{◌≡◌, ◌≢◌, ℕ, zero, suc, ◌<◌, ◌≤◌, List, [], ◌∷◌, eqb, length, refl, sym, ap, subst, ◌∙◌, inl, inr, arith}
use Rattle.std.specs.Prelude.{◌==◌, true, false, Some, slice_get}
use Rattle.std.specs.List.{AllByRecursion, IsDistinct, list_any}
use Rattle.std.proofs.lemmas.Bool.{cases_eq}
use Rattle.std.proofs.lemmas.Bool.Decides.{nat_tests}
use Rattle.std.proofs.lemmas.Map.Keys.{IsDistinct-cons}
use Rattle.std.proofs.lemmas.Map.Steps.{length-le_from_distinct_below}
use Rattle.core_data.proofs.QueueLemmas.{times_in-cons}
use Rattle.core_data.specs.Entries.{has_entry}
use Rattle.core_data.specs.Queue.{times_in}
use Rattle.core_data.specs.declared.values.WaitEntry.{WaitEntry}
use Rattle.core_gives.proofs.WaitsLemmas.{has_task-list, entry-place, place-entry}
use Rattle.core_gives.specs.Waits.{has_task, HasEachOnce}

no_numbers : IsDistinct eqb []
unfolding IsDistinct
no_numbers = tt

-- By how often each number stands in the list

apart : (x : ℕ) (xs : List ℕ) → times_in xs x ≡ 0 → AllByRecursion (λ y. eqb x y ≡ false) xs
apart x [] e = tt
apart x (y ∷ ys) e =
    let count = times_in-cons y ys x in
    let other : x ≢ y = λ q. absurd (grind (arith, nat_tests, count, e, q)) in
    let rest : times_in ys x ≡ 0 = omega (arith, count, e) in
    (grind (arith, nat_tests, other), apart x ys rest)

distinct : (xs : List ℕ) → ((t : ℕ) → times_in xs t ≤ 1) → IsDistinct eqb xs
distinct [] once = no_numbers
distinct (x ∷ xs) once =
    let here = times_in-cons x xs x in
    let most = once x in
    let none : times_in xs x ≡ 0 = grind (arith, nat_tests, here, most) in
    IsDistinct-cons eqb x xs (apart x xs none) (distinct xs rest)
  where
    rest : (t : ℕ) → times_in xs t ≤ 1
    rest t = let count = times_in-cons x xs t in let o = once t in omega (arith, count, o)

stands : (xs : List ℕ) (q : ℕ) → list_any (eqb q) xs ≡ true → times_in xs q ≢ 0
stands [] q e = absurd (grind (arith, e))
stands (x ∷ xs) q e = λ none. elim (cases_eq q x) [
  | inl same ↦ let count = times_in-cons x xs q in absurd (grind (arith, nat_tests, count, none, same))
  | inr other ↦
      let count = times_in-cons x xs q in
      let rest : times_in xs q ≡ 0 = omega (arith, count, none) in
      stands xs q (grind (arith, nat_tests, other, e)) rest
]

pub room_of : (n : ℕ) (xs : List ℕ) → ((t : ℕ) → times_in xs t ≤ 1) → ((t : ℕ) → times_in xs t ≢ 0 → t < n)
    → length xs ≤ n
room_of n xs once below = length-le_from_distinct_below xs n (distinct xs once) (λ q e. below q (stands xs q e))

-- where one is missing, there is room for it
pub room_for : (n : ℕ) (xs : List ℕ) → ((t : ℕ) → times_in xs t ≤ 1) → ((t : ℕ) → times_in xs t ≢ 0 → t < n)
    → (t : ℕ) → t < n → times_in xs t ≡ 0 → length xs < n
room_for n xs once below t lt none = let all = room_of n (t ∷ xs) once_more still_below in omega (arith, all)
  where
    once_more : (u : ℕ) → times_in (t ∷ xs) u ≤ 1
    once_more u = let count = times_in-cons t xs u in let o = once u in elim (cases_eq t u) [
      | inl q ↦
          let zero_there : times_in xs u ≡ 0 = subst (λ (k : ℕ). times_in xs k ≡ 0) q none in
          grind (arith, nat_tests, count, zero_there)
      | inr ne ↦ grind (arith, nat_tests, count, o, ne)
    ]

    still_below : (u : ℕ) → times_in (t ∷ xs) u ≢ 0 → u < n
    still_below u some = elim (cases_eq t u) [
      | inl q ↦ subst (λ (k : ℕ). k < n) q lt
      | inr ne ↦
          let count = times_in-cons t xs u in
          below u (λ zero_there. some (grind (arith, nat_tests, count, zero_there, ne)))
    ]

-- Entries of a wait queue, by their tasks

abbrev tasks_of : List WaitEntry → List ℕ
tasks_of [] = []
tasks_of (x ∷ xs) = x.t ∷ tasks_of xs

length-tasks_of : (xs : List WaitEntry) → length (tasks_of xs) ≡ length xs
length-tasks_of [] = refl
length-tasks_of (x ∷ xs) = ap suc (length-tasks_of xs)

tasks_apart : (t : ℕ) (xs : List WaitEntry) → list_any (λ (x : WaitEntry). x.t == t) xs ≡ false
    → AllByRecursion (λ y. eqb t y ≡ false) (tasks_of xs)
tasks_apart t [] e = tt
tasks_apart t (x ∷ xs) e =
    let other : t ≢ x.t = λ q. absurd (grind (arith, nat_tests, e, q)) in
    let rest : list_any (λ (y : WaitEntry). y.t == t) xs ≡ false = grind (arith, nat_tests, e, other) in
    (grind (arith, nat_tests, other), tasks_apart t xs rest)

tasks_distinct : (xs : List WaitEntry) → HasEachOnce xs → IsDistinct eqb (tasks_of xs)
tasks_distinct [] once = no_numbers
tasks_distinct (x ∷ xs) once =
    let others = tasks_apart x.t xs (has_task-list xs x.t ∙ once.0) in
    IsDistinct-cons eqb x.t (tasks_of xs) others (tasks_distinct xs once.1)

-- a task that has an entry has it at some place
entry_of : (xs : List WaitEntry) (q : ℕ) → list_any (eqb q) (tasks_of xs) ≡ true
    → (x : WaitEntry) × ((i : ℕ) × ((slice_get xs i ≡ Some x) × (q ≡ x.t)))
entry_of [] q e = absurd (grind (arith, e))
entry_of (x ∷ xs) q e = elim (cases_eq q x.t) [
  | inl same ↦ (x, (0, (refl, same)))
  | inr other ↦
      let found = entry_of xs q (grind (arith, nat_tests, other, e)) in
      (found.0, (suc found.1.0, found.1.1))
]

pub room_of_entries : (n : ℕ) (xs : List WaitEntry) → HasEachOnce xs
    → ((x : WaitEntry) → has_entry xs x ≡ true → x.t < n) → length xs ≤ n
room_of_entries n xs once below =
    let most = length-le_from_distinct_below (tasks_of xs) n (tasks_distinct xs once) named in
    subst (λ (k : ℕ). k ≤ n) (length-tasks_of xs) most
  where
    named : (q : ℕ) → list_any (eqb q) (tasks_of xs) ≡ true → q < n
    named q e = let found = entry_of xs q e in
        subst (λ (k : ℕ). k < n) (sym found.1.1.1) (below found.0 (place-entry xs found.1.0 found.0 found.1.1.0))

-- .. and where a task has none, there is room for its entry
abbrev an_entry : ℕ → WaitEntry
an_entry t = record { t = t; exclusive = false }

entry_below : (n t : ℕ) (xs : List WaitEntry) → t < n → ((x : WaitEntry) → has_entry xs x ≡ true → x.t < n)
    → (i : ℕ) (x : WaitEntry) → slice_get (an_entry t ∷ xs) i ≡ Some x → x.t < n
entry_below n t xs lt below zero x is = let same : an_entry t ≡ x = cc in subst (λ (y : WaitEntry). y.t < n) same lt
entry_below n t xs lt below (suc i) x is = below x (place-entry xs i x is)

pub room_for_entry : (n : ℕ) (xs : List WaitEntry) → HasEachOnce xs
    → ((x : WaitEntry) → has_entry xs x ≡ true → x.t < n) → (t : ℕ) → t < n → has_task xs t ≡ false → length xs < n
room_for_entry n xs once below t lt none =
    let all = room_of_entries n (an_entry t ∷ xs) (none, once) (λ x has. let found = entry-place (an_entry t ∷ xs) x has in
    entry_below n t xs lt below found.0 x found.1) in
    omega (arith, all)
