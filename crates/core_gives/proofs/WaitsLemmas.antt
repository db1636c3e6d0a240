-- The entries of a wait queue, one at a time.
use Rattle.std.proofs.Common.{◌≡◌, ℕ, zero, suc, ◌+◌, ◌<◌, ◌==◌, ◌&&◌, ◌||◌, ◌⊎◌, inl, inr, List, [], ◌∷◌, Bool, true, false, Option, Some, None, length, get_or, take, drop, ◌-◌, ◌≤◌, refl, sym, ◌∙◌}
use Rattle.std.proofs.Common.{ap, subst, arith}
use Rattle.std.specs.Prelude.{if◌then◌else◌, slice_get}
use Rattle.std.specs.List.{list_any}
use Rattle.std.proofs.lemmas.Bool.Decides.{nat_tests}
use Rattle.std.proofs.lemmas.Option.{slice_get_within, get_or_from_slice_get, slice_get-get_or}
use Rattle.std.proofs.lemmas.List.{take_rest}
use Rattle.std.proofs.Math.ListN.{drop_of_length-le}
use Rattle.std.proofs.Math.Seq.{drop-cons}
use mathlib.Core.Bool.{not}
use Rattle.core_data.specs.Entries.{any_from, has_entry, same_entry, same_truth}
use Rattle.core_data.specs.declared.values.WaitEntry.{WaitEntry}
use Rattle.core_gives.proofs.Places.{more}
use Rattle.core_gives.specs.Waits.{has_task, HasEachOnce, is_walk}

bool_cases : (b : Bool) → (b ≡ true) ⊎ (b ≡ false)
bool_cases true = inl refl
bool_cases false = inr refl

any-known : {A : Type 0} (p : A → Bool) (xs : List A) → any_from p true xs ≡ true
any-known p [] = refl
any-known p (x ∷ xs) = elim (p x) as (λ b. any_from p (if b then true else true) xs ≡ true) [ true ↦ any-known p xs | false ↦ any-known p xs ]

-- where some element passes a test, one passes it at some place
any-place : {A : Type 0} (p : A → Bool) (xs : List A) → any_from p false xs ≡ true → (i : ℕ) × ((x : A) × ((slice_get xs i ≡ Some x) × (p x ≡ true)))
any-place p [] h = absurd (cc)
any-place p (x ∷ xs) h =
    elim (bool_cases (p x)) [
      | inl here ↦ (0, (x, (refl, here)))
      | inr other ↦
          let rest : any_from p false xs ≡ true = ap (λ (b : Bool). any_from p (if b then true else false) xs) (sym other) ∙ h in
          let found = any-place p xs rest in
          (suc found.0, found.1)
    ]

place-any : {A : Type 0} (p : A → Bool) (known : Bool) (xs : List A) (i : ℕ) (x : A) → slice_get xs i ≡ Some x → p x ≡ true → any_from p known xs ≡ true
place-any p known [] i x at h = absurd (cc)
place-any p known (y ∷ ys) zero x at h =
    let same : y ≡ x = cc in
    let here : p y ≡ true = ap p same ∙ h in
    ap (λ (b : Bool). any_from p (if b then true else known) ys) here ∙ any-known p ys
place-any p known (y ∷ ys) (suc i) x at h = place-any p (if p y then true else known) ys i x at h

-- a walk with what is known is a test of the list
any-list : {A : Type 0} (p : A → Bool) (xs : List A) → list_any p xs ≡ any_from p false xs
any-list p [] = refl
any-list p (x ∷ xs) =
    elim (p x) as (λ b. (b || list_any p xs) ≡ any_from p (if b then true else false) xs) [ true ↦ sym (any-known p xs) | false ↦ any-list p xs ]

same_truth-same : (a b : Bool) → same_truth a b ≡ true → a ≡ b
same_truth-same true b h = sym h
same_truth-same false true h = absurd (cc)
same_truth-same false false h = refl

same_truth-self : (a : Bool) → same_truth a a ≡ true
same_truth-self true = refl
same_truth-self false = refl

abbrev entry : ℕ → Bool → WaitEntry
entry t exclusive = record { t = t; exclusive = exclusive }

same_entry-same : (a b : WaitEntry) → same_entry a b ≡ true → a ≡ b
same_entry-same a b h =
    let task : a.t ≡ b.t = grind (arith, nat_tests, h) in
    let sort : same_truth a.exclusive b.exclusive ≡ true = grind (arith, nat_tests, h) in
    ap (λ (n : ℕ). entry n a.exclusive) task ∙ ap (λ (v : Bool). entry b.t v) (same_truth-same a.exclusive b.exclusive sort)

same_entry-self : (a : WaitEntry) → same_entry a a ≡ true
same_entry-self a = let e = same_truth-self a.exclusive in grind (arith, nat_tests, e)

-- an entry that is among these stands at some place
pub entry-place : (entries : List WaitEntry) (x : WaitEntry) → has_entry entries x ≡ true → (i : ℕ) × (slice_get entries i ≡ Some x)
entry-place entries x h =
    let found = any-place (λ y. same_entry y x) entries h in
    (found.0, found.1.1.0 ∙ ap (λ (y : WaitEntry). Some y) (same_entry-same found.1.0 x found.1.1.1))

pub place-entry : (entries : List WaitEntry) (i : ℕ) (x : WaitEntry) → slice_get entries i ≡ Some x → has_entry entries x ≡ true
place-entry entries i x at = place-any (λ y. same_entry y x) false entries i x at (same_entry-self x)

-- what holds at each place holds of each entry
pub each-entry : (entries : List WaitEntry) (P : WaitEntry → Type 0) → ((i : ℕ) (x : WaitEntry) → i < length entries → slice_get entries i ≡ Some x → P x) → (x : WaitEntry)
    → has_entry entries x ≡ true → P x
each-entry entries P at x h = let found = entry-place entries x h in at found.0 x (slice_get_within entries found.0 x found.1) found.1

-- what holds of the entries before place n, and of the one there, holds of those before place n + 1
pub more-entries : (entries : List WaitEntry) (P : WaitEntry → Type 0) (n : ℕ) (d : WaitEntry) → n < length entries → ((i : ℕ) (x : WaitEntry) → i < n → slice_get entries i ≡ Some x → P x)
    → P (get_or entries n d) → (i : ℕ) (x : WaitEntry) → i < n + 1 → slice_get entries i ≡ Some x → P x
more-entries entries P n d lt below here =
    more entries P n below (λ x at. let e : get_or entries n d ≡ x = get_or_from_slice_get entries n x d at in subst P e here)

pub entry-at : (entries : List WaitEntry) (n : ℕ) (d : WaitEntry) → n < length entries → has_entry entries (get_or entries n d) ≡ true
entry-at entries n d lt = place-entry entries n (get_or entries n d) (slice_get-get_or entries n d lt)

-- the entries from place i on
from-place : (entries : List WaitEntry) (i : ℕ) (d : WaitEntry) → i < length entries → drop i entries ≡ get_or entries i d ∷ drop (i + 1) entries
from-place entries i d lt =
    let e : suc i ≡ i + 1 = omega arith in
    subst (λ (j : ℕ). drop i entries ≡ get_or entries i d ∷ drop j entries) e (drop-cons entries i d lt)

pub once-open : (entries : List WaitEntry) (i : ℕ) (d : WaitEntry) → i < length entries → HasEachOnce (drop i entries)
    → (has_task (take (length entries - (i + 1)) (drop (i + 1) entries)) (get_or entries i d).t ≡ false) × HasEachOnce (drop (i + 1) entries)
once-open entries i d lt h =
    let both : (has_task (drop (i + 1) entries) (get_or entries i d).t ≡ false) × HasEachOnce (drop (i + 1) entries) = subst (λ (xs : List WaitEntry). HasEachOnce xs) (from-place entries i d lt) h in
    (ap (λ (xs : List WaitEntry). has_task xs (get_or entries i d).t) (take_rest entries (i + 1)) ∙ both.0, both.1)

pub once-close : (entries : List WaitEntry) (i : ℕ) (d : WaitEntry) → i < length entries → has_task (take (length entries - (i + 1)) (drop (i + 1) entries)) (get_or entries i d).t ≡ false
    → HasEachOnce (drop (i + 1) entries) → HasEachOnce (drop i entries)
once-close entries i d lt other rest =
    let none : has_task (drop (i + 1) entries) (get_or entries i d).t ≡ false = ap (λ (xs : List WaitEntry). has_task xs (get_or entries i d).t) (sym (take_rest entries (i + 1))) ∙ other in
    subst (λ (xs : List WaitEntry). HasEachOnce xs) (sym (from-place entries i d lt)) (none, rest)

pub once-past : (entries : List WaitEntry) (i : ℕ) → length entries ≤ i → HasEachOnce (drop i entries)
once-past entries i le = subst (λ (xs : List WaitEntry). HasEachOnce xs) (sym (drop_of_length-le entries le)) tt

pub walk-at : (passed : ℕ → Bool) (entries : List WaitEntry) (i : ℕ) (d : WaitEntry) → i < length entries
    → is_walk passed (drop i entries) ≡ (passed (get_or entries i d).t && is_walk passed (drop (i + 1) entries))
walk-at passed entries i d lt = ap (λ (xs : List WaitEntry). is_walk passed xs) (from-place entries i d lt)

pub walk-past : (passed : ℕ → Bool) (entries : List WaitEntry) (i : ℕ) → length entries ≤ i → is_walk passed (drop i entries) ≡ true
walk-past passed entries i le = ap (λ (xs : List WaitEntry). is_walk passed xs) (drop_of_length-le entries le)

pub has_task-list : (entries : List WaitEntry) (t : ℕ) → list_any (λ (x : WaitEntry). x.t == t) entries ≡ has_task entries t
has_task-list entries t = any-list (λ (x : WaitEntry). x.t == t) entries
