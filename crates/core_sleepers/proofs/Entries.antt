-- Entries of wait queues.
use Rattle.std.proofs.Common.{◌≡◌, ℕ, ◌==◌, ◌&&◌, ◌⊎◌, inl, inr, Bool, true, false, List, [], ◌∷◌, Option, Some, None, refl, sym, ap, ◌∙◌, arith}
use Rattle.std.specs.Prelude.{if◌then◌else◌}
use Rattle.std.proofs.lemmas.Bool.{cases_eq}
use Rattle.std.proofs.lemmas.Bool.Decides.{nat_tests}
use mathlib.Core.Bool.{not}
use Rattle.core_data.specs.Entries.{same_truth, same_entry, any_from, has_entry, is_gone}
use Rattle.core_data.specs.Noted.{given_asleep}
use Rattle.core_data.specs.Columns.{put}
use Rattle.core_data.specs.declared.values.WaitEntry.{WaitEntry}
use Rattle.core_gives.specs.Waits.{has_task, is_walk, sleeper_of}
use Rattle.core_invariant.proofs.Puts.{put_here, put_there}
use Rattle.core_invariant.specs.Sleepers.{shared_entry}

-- x is an element
abbrev IsElement : {A : Type 0} → A → List A → Type 0
IsElement x [] = ⊥
IsElement x (y ∷ ys) = (x ≡ y) ⊎ IsElement x ys

both_true : (b : Bool) → (if b then true else true) ≡ true
both_true b = grind arith

any-known : {A : Type 0} (p : A → Bool) (xs : List A) → any_from p true xs ≡ true
any-known p [] = refl
any-known p (x ∷ xs) = ap (λ b. any_from p b xs) (both_true (p x)) ∙ any-known p xs

any-first : {A : Type 0} (p : A → Bool) (x : A) (xs : List A) → p x ≡ true → any_from p false (x ∷ xs) ≡ true
any-first p x xs h = ap (λ b. any_from p (if b then true else false) xs) h ∙ any-known p xs

any-rest : {A : Type 0} (p : A → Bool) (x : A) (xs : List A) → any_from p false xs ≡ true → any_from p false (x ∷ xs) ≡ true
any-rest p x xs h = rest (p x)
  where
    rest : (b : Bool) → any_from p (if b then true else false) xs ≡ true
    rest true = any-known p xs
    rest false = h

-- an element that passes the test
pub element-any : {A : Type 0} (p : A → Bool) (x : A) (xs : List A) → IsElement x xs → p x ≡ true → any_from p false xs ≡ true
element-any p x [] e h = absurd e
element-any p x (y ∷ ys) e h = elim e [ inl q ↦ any-first p y ys (ap p (sym q) ∙ h) | inr r ↦ any-rest p y ys (element-any p x ys r h) ]

any-split : {A : Type 0} (p : A → Bool) (x : A) (xs : List A) (b : Bool) → p x ≡ b → any_from p (if b then true else false) xs ≡ true → (p x ≡ true) ⊎ (any_from p false xs ≡ true)
any-split p x xs true q h = inl q
any-split p x xs false q h = inr h

-- some element passes the test, and which
pub any-element : {A : Type 0} (p : A → Bool) (xs : List A) → any_from p false xs ≡ true → (x : A) × IsElement x xs × (p x ≡ true)
any-element p [] h = absurd (grind (arith, h))
any-element p (x ∷ xs) h = elim (any-split p x xs (p x) refl h) [ inl a ↦ (x, inl refl, a) | inr a ↦ (let r = any-element p xs a in (r.0, inr r.1, r.2)) ]

same_truth-refl : (b : Bool) → same_truth b b ≡ true
same_truth-refl true = refl
same_truth-refl false = refl

same_entry-refl : (x : WaitEntry) → same_entry x x ≡ true
same_entry-refl x = let r = same_truth-refl x.exclusive in grind (arith, nat_tests, r)

same_entry-task : (x y : WaitEntry) → same_entry x y ≡ true → x.t ≡ y.t
same_entry-task x y h = grind (arith, nat_tests, h)

-- an element is an entry of the list
pub element-entry : (x : WaitEntry) (xs : List WaitEntry) → IsElement x xs → has_entry xs x ≡ true
element-entry x xs e = element-any (λ y. same_entry y x) x xs e (same_entry-refl x)

walk-element : (passed : ℕ → Bool) (xs : List WaitEntry) (x : WaitEntry) → is_walk passed xs ≡ true → IsElement x xs → passed x.t ≡ true
walk-element passed [] x h e = absurd e
walk-element passed (y ∷ ys) x h e =
    let first : passed y.t ≡ true = grind (arith, h) in
    let rest : is_walk passed ys ≡ true = grind (arith, h) in
    elim e [ inl q ↦ ap (λ z. passed z.t) q ∙ first | inr r ↦ walk-element passed ys x rest r ]

-- a seat that has passed each entry has passed each task that has one
pub walk-passed : (passed : ℕ → Bool) (xs : List WaitEntry) (t : ℕ) → is_walk passed xs ≡ true → has_entry xs (shared_entry t) ≡ true → passed t ≡ true
walk-passed passed xs t h e =
    let r = any-element (λ y. same_entry y (shared_entry t)) xs e in
    ap passed (sym (same_entry-task r.0 (shared_entry t) r.2)) ∙ walk-element passed xs r.0 h r.1

-- a task whose entry was given back has an entry
pub kept-task : (taken given : List WaitEntry) (t : ℕ) → has_task taken t ≡ true → is_gone taken given t ≡ false → has_task given t ≡ true
kept-task taken given t h stays =
    let r = any-element (λ x. x.t == t) taken h in kept r.0 r.1 r.2 (has_entry given r.0) refl
  where
    kept : (x : WaitEntry) → IsElement x taken → (x.t == t) ≡ true → (b : Bool) → has_entry given x ≡ b → has_task given t ≡ true
    kept x e is false q =
        let gone = element-any (λ y. (y.t == t) && not (has_entry given y)) x taken e (grind (arith, is, q)) in absurd (grind (arith, gone, stays))
    kept x e is true q =
        let r = any-element (λ y. same_entry y x) given q in
        let same = same_entry-task r.0 x r.2 in
        element-any (λ y. y.t == t) r.0 given r.1 (grind (arith, nat_tests, is, same))

-- the entry of a task that was taken and not given back
pub record GoneEntry (taken given : List WaitEntry) (t : ℕ) : Type 0 where
  pub entry : WaitEntry
  pub of_task : entry.t ≡ t
  pub was : has_entry taken entry ≡ true
  pub isnt : has_entry given entry ≡ false

pub gone-entry : (taken given : List WaitEntry) (t : ℕ) → is_gone taken given t ≡ true → GoneEntry taken given t
gone-entry taken given t h =
    let r = any-element (λ y. (y.t == t) && not (has_entry given y)) taken h in
    let passes = r.2 in
    record { entry = r.0; of_task = grind (arith, nat_tests, passes); was = element-entry r.0 taken r.1; isnt = grind (arith, passes) }

-- the sleeper has an entry
pub sleeper-task : (current : Option ℕ) (slept : ℕ → Bool) (given : List WaitEntry) (u : ℕ) → sleeper_of current slept given ≡ Some u → has_task given u ≡ true
sleeper-task None slept given u h = absurd (grind (arith, h))
sleeper-task (Some v) slept given u h = by (has_task given v) (slept v) refl h
  where
    by : (a b : Bool) → has_task given v ≡ a → (if a && b then Some v else None) ≡ Some u → has_task given u ≡ true
    by true true q g = ap (λ z. has_task given z) (sym (grind (arith, g))) ∙ q
    by true false q g = absurd (grind (arith, g))
    by false b q g = absurd (grind (arith, g))

given-apart : (l : ℕ) (taken given : List WaitEntry) (sleeper : Option ℕ) (asleep : ℕ → ℕ → Bool) (t k : ℕ) → given_asleep l taken given sleeper asleep t k ≡ true
    → ((k ≡ l) × (sleeper ≡ Some t)) ⊎ ((asleep t k ≡ true) × (k ≡ l → is_gone taken given t ≡ false))
given-apart l taken given None asleep t k h = inr (grind (arith, h), λ e. grind (arith, nat_tests, h, e))
given-apart l taken given (Some u) asleep t k h =
    elim (cases_eq t u) [
      | inr n ↦ inr (grind (arith, nat_tests, h, n), λ e. grind (arith, nat_tests, h, e, n))
      | inl p ↦ elim (cases_eq k l) [ inl q ↦ inl (q, ap Some (sym p)) | inr n ↦ inr (grind (arith, nat_tests, h, n), λ e. absurd (n e)) ]
    ]

-- who sleeps after a give: the sleeper, and those before whose entry wasn't taken out
pub asleep-given : (asleep : ℕ → ℕ → ℕ → Bool) (s l : ℕ) (taken given : List WaitEntry) (sleeper : Option ℕ) (x t k : ℕ) → put asleep s (given_asleep l taken given sleeper (asleep s)) x t k ≡ true
    → ((x ≡ s) × (k ≡ l) × (sleeper ≡ Some t)) ⊎ ((asleep x t k ≡ true) × (x ≡ s → k ≡ l → is_gone taken given t ≡ false))
asleep-given asleep s l taken given sleeper x t k h =
    elim (cases_eq x s) [
      | inl e ↦ elim (given-apart l taken given sleeper (asleep s) t k (ap (λ f. f t k) (sym (put_here asleep s (given_asleep l taken given sleeper (asleep s)) x e)) ∙ h)) [
        | inl a ↦ inl (e, a.0, a.1)
        | inr a ↦ inr (ap (λ z. asleep z t k) e ∙ a.0, λ _. a.1)
      ]
      | inr e ↦ inr (ap (λ f. f t k) (sym (put_there asleep s (given_asleep l taken given sleeper (asleep s)) x e)) ∙ h, λ f. absurd (e f))
    ]
