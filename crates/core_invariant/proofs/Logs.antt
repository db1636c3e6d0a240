-- The history after one entry more in a seat's journal.
use Rattle.std.proofs.Common.{◌≡◌, ℕ, zero, suc, ◌<◌, ◌⊎◌, inl, inr, ◌++◌, List, [], ◌∷◌, length, Option, Some, None, refl, sym, ap, ◌∙◌, arith}
use Rattle.std.specs.Prelude.{slice_get}
use Rattle.std.specs.Option.{option_and_then}
use Rattle.std.proofs.lemmas.Bool.{cases_eq}
use Rattle.core_data.specs.Columns.{put}
use Rattle.core_invariant.specs.Histories.{history, first_journals}
use Rattle.core_invariant.proofs.Puts.{put_here, put_there}
use Rattle.handoff_data.specs.declared.entry.Entry.{Entry}
use Rattle.handoff_data.specs.History.{History}
use Rattle.handoff_data.specs.Positions.{Stands, IsIn, IsBefore, IsSomewhere, entry_at}

-- `after` has one entry more than `before`: e, as entry number n of the journal of s
pub record Logged (before after : History) (s n : ℕ) (e : Entry) : Type 0 where
  pub cpus : after.cpus ≡ before.cpus
  pub tasks : after.tasks ≡ before.tasks
  pub old : (k i : ℕ) (x : Entry) → Stands before k i x → Stands after k i x
  pub new : Stands after s n e
  pub log : (k i : ℕ) (x : Entry) → Stands after k i x → Stands before k i x ⊎ ((k ≡ s) × (i ≡ n) × (x ≡ e))
  pub within : (i : ℕ) (x : Entry) → Stands before s i x → i < n

get-first : (n s : ℕ) (f : ℕ → List Entry) → s < n → slice_get (first_journals n f) s ≡ Some (f s)
get-first zero s f h = absurd (omega (arith, h))
get-first (suc n) zero f h = refl
get-first (suc n) (suc s) f h = get-first n s (λ k. f (suc k)) (omega (arith, h))

get-found : (n s : ℕ) (f : ℕ → List Entry) (x : List Entry) → slice_get (first_journals n f) s ≡ Some x → (s < n) × (f s ≡ x)
get-found zero s f x h = absurd (grind (arith, h))
get-found (suc n) zero f x h = (omega arith, grind (arith, h))
get-found (suc n) (suc s) f x h = let r = get-found n s (λ k. f (suc k)) x h in (omega (arith, r.0), r.1)

get-push_old : (xs : List Entry) (e : Entry) (i : ℕ) (x : Entry) → slice_get xs i ≡ Some x → slice_get (xs ++ e ∷ []) i ≡ Some x
get-push_old [] e i x h = grind (arith, h)
get-push_old (y ∷ xs) e zero x h = h
get-push_old (y ∷ xs) e (suc i) x h = get-push_old xs e i x h

get-push_new : (xs : List Entry) (e : Entry) → slice_get (xs ++ e ∷ []) (length xs) ≡ Some e
get-push_new [] e = refl
get-push_new (y ∷ xs) e = get-push_new xs e

get-push : (xs : List Entry) (e : Entry) (i : ℕ) (x : Entry) → slice_get (xs ++ e ∷ []) i ≡ Some x → (slice_get xs i ≡ Some x) ⊎ ((i ≡ length xs) × (x ≡ e))
get-push [] e zero x h = grind (arith, h)
get-push [] e (suc i) x h = grind (arith, h)
get-push (y ∷ xs) e zero x h = inl h
get-push (y ∷ xs) e (suc i) x h = elim (get-push xs e i x h) [ inl a ↦ inl a | inr b ↦ inr (ap suc b.0, b.1) ]

get-within : (xs : List Entry) (i : ℕ) (x : Entry) → slice_get xs i ≡ Some x → i < length xs
get-within [] i x h = grind (arith, h)
get-within (y ∷ xs) zero x h = omega arith
get-within (y ∷ xs) (suc i) x h = let r = get-within xs i x h in omega arith

at_history : (cpus tasks seats : ℕ) (journal : ℕ → List Entry) (s i : ℕ) → entry_at (history cpus tasks seats journal) s i ≡ option_and_then
    (λ xs. slice_get xs i) (slice_get (first_journals seats journal) s)
unfolding history
at_history cpus tasks seats journal s i = refl

-- what stands in a history, by the journals
pub stands_of : (cpus tasks seats : ℕ) (journal : ℕ → List Entry) (s i : ℕ) (e : Entry) → s < seats → slice_get (journal s) i ≡ Some e → Stands (history cpus tasks seats journal) s i e
stands_of cpus tasks seats journal s i e h g =
    record { at = at_history cpus tasks seats journal s i ∙ ap (option_and_then (λ xs. slice_get xs i)) (get-first seats s journal h) ∙ g }

pub of_stands : (cpus tasks seats : ℕ) (journal : ℕ → List Entry) (s i : ℕ) (e : Entry) → Stands (history cpus tasks seats journal) s i e → (s < seats) × (slice_get (journal s) i ≡ Some e)
of_stands cpus tasks seats journal s i e h =
    found (slice_get (first_journals seats journal) s) refl (sym (at_history cpus tasks seats journal s i) ∙ h.at)
  where
    found : (o : Option (List Entry)) → slice_get (first_journals seats journal) s ≡ o → option_and_then (λ xs. slice_get xs i) o ≡ Some e → (s < seats) × (slice_get (journal s) i ≡ Some e)
    found None q g = absurd (grind (arith, g))
    found (Some xs) q g = let r = get-found seats s journal xs q in (r.0, ap (λ ys. slice_get ys i) r.1 ∙ g)

pub history-cpus : (cpus tasks seats : ℕ) (journal : ℕ → List Entry) → (history cpus tasks seats journal).cpus ≡ cpus
unfolding history
history-cpus cpus tasks seats journal = refl

pub history-tasks : (cpus tasks seats : ℕ) (journal : ℕ → List Entry) → (history cpus tasks seats journal).tasks ≡ tasks
unfolding history
history-tasks cpus tasks seats journal = refl

-- the history after a seat's entry
pub logged : (cpus tasks seats : ℕ) (journal : ℕ → List Entry) (s : ℕ) (e : Entry) → s < seats
    → Logged (history cpus tasks seats journal) (history cpus tasks seats (put journal s (journal s ++ e ∷ []))) s (length (journal s)) e
logged cpus tasks seats journal s e h =
    let next = put journal s (journal s ++ e ∷ []) in
    record {
      cpus = history-cpus cpus tasks seats next ∙ sym (history-cpus cpus tasks seats journal);
      tasks = history-tasks cpus tasks seats next ∙ sym (history-tasks cpus tasks seats journal);
      old = λ k i x g. let r = of_stands cpus tasks seats journal k i x g in stands_of cpus tasks seats next k i x r.0 (kept k i x r.1);
      new = stands_of cpus tasks seats next s (length (journal s)) e h (ap (λ xs. slice_get xs (length (journal s))) (put_here journal s (journal s ++ e ∷ []) s refl) ∙ get-push_new (journal s) e);
      log = λ k i x g. let r = of_stands cpus tasks seats next k i x g in split k i x r.0 r.1;
      within = λ i x g. get-within (journal s) i x (of_stands cpus tasks seats journal s i x g).1;
    }
  where
    kept : (k i : ℕ) (x : Entry) → slice_get (journal k) i ≡ Some x → slice_get (put journal s (journal s ++ e ∷ []) k) i ≡ Some x
    kept k i x g = elim (cases_eq k s) [
      | inl p ↦ ap (λ xs. slice_get xs i) (put_here journal s (journal s ++ e ∷ []) k p) ∙ get-push_old (journal s) e i x (ap (λ j. slice_get (journal j) i) (sym p) ∙ g)
      | inr p ↦ ap (λ xs. slice_get xs i) (put_there journal s (journal s ++ e ∷ []) k p) ∙ g
    ]

    split : (k i : ℕ) (x : Entry) → k < seats → slice_get (put journal s (journal s ++ e ∷ []) k) i ≡ Some x
        → Stands (history cpus tasks seats journal) k i x ⊎ ((k ≡ s) × (i ≡ length (journal s)) × (x ≡ e))
    split k i x b g = elim (cases_eq k s) [
      | inl p ↦ elim (get-push (journal s) e i x (ap (λ xs. slice_get xs i) (sym (put_here journal s (journal s ++ e ∷ []) k p)) ∙ g)) [
        | inl a ↦ inl (stands_of cpus tasks seats journal k i x b (ap (λ j. slice_get (journal j) i) p ∙ a))
        | inr a ↦ inr (p, a.0, a.1)
      ]
      | inr p ↦ inl (stands_of cpus tasks seats journal k i x b (ap (λ xs. slice_get xs i) (sym (put_there journal s (journal s ++ e ∷ []) k p)) ∙ g))
    ]

-- what stood somewhere stands there still
pub in-old : {before after : History} {s n : ℕ} {e : Entry} → Logged before after s n e → (k : ℕ) (x : Entry) → IsIn before k x → IsIn after k x
in-old l k x h = (h.0, l.old k h.0 x h.1)

pub before-old : {before after : History} {s n : ℕ} {e : Entry} → Logged before after s n e → (k i : ℕ) (x : Entry) → IsBefore before k i x → IsBefore after k i x
before-old l k i x h = (h.0, h.1, l.old k h.0 x h.2)

pub somewhere-old : {before after : History} {s n : ℕ} {e : Entry} → Logged before after s n e → (x : Entry) → IsSomewhere before x → IsSomewhere after x
somewhere-old l x h = (h.0, in-old l h.0 x h.1)
