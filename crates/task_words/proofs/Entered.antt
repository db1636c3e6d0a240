-- A wait queue in which the current task has put its entry may be given.
use Rattle.std.proofs.Common.{◌≡◌, ℕ, inl, inr, ◌<◌, ◌++◌, ◌∷◌, [], refl, sym, ap, subst, ◌∙◌, List, arith}
use Rattle.std.specs.Prelude.{◌==◌, Bool, true, false, Some, if◌then◌else◌}
use Rattle.std.proofs.lemmas.Bool.{cases_Bool, false≢true}
use Rattle.std.proofs.lemmas.Bool.Decides.{nat_tests}
use Rattle.core_data.specs.Entries.{any_from, has_entry, same_entry}
use Rattle.core_data.specs.declared.values.WaitEntry.{WaitEntry}
use Rattle.core_gives.specs.Waits.{has_task, HasEachOnce}
use Rattle.handoff_data.specs.declared.shape.Shape.{Shape}
use Rattle.task_words.specs.Gives.{IsEntered, entered}
use Rattle.word_rule.specs.May.{MayGiveWaitVal}
use Rattle.word_steps.specs.Records.{Rec, Took, StateSet}
use Rattle.word_steps.specs.Folds.{has_own_stored}
use Rattle.word_steps.specs.declared.val.Val.TheVariants as val

-- one more at the back
any_back : {A : Type 0} (p : A → Bool) (known : Bool) (xs : List A) (x : A)
    → any_from p known (xs ++ x ∷ []) ≡ (if p x then true else any_from p known xs)
any_back p known [] x = refl
any_back p known (y ∷ ys) x = any_back p (if p y then true else known) ys x

any_none : {A : Type 0} (p : A → Bool) (xs : List A) → any_from p true xs ≡ true
any_none p [] = refl
any_none p (x ∷ xs) = elim (p x) as (λ b. any_from p (if b then true else true) xs ≡ true) [ true ↦ any_none p xs | false ↦ any_none p xs ]

-- the first and the rest have none that passes
none_of : {A : Type 0} (p : A → Bool) (y : A) (ys : List A) → any_from p false (y ∷ ys) ≡ false → (p y ≡ false) × (any_from p false ys ≡ false)
none_of p y ys e = elim (cases_Bool (p y)) [
  | inl q ↦ absurd (false≢true (sym e ∙ ap (λ (b : Bool). any_from p (if b then true else false) ys) q ∙ any_none p ys))
  | inr q ↦ (q, sym (ap (λ (b : Bool). any_from p (if b then true else false) ys) q) ∙ e)
]

once_back : (xs : List WaitEntry) (x : WaitEntry) → HasEachOnce xs → has_task xs x.t ≡ false → HasEachOnce (xs ++ x ∷ [])
once_back [] x once none = (refl, tt)
once_back (y ∷ ys) x once none =
    let apart = none_of (λ (z : WaitEntry). z.t == x.t) y ys none in
    let other : (x.t == y.t) ≡ false = grind (arith, nat_tests, apart.0) in (
      any_back (λ (z : WaitEntry). z.t == y.t) false ys x ∙ ap (λ (b : Bool). if b then true else has_task ys y.t) other ∙ once.0,
      once_back ys x once.1 apart.1,
    )

-- an entry that is among more than before
new_is : (known b : Bool) → (if b then true else known) ≡ true → known ≡ false → b ≡ true
new_is known true e none = refl
new_is known false e none = absurd (false≢true (sym none ∙ e))

entry_task : (x y : WaitEntry) → same_entry x y ≡ true → x.t ≡ y.t
entry_task x y e = elim (cases_Bool (x.t == y.t)) [
  | inl q ↦ grind (arith, nat_tests, q)
  | inr q ↦ absurd (grind (arith, nat_tests, q, e))
]

-- .. and at the head or the back
any_entered : (p : WaitEntry → Bool) (x : WaitEntry) (v : List WaitEntry)
    → any_from p false (entered x v) ≡ (if p x then true else any_from p false v)
unfolding entered
any_entered p x v = elim (cases_Bool x.exclusive) [
  | inl q ↦ ap (λ (b : Bool). any_from p false (if b then v ++ x ∷ [] else x ∷ v)) q ∙ any_back p false v x
  | inr q ↦ ap (λ (b : Bool). any_from p false (if b then v ++ x ∷ [] else x ∷ v)) q ∙ any_front (p x)
]
  where
    any_front : (b : Bool) → any_from p (if b then true else false) v ≡ (if b then true else any_from p false v)
    any_front true = any_none p v
    any_front false = refl

once_entered : (x : WaitEntry) (v : List WaitEntry) → HasEachOnce v → has_task v x.t ≡ false → HasEachOnce (entered x v)
unfolding entered
once_entered x v once none = elim (cases_Bool x.exclusive) [
  | inl q ↦ subst (λ (b : Bool). HasEachOnce (if b then v ++ x ∷ [] else x ∷ v)) (sym q) (once_back v x once none)
  | inr q ↦ subst (λ (b : Bool). HasEachOnce (if b then v ++ x ∷ [] else x ∷ v)) (sym q) (none, once)
]

pub entered_gives : (shape : Shape) (s : ℕ) (trace : List Rec) (k : ℕ) (given : List WaitEntry) → IsEntered shape s trace k given
    → MayGiveWaitVal s trace shape k given
entered_gives shape s trace k given h =
    subst (λ (z : List Rec × List WaitEntry). MayGiveWaitVal s z.0 shape k z.1) (λ i. (sym h.did i, sym h.put i)) record {
      taken = h.v;
      held = grind (arith, nat_tests);
      once = once_entered h.x h.v h.told.once h.absent;
      tasks = λ y e. elim (cases_Bool (has_entry h.v y)) [
        | inl q ↦ h.told.tasks y q
        | inr q ↦ subst (λ (t : ℕ). t < shape.tasks) (is_entered y e q) h.task
      ];
      put_in = λ y e none. let same = is_entered y e none in (
        h.current ∙ ap (λ (t : ℕ). Some t) same,
        subst (λ (t : ℕ). has_own_stored (StateSet h.x.t h.state ∷ Took k (val.Wait h.v) ∷ h.rs) k t ≡ true) same stored,
      );
      taken_out = λ y was e. absurd (false≢true (sym e ∙ there y ∙ ap (λ (b : Bool). if same_entry h.x y then true else b) was
          ∙ both (same_entry h.x y)));
    }
  where
    both : (b : Bool) → (if b then true else true) ≡ true
    both true = refl
    both false = refl

    stored : has_own_stored (StateSet h.x.t h.state ∷ Took k (val.Wait h.v) ∷ h.rs) k h.x.t ≡ true
    stored = grind (arith, nat_tests)

    there : (y : WaitEntry) → has_entry (entered h.x h.v) y ≡ (if same_entry h.x y then true else has_entry h.v y)
    there y = any_entered (λ (z : WaitEntry). same_entry z y) h.x h.v

    is_entered : (y : WaitEntry) → has_entry (entered h.x h.v) y ≡ true → has_entry h.v y ≡ false → h.x.t ≡ y.t
    is_entered y e none = entry_task h.x y (new_is (has_entry h.v y) (same_entry h.x y) (sym (there y) ∙ e) none)
