-- What the latest steps of a seat tell after one step more.
use Rattle.std.proofs.Common.{◌≡◌, ℕ, ◌==◌, ◌++◌, ◌∷◌, [], List, Bool, true, false, refl, sym, ap, subst, ◌∙◌, ◌<◌, ◌+◌, length, take, get_or, ◌↔◌, IsTrue, arith}
use Rattle.std.specs.Prelude.{if◌then◌else◌}
use Rattle.std.specs.List.{filter}
use Rattle.std.proofs.lemmas.Bool.Decides.{nat_tests}
use mathlib.Core.Bool.{not}
use Rattle.std.proofs.lemmas.List.{take_more}
use Rattle.core_data.specs.Acts.{sort_of, number_of, is_act, since_from, since, with_act}
use Rattle.core_data.specs.declared.act.Act.{Act}
use Rattle.core_data.specs.declared.act.Act.TheVariants.{TookTask, Renewed, StoredWord, Matched, SawOff, Claimed, SawClear, SawRest, SawRestOff, SawRestIdle, TookQueue, Queued, Dequeued, Picked}
use Rattle.core_data.specs.declared.act.Act.TheVariants.{TookWait, OwnStored, Slept, Passed, Bumped, Walked}

-- the step of a sort and a number
abbrev step_of : ℕ → ℕ → Act
step_of k n = if k == 0 then TookTask n else if k == 1 then Renewed n else if k == 2 then StoredWord n else if k == 3 then Matched n else if k == 4 then SawOff n
    else if k == 5 then Claimed n else if k == 6 then SawClear n else if k == 7 then SawRest n else if k == 8 then SawRestOff n else if k == 9 then SawRestIdle n
    else if k == 10 then TookQueue n else if k == 11 then Queued n else if k == 12 then Dequeued n else if k == 13 then Picked n else if k == 14 then TookWait n
    else if k == 15 then OwnStored n else if k == 16 then Slept n else if k == 17 then Passed n else if k == 18 then Bumped n else Walked n

step_of-act : (a : Act) → step_of (sort_of a) (number_of a) ≡ a
step_of-act (TookTask n) = refl
step_of-act (Renewed n) = refl
step_of-act (StoredWord n) = refl
step_of-act (Matched n) = refl
step_of-act (SawOff n) = refl
step_of-act (Claimed n) = refl
step_of-act (SawClear n) = refl
step_of-act (SawRest n) = refl
step_of-act (SawRestOff n) = refl
step_of-act (SawRestIdle n) = refl
step_of-act (TookQueue n) = refl
step_of-act (Queued n) = refl
step_of-act (Dequeued n) = refl
step_of-act (Picked n) = refl
step_of-act (TookWait n) = refl
step_of-act (OwnStored n) = refl
step_of-act (Slept n) = refl
step_of-act (Passed n) = refl
step_of-act (Bumped n) = refl
step_of-act (Walked n) = refl

same_step : (j k m n : ℕ) → (j ≡ k) → (m ≡ n) → step_of j m ≡ step_of k n
same_step j k m n p q = ap (λ z. step_of z m) p ∙ ap (λ z. step_of k z) q

pub same_from_is_act : (a x : Act) → is_act a x ≡ true → a ≡ x
same_from_is_act a x h =
    let p : sort_of a ≡ sort_of x = grind (arith, nat_tests, h) in
    let q : number_of a ≡ number_of x = grind (arith, nat_tests, h) in
    sym (step_of-act a) ∙ same_step (sort_of a) (sort_of x) (number_of a) (number_of x) p q ∙ step_of-act x

is_act-refl : (a : Act) → is_act a a ≡ true
is_act-refl a = grind (arith, nat_tests)

pub is_act-same : (a x : Act) → a ≡ x → is_act a x ≡ true
is_act-same a x h = subst (λ y. is_act a y ≡ true) h (is_act-refl a)

-- a test of two steps gives `is_act`
pub is_act_test : (a x : Act) (b : Bool) → IsTrue b ↔ (a ≡ x) → b ≡ is_act a x
is_act_test a x true h = sym (is_act-same a x (h.0 refl))
is_act_test a x false h = false_test a x (is_act a x) refl (λ e. h.1 e)
  where
    false_test : (a x : Act) (c : Bool) → is_act a x ≡ c → (a ≡ x → IsTrue false) → false ≡ c
    false_test a x true e f = f (same_from_is_act a x e)
    false_test a x false e f = refl

pub since_from-append : (fact end : Act) (known : Bool) (xs ys : List Act) → since_from fact end known (xs ++ ys) ≡ since_from fact end (since_from fact end known xs) ys
since_from-append fact end known [] ys = refl
since_from-append fact end known (x ∷ xs) ys = since_from-append fact end (if is_act fact x then true else if is_act end x then false else known) xs ys

stays : (a b known : Bool) → a ≡ false → b ≡ false → (if a then true else if b then false else known) ≡ known
stays a b known p q = grind (arith, p, q)

kept : (fact end act x : Act) (xs : List Act) (known : Bool) (b : Bool) → is_act act x ≡ b → is_act fact act ≡ false → is_act end act ≡ false
    → ((k : Bool) → since_from fact end k (filter (λ y. not (is_act act y)) xs) ≡ since_from fact end k xs)
    → since_from fact end known (if not b then x ∷ filter (λ y. not (is_act act y)) xs else filter (λ y. not (is_act act y)) xs) ≡ since_from fact end known (x ∷ xs)
kept fact end act x xs known false h f e r = r (if is_act fact x then true else if is_act end x then false else known)
kept fact end act x xs known true h f e r =
    let p : is_act fact x ≡ false = subst (λ y. is_act fact y ≡ false) (same_from_is_act act x h) f in
    let q : is_act end x ≡ false = subst (λ y. is_act end y ≡ false) (same_from_is_act act x h) e in
    r known ∙ ap (λ (k : Bool). since_from fact end k xs) (sym (stays (is_act fact x) (is_act end x) known p q))

without : (fact end act : Act) (known : Bool) (xs : List Act) → is_act fact act ≡ false → is_act end act ≡ false
    → since_from fact end known (filter (λ x. not (is_act act x)) xs) ≡ since_from fact end known xs
without fact end act known [] f e = refl
without fact end act known (x ∷ xs) f e = kept fact end act x xs known (is_act act x) refl f e (λ k. without fact end act k xs f e)

chosen : (a b u v : Bool) → (a ≡ false → b ≡ false → u ≡ v) → (if a then true else if b then false else u) ≡ (if a then true else if b then false else v)
chosen true b u v h = refl
chosen false true u v h = refl
chosen false false u v h = h refl refl

-- what a step more changes
pub since-with : (fact end act : Act) (xs : List Act) → since fact end (with_act xs act) ≡ (if is_act fact act then true else if is_act end act then false else since fact end xs)
since-with fact end act xs =
    since_from-append fact end false (filter (λ x. not (is_act act x)) xs) (act ∷ [])
    ∙ chosen (is_act fact act) (is_act end act) _ _ (λ f e. without fact end act false xs f e)

-- one step further along the list
pub since_more : (fact end : Act) (xs : List Act) (i : ℕ) (d : Act) → i < length xs → since fact end (take (i + 1) xs)
    ≡ (if is_act fact (get_or xs i d) then true else if is_act end (get_or xs i d) then false else since fact end (take i xs))
since_more fact end xs i d lt = ap (λ ys. since fact end ys) (take_more xs i d lt) ∙ since_from-append fact end false (take i xs) (get_or xs i d ∷ [])
