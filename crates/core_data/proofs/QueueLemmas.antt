-- No task waits twice in a queue.
use Rattle.std.proofs.Common.{◌≡◌, ℕ, ◌+◌, ◌≤◌, ◌==◌, ◌++◌, ◌∷◌, [], List, Bool, Option, Some, None, sym, subst, nat_eq, length, length-append, arith}
use Rattle.std.specs.Prelude.{if◌then◌else◌, IsTrue, ◌↔◌, ◌<◌}
use Rattle.std.specs.Option.{option_to_list}
use Rattle.std.specs.List.{filter, list_any}
use Rattle.std.proofs.lemmas.List.Sums.{sum_by-cons}
use Rattle.std.proofs.lemmas.Bool.Decides.{nat_tests}
use Rattle.core_data.specs.Queue.{times_in, is_other, IsOnce}

pub times_in-cons : (x : ℕ) (xs : List ℕ) (t : ℕ) → times_in (x ∷ xs) t ≡ (if x == t then 1 else 0) + times_in xs t
times_in-cons x xs t = sum_by-cons (λ y. if y == t then 1 else 0) x xs

pub times_in-push : (xs : List ℕ) (x t : ℕ) → times_in (xs ++ x ∷ []) t ≡ times_in xs t + (if x == t then 1 else 0)
times_in-push [] x t = let e = times_in-cons x [] t in grind (arith, nat_tests, e)
times_in-push (y ∷ xs) x t =
    let e = times_in-cons y (xs ++ x ∷ []) t in let f = times_in-cons y xs t in let r = times_in-push xs x t in
    grind (arith, nat_tests, e, f, r)

pub IsOnce-push : (xs : List ℕ) (x : ℕ) → IsOnce xs → times_in xs x ≡ 0 → IsOnce (xs ++ x ∷ [])
IsOnce-push xs x once none = record { at_most = λ t. let e = times_in-push xs x t in let o = once.at_most t in grind (arith, nat_tests, e, o, none) }

pub IsOnce-pop : (o : Option ℕ) (old new : List ℕ) → old ≡ option_to_list o ++ new → IsOnce old → IsOnce new
IsOnce-pop None old new h once = subst (λ xs. IsOnce xs) h once
IsOnce-pop (Some x) old new h once =
    record { at_most = λ t. let e = times_in-cons x new t in let o = subst (λ xs. times_in xs t ≤ 1) h (once.at_most t) in omega (arith, e, o) }

times_in-filter : (t : ℕ) (xs : List ℕ) (u : ℕ) → times_in (filter (is_other t) xs) u ≡ (if u == t then 0 else times_in xs u)
times_in-filter t [] u = grind (arith, nat_tests)
times_in-filter t (x ∷ xs) u =
    let r = times_in-filter t xs u in let e = times_in-cons x xs u in let f = times_in-cons x (filter (is_other t) xs) u in
    grind (arith, nat_tests, r, e, f)

pub IsOnce-filter : (t : ℕ) (xs : List ℕ) → IsOnce xs → IsOnce (filter (is_other t) xs)
IsOnce-filter t xs once = record { at_most = λ u. let e = times_in-filter t xs u in let o = once.at_most u in grind (arith, nat_tests, e, o) }

any-times : (xs : List ℕ) (t : ℕ) → IsTrue (list_any (λ y. nat_eq y t) xs) ↔ (0 < times_in xs t)
any-times [] t = (λ h. grind (arith, h), λ h. grind (arith, h))
any-times (x ∷ xs) t = let r = any-times xs t in let e = times_in-cons x xs t in (λ h. grind (arith, nat_tests, r.0, e, h), λ h. grind (arith, nat_tests, r.1, e, h))

pub found_once : (xs : List ℕ) (t : ℕ) (b : Bool) → IsOnce xs → b ≡ list_any (λ y. nat_eq y t) xs → IsTrue b ↔ (times_in xs t ≡ 1)
found_once xs t b once is =
    let a = any-times xs t in let o = once.at_most t in
    (λ h. let p = a.0 (subst (λ c. IsTrue c) is h) in omega (arith, o, p), λ h. subst (λ c. IsTrue c) (sym is) (a.1 (omega (arith, h))))

pub length-pop : (o : Option ℕ) (old new : List ℕ) → old ≡ option_to_list o ++ new → length old ≤ 200 → length new ≤ 200
length-pop None old new h few = subst (λ xs. length xs ≤ 200) h few
length-pop (Some x) old new h few = let e = subst (λ xs. length xs ≤ 200) h few in omega (arith, e)

length-kept : (t : ℕ) (xs : List ℕ) → length (filter (is_other t) xs) ≤ length xs
length-kept t [] = omega arith
length-kept t (x ∷ xs) = let r = length-kept t xs in grind (arith, nat_tests, r)

pub length-drop_task : (t : ℕ) (xs : List ℕ) → length xs ≤ 200 → length (filter (is_other t) xs) ≤ 200
length-drop_task t xs few = let r = length-kept t xs in omega (arith, r, few)

pub length-push : (xs : List ℕ) (x : ℕ) → length xs < 200 → length (xs ++ x ∷ []) ≤ 200
length-push xs x few = let e = length-append xs (x ∷ []) in omega (arith, e, few)
