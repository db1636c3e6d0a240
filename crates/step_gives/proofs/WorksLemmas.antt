-- Two lists of works that are compared pair by pair.
use Rattle.std.proofs.Common.{◌≡◌, ℕ, ◌==◌, ◌&&◌, List, Bool, true, ◌∙◌, ap, subst, arith}
use Rattle.std.specs.Prelude.{IsTrue, ◌↔◌}
use Rattle.std.proofs.lemmas.Bool.Decides.{nat_tests}
use lib.Pointwise.{pointwise, pointwise_decides}
use Rattle.core_data.specs.declared.values.WorkItem.{WorkItem}

abbrev pub is_work : WorkItem → WorkItem → Bool
is_work a b = (a.t == b.t) && (a.rec == b.rec)

abbrev work : ℕ → ℕ → WorkItem
work t rec = record { t = t; rec = rec }

is_work-same : (a b : WorkItem) → is_work a b ≡ true → a ≡ b
is_work-same a b h =
    let task : a.t ≡ b.t = grind (arith, nat_tests, h) in
    let seat : a.rec ≡ b.rec = grind (arith, nat_tests, h) in
    ap (λ (n : ℕ). work n a.rec) task ∙ ap (λ (n : ℕ). work b.t n) seat

is_work-self : (a : WorkItem) → is_work a a ≡ true
is_work-self a = grind (arith, nat_tests)

pub works-decides : (xs ys : List WorkItem) (b : Bool) → b ≡ pointwise is_work xs ys → (IsTrue b → xs ≡ ys) × (xs ≡ ys → IsTrue b)
works-decides xs ys b is =
    let decides = pointwise_decides {K = WorkItem} {E = is_work} (λ x y. (is_work-same x y, λ e. subst (λ (z : WorkItem). is_work x z ≡ true) e (is_work-self x))) xs ys in (
      λ h. let e : pointwise is_work xs ys ≡ true = grind (arith, is, h) in decides.0 e,
      λ same. let e : pointwise is_work xs ys ≡ true = decides.1 same in grind (arith, is, e),
    )
