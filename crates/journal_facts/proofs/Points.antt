-- What stands around the point where a key would stand.
use Rattle.std.proofs.Common.{◌≡◌, ◌<◌, ◌≤◌, ◌+◌, ◌-◌, ◌↔◌, ℕ, false, arith, inl, inr, List, length, get_or, take, drop, subst, sym, ap, ◌∙◌}
use Rattle.std.proofs.Math.Seq.{take-length}
use Rattle.std.specs.Prelude.{Contains, IsSorted}
use Rattle.std.specs.Ordering.{is_lt}
use Rattle.std.specs.List.Sorted.{IsPartitionPoint}
use Rattle.std.proofs.lemmas.Bool.{cases_lt}
use Rattle.std.proofs.lemmas.List.Sorted.{sorted_far}
use Rattle.std.proofs.lemmas.Option.{slice_get-get_or, get_or_from_slice_get}
use Rattle.std.proofs.lemmas.List.{length-drop, get_or-drop}
use Rattle.journal_facts.specs.declared.fact.Fact.{Fact}
use Rattle.journal_facts.specs.Facts.{fact_cmp}
use Rattle.journal_facts.specs.Order.{IsBelow, IsUpTo}
use Rattle.journal_facts.proofs.Lexical.{is_up_to, fact_ranks, not_below}

take_all : (xs : List Fact) (n : ℕ) → length xs ≡ n → take n xs ≡ xs
take_all xs n e = subst (λ (k : ℕ). take k xs ≡ xs) e (take-length xs)

-- what stands at an index inside, whatever stands for what is outside
pub same_default : (xs : List Fact) (i : ℕ) (d d' : Fact) → i < length xs → get_or xs i d' ≡ get_or xs i d
same_default xs i d d' within = get_or_from_slice_get xs i (get_or xs i d) d' (slice_get-get_or xs i d within)

-- what stands at an index isn't after what stands further on
pub rising : (xs : List Fact) → IsSorted fact_cmp xs → (i j : ℕ) (a b : Fact) → i ≤ j → j < length xs → get_or xs i a ≡ a → get_or xs j b ≡ b → IsUpTo a b
rising xs sorted i j a b low within at_a at_b =
    let far : is_lt (fact_cmp (get_or xs j b) (get_or xs i b)) ≡ false = sorted_far _ fact_ranks xs sorted i j b low within in
    let there : get_or xs i b ≡ a = same_default xs i a b (omega arith) ∙ at_a in
    is_up_to b a (subst (λ (x : Fact). is_lt (fact_cmp x a) ≡ false) at_b (subst (λ (x : Fact). is_lt (fact_cmp (get_or xs j b) x) ≡ false) there far))

module _ (xs : List Fact) (key : Fact) (n : ℕ) (sorted : IsSorted fact_cmp xs) (point : IsPartitionPoint (λ f. IsBelow f key) (λ f. IsUpTo key f) xs n) where
  -- a fact that isn't below the key stands at the point or behind it
  pub behind : (g : Fact) (c : Contains xs g) → IsUpTo key g → n ≤ c.0
  behind g c up = elim (cases_lt c.0 n) [
    | inl less ↦ absurd (not_below g key (subst (λ (x : Fact). IsBelow x key) c.2 (point.0 c.0 g (omega arith) less)) up)
    | inr more ↦ more
  ]

  -- a fact that is below the key stands before the point
  pub before : (g : Fact) (c : Contains xs g) → IsBelow g key → c.0 < n
  before g c below = elim (cases_lt c.0 n) [
    | inl less ↦ less
    | inr more ↦ absurd (not_below g key below (subst (λ (x : Fact). IsUpTo key x) c.2 (point.1 c.0 g more c.1)))
  ]

  pub found : (f : Fact) → n < length xs → get_or xs n f ≡ f → Contains xs f × IsUpTo key f
  found f within same = ((n, within, same), subst (λ (x : Fact). IsUpTo key x) same (point.1 n f (omega arith) within))

  pub least : (f : Fact) → n < length xs → get_or xs n f ≡ f → (g : Fact) → Contains xs g → IsUpTo key g → IsUpTo f g
  least f within at g c up = rising xs sorted n c.0 f g (behind g c up) c.1 at c.2

  pub none_behind : length xs ≤ n → (g : Fact) → Contains xs g → IsUpTo key g → ⊥
  none_behind past g c up = let b : n ≤ c.0 = behind g c up in let w : c.0 < length xs = c.1 in omega arith

  pub last_found : (f : Fact) → 0 < n → n ≤ length xs → get_or xs (n - 1) f ≡ f → Contains xs f × IsBelow f key
  last_found f some within at = ((n - 1, omega arith, at), subst (λ (x : Fact). IsBelow x key) at (point.0 (n - 1) f (omega arith) (omega arith)))

  pub greatest : (f : Fact) → 0 < n → n ≤ length xs → get_or xs (n - 1) f ≡ f → (g : Fact) → Contains xs g → IsBelow g key → IsUpTo g f
  greatest f some within at g c below =
      let less : c.0 < n = before g c below in
      rising xs sorted c.0 (n - 1) g f (omega arith) (omega arith) c.2 at

  pub none_before : n ≡ 0 → (g : Fact) → Contains xs g → IsBelow g key → ⊥
  none_before first g c below = let less : c.0 < n = before g c below in omega arith

  pub all_behind : n ≤ length xs → (f : Fact) → Contains (take (length xs - n) (drop n xs)) f ↔ (Contains xs f × IsUpTo key f)
  all_behind within f =
      let rest : take (length xs - n) (drop n xs) ≡ drop n xs = take_all (drop n xs) (length xs - n) (omega (arith, length-drop n xs)) in
      rw rest (
        λ c.
            let inside : n + c.0 < length xs = omega (arith, c.1, length-drop n xs) in
            let at : get_or xs (n + c.0) f ≡ f = sym (get_or-drop n xs c.0 f) ∙ c.2 in
            ((n + c.0, inside, at), subst (λ (x : Fact). IsUpTo key x) at (point.1 (n + c.0) f (omega arith) inside)),
        λ h.
            let c : Contains xs f = h.0 in
            let from : n ≤ c.0 = behind f c h.1 in
            let k : n + (c.0 - n) ≡ c.0 = omega arith in
            let w : c.0 < length xs = c.1 in
            (c.0 - n, omega (arith, length-drop n xs), get_or-drop n xs (c.0 - n) f ∙ ap (λ (i : ℕ). get_or xs i f) k ∙ c.2),
      )

-- what holds up to an index, and there, holds up to the next
pub next_too : (xs : List Fact) (i : ℕ) (P : Fact → Type 0) (x : Fact) → P (get_or xs i x) → i < length xs → ((k : ℕ) (d : Fact) → k < i → P (get_or xs k d))
    → (k : ℕ) (d : Fact) → k < i + 1 → P (get_or xs k d)
next_too xs i P x here inside so_far k d less = elim (cases_lt k i) [
  | inl below ↦ so_far k d below
  | inr more ↦
      let same : k ≡ i = omega arith in
      subst (λ (n : ℕ). P (get_or xs n d)) (sym same) (subst P (sym (same_default xs i x d inside)) here)
]
