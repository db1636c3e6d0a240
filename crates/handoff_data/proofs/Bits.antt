-- What operations on bits do to the set that the bits are.
use Rattle.std.proofs.Common.{◌≡◌, ℕ, ◌-◌, ◌*◌, ◌%◌, ◌^◌, ◌<◌, ◌≤◌, ◌⊎◌, ◌↔◌, bit_and, bit_or, arith, sym, ◌∙◌, ap, subst, inl, inr}
use Rattle.std.specs.Int.{bit_at, trailing_zeros, w128}
use Rattle.std.proofs.lemmas.Bool.{cases_eq, cases_lt}
use Rattle.std.proofs.Math.Pow.{pow-lt}
use Rattle.std.proofs.Math.Nat.{mod-eq_of_lt}
use Rattle.std.proofs.lemmas.Nat.Bits.{bit_at_and, bit_at_or, bit_at-pow_same, bit_at-pow_other, bit_at_ones, bit_at_ones_above, bit_at-trailing_zeros, bit_at-lt, bit_at_above, bit_at-zero}
use Rattle.std.proofs.lemmas.Nat.Bits.{same_from_bits}
use Rattle.handoff_data.specs.Mask.{HasCpu}
use Rattle.handoff_data.specs.declared.mask.CpuMask.{CpuMask}

-- a one that is shifted by few places
pub shifted_one : (c : ℕ) → c < 128 → 1 * 2 ^ c % 2 ^ 128 ≡ 2 ^ c
shifted_one c small =
    let e : 1 * 2 ^ c ≡ 2 ^ c = omega arith in
    let lt : 2 ^ c < 2 ^ 128 = pow-lt small in
    rw e (mod-eq_of_lt lt)

-- the set of one
pub bits_of : (c k : ℕ) → c < 16 → (bit_at (1 * 2 ^ c % 2 ^ 128) k ≡ 1) ↔ (k ≡ c)
bits_of c k small =
    let e : 1 * 2 ^ c % 2 ^ 128 ≡ 2 ^ c = shifted_one c (omega arith) in
    elim (cases_eq k c) [
      | inl same ↦ (λ _. same, λ _. rw (e, same) (bit_at-pow_same c))
      | inr other ↦ (λ h. absurd (let z : bit_at (2 ^ c) k ≡ 0 = bit_at-pow_other c k other in let one : bit_at (2 ^ c) k ≡ 1 = rw e at h in omega arith), λ same. absurd (other same))
    ]

-- the set of all below a number
pub bits_all : (n k : ℕ) → n ≤ 16 → (bit_at (1 * 2 ^ n % 2 ^ 128 - 1) k ≡ 1) ↔ (k < n)
bits_all n k small =
    let e : 1 * 2 ^ n % 2 ^ 128 ≡ 2 ^ n = shifted_one n (omega arith) in
    elim (cases_lt k n) [
      | inl below ↦ (λ _. below, λ _. rw e (bit_at_ones n k below))
      | inr above ↦ (λ h. absurd (let z : bit_at (2 ^ n - 1) k ≡ 0 = bit_at_ones_above n k above in let one : bit_at (2 ^ n - 1) k ≡ 1 = rw e at h in omega arith), λ below. omega arith)
    ]

-- what both have
pub bits_and : (a b k : ℕ) → (bit_at (bit_and a b) k ≡ 1) ↔ ((bit_at a k ≡ 1) × (bit_at b k ≡ 1))
bits_and a b k = grind (arith, bit_at_and a b k, bit_at-lt a k, bit_at-lt b k)

-- one more
pub bits_with : (a c k : ℕ) → c < 16 → (bit_at (bit_or a (1 * 2 ^ c % 2 ^ 128)) k ≡ 1) ↔ ((bit_at a k ≡ 1) ⊎ (k ≡ c))
bits_with a c k small =
    let h : (bit_at (1 * 2 ^ c % 2 ^ 128) k ≡ 1) ↔ (k ≡ c) = bits_of c k small in
    grind (arith, bit_at_or a (1 * 2 ^ c % 2 ^ 128) k, bit_at-lt a k, bit_at-lt (1 * 2 ^ c % 2 ^ 128) k, h)

-- no bit
pub none_zero : (a : ℕ) → ((k : ℕ) → bit_at a k ≡ 1 → ⊥) → a ≡ 0
none_zero a none = same_from_bits a 0 (λ k. let lt : bit_at a k < 2 = bit_at-lt a k in let z : bit_at 0 k ≡ 0 = bit_at-zero k in
    elim (cases_eq (bit_at a k) 1) [ inl one ↦ absurd (none k one) | inr other ↦ omega arith ])

-- two masks with the same processors are one
pub same_members : (a b : CpuMask) → ((c : ℕ) → HasCpu a c ↔ HasCpu b c) → a ≡ b
same_members a b same =
    let bits : a.bits ≡ b.bits = same_from_bits a.bits b.bits (λ k.
    let la : bit_at a.bits k < 2 = bit_at-lt a.bits k in
    let lb : bit_at b.bits k < 2 = bit_at-lt b.bits k in
    elim (cases_eq (bit_at a.bits k) 1) [
      | inl one ↦ one ∙ sym ((same k).0 (record { bit = one })).bit
      | inr other ↦ elim (cases_eq (bit_at b.bits k) 1) [
        | inl one ↦ absurd (other ((same k).1 (record { bit = one })).bit)
        | inr neither ↦ omega arith
      ]
    ])
    in ap (λ (n : ℕ). let m : CpuMask = record { bits = n } in m) bits

pub zero_none : (a k : ℕ) → a ≡ 0 → bit_at a k ≡ 1 → ⊥
zero_none a k e one =
    let z : bit_at 0 k ≡ 0 = bit_at-zero k in
    let o : bit_at 0 k ≡ 1 = subst (λ (n : ℕ). bit_at n k ≡ 1) e one in
    let f : ◌≡◌ {A = ℕ} 0 1 = sym z ∙ o in omega arith

-- the lowest
pub lowest_bit : (a : ℕ) → 0 < a → a < 2 ^ 128 → bit_at a (trailing_zeros w128 a) ≡ 1
lowest_bit a some small = (bit_at-trailing_zeros w128 a some small).1

pub none_lower : (a k : ℕ) → 0 < a → a < 2 ^ 128 → bit_at a k ≡ 1 → trailing_zeros w128 a ≤ k
none_lower a k some small one =
    elim (cases_lt k (trailing_zeros w128 a)) [
      | inl below ↦ absurd (let z : bit_at a k ≡ 0 = (bit_at-trailing_zeros w128 a some small).2 k below in omega arith)
      | inr above ↦ above
    ]

pub none_above : (a k : ℕ) → a < 2 ^ 128 → 128 ≤ k → bit_at a k ≡ 1 → ⊥
none_above a k small above one = let z : bit_at a k ≡ 0 = bit_at_above a 128 k small above in omega arith
