-- A request that is done was met.
use Rattle.std.proofs.Common.{◌≡◌, ℕ, zero, suc, ◌+◌, ◌-◌, ◌≤◌, Option, refl, arith, subst, inl, inr}
use Rattle.std.specs.Prelude.{IfSome}
use Rattle.handoff_data.specs.declared.entry.Entry.TheVariants as entry
use Rattle.handoff_data.specs.declared.mask.CpuMask.{CpuMask}
use Rattle.handoff_data.specs.History.{History}
use Rattle.handoff_data.specs.Legal.{HasNoBad}
use Rattle.handoff_data.specs.Mask.{HasCpu}
use Rattle.handoff_data.specs.Positions.{Stands, IsSomewhere}
use Rattle.handoff_data.specs.Rules.{MaskAllows}
use Rattle.journal_laws.specs.Requests.{DoneWasMet}

-- mask r of t is somewhere, and isn't empty
abbrev IsSet : History → ℕ → ℕ → Type 0
IsSet j t r = (mask : CpuMask) × IsSomewhere j (entry.Mask t r mask) × ((c : ℕ) × HasCpu mask c)

-- a mask that is there is numbered from 1, and has the one before it
set-somewhere : (j : History) → HasNoBad j → (t r : ℕ) (mask : CpuMask) → IsSomewhere j (entry.Mask t r mask) → IsSet j t r
set-somewhere j no_bad t r mask at = (mask, at, ((no_bad at.0 at.1.0 _ at.1.1 10).masked_and_stood refl).1)

numbered-from_1 : (j : History) → HasNoBad j → (t r : ℕ) (mask : CpuMask) → IsSomewhere j (entry.Mask t r mask) → 1 ≤ r
numbered-from_1 j no_bad t r mask at = elim (((no_bad at.0 at.1.0 _ at.1.1 10).masked_and_stood refl).0) [
  | inl first ↦ omega arith
  | inr later ↦ omega (arith, later.0)
]

one-lower : (j : History) → HasNoBad j → (t r : ℕ) → 1 ≤ r → IsSet j t (r + 1) → IsSet j t r
one-lower j no_bad t r some set =
    let at = set.1 in
    elim (((no_bad at.0 at.1.0 _ at.1.1 10).masked_and_stood refl).0) [
      | inl first ↦ absurd (omega arith)
      | inr later ↦
          let less : r + 1 - 1 ≡ r = omega arith in
          set-somewhere j no_bad t r later.1.0 (subst (λ (n : ℕ). IsSomewhere j (entry.Mask t n later.1.0)) less later.1.1)
    ]

all-lower : (j : History) → HasNoBad j → (t k n : ℕ) → 1 ≤ n → IsSet j t (n + k) → IsSet j t n
all-lower j no_bad t zero n some set = subst (λ (x : ℕ). IsSet j t x) (omega arith) set
all-lower j no_bad t (suc k) n some set =
    let same : n + suc k ≡ n + k + 1 = omega arith in
    all-lower j no_bad t k n some (one-lower j no_bad t (n + k) (omega arith) (subst (λ (x : ℕ). IsSet j t x) same set))

-- under a mask from 1 on the one that allows a place was set
allowing : (j : History) (t r : ℕ) (at : Option ℕ) → 1 ≤ r → MaskAllows j t r at → (mask : CpuMask) × IsSomewhere j (entry.Mask t r mask) × IfSome at (λ c. HasCpu mask c)
allowing j t r at some allows = elim allows [
  | inl whole ↦ absurd (omega (arith, whole.0))
  | inr set ↦ set.1
]

pub done-met : (j : History) → HasNoBad j → (s i t r : ℕ) → Stands j s i (entry.Done t r) → DoneWasMet j s i t r
done-met j no_bad s i t r at =
    let done = (no_bad s i _ at 11).done_stood refl in
    let set = done.0 in
    let there : IsSomewhere j (entry.Mask t r set.0) = (s, (set.1.0, set.1.2)) in
    let from_1 = numbered-from_1 j no_bad t r set.0 there in
    let stood = done.1 in
    let r' = stood.0 in
    let m = stood.1 in
    let place = stood.2 in
    let not_before = stood.3 in
    let at' = stood.4 in
    let keeps = (no_bad at'.0 at'.1.0 _ at'.1.1 10).masked_and_stood refl in
    let mask = allowing j t r' place (omega (arith, from_1, not_before)) keeps.1 in
    record {
      set = set;
      each = λ n low high.
          let same : r ≡ n + (r - n) = omega arith in
          all-lower j no_bad t (r - n) n low (subst (λ (x : ℕ). IsSet j t x) same (set-somewhere j no_bad t r set.0 there));
      from_1 = from_1;
      met = record {
        r' = r';
        not_before = not_before;
        m = m;
        at = place;
        stood = at';
        left_there = keeps.0;
        mask = mask.0;
        set = mask.1;
        allows = mask.2;
        on_machine = ((no_bad at'.0 at'.1.0 _ at'.1.1 1).in_range refl).1;
      };
    }
