-- What the invariant says where a step is possible.
use Rattle.std.proofs.Common.{◌≡◌, ◌≢◌, ℕ, inl, inr, true, false, Some, None, Option, refl, subst, arith}
use Rattle.std.specs.Prelude.{IsSome}
use Rattle.std.proofs.lemmas.Bool.{cases_eq}
use Rattle.core_data.specs.Columns.{Columns}
use Rattle.core_invariant.specs.Invariant.{Holds}
use Rattle.core_invariant.specs.Locks.{IsGuarded}
use Rattle.core_kinds.specs.Steps.{waking}
use Rattle.core_kinds.specs.Waking.{IsPlaceable}

pub some_of : {A : Type 0} (o : Option A) → IsSome o → (v : A) × (o ≡ Some v)
some_of None h = absurd (grind (arith, h))
some_of (Some v) h = (v, refl)

-- nobody but the holder of a lock has its value out
pub only_out : (A : Type 0) (count seats : ℕ) (lock : ℕ → Option ℕ) (home : ℕ → Option A) (out : ℕ → ℕ → Option A) (s k : ℕ) → IsGuarded A count seats lock home out → lock k ≡ Some s
    → (u : ℕ) → IsSome (out u k) → u ≡ s
only_out A count seats lock home out s k p locked u h = grind (arith, p.out_held u k h, locked)

-- a task off its queue whose state is TASK_WAKING was claimed by the holder of its lock
pub claimed_waking : (core : Columns) (s t : ℕ) → Holds core → core.lock t ≡ Some s → core.changes t ≢ 0 → core.on_rq t ≡ 0 → core.state t ≡ waking → core.is_claimed s t ≡ true
claimed_waking core s t holds locked known off awaits =
    elim (holds.places.off t known off) [
      | inl a ↦ absurd (grind (arith, a, awaits))
      | inr b ↦ elim b [
        | inl a ↦ absurd (grind (arith, a, awaits))
        | inr a ↦ let same : a.1.0 ≡ s = grind (arith, a.1.1, locked) in subst (λ z. core.is_claimed z t ≡ true) same a.1.2
      ]
    ]

-- a task that may be placed isn't busy
pub idle_placeable : (core : Columns) (s t : ℕ) → Holds core → core.lock t ≡ Some s → IsPlaceable core s t → core.on_cpu t ≡ false
idle_placeable core s t holds locked (inl new) = holds.places.new.idle t new
idle_placeable core s t holds locked (inr (inl a)) =
    elim (cases_eq (core.changes t) 0) [
      | inl new ↦ holds.places.new.idle t new
      | inr known ↦ holds.positions.claimed.idle s t (claimed_waking core s t holds locked known a.0 a.1) a.2
    ]
idle_placeable core s t holds locked (inr (inr moving)) = holds.places.moving.idle t moving

-- .. nor is it queued
pub off_placeable : (core : Columns) (s t : ℕ) → Holds core → IsPlaceable core s t → core.on_rq t ≢ 1
off_placeable core s t holds (inl new) = λ h. grind (arith, holds.places.new.off t new, h)
off_placeable core s t holds (inr (inl a)) = λ h. grind (arith, a.0, h)
off_placeable core s t holds (inr (inr moving)) = λ h. grind (arith, moving, h)
