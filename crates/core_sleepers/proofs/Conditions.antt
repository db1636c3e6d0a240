-- Processor words and conditions.
use Rattle.std.proofs.Common.{◌≡◌, ◌≢◌, ℕ, ◌==◌, ◌+◌, ◌^◌, ◌%◌, ◌⊎◌, inl, inr, Bool, true, false, Option, Some, None, refl, sym, ap, subst, ◌∙◌, arith}
use Rattle.std.specs.Prelude.{if◌then◌else◌}
use Rattle.std.proofs.lemmas.Bool.{cases_eq}
use Rattle.std.proofs.lemmas.Bool.Decides.{nat_tests}
use Rattle.core_data.specs.Columns.{Columns, put}
use Rattle.core_invariant.proofs.Puts.{put_here, put_there}
use Rattle.core_gives.specs.Waits.{has_task}
use Rattle.core_invariant.specs.Invariant.{Holds}
use Rattle.core_invariant.specs.Sleepers.{SleepersHold, IsAwake, IsSafeSleeper, IsSafeBeside}
use Rattle.core_kinds.specs.Steps.{fresh, is_sleep, IsRunnable}
use Rattle.core_kinds.specs.Waking.{MayStoreCpu, store_cpu, IsPlaceable, MayBump, bump, load_cond, test_by, tested_if}
use Rattle.core_sleepers.proofs.Plain.{both}
use Rattle.core_sleepers.proofs.Safe.{IsSafeOr, safe-moved, tested, tested-other, safe-tested}
use Rattle.core_sleepers.proofs.Placed.{runnable-is, safe_at, asleep_not}
use Rattle.handoff_data.specs.declared.state.State.{State}

-- a fact of t on its new processor, and of each other task on its own
by_cpu : (P : ℕ → ℕ → Type 0) (cpu : ℕ → ℕ) (t c u : ℕ) → P t c → P u (cpu u) → P u (put cpu t c u)
by_cpu P cpu t c u n h =
    elim (cases_eq u t) [
      | inl e ↦ subst (λ v. P u v) (sym (put_here cpu t c u e)) (subst (λ v. P v c) (sym e) n)
      | inr e ↦ subst (λ v. P u v) (sym (put_there cpu t c u e)) h
    ]

-- the processor of t changes, which is awake or never ran
hold-moves : (core : Columns) (t c : ℕ) → SleepersHold core → ((k : ℕ) → IsAwake (core.state t) ⊎ (core.tested c t k ≡ None)) → is_sleep (core.state t) ≡ false
    → SleepersHold (record core { cpu = put core.cpu t c })
hold-moves core t c h safe awake =
    record {
      once = h.once;
      safe_home = λ k u entries w e. safe-moved core.state core.cpu core.cond core.tested t c k u (safe k) (h.safe_home k u entries w e);
      safe_out = λ x k u taken w e. safe-moved core.state core.cpu core.cond core.tested t c k u (safe k) (h.safe_out x k u taken w e);
      safe_passed = λ x k u w p. safe-moved core.state core.cpu core.cond core.tested t c k u (safe k) (h.safe_passed x k u w p);
      safe_stored = λ x k u w d o. safe-moved core.state core.cpu core.cond core.tested t c k u (safe k) (h.safe_stored x k u w d o);
      entry_home = λ k u entries a z w. by_cpu (λ v y. core.is_asleep y v k ≡ true → is_sleep (core.state v) ≡ true → has_task entries v ≡ true) core.cpu t c u
          (λ _ y. absurd (both (is_sleep (core.state t)) y awake)) (λ b y. h.entry_home k u entries b y w) a z;
      entry_out = λ x k u taken a z w. by_cpu (λ v y. core.is_asleep y v k ≡ true → is_sleep (core.state v) ≡ true → has_task taken v ≡ true) core.cpu t c u
          (λ _ y. absurd (both (is_sleep (core.state t)) y awake)) (λ b y. h.entry_out x k u taken b y w) a z;
      passed_awake = λ x k u w p a. by_cpu (λ v y. core.has_passed x k v ≡ true → core.is_asleep y v k ≡ true → is_sleep (core.state v) ≡ false) core.cpu t c u
          (λ _ _. awake) (λ q b. h.passed_awake x k u w q b) p a;
      fresh_slept = h.fresh_slept;
      fresh_test = h.fresh_test;
    }

runnable-safe : (x : State) → IsRunnable x → IsAwake x ⊎ (x ≡ fresh)
runnable-safe x h = elim (runnable-is x h) [ inl e ↦ inl (inl e) | inr e ↦ inr e ]

placeable : (core : Columns) (s t : ℕ) → Holds core → IsPlaceable core s t → IsAwake (core.state t) ⊎ (core.state t ≡ fresh)
placeable core s t holds h =
    elim h [
      | inl new ↦ runnable-safe (core.state t) (holds.places.new_states.runnable t new)
      | inr (inl w) ↦ inl (inr (inl w.1))
      | inr (inr moving) ↦ runnable-safe (core.state t) (holds.places.moving.runnable t moving)
    ]

pub SleepersHold-store_cpu : (core : Columns) (s t c : ℕ) → Holds core → MayStoreCpu core s t c → SleepersHold (store_cpu core s t c)
SleepersHold-store_cpu core s t c holds may =
    let safe = placeable core s t holds may.placeable in
    assumption (hold-moves core t c holds.sleepers (λ k. safe_at core t holds safe c k) (asleep_not (core.state t) safe))

-- a seat raises condition l
abbrev raised : (ℕ → ℕ) → ℕ → ℕ → ℕ
raised cond l = put cond l ((cond l + 1) % 2 ^ 64)

raised-other : (cond : ℕ → ℕ) (l k : ℕ) → k ≢ l → raised cond l k ≡ cond k
raised-other cond l k h = put_there cond l ((cond l + 1) % 2 ^ 64) k h

-- .. and owes it a walk
abbrev owing : (ℕ → ℕ → Bool) → ℕ → ℕ → ℕ → ℕ → Bool
owing owes s l = put owes s (λ k. if k == l then true else owes s k)

abbrev untaken : (ℕ → ℕ → Bool) → ℕ → ℕ → ℕ → ℕ → Bool
untaken retaken s l = put retaken s (λ k. if k == l then false else retaken s k)

owing-here : (owes : ℕ → ℕ → Bool) (s l k : ℕ) → k ≡ l → owing owes s l s k ≡ true
owing-here owes s l k h = grind (arith, nat_tests, h)

owing-other : (owes : ℕ → ℕ → Bool) (s l x k : ℕ) → owes x k ≡ true → owing owes s l x k ≡ true
owing-other owes s l x k h = grind (arith, nat_tests, h)

untaken-here : (retaken : ℕ → ℕ → Bool) (s l k : ℕ) → k ≡ l → untaken retaken s l s k ≡ false
untaken-here retaken s l k h = grind (arith, nat_tests, h)

untaken-other : (retaken : ℕ → ℕ → Bool) (s l x k : ℕ) → retaken x k ≡ false → untaken retaken s l x k ≡ false
untaken-other retaken s l x k h = grind (arith, nat_tests, h)

-- the tests of others are as right as before
safe-raised : {O P : Type 0} (state : ℕ → State) (cpu cond : ℕ → ℕ) (test : ℕ → ℕ → ℕ → Option ℕ) (l k u : ℕ)
    → (O → P) → (k ≡ l → P) → IsSafeOr O state cpu cond test k u → IsSafeOr P state cpu (raised cond l) test k u
safe-raised state cpu cond test l k u f here h =
    elim (cases_eq k l) [
      | inl e ↦ inr (inr (here e))
      | inr e ↦ elim h [
        | inl a ↦ inl a
        | inr (inl (inl n)) ↦ inr (inl (inl n))
        | inr (inl (inr v)) ↦ inr (inl (inr (v ∙ ap Some (sym (raised-other cond l k e)))))
        | inr (inr o) ↦ inr (inr (f o))
      ]
    ]

safe-bumped : (core : Columns) (s l k u : ℕ) → IsSafeSleeper core k u → IsSafeSleeper (bump core s l) k u
safe-bumped core s l k u h =
    safe-raised core.state core.cpu core.cond core.tested l k u
    (λ o. (o.0, owing-other core.owes_walk s l o.0 k o.1, elim o.2 [ inl r ↦ inl (untaken-other core.has_retaken s l o.0 k r) | inr p ↦ inr p ]))
    (λ e. (s, owing-here core.owes_walk s l k e, inl (untaken-here core.has_retaken s l k e))) h

beside-bumped : (core : Columns) (s l y k u : ℕ) → IsSafeBeside core y k u → IsSafeBeside (bump core s l) y k u
beside-bumped core s l y k u h =
    safe-raised core.state core.cpu core.cond core.tested l k u
    (λ o. (o.0, owing-other core.owes_walk s l o.0 k o.1, elim o.2 [ inl r ↦ inl (untaken-other core.has_retaken s l o.0 k r) | inr p ↦ inr p ]))
    (λ e. (s, owing-here core.owes_walk s l k e, inl (untaken-here core.has_retaken s l k e))) h

pub SleepersHold-bump : (core : Columns) (s k : ℕ) → Holds core → MayBump core s k → SleepersHold (bump core s k)
SleepersHold-bump core s k holds may =
    let h = holds.sleepers in
    record {
      once = h.once;
      safe_home = λ l u entries w e. safe-bumped core s k l u (h.safe_home l u entries w e);
      safe_out = λ x l u taken w e. safe-bumped core s k l u (h.safe_out x l u taken w e);
      safe_passed = λ x l u w p. safe-bumped core s k l u (h.safe_passed x l u w p);
      safe_stored = λ x l u w c o. beside-bumped core s k x l u (h.safe_stored x l u w c o);
      entry_home = h.entry_home;
      entry_out = h.entry_out;
      passed_awake = h.passed_awake;
      fresh_slept = h.fresh_slept;
      fresh_test = h.fresh_test;
    }

-- the test of a task that has slept
hold-tested : (core : Columns) (s t k : ℕ) → SleepersHold core → core.has_slept s t ≡ true → SleepersHold (record core { tested = tested core.tested core.cond s t k })
hold-tested core s t k h slept =
    record {
      once = h.once;
      safe_home = λ l u entries w e. safe-tested core.state core.cpu core.cond core.tested s t k l u (h.safe_home l u entries w e);
      safe_out = λ x l u taken w e. safe-tested core.state core.cpu core.cond core.tested s t k l u (h.safe_out x l u taken w e);
      safe_passed = λ x l u w p. safe-tested core.state core.cpu core.cond core.tested s t k l u (h.safe_passed x l u w p);
      safe_stored = λ x l u w c o. safe-tested core.state core.cpu core.cond core.tested s t k l u (h.safe_stored x l u w c o);
      entry_home = h.entry_home;
      entry_out = h.entry_out;
      passed_awake = h.passed_awake;
      fresh_slept = h.fresh_slept;
      fresh_test = λ x u l e.
          tested-other core.tested core.cond s t k x u l (λ p q. (let f = h.fresh_slept s t (ap core.state (sym q) ∙ e) in grind (arith, f, slept))) ∙ h.fresh_test x u l e;
    }

hold-tested_if : (b : Bool) (core : Columns) (s t k : ℕ) → SleepersHold core → core.has_slept s t ≡ b → SleepersHold (tested_if b core s t k (core.cond k))
hold-tested_if true core s t k h slept = assumption (hold-tested core s t k h slept)
hold-tested_if false core s t k h slept = h

hold-test_by : (o : Option ℕ) (core : Columns) (s k : ℕ) → SleepersHold core → SleepersHold (test_by core s o k)
hold-test_by None core s k h = h
hold-test_by (Some t) core s k h = hold-tested_if (core.has_slept s t) core s t k h refl

pub SleepersHold-load_cond : (core : Columns) (s k : ℕ) → Holds core → MayBump core s k → SleepersHold (load_cond core s k)
SleepersHold-load_cond core s k holds may = hold-test_by (core.current_task s) core s k holds.sleepers
