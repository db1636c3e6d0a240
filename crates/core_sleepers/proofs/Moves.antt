-- The parts of steps: what each does to sleepers.
use Rattle.std.proofs.Common.{◌≡◌, ◌≢◌, ℕ, ◌==◌, ◌⊎◌, inl, inr, Bool, true, false, Option, Some, None, sym, ap, subst, ◌∙◌, arith}
use Rattle.std.specs.Prelude.{if◌then◌else◌}
use Rattle.std.proofs.lemmas.Bool.{cases_eq}
use Rattle.std.proofs.lemmas.Bool.Decides.{nat_tests}
use Rattle.core_data.specs.Noted.{noted}
use Rattle.core_data.specs.Columns.{Columns, put}
use Rattle.core_data.specs.declared.act.Act.TheVariants.{OwnStored, Slept, Passed, Picked}
use Rattle.core_gives.specs.Waits.{has_task}
use Rattle.core_invariant.proofs.Puts.{put_here, put_there}
use Rattle.core_invariant.specs.Sleepers.{SleepersHold, IsAwake, IsSafeBeside}
use Rattle.core_kinds.specs.Steps.{fresh, is_sleep}
use Rattle.core_sleepers.proofs.Plain.{both}
use Rattle.core_sleepers.proofs.Safe.{forgot, forgot-none, safe-forgot, safe-stated, passing-other, safe-here, safe-passing, beside-passing}
use Rattle.handoff_data.specs.declared.state.State.{State}

pub awake-no_sleep : (x : State) → IsAwake x → is_sleep x ≡ false
awake-no_sleep x h = elim h [ inl e ↦ ap (λ y. is_sleep y) e | inr (inl e) ↦ ap (λ y. is_sleep y) e | inr (inr e) ↦ ap (λ y. is_sleep y) e ]

pub awake-no_fresh : (x : State) → IsAwake x → x ≢ fresh
awake-no_fresh x h e = elim h [ inl a ↦ grind (arith, a, e) | inr (inl a) ↦ grind (arith, a, e) | inr (inr a) ↦ grind (arith, a, e) ]

-- the tests and sleeps of a seat's task are forgotten
abbrev pub forgets : Columns → ℕ → ℕ → Columns
forgets core s t = record core { tested = forgot core.tested s t; is_asleep = put core.is_asleep s (λ u l. if u == t then false else core.is_asleep s u l) }

asleep-forgot : (asleep : ℕ → ℕ → ℕ → Bool) (s t x u k : ℕ) → put asleep s (λ v l. if v == t then false else asleep s v l) x u k ≡ true → asleep x u k ≡ true
asleep-forgot asleep s t x u k h = grind (arith, nat_tests, h)

pub hold-forgets : (core : Columns) (s t : ℕ) → SleepersHold core → SleepersHold (forgets core s t)
hold-forgets core s t h =
    record {
      once = h.once;
      safe_home = λ k u entries w e. safe-forgot core.state core.cpu core.cond core.tested s t k u (h.safe_home k u entries w e);
      safe_out = λ x k u taken w e. safe-forgot core.state core.cpu core.cond core.tested s t k u (h.safe_out x k u taken w e);
      safe_passed = λ x k u w p. safe-forgot core.state core.cpu core.cond core.tested s t k u (h.safe_passed x k u w p);
      safe_stored = λ x k u w c o. safe-forgot core.state core.cpu core.cond core.tested s t k u (h.safe_stored x k u w c o);
      entry_home = λ k u entries a z w. h.entry_home k u entries (asleep-forgot core.is_asleep s t (core.cpu u) u k a) z w;
      entry_out = λ x k u taken a z w. h.entry_out x k u taken (asleep-forgot core.is_asleep s t (core.cpu u) u k a) z w;
      passed_awake = λ x k u w p a. h.passed_awake x k u w p (asleep-forgot core.is_asleep s t (core.cpu u) u k a);
      fresh_slept = h.fresh_slept;
      fresh_test = λ x u k e. forgot-none core.tested s t x u k (h.fresh_test x u k e);
    }

-- t stores a state that isn't TASK_NEW: one that is awake, or, where its seat has forgotten its tests and sleeps, any
abbrev pub states : Columns → ℕ → State → Columns
states core t new = record core { state = put core.state t new }

-- a fact of the old state of each task, and of the new one of t, is a fact of each state
by_state : (P : ℕ → State → Type 0) (state : ℕ → State) (t : ℕ) (new : State) (u : ℕ) → P t new → P u (state u) → P u (put state t new u)
by_state P state t new u n h =
    elim (cases_eq u t) [
      | inl e ↦ subst (λ v. P u v) (sym (put_here state t new u e)) (subst (λ v. P v new) (sym e) n)
      | inr e ↦ subst (λ v. P u v) (sym (put_there state t new u e)) h
    ]

pub hold-states : (core : Columns) (t : ℕ) (new : State) → SleepersHold core → new ≢ fresh
    → ((k : ℕ) → IsAwake new ⊎ (core.tested (core.cpu t) t k ≡ None))
    → ((k : ℕ) → core.is_asleep (core.cpu t) t k ≡ true → is_sleep new ≡ false)
    → SleepersHold (states core t new)
hold-states core t new h old safe sleeps =
    record {
      once = h.once;
      safe_home = λ k u entries w e. safe-stated core.state core.cpu core.cond core.tested t new k u (safe k) (h.safe_home k u entries w e);
      safe_out = λ x k u taken w e. safe-stated core.state core.cpu core.cond core.tested t new k u (safe k) (h.safe_out x k u taken w e);
      safe_passed = λ x k u w p. safe-stated core.state core.cpu core.cond core.tested t new k u (safe k) (h.safe_passed x k u w p);
      safe_stored = λ x k u w c o. safe-stated core.state core.cpu core.cond core.tested t new k u (safe k) (h.safe_stored x k u w c o);
      entry_home = λ k u entries a z w. by_state (λ v y. core.is_asleep (core.cpu v) v k ≡ true → is_sleep y ≡ true → core.wait k ≡ Some entries → has_task entries v ≡ true) core.state t new u
          (λ b y _. absurd (both (is_sleep new) y (sleeps k b))) (λ b y i. h.entry_home k u entries b y i) a z w;
      entry_out = λ x k u taken a z w. by_state (λ v y. core.is_asleep (core.cpu v) v k ≡ true → is_sleep y ≡ true → core.wait_held x k ≡ Some taken → has_task taken v ≡ true) core.state t new u
          (λ b y _. absurd (both (is_sleep new) y (sleeps k b))) (λ b y i. h.entry_out x k u taken b y i) a z w;
      passed_awake = λ x k u w p a. by_state (λ v y. core.has_passed x k v ≡ true → core.is_asleep (core.cpu v) v k ≡ true → is_sleep y ≡ false) core.state t new u
          (λ _ b. sleeps k b) (λ q b. h.passed_awake x k u w q b) p a;
      fresh_slept = λ x u e. by_state (λ v y. y ≡ fresh → core.has_slept x v ≡ false) core.state t new u (λ f. absurd (old f)) (λ f. h.fresh_slept x u f) e;
      fresh_test = λ x u k e. by_state (λ v y. y ≡ fresh → core.tested x v k ≡ None) core.state t new u (λ f. absurd (old f)) (λ f. h.fresh_test x u k f) e;
    }

-- a seat passes t, which is safe whatever is owed
pub hold-passes : (core : Columns) (s t : ℕ) → SleepersHold core → ((k : ℕ) → IsAwake (core.state t) ⊎ (core.tested (core.cpu t) t k ≡ None)) → is_sleep (core.state t) ≡ false
    → SleepersHold (noted core s (Passed t))
hold-passes core s t h safe awake =
    record {
      once = h.once;
      safe_home = λ k u entries w e. safe-passing core.state core.cpu core.cond core.tested core.owes_walk core.has_retaken core.has_passed s t k u (safe k) (h.safe_home k u entries w e);
      safe_out = λ x k u taken w e. safe-passing core.state core.cpu core.cond core.tested core.owes_walk core.has_retaken core.has_passed s t k u (safe k) (h.safe_out x k u taken w e);
      safe_passed = λ x k u w p. elim (cases_eq u t) [
        | inl e ↦ safe-here core.state core.cpu core.cond core.tested t k u e (safe k)
        | inr e ↦ safe-passing core.state core.cpu core.cond core.tested core.owes_walk core.has_retaken core.has_passed s t k u (safe k)
            (h.safe_passed x k u w (sym (passing-other core.has_passed s t x k u e) ∙ p))
      ];
      safe_stored = λ x k u w c o. beside-passing core.state core.cpu core.cond core.tested core.owes_walk core.has_retaken core.has_passed s t x k u (safe k) (h.safe_stored x k u w c o);
      entry_home = h.entry_home;
      entry_out = h.entry_out;
      passed_awake = λ x k u w p a. elim (cases_eq u t) [
        | inl e ↦ ap (λ v. is_sleep (core.state v)) e ∙ awake
        | inr e ↦ h.passed_awake x k u w (sym (passing-other core.has_passed s t x k u e) ∙ p) a
      ];
      fresh_slept = h.fresh_slept;
      fresh_test = h.fresh_test;
    }

-- a seat notes that its current task has stored its state
storing-other : (own_stored : ℕ → ℕ → ℕ → Bool) (s t x k u : ℕ) → u ≢ t → put own_stored s (λ l v. if v == t then true else own_stored s l v) x k u ≡ own_stored x k u
storing-other own_stored s t x k u h = grind (arith, nat_tests, h)

pub hold-stores : (core : Columns) (s t : ℕ) → SleepersHold core → ((k : ℕ) → IsAwake (core.state t) ⊎ (core.tested (core.cpu t) t k ≡ None))
    → SleepersHold (noted core s (OwnStored t))
hold-stores core s t h safe =
    let stored : (x k u : ℕ) → core.wait_lock k ≡ Some x → core.current_task x ≡ Some u → put core.has_own_stored s (λ l v. if v == t then true else core.has_own_stored s l v) x k u ≡ true
    → IsSafeBeside core x k u
    = λ x k u w c o. elim (cases_eq u t) [
      | inl e ↦ safe-here core.state core.cpu core.cond core.tested t k u e (safe k)
      | inr e ↦ h.safe_stored x k u w c (sym (storing-other core.has_own_stored s t x k u e) ∙ o)
    ] in
    assumption (h, stored)

-- .. or a sleep state
slept-other : (slept : ℕ → ℕ → Bool) (s t x u : ℕ) → u ≢ t → put slept s (λ v. if v == t then true else slept s v) x u ≡ slept x u
slept-other slept s t x u h = grind (arith, nat_tests, h)

pub hold-slept : (core : Columns) (s t : ℕ) → SleepersHold core → core.state t ≢ fresh → SleepersHold (noted core s (Slept t))
hold-slept core s t h old =
    let slept : (x u : ℕ) → core.state u ≡ fresh → put core.has_slept s (λ v. if v == t then true else core.has_slept s v) x u ≡ false
    = λ x u f. slept-other core.has_slept s t x u (λ e. old (ap core.state (sym e) ∙ f)) ∙ h.fresh_slept x u f in
    assumption (h, slept)

-- .. or that it has picked t
picked-at : (slept : ℕ → ℕ → Bool) (s t x u : ℕ) → slept x u ≡ false → put slept s (λ v. if v == t then false else slept s v) x u ≡ false
picked-at slept s t x u h = grind (arith, nat_tests, h)

pub hold-picked : (core : Columns) (s t : ℕ) → SleepersHold core → SleepersHold (noted core s (Picked t))
hold-picked core s t h =
    let slept : (x u : ℕ) → core.state u ≡ fresh → put core.has_slept s (λ v. if v == t then false else core.has_slept s v) x u ≡ false
    = λ x u f. picked-at core.has_slept s t x u (h.fresh_slept x u f) in
    assumption (h, slept)

-- a seat has t as its current task
pub hold-current : (core : Columns) (s t : ℕ) → SleepersHold core → ((k : ℕ) → IsAwake (core.state t) ⊎ (core.tested (core.cpu t) t k ≡ None))
    → SleepersHold (record core { current_task = put core.current_task s (Some t) })
hold-current core s t h safe =
    let stored : (x k u : ℕ) → core.wait_lock k ≡ Some x → put core.current_task s (Some t) x ≡ Some u → core.has_own_stored x k u ≡ true → IsSafeBeside core x k u
    = λ x k u w c o. elim (cases_eq u t) [
      | inl e ↦ safe-here core.state core.cpu core.cond core.tested t k u e (safe k)
      | inr e ↦ h.safe_stored x k u w (current_other core.current_task s t x u e c) o
    ] in
    assumption (h, stored)
  where
    current_other : (current : ℕ → Option ℕ) (s t x u : ℕ) → u ≢ t → put current s (Some t) x ≡ Some u → current x ≡ Some u
    current_other current s t x u e c = grind (arith, nat_tests, e, c)

-- .. or none
pub hold-no_current : (core : Columns) (s : ℕ) → SleepersHold core → SleepersHold (record core { current_task = put core.current_task s None })
hold-no_current core s h =
    let stored : (x k u : ℕ) → core.wait_lock k ≡ Some x → put core.current_task s None x ≡ Some u → core.has_own_stored x k u ≡ true → IsSafeBeside core x k u
    = λ x k u w c o. h.safe_stored x k u w (current_before core.current_task s x u c) o in
    assumption (h, stored)
  where
    current_before : (current : ℕ → Option ℕ) (s x u : ℕ) → put current s None x ≡ Some u → current x ≡ Some u
    current_before current s x u c = grind (arith, nat_tests, c)
