-- What seats have as tests changes only by their own steps on their current task.
use Rattle.std.proofs.Common.{◌≡◌, ℕ, ◌⊎◌, inl, inr, List, Bool, true, false, Some, None, Option, refl, sym, ap, ◌∙◌, arith}
use Rattle.std.specs.Prelude.{if◌then◌else◌, ◌==◌, ◌&&◌}
use Rattle.std.proofs.lemmas.Bool.{cases_eq}
use Rattle.std.proofs.lemmas.Bool.Decides.{nat_tests}
use Rattle.core_data.specs.Queue.{Queue}
use Rattle.core_data.specs.Columns.{Columns, put}
use Rattle.core_data.specs.declared.values.WaitEntry.{WaitEntry}
use Rattle.core_gives.specs.Queues.{give_queue, give_up_if, gives_up}
use Rattle.core_gives.specs.Waits.{give_wait, give_by, walked_if, is_walk}
use Rattle.core_invariant.proofs.Puts.{put_here}
use Rattle.core_kinds.specs.Running.{set_busy}
use Rattle.core_kinds.specs.Steps.{is_sleep}
use Rattle.core_kinds.specs.Waking.{MaySetState, set_state, slept_if, ran_if, load_state, load_rq, load_busy, load_cond, test_by, tested_if}
use Rattle.core_law.specs.StepLaws.{KeepsTests}
use Rattle.core_locks.proofs.Branches.{IsLoadFree, set_state-keeps, load_state-keeps, load_rq-keeps, load_busy-keeps}
use Rattle.handoff_data.specs.declared.state.State.{State}

-- a step that changes no test
pub keeps-tests : (s : ℕ) (core next : Columns) → next.tested ≡ core.tested → KeepsTests s core next
keeps-tests s core next same x t k = inl (ap (λ f. f x t k) same)

free : (core : Columns) (s t : ℕ) → IsLoadFree (λ next. next.tested ≡ core.tested) s t
free core s t =
    record {
      reads = λ next r p. p;
      seen = λ next x p. p;
      log = λ next x p. p;
      matched = λ next p. p;
      saw_off = λ next p. p;
      saw_clear = λ next p. p;
      saw_rest = λ next p. p;
      saw_rest_off = λ next p. p;
      saw_rest_idle = λ next p. p;
      passed = λ next p. p;
    }

pub tests-load_state : (core : Columns) (s t : ℕ) (mask : Option State) → KeepsTests s core (load_state core s t mask)
tests-load_state core s t mask = keeps-tests s core (load_state core s t mask) (load_state-keeps (λ next. next.tested ≡ core.tested) core s t mask (free core s t) refl)

pub tests-load_rq : (core : Columns) (s t : ℕ) → KeepsTests s core (load_rq core s t)
tests-load_rq core s t = keeps-tests s core (load_rq core s t) (load_rq-keeps (λ next. next.tested ≡ core.tested) core s t (free core s t) refl)

pub tests-load_busy : (core : Columns) (s t : ℕ) → KeepsTests s core (load_busy core s t)
tests-load_busy core s t = keeps-tests s core (load_busy core s t) (load_busy-keeps (λ next. next.tested ≡ core.tested) core s t (free core s t) refl)

given_up : (b : Bool) (core : Columns) (s : ℕ) → (give_up_if b core s).tested ≡ core.tested
given_up true core s = refl
given_up false core s = refl

pub tests-give_queue : (core : Columns) (s c : ℕ) (queue : Queue) → KeepsTests s core (give_queue core s c queue)
tests-give_queue core s c queue = keeps-tests s core (give_queue core s c queue) (given_up (gives_up s c queue) _ s)

walked : (b : Bool) (core : Columns) (s k : ℕ) → (walked_if b core s k).tested ≡ core.tested
walked true core s k = refl
walked false core s k = refl

given_by : (o : Option (List WaitEntry)) (core : Columns) (s k : ℕ) (given : List WaitEntry) → (give_by core s k given o).tested ≡ core.tested
given_by None core s k given = refl
given_by (Some taken) core s k given = walked (core.owes_walk s k && (core.has_retaken s k && is_walk (core.has_passed s k) taken)) _ s k

pub tests-give_wait : (core : Columns) (s k : ℕ) (given : List WaitEntry) → KeepsTests s core (give_wait core s k given)
tests-give_wait core s k given = keeps-tests s core (give_wait core s k given) (given_by (core.wait_held s k) core s k given)

-- the tests of t by seat s are forgotten
forgot : (test : ℕ → ℕ → ℕ → Option ℕ) (s t x u l : ℕ) → (put test s (λ v m. if v == t then None else test s v m) x u l ≡ test x u l) ⊎ ((x ≡ s) × (u ≡ t))
forgot test s t x u l =
    elim (cases_eq x s) [
      | inl q ↦ elim (cases_eq u t) [ inl r ↦ inr (q, r) | inr r ↦ inl (grind (arith, nat_tests, q, r)) ]
      | inr q ↦ inl (grind (arith, nat_tests, q))
    ]

of_own : (core next : Columns) (s t : ℕ) → next.current_task s ≡ Some t → ((x u l : ℕ) → (next.tested x u l ≡ core.tested x u l) ⊎ ((x ≡ s) × (u ≡ t))) → KeepsTests s core next
of_own core next s t own by x u l =
    elim (by x u l) [
      | inl a ↦ inl a
      | inr a ↦ inr (a.0, own ∙ ap (λ z. Some z) (sym a.1))
    ]

pub tests-set_busy : (core : Columns) (s c t : ℕ) → KeepsTests s core (set_busy core s c t)
tests-set_busy core s c t = of_own core (set_busy core s c t) s t (put_here core.current_task s (Some t) s refl) (forgot core.tested s t)

slept : (b : Bool) (core : Columns) (s t x u l : ℕ) → ((slept_if b core s t).tested x u l ≡ core.tested x u l) ⊎ ((x ≡ s) × (u ≡ t))
slept true core s t x u l = forgot core.tested s t x u l
slept false core s t x u l = inl refl

ran : (b : Bool) (core : Columns) (s t : ℕ) → (ran_if b core s t).tested ≡ core.tested
ran true core s t = refl
ran false core s t = refl

pub tests-set_state : (core : Columns) (s t : ℕ) (state : State) → MaySetState core s t state → KeepsTests s core (set_state core s t state)
tests-set_state core s t state may =
    of_own core (set_state core s t state) s t
    (set_state-keeps (λ next. next.current_task s ≡ Some t) core s t state (record { forget = λ next x y p. p; slept = λ next p. p; passed = λ next p. p }) may.current)
    (λ x u l. elim (slept (is_sleep state) _ s t x u l) [
      | inl a ↦ inl (ap (λ f. f x u l) (ran (state.0 == 0) (slept_if (is_sleep state) _ s t) s t) ∙ a)
      | inr a ↦ inr a
    ])

tested : (b : Bool) (core : Columns) (s t k v x u l : ℕ) → ((tested_if b core s t k v).tested x u l ≡ core.tested x u l) ⊎ ((x ≡ s) × (u ≡ t))
tested false core s t k v x u l = inl refl
tested true core s t k v x u l =
    elim (cases_eq x s) [
      | inl q ↦ elim (cases_eq u t) [ inl r ↦ inr (q, r) | inr r ↦ inl (grind (arith, nat_tests, q, r)) ]
      | inr q ↦ inl (grind (arith, nat_tests, q))
    ]

tested-current : (b : Bool) (core : Columns) (s t k v : ℕ) → (tested_if b core s t k v).current_task ≡ core.current_task
tested-current true core s t k v = refl
tested-current false core s t k v = refl

tested_by : (o : Option ℕ) (core : Columns) (s k : ℕ) → core.current_task s ≡ o → KeepsTests s core (test_by core s o k)
tested_by None core s k is = λ x u l. inl refl
tested_by (Some t) core s k is =
    of_own core (tested_if (core.has_slept s t) core s t k (core.cond k)) s t (ap (λ f. f s) (tested-current (core.has_slept s t) core s t k (core.cond k)) ∙ is)
    (tested (core.has_slept s t) core s t k (core.cond k))

pub tests-load_cond : (core : Columns) (s k : ℕ) → KeepsTests s core (load_cond core s k)
tests-load_cond core s k = tested_by (core.current_task s) core s k refl
