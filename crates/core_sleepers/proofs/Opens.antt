-- The opening core.
use Rattle.std.proofs.Common.{◌≡◌, ℕ, zero, suc, ◌+◌, ◌⊎◌, inl, inr, true, false, List, [], Some, None, refl, sym, ap, subst, ◌∙◌}
use Rattle.std.specs.Prelude.{replicate}
use Rattle.core_data.specs.Entries.{has_entry}
use Rattle.core_data.specs.Opening.{IsStart, first_task, first_cpu, first_cond, first_seat}
use Rattle.core_data.specs.Columns.{Columns, columns_of, column, tested_of, is_asleep_of, has_slept_of, wait_held_of}
use Rattle.core_data.specs.declared.values.WaitEntry.{WaitEntry}
use Rattle.core_data.specs.declared.words.CondWords.{CondWords}
use Rattle.core_gives.specs.Waits.{HasEachOnce}
use Rattle.core_invariant.specs.Sleepers.{SleepersHold, shared_entry}
use Rattle.core_sleepers.proofs.Plain.{both, no_some, some_same}
use Rattle.handoff_data.specs.Shape.{IsShape}
use Rattle.handoff_data.specs.declared.mask.CpuMask.{CpuMask}
use Rattle.handoff_data.specs.declared.shape.Shape.{Shape}

-- a column of equal rows
column-same : {A B : Type 0} (f : A → B) (d : B) (n : ℕ) (x : A) (k : ℕ) → (column f d (replicate n x) k ≡ f x) ⊎ (column f d (replicate n x) k ≡ d)
column-same f d zero x k = inr refl
column-same f d (suc n) x zero = inl refl
column-same f d (suc n) x (suc k) = column-same f d n x k

-- where the rows have what is past the end
column-blank : {A B : Type 0} (f : A → B) (d : B) (n : ℕ) (x : A) (k : ℕ) → f x ≡ d → column f d (replicate n x) k ≡ d
column-blank f d n x k h = elim (column-same f d n x k) [ inl e ↦ e ∙ h | inr e ↦ e ]

opened : (shape : Shape) (mask : CpuMask)
    → SleepersHold (columns_of shape (replicate shape.tasks (first_task mask)) (replicate shape.cpus first_cpu) (replicate shape.conds first_cond) (replicate (shape.cpus + shape.agents) first_seat))
opened shape mask =
    let seats = shape.cpus + shape.agents in
    let home : (k : ℕ) (v : List WaitEntry) → column (λ (w : CondWords). w.wait) None (replicate shape.conds first_cond) k ≡ Some v → v ≡ []
    = λ k v w. elim (column-same (λ (w : CondWords). w.wait) None shape.conds first_cond k) [ inl e ↦ some_same v [] (sym w ∙ e) | inr e ↦ absurd (no_some (sym e ∙ w)) ] in
    let out : (s k : ℕ) (v : List WaitEntry) → column wait_held_of (λ k. None) (replicate seats first_seat) s k ≡ Some v → ⊥
    = λ s k v w. no_some (sym (ap (λ f. f k) (column-blank wait_held_of (λ k. None) seats first_seat s refl)) ∙ w) in
    let free : (k s : ℕ) → column (λ (w : CondWords). w.wait_lock) None (replicate shape.conds first_cond) k ≡ Some s → ⊥
    = λ k s w. no_some (sym (column-blank (λ (w : CondWords). w.wait_lock) None shape.conds first_cond k refl) ∙ w) in
    let awake : (s t k : ℕ) → column is_asleep_of (λ t k. false) (replicate seats first_seat) s t k ≡ true → ⊥
    = λ s t k a. (let e = ap (λ f. f t k) (column-blank is_asleep_of (λ t k. false) seats first_seat s refl) in both _ a e) in
    record {
      once = record {
        at_home = λ k v w. subst (λ z. HasEachOnce z) (sym (home k v w)) tt;
        taken = λ s k v w. absurd (out s k v w);
      };
      safe_home = λ k t entries w e. absurd (both _ e (ap (λ z. has_entry z (shared_entry t)) (home k entries w)));
      safe_out = λ s k t taken w e. absurd (out s k taken w);
      safe_passed = λ s k t w p. absurd (free k s w);
      safe_stored = λ s k t w c o. absurd (free k s w);
      entry_home = λ k t entries a z w. absurd (awake _ t k a);
      entry_out = λ s k t taken a z w. absurd (awake _ t k a);
      passed_awake = λ s k t w p a. absurd (free k s w);
      fresh_slept = λ s t e. ap (λ f. f t) (column-blank has_slept_of (λ t. false) seats first_seat s refl);
      fresh_test = λ s t k e. ap (λ f. f t k) (column-blank tested_of (λ t k. None) seats first_seat s refl);
    }

pub SleepersHold-start : (shape : Shape) (core : Columns) → IsShape shape → IsStart shape core → SleepersHold core
SleepersHold-start shape core is_shape start = subst (λ (c : Columns). SleepersHold c) (sym start.rows) (opened shape start.mask)
