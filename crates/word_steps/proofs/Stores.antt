-- Stores and fetches of a task's and a condition's words, each as the core's step.
use Rattle.std.proofs.Common.{◌≡◌, ◌≢◌, ℕ, eq-eqb, ne_eqb, refl, List, ◌∷◌, ◌∙◌, sym, ap}
use Rattle.std.specs.Prelude.{◌+◌, ◌/◌, ◌%◌, ◌^◌, ◌==◌, None}
use Rattle.core_data.specs.Noted.{noted}
use Rattle.core_data.specs.declared.act.Act.TheVariants.{OwnStored}
use Rattle.core_data.specs.Columns.{Columns, put, put_at}
use Rattle.core_kinds.specs.Steps.{kept_reads, stored_word, is_sleep}
use Rattle.core_kinds.specs.Waking.{set_state, claim, make_runnable, store_cpu, bump, cpu_read, slept_if}
use Rattle.handoff_data.specs.declared.shape.Shape.{Shape}
use Rattle.handoff_data.specs.declared.state.State.{State}
use Rattle.word_steps.proofs.Flats.{passed_by, ran_flat, slept_by, slept_flat}
use Rattle.word_steps.proofs.Rows.{seat_row, word_row}
use Rattle.word_steps.proofs.Shown.{known, shown_at, put_twice}
use Rattle.word_steps.specs.Decode.{Homes, core_of, core_after}
use Rattle.word_steps.specs.Folds.{last_reads}
use Rattle.word_steps.specs.Records.{Rec, StateSet, Claimed, MadeRunnable, StoredCpu, Bumped}
use Rattle.word_steps.specs.Words.{STATE, RQ, CPU, COND}

module _ (shape : Shape) (words : ℕ → ℕ → ℕ) (homes : Homes) (traces : ℕ → List Rec) (s : ℕ) where
  abbrev now : Columns
  now = core_of shape words homes traces

  pub store_cpu_shown : (t : ℕ) (c : ℕ)
      → core_after shape (put_at words t CPU c) homes traces s (StoredCpu t c)
      ≡ store_cpu (core_of shape words homes traces) s t c
  store_cpu_shown t c =
      shown_at shape (put_at words t CPU c) homes traces s (StoredCpu t c) (store_cpu now s t c) t here elsewhere mine others
    where
      here : word_row (core_of shape (put_at words t CPU c) homes traces) t ≡ word_row (store_cpu now s t c) t
      here = rw (eq-eqb t t refl)

      elsewhere : (i : ℕ) → i ≢ t → word_row (core_of shape (put_at words t CPU c) homes traces) i ≡ word_row (store_cpu now s t c) i
      elsewhere i ne = rw (ne_eqb i t ne)

      mine : known shape s (StoredCpu t c ∷ traces s) ≡ seat_row (store_cpu now s t c) s
      mine = (λ i. record (known shape s (StoredCpu t c ∷ traces s)) {
        last_reads = put_twice (last_reads (traces s)) t (cpu_read t c (last_reads (traces s) t)) (kept_reads t (cpu_read t c (last_reads
            (traces s) t))) i;
      }) ∙ rw (eq-eqb s s refl, eq-eqb t t refl)

      others : (j : ℕ) → j ≢ s → known shape j (traces j) ≡ seat_row (store_cpu now s t c) j
      others j ne = rw (ne_eqb j s ne)

  abbrev set_state_core : (t : ℕ) (state : State) → Columns
  set_state_core t state = passed_by (state.0 == 0) (slept_by (is_sleep state) (noted (stored_word
      (record now { state = put now.state t state; seen_state = put now.seen_state s None }) s t) s (OwnStored t)) s t) s t

  pub set_state_shown : (t : ℕ) (state : State)
      → core_after shape (put_at words t STATE state.0) homes traces s (StateSet t state)
      ≡ set_state (core_of shape words homes traces) s t state
  set_state_shown t state =
      shown_at shape (put_at words t STATE state.0) homes traces s (StateSet t state) (set_state_core t state) t here elsewhere mine others
      ∙ sym (ran_flat (state.0 == 0) (slept_if (is_sleep state) (noted (stored_word (record now { state = put now.state t state; seen_state = put now.seen_state s None }) s t) s (OwnStored t)) s t) s
      t
      ∙ ap (λ (z : Columns). passed_by (state.0 == 0) z s t) (slept_flat (is_sleep state) (noted (stored_word
      (record now { state = put now.state t state; seen_state = put now.seen_state s None }) s t) s (OwnStored t)) s t))
    where
      here : word_row (core_of shape (put_at words t STATE state.0) homes traces) t ≡ word_row (set_state_core t state) t
      here = rw (eq-eqb t t refl)

      elsewhere : (i : ℕ) → i ≢ t → word_row (core_of shape (put_at words t STATE state.0) homes traces) i ≡ word_row (set_state_core t state) i
      elsewhere i ne = rw (ne_eqb i t ne)

      mine : known shape s (StateSet t state ∷ traces s) ≡ seat_row (set_state_core t state) s
      mine = rw (eq-eqb s s refl)

      others : (j : ℕ) → j ≢ s → known shape j (traces j) ≡ seat_row (set_state_core t state) j
      others j ne = rw (ne_eqb j s ne)

  pub claim_shown : (t : ℕ)
      → core_after shape (put_at words t STATE 0x200) homes traces s (Claimed t (words t RQ / 4))
      ≡ claim (core_of shape words homes traces) s t
  claim_shown t =
      shown_at shape (put_at words t STATE 0x200) homes traces s (Claimed t (words t RQ / 4)) (claim now s t) t here elsewhere mine others
    where
      here : word_row (core_of shape (put_at words t STATE 0x200) homes traces) t ≡ word_row (claim now s t) t
      here = rw (eq-eqb t t refl)

      elsewhere : (i : ℕ) → i ≢ t → word_row (core_of shape (put_at words t STATE 0x200) homes traces) i ≡ word_row (claim now s t) i
      elsewhere i ne = rw (ne_eqb i t ne)

      mine : known shape s (Claimed t (words t RQ / 4) ∷ traces s) ≡ seat_row (claim now s t) s
      mine = rw (eq-eqb s s refl)

      others : (j : ℕ) → j ≢ s → known shape j (traces j) ≡ seat_row (claim now s t) j
      others j ne = rw (ne_eqb j s ne)

  pub make_runnable_shown : (t : ℕ)
      → core_after shape (put_at words t STATE 0) homes traces s (MadeRunnable t)
      ≡ make_runnable (core_of shape words homes traces) s t
  make_runnable_shown t =
      shown_at shape (put_at words t STATE 0) homes traces s (MadeRunnable t) (make_runnable now s t) t here elsewhere mine others
    where
      here : word_row (core_of shape (put_at words t STATE 0) homes traces) t ≡ word_row (make_runnable now s t) t
      here = rw (eq-eqb t t refl)

      elsewhere : (i : ℕ) → i ≢ t → word_row (core_of shape (put_at words t STATE 0) homes traces) i ≡ word_row (make_runnable now s t) i
      elsewhere i ne = rw (ne_eqb i t ne)

      mine : known shape s (MadeRunnable t ∷ traces s) ≡ seat_row (make_runnable now s t) s
      mine = rw (eq-eqb s s refl)

      others : (j : ℕ) → j ≢ s → known shape j (traces j) ≡ seat_row (make_runnable now s t) j
      others j ne = rw (ne_eqb j s ne)

  pub bump_shown : (k : ℕ)
      → core_after shape (put_at words k COND ((words k COND + 1) % 2 ^ 64)) homes traces s (Bumped k (words k COND))
      ≡ bump (core_of shape words homes traces) s k
  bump_shown k =
      shown_at shape (put_at words k COND ((words k COND + 1) % 2 ^ 64)) homes traces s (Bumped k (words k COND)) (bump now s k) k here elsewhere mine others
    where
      here : word_row (core_of shape (put_at words k COND ((words k COND + 1) % 2 ^ 64)) homes traces) k ≡ word_row (bump now s k) k
      here = rw (eq-eqb k k refl)

      elsewhere : (i : ℕ) → i ≢ k → word_row (core_of shape (put_at words k COND ((words k COND + 1) % 2 ^ 64)) homes traces) i ≡ word_row (bump now s k) i
      elsewhere i ne = rw (ne_eqb i k ne)

      mine : known shape s (Bumped k (words k COND) ∷ traces s) ≡ seat_row (bump now s k) s
      mine = rw (eq-eqb s s refl)

      others : (j : ℕ) → j ≢ s → known shape j (traces j) ≡ seat_row (bump now s k) j
      others j ne = rw (ne_eqb j s ne)
