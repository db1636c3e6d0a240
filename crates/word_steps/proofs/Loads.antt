-- Loads of words, each as the core's step.
use Rattle.std.proofs.Common.{◌≡◌, ◌≢◌, ℕ, eq-eqb, ne_eqb, refl, List, ◌∷◌, ◌∙◌, sym, ap}
use Rattle.std.specs.Prelude.{◌/◌, ◌%◌, ◌==◌, ◌&&◌, Bool, Option, is_some}
use mathlib.Core.Bool.{not}
use Rattle.core_data.specs.declared.act.Act.TheVariants.{Matched, SawRest, Passed, SawOff, SawClear}
use Rattle.handoff_data.specs.declared.entry.Entry.TheVariants as entry
use Rattle.core_data.specs.Columns.{Columns, put_at}
use Rattle.core_kinds.specs.Steps.{is_match, normal}
use Rattle.core_kinds.specs.Waking.{load_state, load_rq, load_busy, load_cpu, load_count, load_cond, state_read, rq_read, busy_read, seen_if, noted_if, is_matched, is_refused, load_this, is_own_read}
use Rattle.core_kinds.specs.Waking.{is_some_of}
use Rattle.handoff_data.specs.declared.shape.Shape.{Shape}
use Rattle.handoff_data.specs.declared.state.State.{State}
use Rattle.word_steps.proofs.Flats.{matched_by, matched_flat, rest_by, rest_flat, passed_by, passed_flat, off_by, off_flat, rest_off_by, rest_off_flat, rest_idle_by, rest_idle_flat, clear_by}
use Rattle.word_steps.proofs.Flats.{clear_flat, logged_by, logged_flat, seen_by, seen_flat, tested_by, test_flat}
use Rattle.word_steps.proofs.Rows.{seat_row}
use Rattle.word_steps.proofs.Shown.{known, shown}
use Rattle.word_steps.specs.Decode.{Homes, core_of, core_after}
use Rattle.word_steps.specs.Records.{Rec, LoadedState, LoadedRq, LoadedBusy, LoadedCpu, LoadedCount, LoadedCond}
use Rattle.word_steps.specs.Words.{STATE, RQ, BUSY, CPU, COUNT, COND, is_set}

module _ (shape : Shape) (words : ℕ → ℕ → ℕ) (homes : Homes) (traces : ℕ → List Rec) (s : ℕ) where
  abbrev now : Columns
  now = core_of shape words homes traces

  pub load_cpu_shown : (t : ℕ)
      → core_after shape words homes traces s (LoadedCpu t (words t CPU))
      ≡ load_cpu (core_of shape words homes traces) s t
  load_cpu_shown t =
      shown shape words homes traces s (LoadedCpu t (words t CPU)) (load_cpu now s t) (λ n. refl) mine others
    where
      mine : known shape s (LoadedCpu t (words t CPU) ∷ traces s) ≡ seat_row (load_cpu now s t) s
      mine = rw (eq-eqb s s refl)

      others : (j : ℕ) → j ≢ s → known shape j (traces j) ≡ seat_row (load_cpu now s t) j
      others j ne = rw (ne_eqb j s ne)

  pub load_count_shown : (t : ℕ)
      → core_after shape words homes traces s (LoadedCount t (words t COUNT))
      ≡ load_count (core_of shape words homes traces) s t
  load_count_shown t =
      shown shape words homes traces s (LoadedCount t (words t COUNT)) (load_count now s t) (λ n. refl) mine others
    where
      mine : known shape s (LoadedCount t (words t COUNT) ∷ traces s) ≡ seat_row (load_count now s t) s
      mine = rw (eq-eqb s s refl)

      others : (j : ℕ) → j ≢ s → known shape j (traces j) ≡ seat_row (load_count now s t) j
      others j ne = rw (ne_eqb j s ne)

  abbrev load_state_core : (t : ℕ) (mask : Option State) → Columns
  load_state_core t mask = logged_by (is_refused (record { 0 = words t STATE }) mask) (passed_by (not (is_match
      (record { 0 = words t STATE }) normal)) (rest_by (not (words t STATE == 0x200)) (matched_by (is_matched
      (record { 0 = words t STATE }) mask) (seen_by (is_some_of (now.current_task s) t && is_some (now.queue_held s s)) (record now {
        last_reads = put_at now.last_reads s t (state_read t
            (record { 0 = words t STATE }) (now.last_reads s t));
      }) s (record { 0 = words t STATE })) s t) s t) s t) s (entry.Refused t (record { 0 = words t STATE }))

  pub load_state_shown : (t : ℕ) (mask : Option State) → is_own_read (core_of shape words homes traces) s t
      ≡ is_some_of ((core_of shape words homes traces).current_task s) t && is_some ((core_of shape words homes traces).queue_held s s)
      → core_after shape words homes traces s (LoadedState t mask (record { 0 = words t STATE }))
      ≡ load_state (core_of shape words homes traces) s t mask
  load_state_shown t mask own =
      shown shape words homes traces s (LoadedState t mask (record { 0 = words t STATE })) (load_state_core t mask) (λ n. refl) mine others
      ∙ sym (ap (λ (own : Bool). load_this now s t mask own (now.last_reads s t) (record { 0 = words t STATE })) own
      ∙ logged_flat (is_refused (record { 0 = words t STATE }) mask) (noted_if (not (is_match
      (record { 0 = words t STATE }) normal)) (noted_if (not (words t STATE == 0x200)) (noted_if (is_matched
      (record { 0 = words t STATE }) mask) (seen_if (is_some_of (now.current_task s) t && is_some (now.queue_held s s)) (record now {
        last_reads = put_at now.last_reads s t (state_read t
            (record { 0 = words t STATE }) (now.last_reads s t));
      }) s (record { 0 = words t STATE })) s (Matched t)) s (SawRest t)) s (Passed t)) s (entry.Refused t (record { 0 = words t STATE }))
      ∙ ap (λ (z : Columns). logged_by (is_refused (record { 0 = words t STATE }) mask) z s (entry.Refused t (record { 0 = words t STATE }))) (passed_flat (not (is_match
      (record { 0 = words t STATE }) normal)) (noted_if (not (words t STATE == 0x200)) (noted_if (is_matched
      (record { 0 = words t STATE }) mask) (seen_if (is_some_of (now.current_task s) t && is_some (now.queue_held s s)) (record now {
        last_reads = put_at now.last_reads s t (state_read t
            (record { 0 = words t STATE }) (now.last_reads s t));
      }) s (record { 0 = words t STATE })) s (Matched t)) s (SawRest t)) s t
      ∙ ap (λ (z : Columns). passed_by (not (is_match (record { 0 = words t STATE }) normal)) z s t) (rest_flat (not (words t STATE == 0x200)) (noted_if (is_matched
      (record { 0 = words t STATE }) mask) (seen_if (is_some_of (now.current_task s) t && is_some (now.queue_held s s)) (record now {
        last_reads = put_at now.last_reads s t (state_read t
            (record { 0 = words t STATE }) (now.last_reads s t));
      }) s (record { 0 = words t STATE })) s (Matched t)) s t
      ∙ ap (λ (z : Columns). rest_by (not (words t STATE == 0x200)) z s t) (matched_flat (is_matched
      (record { 0 = words t STATE }) mask) (seen_if (is_some_of (now.current_task s) t && is_some (now.queue_held s s)) (record now {
        last_reads = put_at now.last_reads s t (state_read t
            (record { 0 = words t STATE }) (now.last_reads s t));
      }) s (record { 0 = words t STATE })) s t
      ∙ ap (λ (z : Columns). matched_by (is_matched (record { 0 = words t STATE }) mask) z s t) (seen_flat (is_some_of (now.current_task s) t && is_some (now.queue_held s s))
      (record now { last_reads = put_at now.last_reads s t (state_read t (record { 0 = words t STATE }) (now.last_reads s t)) }) s (record { 0 = words t STATE }))))))
    where
      mine : known shape s (LoadedState t mask (record { 0 = words t STATE }) ∷ traces s) ≡ seat_row (load_state_core t mask) s
      mine = rw (eq-eqb s s refl)

      others : (j : ℕ) → j ≢ s → known shape j (traces j) ≡ seat_row (load_state_core t mask) j
      others j ne = rw (ne_eqb j s ne)

  abbrev load_rq_core : (t : ℕ) → Columns
  load_rq_core t = rest_off_by ((words t RQ % 4 == 0) && now.saw_rest s t) (off_by ((words t RQ % 4 == 0) && now.is_unstored s t)
      (record now { last_reads = put_at now.last_reads s t (rq_read t (words t RQ % 4) (words t RQ / 4) (now.last_reads s t)) }) s t) s t

  pub load_rq_shown : (t : ℕ)
      → core_after shape words homes traces s (LoadedRq t (words t RQ % 4) (words t RQ / 4))
      ≡ load_rq (core_of shape words homes traces) s t
  load_rq_shown t =
      shown shape words homes traces s (LoadedRq t (words t RQ % 4) (words t RQ / 4)) (load_rq_core t) (λ n. refl) mine others
      ∙ sym (rest_off_flat ((words t RQ % 4 == 0) && now.saw_rest s t) (noted_if ((words t RQ % 4 == 0) && now.is_unstored s t)
      (record now { last_reads = put_at now.last_reads s t (rq_read t (words t RQ % 4) (words t RQ / 4) (now.last_reads s t)) }) s (SawOff t)) s t
      ∙ ap (λ (z : Columns). rest_off_by ((words t RQ % 4 == 0) && now.saw_rest s t) z s t) (off_flat ((words t RQ % 4 == 0) && now.is_unstored s t)
      (record now { last_reads = put_at now.last_reads s t (rq_read t (words t RQ % 4) (words t RQ / 4) (now.last_reads s t)) }) s t))
    where
      mine : known shape s (LoadedRq t (words t RQ % 4) (words t RQ / 4) ∷ traces s) ≡ seat_row (load_rq_core t) s
      mine = rw (eq-eqb s s refl)

      others : (j : ℕ) → j ≢ s → known shape j (traces j) ≡ seat_row (load_rq_core t) j
      others j ne = rw (ne_eqb j s ne)

  abbrev load_busy_core : (t : ℕ) → Columns
  load_busy_core t = rest_idle_by (not (is_set (words t BUSY)) && now.saw_rest_off s t) (clear_by (not (is_set (words t BUSY)))
      (record now { last_reads = put_at now.last_reads s t (busy_read t (is_set (words t BUSY)) (now.last_reads s t)) }) s t) s t

  pub load_busy_shown : (t : ℕ)
      → core_after shape words homes traces s (LoadedBusy t (is_set (words t BUSY)) (words t BUSY / 2))
      ≡ load_busy (core_of shape words homes traces) s t
  load_busy_shown t =
      shown shape words homes traces s (LoadedBusy t (is_set (words t BUSY)) (words t BUSY / 2)) (load_busy_core t) (λ n. refl) mine others
      ∙ sym (rest_idle_flat (not (is_set (words t BUSY)) && now.saw_rest_off s t) (noted_if (not (is_set (words t BUSY)))
      (record now { last_reads = put_at now.last_reads s t (busy_read t (is_set (words t BUSY)) (now.last_reads s t)) }) s (SawClear t)) s t
      ∙ ap (λ (z : Columns). rest_idle_by (not (is_set (words t BUSY)) && now.saw_rest_off s t) z s t) (clear_flat (not (is_set (words t BUSY)))
      (record now { last_reads = put_at now.last_reads s t (busy_read t (is_set (words t BUSY)) (now.last_reads s t)) }) s t))
    where
      mine : known shape s (LoadedBusy t (is_set (words t BUSY)) (words t BUSY / 2) ∷ traces s) ≡ seat_row (load_busy_core t) s
      mine = rw (eq-eqb s s refl)

      others : (j : ℕ) → j ≢ s → known shape j (traces j) ≡ seat_row (load_busy_core t) j
      others j ne = rw (ne_eqb j s ne)

  abbrev load_cond_core : (k : ℕ) → Columns
  load_cond_core k = tested_by (now.current_task s) now s k

  pub load_cond_shown : (k : ℕ)
      → core_after shape words homes traces s (LoadedCond k (words k COND))
      ≡ load_cond (core_of shape words homes traces) s k
  load_cond_shown k =
      shown shape words homes traces s (LoadedCond k (words k COND)) (load_cond_core k) (λ n. refl) mine others ∙ sym (test_flat (now.current_task s) now s k)
    where
      mine : known shape s (LoadedCond k (words k COND) ∷ traces s) ≡ seat_row (load_cond_core k) s
      mine = rw (eq-eqb s s refl)

      others : (j : ℕ) → j ≢ s → known shape j (traces j) ≡ seat_row (load_cond_core k) j
      others j ne = rw (ne_eqb j s ne)
