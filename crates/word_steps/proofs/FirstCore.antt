-- The new table shows the opening core.
use Rattle.std.proofs.Common.{◌≡◌, ℕ, zero, suc, ◌<◌, ◌≤◌, refl, sym, ap, ◌∙◌, inl, inr, lt-ltb, le-ltb, [], arith}
use Rattle.std.specs.Prelude.{◌+◌, ◌/◌, ◌↔◌, nat_lt, Bool, true, false, Some, None, replicate, if◌then◌else◌}
use Rattle.std.proofs.lemmas.Bool.{cases_lt}
use Rattle.std.proofs.lemmas.List.{length-replicate}
use Rattle.core_data.specs.Found.{no_reads}
use Rattle.core_data.specs.Opening.{IsStart, first_task, first_cpu, first_cond, first_seat, no_tasks}
use Rattle.core_data.specs.Columns.{Columns, columns_of, column, unserved, mark_of, done_of, refs_of, current_task_of, task_held_of, queue_held_of, list_held_of, works_held_of, wait_held_of}
use Rattle.core_data.specs.Columns.{body_held_of, task_to_clear_of, seen_state_of, level_known_of, has_matched_of, is_unstored_of, saw_off_of, is_claimed_of, saw_clear_of, has_stored_of, saw_rest_of}
use Rattle.core_data.specs.Columns.{saw_rest_off_of, saw_rest_idle_of, has_slept_of, is_requeued_of, saw_idle_of, has_added_of, has_dropped_of, has_passed_of, has_own_stored_of, has_slept_in_of}
use Rattle.core_data.specs.Columns.{owes_walk_of, has_retaken_of, tested_of, is_asleep_of, last_reads_of, hand_of, actives_of, counts_of, lowered_of, given_up_of, due_of, ticket_of, zeroed_of}
use Rattle.core_data.specs.Columns.{joined_of, refs_zero_of, completing_of, posted_of, works_hand_of, phases_of, unmarked_of, alive_of, turns_of, served_of, journal_of}
use Rattle.core_data.specs.declared.words.CondWords.{CondWords}
use Rattle.core_data.specs.declared.words.CpuWords.{CpuWords}
use Rattle.core_data.specs.declared.words.TaskWords.{TaskWords}
use Rattle.core_data.specs.declared.words.Phase.TheVariants.{Live}
use Rattle.core_law.specs.Reached.{IsOpening}
use Rattle.core_locks.proofs.Rows.{word_there}
use Rattle.handoff_data.specs.Mask.{HasCpu}
use Rattle.handoff_data.specs.declared.mask.CpuMask.{CpuMask}
use Rattle.handoff_data.specs.declared.shape.Shape.{Shape}
use Rattle.word_steps.proofs.Rows.{seat_row, word_row, table_path}
use Rattle.word_steps.specs.Decode.{core_of}
use Rattle.word_steps.specs.Opening.{first_words, first_homes, first_val}
use Rattle.word_steps.specs.Words.{is_set}

column_past : {A B : Type 0} (f : A → B) (d : B) (n : ℕ) (x : A) (k : ℕ) → n ≤ k → d ≡ column f d (replicate n x) k
column_past f d zero x k h = refl
column_past f d (suc n) x zero h = absurd (omega (arith, h))
column_past f d (suc n) x (suc k) h = column_past f d n x k (omega (arith, h))

-- what depends on whether the row is there is a column of rows that are all alike
column_is : {A B : Type 0} (g : Bool → B) (f : A → B) (d : B) (n : ℕ) (x : A) (k : ℕ) → g true ≡ f x → g false ≡ d → g (nat_lt k n) ≡ column f d (replicate n x) k
column_is g f d n x k a b = elim (cases_lt k n) [
  | inl h ↦ ap g (lt-ltb k n h) ∙ a ∙ sym (word_there f d n x k h)
  | inr h ↦ ap g (le-ltb k n h) ∙ b ∙ column_past f d n x k h
]

abbrev opening : Shape → CpuMask → Columns
opening shape mask = columns_of shape (replicate shape.tasks (first_task mask)) (replicate shape.cpus first_cpu) (replicate shape.conds first_cond) (replicate (shape.cpus + shape.agents) first_seat)

abbrev first_core : Shape → CpuMask → Columns
first_core shape mask = core_of shape (first_words shape) (first_homes shape mask) (λ s. [])

words_are : (shape : Shape) (mask : CpuMask) (n : ℕ) → word_row (first_core shape mask) n ≡ word_row (opening shape mask) n
words_are shape mask n = λ i. record {
  shape = shape;
  tasks = sym (length-replicate shape.tasks (first_task mask)) i;
  cpus = sym (length-replicate shape.cpus first_cpu) i;
  conds = sym (length-replicate shape.conds first_cond) i;
  seats = sym (length-replicate (shape.cpus + shape.agents) first_seat) i;
  state = column_is (λ b. record { 0 = if b then 0x800 else 0 }) (λ (w : TaskWords). w.state) (record { 0 = 0 }) shape.tasks (first_task mask) n refl refl i;
  on_rq = column_is (λ b. 0) (λ (w : TaskWords). w.on_rq) 0 shape.tasks (first_task mask) n refl refl i;
  changes = column_is (λ b. 0) (λ (w : TaskWords). w.changes) 0 shape.tasks (first_task mask) n refl refl i;
  on_cpu = column_is (λ b. false) (λ (w : TaskWords). w.on_cpu) false shape.tasks (first_task mask) n refl refl i;
  runs = column_is (λ b. 0) (λ (w : TaskWords). w.runs) 0 shape.tasks (first_task mask) n refl refl i;
  cpu = column_is (λ b. 0) (λ (w : TaskWords). w.cpu) 0 shape.tasks (first_task mask) n refl refl i;
  count = column_is (λ b. 0) (λ (w : TaskWords). w.count) 0 shape.tasks (first_task mask) n refl refl i;
  lock = column_is (λ b. None) (λ (w : TaskWords). w.lock) None shape.tasks (first_task mask) n refl refl i;
  val = column_is (λ b. if b then Some (first_val mask) else None) (λ (w : TaskWords). w.val) None shape.tasks (first_task mask) n refl refl i;
  body = column_is (λ b. b) (λ (w : TaskWords). w.body) false shape.tasks (first_task mask) n refl refl i;
  ended = column_is (λ b. false) (λ (w : TaskWords). w.ended) false shape.tasks (first_task mask) n refl refl i;
  hint = column_is (λ b. 0) (λ (w : CpuWords). w.hint) 0 shape.cpus first_cpu n refl refl i;
  pinned = column_is (λ b. 0) (λ (w : CpuWords). w.pinned) 0 shape.cpus first_cpu n refl refl i;
  phase = column_is (λ b. Live) (λ (w : CpuWords). w.phase) Live shape.cpus first_cpu n refl refl i;
  active = column_is (λ b. is_set (if b then 1 else 0)) (λ (w : CpuWords). w.active) false shape.cpus first_cpu n refl refl i;
  epoch = column_is (λ b. (if b then 1 else 0) / 2) (λ (w : CpuWords). w.epoch) 0 shape.cpus first_cpu n refl refl i;
  queue_lock = column_is (λ b. None) (λ (w : CpuWords). w.queue_lock) None shape.cpus first_cpu n refl refl i;
  queue = column_is (λ b. if b then Some no_tasks else None) (λ (w : CpuWords). w.queue) None shape.cpus first_cpu n refl refl i;
  list_lock = column_is (λ b. None) (λ (w : CpuWords). w.list_lock) None shape.cpus first_cpu n refl refl i;
  list = column_is (λ b. if b then Some [] else None) (λ (w : CpuWords). w.list) None shape.cpus first_cpu n refl refl i;
  works_lock = column_is (λ b. None) (λ (w : CpuWords). w.works_lock) None shape.cpus first_cpu n refl refl i;
  works = column_is (λ b. if b then Some [] else None) (λ (w : CpuWords). w.works) None shape.cpus first_cpu n refl refl i;
  cond = column_is (λ b. 0) (λ (w : CondWords). w.cond) 0 shape.conds first_cond n refl refl i;
  wait_lock = column_is (λ b. None) (λ (w : CondWords). w.wait_lock) None shape.conds first_cond n refl refl i;
  wait = column_is (λ b. if b then Some [] else None) (λ (w : CondWords). w.wait) None shape.conds first_cond n refl refl i;
  mark = column_is (λ b. false) mark_of false (shape.cpus + shape.agents) first_seat n refl refl i;
  done = column_is (λ b. false) done_of false (shape.cpus + shape.agents) first_seat n refl refl i;
  refs = column_is (λ b. 0) refs_of 0 (shape.cpus + shape.agents) first_seat n refl refl i;
}

seats_are : (shape : Shape) (mask : CpuMask) (s : ℕ) → seat_row (first_core shape mask) s ≡ seat_row (opening shape mask) s
seats_are shape mask s = λ i. record {
  current_task = column_is (λ b. None) current_task_of None (shape.cpus + shape.agents) first_seat s refl refl i;
  task_held = column_is (λ b. λ t. None) task_held_of (λ t. None) (shape.cpus + shape.agents) first_seat s refl refl i;
  queue_held = column_is (λ b. λ c. None) queue_held_of (λ c. None) (shape.cpus + shape.agents) first_seat s refl refl i;
  list_held = column_is (λ b. λ c. None) list_held_of (λ c. None) (shape.cpus + shape.agents) first_seat s refl refl i;
  works_held = column_is (λ b. λ c. None) works_held_of (λ c. None) (shape.cpus + shape.agents) first_seat s refl refl i;
  wait_held = column_is (λ b. λ k. None) wait_held_of (λ k. None) (shape.cpus + shape.agents) first_seat s refl refl i;
  body_held = column_is (λ b. None) body_held_of None (shape.cpus + shape.agents) first_seat s refl refl i;
  task_to_clear = column_is (λ b. None) task_to_clear_of None (shape.cpus + shape.agents) first_seat s refl refl i;
  seen_state = column_is (λ b. None) seen_state_of None (shape.cpus + shape.agents) first_seat s refl refl i;
  level_known = column_is (λ b. None) level_known_of None (shape.cpus + shape.agents) first_seat s refl refl i;
  has_matched = column_is (λ b. λ t. false) has_matched_of (λ t. false) (shape.cpus + shape.agents) first_seat s refl refl i;
  is_unstored = column_is (λ b. λ t. false) is_unstored_of (λ t. false) (shape.cpus + shape.agents) first_seat s refl refl i;
  saw_off = column_is (λ b. λ t. false) saw_off_of (λ t. false) (shape.cpus + shape.agents) first_seat s refl refl i;
  is_claimed = column_is (λ b. λ t. false) is_claimed_of (λ t. false) (shape.cpus + shape.agents) first_seat s refl refl i;
  saw_clear = column_is (λ b. λ t. false) saw_clear_of (λ t. false) (shape.cpus + shape.agents) first_seat s refl refl i;
  has_stored = column_is (λ b. λ t. false) has_stored_of (λ t. false) (shape.cpus + shape.agents) first_seat s refl refl i;
  saw_rest = column_is (λ b. λ t. false) saw_rest_of (λ t. false) (shape.cpus + shape.agents) first_seat s refl refl i;
  saw_rest_off = column_is (λ b. λ t. false) saw_rest_off_of (λ t. false) (shape.cpus + shape.agents) first_seat s refl refl i;
  saw_rest_idle = column_is (λ b. λ t. false) saw_rest_idle_of (λ t. false) (shape.cpus + shape.agents) first_seat s refl refl i;
  has_slept = column_is (λ b. λ t. false) has_slept_of (λ t. false) (shape.cpus + shape.agents) first_seat s refl refl i;
  is_requeued = column_is (λ b. λ t. false) is_requeued_of (λ t. false) (shape.cpus + shape.agents) first_seat s refl refl i;
  saw_idle = column_is (λ b. λ c t. false) saw_idle_of (λ c t. false) (shape.cpus + shape.agents) first_seat s refl refl i;
  has_added = column_is (λ b. λ c t. false) has_added_of (λ c t. false) (shape.cpus + shape.agents) first_seat s refl refl i;
  has_dropped = column_is (λ b. λ c t. false) has_dropped_of (λ c t. false) (shape.cpus + shape.agents) first_seat s refl refl i;
  has_passed = column_is (λ b. λ c t. false) has_passed_of (λ c t. false) (shape.cpus + shape.agents) first_seat s refl refl i;
  has_own_stored = column_is (λ b. λ c t. false) has_own_stored_of (λ c t. false) (shape.cpus + shape.agents) first_seat s refl refl i;
  has_slept_in = column_is (λ b. λ c t. false) has_slept_in_of (λ c t. false) (shape.cpus + shape.agents) first_seat s refl refl i;
  owes_walk = column_is (λ b. λ k. false) owes_walk_of (λ k. false) (shape.cpus + shape.agents) first_seat s refl refl i;
  has_retaken = column_is (λ b. λ k. false) has_retaken_of (λ k. false) (shape.cpus + shape.agents) first_seat s refl refl i;
  tested = column_is (λ b. λ t k. None) tested_of (λ t k. None) (shape.cpus + shape.agents) first_seat s refl refl i;
  is_asleep = column_is (λ b. λ t k. false) is_asleep_of (λ t k. false) (shape.cpus + shape.agents) first_seat s refl refl i;
  last_reads = column_is (λ b. λ t. no_reads t) last_reads_of (λ t. no_reads t) (shape.cpus + shape.agents) first_seat s refl refl i;
  hand = column_is (λ b. []) hand_of [] (shape.cpus + shape.agents) first_seat s refl refl i;
  actives = column_is (λ b. []) actives_of [] (shape.cpus + shape.agents) first_seat s refl refl i;
  counts = column_is (λ b. []) counts_of [] (shape.cpus + shape.agents) first_seat s refl refl i;
  lowered = column_is (λ b. []) lowered_of [] (shape.cpus + shape.agents) first_seat s refl refl i;
  given_up = column_is (λ b. []) given_up_of [] (shape.cpus + shape.agents) first_seat s refl refl i;
  due = column_is (λ b. None) due_of None (shape.cpus + shape.agents) first_seat s refl refl i;
  ticket = column_is (λ b. None) ticket_of None (shape.cpus + shape.agents) first_seat s refl refl i;
  zeroed = column_is (λ b. []) zeroed_of [] (shape.cpus + shape.agents) first_seat s refl refl i;
  joined = column_is (λ b. []) joined_of [] (shape.cpus + shape.agents) first_seat s refl refl i;
  refs_zero = column_is (λ b. b) refs_zero_of false (shape.cpus + shape.agents) first_seat s refl refl i;
  completing = column_is (λ b. []) completing_of [] (shape.cpus + shape.agents) first_seat s refl refl i;
  posted = column_is (λ b. []) posted_of [] (shape.cpus + shape.agents) first_seat s refl refl i;
  works_hand = column_is (λ b. []) works_hand_of [] (shape.cpus + shape.agents) first_seat s refl refl i;
  phases = column_is (λ b. []) phases_of [] (shape.cpus + shape.agents) first_seat s refl refl i;
  unmarked = column_is (λ b. []) unmarked_of [] (shape.cpus + shape.agents) first_seat s refl refl i;
  alive = column_is (λ b. []) alive_of [] (shape.cpus + shape.agents) first_seat s refl refl i;
  turns = column_is (λ b. []) turns_of [] (shape.cpus + shape.agents) first_seat s refl refl i;
  served = column_is (λ b. unserved) served_of unserved (shape.cpus + shape.agents) first_seat s refl refl i;
  journal = column_is (λ b. []) journal_of [] (shape.cpus + shape.agents) first_seat s refl refl i;
}

first_is_start : (shape : Shape) (mask : CpuMask) → ((c : ℕ) → HasCpu mask c ↔ (c < shape.cpus)) → IsStart shape (first_core shape mask)
first_is_start shape mask all = record { mask = mask; all = all; rows = table_path (first_core shape mask) (opening shape mask) (words_are shape mask) (seats_are shape mask) }

-- .. and an opening core, whichever bodies have ended
pub first_is_opening : (shape : Shape) (mask : CpuMask) (ended : ℕ → Bool) → ((c : ℕ) → HasCpu mask c ↔ (c < shape.cpus))
    → IsOpening shape (core_of shape (first_words shape) (record (first_homes shape mask) { ended = ended }) (λ s. []))
first_is_opening shape mask ended all =
    record { start = first_core shape mask; is_start = first_is_start shape mask all; ended = ended; alike = refl }
