-- What is shown after a step of one seat: the words and homes that it changes, and its trace with one record more.
use Rattle.std.proofs.Common.{◌≡◌, ◌≢◌, ℕ, inl, inr, ap, sym, ◌∙◌, subst}
use Rattle.std.specs.Prelude.{◌+◌, nat_lt, None, List, [], ◌∷◌}
use Rattle.std.proofs.lemmas.Bool.{cases_eq}
use mathlib.Core.Path.{fun_ext}
use Rattle.core_stores.proofs.Columns.{put_there, put_other}
use Rattle.core_data.specs.Columns.{Columns, put, unserved}
use Rattle.handoff_data.specs.declared.shape.Shape.{Shape}
use Rattle.word_steps.proofs.Rows.{SeatRow, word_row, seat_row, table_path}
use Rattle.word_steps.specs.Decode.{Homes, core_of, core_after}
use Rattle.word_steps.specs.Folds.{body_held, current_task, has_added, has_dropped, has_own_stored, has_passed, has_retaken, has_slept, has_slept_in, has_stored, is_asleep, is_claimed, has_matched}
use Rattle.word_steps.specs.Folds.{is_requeued, is_unstored, journal, last_reads, level_known, owes_walk, queue_held, saw_clear, saw_idle, saw_off, saw_rest, saw_rest_idle, saw_rest_off, seen_state}
use Rattle.word_steps.specs.Folds.{task_held, task_to_clear, tested, wait_held, works_held}
use Rattle.word_steps.specs.Records.{Rec}

-- what a seat with this trace knows
abbrev pub known : Shape → ℕ → List Rec → SeatRow
known shape s trace =
    record {
      current_task = current_task s trace;
      task_held = task_held trace;
      queue_held = queue_held trace;
      list_held = λ c. None;
      works_held = works_held trace;
      wait_held = wait_held trace;
      body_held = body_held trace;
      task_to_clear = task_to_clear s trace;
      seen_state = seen_state s trace;
      level_known = level_known s trace;
      has_matched = has_matched trace;
      is_unstored = is_unstored trace;
      saw_off = saw_off trace;
      is_claimed = is_claimed trace;
      saw_clear = saw_clear trace;
      has_stored = has_stored trace;
      saw_rest = saw_rest trace;
      saw_rest_off = saw_rest_off trace;
      saw_rest_idle = saw_rest_idle trace;
      has_slept = has_slept trace;
      is_requeued = is_requeued trace;
      saw_idle = saw_idle trace;
      has_added = has_added trace;
      has_dropped = has_dropped trace;
      has_passed = has_passed trace;
      has_own_stored = has_own_stored trace;
      has_slept_in = has_slept_in trace;
      owes_walk = owes_walk trace;
      has_retaken = has_retaken trace;
      tested = tested s trace;
      is_asleep = is_asleep s trace;
      last_reads = last_reads trace;
      hand = [];
      actives = [];
      counts = [];
      lowered = [];
      given_up = [];
      due = None;
      ticket = None;
      zeroed = [];
      joined = [];
      refs_zero = nat_lt s (shape.cpus + shape.agents);
      completing = [];
      posted = [];
      works_hand = [];
      phases = [];
      unmarked = [];
      alive = [];
      turns = [];
      served = unserved;
      journal = journal s trace;
    }

-- a step of the seat s is that of the core x: the words show it, the seat knows it, and other seats know what they knew
pub shown : (shape : Shape) (words : ℕ → ℕ → ℕ) (homes : Homes) (traces : ℕ → List Rec) (s : ℕ) (r : Rec) (x : Columns)
    → ((n : ℕ) → word_row (core_of shape words homes traces) n ≡ word_row x n)
    → known shape s (r ∷ traces s) ≡ seat_row x s
    → ((j : ℕ) → j ≢ s → known shape j (traces j) ≡ seat_row x j)
    → core_after shape words homes traces s r ≡ x
shown shape words homes traces s r x words_are mine others =
    table_path (core_of shape words homes (put traces s (r ∷ traces s))) x words_are (λ j. elim (cases_eq j s) [
      | inl e ↦ ap (known shape j) (put_there traces s (r ∷ traces s) j e) ∙ subst (λ (i : ℕ). known shape i (r ∷ traces s) ≡ seat_row x i) (sym e) mine
      | inr ne ↦ ap (known shape j) (put_other traces s (r ∷ traces s) j ne) ∙ others j ne
    ])

-- .. where it changes words and homes of number n
pub shown_at : (shape : Shape) (words : ℕ → ℕ → ℕ) (homes : Homes) (traces : ℕ → List Rec) (s : ℕ) (r : Rec) (x : Columns) (n : ℕ)
    → word_row (core_of shape words homes traces) n ≡ word_row x n
    → ((k : ℕ) → k ≢ n → word_row (core_of shape words homes traces) k ≡ word_row x k)
    → known shape s (r ∷ traces s) ≡ seat_row x s
    → ((j : ℕ) → j ≢ s → known shape j (traces j) ≡ seat_row x j)
    → core_after shape words homes traces s r ≡ x
shown_at shape words homes traces s r x n here elsewhere =
    shown shape words homes traces s r x (λ k. elim (cases_eq k n) [
      | inl e ↦ subst (λ (i : ℕ). word_row (core_of shape words homes traces) i ≡ word_row x i) (sym e) here
      | inr ne ↦ elsewhere k ne
    ])

-- of two values that are put at one place the last is there
pub put_twice : {A : Type 0} (f : ℕ → A) (k : ℕ) (v w : A) → put f k w ≡ put (put f k v) k w
put_twice f k v w = fun_ext (λ j. elim (cases_eq j k) [
  | inl e ↦ put_there f k w j e ∙ sym (put_there (put f k v) k w j e)
  | inr ne ↦ put_other f k w j ne ∙ sym (put_other (put f k v) k w j ne ∙ put_other f k v j ne)
])
