-- What a step does where a test holds, with the test inside each column that it may change.
use Rattle.std.proofs.Common.{◌≡◌, ℕ, Bool, true, false, refl, sym, Option}
use Rattle.std.specs.Prelude.{◌==◌, Some, None, is_none, if◌then◌else◌}
use Rattle.core_data.specs.Columns.{Columns, put}
use Rattle.core_data.specs.declared.act.Act.TheVariants.{Matched, SawOff, SawClear, SawRest, SawRestOff, SawRestIdle, Passed}
use Rattle.core_gives.specs.Queues.{give_up_if}
use Rattle.core_gives.specs.Waits.{walked_if}
use Rattle.core_kinds.specs.Locks.{unseen}
use Rattle.core_kinds.specs.Waking.{noted_if, logged_if, seen_if, slept_if, ran_if, tested_if, test_by}
use Rattle.core_stores.proofs.Columns.{put_self}
use Rattle.handoff_data.specs.declared.entry.Entry.{Entry}
use Rattle.handoff_data.specs.declared.state.State.{State}
use Rattle.word_steps.specs.Folds.{put_if, put_row_if, put_column_if, put_test_if, put_test, log_if}

abbrev pub matched_by : Bool → Columns → ℕ → ℕ → Columns
matched_by b core s t = record core { has_matched = put core.has_matched s (put_if b t true (core.has_matched s)); is_unstored = put core.is_unstored s (put_if b t true (core.is_unstored s)) }

pub matched_flat : (b : Bool) (core : Columns) (s t : ℕ) → noted_if b core s (Matched t) ≡ matched_by b core s t
matched_flat true core s t = refl
matched_flat false core s t = λ i. record core { has_matched = sym (put_self core.has_matched s) i; is_unstored = sym (put_self core.is_unstored s) i }

abbrev pub rest_by : Bool → Columns → ℕ → ℕ → Columns
rest_by b core s t = record core { saw_rest = put core.saw_rest s (put_if b t true (core.saw_rest s)) }

pub rest_flat : (b : Bool) (core : Columns) (s t : ℕ) → noted_if b core s (SawRest t) ≡ rest_by b core s t
rest_flat true core s t = refl
rest_flat false core s t = λ i. record core { saw_rest = sym (put_self core.saw_rest s) i }

abbrev pub passed_by : Bool → Columns → ℕ → ℕ → Columns
passed_by b core s t = record core { has_passed = put core.has_passed s (put_column_if b t true (core.has_passed s)) }

pub passed_flat : (b : Bool) (core : Columns) (s t : ℕ) → noted_if b core s (Passed t) ≡ passed_by b core s t
passed_flat true core s t = refl
passed_flat false core s t = λ i. record core { has_passed = sym (put_self core.has_passed s) i }

pub ran_flat : (b : Bool) (core : Columns) (s t : ℕ) → ran_if b core s t ≡ passed_by b core s t
ran_flat true core s t = refl
ran_flat false core s t = λ i. record core { has_passed = sym (put_self core.has_passed s) i }

abbrev pub off_by : Bool → Columns → ℕ → ℕ → Columns
off_by b core s t = record core { saw_off = put core.saw_off s (put_if b t true (core.saw_off s)) }

pub off_flat : (b : Bool) (core : Columns) (s t : ℕ) → noted_if b core s (SawOff t) ≡ off_by b core s t
off_flat true core s t = refl
off_flat false core s t = λ i. record core { saw_off = sym (put_self core.saw_off s) i }

abbrev pub rest_off_by : Bool → Columns → ℕ → ℕ → Columns
rest_off_by b core s t = record core { saw_rest_off = put core.saw_rest_off s (put_if b t true (core.saw_rest_off s)) }

pub rest_off_flat : (b : Bool) (core : Columns) (s t : ℕ) → noted_if b core s (SawRestOff t) ≡ rest_off_by b core s t
rest_off_flat true core s t = refl
rest_off_flat false core s t = λ i. record core { saw_rest_off = sym (put_self core.saw_rest_off s) i }

abbrev pub rest_idle_by : Bool → Columns → ℕ → ℕ → Columns
rest_idle_by b core s t = record core { saw_rest_idle = put core.saw_rest_idle s (put_if b t true (core.saw_rest_idle s)) }

pub rest_idle_flat : (b : Bool) (core : Columns) (s t : ℕ) → noted_if b core s (SawRestIdle t) ≡ rest_idle_by b core s t
rest_idle_flat true core s t = refl
rest_idle_flat false core s t = λ i. record core { saw_rest_idle = sym (put_self core.saw_rest_idle s) i }

abbrev pub clear_by : Bool → Columns → ℕ → ℕ → Columns
clear_by b core s t = record core { saw_clear = put core.saw_clear s (put_if b t true (core.saw_clear s)); saw_idle = put core.saw_idle s (put_column_if b t true (core.saw_idle s)) }

pub clear_flat : (b : Bool) (core : Columns) (s t : ℕ) → noted_if b core s (SawClear t) ≡ clear_by b core s t
clear_flat true core s t = refl
clear_flat false core s t = λ i. record core { saw_clear = sym (put_self core.saw_clear s) i; saw_idle = sym (put_self core.saw_idle s) i }

abbrev pub logged_by : Bool → Columns → ℕ → Entry → Columns
logged_by b core s e = record core { journal = put core.journal s (log_if b e (core.journal s)) }

pub logged_flat : (b : Bool) (core : Columns) (s : ℕ) (e : Entry) → logged_if b core s e ≡ logged_by b core s e
logged_flat true core s e = refl
logged_flat false core s e = λ i. record core { journal = sym (put_self core.journal s) i }

abbrev pub seen_by : Bool → Columns → ℕ → State → Columns
seen_by b core s state = record core { seen_state = put core.seen_state s (if b then Some state else core.seen_state s) }

pub seen_flat : (b : Bool) (core : Columns) (s : ℕ) (state : State) → seen_if b core s state ≡ seen_by b core s state
seen_flat true core s state = refl
seen_flat false core s state = λ i. record core { seen_state = sym (put_self core.seen_state s) i }

abbrev pub unseen_by : Bool → Columns → ℕ → Columns
unseen_by b core s = record core { seen_state = put core.seen_state s (if b then None else core.seen_state s) }

unseen_so : (b : Bool) (core : Columns) (s : ℕ) → record core { seen_state = if b then put core.seen_state s None else core.seen_state } ≡ unseen_by b core s
unseen_so true core s = refl
unseen_so false core s = λ i. record core { seen_state = sym (put_self core.seen_state s) i }

pub unseen_flat : (core : Columns) (s c : ℕ) → unseen core s c ≡ unseen_by (s == c) core s
unseen_flat core s c = unseen_so (s == c) core s

abbrev pub give_up_by : Bool → Columns → ℕ → Columns
give_up_by b core s =
    record core {
      current_task = put core.current_task s (if b then None else core.current_task s);
      task_to_clear = put core.task_to_clear s (if b then (if is_none (core.current_task s) then core.task_to_clear s else core.current_task s) else core.task_to_clear s);
    }

pub give_up_flat : (b : Bool) (core : Columns) (s : ℕ) → give_up_if b core s ≡ give_up_by b core s
give_up_flat true core s = refl
give_up_flat false core s = λ i. record core { current_task = sym (put_self core.current_task s) i; task_to_clear = sym (put_self core.task_to_clear s) i }

abbrev pub slept_by : Bool → Columns → ℕ → ℕ → Columns
slept_by b core s t =
    record core {
      tested = put core.tested s (put_row_if b t None (core.tested s));
      is_asleep = put core.is_asleep s (put_row_if b t false (core.is_asleep s));
      has_slept = put core.has_slept s (put_if b t true (core.has_slept s));
      has_slept_in = put core.has_slept_in s (put_column_if b t true (core.has_slept_in s));
    }

pub slept_flat : (b : Bool) (core : Columns) (s t : ℕ) → slept_if b core s t ≡ slept_by b core s t
slept_flat true core s t = refl
slept_flat false core s t =
    λ i. record core {
      tested = sym (put_self core.tested s) i;
      is_asleep = sym (put_self core.is_asleep s) i;
      has_slept = sym (put_self core.has_slept s) i;
      has_slept_in = sym (put_self core.has_slept_in s) i;
    }

abbrev pub walked_by : Bool → Columns → ℕ → ℕ → Columns
walked_by b core s k = record core { owes_walk = put core.owes_walk s (put_if b k false (core.owes_walk s)) }

pub walked_flat : (b : Bool) (core : Columns) (s k : ℕ) → walked_if b core s k ≡ walked_by b core s k
walked_flat true core s k = refl
walked_flat false core s k = λ i. record core { owes_walk = sym (put_self core.owes_walk s) i }

tested_flat : (b : Bool) (core : Columns) (s t k v : ℕ) → tested_if b core s t k v ≡ record core { tested = put core.tested s (put_test_if b t k v (core.tested s)) }
tested_flat true core s t k v = refl
tested_flat false core s t k v = λ i. record core { tested = sym (put_self core.tested s) i }

abbrev pub tested_by : Option ℕ → Columns → ℕ → ℕ → Columns
tested_by current core s k = record core { tested = put core.tested s (put_test current (core.has_slept s) k (core.cond k) (core.tested s)) }

pub test_flat : (current : Option ℕ) (core : Columns) (s k : ℕ) → test_by core s current k ≡ tested_by current core s k
test_flat None core s k = λ i. record core { tested = sym (put_self core.tested s) i }
test_flat (Some t) core s k = tested_flat (core.has_slept s t) core s t k (core.cond k)
