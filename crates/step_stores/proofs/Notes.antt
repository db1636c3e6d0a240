-- The table after a step is made the latest.
use Rattle.std.proofs.Common.{◌≡◌, ℕ, ◌<◌, ◌==◌, true, false, sym, ◌∙◌, ap, get_or}
use Rattle.std.specs.Prelude.{if◌then◌else◌}
use Rattle.std.specs.Vec.{with_item}
use mathlib.Core.Path.{fun_ext}
use Rattle.core_data.specs.Acts.{with_act}
use Rattle.core_data.specs.Noted.{noted}
use Rattle.core_data.specs.Position.{Position}
use Rattle.core_data.specs.Rows.{with_seat}
use Rattle.core_data.specs.Columns.{Columns, columns, put, has_matched_of, is_unstored_of, saw_off_of, is_claimed_of, saw_clear_of, has_stored_of, saw_rest_of, saw_rest_off_of, saw_rest_idle_of}
use Rattle.core_data.specs.Columns.{has_slept_of, is_requeued_of, saw_idle_of}
use Rattle.core_data.specs.Columns.{has_added_of, has_dropped_of, has_passed_of, has_own_stored_of, has_slept_in_of, owes_walk_of, has_retaken_of}
use Rattle.core_data.specs.declared.act.Act.{Act}
use Rattle.core_data.specs.declared.act.Act.TheVariants.{TookTask, Renewed, StoredWord, Matched, SawOff, Claimed, SawClear, SawRest, SawRestOff, SawRestIdle, TookQueue, Queued, Dequeued, Picked}
use Rattle.core_data.specs.declared.act.Act.TheVariants.{TookWait, OwnStored, Slept, Passed, Bumped, Walked}
use Rattle.core_data.specs.declared.machine.Core.{Core}
use Rattle.core_data.specs.declared.seat.SeatCore.{SeatCore}
use Rattle.step_data.proofs.ActLemmas.{since-with}
use Rattle.step_stores.proofs.Writes.{table-seat, same-seat, get-matched, get-unstored, get-saw_off, get-claimed, get-clear, get-stored, get-rest_state, get-rest_off, get-rest_idle, get-slept}
use Rattle.step_stores.proofs.Writes.{get-requeued, get-idle, get-added, get-dropped, get-passed, get-own_stored, get-slept_in, get-owes, get-retaken}

-- what the row says of each column after the step, by what it said before

row-TookTask : (core : Columns) (s : ℕ) (w : SeatCore) (n : ℕ) → with_seat core s (record w { pos = record w.pos { recent = with_act w.pos.recent (TookTask n) } })
    ≡ record (with_seat core s w) {
      has_matched = put core.has_matched s (λ t. if t == n then false else has_matched_of w t);
      has_stored = put core.has_stored s (λ t. if t == n then false else has_stored_of w t);
    }
row-TookTask core s w n =
    λ i. record (with_seat core s w) {
      has_matched = put core.has_matched s (fun_ext (λ t. since-with (Matched t) (TookTask t) (TookTask n) w.pos.recent) i);
      is_unstored = put core.is_unstored s (fun_ext (λ t. since-with (Matched t) (Renewed t) (TookTask n) w.pos.recent) i);
      saw_off = put core.saw_off s (fun_ext (λ t. since-with (SawOff t) (Renewed t) (TookTask n) w.pos.recent) i);
      is_claimed = put core.is_claimed s (fun_ext (λ t. since-with (Claimed t) (Queued t) (TookTask n) w.pos.recent) i);
      saw_clear = put core.saw_clear s (fun_ext (λ t. since-with (SawClear t) (Claimed t) (TookTask n) w.pos.recent) i);
      has_stored = put core.has_stored s (fun_ext (λ t. since-with (StoredWord t) (TookTask t) (TookTask n) w.pos.recent) i);
      saw_rest = put core.saw_rest s (fun_ext (λ t. since-with (SawRest t) (Renewed t) (TookTask n) w.pos.recent) i);
      saw_rest_off = put core.saw_rest_off s (fun_ext (λ t. since-with (SawRestOff t) (Renewed t) (TookTask n) w.pos.recent) i);
      saw_rest_idle = put core.saw_rest_idle s (fun_ext (λ t. since-with (SawRestIdle t) (Renewed t) (TookTask n) w.pos.recent) i);
      has_slept = put core.has_slept s (fun_ext (λ t. since-with (Slept t) (Picked t) (TookTask n) w.pos.recent) i);
      is_requeued = put core.is_requeued s (fun_ext (λ t. since-with (Queued t) (Dequeued t) (TookTask n) w.pos.recent) i);
      saw_idle = put core.saw_idle s (fun_ext (λ c. fun_ext (λ t. since-with (SawClear t) (TookQueue c) (TookTask n) w.pos.recent)) i);
      has_added = put core.has_added s (fun_ext (λ c. fun_ext (λ t. since-with (Queued t) (TookQueue c) (TookTask n) w.pos.recent)) i);
      has_dropped = put core.has_dropped s (fun_ext (λ c. fun_ext (λ t. since-with (Dequeued t) (TookQueue c) (TookTask n) w.pos.recent)) i);
      has_passed = put core.has_passed s (fun_ext (λ k. fun_ext (λ t. since-with (Passed t) (TookWait k) (TookTask n) w.pos.recent)) i);
      has_own_stored = put core.has_own_stored s (fun_ext (λ k. fun_ext (λ t. since-with (OwnStored t) (TookWait k) (TookTask n) w.pos.recent)) i);
      has_slept_in = put core.has_slept_in s (fun_ext (λ k. fun_ext (λ t. since-with (Slept t) (TookWait k) (TookTask n) w.pos.recent)) i);
      owes_walk = put core.owes_walk s (fun_ext (λ k. since-with (Bumped k) (Walked k) (TookTask n) w.pos.recent) i);
      has_retaken = put core.has_retaken s (fun_ext (λ k. since-with (TookWait k) (Bumped k) (TookTask n) w.pos.recent) i);
    }

row-Renewed : (core : Columns) (s : ℕ) (w : SeatCore) (n : ℕ) → with_seat core s (record w { pos = record w.pos { recent = with_act w.pos.recent (Renewed n) } })
    ≡ record (with_seat core s w) {
      is_unstored = put core.is_unstored s (λ t. if t == n then false else is_unstored_of w t);
      saw_off = put core.saw_off s (λ t. if t == n then false else saw_off_of w t);
      saw_rest = put core.saw_rest s (λ t. if t == n then false else saw_rest_of w t);
      saw_rest_off = put core.saw_rest_off s (λ t. if t == n then false else saw_rest_off_of w t);
      saw_rest_idle = put core.saw_rest_idle s (λ t. if t == n then false else saw_rest_idle_of w t);
    }
row-Renewed core s w n =
    λ i. record (with_seat core s w) {
      has_matched = put core.has_matched s (fun_ext (λ t. since-with (Matched t) (TookTask t) (Renewed n) w.pos.recent) i);
      is_unstored = put core.is_unstored s (fun_ext (λ t. since-with (Matched t) (Renewed t) (Renewed n) w.pos.recent) i);
      saw_off = put core.saw_off s (fun_ext (λ t. since-with (SawOff t) (Renewed t) (Renewed n) w.pos.recent) i);
      is_claimed = put core.is_claimed s (fun_ext (λ t. since-with (Claimed t) (Queued t) (Renewed n) w.pos.recent) i);
      saw_clear = put core.saw_clear s (fun_ext (λ t. since-with (SawClear t) (Claimed t) (Renewed n) w.pos.recent) i);
      has_stored = put core.has_stored s (fun_ext (λ t. since-with (StoredWord t) (TookTask t) (Renewed n) w.pos.recent) i);
      saw_rest = put core.saw_rest s (fun_ext (λ t. since-with (SawRest t) (Renewed t) (Renewed n) w.pos.recent) i);
      saw_rest_off = put core.saw_rest_off s (fun_ext (λ t. since-with (SawRestOff t) (Renewed t) (Renewed n) w.pos.recent) i);
      saw_rest_idle = put core.saw_rest_idle s (fun_ext (λ t. since-with (SawRestIdle t) (Renewed t) (Renewed n) w.pos.recent) i);
      has_slept = put core.has_slept s (fun_ext (λ t. since-with (Slept t) (Picked t) (Renewed n) w.pos.recent) i);
      is_requeued = put core.is_requeued s (fun_ext (λ t. since-with (Queued t) (Dequeued t) (Renewed n) w.pos.recent) i);
      saw_idle = put core.saw_idle s (fun_ext (λ c. fun_ext (λ t. since-with (SawClear t) (TookQueue c) (Renewed n) w.pos.recent)) i);
      has_added = put core.has_added s (fun_ext (λ c. fun_ext (λ t. since-with (Queued t) (TookQueue c) (Renewed n) w.pos.recent)) i);
      has_dropped = put core.has_dropped s (fun_ext (λ c. fun_ext (λ t. since-with (Dequeued t) (TookQueue c) (Renewed n) w.pos.recent)) i);
      has_passed = put core.has_passed s (fun_ext (λ k. fun_ext (λ t. since-with (Passed t) (TookWait k) (Renewed n) w.pos.recent)) i);
      has_own_stored = put core.has_own_stored s (fun_ext (λ k. fun_ext (λ t. since-with (OwnStored t) (TookWait k) (Renewed n) w.pos.recent)) i);
      has_slept_in = put core.has_slept_in s (fun_ext (λ k. fun_ext (λ t. since-with (Slept t) (TookWait k) (Renewed n) w.pos.recent)) i);
      owes_walk = put core.owes_walk s (fun_ext (λ k. since-with (Bumped k) (Walked k) (Renewed n) w.pos.recent) i);
      has_retaken = put core.has_retaken s (fun_ext (λ k. since-with (TookWait k) (Bumped k) (Renewed n) w.pos.recent) i);
    }

row-StoredWord : (core : Columns) (s : ℕ) (w : SeatCore) (n : ℕ)
    → with_seat core s (record w { pos = record w.pos { recent = with_act w.pos.recent (StoredWord n) } })
    ≡ record (with_seat core s w) { has_stored = put core.has_stored s (λ t. if t == n then true else has_stored_of w t) }
row-StoredWord core s w n =
    λ i. record (with_seat core s w) {
      has_matched = put core.has_matched s (fun_ext (λ t. since-with (Matched t) (TookTask t) (StoredWord n) w.pos.recent) i);
      is_unstored = put core.is_unstored s (fun_ext (λ t. since-with (Matched t) (Renewed t) (StoredWord n) w.pos.recent) i);
      saw_off = put core.saw_off s (fun_ext (λ t. since-with (SawOff t) (Renewed t) (StoredWord n) w.pos.recent) i);
      is_claimed = put core.is_claimed s (fun_ext (λ t. since-with (Claimed t) (Queued t) (StoredWord n) w.pos.recent) i);
      saw_clear = put core.saw_clear s (fun_ext (λ t. since-with (SawClear t) (Claimed t) (StoredWord n) w.pos.recent) i);
      has_stored = put core.has_stored s (fun_ext (λ t. since-with (StoredWord t) (TookTask t) (StoredWord n) w.pos.recent) i);
      saw_rest = put core.saw_rest s (fun_ext (λ t. since-with (SawRest t) (Renewed t) (StoredWord n) w.pos.recent) i);
      saw_rest_off = put core.saw_rest_off s (fun_ext (λ t. since-with (SawRestOff t) (Renewed t) (StoredWord n) w.pos.recent) i);
      saw_rest_idle = put core.saw_rest_idle s (fun_ext (λ t. since-with (SawRestIdle t) (Renewed t) (StoredWord n) w.pos.recent) i);
      has_slept = put core.has_slept s (fun_ext (λ t. since-with (Slept t) (Picked t) (StoredWord n) w.pos.recent) i);
      is_requeued = put core.is_requeued s (fun_ext (λ t. since-with (Queued t) (Dequeued t) (StoredWord n) w.pos.recent) i);
      saw_idle = put core.saw_idle s (fun_ext (λ c. fun_ext (λ t. since-with (SawClear t) (TookQueue c) (StoredWord n) w.pos.recent)) i);
      has_added = put core.has_added s (fun_ext (λ c. fun_ext (λ t. since-with (Queued t) (TookQueue c) (StoredWord n) w.pos.recent)) i);
      has_dropped = put core.has_dropped s (fun_ext (λ c. fun_ext (λ t. since-with (Dequeued t) (TookQueue c) (StoredWord n) w.pos.recent)) i);
      has_passed = put core.has_passed s (fun_ext (λ k. fun_ext (λ t. since-with (Passed t) (TookWait k) (StoredWord n) w.pos.recent)) i);
      has_own_stored = put core.has_own_stored s (fun_ext (λ k. fun_ext (λ t. since-with (OwnStored t) (TookWait k) (StoredWord n) w.pos.recent)) i);
      has_slept_in = put core.has_slept_in s (fun_ext (λ k. fun_ext (λ t. since-with (Slept t) (TookWait k) (StoredWord n) w.pos.recent)) i);
      owes_walk = put core.owes_walk s (fun_ext (λ k. since-with (Bumped k) (Walked k) (StoredWord n) w.pos.recent) i);
      has_retaken = put core.has_retaken s (fun_ext (λ k. since-with (TookWait k) (Bumped k) (StoredWord n) w.pos.recent) i);
    }

row-Matched : (core : Columns) (s : ℕ) (w : SeatCore) (n : ℕ) → with_seat core s (record w { pos = record w.pos { recent = with_act w.pos.recent (Matched n) } })
    ≡ record (with_seat core s w) {
      has_matched = put core.has_matched s (λ t. if t == n then true else has_matched_of w t);
      is_unstored = put core.is_unstored s (λ t. if t == n then true else is_unstored_of w t);
    }
row-Matched core s w n =
    λ i. record (with_seat core s w) {
      has_matched = put core.has_matched s (fun_ext (λ t. since-with (Matched t) (TookTask t) (Matched n) w.pos.recent) i);
      is_unstored = put core.is_unstored s (fun_ext (λ t. since-with (Matched t) (Renewed t) (Matched n) w.pos.recent) i);
      saw_off = put core.saw_off s (fun_ext (λ t. since-with (SawOff t) (Renewed t) (Matched n) w.pos.recent) i);
      is_claimed = put core.is_claimed s (fun_ext (λ t. since-with (Claimed t) (Queued t) (Matched n) w.pos.recent) i);
      saw_clear = put core.saw_clear s (fun_ext (λ t. since-with (SawClear t) (Claimed t) (Matched n) w.pos.recent) i);
      has_stored = put core.has_stored s (fun_ext (λ t. since-with (StoredWord t) (TookTask t) (Matched n) w.pos.recent) i);
      saw_rest = put core.saw_rest s (fun_ext (λ t. since-with (SawRest t) (Renewed t) (Matched n) w.pos.recent) i);
      saw_rest_off = put core.saw_rest_off s (fun_ext (λ t. since-with (SawRestOff t) (Renewed t) (Matched n) w.pos.recent) i);
      saw_rest_idle = put core.saw_rest_idle s (fun_ext (λ t. since-with (SawRestIdle t) (Renewed t) (Matched n) w.pos.recent) i);
      has_slept = put core.has_slept s (fun_ext (λ t. since-with (Slept t) (Picked t) (Matched n) w.pos.recent) i);
      is_requeued = put core.is_requeued s (fun_ext (λ t. since-with (Queued t) (Dequeued t) (Matched n) w.pos.recent) i);
      saw_idle = put core.saw_idle s (fun_ext (λ c. fun_ext (λ t. since-with (SawClear t) (TookQueue c) (Matched n) w.pos.recent)) i);
      has_added = put core.has_added s (fun_ext (λ c. fun_ext (λ t. since-with (Queued t) (TookQueue c) (Matched n) w.pos.recent)) i);
      has_dropped = put core.has_dropped s (fun_ext (λ c. fun_ext (λ t. since-with (Dequeued t) (TookQueue c) (Matched n) w.pos.recent)) i);
      has_passed = put core.has_passed s (fun_ext (λ k. fun_ext (λ t. since-with (Passed t) (TookWait k) (Matched n) w.pos.recent)) i);
      has_own_stored = put core.has_own_stored s (fun_ext (λ k. fun_ext (λ t. since-with (OwnStored t) (TookWait k) (Matched n) w.pos.recent)) i);
      has_slept_in = put core.has_slept_in s (fun_ext (λ k. fun_ext (λ t. since-with (Slept t) (TookWait k) (Matched n) w.pos.recent)) i);
      owes_walk = put core.owes_walk s (fun_ext (λ k. since-with (Bumped k) (Walked k) (Matched n) w.pos.recent) i);
      has_retaken = put core.has_retaken s (fun_ext (λ k. since-with (TookWait k) (Bumped k) (Matched n) w.pos.recent) i);
    }

row-SawOff : (core : Columns) (s : ℕ) (w : SeatCore) (n : ℕ) → with_seat core s (record w { pos = record w.pos { recent = with_act w.pos.recent (SawOff n) } })
    ≡ record (with_seat core s w) { saw_off = put core.saw_off s (λ t. if t == n then true else saw_off_of w t) }
row-SawOff core s w n =
    λ i. record (with_seat core s w) {
      has_matched = put core.has_matched s (fun_ext (λ t. since-with (Matched t) (TookTask t) (SawOff n) w.pos.recent) i);
      is_unstored = put core.is_unstored s (fun_ext (λ t. since-with (Matched t) (Renewed t) (SawOff n) w.pos.recent) i);
      saw_off = put core.saw_off s (fun_ext (λ t. since-with (SawOff t) (Renewed t) (SawOff n) w.pos.recent) i);
      is_claimed = put core.is_claimed s (fun_ext (λ t. since-with (Claimed t) (Queued t) (SawOff n) w.pos.recent) i);
      saw_clear = put core.saw_clear s (fun_ext (λ t. since-with (SawClear t) (Claimed t) (SawOff n) w.pos.recent) i);
      has_stored = put core.has_stored s (fun_ext (λ t. since-with (StoredWord t) (TookTask t) (SawOff n) w.pos.recent) i);
      saw_rest = put core.saw_rest s (fun_ext (λ t. since-with (SawRest t) (Renewed t) (SawOff n) w.pos.recent) i);
      saw_rest_off = put core.saw_rest_off s (fun_ext (λ t. since-with (SawRestOff t) (Renewed t) (SawOff n) w.pos.recent) i);
      saw_rest_idle = put core.saw_rest_idle s (fun_ext (λ t. since-with (SawRestIdle t) (Renewed t) (SawOff n) w.pos.recent) i);
      has_slept = put core.has_slept s (fun_ext (λ t. since-with (Slept t) (Picked t) (SawOff n) w.pos.recent) i);
      is_requeued = put core.is_requeued s (fun_ext (λ t. since-with (Queued t) (Dequeued t) (SawOff n) w.pos.recent) i);
      saw_idle = put core.saw_idle s (fun_ext (λ c. fun_ext (λ t. since-with (SawClear t) (TookQueue c) (SawOff n) w.pos.recent)) i);
      has_added = put core.has_added s (fun_ext (λ c. fun_ext (λ t. since-with (Queued t) (TookQueue c) (SawOff n) w.pos.recent)) i);
      has_dropped = put core.has_dropped s (fun_ext (λ c. fun_ext (λ t. since-with (Dequeued t) (TookQueue c) (SawOff n) w.pos.recent)) i);
      has_passed = put core.has_passed s (fun_ext (λ k. fun_ext (λ t. since-with (Passed t) (TookWait k) (SawOff n) w.pos.recent)) i);
      has_own_stored = put core.has_own_stored s (fun_ext (λ k. fun_ext (λ t. since-with (OwnStored t) (TookWait k) (SawOff n) w.pos.recent)) i);
      has_slept_in = put core.has_slept_in s (fun_ext (λ k. fun_ext (λ t. since-with (Slept t) (TookWait k) (SawOff n) w.pos.recent)) i);
      owes_walk = put core.owes_walk s (fun_ext (λ k. since-with (Bumped k) (Walked k) (SawOff n) w.pos.recent) i);
      has_retaken = put core.has_retaken s (fun_ext (λ k. since-with (TookWait k) (Bumped k) (SawOff n) w.pos.recent) i);
    }

row-Claimed : (core : Columns) (s : ℕ) (w : SeatCore) (n : ℕ) → with_seat core s (record w { pos = record w.pos { recent = with_act w.pos.recent (Claimed n) } })
    ≡ record (with_seat core s w) {
      is_claimed = put core.is_claimed s (λ t. if t == n then true else is_claimed_of w t);
      saw_clear = put core.saw_clear s (λ t. if t == n then false else saw_clear_of w t);
    }
row-Claimed core s w n =
    λ i. record (with_seat core s w) {
      has_matched = put core.has_matched s (fun_ext (λ t. since-with (Matched t) (TookTask t) (Claimed n) w.pos.recent) i);
      is_unstored = put core.is_unstored s (fun_ext (λ t. since-with (Matched t) (Renewed t) (Claimed n) w.pos.recent) i);
      saw_off = put core.saw_off s (fun_ext (λ t. since-with (SawOff t) (Renewed t) (Claimed n) w.pos.recent) i);
      is_claimed = put core.is_claimed s (fun_ext (λ t. since-with (Claimed t) (Queued t) (Claimed n) w.pos.recent) i);
      saw_clear = put core.saw_clear s (fun_ext (λ t. since-with (SawClear t) (Claimed t) (Claimed n) w.pos.recent) i);
      has_stored = put core.has_stored s (fun_ext (λ t. since-with (StoredWord t) (TookTask t) (Claimed n) w.pos.recent) i);
      saw_rest = put core.saw_rest s (fun_ext (λ t. since-with (SawRest t) (Renewed t) (Claimed n) w.pos.recent) i);
      saw_rest_off = put core.saw_rest_off s (fun_ext (λ t. since-with (SawRestOff t) (Renewed t) (Claimed n) w.pos.recent) i);
      saw_rest_idle = put core.saw_rest_idle s (fun_ext (λ t. since-with (SawRestIdle t) (Renewed t) (Claimed n) w.pos.recent) i);
      has_slept = put core.has_slept s (fun_ext (λ t. since-with (Slept t) (Picked t) (Claimed n) w.pos.recent) i);
      is_requeued = put core.is_requeued s (fun_ext (λ t. since-with (Queued t) (Dequeued t) (Claimed n) w.pos.recent) i);
      saw_idle = put core.saw_idle s (fun_ext (λ c. fun_ext (λ t. since-with (SawClear t) (TookQueue c) (Claimed n) w.pos.recent)) i);
      has_added = put core.has_added s (fun_ext (λ c. fun_ext (λ t. since-with (Queued t) (TookQueue c) (Claimed n) w.pos.recent)) i);
      has_dropped = put core.has_dropped s (fun_ext (λ c. fun_ext (λ t. since-with (Dequeued t) (TookQueue c) (Claimed n) w.pos.recent)) i);
      has_passed = put core.has_passed s (fun_ext (λ k. fun_ext (λ t. since-with (Passed t) (TookWait k) (Claimed n) w.pos.recent)) i);
      has_own_stored = put core.has_own_stored s (fun_ext (λ k. fun_ext (λ t. since-with (OwnStored t) (TookWait k) (Claimed n) w.pos.recent)) i);
      has_slept_in = put core.has_slept_in s (fun_ext (λ k. fun_ext (λ t. since-with (Slept t) (TookWait k) (Claimed n) w.pos.recent)) i);
      owes_walk = put core.owes_walk s (fun_ext (λ k. since-with (Bumped k) (Walked k) (Claimed n) w.pos.recent) i);
      has_retaken = put core.has_retaken s (fun_ext (λ k. since-with (TookWait k) (Bumped k) (Claimed n) w.pos.recent) i);
    }

row-SawClear : (core : Columns) (s : ℕ) (w : SeatCore) (n : ℕ) → with_seat core s (record w { pos = record w.pos { recent = with_act w.pos.recent (SawClear n) } })
    ≡ record (with_seat core s w) {
      saw_clear = put core.saw_clear s (λ t. if t == n then true else saw_clear_of w t);
      saw_idle = put core.saw_idle s (λ c t. if t == n then true else saw_idle_of w c t);
    }
row-SawClear core s w n =
    λ i. record (with_seat core s w) {
      has_matched = put core.has_matched s (fun_ext (λ t. since-with (Matched t) (TookTask t) (SawClear n) w.pos.recent) i);
      is_unstored = put core.is_unstored s (fun_ext (λ t. since-with (Matched t) (Renewed t) (SawClear n) w.pos.recent) i);
      saw_off = put core.saw_off s (fun_ext (λ t. since-with (SawOff t) (Renewed t) (SawClear n) w.pos.recent) i);
      is_claimed = put core.is_claimed s (fun_ext (λ t. since-with (Claimed t) (Queued t) (SawClear n) w.pos.recent) i);
      saw_clear = put core.saw_clear s (fun_ext (λ t. since-with (SawClear t) (Claimed t) (SawClear n) w.pos.recent) i);
      has_stored = put core.has_stored s (fun_ext (λ t. since-with (StoredWord t) (TookTask t) (SawClear n) w.pos.recent) i);
      saw_rest = put core.saw_rest s (fun_ext (λ t. since-with (SawRest t) (Renewed t) (SawClear n) w.pos.recent) i);
      saw_rest_off = put core.saw_rest_off s (fun_ext (λ t. since-with (SawRestOff t) (Renewed t) (SawClear n) w.pos.recent) i);
      saw_rest_idle = put core.saw_rest_idle s (fun_ext (λ t. since-with (SawRestIdle t) (Renewed t) (SawClear n) w.pos.recent) i);
      has_slept = put core.has_slept s (fun_ext (λ t. since-with (Slept t) (Picked t) (SawClear n) w.pos.recent) i);
      is_requeued = put core.is_requeued s (fun_ext (λ t. since-with (Queued t) (Dequeued t) (SawClear n) w.pos.recent) i);
      saw_idle = put core.saw_idle s (fun_ext (λ c. fun_ext (λ t. since-with (SawClear t) (TookQueue c) (SawClear n) w.pos.recent)) i);
      has_added = put core.has_added s (fun_ext (λ c. fun_ext (λ t. since-with (Queued t) (TookQueue c) (SawClear n) w.pos.recent)) i);
      has_dropped = put core.has_dropped s (fun_ext (λ c. fun_ext (λ t. since-with (Dequeued t) (TookQueue c) (SawClear n) w.pos.recent)) i);
      has_passed = put core.has_passed s (fun_ext (λ k. fun_ext (λ t. since-with (Passed t) (TookWait k) (SawClear n) w.pos.recent)) i);
      has_own_stored = put core.has_own_stored s (fun_ext (λ k. fun_ext (λ t. since-with (OwnStored t) (TookWait k) (SawClear n) w.pos.recent)) i);
      has_slept_in = put core.has_slept_in s (fun_ext (λ k. fun_ext (λ t. since-with (Slept t) (TookWait k) (SawClear n) w.pos.recent)) i);
      owes_walk = put core.owes_walk s (fun_ext (λ k. since-with (Bumped k) (Walked k) (SawClear n) w.pos.recent) i);
      has_retaken = put core.has_retaken s (fun_ext (λ k. since-with (TookWait k) (Bumped k) (SawClear n) w.pos.recent) i);
    }

row-SawRest : (core : Columns) (s : ℕ) (w : SeatCore) (n : ℕ) → with_seat core s (record w { pos = record w.pos { recent = with_act w.pos.recent (SawRest n) } })
    ≡ record (with_seat core s w) { saw_rest = put core.saw_rest s (λ t. if t == n then true else saw_rest_of w t) }
row-SawRest core s w n =
    λ i. record (with_seat core s w) {
      has_matched = put core.has_matched s (fun_ext (λ t. since-with (Matched t) (TookTask t) (SawRest n) w.pos.recent) i);
      is_unstored = put core.is_unstored s (fun_ext (λ t. since-with (Matched t) (Renewed t) (SawRest n) w.pos.recent) i);
      saw_off = put core.saw_off s (fun_ext (λ t. since-with (SawOff t) (Renewed t) (SawRest n) w.pos.recent) i);
      is_claimed = put core.is_claimed s (fun_ext (λ t. since-with (Claimed t) (Queued t) (SawRest n) w.pos.recent) i);
      saw_clear = put core.saw_clear s (fun_ext (λ t. since-with (SawClear t) (Claimed t) (SawRest n) w.pos.recent) i);
      has_stored = put core.has_stored s (fun_ext (λ t. since-with (StoredWord t) (TookTask t) (SawRest n) w.pos.recent) i);
      saw_rest = put core.saw_rest s (fun_ext (λ t. since-with (SawRest t) (Renewed t) (SawRest n) w.pos.recent) i);
      saw_rest_off = put core.saw_rest_off s (fun_ext (λ t. since-with (SawRestOff t) (Renewed t) (SawRest n) w.pos.recent) i);
      saw_rest_idle = put core.saw_rest_idle s (fun_ext (λ t. since-with (SawRestIdle t) (Renewed t) (SawRest n) w.pos.recent) i);
      has_slept = put core.has_slept s (fun_ext (λ t. since-with (Slept t) (Picked t) (SawRest n) w.pos.recent) i);
      is_requeued = put core.is_requeued s (fun_ext (λ t. since-with (Queued t) (Dequeued t) (SawRest n) w.pos.recent) i);
      saw_idle = put core.saw_idle s (fun_ext (λ c. fun_ext (λ t. since-with (SawClear t) (TookQueue c) (SawRest n) w.pos.recent)) i);
      has_added = put core.has_added s (fun_ext (λ c. fun_ext (λ t. since-with (Queued t) (TookQueue c) (SawRest n) w.pos.recent)) i);
      has_dropped = put core.has_dropped s (fun_ext (λ c. fun_ext (λ t. since-with (Dequeued t) (TookQueue c) (SawRest n) w.pos.recent)) i);
      has_passed = put core.has_passed s (fun_ext (λ k. fun_ext (λ t. since-with (Passed t) (TookWait k) (SawRest n) w.pos.recent)) i);
      has_own_stored = put core.has_own_stored s (fun_ext (λ k. fun_ext (λ t. since-with (OwnStored t) (TookWait k) (SawRest n) w.pos.recent)) i);
      has_slept_in = put core.has_slept_in s (fun_ext (λ k. fun_ext (λ t. since-with (Slept t) (TookWait k) (SawRest n) w.pos.recent)) i);
      owes_walk = put core.owes_walk s (fun_ext (λ k. since-with (Bumped k) (Walked k) (SawRest n) w.pos.recent) i);
      has_retaken = put core.has_retaken s (fun_ext (λ k. since-with (TookWait k) (Bumped k) (SawRest n) w.pos.recent) i);
    }

row-SawRestOff : (core : Columns) (s : ℕ) (w : SeatCore) (n : ℕ)
    → with_seat core s (record w { pos = record w.pos { recent = with_act w.pos.recent (SawRestOff n) } })
    ≡ record (with_seat core s w) { saw_rest_off = put core.saw_rest_off s (λ t. if t == n then true else saw_rest_off_of w t) }
row-SawRestOff core s w n =
    λ i. record (with_seat core s w) {
      has_matched = put core.has_matched s (fun_ext (λ t. since-with (Matched t) (TookTask t) (SawRestOff n) w.pos.recent) i);
      is_unstored = put core.is_unstored s (fun_ext (λ t. since-with (Matched t) (Renewed t) (SawRestOff n) w.pos.recent) i);
      saw_off = put core.saw_off s (fun_ext (λ t. since-with (SawOff t) (Renewed t) (SawRestOff n) w.pos.recent) i);
      is_claimed = put core.is_claimed s (fun_ext (λ t. since-with (Claimed t) (Queued t) (SawRestOff n) w.pos.recent) i);
      saw_clear = put core.saw_clear s (fun_ext (λ t. since-with (SawClear t) (Claimed t) (SawRestOff n) w.pos.recent) i);
      has_stored = put core.has_stored s (fun_ext (λ t. since-with (StoredWord t) (TookTask t) (SawRestOff n) w.pos.recent) i);
      saw_rest = put core.saw_rest s (fun_ext (λ t. since-with (SawRest t) (Renewed t) (SawRestOff n) w.pos.recent) i);
      saw_rest_off = put core.saw_rest_off s (fun_ext (λ t. since-with (SawRestOff t) (Renewed t) (SawRestOff n) w.pos.recent) i);
      saw_rest_idle = put core.saw_rest_idle s (fun_ext (λ t. since-with (SawRestIdle t) (Renewed t) (SawRestOff n) w.pos.recent) i);
      has_slept = put core.has_slept s (fun_ext (λ t. since-with (Slept t) (Picked t) (SawRestOff n) w.pos.recent) i);
      is_requeued = put core.is_requeued s (fun_ext (λ t. since-with (Queued t) (Dequeued t) (SawRestOff n) w.pos.recent) i);
      saw_idle = put core.saw_idle s (fun_ext (λ c. fun_ext (λ t. since-with (SawClear t) (TookQueue c) (SawRestOff n) w.pos.recent)) i);
      has_added = put core.has_added s (fun_ext (λ c. fun_ext (λ t. since-with (Queued t) (TookQueue c) (SawRestOff n) w.pos.recent)) i);
      has_dropped = put core.has_dropped s (fun_ext (λ c. fun_ext (λ t. since-with (Dequeued t) (TookQueue c) (SawRestOff n) w.pos.recent)) i);
      has_passed = put core.has_passed s (fun_ext (λ k. fun_ext (λ t. since-with (Passed t) (TookWait k) (SawRestOff n) w.pos.recent)) i);
      has_own_stored = put core.has_own_stored s (fun_ext (λ k. fun_ext (λ t. since-with (OwnStored t) (TookWait k) (SawRestOff n) w.pos.recent)) i);
      has_slept_in = put core.has_slept_in s (fun_ext (λ k. fun_ext (λ t. since-with (Slept t) (TookWait k) (SawRestOff n) w.pos.recent)) i);
      owes_walk = put core.owes_walk s (fun_ext (λ k. since-with (Bumped k) (Walked k) (SawRestOff n) w.pos.recent) i);
      has_retaken = put core.has_retaken s (fun_ext (λ k. since-with (TookWait k) (Bumped k) (SawRestOff n) w.pos.recent) i);
    }

row-SawRestIdle : (core : Columns) (s : ℕ) (w : SeatCore) (n : ℕ)
    → with_seat core s (record w { pos = record w.pos { recent = with_act w.pos.recent (SawRestIdle n) } })
    ≡ record (with_seat core s w) { saw_rest_idle = put core.saw_rest_idle s (λ t. if t == n then true else saw_rest_idle_of w t) }
row-SawRestIdle core s w n =
    λ i. record (with_seat core s w) {
      has_matched = put core.has_matched s (fun_ext (λ t. since-with (Matched t) (TookTask t) (SawRestIdle n) w.pos.recent) i);
      is_unstored = put core.is_unstored s (fun_ext (λ t. since-with (Matched t) (Renewed t) (SawRestIdle n) w.pos.recent) i);
      saw_off = put core.saw_off s (fun_ext (λ t. since-with (SawOff t) (Renewed t) (SawRestIdle n) w.pos.recent) i);
      is_claimed = put core.is_claimed s (fun_ext (λ t. since-with (Claimed t) (Queued t) (SawRestIdle n) w.pos.recent) i);
      saw_clear = put core.saw_clear s (fun_ext (λ t. since-with (SawClear t) (Claimed t) (SawRestIdle n) w.pos.recent) i);
      has_stored = put core.has_stored s (fun_ext (λ t. since-with (StoredWord t) (TookTask t) (SawRestIdle n) w.pos.recent) i);
      saw_rest = put core.saw_rest s (fun_ext (λ t. since-with (SawRest t) (Renewed t) (SawRestIdle n) w.pos.recent) i);
      saw_rest_off = put core.saw_rest_off s (fun_ext (λ t. since-with (SawRestOff t) (Renewed t) (SawRestIdle n) w.pos.recent) i);
      saw_rest_idle = put core.saw_rest_idle s (fun_ext (λ t. since-with (SawRestIdle t) (Renewed t) (SawRestIdle n) w.pos.recent) i);
      has_slept = put core.has_slept s (fun_ext (λ t. since-with (Slept t) (Picked t) (SawRestIdle n) w.pos.recent) i);
      is_requeued = put core.is_requeued s (fun_ext (λ t. since-with (Queued t) (Dequeued t) (SawRestIdle n) w.pos.recent) i);
      saw_idle = put core.saw_idle s (fun_ext (λ c. fun_ext (λ t. since-with (SawClear t) (TookQueue c) (SawRestIdle n) w.pos.recent)) i);
      has_added = put core.has_added s (fun_ext (λ c. fun_ext (λ t. since-with (Queued t) (TookQueue c) (SawRestIdle n) w.pos.recent)) i);
      has_dropped = put core.has_dropped s (fun_ext (λ c. fun_ext (λ t. since-with (Dequeued t) (TookQueue c) (SawRestIdle n) w.pos.recent)) i);
      has_passed = put core.has_passed s (fun_ext (λ k. fun_ext (λ t. since-with (Passed t) (TookWait k) (SawRestIdle n) w.pos.recent)) i);
      has_own_stored = put core.has_own_stored s (fun_ext (λ k. fun_ext (λ t. since-with (OwnStored t) (TookWait k) (SawRestIdle n) w.pos.recent)) i);
      has_slept_in = put core.has_slept_in s (fun_ext (λ k. fun_ext (λ t. since-with (Slept t) (TookWait k) (SawRestIdle n) w.pos.recent)) i);
      owes_walk = put core.owes_walk s (fun_ext (λ k. since-with (Bumped k) (Walked k) (SawRestIdle n) w.pos.recent) i);
      has_retaken = put core.has_retaken s (fun_ext (λ k. since-with (TookWait k) (Bumped k) (SawRestIdle n) w.pos.recent) i);
    }

row-TookQueue : (core : Columns) (s : ℕ) (w : SeatCore) (n : ℕ)
    → with_seat core s (record w { pos = record w.pos { recent = with_act w.pos.recent (TookQueue n) } })
    ≡ record (with_seat core s w) {
      saw_idle = put core.saw_idle s (λ c t. if c == n then false else saw_idle_of w c t);
      has_added = put core.has_added s (λ c t. if c == n then false else has_added_of w c t);
      has_dropped = put core.has_dropped s (λ c t. if c == n then false else has_dropped_of w c t);
    }
row-TookQueue core s w n =
    λ i. record (with_seat core s w) {
      has_matched = put core.has_matched s (fun_ext (λ t. since-with (Matched t) (TookTask t) (TookQueue n) w.pos.recent) i);
      is_unstored = put core.is_unstored s (fun_ext (λ t. since-with (Matched t) (Renewed t) (TookQueue n) w.pos.recent) i);
      saw_off = put core.saw_off s (fun_ext (λ t. since-with (SawOff t) (Renewed t) (TookQueue n) w.pos.recent) i);
      is_claimed = put core.is_claimed s (fun_ext (λ t. since-with (Claimed t) (Queued t) (TookQueue n) w.pos.recent) i);
      saw_clear = put core.saw_clear s (fun_ext (λ t. since-with (SawClear t) (Claimed t) (TookQueue n) w.pos.recent) i);
      has_stored = put core.has_stored s (fun_ext (λ t. since-with (StoredWord t) (TookTask t) (TookQueue n) w.pos.recent) i);
      saw_rest = put core.saw_rest s (fun_ext (λ t. since-with (SawRest t) (Renewed t) (TookQueue n) w.pos.recent) i);
      saw_rest_off = put core.saw_rest_off s (fun_ext (λ t. since-with (SawRestOff t) (Renewed t) (TookQueue n) w.pos.recent) i);
      saw_rest_idle = put core.saw_rest_idle s (fun_ext (λ t. since-with (SawRestIdle t) (Renewed t) (TookQueue n) w.pos.recent) i);
      has_slept = put core.has_slept s (fun_ext (λ t. since-with (Slept t) (Picked t) (TookQueue n) w.pos.recent) i);
      is_requeued = put core.is_requeued s (fun_ext (λ t. since-with (Queued t) (Dequeued t) (TookQueue n) w.pos.recent) i);
      saw_idle = put core.saw_idle s (fun_ext (λ c. fun_ext (λ t. since-with (SawClear t) (TookQueue c) (TookQueue n) w.pos.recent)) i);
      has_added = put core.has_added s (fun_ext (λ c. fun_ext (λ t. since-with (Queued t) (TookQueue c) (TookQueue n) w.pos.recent)) i);
      has_dropped = put core.has_dropped s (fun_ext (λ c. fun_ext (λ t. since-with (Dequeued t) (TookQueue c) (TookQueue n) w.pos.recent)) i);
      has_passed = put core.has_passed s (fun_ext (λ k. fun_ext (λ t. since-with (Passed t) (TookWait k) (TookQueue n) w.pos.recent)) i);
      has_own_stored = put core.has_own_stored s (fun_ext (λ k. fun_ext (λ t. since-with (OwnStored t) (TookWait k) (TookQueue n) w.pos.recent)) i);
      has_slept_in = put core.has_slept_in s (fun_ext (λ k. fun_ext (λ t. since-with (Slept t) (TookWait k) (TookQueue n) w.pos.recent)) i);
      owes_walk = put core.owes_walk s (fun_ext (λ k. since-with (Bumped k) (Walked k) (TookQueue n) w.pos.recent) i);
      has_retaken = put core.has_retaken s (fun_ext (λ k. since-with (TookWait k) (Bumped k) (TookQueue n) w.pos.recent) i);
    }

row-Queued : (core : Columns) (s : ℕ) (w : SeatCore) (n : ℕ) → with_seat core s (record w { pos = record w.pos { recent = with_act w.pos.recent (Queued n) } })
    ≡ record (with_seat core s w) {
      is_claimed = put core.is_claimed s (λ t. if t == n then false else is_claimed_of w t);
      is_requeued = put core.is_requeued s (λ t. if t == n then true else is_requeued_of w t);
      has_added = put core.has_added s (λ c t. if t == n then true else has_added_of w c t);
    }
row-Queued core s w n =
    λ i. record (with_seat core s w) {
      has_matched = put core.has_matched s (fun_ext (λ t. since-with (Matched t) (TookTask t) (Queued n) w.pos.recent) i);
      is_unstored = put core.is_unstored s (fun_ext (λ t. since-with (Matched t) (Renewed t) (Queued n) w.pos.recent) i);
      saw_off = put core.saw_off s (fun_ext (λ t. since-with (SawOff t) (Renewed t) (Queued n) w.pos.recent) i);
      is_claimed = put core.is_claimed s (fun_ext (λ t. since-with (Claimed t) (Queued t) (Queued n) w.pos.recent) i);
      saw_clear = put core.saw_clear s (fun_ext (λ t. since-with (SawClear t) (Claimed t) (Queued n) w.pos.recent) i);
      has_stored = put core.has_stored s (fun_ext (λ t. since-with (StoredWord t) (TookTask t) (Queued n) w.pos.recent) i);
      saw_rest = put core.saw_rest s (fun_ext (λ t. since-with (SawRest t) (Renewed t) (Queued n) w.pos.recent) i);
      saw_rest_off = put core.saw_rest_off s (fun_ext (λ t. since-with (SawRestOff t) (Renewed t) (Queued n) w.pos.recent) i);
      saw_rest_idle = put core.saw_rest_idle s (fun_ext (λ t. since-with (SawRestIdle t) (Renewed t) (Queued n) w.pos.recent) i);
      has_slept = put core.has_slept s (fun_ext (λ t. since-with (Slept t) (Picked t) (Queued n) w.pos.recent) i);
      is_requeued = put core.is_requeued s (fun_ext (λ t. since-with (Queued t) (Dequeued t) (Queued n) w.pos.recent) i);
      saw_idle = put core.saw_idle s (fun_ext (λ c. fun_ext (λ t. since-with (SawClear t) (TookQueue c) (Queued n) w.pos.recent)) i);
      has_added = put core.has_added s (fun_ext (λ c. fun_ext (λ t. since-with (Queued t) (TookQueue c) (Queued n) w.pos.recent)) i);
      has_dropped = put core.has_dropped s (fun_ext (λ c. fun_ext (λ t. since-with (Dequeued t) (TookQueue c) (Queued n) w.pos.recent)) i);
      has_passed = put core.has_passed s (fun_ext (λ k. fun_ext (λ t. since-with (Passed t) (TookWait k) (Queued n) w.pos.recent)) i);
      has_own_stored = put core.has_own_stored s (fun_ext (λ k. fun_ext (λ t. since-with (OwnStored t) (TookWait k) (Queued n) w.pos.recent)) i);
      has_slept_in = put core.has_slept_in s (fun_ext (λ k. fun_ext (λ t. since-with (Slept t) (TookWait k) (Queued n) w.pos.recent)) i);
      owes_walk = put core.owes_walk s (fun_ext (λ k. since-with (Bumped k) (Walked k) (Queued n) w.pos.recent) i);
      has_retaken = put core.has_retaken s (fun_ext (λ k. since-with (TookWait k) (Bumped k) (Queued n) w.pos.recent) i);
    }

row-Dequeued : (core : Columns) (s : ℕ) (w : SeatCore) (n : ℕ) → with_seat core s (record w { pos = record w.pos { recent = with_act w.pos.recent (Dequeued n) } })
    ≡ record (with_seat core s w) {
      is_requeued = put core.is_requeued s (λ t. if t == n then false else is_requeued_of w t);
      has_dropped = put core.has_dropped s (λ c t. if t == n then true else has_dropped_of w c t);
    }
row-Dequeued core s w n =
    λ i. record (with_seat core s w) {
      has_matched = put core.has_matched s (fun_ext (λ t. since-with (Matched t) (TookTask t) (Dequeued n) w.pos.recent) i);
      is_unstored = put core.is_unstored s (fun_ext (λ t. since-with (Matched t) (Renewed t) (Dequeued n) w.pos.recent) i);
      saw_off = put core.saw_off s (fun_ext (λ t. since-with (SawOff t) (Renewed t) (Dequeued n) w.pos.recent) i);
      is_claimed = put core.is_claimed s (fun_ext (λ t. since-with (Claimed t) (Queued t) (Dequeued n) w.pos.recent) i);
      saw_clear = put core.saw_clear s (fun_ext (λ t. since-with (SawClear t) (Claimed t) (Dequeued n) w.pos.recent) i);
      has_stored = put core.has_stored s (fun_ext (λ t. since-with (StoredWord t) (TookTask t) (Dequeued n) w.pos.recent) i);
      saw_rest = put core.saw_rest s (fun_ext (λ t. since-with (SawRest t) (Renewed t) (Dequeued n) w.pos.recent) i);
      saw_rest_off = put core.saw_rest_off s (fun_ext (λ t. since-with (SawRestOff t) (Renewed t) (Dequeued n) w.pos.recent) i);
      saw_rest_idle = put core.saw_rest_idle s (fun_ext (λ t. since-with (SawRestIdle t) (Renewed t) (Dequeued n) w.pos.recent) i);
      has_slept = put core.has_slept s (fun_ext (λ t. since-with (Slept t) (Picked t) (Dequeued n) w.pos.recent) i);
      is_requeued = put core.is_requeued s (fun_ext (λ t. since-with (Queued t) (Dequeued t) (Dequeued n) w.pos.recent) i);
      saw_idle = put core.saw_idle s (fun_ext (λ c. fun_ext (λ t. since-with (SawClear t) (TookQueue c) (Dequeued n) w.pos.recent)) i);
      has_added = put core.has_added s (fun_ext (λ c. fun_ext (λ t. since-with (Queued t) (TookQueue c) (Dequeued n) w.pos.recent)) i);
      has_dropped = put core.has_dropped s (fun_ext (λ c. fun_ext (λ t. since-with (Dequeued t) (TookQueue c) (Dequeued n) w.pos.recent)) i);
      has_passed = put core.has_passed s (fun_ext (λ k. fun_ext (λ t. since-with (Passed t) (TookWait k) (Dequeued n) w.pos.recent)) i);
      has_own_stored = put core.has_own_stored s (fun_ext (λ k. fun_ext (λ t. since-with (OwnStored t) (TookWait k) (Dequeued n) w.pos.recent)) i);
      has_slept_in = put core.has_slept_in s (fun_ext (λ k. fun_ext (λ t. since-with (Slept t) (TookWait k) (Dequeued n) w.pos.recent)) i);
      owes_walk = put core.owes_walk s (fun_ext (λ k. since-with (Bumped k) (Walked k) (Dequeued n) w.pos.recent) i);
      has_retaken = put core.has_retaken s (fun_ext (λ k. since-with (TookWait k) (Bumped k) (Dequeued n) w.pos.recent) i);
    }

row-Picked : (core : Columns) (s : ℕ) (w : SeatCore) (n : ℕ) → with_seat core s (record w { pos = record w.pos { recent = with_act w.pos.recent (Picked n) } })
    ≡ record (with_seat core s w) { has_slept = put core.has_slept s (λ t. if t == n then false else has_slept_of w t) }
row-Picked core s w n =
    λ i. record (with_seat core s w) {
      has_matched = put core.has_matched s (fun_ext (λ t. since-with (Matched t) (TookTask t) (Picked n) w.pos.recent) i);
      is_unstored = put core.is_unstored s (fun_ext (λ t. since-with (Matched t) (Renewed t) (Picked n) w.pos.recent) i);
      saw_off = put core.saw_off s (fun_ext (λ t. since-with (SawOff t) (Renewed t) (Picked n) w.pos.recent) i);
      is_claimed = put core.is_claimed s (fun_ext (λ t. since-with (Claimed t) (Queued t) (Picked n) w.pos.recent) i);
      saw_clear = put core.saw_clear s (fun_ext (λ t. since-with (SawClear t) (Claimed t) (Picked n) w.pos.recent) i);
      has_stored = put core.has_stored s (fun_ext (λ t. since-with (StoredWord t) (TookTask t) (Picked n) w.pos.recent) i);
      saw_rest = put core.saw_rest s (fun_ext (λ t. since-with (SawRest t) (Renewed t) (Picked n) w.pos.recent) i);
      saw_rest_off = put core.saw_rest_off s (fun_ext (λ t. since-with (SawRestOff t) (Renewed t) (Picked n) w.pos.recent) i);
      saw_rest_idle = put core.saw_rest_idle s (fun_ext (λ t. since-with (SawRestIdle t) (Renewed t) (Picked n) w.pos.recent) i);
      has_slept = put core.has_slept s (fun_ext (λ t. since-with (Slept t) (Picked t) (Picked n) w.pos.recent) i);
      is_requeued = put core.is_requeued s (fun_ext (λ t. since-with (Queued t) (Dequeued t) (Picked n) w.pos.recent) i);
      saw_idle = put core.saw_idle s (fun_ext (λ c. fun_ext (λ t. since-with (SawClear t) (TookQueue c) (Picked n) w.pos.recent)) i);
      has_added = put core.has_added s (fun_ext (λ c. fun_ext (λ t. since-with (Queued t) (TookQueue c) (Picked n) w.pos.recent)) i);
      has_dropped = put core.has_dropped s (fun_ext (λ c. fun_ext (λ t. since-with (Dequeued t) (TookQueue c) (Picked n) w.pos.recent)) i);
      has_passed = put core.has_passed s (fun_ext (λ k. fun_ext (λ t. since-with (Passed t) (TookWait k) (Picked n) w.pos.recent)) i);
      has_own_stored = put core.has_own_stored s (fun_ext (λ k. fun_ext (λ t. since-with (OwnStored t) (TookWait k) (Picked n) w.pos.recent)) i);
      has_slept_in = put core.has_slept_in s (fun_ext (λ k. fun_ext (λ t. since-with (Slept t) (TookWait k) (Picked n) w.pos.recent)) i);
      owes_walk = put core.owes_walk s (fun_ext (λ k. since-with (Bumped k) (Walked k) (Picked n) w.pos.recent) i);
      has_retaken = put core.has_retaken s (fun_ext (λ k. since-with (TookWait k) (Bumped k) (Picked n) w.pos.recent) i);
    }

row-TookWait : (core : Columns) (s : ℕ) (w : SeatCore) (n : ℕ) → with_seat core s (record w { pos = record w.pos { recent = with_act w.pos.recent (TookWait n) } })
    ≡ record (with_seat core s w) {
      has_passed = put core.has_passed s (λ k t. if k == n then false else has_passed_of w k t);
      has_own_stored = put core.has_own_stored s (λ k t. if k == n then false else has_own_stored_of w k t);
      has_slept_in = put core.has_slept_in s (λ k t. if k == n then false else has_slept_in_of w k t);
      has_retaken = put core.has_retaken s (λ k. if k == n then true else has_retaken_of w k);
    }
row-TookWait core s w n =
    λ i. record (with_seat core s w) {
      has_matched = put core.has_matched s (fun_ext (λ t. since-with (Matched t) (TookTask t) (TookWait n) w.pos.recent) i);
      is_unstored = put core.is_unstored s (fun_ext (λ t. since-with (Matched t) (Renewed t) (TookWait n) w.pos.recent) i);
      saw_off = put core.saw_off s (fun_ext (λ t. since-with (SawOff t) (Renewed t) (TookWait n) w.pos.recent) i);
      is_claimed = put core.is_claimed s (fun_ext (λ t. since-with (Claimed t) (Queued t) (TookWait n) w.pos.recent) i);
      saw_clear = put core.saw_clear s (fun_ext (λ t. since-with (SawClear t) (Claimed t) (TookWait n) w.pos.recent) i);
      has_stored = put core.has_stored s (fun_ext (λ t. since-with (StoredWord t) (TookTask t) (TookWait n) w.pos.recent) i);
      saw_rest = put core.saw_rest s (fun_ext (λ t. since-with (SawRest t) (Renewed t) (TookWait n) w.pos.recent) i);
      saw_rest_off = put core.saw_rest_off s (fun_ext (λ t. since-with (SawRestOff t) (Renewed t) (TookWait n) w.pos.recent) i);
      saw_rest_idle = put core.saw_rest_idle s (fun_ext (λ t. since-with (SawRestIdle t) (Renewed t) (TookWait n) w.pos.recent) i);
      has_slept = put core.has_slept s (fun_ext (λ t. since-with (Slept t) (Picked t) (TookWait n) w.pos.recent) i);
      is_requeued = put core.is_requeued s (fun_ext (λ t. since-with (Queued t) (Dequeued t) (TookWait n) w.pos.recent) i);
      saw_idle = put core.saw_idle s (fun_ext (λ c. fun_ext (λ t. since-with (SawClear t) (TookQueue c) (TookWait n) w.pos.recent)) i);
      has_added = put core.has_added s (fun_ext (λ c. fun_ext (λ t. since-with (Queued t) (TookQueue c) (TookWait n) w.pos.recent)) i);
      has_dropped = put core.has_dropped s (fun_ext (λ c. fun_ext (λ t. since-with (Dequeued t) (TookQueue c) (TookWait n) w.pos.recent)) i);
      has_passed = put core.has_passed s (fun_ext (λ k. fun_ext (λ t. since-with (Passed t) (TookWait k) (TookWait n) w.pos.recent)) i);
      has_own_stored = put core.has_own_stored s (fun_ext (λ k. fun_ext (λ t. since-with (OwnStored t) (TookWait k) (TookWait n) w.pos.recent)) i);
      has_slept_in = put core.has_slept_in s (fun_ext (λ k. fun_ext (λ t. since-with (Slept t) (TookWait k) (TookWait n) w.pos.recent)) i);
      owes_walk = put core.owes_walk s (fun_ext (λ k. since-with (Bumped k) (Walked k) (TookWait n) w.pos.recent) i);
      has_retaken = put core.has_retaken s (fun_ext (λ k. since-with (TookWait k) (Bumped k) (TookWait n) w.pos.recent) i);
    }

row-OwnStored : (core : Columns) (s : ℕ) (w : SeatCore) (n : ℕ)
    → with_seat core s (record w { pos = record w.pos { recent = with_act w.pos.recent (OwnStored n) } })
    ≡ record (with_seat core s w) { has_own_stored = put core.has_own_stored s (λ k t. if t == n then true else has_own_stored_of w k t) }
row-OwnStored core s w n =
    λ i. record (with_seat core s w) {
      has_matched = put core.has_matched s (fun_ext (λ t. since-with (Matched t) (TookTask t) (OwnStored n) w.pos.recent) i);
      is_unstored = put core.is_unstored s (fun_ext (λ t. since-with (Matched t) (Renewed t) (OwnStored n) w.pos.recent) i);
      saw_off = put core.saw_off s (fun_ext (λ t. since-with (SawOff t) (Renewed t) (OwnStored n) w.pos.recent) i);
      is_claimed = put core.is_claimed s (fun_ext (λ t. since-with (Claimed t) (Queued t) (OwnStored n) w.pos.recent) i);
      saw_clear = put core.saw_clear s (fun_ext (λ t. since-with (SawClear t) (Claimed t) (OwnStored n) w.pos.recent) i);
      has_stored = put core.has_stored s (fun_ext (λ t. since-with (StoredWord t) (TookTask t) (OwnStored n) w.pos.recent) i);
      saw_rest = put core.saw_rest s (fun_ext (λ t. since-with (SawRest t) (Renewed t) (OwnStored n) w.pos.recent) i);
      saw_rest_off = put core.saw_rest_off s (fun_ext (λ t. since-with (SawRestOff t) (Renewed t) (OwnStored n) w.pos.recent) i);
      saw_rest_idle = put core.saw_rest_idle s (fun_ext (λ t. since-with (SawRestIdle t) (Renewed t) (OwnStored n) w.pos.recent) i);
      has_slept = put core.has_slept s (fun_ext (λ t. since-with (Slept t) (Picked t) (OwnStored n) w.pos.recent) i);
      is_requeued = put core.is_requeued s (fun_ext (λ t. since-with (Queued t) (Dequeued t) (OwnStored n) w.pos.recent) i);
      saw_idle = put core.saw_idle s (fun_ext (λ c. fun_ext (λ t. since-with (SawClear t) (TookQueue c) (OwnStored n) w.pos.recent)) i);
      has_added = put core.has_added s (fun_ext (λ c. fun_ext (λ t. since-with (Queued t) (TookQueue c) (OwnStored n) w.pos.recent)) i);
      has_dropped = put core.has_dropped s (fun_ext (λ c. fun_ext (λ t. since-with (Dequeued t) (TookQueue c) (OwnStored n) w.pos.recent)) i);
      has_passed = put core.has_passed s (fun_ext (λ k. fun_ext (λ t. since-with (Passed t) (TookWait k) (OwnStored n) w.pos.recent)) i);
      has_own_stored = put core.has_own_stored s (fun_ext (λ k. fun_ext (λ t. since-with (OwnStored t) (TookWait k) (OwnStored n) w.pos.recent)) i);
      has_slept_in = put core.has_slept_in s (fun_ext (λ k. fun_ext (λ t. since-with (Slept t) (TookWait k) (OwnStored n) w.pos.recent)) i);
      owes_walk = put core.owes_walk s (fun_ext (λ k. since-with (Bumped k) (Walked k) (OwnStored n) w.pos.recent) i);
      has_retaken = put core.has_retaken s (fun_ext (λ k. since-with (TookWait k) (Bumped k) (OwnStored n) w.pos.recent) i);
    }

row-Slept : (core : Columns) (s : ℕ) (w : SeatCore) (n : ℕ) → with_seat core s (record w { pos = record w.pos { recent = with_act w.pos.recent (Slept n) } })
    ≡ record (with_seat core s w) {
      has_slept = put core.has_slept s (λ t. if t == n then true else has_slept_of w t);
      has_slept_in = put core.has_slept_in s (λ k t. if t == n then true else has_slept_in_of w k t);
    }
row-Slept core s w n =
    λ i. record (with_seat core s w) {
      has_matched = put core.has_matched s (fun_ext (λ t. since-with (Matched t) (TookTask t) (Slept n) w.pos.recent) i);
      is_unstored = put core.is_unstored s (fun_ext (λ t. since-with (Matched t) (Renewed t) (Slept n) w.pos.recent) i);
      saw_off = put core.saw_off s (fun_ext (λ t. since-with (SawOff t) (Renewed t) (Slept n) w.pos.recent) i);
      is_claimed = put core.is_claimed s (fun_ext (λ t. since-with (Claimed t) (Queued t) (Slept n) w.pos.recent) i);
      saw_clear = put core.saw_clear s (fun_ext (λ t. since-with (SawClear t) (Claimed t) (Slept n) w.pos.recent) i);
      has_stored = put core.has_stored s (fun_ext (λ t. since-with (StoredWord t) (TookTask t) (Slept n) w.pos.recent) i);
      saw_rest = put core.saw_rest s (fun_ext (λ t. since-with (SawRest t) (Renewed t) (Slept n) w.pos.recent) i);
      saw_rest_off = put core.saw_rest_off s (fun_ext (λ t. since-with (SawRestOff t) (Renewed t) (Slept n) w.pos.recent) i);
      saw_rest_idle = put core.saw_rest_idle s (fun_ext (λ t. since-with (SawRestIdle t) (Renewed t) (Slept n) w.pos.recent) i);
      has_slept = put core.has_slept s (fun_ext (λ t. since-with (Slept t) (Picked t) (Slept n) w.pos.recent) i);
      is_requeued = put core.is_requeued s (fun_ext (λ t. since-with (Queued t) (Dequeued t) (Slept n) w.pos.recent) i);
      saw_idle = put core.saw_idle s (fun_ext (λ c. fun_ext (λ t. since-with (SawClear t) (TookQueue c) (Slept n) w.pos.recent)) i);
      has_added = put core.has_added s (fun_ext (λ c. fun_ext (λ t. since-with (Queued t) (TookQueue c) (Slept n) w.pos.recent)) i);
      has_dropped = put core.has_dropped s (fun_ext (λ c. fun_ext (λ t. since-with (Dequeued t) (TookQueue c) (Slept n) w.pos.recent)) i);
      has_passed = put core.has_passed s (fun_ext (λ k. fun_ext (λ t. since-with (Passed t) (TookWait k) (Slept n) w.pos.recent)) i);
      has_own_stored = put core.has_own_stored s (fun_ext (λ k. fun_ext (λ t. since-with (OwnStored t) (TookWait k) (Slept n) w.pos.recent)) i);
      has_slept_in = put core.has_slept_in s (fun_ext (λ k. fun_ext (λ t. since-with (Slept t) (TookWait k) (Slept n) w.pos.recent)) i);
      owes_walk = put core.owes_walk s (fun_ext (λ k. since-with (Bumped k) (Walked k) (Slept n) w.pos.recent) i);
      has_retaken = put core.has_retaken s (fun_ext (λ k. since-with (TookWait k) (Bumped k) (Slept n) w.pos.recent) i);
    }

row-Passed : (core : Columns) (s : ℕ) (w : SeatCore) (n : ℕ) → with_seat core s (record w { pos = record w.pos { recent = with_act w.pos.recent (Passed n) } })
    ≡ record (with_seat core s w) { has_passed = put core.has_passed s (λ k t. if t == n then true else has_passed_of w k t) }
row-Passed core s w n =
    λ i. record (with_seat core s w) {
      has_matched = put core.has_matched s (fun_ext (λ t. since-with (Matched t) (TookTask t) (Passed n) w.pos.recent) i);
      is_unstored = put core.is_unstored s (fun_ext (λ t. since-with (Matched t) (Renewed t) (Passed n) w.pos.recent) i);
      saw_off = put core.saw_off s (fun_ext (λ t. since-with (SawOff t) (Renewed t) (Passed n) w.pos.recent) i);
      is_claimed = put core.is_claimed s (fun_ext (λ t. since-with (Claimed t) (Queued t) (Passed n) w.pos.recent) i);
      saw_clear = put core.saw_clear s (fun_ext (λ t. since-with (SawClear t) (Claimed t) (Passed n) w.pos.recent) i);
      has_stored = put core.has_stored s (fun_ext (λ t. since-with (StoredWord t) (TookTask t) (Passed n) w.pos.recent) i);
      saw_rest = put core.saw_rest s (fun_ext (λ t. since-with (SawRest t) (Renewed t) (Passed n) w.pos.recent) i);
      saw_rest_off = put core.saw_rest_off s (fun_ext (λ t. since-with (SawRestOff t) (Renewed t) (Passed n) w.pos.recent) i);
      saw_rest_idle = put core.saw_rest_idle s (fun_ext (λ t. since-with (SawRestIdle t) (Renewed t) (Passed n) w.pos.recent) i);
      has_slept = put core.has_slept s (fun_ext (λ t. since-with (Slept t) (Picked t) (Passed n) w.pos.recent) i);
      is_requeued = put core.is_requeued s (fun_ext (λ t. since-with (Queued t) (Dequeued t) (Passed n) w.pos.recent) i);
      saw_idle = put core.saw_idle s (fun_ext (λ c. fun_ext (λ t. since-with (SawClear t) (TookQueue c) (Passed n) w.pos.recent)) i);
      has_added = put core.has_added s (fun_ext (λ c. fun_ext (λ t. since-with (Queued t) (TookQueue c) (Passed n) w.pos.recent)) i);
      has_dropped = put core.has_dropped s (fun_ext (λ c. fun_ext (λ t. since-with (Dequeued t) (TookQueue c) (Passed n) w.pos.recent)) i);
      has_passed = put core.has_passed s (fun_ext (λ k. fun_ext (λ t. since-with (Passed t) (TookWait k) (Passed n) w.pos.recent)) i);
      has_own_stored = put core.has_own_stored s (fun_ext (λ k. fun_ext (λ t. since-with (OwnStored t) (TookWait k) (Passed n) w.pos.recent)) i);
      has_slept_in = put core.has_slept_in s (fun_ext (λ k. fun_ext (λ t. since-with (Slept t) (TookWait k) (Passed n) w.pos.recent)) i);
      owes_walk = put core.owes_walk s (fun_ext (λ k. since-with (Bumped k) (Walked k) (Passed n) w.pos.recent) i);
      has_retaken = put core.has_retaken s (fun_ext (λ k. since-with (TookWait k) (Bumped k) (Passed n) w.pos.recent) i);
    }

row-Bumped : (core : Columns) (s : ℕ) (w : SeatCore) (n : ℕ) → with_seat core s (record w { pos = record w.pos { recent = with_act w.pos.recent (Bumped n) } })
    ≡ record (with_seat core s w) {
      owes_walk = put core.owes_walk s (λ k. if k == n then true else owes_walk_of w k);
      has_retaken = put core.has_retaken s (λ k. if k == n then false else has_retaken_of w k);
    }
row-Bumped core s w n =
    λ i. record (with_seat core s w) {
      has_matched = put core.has_matched s (fun_ext (λ t. since-with (Matched t) (TookTask t) (Bumped n) w.pos.recent) i);
      is_unstored = put core.is_unstored s (fun_ext (λ t. since-with (Matched t) (Renewed t) (Bumped n) w.pos.recent) i);
      saw_off = put core.saw_off s (fun_ext (λ t. since-with (SawOff t) (Renewed t) (Bumped n) w.pos.recent) i);
      is_claimed = put core.is_claimed s (fun_ext (λ t. since-with (Claimed t) (Queued t) (Bumped n) w.pos.recent) i);
      saw_clear = put core.saw_clear s (fun_ext (λ t. since-with (SawClear t) (Claimed t) (Bumped n) w.pos.recent) i);
      has_stored = put core.has_stored s (fun_ext (λ t. since-with (StoredWord t) (TookTask t) (Bumped n) w.pos.recent) i);
      saw_rest = put core.saw_rest s (fun_ext (λ t. since-with (SawRest t) (Renewed t) (Bumped n) w.pos.recent) i);
      saw_rest_off = put core.saw_rest_off s (fun_ext (λ t. since-with (SawRestOff t) (Renewed t) (Bumped n) w.pos.recent) i);
      saw_rest_idle = put core.saw_rest_idle s (fun_ext (λ t. since-with (SawRestIdle t) (Renewed t) (Bumped n) w.pos.recent) i);
      has_slept = put core.has_slept s (fun_ext (λ t. since-with (Slept t) (Picked t) (Bumped n) w.pos.recent) i);
      is_requeued = put core.is_requeued s (fun_ext (λ t. since-with (Queued t) (Dequeued t) (Bumped n) w.pos.recent) i);
      saw_idle = put core.saw_idle s (fun_ext (λ c. fun_ext (λ t. since-with (SawClear t) (TookQueue c) (Bumped n) w.pos.recent)) i);
      has_added = put core.has_added s (fun_ext (λ c. fun_ext (λ t. since-with (Queued t) (TookQueue c) (Bumped n) w.pos.recent)) i);
      has_dropped = put core.has_dropped s (fun_ext (λ c. fun_ext (λ t. since-with (Dequeued t) (TookQueue c) (Bumped n) w.pos.recent)) i);
      has_passed = put core.has_passed s (fun_ext (λ k. fun_ext (λ t. since-with (Passed t) (TookWait k) (Bumped n) w.pos.recent)) i);
      has_own_stored = put core.has_own_stored s (fun_ext (λ k. fun_ext (λ t. since-with (OwnStored t) (TookWait k) (Bumped n) w.pos.recent)) i);
      has_slept_in = put core.has_slept_in s (fun_ext (λ k. fun_ext (λ t. since-with (Slept t) (TookWait k) (Bumped n) w.pos.recent)) i);
      owes_walk = put core.owes_walk s (fun_ext (λ k. since-with (Bumped k) (Walked k) (Bumped n) w.pos.recent) i);
      has_retaken = put core.has_retaken s (fun_ext (λ k. since-with (TookWait k) (Bumped k) (Bumped n) w.pos.recent) i);
    }

row-Walked : (core : Columns) (s : ℕ) (w : SeatCore) (n : ℕ) → with_seat core s (record w { pos = record w.pos { recent = with_act w.pos.recent (Walked n) } })
    ≡ record (with_seat core s w) { owes_walk = put core.owes_walk s (λ k. if k == n then false else owes_walk_of w k) }
row-Walked core s w n =
    λ i. record (with_seat core s w) {
      has_matched = put core.has_matched s (fun_ext (λ t. since-with (Matched t) (TookTask t) (Walked n) w.pos.recent) i);
      is_unstored = put core.is_unstored s (fun_ext (λ t. since-with (Matched t) (Renewed t) (Walked n) w.pos.recent) i);
      saw_off = put core.saw_off s (fun_ext (λ t. since-with (SawOff t) (Renewed t) (Walked n) w.pos.recent) i);
      is_claimed = put core.is_claimed s (fun_ext (λ t. since-with (Claimed t) (Queued t) (Walked n) w.pos.recent) i);
      saw_clear = put core.saw_clear s (fun_ext (λ t. since-with (SawClear t) (Claimed t) (Walked n) w.pos.recent) i);
      has_stored = put core.has_stored s (fun_ext (λ t. since-with (StoredWord t) (TookTask t) (Walked n) w.pos.recent) i);
      saw_rest = put core.saw_rest s (fun_ext (λ t. since-with (SawRest t) (Renewed t) (Walked n) w.pos.recent) i);
      saw_rest_off = put core.saw_rest_off s (fun_ext (λ t. since-with (SawRestOff t) (Renewed t) (Walked n) w.pos.recent) i);
      saw_rest_idle = put core.saw_rest_idle s (fun_ext (λ t. since-with (SawRestIdle t) (Renewed t) (Walked n) w.pos.recent) i);
      has_slept = put core.has_slept s (fun_ext (λ t. since-with (Slept t) (Picked t) (Walked n) w.pos.recent) i);
      is_requeued = put core.is_requeued s (fun_ext (λ t. since-with (Queued t) (Dequeued t) (Walked n) w.pos.recent) i);
      saw_idle = put core.saw_idle s (fun_ext (λ c. fun_ext (λ t. since-with (SawClear t) (TookQueue c) (Walked n) w.pos.recent)) i);
      has_added = put core.has_added s (fun_ext (λ c. fun_ext (λ t. since-with (Queued t) (TookQueue c) (Walked n) w.pos.recent)) i);
      has_dropped = put core.has_dropped s (fun_ext (λ c. fun_ext (λ t. since-with (Dequeued t) (TookQueue c) (Walked n) w.pos.recent)) i);
      has_passed = put core.has_passed s (fun_ext (λ k. fun_ext (λ t. since-with (Passed t) (TookWait k) (Walked n) w.pos.recent)) i);
      has_own_stored = put core.has_own_stored s (fun_ext (λ k. fun_ext (λ t. since-with (OwnStored t) (TookWait k) (Walked n) w.pos.recent)) i);
      has_slept_in = put core.has_slept_in s (fun_ext (λ k. fun_ext (λ t. since-with (Slept t) (TookWait k) (Walked n) w.pos.recent)) i);
      owes_walk = put core.owes_walk s (fun_ext (λ k. since-with (Bumped k) (Walked k) (Walked n) w.pos.recent) i);
      has_retaken = put core.has_retaken s (fun_ext (λ k. since-with (TookWait k) (Bumped k) (Walked n) w.pos.recent) i);
    }

noted_row : (core : Core) (s : ℕ) (w : SeatCore) (act : Act) → s < (columns core).seats → w ≡ get_or core.seats.items s w
    → with_seat (columns core) s (record w { pos = record w.pos { recent = with_act w.pos.recent act } }) ≡ noted (columns core) s act
noted_row core s w (TookTask n) h e =
    row-TookTask (columns core) s w n ∙ (λ i. record (same-seat core s w h e i) {
      has_matched =
          put (columns core).has_matched s (λ t. if t == n then false else sym (get-matched core s w h e) i t);
      has_stored = put (columns core).has_stored s (λ t. if t == n then false else sym (get-stored core s w h e) i t);
    })
noted_row core s w (Renewed n) h e =
    row-Renewed (columns core) s w n ∙ (λ i. record (same-seat core s w h e i) {
      is_unstored =
          put (columns core).is_unstored s (λ t. if t == n then false else sym (get-unstored core s w h e) i t);
      saw_off = put (columns core).saw_off s (λ t. if t == n then false else sym (get-saw_off core s w h e) i t);
      saw_rest = put (columns core).saw_rest s (λ t. if t == n then false else sym (get-rest_state core s w h e) i t);
      saw_rest_off = put (columns core).saw_rest_off s (λ t. if t == n then false else sym (get-rest_off core s w h e) i t);
      saw_rest_idle = put (columns core).saw_rest_idle s (λ t. if t == n then false else sym (get-rest_idle core s w h e) i t);
    })
noted_row core s w (StoredWord n) h e =
    row-StoredWord (columns core) s w n ∙ (λ i. record (same-seat core s w h e i) { has_stored = put (columns core).has_stored s (λ t. if t == n then true else sym (get-stored core s w h e) i t) })
noted_row core s w (Matched n) h e =
    row-Matched (columns core) s w n ∙ (λ i. record (same-seat core s w h e i) {
      has_matched =
          put (columns core).has_matched s (λ t. if t == n then true else sym (get-matched core s w h e) i t);
      is_unstored = put (columns core).is_unstored s (λ t. if t == n then true else sym (get-unstored core s w h e) i t);
    })
noted_row core s w (SawOff n) h e =
    row-SawOff (columns core) s w n ∙ (λ i. record (same-seat core s w h e i) { saw_off = put (columns core).saw_off s (λ t. if t == n then true else sym (get-saw_off core s w h e) i t) })
noted_row core s w (Claimed n) h e =
    row-Claimed (columns core) s w n ∙ (λ i. record (same-seat core s w h e i) {
      is_claimed =
          put (columns core).is_claimed s (λ t. if t == n then true else sym (get-claimed core s w h e) i t);
      saw_clear = put (columns core).saw_clear s (λ t. if t == n then false else sym (get-clear core s w h e) i t);
    })
noted_row core s w (SawClear n) h e =
    row-SawClear (columns core) s w n ∙ (λ i. record (same-seat core s w h e i) {
      saw_clear = put (columns core).saw_clear s (λ t. if t == n then true else sym (get-clear core s w h e) i t);
      saw_idle = put (columns core).saw_idle s (λ c t. if t == n then true else sym (get-idle core s w h e) i c t);
    })
noted_row core s w (SawRest n) h e =
    row-SawRest (columns core) s w n ∙ (λ i. record (same-seat core s w h e i) { saw_rest = put (columns core).saw_rest s (λ t. if t == n then true else sym (get-rest_state core s w h e) i t) })
noted_row core s w (SawRestOff n) h e =
    row-SawRestOff (columns core) s w n
    ∙ (λ i. record (same-seat core s w h e i) { saw_rest_off = put (columns core).saw_rest_off s (λ t. if t == n then true else sym (get-rest_off core s w h e) i t) })
noted_row core s w (SawRestIdle n) h e =
    row-SawRestIdle (columns core) s w n
    ∙ (λ i. record (same-seat core s w h e i) { saw_rest_idle = put (columns core).saw_rest_idle s (λ t. if t == n then true else sym (get-rest_idle core s w h e) i t) })
noted_row core s w (TookQueue n) h e =
    row-TookQueue (columns core) s w n ∙ (λ i. record (same-seat core s w h e i) {
      saw_idle =
          put (columns core).saw_idle s (λ c t. if c == n then false else sym (get-idle core s w h e) i c t);
      has_added = put (columns core).has_added s (λ c t. if c == n then false else sym (get-added core s w h e) i c t);
      has_dropped = put (columns core).has_dropped s (λ c t. if c == n then false else sym (get-dropped core s w h e) i c t);
    })
noted_row core s w (Queued n) h e =
    row-Queued (columns core) s w n ∙ (λ i. record (same-seat core s w h e i) {
      is_claimed =
          put (columns core).is_claimed s (λ t. if t == n then false else sym (get-claimed core s w h e) i t);
      is_requeued = put (columns core).is_requeued s (λ t. if t == n then true else sym (get-requeued core s w h e) i t);
      has_added = put (columns core).has_added s (λ c t. if t == n then true else sym (get-added core s w h e) i c t);
    })
noted_row core s w (Dequeued n) h e =
    row-Dequeued (columns core) s w n ∙ (λ i. record (same-seat core s w h e i) {
      is_requeued =
          put (columns core).is_requeued s (λ t. if t == n then false else sym (get-requeued core s w h e) i t);
      has_dropped = put (columns core).has_dropped s (λ c t. if t == n then true else sym (get-dropped core s w h e) i c t);
    })
noted_row core s w (Picked n) h e =
    row-Picked (columns core) s w n ∙ (λ i. record (same-seat core s w h e i) { has_slept = put (columns core).has_slept s (λ t. if t == n then false else sym (get-slept core s w h e) i t) })
noted_row core s w (TookWait n) h e =
    row-TookWait (columns core) s w n ∙ (λ i. record (same-seat core s w h e i) {
      has_passed =
          put (columns core).has_passed s (λ k t. if k == n then false else sym (get-passed core s w h e) i k t);
      has_own_stored = put (columns core).has_own_stored s (λ k t. if k == n then false else sym (get-own_stored core s w h e) i k t);
      has_slept_in = put (columns core).has_slept_in s (λ k t. if k == n then false else sym (get-slept_in core s w h e) i k t);
      has_retaken = put (columns core).has_retaken s (λ k. if k == n then true else sym (get-retaken core s w h e) i k);
    })
noted_row core s w (OwnStored n) h e =
    row-OwnStored (columns core) s w n
    ∙ (λ i. record (same-seat core s w h e i) { has_own_stored = put (columns core).has_own_stored s (λ k t. if t == n then true else sym (get-own_stored core s w h e) i k t) })
noted_row core s w (Slept n) h e =
    row-Slept (columns core) s w n ∙ (λ i. record (same-seat core s w h e i) {
      has_slept = put (columns core).has_slept s (λ t. if t == n then true else sym (get-slept core s w h e) i t);
      has_slept_in = put (columns core).has_slept_in s (λ k t. if t == n then true else sym (get-slept_in core s w h e) i k t);
    })
noted_row core s w (Passed n) h e =
    row-Passed (columns core) s w n ∙ (λ i. record (same-seat core s w h e i) { has_passed = put (columns core).has_passed s (λ k t. if t == n then true else sym (get-passed core s w h e) i k t) })
noted_row core s w (Bumped n) h e =
    row-Bumped (columns core) s w n ∙ (λ i. record (same-seat core s w h e i) {
      owes_walk = put (columns core).owes_walk s (λ k. if k == n then true else sym (get-owes core s w h e) i k);
      has_retaken = put (columns core).has_retaken s (λ k. if k == n then false else sym (get-retaken core s w h e) i k);
    })
noted_row core s w (Walked n) h e =
    row-Walked (columns core) s w n ∙ (λ i. record (same-seat core s w h e i) { owes_walk = put (columns core).owes_walk s (λ k. if k == n then false else sym (get-owes core s w h e) i k) })

pub note_lem : (core : Core) (k : ℕ) (w : SeatCore) (new : Position) (act : Act) → k < (columns core).seats → w ≡ get_or core.seats.items k w
    → new ≡ record w.pos { recent = with_act w.pos.recent act } → columns (record core { seats = with_item core.seats k (record w { pos = new }) }) ≡ noted (columns core) k act
note_lem core k w new act h e is =
    ap (λ x. columns (record core { seats = with_item core.seats k (record w { pos = x }) })) is
    ∙ table-seat core k (record w { pos = record w.pos { recent = with_act w.pos.recent act } }) h
    ∙ noted_row core k w act h e
