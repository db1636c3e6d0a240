-- The table with one step more in what a seat has done last.
use Rattle.std.specs.Prelude.{ℕ, ◌==◌, ◌&&◌, ◌||◌, Bool, true, false, List, Option, Some, None, if◌then◌else◌}
use mathlib.Core.Bool.{not}
use Rattle.core_data.specs.Entries.{is_gone}
use Rattle.core_data.specs.Columns.{Columns, put}
use Rattle.core_data.specs.declared.act.Act.{Act}
use Rattle.core_data.specs.declared.act.Act.TheVariants.{TookTask, Renewed, StoredWord, Matched, SawOff, Claimed}
use Rattle.core_data.specs.declared.act.Act.TheVariants.{SawClear, SawRest, SawRestOff, SawRestIdle, TookQueue, Queued}
use Rattle.core_data.specs.declared.act.Act.TheVariants.{Dequeued, Picked, TookWait, OwnStored, Slept, Passed, Bumped}
use Rattle.core_data.specs.declared.act.Act.TheVariants.{Walked}
use Rattle.core_data.specs.declared.values.WaitEntry.{WaitEntry}

abbrev pub noted : Columns → ℕ → Act → Columns
noted core s (TookTask n) =
    record core {
      has_matched = put core.has_matched s (λ t. if t == n then false else core.has_matched s t);
      has_stored = put core.has_stored s (λ t. if t == n then false else core.has_stored s t);
    }
noted core s (Renewed n) =
    record core {
      is_unstored = put core.is_unstored s (λ t. if t == n then false else core.is_unstored s t);
      saw_off = put core.saw_off s (λ t. if t == n then false else core.saw_off s t);
      saw_rest = put core.saw_rest s (λ t. if t == n then false else core.saw_rest s t);
      saw_rest_off = put core.saw_rest_off s (λ t. if t == n then false else core.saw_rest_off s t);
      saw_rest_idle = put core.saw_rest_idle s (λ t. if t == n then false else core.saw_rest_idle s t);
    }
noted core s (StoredWord n) =
    record core { has_stored = put core.has_stored s (λ t. if t == n then true else core.has_stored s t) }
noted core s (Matched n) =
    record core {
      has_matched = put core.has_matched s (λ t. if t == n then true else core.has_matched s t);
      is_unstored = put core.is_unstored s (λ t. if t == n then true else core.is_unstored s t);
    }
noted core s (SawOff n) = record core { saw_off = put core.saw_off s (λ t. if t == n then true else core.saw_off s t) }
noted core s (Claimed n) =
    record core {
      is_claimed = put core.is_claimed s (λ t. if t == n then true else core.is_claimed s t);
      saw_clear = put core.saw_clear s (λ t. if t == n then false else core.saw_clear s t);
    }
noted core s (SawClear n) =
    record core {
      saw_clear = put core.saw_clear s (λ t. if t == n then true else core.saw_clear s t);
      saw_idle = put core.saw_idle s (λ c t. if t == n then true else core.saw_idle s c t);
    }
noted core s (SawRest n) =
    record core { saw_rest = put core.saw_rest s (λ t. if t == n then true else core.saw_rest s t) }
noted core s (SawRestOff n) =
    record core { saw_rest_off = put core.saw_rest_off s (λ t. if t == n then true else core.saw_rest_off s t) }
noted core s (SawRestIdle n) =
    record core { saw_rest_idle = put core.saw_rest_idle s (λ t. if t == n then true else core.saw_rest_idle s t) }
noted core s (TookQueue n) =
    record core {
      saw_idle = put core.saw_idle s (λ c t. if c == n then false else core.saw_idle s c t);
      has_added = put core.has_added s (λ c t. if c == n then false else core.has_added s c t);
      has_dropped = put core.has_dropped s (λ c t. if c == n then false else core.has_dropped s c t);
    }
noted core s (Queued n) =
    record core {
      is_claimed = put core.is_claimed s (λ t. if t == n then false else core.is_claimed s t);
      is_requeued = put core.is_requeued s (λ t. if t == n then true else core.is_requeued s t);
      has_added = put core.has_added s (λ c t. if t == n then true else core.has_added s c t);
    }
noted core s (Dequeued n) =
    record core {
      is_requeued = put core.is_requeued s (λ t. if t == n then false else core.is_requeued s t);
      has_dropped = put core.has_dropped s (λ c t. if t == n then true else core.has_dropped s c t);
    }
noted core s (Picked n) =
    record core { has_slept = put core.has_slept s (λ t. if t == n then false else core.has_slept s t) }
noted core s (TookWait n) =
    record core {
      has_passed = put core.has_passed s (λ k t. if k == n then false else core.has_passed s k t);
      has_own_stored = put core.has_own_stored s (λ k t. if k == n then false else core.has_own_stored s k t);
      has_slept_in = put core.has_slept_in s (λ k t. if k == n then false else core.has_slept_in s k t);
      has_retaken = put core.has_retaken s (λ k. if k == n then true else core.has_retaken s k);
    }
noted core s (OwnStored n) =
    record core {
      has_own_stored = put core.has_own_stored s
          (λ k t. if t == n then true else core.has_own_stored s k t);
    }
noted core s (Slept n) =
    record core {
      has_slept = put core.has_slept s (λ t. if t == n then true else core.has_slept s t);
      has_slept_in = put core.has_slept_in s (λ k t. if t == n then true else core.has_slept_in s k t);
    }
noted core s (Passed n) =
    record core { has_passed = put core.has_passed s (λ k t. if t == n then true else core.has_passed s k t) }
noted core s (Bumped n) =
    record core {
      owes_walk = put core.owes_walk s (λ k. if k == n then true else core.owes_walk s k);
      has_retaken = put core.has_retaken s (λ k. if k == n then false else core.has_retaken s k);
    }
noted core s (Walked n) =
    record core { owes_walk = put core.owes_walk s (λ k. if k == n then false else core.owes_walk s k) }

-- who sleeps at a condition after a give of its wait queue: not those whose entry was taken out, and the sleeper
abbrev pub given_asleep : ℕ → List WaitEntry → List WaitEntry → Option ℕ → (ℕ → ℕ → Bool) → ℕ → ℕ → Bool
given_asleep l taken given None asleep t k = not ((k == l) && is_gone taken given t) && asleep t k
given_asleep l taken given (Some u) asleep t k = ((t == u) && (k == l))
    || (not ((k == l) && is_gone taken given t) && asleep t k)
