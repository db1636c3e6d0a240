-- Loads of states.
use Rattle.std.proofs.Common.{◌≡◌, ℕ, ◌==◌, ◌⊎◌, Bool, true, false, Option, None, refl}
use mathlib.Core.Bool.{not}
use Rattle.core_data.specs.Columns.{Columns, put_at}
use Rattle.core_data.specs.declared.act.Act.TheVariants.{Matched, SawRest, Passed}
use Rattle.core_invariant.specs.Invariant.{Holds}
use Rattle.core_invariant.specs.Sleepers.{SleepersHold, IsAwake}
use Rattle.core_kinds.specs.Steps.{normal, is_sleep, is_match}
use Rattle.core_kinds.specs.Waking.{MayLoadState, load_state, noted_if, seen_if, logged_if, state_read, is_own_read, is_matched, is_refused}
use Rattle.core_sleepers.proofs.Moves.{hold-passes}
use Rattle.core_sleepers.proofs.Placed.{unmatched, safe_at, asleep_not}
use Rattle.handoff_data.specs.declared.entry.Entry.{Entry}
use Rattle.handoff_data.specs.declared.state.State.{State}

-- if b, t may be passed
record Passable (b : Bool) (core : Columns) (t : ℕ) : Type 0 where
  hold : SleepersHold core
  safe : b ≡ true → (k : ℕ) → IsAwake (core.state t) ⊎ (core.tested (core.cpu t) t k ≡ None)
  awake : b ≡ true → is_sleep (core.state t) ≡ false

passable-seen : (b own : Bool) (core : Columns) (s t : ℕ) (state : State) → Passable b core t → Passable b (seen_if own core s state) t
passable-seen b true core s t state p = record { hold = assumption (p.hold); safe = p.safe; awake = p.awake }
passable-seen b false core s t state p = p

passable-matched : (b m : Bool) (core : Columns) (s t : ℕ) → Passable b core t → Passable b (noted_if m core s (Matched t)) t
passable-matched b true core s t p = record { hold = assumption (p.hold); safe = p.safe; awake = p.awake }
passable-matched b false core s t p = p

passable-rest : (b r : Bool) (core : Columns) (s t : ℕ) → Passable b core t → Passable b (noted_if r core s (SawRest t)) t
passable-rest b true core s t p = record { hold = assumption (p.hold); safe = p.safe; awake = p.awake }
passable-rest b false core s t p = p

hold-passed_if : (b : Bool) (core : Columns) (s t : ℕ) → Passable b core t → SleepersHold (noted_if b core s (Passed t))
hold-passed_if true core s t p = hold-passes core s t p.hold (p.safe refl) (p.awake refl)
hold-passed_if false core s t p = p.hold

hold-logged_if : (b : Bool) (core : Columns) (s : ℕ) (entry : Entry) → SleepersHold core → SleepersHold (logged_if b core s entry)
hold-logged_if true core s entry h = assumption (h)
hold-logged_if false core s entry h = h

pub SleepersHold-load_state : (core : Columns) (s t : ℕ) (mask : Option State) → Holds core → MayLoadState core s t mask → SleepersHold (load_state core s t mask)
SleepersHold-load_state core s t mask holds may =
    let state = core.state t in
    let b = not (is_match state normal) in
    let own = is_own_read core s t in
    let m = is_matched state mask in
    let r = not (state.0 == 0x200) in
    let read = record core { last_reads = put_at core.last_reads s t (state_read t state (core.last_reads s t)) } in
    let opening : Passable b read t = record {
      hold = assumption (holds.sleepers);
      safe = λ e k. safe_at core t holds (unmatched core t holds e) (core.cpu t) k;
      awake = λ e. asleep_not state (unmatched core t holds e);
    } in
    let matched = seen_if own read s state in
    let rest = noted_if m matched s (Matched t) in
    hold-logged_if (is_refused state mask) (noted_if b (noted_if r rest s (SawRest t)) s (Passed t)) s _
    (hold-passed_if b (noted_if r rest s (SawRest t)) s t
    (passable-rest b r rest s t (passable-matched b m matched s t (passable-seen b own read s t state opening))))
