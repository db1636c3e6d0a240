-- The journals keep the rules, and the words of tasks are those of their last entries.
use Rattle.std.specs.Prelude.{◌≡◌, ◌≢◌, ℕ, ◌%◌, ◌^◌, ◌<◌, ◌≤◌, ◌⊎◌, Bool, true, false, Option, Some}
use Rattle.core_data.specs.Columns.{Columns}
use Rattle.core_invariant.specs.Histories.{history}
use Rattle.core_kinds.specs.Steps.{waking, dead}
use Rattle.handoff_data.specs.History.{History}
use Rattle.handoff_data.specs.Numbers.{change_of, run_of}
use Rattle.handoff_data.specs.Positions.{Stands, IsIn, IsSomewhere}
use Rattle.handoff_data.specs.Rules.{InRange, NotRepeated, Chained, Caused, RisesInJournal, RunsAlternate}
use Rattle.handoff_data.specs.Rules.{LeavesWhileRunning, IsQueued, IsSleep}
use Rattle.handoff_data.specs.declared.entry.Entry.{Entry}
use Rattle.handoff_data.specs.declared.entry.Entry.TheVariants as entry
use Rattle.handoff_data.specs.declared.state.State.{State}

-- each entry keeps the rule
abbrev pub EachKeeps : (History → ℕ → ℕ → Entry → Type 0) → History → Type 0
EachKeeps Rule j = (s i : ℕ) (e : Entry) → Stands j s i e → Rule j s i e

pub record RulesKept (j : History) : Type 0 where
  pub in_range : EachKeeps InRange j
  pub not_repeated : EachKeeps NotRepeated j
  pub chained : EachKeeps Chained j
  pub caused : EachKeeps Caused j
  pub rises_in_journal : EachKeeps RisesInJournal j
  pub runs_alternate : EachKeeps RunsAlternate j
  pub leaves_while_running : EachKeeps LeavesWhileRunning j

-- the entries of the kinds of step that there are
abbrev pub IsPlain : Entry → Type 0
IsPlain (entry.New t m c) = Unit {0}
IsPlain (entry.Sleep t m c) = Unit {0}
IsPlain (entry.Wake t m) = Unit {0}
IsPlain (entry.Enq t m c false) = Unit {0}
IsPlain (entry.Out t m c) = Unit {0}
IsPlain (entry.In t m c) = Unit {0}
IsPlain (entry.Die t m c) = Unit {0}
IsPlain (entry.Pick t n c) = Unit {0}
IsPlain (entry.Finish t n c) = Unit {0}
IsPlain (entry.Refused t state) = Unit {0}
IsPlain _ = ⊥

-- no other stands in a journal: no task is listed, no mask set, and no processor goes offline
abbrev pub PlainEntries : History → Type 0
PlainEntries j = (s i : ℕ) (e : Entry) → Stands j s i e → IsPlain e

-- no entry has a number past that of the word, which is at most 2^60
pub record Numbered (j : History) (changes runs : ℕ → ℕ) : Type 0 where
  pub change : (s i : ℕ) (e : Entry) (t m : ℕ) → Stands j s i e → change_of e ≡ Some (t, m) → m ≤ changes t
  pub run : (s i : ℕ) (e : Entry) (t n : ℕ) → Stands j s i e → run_of e ≡ Some (t, n) → n ≤ runs t
  pub changes_end : (t : ℕ) → changes t ≤ 2 ^ 60
  pub runs_end : (t : ℕ) → runs t ≤ 2 ^ 60

-- The last change of a task is the one that its words tell.
pub record LastChanges (j : History) (state : ℕ → State) (on_rq changes cpu : ℕ → ℕ) (on_cpu : ℕ → Bool)
    (lock : ℕ → Option ℕ) : Type 0 where
  pub queued : (t : ℕ) → on_rq t ≡ 1 → IsQueued j t (changes t) (cpu t)
  pub moving : (t s : ℕ) → on_rq t ≡ 2 → lock t ≡ Some s → (c : ℕ) × IsIn j s (entry.Out t (changes t) c)
  pub ended : (t : ℕ) → changes t ≢ 0 → on_rq t ≡ 0 → state t ≡ dead
      → (c : ℕ) × IsSomewhere j (entry.Die t (changes t) c)
  pub off : (t : ℕ) → changes t ≢ 0 → on_rq t ≡ 0 → state t ≢ dead → IsSleep j t (changes t)
  -- one that is off its queue and still busy left it on the processor where it is busy
  pub leaving : (t : ℕ) → on_rq t ≡ 0 → on_cpu t ≡ true
      → IsIn j (cpu t) (entry.Sleep t (changes t) (cpu t)) ⊎ IsIn j (cpu t) (entry.Die t (changes t) (cpu t))
  -- and one that is asleep did so on its processor
  pub asleep : (t : ℕ) → changes t ≢ 0 → on_rq t ≡ 0 → state t ≢ dead → state t ≢ waking
      → IsIn j (cpu t) (entry.Sleep t (changes t) (cpu t))

-- A wake is of an earlier sleep, or of the last one by the seat that has the task's lock; a listing is of an earlier
-- sleep.
pub record Wakes (j : History) (state : ℕ → State) (on_rq changes : ℕ → ℕ) (lock : ℕ → Option ℕ) : Type 0 where
  pub past : (s i t m : ℕ) → Stands j s i (entry.Wake t m) → (m < changes t)
      ⊎ ((m ≡ changes t) × (on_rq t ≡ 0) × (state t ≡ waking) × (lock t ≡ Some s))
  pub present : (t s : ℕ) → on_rq t ≡ 0 → state t ≡ waking → lock t ≡ Some s → IsIn j s (entry.Wake t (changes t))
  pub listed : (s i t m c e : ℕ) → Stands j s i (entry.List t m c e) → m < changes t

-- The last run entry of a busy task is a pick in the journal of its processor's seat, and that of another a finish.
pub record LastRuns (j : History) (on_cpu : ℕ → Bool) (runs cpu : ℕ → ℕ) : Type 0 where
  pub busy_odd : (t : ℕ) → on_cpu t ≡ true → runs t % 2 ≡ 1
  pub busy : (t : ℕ) → on_cpu t ≡ true → IsIn j (cpu t) (entry.Pick t (runs t) (cpu t))
  pub idle_even : (t : ℕ) → on_cpu t ≡ false → runs t % 2 ≡ 0
  pub idle : (t : ℕ) → on_cpu t ≡ false → runs t ≢ 0 → (c : ℕ) × IsSomewhere j (entry.Finish t (runs t) c)

pub record JournalsHold (core : Columns) : Type 0 where
  pub plain : PlainEntries (history core.cpus core.tasks core.seats core.journal)
  pub rules : RulesKept (history core.cpus core.tasks core.seats core.journal)
  pub numbered : Numbered (history core.cpus core.tasks core.seats core.journal) core.changes core.runs
  pub last_changes : LastChanges (history core.cpus core.tasks core.seats core.journal) core.state core.on_rq
      core.changes core.cpu core.on_cpu core.lock
  pub wakes : Wakes (history core.cpus core.tasks core.seats core.journal) core.state core.on_rq core.changes core.lock
  pub last_runs : LastRuns (history core.cpus core.tasks core.seats core.journal) core.on_cpu core.runs core.cpu
