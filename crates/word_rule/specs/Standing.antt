-- What a seat that holds a queue's lock knows of the tasks on that queue.
use Rattle.std.specs.Prelude.{◌≡◌, ℕ, ◌+◌, ◌-◌, ◌%◌, ◌/◌, ◌≤◌, ◌==◌, ◌&&◌, ◌||◌, nat_lt, Bool, true, false, List, []}
use Rattle.std.specs.Prelude.{◌∷◌, Option, Some, if◌then◌else◌, is_some}
use mathlib.Core.Bool.{not}
use Rattle.core_data.specs.Queue.{times_in}
use Rattle.core_data.specs.Columns.{put}
use Rattle.core_gives.specs.Queues.{times, is_at, is_some_of}
use Rattle.core_kinds.specs.Steps.{IsRunnable, running, fresh}
use Rattle.handoff_data.specs.declared.state.State.{State}
use Rattle.word_steps.specs.Folds.{put_column_if, put_column, put_both, has_put, current_task, stays_queued, queue_held}
use Rattle.word_steps.specs.Folds.{saw_off, number_read}
use Rattle.word_steps.specs.Records.{Rec, Took, Queued, Dequeued, Moved, StateSet, MadeRunnable, LoadedState}
use Rattle.word_steps.specs.Words.{LOCK, STATE, RQ, CPU, QUEUE_LOCK, holder}
use Rattle.word_steps.specs.declared.val.Val.TheVariants as val

-- f with the number at k and t changed by g
abbrev pub change_both : (ℕ → ℕ → ℕ) → ℕ → ℕ → (ℕ → ℕ) → ℕ → ℕ → ℕ
change_both f c t g k u = if (k == c) && (u == t) then g (f k u) else f k u

-- how often each task stands in the queue, as it was taken, and by what the seat has put there and taken off since
abbrev pub standing_after : Rec → (ℕ → ℕ → ℕ) → ℕ → ℕ → ℕ
standing_after (Took c (val.Queue v)) h = put h c (times v)
standing_after (Queued t c on m) h = change_both h c t (λ n. n + 1)
standing_after (Dequeued t c m) h = change_both h c t (λ n. n - 1)
standing_after (Moved t c m) h = change_both h c t (λ n. n - 1)
standing_after r h = h

abbrev pub standing : List Rec → ℕ → ℕ → ℕ
standing [] = λ c t. 0
standing (r ∷ rs) = standing_after r (standing rs)

-- TASK_RUNNING or TASK_NEW
abbrev pub is_runnable : State → Bool
is_runnable state = (state.0 == running.0) || (state.0 == fresh.0)

-- the seat knows that a task may run which stands in the queue: it waited there as the lock was taken, or the seat put
-- it there as new or in a move, or stored TASK_RUNNING once it was there, or read that its own current
-- task may run
abbrev pub may_run_after : ℕ → Rec → Option ℕ → Bool → Bool → (ℕ → ℕ → Bool) → (ℕ → ℕ → Bool) → ℕ → ℕ → Bool
may_run_after s (Took c (val.Queue v)) current stays own were h = put h c (λ t. nat_lt 0 (times_in v.waiting t))
may_run_after s (Queued t c on m) current stays own were h = put_both h c t ((m == 0) || (on == 2))
may_run_after s (Dequeued t c m) current stays own were h = put_column h t false
may_run_after s (Moved t c m) current stays own were h = put_column h t false
may_run_after s (StateSet t state) current stays own were h = put_column_if (not (state.0 == 0)) t false h
may_run_after s (MadeRunnable t) current stays own were h = λ c u. if (u == t) && were c u then true else h c u
may_run_after s (LoadedState t mask state) current stays own were h = if is_some_of current t
    && (stays && (own && is_runnable state)) then put_both h s t true else h
may_run_after s r current stays own were h = h

abbrev pub may_run : ℕ → List Rec → ℕ → ℕ → Bool
may_run s [] = λ c t. false
may_run s (r ∷ rs) = may_run_after s r (current_task s rs) (stays_queued rs) (is_some (queue_held rs s)) (has_put rs)
    (may_run s rs)

-- a task stands in a queue whose lock is held as often as its words say
abbrev pub StandingHolds : (ℕ → ℕ → ℕ) → (ℕ → List Rec) → Type 0
StandingHolds words traces =
    (s c t : ℕ) → holder (words c QUEUE_LOCK) ≡ Some s
    → standing (traces s) c t ≡ (if is_at (λ u. words u RQ % 4) (λ u. words u CPU) c t then 1 else 0)

-- a task that the holder of a queue's lock knows to run or to be about to: it is queued there, and no other seat runs
-- it
pub record MayRunThere (words : ℕ → ℕ → ℕ) (traces : ℕ → List Rec) (s c t : ℕ) : Type 0 where
  pub queued : words t RQ % 4 ≡ 1
  pub here : words t CPU ≡ c
  pub runnable : IsRunnable (record { 0 = words t STATE })
  pub own : (j : ℕ) → current_task j (traces j) ≡ Some t → j ≡ s

abbrev pub RunsHold : (ℕ → ℕ → ℕ) → (ℕ → List Rec) → Type 0
RunsHold words traces = (s c t : ℕ) → holder (words c QUEUE_LOCK) ≡ Some s → may_run s (traces s) c t ≡ true
    → MayRunThere words traces s c t

-- the number that a seat read of a task that it saw off its queue, under the task's lock, is still the number
abbrev pub OffHolds : (ℕ → ℕ → ℕ) → (ℕ → List Rec) → Type 0
OffHolds words traces = (s t m : ℕ) → holder (words t LOCK) ≡ Some s → saw_off (traces s) t ≡ true
    → number_read (traces s) t ≡ Some m → words t RQ / 4 ≡ m

-- no number is below one that was read
abbrev pub GrownHolds : (ℕ → ℕ → ℕ) → (ℕ → List Rec) → Type 0
GrownHolds words traces = (s t m : ℕ) → number_read (traces s) t ≡ Some m → m ≤ words t RQ / 4
