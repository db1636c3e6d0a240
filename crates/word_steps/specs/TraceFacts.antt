-- What words and traces keep beside the invariant of the core that they show.
use Rattle.std.specs.Prelude.{◌≡◌, ◌≢◌, ℕ, ◌/◌, ◌%◌, ◌<◌, ◌^◌, Bool, true, List, Some}
use Rattle.word_steps.specs.Folds.{is_moving, current_task, stays_queued, number_read, has_matched, saw_queued, has_put}
use Rattle.word_steps.specs.Folds.{ended_known}
use Rattle.word_steps.specs.Records.{Rec}
use Rattle.word_steps.specs.Words.{LOCK, QUEUE_LOCK, STATE, RQ, CPU, COUNT, holder}

-- a task stands between two queues exactly where the seat that has its lock has taken it off one
pub record MovingHolds (words : ℕ → ℕ → ℕ) (traces : ℕ → List Rec) : Type 0 where
  pub known : (s t : ℕ) → is_moving (traces s) t ≡ true → (holder (words t LOCK) ≡ Some s) × (words t RQ % 4 ≡ 2)
  pub noted : (s t : ℕ) → holder (words t LOCK) ≡ Some s → words t RQ % 4 ≡ 2 → is_moving (traces s) t ≡ true

-- a current task that its seat hasn't taken off its queue is queued
abbrev pub CurrentHolds : (ℕ → ℕ → ℕ) → (ℕ → List Rec) → Type 0
CurrentHolds words traces = (s t : ℕ) → current_task s (traces s) ≡ Some t → stays_queued (traces s) ≡ true
    → words t RQ % 4 ≡ 1

-- a task that was new as its lock's holder read it is new
abbrev pub NumbersHold : (ℕ → ℕ → ℕ) → (ℕ → List Rec) → Type 0
NumbersHold words traces = (s t : ℕ) → holder (words t LOCK) ≡ Some s → number_read (traces s) t ≡ Some 0
    → words t RQ / 4 ≡ 0

-- a task that matched since its lock was taken was queued before
abbrev pub MatchedHolds : (ℕ → ℕ → ℕ) → (ℕ → List Rec) → Type 0
MatchedHolds words traces = (s t : ℕ) → holder (words t LOCK) ≡ Some s → has_matched (traces s) t ≡ true
    → words t RQ / 4 ≢ 0

-- the seat s has the lock of t and of queue c, on whose processor t is
pub record IsUnder (words : ℕ → ℕ → ℕ) (s c t : ℕ) : Type 0 where
  pub task : holder (words t LOCK) ≡ Some s
  pub queue : holder (words c QUEUE_LOCK) ≡ Some s
  pub here : words t CPU ≡ c

-- a task that was read as queued under both is queued
abbrev pub QueuedHolds : (ℕ → ℕ → ℕ) → (ℕ → List Rec) → Type 0
QueuedHolds words traces = (s c t : ℕ) → IsUnder words s c t → saw_queued (traces s) c t ≡ true → words t RQ % 4 ≡ 1

-- a task that a seat has put on a queue under its lock, and not taken off, is queued there
abbrev pub PutHolds : (ℕ → ℕ → ℕ) → (ℕ → List Rec) → Type 0
PutHolds words traces =
    (s c t : ℕ) → holder (words c QUEUE_LOCK) ≡ Some s → has_put (traces s) c t ≡ true → (words t RQ % 4 ≡ 1)
    × (words t CPU ≡ c)

-- the body of a current task has ended as its seat knows
abbrev pub EndedHolds : (ℕ → Bool) → (ℕ → List Rec) → Type 0
EndedHolds ended traces = (s t : ℕ) (b : Bool) → current_task s (traces s) ≡ Some t → ended_known (traces s) t ≡ Some b
    → ended t ≡ b

-- no migrate-disable level is above 0, while no step stores one
abbrev pub CountsZero : (ℕ → ℕ → ℕ) → Type 0
CountsZero words = (t : ℕ) → words t COUNT ≡ 0

-- a state has 16 bits
abbrev pub StatesFit : (ℕ → ℕ → ℕ) → Type 0
StatesFit words = (t : ℕ) → words t STATE < 2 ^ 16
