-- What the calls on wait queues mean for those who wait there.
use Rattle.std.specs.Prelude.{◌≡◌, ◌≢◌, ℕ, ◌≤◌, ◌++◌, ◌∷◌, [], ◌⊎◌, Bool, true, false, List, Some}
use Rattle.std.specs.List.{All}
use Rattle.handoff_data.specs.declared.shape.Shape.{Shape}
use Rattle.handoff_data.specs.declared.state.State.{State}
use Rattle.task_words.specs.Entries.{has_entry}
use Rattle.task_words.specs.Folds.{current_task}
use Rattle.task_words.specs.Records.{Rec, Took, Gave, StateSet}
use Rattle.task_words.specs.Val.TheVariants as val
use Rattle.task_words.specs.Views.{PassView}
use Rattle.task_words.specs.WaitEntry.{WaitEntry}
use Rattle.task_words.specs.Waits.{has_task}
use Rattle.wait_queue.specs.Meets.{Meeting, HasMet, is_true, entries_of, staying, count_exclusive}

-- The state was stored under the lock of the wait queue with an entry of the current task in, and no state of its own
-- after it. The entry stayed where it was, or came new: an exclusive one at the tail, another at the head.
pub record IsStoredWithin (k : ℕ) (exclusive : Bool) (state : State) (s : ℕ) (old new : List Rec) : Type 0 where
  pub t : ℕ
  pub taken : List WaitEntry
  pub given : List WaitEntry
  pub current : current_task s old ≡ Some t
  pub did : new ≡ Gave k (val.Wait taken) (val.Wait given) ∷ StateSet t state ∷ Took k (val.Wait taken) ∷ old
  pub within : has_task given t ≡ true
  pub stayed : has_task taken t ≡ true → given ≡ taken
  pub at_tail : has_task taken t ≡ false → exclusive ≡ true → given ≡ taken ++ record { t = t; exclusive = exclusive }
      ∷ []
  pub at_head : has_task taken t ≡ false → exclusive ≡ false → given ≡ record { t = t; exclusive = exclusive } ∷ taken

-- the wait queue of k was given without an entry of the current task, and with each of the others as it was
pub record IsGone (k s : ℕ) (old new : List Rec) : Type 0 where
  pub t : ℕ
  pub before : List Rec
  pub taken : List WaitEntry
  pub given : List WaitEntry
  pub current : current_task s old ≡ Some t
  pub did : new ≡ Gave k (val.Wait taken) (val.Wait given) ∷ before
  pub gone : has_task given t ≡ false
  pub others : (x : WaitEntry) → x.t ≢ t → has_entry given x ≡ has_entry taken x

-- each entry that the wait queue of k had was met
pub record HasMetAll (shape : Shape) (k : ℕ) (old new : PassView) : Type 0 where
  pub meetings : List Meeting
  pub after : PassView
  pub met : HasMet shape meetings (record old { trace = Took k (val.Wait (entries_of meetings)) ∷ old.trace }) after
  pub did : new.trace ≡ Gave k (val.Wait (entries_of meetings)) (val.Wait (staying meetings)) ∷ after.trace

-- no entry was left, or so many true exclusive wakes were made, and never more
pub record IsEnough (n : ℕ) (meetings : List Meeting) (rest : List WaitEntry) : Type 0 where
  pub enough : (rest ≡ []) ⊎ (count_exclusive meetings ≡ n)
  pub never_more : count_exclusive meetings ≤ n

-- no entry that was met gave a true wake
abbrev pub NoneWoken : List Meeting → Type 0
NoneWoken = All (λ x. is_true x.answer ≡ false)
