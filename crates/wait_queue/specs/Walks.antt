-- What a walk along a wait queue adds to what its pass has done.
use Rattle.std.specs.Prelude.{◌≡◌, ◌≢◌, ℕ, ◌<◌, ◌++◌, ◌∷◌, [], List, Option, Some, None, length}
use Rattle.handoff_data.specs.declared.shape.Shape.{Shape}
use Rattle.task_words.specs.Records.{Took, Gave, Bumped}
use Rattle.task_words.specs.Val.TheVariants as val
use Rattle.task_words.specs.Views.{PassView}
use Rattle.task_words.specs.WaitEntry.{WaitEntry}
use Rattle.wait_queue.specs.Meets.{Meeting, HasMet, entries_of, staying, count_true, count_exclusive, HasPassedAll}

-- a walk ends where no entry is left, or as soon as so many true exclusive wakes are made, where a number was asked for
pub record IsEnd (limit : Option ℕ) (meetings : List Meeting) (rest : List WaitEntry) : Type 0 where
  pub reached : rest ≢ [] → limit ≡ Some (count_exclusive meetings)
  pub no_later : (n : ℕ) → limit ≡ Some n → (before after : List Meeting) → after ≢ [] → meetings ≡ before ++ after
      → count_exclusive before < n

-- under the lock of k the entries were met from the head on, and those whose tasks were woken taken out
pub record IsWalked (shape : Shape) (k : ℕ) (limit : Option ℕ) (old new : PassView) (woken : ℕ) : Type 0 where
  pub meetings : List Meeting
  pub rest : List WaitEntry
  pub after : PassView
  pub met : HasMet shape meetings
      (record old { trace = Took k (val.Wait (entries_of meetings ++ rest)) ∷ old.trace }) after
  pub did : new
      ≡ record after {
        trace = Gave k (val.Wait (entries_of meetings ++ rest)) (val.Wait (staying meetings ++ rest))
            ∷ after.trace;
      }
  pub end : IsEnd limit meetings rest
  pub answer : woken ≡ count_true meetings

-- the condition was raised, and then each of its entries met
pub record IsRaisedAndWalked (shape : Shape) (k : ℕ) (old new : PassView) (woken : ℕ) : Type 0 where
  pub value : ℕ
  pub walked : IsWalked shape k None (record old { trace = Bumped k value ∷ old.trace }) new woken

-- the same, of the entries that a walk has out: which were met, and which stay
pub record HasWalked (shape : Shape) (limit : Option ℕ) (given taken : List WaitEntry) (old new : PassView)
    (woken : ℕ) : Type 0 where
  pub meetings : List Meeting
  pub rest : List WaitEntry
  pub all : taken ≡ entries_of meetings ++ rest
  pub stays : given ≡ staying meetings ++ rest
  pub met : HasMet shape meetings old new
  pub passed : HasPassedAll meetings new.trace
  pub end : IsEnd limit meetings rest
  pub answer : woken ≡ count_true meetings

-- the entry at the head went to the tail
pub record IsTurnedOnce (old new : List WaitEntry) : Type 0 where
  pub head : WaitEntry
  pub others : List WaitEntry
  pub before : old ≡ head ∷ others
  pub after : new ≡ others ++ head ∷ []

-- the first `count` entries went to the tail
pub record IsTurned (count : ℕ) (old new : List WaitEntry) : Type 0 where
  pub front : List WaitEntry
  pub back : List WaitEntry
  pub many : length front ≡ count
  pub before : old ≡ front ++ back
  pub after : new ≡ back ++ front
