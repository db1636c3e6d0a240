-- The exclusive entries of those who sleep in wait queues.
use Rattle.std.specs.Prelude.{◌≡◌, ◌⊎◌, ℕ, Bool, true, false, List, [], ◌∷◌, Option, Some, None}
use Rattle.core_data.specs.Entries.{has_entry}
use Rattle.core_data.specs.declared.values.WaitEntry.{WaitEntry}
use Rattle.core_kinds.specs.Steps.{is_sleep}
use Rattle.word_steps.specs.Folds.{put_both, current_task, wait_held, is_asleep}
use Rattle.word_steps.specs.Records.{Rec, Gave}
use Rattle.word_steps.specs.Words.{STATE, CPU}
use Rattle.word_steps.specs.declared.val.Val.TheVariants as val

abbrev pub exclusive_entry : ℕ → WaitEntry
exclusive_entry t = record { t = t; exclusive = true }

-- whether the seat gave the wait queue of a condition, when it last did so with the task as its current one, with an
-- exclusive entry of that task
abbrev pub give_own : Option ℕ → ℕ → List WaitEntry → (ℕ → ℕ → Bool) → ℕ → ℕ → Bool
give_own None k given h = h
give_own (Some t) k given h = put_both h t k (has_entry given (exclusive_entry t))

abbrev pub exclusively_after : Rec → Option ℕ → (ℕ → ℕ → Bool) → ℕ → ℕ → Bool
exclusively_after (Gave k (val.Wait taken) (val.Wait given)) current h = give_own current k given h
exclusively_after r current h = h

abbrev pub gave_exclusively : ℕ → List Rec → ℕ → ℕ → Bool
gave_exclusively s [] = λ t k. false
gave_exclusively s (r ∷ rs) = exclusively_after r (current_task s rs) (gave_exclusively s rs)

-- the task is in a sleep state, and the seat of its processor put it to sleep at the condition
pub record IsAsleepAt (words : ℕ → ℕ → ℕ) (traces : ℕ → List Rec) (t k : ℕ) : Type 0 where
  pub state : is_sleep (record { 0 = words t STATE }) ≡ true
  pub asleep : is_asleep (words t CPU) (traces (words t CPU)) t k ≡ true

-- these are the entries of the condition's wait queue, which is home or out
abbrev pub IsWaiting : (ℕ → Option (List WaitEntry)) → (ℕ → List Rec) → ℕ → List WaitEntry → Type 0
IsWaiting wait traces k entries = (wait k ≡ Some entries) ⊎ ((q : ℕ) × (wait_held (traces q) k ≡ Some entries))

-- an exclusive entry of a task that sleeps there is one that its own seat gave
abbrev pub ExclusivesHold : (ℕ → ℕ → ℕ) → (ℕ → Option (List WaitEntry)) → (ℕ → List Rec) → Type 0
ExclusivesHold words wait traces =
    (t k : ℕ) (entries : List WaitEntry) → IsAsleepAt words traces t k → IsWaiting wait traces k entries
    → has_entry entries (exclusive_entry t) ≡ true → gave_exclusively (words t CPU) (traces (words t CPU)) t k ≡ true
