-- Which exclusive entries the seats have put into wait queues, as their traces tell.
use Rattle.std.specs.Prelude.{◌≡◌, ℕ, ◌==◌, ◌&&◌, ◌||◌, Bool, true, false, List, [], ◌∷◌, Option, Some}
use Rattle.core_data.specs.Entries.{has_entry}
use Rattle.core_data.specs.declared.values.WaitEntry.{WaitEntry}
use Rattle.word_steps.specs.Exclusives.{exclusive_entry}
use Rattle.word_steps.specs.Records.{Rec, Gave}
use Rattle.word_steps.specs.declared.val.Val.TheVariants as val

-- the step gives the wait queue of k with an exclusive entry of t
abbrev pub gives_exclusive : Rec → ℕ → ℕ → Bool
gives_exclusive (Gave l taken (val.Wait given)) k t = (k == l) && has_entry given (exclusive_entry t)
gives_exclusive r k t = false

-- .. some step of the seat
abbrev pub gave_exclusive : List Rec → ℕ → ℕ → Bool
gave_exclusive [] k t = false
gave_exclusive (r ∷ rs) k t = gives_exclusive r k t || gave_exclusive rs k t

-- a wait queue that is home has no exclusive entry but such as some seat gave it with
abbrev pub ExclusivesTold : (ℕ → List Rec) → (ℕ → Option (List WaitEntry)) → Type 0
ExclusivesTold traces wait =
    (k t : ℕ) (entries : List WaitEntry) → wait k ≡ Some entries → has_entry entries (exclusive_entry t) ≡ true
    → (q : ℕ) × (gave_exclusive (traces q) k t ≡ true)
