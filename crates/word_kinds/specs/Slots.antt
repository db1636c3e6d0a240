-- Steps that take a value or a body out and bring it home: each is one event of the core that the words show.
use Rattle.std.specs.Prelude.{◌≡◌, ℕ, suc, ◌+◌, ◌<◌, Bool, true, false, List, Some}
use Rattle.core_data.specs.Columns.{put, put_at}
use Rattle.handoff_data.specs.declared.shape.Shape.{Shape}
use Rattle.word_rule.specs.WordsHold.{WordsHold}
use Rattle.word_rule.specs.May.{MayGive, MayTakeBody, MayReturnBody}
use Rattle.word_rule.specs.Sorts.{Sort, lock_of, count_of, held_of, home_of, without, with_home}
use Rattle.word_steps.specs.Decode.{Homes}
use Rattle.word_steps.specs.Events.{IsEvent}
use Rattle.word_steps.specs.Records.{Rec, Took, Gave, OutBody, HomeBody}
use Rattle.word_steps.specs.declared.val.Val.{Val}

module _ (shape : Shape) (words : ℕ → ℕ → ℕ) (homes : Homes) (traces : ℕ → List Rec) (s n : ℕ) where
  -- a lock is taken by a store of the seat in its word, which was 0, with the value that lies there
  abbrev pub TakeIsEvent : Sort → Val → Type 0
  TakeIsEvent sort v =
      WordsHold shape words homes traces → s < shape.cpus + shape.agents → n < count_of sort shape
      → words n (lock_of sort) ≡ 0 → home_of sort homes n ≡ Some v
      → IsEvent shape words homes traces s (Took n v) (put_at words n (lock_of sort) (suc s)) (without sort n homes)

  -- .. and given by a store of 0 in its word, with a value that fits the one that the seat took
  abbrev pub GiveIsEvent : Sort → Val → Val → Type 0
  GiveIsEvent sort taken given =
      WordsHold shape words homes traces → s < shape.cpus + shape.agents → n < count_of sort shape
      → held_of sort (traces s) n ≡ Some taken → MayGive s (traces s) shape sort n given
      → IsEvent shape words homes traces s (Gave n taken given) (put_at words n (lock_of sort) 0)
      (with_home n given homes)

  -- the body of a task leaves its slot
  abbrev pub OutIsEvent : Type 0
  OutIsEvent =
      WordsHold shape words homes traces → s < shape.cpus + shape.agents → n < shape.tasks → MayTakeBody s (traces s) n
      → IsEvent shape words homes traces s (OutBody n (homes.ended n)) words
      (record homes { body = put homes.body n false })

  -- .. and comes home, which has ended or not
  abbrev pub HomeIsEvent : Bool → Type 0
  HomeIsEvent ended =
      WordsHold shape words homes traces → s < shape.cpus + shape.agents → n < shape.tasks
      → MayReturnBody s (traces s) n ended
      → IsEvent shape words homes traces s (HomeBody n ended) words
      (record homes { body = put homes.body n true; ended = put homes.ended n ended })
