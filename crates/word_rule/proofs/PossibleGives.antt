-- What a seat may do as its own trace tells, the core that the table shows allows: gives of locks, and bodies.
use Rattle.std.proofs.Common.{◌≡◌, ◌≢◌, ℕ, suc, ◌<◌, ◌+◌, refl, sym, ap, subst, ◌∙◌, inl, inr, List, [], ◌∷◌, arith}
use Rattle.std.specs.Prelude.{◌/◌, ◌==◌, ◌&&◌, Bool, true, false, Option, Some, None, IsSome, unwrap_or}
use Rattle.std.proofs.lemmas.Bool.{cases_eq}
use Rattle.core_data.specs.Columns.{put}
use Rattle.core_data.specs.declared.values.TaskVal.{TaskVal}
use Rattle.core_data.specs.declared.values.WaitEntry.{WaitEntry}
use Rattle.core_data.specs.declared.values.WorkItem.{WorkItem}
use Rattle.core_gives.specs.Waits.{MayGiveWait}
use Rattle.core_kinds.specs.Locks.{MayGiveTask, MayGiveWorks, IsSettled}
use Rattle.core_kinds.specs.Running.{MayBodyOut, MayBodyHome}
use Rattle.core_kinds.specs.Steps.{fresh}
use Rattle.core_stores.proofs.Columns.{put_there, put_other}
use Rattle.handoff_data.specs.declared.shape.Shape.{Shape}
use Rattle.word_rule.proofs.Possible.{value_of}
use Rattle.word_rule.specs.WordsHold.{WordsHold}
use Rattle.word_rule.specs.May.{MayGiveTaskVal, MayGiveWorksVal, MayGiveWaitVal, MayTakeBody, MayReturnBody, MayClaimWord, number_of}
use Rattle.word_steps.proofs.Conditions.{task_locked, give_task_may, give_works_may, give_wait_may, settled_unstored, fresh_unstored, body_out_may}
use Rattle.word_steps.proofs.EndedKept.{body_home_may}
use Rattle.word_steps.proofs.MovingSteps.{settled_given}
use Rattle.word_steps.specs.Decode.{Homes, core_of}
use Rattle.word_steps.specs.Folds.{number_read, ended_known, saw_off, put_if, is_unstored}
use Rattle.word_steps.specs.Records.{Rec, Took, Gave, OutBody, HomeBody, Queued, Dequeued, Moved, SetBusy, ClearedBusy, StateSet, Claimed, MadeRunnable, LoadedState, LoadedRq, LoadedBusy, LoadedCpu}
use Rattle.word_steps.specs.Records.{LoadedCount, StoredCpu, Bumped, LoadedCond}
use Rattle.word_steps.specs.Words.{LOCK, STATE, RQ, holder}
use Rattle.word_steps.specs.declared.val.Val.TheVariants as val

-- A seat that saw a task off its queue has read the number of its changes.
renewed : (saw : ℕ → Bool) (number : ℕ → Option ℕ) (n : ℕ) (o : Option ℕ)
    → ((t : ℕ) → saw t ≡ true → IsSome (number t)) → (t : ℕ) → put saw n false t ≡ true → IsSome (put number n o t)
renewed saw number n o known t e = elim (cases_eq t n) [
  | inl q ↦ absurd (grind (arith, sym (put_there saw n false t q) ∙ e))
  | inr apart ↦ subst (λ (z : Option ℕ). IsSome z) (sym (put_other number n o t apart))
      (known t (sym (put_other saw n false t apart) ∙ e))
]

unread : (saw : ℕ → Bool) (number : ℕ → Option ℕ) (n : ℕ) → ((t : ℕ) → saw t ≡ true → IsSome (number t)) → (t : ℕ)
    → put saw n false t ≡ true → IsSome (number t)
unread saw number n known t e = elim (cases_eq t n) [
  | inl q ↦ absurd (grind (arith, sym (put_there saw n false t q) ∙ e))
  | inr apart ↦ known t (sym (put_other saw n false t apart) ∙ e)
]

read : (b : Bool) (saw : ℕ → Bool) (number : ℕ → Option ℕ) (n m : ℕ) → ((t : ℕ) → saw t ≡ true → IsSome (number t))
    → (t : ℕ) → put_if b n true saw t ≡ true → IsSome (put number n (Some m) t)
read b saw number n m known t e = elim (cases_eq t n) [
  | inl q ↦ subst (λ (z : Option ℕ). IsSome z) (sym (put_there number n (Some m) t q)) refl
  | inr apart ↦ subst (λ (z : Option ℕ). IsSome z) (sym (put_other number n (Some m) t apart))
      (known t (elsewhere b apart e))
]
  where
    elsewhere : (b : Bool) → t ≢ n → put_if b n true saw t ≡ true → saw t ≡ true
    elsewhere true apart h = sym (put_other saw n true t apart) ∙ h
    elsewhere false apart h = h

off_read : (trace : List Rec) (t : ℕ) → saw_off trace t ≡ true → IsSome (number_read trace t)
off_read [] t e = absurd (grind (arith, e))
off_read (Took n (val.Task v) ∷ rs) t e = renewed (saw_off rs) (number_read rs) n None (off_read rs) t e
off_read (Took n (val.Queue v) ∷ rs) t e = off_read rs t e
off_read (Took n (val.Works v) ∷ rs) t e = off_read rs t e
off_read (Took n (val.Wait v) ∷ rs) t e = off_read rs t e
off_read (Gave n taken given ∷ rs) t e = off_read rs t e
off_read (OutBody n ended ∷ rs) t e = off_read rs t e
off_read (HomeBody n ended ∷ rs) t e = off_read rs t e
off_read (Queued n c on m ∷ rs) t e = renewed (saw_off rs) (number_read rs) n (Some (m + 1)) (off_read rs) t e
off_read (Dequeued n c m ∷ rs) t e = renewed (saw_off rs) (number_read rs) n (Some (m + 1)) (off_read rs) t e
off_read (Moved n c m ∷ rs) t e = renewed (saw_off rs) (number_read rs) n (Some (m + 1)) (off_read rs) t e
off_read (SetBusy n c m ∷ rs) t e = unread (saw_off rs) (number_read rs) n (off_read rs) t e
off_read (ClearedBusy n m ∷ rs) t e = unread (saw_off rs) (number_read rs) n (off_read rs) t e
off_read (StateSet n state ∷ rs) t e = unread (saw_off rs) (number_read rs) n (off_read rs) t e
off_read (Claimed n m ∷ rs) t e = unread (saw_off rs) (number_read rs) n (off_read rs) t e
off_read (MadeRunnable n ∷ rs) t e = unread (saw_off rs) (number_read rs) n (off_read rs) t e
off_read (LoadedState n mask state ∷ rs) t e = off_read rs t e
off_read (LoadedRq n on m ∷ rs) t e =
    read ((on == 0) && is_unstored rs n) (saw_off rs) (number_read rs) n m (off_read rs) t e
off_read (LoadedBusy n busy m ∷ rs) t e = off_read rs t e
off_read (LoadedCpu n c ∷ rs) t e = off_read rs t e
off_read (LoadedCount n level ∷ rs) t e = off_read rs t e
off_read (StoredCpu n c ∷ rs) t e = unread (saw_off rs) (number_read rs) n (off_read rs) t e
off_read (Bumped k v ∷ rs) t e = off_read rs t e
off_read (LoadedCond k v ∷ rs) t e = off_read rs t e

module _ (shape : Shape) (words : ℕ → ℕ → ℕ) (homes : Homes) (traces : ℕ → List Rec) (s : ℕ)
    (kept : WordsHold shape words homes traces) (seat : s < shape.cpus + shape.agents) where
  -- the number that a seat has of a task which it may claim is that of its queue word
  pub claim_number : (t y : ℕ) → MayClaimWord s (traces s) t (words t STATE) y → words t RQ / 4 ≡ number_of (traces s) t
  claim_number t y may =
      let number = value_of (number_read (traces s) t) (off_read (traces s) t may.off) in
      kept.off s t number.0 (kept.holds.locks.tasks.out_held s t may.locked) may.off number.1 ∙ sym
      (ap (λ (o : Option ℕ). unwrap_or o 0) number.1)

  pub give_task_possible : (t : ℕ) (given : TaskVal) → t < shape.tasks → MayGiveTaskVal s (traces s) shape t given
      → MayGiveTask (core_of shape words homes traces) s t given false false
  give_task_possible t given task may =
      give_task_may shape words homes traces s kept.holds seat t may.taken given task may.held may.kept
      may.wake_cpu may.dest settled (λ new. begun new)
    where
      settled : IsSettled (core_of shape words homes traces) t
      settled = elim may.settled [
        | inl unstored ↦ settled_unstored shape words homes traces s kept.holds seat t may.taken may.held unstored
        | inr still ↦ settled_given shape words homes traces s kept.moving t may.taken kept.holds seat may.held
            still.0 still.1
      ]

      locked : holder (words t LOCK) ≡ Some s
      locked = task_locked shape words homes traces s kept.holds seat t may.taken may.held

      begun : words t RQ / 4 ≡ 0 → (core_of shape words homes traces).state t ≡ fresh
      begun new = elim may.begun [
        | inl unstored ↦ fresh_unstored shape words homes traces s kept.holds seat t may.taken task may.held
            unstored new
        | inr started ↦ elim started [
          | inl read ↦ let grown = kept.grown s t (suc read.0) read.1 in absurd (omega (arith, grown, new))
          | inr rest ↦ elim rest [
            | inl matched ↦ absurd (kept.matched s t locked matched new)
            | inr mine ↦ absurd (grind
                (arith, kept.holds.places.new.idle t new, kept.holds.busy.runner.current_busy s t mine))
          ]
        ]
      ]

  pub give_works_possible : (c : ℕ) (given : List WorkItem) → c < shape.cpus → MayGiveWorksVal s (traces s) c given
      → MayGiveWorks (core_of shape words homes traces) s c given
  give_works_possible c given processor may =
      give_works_may shape words homes traces s kept.holds seat c given processor may

  pub give_wait_possible : (k : ℕ) (given : List WaitEntry) → k < shape.conds
      → MayGiveWaitVal s (traces s) shape k given → MayGiveWait (core_of shape words homes traces) s k given
  give_wait_possible k given condition may =
      give_wait_may shape words homes traces s kept.holds seat k may.taken given condition may.held may.once
      may.tasks may.put_in may.taken_out

  pub take_body_possible : (t : ℕ) → t < shape.tasks → MayTakeBody s (traces s) t
      → MayBodyOut (core_of shape words homes traces) s t
  take_body_possible t task may = body_out_may shape words homes traces s kept.holds seat t task may.current may.home

  pub return_body_possible : (t : ℕ) (ended : Bool) → t < shape.tasks → MayReturnBody s (traces s) t ended
      → MayBodyHome (core_of shape words homes traces) s t ended
  return_body_possible t ended task may =
      let known = value_of (ended_known (traces s) t) (kept.known s t may.out) in
      body_home_may shape words homes traces s kept.holds kept.ended t known.0 ended seat task may.out known.1
      (λ e. may.stays (known.1 ∙ ap Some e))
