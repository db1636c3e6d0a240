-- A task that matched since its lock was taken isn't new: kept by each kind of step.
use Rattle.std.proofs.Common.{◌≡◌, ◌≢◌, ℕ, suc, inl, inr, refl, sym, ap, subst, ◌∙◌, List, [], ◌∷◌, arith}
use Rattle.std.specs.Prelude.{◌+◌, ◌/◌, Bool, true, false, Option, Some}
use Rattle.std.proofs.lemmas.Bool.{cases_eq}
use Rattle.core_data.specs.Columns.{put, put_at}
use Rattle.core_data.specs.declared.values.TaskVal.{TaskVal}
use Rattle.core_invariant.specs.Invariant.{Holds}
use Rattle.core_kinds.specs.Waking.{is_matched}
use Rattle.core_stores.proofs.Columns.{put_there, put_other}
use Rattle.handoff_data.specs.declared.shape.Shape.{Shape}
use Rattle.handoff_data.specs.declared.state.State.{State}
use Rattle.word_steps.proofs.MovingKept.{one_seat}
use Rattle.word_steps.proofs.Puts.{word_here, word_apart, word_beside, fold_here, fold_else}
use Rattle.word_steps.specs.TraceFacts.{MatchedHolds}
use Rattle.word_steps.specs.Decode.{Homes, core_after}
use Rattle.word_steps.specs.Folds.{has_matched, is_unstored, put_if}
use Rattle.word_steps.specs.Records.{Rec, Took, Gave, LoadedState}
use Rattle.word_steps.specs.Words.{LOCK, RQ, holder}
use Rattle.word_steps.specs.declared.val.Val.TheVariants as val

pub matched_start : (words : ℕ → ℕ → ℕ) → MatchedHolds words (λ s. [])
matched_start words s t locked e new = absurd (grind (arith, e))

module _ (words : ℕ → ℕ → ℕ) (traces : ℕ → List Rec) (s : ℕ) (holds : MatchedHolds words traces) where
  -- a step by which no number of changes falls, and which gives no other seat a lock
  pub matched_step : (words' : ℕ → ℕ → ℕ) (r : Rec) → ((t : ℕ) → words t RQ / 4 ≢ 0 → words' t RQ / 4 ≢ 0)
      → ((j t : ℕ) → j ≢ s → holder (words' t LOCK) ≡ Some j → holder (words t LOCK) ≡ Some j)
      → ((t : ℕ) → holder (words' t LOCK) ≡ Some s → has_matched (r ∷ traces s) t ≡ true → words' t RQ / 4 ≢ 0)
      → MatchedHolds words' (put traces s (r ∷ traces s))
  matched_step words' r grows others mine j t locked m = elim (cases_eq j s) [
    | inl e ↦ mine t (locked ∙ ap Some e) (ap (λ (f : ℕ → Bool). f t) (sym (fold_here has_matched traces s r j e)) ∙ m)
    | inr ne ↦ grows t (holds j t (others j t ne locked) (ap (λ (f : ℕ → Bool). f t) (sym (fold_else has_matched traces s r j ne)) ∙ m))
  ]

  -- one that changes no lock of a task, and by which nothing more matches
  pub matched_beside : (n c x : ℕ) (r : Rec) → LOCK ≢ c → ((t : ℕ) → words t RQ / 4 ≢ 0 → put_at words n c x t RQ / 4 ≢ 0)
      → has_matched (r ∷ traces s) ≡ has_matched (traces s) → MatchedHolds (put_at words n c x) (put traces s (r ∷ traces s))
  matched_beside n c x r lock grows same =
      matched_step (put_at words n c x) r grows (λ j t ne locked. ap holder (sym (word_beside words n c x t LOCK lock)) ∙ locked)
      (λ t locked m. grows t (holds s t (ap holder (sym (word_beside words n c x t LOCK lock)) ∙ locked) (ap (λ (f : ℕ → Bool). f t) (sym same) ∙ m)))

  -- .. where it stores no queue word, or one more change
  pub grows_beside : (n c x : ℕ) → RQ ≢ c → (t : ℕ) → words t RQ / 4 ≢ 0 → put_at words n c x t RQ / 4 ≢ 0
  grows_beside n c x rq t started new = started (ap (λ (z : ℕ). z / 4) (sym (word_beside words n c x t RQ rq)) ∙ new)

  pub grows_next : (n x : ℕ) → x / 4 ≡ words n RQ / 4 + 1 → (t : ℕ) → words t RQ / 4 ≢ 0 → put_at words n RQ x t RQ / 4 ≢ 0
  grows_next n x next t started new = elim (cases_eq t n) [
    | inl e ↦ absurd (grind (arith, next, ap (λ (z : ℕ). z / 4) (sym (word_here words n RQ x)) ∙ subst (λ (k : ℕ). put_at words n RQ x k RQ / 4 ≡ 0) e new))
    | inr ne ↦ started (ap (λ (z : ℕ). z / 4) (sym (word_apart words n RQ x t RQ ne)) ∙ new)
  ]

  pub matched_still : (r : Rec) → has_matched (r ∷ traces s) ≡ has_matched (traces s) → MatchedHolds words (put traces s (r ∷ traces s))
  matched_still r same =
      matched_step words r (λ t e. e) (λ j t ne locked. locked) (λ t locked m. holds s t locked (ap (λ (f : ℕ → Bool). f t) (sym same) ∙ m))

  pub take_task_matched : (t : ℕ) (v : TaskVal) → MatchedHolds (put_at words t LOCK (suc s)) (put traces s (Took t (val.Task v) ∷ traces s))
  take_task_matched t v =
      matched_step (put_at words t LOCK (suc s)) (Took t (val.Task v)) grows
      (λ j u ne locked. elim (cases_eq u t) [
        | inl e ↦ absurd (ne (one_seat (Some s) s j refl
            (ap holder (sym (word_here words t LOCK (suc s))) ∙ subst (λ (k : ℕ). holder (put_at words t LOCK (suc s) k LOCK) ≡ Some j) e locked)))
        | inr apart ↦ ap holder (sym (word_apart words t LOCK (suc s) u LOCK apart)) ∙ locked
      ])
      (λ u locked m. elim (cases_eq u t) [
        | inl e ↦ absurd (grind (arith, sym (put_there (has_matched (traces s)) t false u e) ∙ m))
        | inr apart ↦ grows u (holds s u (ap holder (sym (word_apart words t LOCK (suc s) u LOCK apart)) ∙ locked)
            (sym (put_other (has_matched (traces s)) t false u apart) ∙ m))
      ])
    where
      grows : (u : ℕ) → words u RQ / 4 ≢ 0 → put_at words t LOCK (suc s) u RQ / 4 ≢ 0
      grows = grows_beside t LOCK (suc s) (λ q. omega (arith, q))

  pub give_task_matched : (t : ℕ) (taken given : TaskVal) → MatchedHolds (put_at words t LOCK 0) (put traces s (Gave t (val.Task taken) (val.Task given) ∷ traces s))
  give_task_matched t taken given =
      matched_step (put_at words t LOCK 0) (Gave t (val.Task taken) (val.Task given)) grows (λ j u ne locked. was j u locked) (λ u locked m. grows u (holds s u (was s u locked) m))
    where
      grows : (u : ℕ) → words u RQ / 4 ≢ 0 → put_at words t LOCK 0 u RQ / 4 ≢ 0
      grows = grows_beside t LOCK 0 (λ q. omega (arith, q))

      was : (j u : ℕ) → holder (put_at words t LOCK 0 u LOCK) ≡ Some j → holder (words u LOCK) ≡ Some j
      was j u locked = elim (cases_eq u t) [
        | inl e ↦ absurd (grind (arith, ap holder (sym (word_here words t LOCK 0)) ∙ subst (λ (k : ℕ). holder (put_at words t LOCK 0 k LOCK) ≡ Some j) e locked))
        | inr apart ↦ ap holder (sym (word_apart words t LOCK 0 u LOCK apart)) ∙ locked
      ]

  -- a load of the state: where it matches, the invariant of the core after it says that the task isn't new
  pub load_state_matched : (shape : Shape) (homes : Homes) (t : ℕ) (mask : Option State) (state : State)
      → Holds (core_after shape words homes traces s (LoadedState t mask state))
      → MatchedHolds words (put traces s (LoadedState t mask state ∷ traces s))
  load_state_matched shape homes t mask state after =
      matched_step words (LoadedState t mask state) (λ u e. e) (λ j u ne locked. locked) (λ u locked m. by_match (is_matched state mask) refl u locked m)
    where
      unstored_now : is_unstored (put traces s (LoadedState t mask state ∷ traces s) s) ≡ put_if (is_matched state mask) t true (is_unstored (traces s))
      unstored_now = fold_here is_unstored traces s (LoadedState t mask state) s refl

      by_match : (b : Bool) → b ≡ is_matched state mask → (u : ℕ) → holder (words u LOCK) ≡ Some s → put_if (is_matched state mask) t true (has_matched (traces s)) u ≡ true → words u RQ / 4 ≢ 0
      by_match false e u locked m = holds s u locked (subst (λ (c : Bool). put_if c t true (has_matched (traces s)) u ≡ true) (sym e) m)
      by_match true e u locked m = elim (cases_eq u t) [
        | inl same ↦ after.positions.matched.started s u locked
            (ap (λ (f : ℕ → Bool). f u) (unstored_now ∙ ap (λ (c : Bool). put_if c t true (is_unstored (traces s))) (sym e)) ∙ put_there (is_unstored (traces s)) t true u same)
        | inr apart ↦ holds s u locked (sym (put_other (has_matched (traces s)) t true u apart) ∙ subst (λ (c : Bool). put_if c t true (has_matched (traces s)) u ≡ true) (sym e) m)
      ]
