-- Each kind of step keeps what is known of tasks between two queues, and of the width of states.
use Rattle.std.proofs.Common.{◌≡◌, ◌≢◌, ℕ, ◌<◌, inl, inr, refl, sym, ap, subst, ◌∙◌, List, ◌∷◌, arith}
use Rattle.std.specs.Prelude.{◌%◌, ◌^◌, Bool, true, Option, Some}
use Rattle.std.proofs.lemmas.Bool.{cases_eq}
use Rattle.core_data.specs.Columns.{put, put_at}
use Rattle.core_stores.proofs.Columns.{put_there, put_other}
use Rattle.word_steps.proofs.Puts.{word_here, word_apart, word_beside}
use Rattle.word_steps.specs.TraceFacts.{MovingHolds, StatesFit}
use Rattle.word_steps.specs.Folds.{moving_after, is_moving}
use Rattle.word_steps.specs.Records.{Rec}
use Rattle.word_steps.specs.Words.{LOCK, STATE, RQ, holder}

pub states_put : (words : ℕ → ℕ → ℕ) (n c x : ℕ) → StatesFit words → (c ≡ STATE → x < 2 ^ 16) → StatesFit (put_at words n c x)
states_put words n c x fit small t = elim (cases_eq STATE c) [
  | inr ne ↦ subst (λ z. z < 2 ^ 16) (sym (word_beside words n c x t STATE ne)) (fit t)
  | inl e ↦ elim (cases_eq t n) [
    | inr apart ↦ subst (λ z. z < 2 ^ 16) (sym (word_apart words n c x t STATE apart)) (fit t)
    | inl same ↦ subst (λ z. z < 2 ^ 16) (sym (ap (put_at words n c x t) e ∙ ap (λ k. put_at words n c x k c) same ∙ word_here words n c x)) (small (sym e))
  ]
]

-- the seat that has the lock is one
pub one_seat : (o : Option ℕ) (s j : ℕ) → o ≡ Some s → o ≡ Some j → j ≡ s
one_seat o s j a b = grind (arith, a, b)

module _ (words : ℕ → ℕ → ℕ) (traces : ℕ → List Rec) (s : ℕ) where
  -- a step that changes no task's move
  same_moves : (r : Rec) → ((h : ℕ → Bool) → moving_after r h ≡ h) → (j : ℕ) → is_moving (put traces s (r ∷ traces s) j) ≡ is_moving (traces j)
  same_moves r quiet j = elim (cases_eq j s) [
    | inl e ↦ ap is_moving (put_there traces s (r ∷ traces s) j e) ∙ quiet (is_moving (traces s)) ∙ ap (λ (k : ℕ). is_moving (traces k)) (sym e)
    | inr ne ↦ ap is_moving (put_other traces s (r ∷ traces s) j ne)
  ]

  pub moving_quiet : (words' : ℕ → ℕ → ℕ) (r : Rec) → MovingHolds words traces → ((h : ℕ → Bool) → moving_after r h ≡ h)
      → ((t : ℕ) → words' t LOCK ≡ words t LOCK) → ((t : ℕ) → words' t RQ ≡ words t RQ) → MovingHolds words' (put traces s (r ∷ traces s))
  moving_quiet words' r holds quiet lock rq =
      record {
        known = λ j t m. let old = holds.known j t (ap (λ (f : ℕ → Bool). f t) (sym (same_moves r quiet j)) ∙ m) in (ap holder (lock t) ∙ old.0, ap (λ (z : ℕ). z % 4) (rq t) ∙ old.1);
        noted = λ j t locked moves. ap (λ (f : ℕ → Bool). f t) (same_moves r quiet j) ∙ holds.noted j t (ap holder (sym (lock t)) ∙ locked) (ap (λ (z : ℕ). z % 4) (sym (rq t)) ∙ moves);
      }

  -- a step that changes the lock or the queue word of t
  pub moving_change : (t : ℕ) (words' : ℕ → ℕ → ℕ) (r : Rec) (b : Bool) → MovingHolds words traces → ((h : ℕ → Bool) → moving_after r h ≡ put h t b)
      → ((u : ℕ) → u ≢ t → words' u LOCK ≡ words u LOCK) → ((u : ℕ) → u ≢ t → words' u RQ ≡ words u RQ)
      → ((j : ℕ) → j ≢ s → is_moving (traces j) t ≡ true → ⊥)
      → (b ≡ true → (holder (words' t LOCK) ≡ Some s) × (words' t RQ % 4 ≡ 2))
      → ((j : ℕ) → holder (words' t LOCK) ≡ Some j → words' t RQ % 4 ≡ 2 → (j ≡ s) × (b ≡ true))
      → MovingHolds words' (put traces s (r ∷ traces s))
  moving_change t words' r b holds change lock rq others here back =
      record {
        known = λ j u m. elim (cases_eq u t) [
          | inl e ↦ subst (λ (z : ℕ). (holder (words' z LOCK) ≡ Some j) × (words' z RQ % 4 ≡ 2)) (sym e)
              (known_here j (subst (λ (z : ℕ). is_moving (put traces s (r ∷ traces s) j) z ≡ true) e m))
          | inr ne ↦ let old = holds.known j u (sym (elsewhere j u ne) ∙ m) in (ap holder (lock u ne) ∙ old.0, ap (λ (z : ℕ). z % 4) (rq u ne) ∙ old.1)
        ];
        noted = λ j u locked moves. elim (cases_eq u t) [
          | inl e ↦ ap (is_moving (put traces s (r ∷ traces s) j)) e
              ∙ noted_here j (subst (λ (z : ℕ). holder (words' z LOCK) ≡ Some j) e locked) (subst (λ (z : ℕ). words' z RQ % 4 ≡ 2) e moves)
          | inr ne ↦ elsewhere j u ne ∙ holds.noted j u (ap holder (sym (lock u ne)) ∙ locked) (ap (λ (z : ℕ). z % 4) (sym (rq u ne)) ∙ moves)
        ];
      }
    where
      mine : (j : ℕ) → j ≡ s → is_moving (put traces s (r ∷ traces s) j) ≡ put (is_moving (traces s)) t b
      mine j e = ap is_moving (put_there traces s (r ∷ traces s) j e) ∙ change (is_moving (traces s))

      theirs : (j : ℕ) → j ≢ s → is_moving (put traces s (r ∷ traces s) j) ≡ is_moving (traces j)
      theirs j ne = ap is_moving (put_other traces s (r ∷ traces s) j ne)

      elsewhere : (j u : ℕ) → u ≢ t → is_moving (put traces s (r ∷ traces s) j) u ≡ is_moving (traces j) u
      elsewhere j u ne = elim (cases_eq j s) [
        | inl e ↦ ap (λ (f : ℕ → Bool). f u) (mine j e) ∙ put_other (is_moving (traces s)) t b u ne ∙ ap (λ (k : ℕ). is_moving (traces k) u) (sym e)
        | inr apart ↦ ap (λ (f : ℕ → Bool). f u) (theirs j apart)
      ]

      known_here : (j : ℕ) → is_moving (put traces s (r ∷ traces s) j) t ≡ true → (holder (words' t LOCK) ≡ Some j) × (words' t RQ % 4 ≡ 2)
      known_here j m = elim (cases_eq j s) [
        | inl e ↦ let so = here (sym (put_there (is_moving (traces s)) t b t refl) ∙ ap (λ (f : ℕ → Bool). f t) (sym (mine j e)) ∙ m) in (so.0 ∙ ap Some (sym e), so.1)
        | inr apart ↦ absurd (others j apart (ap (λ (f : ℕ → Bool). f t) (sym (theirs j apart)) ∙ m))
      ]

      noted_here : (j : ℕ) → holder (words' t LOCK) ≡ Some j → words' t RQ % 4 ≡ 2 → is_moving (put traces s (r ∷ traces s) j) t ≡ true
      noted_here j locked moves = let so = back j locked moves in ap (λ (f : ℕ → Bool). f t) (mine j so.0) ∙ put_there (is_moving (traces s)) t b t refl ∙ so.1
