-- No number of changes is below one that was read: kept by each kind of step.
use Rattle.std.proofs.Common.{◌≡◌, ◌≢◌, ℕ, ◌≤◌, inl, inr, sym, ap, subst, ◌∙◌, List, [], ◌∷◌, arith}
use Rattle.std.specs.Prelude.{◌+◌, ◌/◌, Option, Some, None}
use Rattle.std.proofs.lemmas.Bool.{cases_eq}
use Rattle.core_data.specs.Columns.{put, put_at}
use Rattle.core_data.specs.declared.values.TaskVal.{TaskVal}
use Rattle.core_stores.proofs.Columns.{put_there, put_other}
use Rattle.word_rule.specs.Standing.{GrownHolds}
use Rattle.word_steps.proofs.Puts.{word_here, word_apart, word_beside, fold_here, fold_else}
use Rattle.word_steps.specs.Folds.{number_read}
use Rattle.word_steps.specs.Records.{Rec, Took, LoadedRq}
use Rattle.word_steps.specs.Words.{LOCK, RQ}
use Rattle.word_steps.specs.declared.val.Val.TheVariants as val

pub grown_start : (words : ℕ → ℕ → ℕ) → GrownHolds words (λ s. [])
grown_start words s t m e = absurd (grind (arith, e))

-- of a number that is there
pub same_number : (m n : ℕ) → ◌≡◌ {A = Option ℕ} (Some m) (Some n) → m ≡ n
same_number m n e = grind (arith, e)

module _ (words : ℕ → ℕ → ℕ) (traces : ℕ → List Rec) (s : ℕ) (holds : GrownHolds words traces) where
  -- a step by which no number falls
  pub grown_step : (words' : ℕ → ℕ → ℕ) (r : Rec) → ((t : ℕ) → words t RQ / 4 ≤ words' t RQ / 4)
      → ((t m : ℕ) → number_read (r ∷ traces s) t ≡ Some m → m ≤ words' t RQ / 4)
      → GrownHolds words' (put traces s (r ∷ traces s))
  grown_step words' r grows mine j t m e = elim (cases_eq j s) [
    | inl q ↦ mine t m (ap (λ (f : ℕ → Option ℕ). f t) (sym (fold_here number_read traces s r j q)) ∙ e)
    | inr ne ↦ let old = holds j t m (ap (λ (f : ℕ → Option ℕ). f t) (sym (fold_else number_read traces s r j ne))
        ∙ e) in omega (arith, old, grows t)
  ]

  -- one that changes no queue word, and reads no number
  pub grown_beside : (n c x : ℕ) (r : Rec) → RQ ≢ c → number_read (r ∷ traces s) ≡ number_read (traces s)
      → GrownHolds (put_at words n c x) (put traces s (r ∷ traces s))
  grown_beside n c x r rq same =
      grown_step (put_at words n c x) r (λ t. as_was t (words t RQ / 4) (omega arith))
      (λ t m e. as_was t m (holds s t m (ap (λ (f : ℕ → Option ℕ). f t) (sym same) ∙ e)))
    where
      as_was : (t m : ℕ) → m ≤ words t RQ / 4 → m ≤ put_at words n c x t RQ / 4
      as_was t m h = subst (λ (z : ℕ). m ≤ z / 4) (sym (word_beside words n c x t RQ rq)) h

  pub grown_still : (r : Rec) → number_read (r ∷ traces s) ≡ number_read (traces s)
      → GrownHolds words (put traces s (r ∷ traces s))
  grown_still r same =
      grown_step words r (λ t. omega arith) (λ t m e. holds s t m (ap (λ (f : ℕ → Option ℕ). f t) (sym same) ∙ e))

  pub take_task_grown : (n x : ℕ) (v : TaskVal)
      → GrownHolds (put_at words n LOCK x) (put traces s (Took n (val.Task v) ∷ traces s))
  take_task_grown n x v =
      grown_step (put_at words n LOCK x) (Took n (val.Task v)) (λ t. as_was t (words t RQ / 4) (omega arith))
      (λ t m e. as_was t m (elim (cases_eq t n) [
        | inl q ↦ absurd (grind (arith, sym (put_there (number_read (traces s)) n None t q) ∙ e))
        | inr apart ↦ holds s t m (sym (put_other (number_read (traces s)) n None t apart) ∙ e)
      ]))
    where
      as_was : (t m : ℕ) → m ≤ words t RQ / 4 → m ≤ put_at words n LOCK x t RQ / 4
      as_was t m h = subst (λ (z : ℕ). m ≤ z / 4) (sym (word_beside words n LOCK x t RQ (λ q. omega (arith, q)))) h

  pub load_rq_grown : (n on : ℕ) → GrownHolds words (put traces s (LoadedRq n on (words n RQ / 4) ∷ traces s))
  load_rq_grown n on =
      grown_step words (LoadedRq n on (words n RQ / 4)) (λ t. omega arith) (λ t m e. elim (cases_eq t n) [
        | inl q ↦ let same = same_number (words n RQ / 4) m
            (sym (put_there (number_read (traces s)) n (Some (words n RQ / 4)) t q) ∙ e) in
            subst (λ (k : ℕ). m ≤ words k RQ / 4) (sym q) (omega (arith, same))
        | inr apart ↦ holds s t m (sym (put_other (number_read (traces s)) n (Some (words n RQ / 4)) t apart) ∙ e)
      ])

  -- a store of a queue word with the next number
  pub next_grown : (n x : ℕ) (r : Rec) → x / 4 ≡ words n RQ / 4 + 1
      → number_read (r ∷ traces s) ≡ put (number_read (traces s)) n (Some (words n RQ / 4 + 1))
      → GrownHolds (put_at words n RQ x) (put traces s (r ∷ traces s))
  next_grown n x r next change =
      grown_step (put_at words n RQ x) r (λ t. grows t) (λ t m e. elim (cases_eq t n) [
        | inl q ↦ let same = same_number (words n RQ / 4 + 1) m
            (sym (put_there (number_read (traces s)) n (Some (words n RQ / 4 + 1)) t q)
            ∙ ap (λ (f : ℕ → Option ℕ). f t) (sym change) ∙ e) in
            subst (λ (k : ℕ). m ≤ put_at words n RQ x k RQ / 4) (sym q)
            (subst (λ (z : ℕ). m ≤ z / 4) (sym (word_here words n RQ x)) (omega (arith, same, next)))
        | inr apart ↦ let old = holds s t m (sym
            (put_other (number_read (traces s)) n (Some (words n RQ / 4 + 1)) t apart) ∙ ap
            (λ (f : ℕ → Option ℕ). f t) (sym change) ∙ e) in
            omega (arith, old, grows t)
      ])
    where
      grows : (t : ℕ) → words t RQ / 4 ≤ put_at words n RQ x t RQ / 4
      grows t = elim (cases_eq t n) [
        | inl q ↦ subst (λ (k : ℕ). words k RQ / 4 ≤ put_at words n RQ x k RQ / 4) (sym q)
            (subst (λ (z : ℕ). words n RQ / 4 ≤ z / 4) (sym (word_here words n RQ x)) (omega (arith, next)))
        | inr apart ↦ subst (λ (z : ℕ). words t RQ / 4 ≤ z / 4) (sym (word_apart words n RQ x t RQ apart)) (omega arith)
      ]
