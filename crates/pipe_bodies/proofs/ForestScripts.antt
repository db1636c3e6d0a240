-- A forest is a script whose tasks can be joined one after another.
use Rattle.std.proofs.Common.{◌≡◌, ◌≢◌, ℕ, ◌+◌, ◌<◌, List, [], ◌∷◌, ◌++◌, length, get_or, Bool, true, false, ◌||◌, refl, sym, ap, ◌∙◌, subst, arith, append-nil, append_assoc, length-append, All}
use Rattle.std.specs.Prelude.{AllPairs, slice_index_or, nat_eq}
use Rattle.std.specs.List.{list_any}
use Rattle.std.proofs.lemmas.Bool.Decides.{nat_tests}
use Rattle.std.proofs.lemmas.Grind.{flat_map-append}
use Rattle.std.proofs.lemmas.List.{get_or_append_left}
use Rattle.std.proofs.lemmas.List.Elements.{All-head, All-tail}
use Rattle.std.proofs.lemmas.List.Folds.{list_any-append, list_any_none}
use Rattle.std.proofs.Math.Seq.{get_or-append_seam}
use Rattle.task_script.specs.Plan.{sides}
use Rattle.task_script.specs.Forest.{IsForest, reads}
use Rattle.task_script.specs.declared.script.TaskDef.{TaskDef}
use Rattle.pipe_tasks.specs.Tasks.{is_among}
use Rattle.pipe_bodies.specs.Nets.{NotIn, IsReading, reads_on, reads_after, CanBeJoinedAfter, CanBeJoined}

abbrev Differ : ℕ → ℕ → Type 0
Differ s t = s ≢ t

abbrev is_in : List ℕ → ℕ → Bool
is_in xs t = list_any (λ s. nat_eq s t) xs

differs : (s t : ℕ) → s ≢ t → nat_eq s t ≡ false
differs s t other = grind (arith, nat_tests)

differs-back : (s t : ℕ) → nat_eq s t ≡ false → t ≢ s
differs-back s t e f = let g : nat_eq s t ≡ true = grind (arith, nat_tests) in cc

not-left : (a b : Bool) → (a || b) ≡ false → a ≡ false
not-left true b e = e
not-left false b e = refl

not-right : (a b : Bool) → (a || b) ≡ false → b ≡ false
not-right true b e = cc
not-right false b e = e

none-before : (xs ys : List ℕ) (t : ℕ) → AllPairs Differ (xs ++ t ∷ ys) → is_in xs t ≡ false
none-before xs ys t once = list_any_none (λ s. nat_eq s t) xs (λ k d within.
    let more = length-append xs (t ∷ ys) in
    let there : length xs < length (xs ++ t ∷ ys) = omega arith in
    differs (get_or xs k d) t (λ e. once k (length xs) d within there (get_or_append_left xs (t ∷ ys) d k within ∙ e ∙ sym (get_or-append_seam xs t ys d))))

-- the tasks that one task reads, after tasks of which these were read
record Reading (n : ℕ) (seen acc from : List ℕ) : Type 0 where
  reading : IsReading n acc from
  others : (x : ℕ) → is_in (seen ++ from) x ≡ false → NotIn (reads_on from acc) x

module _ (n : ℕ) (rest : List ℕ) where
  reading_of : (from seen acc : List ℕ) → AllPairs Differ (seen ++ (from ++ rest)) → All (λ s. s < n) from → ((x : ℕ) → is_in seen x ≡ false → NotIn acc x) → Reading n seen acc from
  reading_of [] seen acc once earlier known = record { reading = tt; others = λ x e. known x (subst (λ z. is_in z x ≡ false) (append-nil seen) e) }
  reading_of (t ∷ from) seen acc once earlier known =
      let fresh : NotIn acc t = known t (none-before seen (from ++ rest) t once) in
      let after = reading_of from (seen ++ t ∷ []) (t ∷ acc)
      (subst (λ z. AllPairs Differ z) (sym (append_assoc seen (t ∷ []) (from ++ rest))) once)
      (All-tail (λ s. s < n) t from earlier)
      (λ x e.
      let both : (is_in seen x || (nat_eq t x || false)) ≡ false = sym (list_any-append (λ s. nat_eq s x) seen (t ∷ [])) ∙ e in
      (differs-back t x (not-left (nat_eq t x) false (not-right (is_in seen x) (nat_eq t x || false) both)), known x (not-left (is_in seen x) (nat_eq t x || false) both))) in
      record {
        reading = (All-head (λ s. s < n) t from earlier, fresh, after.reading);
        others = λ x e. after.others x (subst (λ z. is_in z x ≡ false) (sym (append_assoc seen (t ∷ []) from)) e);
      }

-- a task that nobody reads is in no list of tasks that were read
not_from : (from acc : List ℕ) (t : ℕ) → is_in from t ≡ false → NotIn acc t → NotIn (reads_on from acc) t
not_from [] acc t e n = n
not_from (x ∷ from) acc t e n = not_from from (x ∷ acc) t (not-right (nat_eq x t) (is_in from t) e) (differs-back x t (not-left (nat_eq x t) (is_in from t) e), n)

pub not_read : (ds : List TaskDef) (acc : List ℕ) (t : ℕ) → is_among (reads ds) t ≡ false → NotIn acc t → NotIn (reads_after acc ds) t
not_read [] acc t e n = n
not_read (d ∷ ds) acc t e n =
    let both : (is_in d.from t || is_in (reads ds) t) ≡ false = sym (list_any-append (λ s. nat_eq s t) d.from (reads ds)) ∙ e in
    not_read ds (reads_on d.from acc) t (not-right (is_in d.from t) (is_in (reads ds) t) both) (not_from d.from acc t (not-left (is_in d.from t) (is_in (reads ds) t) both) n)

module _ (tasks : List TaskDef) (forest : IsForest tasks) where
  script_after : (ds done : List TaskDef) (acc : List ℕ) → done ++ ds ≡ tasks → ((x : ℕ) → is_in (reads done) x ≡ false → NotIn acc x) → CanBeJoinedAfter (length done) acc ds
  script_after [] done acc e known = tt
  script_after (d ∷ ds) done acc e known =
      let whole = ap length e in
      let more = length-append done (d ∷ ds) in
      let within : length done < length tasks = omega arith in
      let here : slice_index_or tasks (length done) d ≡ d = ap (λ z. slice_index_or z (length done) d) (sym e) ∙ get_or-append_seam done d ds d in
      let inputs : length d.from ≡ sides d.plan = subst (λ z. length z.from ≡ sides z.plan) here (forest.inputs (length done) d within) in
      let earlier : All (λ s. s < length done) d.from = subst (λ z. All (λ s. s < length done) z.from) here (forest.earlier (length done) d within) in
      let split : reads tasks ≡ reads done ++ (d.from ++ reads ds) = ap reads (sym e) ∙ flat_map-append (λ (t : TaskDef). t.from) done (d ∷ ds) in
      let once : AllPairs Differ (reads done ++ (d.from ++ reads ds)) = subst (λ z. AllPairs Differ z) split forest.once in
      let one = reading_of (length done) (reads ds) d.from (reads done) acc once earlier known in
      let longer : length (done ++ d ∷ []) ≡ length done + 1 = length-append done (d ∷ []) in
      let read : reads (done ++ d ∷ []) ≡ reads done ++ d.from = flat_map-append (λ (t : TaskDef). t.from) done (d ∷ []) ∙ ap (λ z. reads done ++ z) (append-nil d.from) in (
        inputs,
        one.reading,
        subst (λ n. CanBeJoinedAfter n (reads_on d.from acc) ds) longer
            (script_after ds (done ++ d ∷ []) (reads_on d.from acc) (append_assoc done (d ∷ []) ds ∙ e) (λ x h. one.others x (subst (λ z. is_in z x ≡ false) read h))),
      )

  pub forest_joined : CanBeJoined tasks
  forest_joined = script_after tasks [] [] refl (λ x e. tt)
