-- The plain run of a forest: which lists are still there while its tasks are run one after another.
use Rattle.std.proofs.Common.{◌≡◌, ℕ, ◌+◌, ◌<◌, ◌≤◌, List, [], ◌∷◌, ◌++◌, length, map, get_or, Bool, true, false, ◌||◌, refl, sym, ap, ◌∙◌, subst, arith, append-nil, append_assoc, length-append, All}
use Rattle.std.proofs.Common.{zero-add}
use Rattle.std.specs.Prelude.{◌≢◌, AllPairs, slice_index_or, slice_set, nat_eq, nat_lt, if◌then◌else◌}
use Rattle.std.specs.List.{enumerate_from}
use Rattle.std.proofs.lemmas.Bool.Decides.{nat_tests}
use Rattle.std.proofs.lemmas.Grind.{flat_map-append}
use Rattle.std.proofs.lemmas.List.{length-set, length-map, get_or-map, get_or-set_other, get_or-set_same, get_or_append_left, get_or-append-add, ext_get_or}
use Rattle.std.proofs.lemmas.List.Elements.{All-append, All-weaker, All-nil}
use Rattle.std.proofs.lemmas.List.Folds.{list_any-append, list_any_none}
use Rattle.std.proofs.lemmas.List.FromFn.{length-enumerate_from, get_or-enumerate_from}
use Rattle.std.proofs.Math.Seq.{get_or-append_seam}
use Rattle.task_script.specs.Plan.{sides}
use Rattle.task_script.specs.Forest.{IsForest, reads}
use Rattle.task_script.specs.declared.plan.Plan.{Plan}
use Rattle.task_script.specs.declared.script.TaskDef.{TaskDef}
use Rattle.pipe_tasks.specs.Words.{Line}
use Rattle.pipe_tasks.specs.Plans.{lines_of}
use Rattle.pipe_tasks.specs.Tasks.{first_input, second_input, task_lines, all_lines, is_among, forest_lines, emptied}
use Rattle.pipe_tasks.proofs.RunLaws.{lines_after-append, length-lines_after}

-- ---- numbers that differ

-- tasks that are read once are pairwise different
abbrev pub Differ : ℕ → ℕ → Type 0
Differ s t = s ≢ t

distinct-left : (xs ys : List ℕ) → AllPairs Differ (xs ++ ys) → AllPairs Differ xs
distinct-left xs ys h i j d l m e =
    let more = length-append xs ys in
    let within : j < length (xs ++ ys) = omega arith in
    let before : i < length xs = omega arith in
    h i j d l within (get_or_append_left xs ys d i before ∙ e ∙ sym (get_or_append_left xs ys d j m))

distinct-right : (xs ys : List ℕ) → AllPairs Differ (xs ++ ys) → AllPairs Differ ys
distinct-right xs ys h i j d l m e =
    let more = length-append xs ys in
    let below : length xs + i < length xs + j = omega arith in
    let within : length xs + j < length (xs ++ ys) = omega arith in
    h (length xs + i) (length xs + j) d below within (get_or-append-add xs ys i d ∙ e ∙ sym (get_or-append-add xs ys j d))

differs : (s t : ℕ) → s ≢ t → nat_eq s t ≡ false
differs s t other = grind (arith, nat_tests)

none-at : (xs ys : List ℕ) (n t : ℕ) → n < length ys → ((d : ℕ) → get_or ys n d ≡ t) → AllPairs Differ (xs ++ ys) → is_among xs t ≡ false
none-at xs ys n t inside is once = list_any_none (λ s. nat_eq s t) xs (λ k d within.
    let more = length-append xs ys in
    let below : k < length xs + n = omega arith in
    let there : length xs + n < length (xs ++ ys) = omega arith in
    differs (get_or xs k d) t (λ e. once k (length xs + n) d below there (get_or_append_left xs ys d k within ∙ e ∙ sym (get_or-append-add xs ys n d ∙ is d))))

below_differs : (n s : ℕ) → s < n → nat_eq s n ≡ false
below_differs n s below = grind (arith, nat_tests)

none-above : (xs : List ℕ) (n : ℕ) → All (λ s. s < n) xs → is_among xs n ≡ false
none-above xs n below = list_any_none (λ s. nat_eq s n) xs (All-weaker (λ s. s < n) (λ s. nat_eq s n ≡ false) (below_differs n) xs below)

-- ---- the lists that are still there

-- a list whose task was taken is empty, and every other is as it was
pub record Kept (taken : List ℕ) (lists items : List (List Line)) : Type 0 where
  pub length_is : length items ≡ length lists
  pub each : (k : ℕ) → k < length lists → slice_index_or items k [] ≡ (if is_among taken k then [] else slice_index_or lists k [])

or-true : (a : Bool) → (a || true) ≡ true
or-true true = refl
or-true false = refl

or-false : (a : Bool) → (a || false) ≡ a
or-false true = refl
or-false false = refl

module _ (lists : List (List Line)) where
  takes : (taken : List ℕ) (items : List (List Line)) (t k : ℕ) (same : Bool) → nat_eq t k ≡ same → Kept taken lists items → k < length lists
      → slice_index_or (slice_set items t []) k [] ≡ (if is_among taken k || (same || false) then [] else slice_index_or lists k [])
  takes taken items t k true e kept within =
      let at : t ≡ k = grind (arith, nat_tests) in
      let long = kept.length_is in
      let inside : k < length items = omega arith in
      ap (λ z. slice_index_or (slice_set items z []) k []) at ∙ get_or-set_same items k [] [] inside ∙ ap (λ b. if b then [] else slice_index_or lists k []) (sym (or-true (is_among taken k)))
  takes taken items t k false e kept within =
      get_or-set_other items t k [] [] (λ (f : k ≡ t). let g : nat_eq t k ≡ true = grind (arith, nat_tests) in cc) ∙ kept.each k within
      ∙ ap (λ b. if b then [] else slice_index_or lists k []) (sym (or-false (is_among taken k)))

  Kept-take : (taken : List ℕ) (items : List (List Line)) (t : ℕ) → Kept taken lists items → Kept (taken ++ t ∷ []) lists (slice_set items t [])
  Kept-take taken items t kept = record {
    length_is = length-set items t [] ∙ kept.length_is;
    each = λ k within. takes taken items t k (nat_eq t k) refl kept within ∙ ap (λ b. if b then [] else slice_index_or lists k []) (sym (list_any-append (λ s. nat_eq s k) taken (t ∷ [])));
  }

  Kept-emptied : (taken from : List ℕ) (items : List (List Line)) → Kept taken lists items → Kept (taken ++ from) lists (emptied from items)
  Kept-emptied taken [] items kept = subst (λ z. Kept z lists items) (sym (append-nil taken)) kept
  Kept-emptied taken (t ∷ from) items kept =
      subst (λ z. Kept z lists (emptied from (slice_set items t []))) (append_assoc taken (t ∷ []) from)
      (Kept-emptied (taken ++ t ∷ []) from (slice_set items t []) (Kept-take taken items t kept))

  module _ (taken : List ℕ) (items : List (List Line)) (new : List Line) (none : is_among taken (length lists) ≡ false) (kept : Kept taken lists items) where
    pushes : (k : ℕ) (below : Bool) → nat_lt k (length lists) ≡ below → k < length (lists ++ new ∷ [])
        → slice_index_or (items ++ new ∷ []) k [] ≡ (if is_among taken k then [] else slice_index_or (lists ++ new ∷ []) k [])
    pushes k true e within =
        let inside : k < length lists = grind (arith, nat_tests) in
        let same = kept.length_is in
        let there : k < length items = omega arith in
        get_or_append_left items (new ∷ []) [] k there ∙ kept.each k inside ∙ ap (λ z. if is_among taken k then [] else z) (sym (get_or_append_left lists (new ∷ []) [] k inside))
    pushes k false e within =
        let above : length lists ≤ k = grind (arith, nat_tests) in
        let more = length-append lists (new ∷ []) in
        let at : k ≡ length lists = omega arith in
        let same = kept.length_is in
        let at_items : k ≡ length items = omega arith in
        ap (λ i. slice_index_or (items ++ new ∷ []) i []) at_items ∙ get_or-append_seam items new [] []
        ∙ sym (ap (λ i. if is_among taken i then [] else slice_index_or (lists ++ new ∷ []) i []) at
        ∙ ap (λ b. if b then [] else slice_index_or (lists ++ new ∷ []) (length lists) []) none ∙ get_or-append_seam lists new [] [])

    Kept-push : Kept taken (lists ++ new ∷ []) (items ++ new ∷ [])
    Kept-push =
        let more = length-append lists (new ∷ []) in
        let longer = length-append items (new ∷ []) in
        let same = kept.length_is in
        record { length_is = omega arith; each = λ k within. pushes k (nat_lt k (length lists)) refl within }

  kept_at : (taken : List ℕ) (items : List (List Line)) (t : ℕ) → Kept taken lists items → t < length items → is_among taken t ≡ false → slice_index_or items t [] ≡ slice_index_or lists t []
  kept_at taken items t kept within none =
      let same = kept.length_is in
      let inside : t < length lists = omega arith in
      kept.each t inside ∙ ap (λ b. if b then [] else slice_index_or lists t []) none

  kept-first : (taken from more : List ℕ) (items : List (List Line)) → Kept taken lists items → All (λ t. t < length items) from → AllPairs Differ (taken ++ (from ++ more))
      → first_input from items ≡ first_input from lists
  kept-first taken [] more items kept within once = refl
  kept-first taken (t ∷ from) more items kept within once = kept_at taken items t kept (within 0 t (omega arith)) (none-at taken (t ∷ (from ++ more)) 0 t (omega arith) (λ d. refl) once)

  kept-second : (taken from more : List ℕ) (items : List (List Line)) → Kept taken lists items → All (λ t. t < length items) from → AllPairs Differ (taken ++ (from ++ more))
      → second_input from items ≡ second_input from lists
  kept-second taken [] more items kept within once = refl
  kept-second taken (t ∷ []) more items kept within once = refl
  kept-second taken (t ∷ u ∷ from) more items kept within once = kept_at taken items u kept (within 1 u (omega arith)) (none-at taken (t ∷ u ∷ (from ++ more)) 1 u (omega arith) (λ d. refl) once)

  abbrev unless : List ℕ → ℕ × List Line → List Line
  unless taken e = if is_among taken e.0 then [] else e.1

  -- the lists that are left are those of the tasks that were not taken
  Kept-is : (taken : List ℕ) (items : List (List Line)) → Kept taken lists items → items ≡ map (λ (e : ℕ × List Line). if is_among taken e.0 then [] else e.1) (enumerate_from 0 lists)
  Kept-is taken items kept =
      let same = kept.length_is in
      let numbered = length-enumerate_from 0 lists in
      let mapped = length-map (enumerate_from 0 lists) (unless taken) in
      ext_get_or [] items (map (unless taken) (enumerate_from 0 lists)) (omega arith) (λ i within.
      let inside : i < length lists = omega arith in
      let there : i < length (enumerate_from 0 lists) = omega arith in
      kept.each i inside ∙ sym (get_or-map (unless taken) (enumerate_from 0 lists) i (0, []) [] there ∙ ap (unless taken) (get_or-enumerate_from 0 lists i (0, []) inside)
      ∙ ap (λ k. if is_among taken k then [] else slice_index_or lists i []) (zero-add i)))

-- ---- the tasks that are done, and those still to be run

pub record Foresting (tasks done rest : List TaskDef) (items : List (List Line)) : Type 0 where
  pub tasks_are : done ++ rest ≡ tasks
  pub below : All (λ s. s < length done) (reads done)
  pub kept : Kept (reads done) (all_lines done) items

pub Foresting-starts : (tasks : List TaskDef) → Foresting tasks [] tasks []
Foresting-starts tasks = record { tasks_are = refl; below = All-nil (λ s. s < 0); kept = record { length_is = refl; each = λ k l. absurd (omega arith) } }

pub Foresting-ends : (tasks done rest : List TaskDef) (items : List (List Line)) → length rest ≡ 0 → Foresting tasks done rest items → items ≡ forest_lines tasks
Foresting-ends tasks done [] items none f = Kept-is (all_lines done) (reads done) items f.kept ∙ ap forest_lines (sym (append-nil done) ∙ f.tasks_are)
Foresting-ends tasks done (d ∷ rest) items none f = absurd (omega arith)

module _ (tasks : List TaskDef) (forest : IsForest tasks) (done rest rest' : List TaskDef) (d : TaskDef) (items : List (List Line)) (f : Foresting tasks done rest' items)
    (next : rest' ≡ d ∷ rest) where
  split : done ++ d ∷ rest ≡ tasks
  split = ap (λ z. done ++ z) (sym next) ∙ f.tasks_are

  within : length done < length tasks
  within = let e = ap length split in let l = length-append done (d ∷ rest) in omega arith

  here : slice_index_or tasks (length done) d ≡ d
  here = ap (λ z. slice_index_or z (length done) d) (sym split) ∙ get_or-append_seam done d rest d

  length_items : length items ≡ length done
  length_items = let e = f.kept.length_is in let l = length-lines_after [] done in omega arith

  pub task-sides : length d.from ≡ sides d.plan
  task-sides = subst (λ z. length z.from ≡ sides z.plan) here (forest.inputs (length done) d within)

  earlier : All (λ s. s < length done) d.from
  earlier = subst (λ z. All (λ s. s < length done) z.from) here (forest.earlier (length done) d within)

  pub task-earlier : All (λ s. s < length items) d.from
  task-earlier = subst (λ n. All (λ s. s < n) d.from) (sym length_items) earlier

  all_reads : reads tasks ≡ reads done ++ (d.from ++ reads rest)
  all_reads = ap reads (sym split) ∙ flat_map-append (λ (e : TaskDef). e.from) done (d ∷ rest)

  distinct : AllPairs Differ (reads done ++ (d.from ++ reads rest))
  distinct = subst (λ z. AllPairs Differ z) all_reads forest.once

  pub task-once : AllPairs Differ d.from
  task-once = distinct-left d.from (reads rest) (distinct-right (reads done) (d.from ++ reads rest) distinct)

  reads_more : reads (done ++ d ∷ []) ≡ reads done ++ d.from
  reads_more = flat_map-append (λ (e : TaskDef). e.from) done (d ∷ []) ∙ ap (λ z. reads done ++ z) (append-nil d.from)

  below_all : All (λ s. s < length done) (reads done ++ d.from)
  below_all = All-append (λ s. s < length done) (reads done) d.from f.below earlier

  pub Foresting-steps : (new : List Line) (items' items'' : List (List Line)) → new ≡ lines_of d.plan (first_input d.from items) (second_input d.from items)
      → items' ≡ emptied d.from items → items'' ≡ items' ++ new ∷ [] → Foresting tasks (done ++ d ∷ []) rest items''
  Foresting-steps new items' items'' result taken pushed =
      let longer = length-append done (d ∷ []) in
      let long = length-lines_after [] done in
      let count : length done ≡ length (all_lines done) = omega arith in
      let none : is_among (reads done ++ d.from) (length (all_lines done)) ≡ false =
      none-above (reads done ++ d.from) (length (all_lines done)) (subst (λ n. All (λ s. s < n) (reads done ++ d.from)) count below_all) in
      let lines : new ≡ task_lines d (all_lines done)
      = result ∙ ap (λ x. lines_of d.plan x (second_input d.from items)) (kept-first (all_lines done) (reads done) d.from (reads rest) items f.kept task-earlier distinct)
      ∙ ap (λ y. lines_of d.plan (first_input d.from (all_lines done)) y) (kept-second (all_lines done) (reads done) d.from (reads rest) items f.kept task-earlier distinct) in
      let kept : Kept (reads done ++ d.from) (all_lines done ++ new ∷ []) (emptied d.from items ++ new ∷ [])
      = Kept-push (all_lines done) (reads done ++ d.from) (emptied d.from items) new none (Kept-emptied (all_lines done) (reads done) d.from items f.kept) in
      let lists : all_lines done ++ new ∷ [] ≡ all_lines (done ++ d ∷ []) = ap (λ z. all_lines done ++ z ∷ []) lines ∙ sym (lines_after-append [] done (d ∷ [])) in
      let those : emptied d.from items ++ new ∷ [] ≡ items'' = ap (λ z. z ++ new ∷ []) (sym taken) ∙ sym pushed in
      record {
        tasks_are = append_assoc done (d ∷ []) rest ∙ split;
        below = subst (λ z. All (λ s. s < length (done ++ d ∷ [])) z) (sym reads_more) (All-weaker (λ s. s < length done) (λ s. s < length (done ++ d ∷ []))
            (λ s l. omega arith) (reads done ++ d.from) below_all);
        kept =
            subst
            (λ z. Kept z (all_lines (done ++ d ∷ [])) items'') (sym reads_more)
            (subst (λ z. Kept (reads done ++ d.from) z items'') lists (subst (λ z. Kept (reads done ++ d.from) (all_lines done ++ new ∷ []) z) those kept));
      }

-- the lists of the two tasks that a plan reads, one taken after the other
pub two_taken : (p : Plan) (from : List ℕ) (items between : List (List Line)) (left right : List Line) → length from ≡ 2 → AllPairs Differ from
    → left ≡ slice_index_or items (get_or from 0 0) [] → between ≡ slice_set items (get_or from 0 0) [] → right ≡ slice_index_or between (get_or from 1 0) []
    → lines_of p left right ≡ lines_of p (first_input from items) (second_input from items)
two_taken p [] items between left right two once first taken second = absurd (omega arith)
two_taken p (t ∷ []) items between left right two once first taken second = absurd (omega arith)
two_taken p (t ∷ u ∷ []) items between left right two once first taken second =
    let other : u ≢ t = λ e. once 0 1 0 (omega arith) (omega arith) (sym e) in
    ap (λ x. lines_of p x right) first ∙ ap (λ y. lines_of p (slice_index_or items t []) y) (second ∙ ap (λ z. slice_index_or z u []) taken ∙ get_or-set_other items t u [] [] other)
two_taken p (t ∷ u ∷ v ∷ from) items between left right two once first taken second = absurd (omega arith)
