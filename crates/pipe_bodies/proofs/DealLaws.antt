-- Works that are dealt by number.
use Rattle.std.proofs.Common.{rules, ◌≡◌, ◌≢◌, ℕ, zero, suc, ◌+◌, ◌<◌, ◌≤◌, Bool, true, false, List, [], ◌∷◌, ◌++◌, length, map, get_or, set, take, drop, refl, sym, ap, subst, ◌∙◌, All, arith}
use Rattle.std.proofs.Common.{append-nil, append_assoc, length-append}
use Rattle.std.specs.Prelude.{Option, Some, None, IsSome, IfSome, IfOk, Result, Ok, Err, AllPairs, slice_index_or, slice_set}
use Rattle.std.specs.List.{flat_map, cons_option}
use Rattle.std.specs.Option.{is_some, option_map}
use Rattle.std.proofs.lemmas.List.{get_or-map, get_or-set_other, map-set, map_push, drop_more, take_more, take-append-drop, length-map, get_or_append_left}
use Rattle.std.proofs.lemmas.List.Elements.{filter_map-append}
use Rattle.std.proofs.Math.Seq.{get_or-append_seam}
use Rattle.task_script.specs.Plan.{sides, is_table}
use Rattle.task_script.specs.Valid.{works_of, AreCustoms}
use Rattle.task_script.specs.Forest.{IsForest, reads}
use Rattle.task_script.specs.declared.plan.Plan.{Plan}
use Rattle.task_script.specs.declared.plan.Plan.TheVariants.{Lines, Count, Upper, Number, Keep, Drop, Tally, Cat, Weave, Pin, Table}
use Rattle.task_script.specs.declared.script.TaskDef.{TaskDef}
use Rattle.pipe_tasks.specs.Tasks.{plan_by, meaning_of, meant, meant_tasks}
use Rattle.pipe_bodies.specs.Courses.{is_left, dealt_plan, left_after, seen_works}
use Rattle.pipe_bodies.specs.Bodies.{Lasting, BodyView}
use Rattle.pipe_bodies.specs.Nets.{plan_for, with_plan, with_plans, begun_in, begun_tasks, lasting_of, IsNet, IsNetAfter}
use Rattle.pipe_bodies.specs.Rings.{Ring}

abbrev Differ : ℕ → ℕ → Type 0
Differ n m = n ≢ m

-- ---- one work

some_none : {X : Type 0} (o : Option X) → IsSome o → o ≡ None → ⊥
some_none None s e = cc
some_none (Some x) s e = cc

module _ {W : Type 0} (meaning : W → Plan) where
  -- a work that is still there has a place
  pub has_place : (works : List (Option W)) (n : ℕ) → IsSome (is_left (seen_works meaning works) n) → n < length works
  has_place [] n s = absurd (some_none (is_left [] n) s refl)
  has_place (w ∷ works) zero s = omega arith
  has_place (w ∷ works) (suc n) s = let below = has_place works n s in omega arith

  seen_at : (works : List (Option W)) (n : ℕ) (d : Option W) → n < length works → is_left (seen_works meaning works) n ≡ option_map meaning (get_or works n d)
  seen_at works n d l = get_or-map (option_map meaning) works n d None l

  pub work_at : (works : List (Option W)) (n : ℕ) (o d : Option W) (w : W) → n < length works → o ≡ get_or works n d → o ≡ Some w → Some (meaning w) ≡ is_left (seen_works meaning works) n
  work_at works n o d w l e f = sym (seen_at works n d l ∙ ap (option_map meaning) (sym e ∙ f))

  pub none_at : (works : List (Option W)) (n : ℕ) (o d : Option W) → n < length works → o ≡ get_or works n d → o ≡ None → IsSome (is_left (seen_works meaning works) n) → ⊥
  none_at works n o d l e f s = some_none (is_left (seen_works meaning works) n) s (seen_at works n d l ∙ ap (option_map meaning) (sym e ∙ f))

  pub left_at : (works : List (Option W)) (n : ℕ) → seen_works meaning (set works n None) ≡ left_after (seen_works meaning works) (Some n)
  left_at works n = map-set (option_map meaning) works n None

  pub all_seen : (works : List W) → seen_works meaning (map Some works) ≡ map Some (map meaning works)
  all_seen [] = refl
  all_seen (w ∷ works) = ap (λ z. Some (meaning w) ∷ z) (all_seen works)

pub all_at_end : {X : Type 0} (ys rest zs : List X) → length rest ≡ 0 → ys ++ rest ≡ zs → ys ≡ zs
all_at_end ys [] zs l e = sym (append-nil ys) ∙ e
all_at_end ys (x ∷ rest) zs l e = absurd (omega arith)

-- ---- all tasks, where works mean these plans

-- a work is left whose number no task of these has
abbrev LeftBy : List Plan → List TaskDef → List (Option Plan) → Type 0
LeftBy works before left = (n : ℕ) → All (λ m. m ≢ n) (works_of before) → is_left left n ≡ is_left (map Some works) n

pub record Dealt (works : List Plan) (before : List TaskDef) (plans : List Plan) (left : List (Option Plan)) : Type 0 where
  pub plans_are : plans ≡ map (plan_by works) before
  pub sides_are : map sides plans ≡ map sides (map plan_for before)
  pub left_by : LeftBy works before left

pub dealt-none : (works : List Plan) → Dealt works [] [] (map Some works)
dealt-none works = record { plans_are = refl; sides_are = refl; left_by = λ n e. refl }

pub table_sides : (p : Plan) → is_table p ≡ true → sides p ≡ 1
table_sides (Lines l) e = cc
table_sides (Count n l) e = cc
table_sides Upper e = refl
table_sides (Number n) e = refl
table_sides (Keep f) e = refl
table_sides (Drop f) e = refl
table_sides (Tally n) e = refl
table_sides (Cat turn) e = cc
table_sides (Weave turn ended) e = cc
table_sides (Pin n on) e = refl
table_sides (Table table ends) e = refl

works_none : (d : TaskDef) (after : List TaskDef) → d.custom ≡ None → works_of (d ∷ after) ≡ works_of after
works_none d after e = ap (λ o. cons_option o (works_of after)) e

works_some : (d : TaskDef) (after : List TaskDef) (n : ℕ) → d.custom ≡ Some n → works_of (d ∷ after) ≡ n ∷ works_of after
works_some d after n e = ap (λ o. cons_option o (works_of after)) e

works_push_none : (before : List TaskDef) (d : TaskDef) → d.custom ≡ None → works_of (before ++ d ∷ []) ≡ works_of before
works_push_none before d e = filter_map-append (λ (t : TaskDef). t.custom) before (d ∷ []) ∙ ap (λ z. works_of before ++ z) (works_none d [] e) ∙ append-nil (works_of before)

works_push_some : (before : List TaskDef) (d : TaskDef) (n : ℕ) → d.custom ≡ Some n → works_of (before ++ d ∷ []) ≡ works_of before ++ n ∷ []
works_push_some before d n e = filter_map-append (λ (t : TaskDef). t.custom) before (d ∷ []) ∙ ap (λ z. works_of before ++ z) (works_some d [] n e)

-- a number of which the numbers before differ
differ_before : (before after : List ℕ) (n : ℕ) → AllPairs Differ (before ++ n ∷ after) → All (λ m. m ≢ n) before
differ_before before after n once = λ k d within e.
    let more = length-append before (n ∷ after) in
    let there : length before < length (before ++ n ∷ after) = omega arith in
    once k (length before) d within there (get_or_append_left before (n ∷ after) d k within ∙ e ∙ sym (get_or-append_seam before n after d))

-- each has the place of its number
below_at : (before after : List ℕ) (n k : ℕ) → All (λ m. m < k) (before ++ n ∷ after) → n < k
below_at before after n k all =
    let more = length-append before (n ∷ after) in
    let there : length before < length (before ++ n ∷ after) = omega arith in
    subst (λ z. z < k) (get_or-append_seam before n after n) (all (length before) n there)

apart_before : (before : List ℕ) (n m : ℕ) → All (λ k. k ≢ m) (before ++ n ∷ []) → All (λ k. k ≢ m) before
apart_before before n m all = λ k d within.
    let more = length-append before (n ∷ []) in
    let there : k < length (before ++ n ∷ []) = omega arith in
    λ e. all k d there (get_or_append_left before (n ∷ []) d k within ∙ e)

apart_at : (before : List ℕ) (n m : ℕ) → All (λ k. k ≢ m) (before ++ n ∷ []) → m ≢ n
apart_at before n m all = λ e.
    let more = length-append before (n ∷ []) in
    let there : length before < length (before ++ n ∷ []) = omega arith in
    all (length before) n there (get_or-append_seam before n [] n ∙ sym e)

some_value : {X : Type 0} → X → Option X → X
some_value x None = x
some_value x (Some y) = y

some_inj : {X : Type 0} {x y : X} → Some x ≡ Some y → x ≡ y
unfolding some_value
some_inj {X} {x} {y} e = ap (some_value x) e

some_at : (works : List Plan) (n : ℕ) (p : Plan) → n < length works → is_left (map Some works) n ≡ Some (slice_index_or works n p)
some_at works n p l = get_or-map Some works n p None l

some_is : {X : Type 0} (o : Option X) (x : X) → o ≡ Some x → IsSome o
some_is None x e = absurd cc
some_is (Some y) x e = search rules

module _ (works : List Plan) (tasks : List TaskDef) (i : ℕ) (d : TaskDef) (l : i < length tasks) (e : d ≡ get_or tasks i d) (c : AreCustoms (length works) tasks) where
  split : works_of tasks ≡ works_of (take i tasks) ++ works_of (d ∷ drop (i + 1) tasks)
  split = ap works_of (sym (take-append-drop i tasks)) ∙ ap (λ z. works_of (take i tasks ++ z)) (drop_more tasks i d l ∙ ap (λ z. z ∷ drop (i + 1) tasks) (sym e))
      ∙ filter_map-append (λ (t : TaskDef). t.custom) (take i tasks) (d ∷ drop (i + 1) tasks)

  more_tasks : take (i + 1) tasks ≡ take i tasks ++ d ∷ []
  more_tasks = take_more tasks i d l ∙ ap (λ z. take i tasks ++ z ∷ []) (sym e)

  module _ (plans : List Plan) (left : List (Option Plan)) (s : Dealt works (take i tasks) plans left) where
    split_at : (n : ℕ) → d.custom ≡ Some n → works_of tasks ≡ works_of (take i tasks) ++ n ∷ works_of (drop (i + 1) tasks)
    split_at n f = split ∙ ap (λ z. works_of (take i tasks) ++ z) (works_some d (drop (i + 1) tasks) n f)

    within_works : (n : ℕ) → d.custom ≡ Some n → n < length works
    within_works n f = below_at (works_of (take i tasks)) (works_of (drop (i + 1) tasks)) n (length works) (subst (λ z. All (λ m. m < length works) z) (split_at n f) c.below)

    -- the work of a task is still there, and means this
    there_at : (n : ℕ) → d.custom ≡ Some n → is_left left n ≡ Some (slice_index_or works n d.plan)
    there_at n f =
        s.left_by n (differ_before (works_of (take i tasks)) (works_of (drop (i + 1) tasks)) n (subst (λ z. AllPairs Differ z) (split_at n f) c.once))
        ∙ some_at works n d.plan (within_works n f)

    there_in : (o : Option ℕ) → d.custom ≡ o → IfSome o (λ n. IsSome (is_left left n))
    there_in None f = tt
    there_in (Some n) f = some_is (is_left left n) (slice_index_or works n d.plan) (there_at n f)

    pub dealt-there : IfSome d.custom (λ n. IsSome (is_left left n))
    dealt-there = there_in d.custom refl

    dealt_in : (o : Option ℕ) → d.custom ≡ o → dealt_plan left o d.plan ≡ Some (meaning_of works o d.plan)
    dealt_in None f = refl
    dealt_in (Some n) f = there_at n f

    left_in : (o : Option ℕ) → d.custom ≡ o → LeftBy works (take i tasks ++ d ∷ []) (left_after left o)
    left_in None f = λ n apart. s.left_by n (subst (λ z. All (λ m. m ≢ n) z) (works_push_none (take i tasks) d f) apart)
    left_in (Some k) f = λ n apart.
        let apart' : All (λ m. m ≢ n) (works_of (take i tasks) ++ k ∷ []) = subst (λ z. All (λ m. m ≢ n) z) (works_push_some (take i tasks) d k f) apart in
        get_or-set_other left k n None None (apart_at (works_of (take i tasks)) k n apart') ∙ s.left_by n (apart_before (works_of (take i tasks)) k n apart')

    pub dealt-one : (p : Plan) (left' : List (Option Plan)) → Some p ≡ dealt_plan left d.custom d.plan → sides p ≡ sides d.plan → left' ≡ left_after left d.custom
        → Dealt works (take (i + 1) tasks) (plans ++ p ∷ []) left'
    dealt-one p left' f same g =
        let this : p ≡ plan_by works d = some_inj (f ∙ dealt_in d.custom refl) in
        rw (more_tasks, g, this) (record {
          plans_are = ap (λ z. z ++ plan_by works d ∷ []) s.plans_are ∙ sym (map_push (plan_by works) (take i tasks) d);
          sides_are = map_push sides plans (plan_by works d) ∙ ap (λ z. z ++ sides (plan_by works d) ∷ []) s.sides_are
              ∙ ap (λ z. map sides (map plan_for (take i tasks)) ++ z ∷ []) (ap sides (sym this) ∙ same)
              ∙ sym (map_push sides (map plan_for (take i tasks)) d.plan) ∙ ap (map sides) (sym (map_push plan_for (take i tasks) d));
          left_by = left_in d.custom refl;
        })

  table_at : (o : Option ℕ) → d.custom ≡ o → IsSome d.custom → sides d.plan ≡ 1
  table_at None f some = absurd (some_none d.custom some f)
  table_at (Some n) f some =
      let fits : is_some d.custom ≡ is_table d.plan = subst (λ z. is_some z.custom ≡ is_table z.plan) (sym e) (c.plans i d l) in
      table_sides d.plan (sym fits ∙ ap is_some f)

  pub custom-one : IsSome d.custom → sides d.plan ≡ 1
  custom-one = table_at d.custom refl

pub are_customs : (works : List Plan) (tasks : List TaskDef) (n : ℕ) → length works ≡ n → AreCustoms n tasks → AreCustoms (length works) tasks
are_customs works tasks n e c = subst (λ z. AreCustoms z tasks) (sym e) c

-- ---- the tasks as they are meant

pub meant_plans : (works : List Plan) (tasks : List TaskDef) → with_plans tasks (map (plan_by works) tasks) ≡ meant_tasks works tasks
meant_plans works [] = refl
meant_plans works (d ∷ tasks) = ap (λ z. meant works d ∷ z) (meant_plans works tasks)

begun_after : (outs : List (Option Ring)) (ds : List TaskDef) (ls : List Lasting) → IsNetAfter outs ds ls → map begun_in ls ≡ map plan_for ds
begun_after outs [] [] n = refl
begun_after outs [] (l ∷ ls) n = absurd n
begun_after outs (d ∷ ds) [] n = absurd n
begun_after outs (d ∷ ds) (l ∷ ls) n = λ i. n.0.plan i ∷ begun_after (outs ++ l.rings.output ∷ []) ds ls n.1 i

plans_meant : (works : List Plan) (tasks : List TaskDef) → map plan_for (meant_tasks works tasks) ≡ map (plan_by works) tasks
plans_meant works [] = refl
plans_meant works (d ∷ tasks) = ap (λ z. plan_by works d ∷ z) (plans_meant works tasks)

-- the bodies of a net of tasks as they are meant began with what is meant
pub begun_meant : (works : List Plan) (tasks : List TaskDef) (ls : List Lasting) → IsNet (meant_tasks works tasks) ls → begun_tasks tasks ls ≡ meant_tasks works tasks
begun_meant works tasks ls n = ap (λ z. with_plans tasks z) (begun_after [] (meant_tasks works tasks) ls n.joined ∙ plans_meant works tasks) ∙ meant_plans works tasks

-- ---- a forest with other plans

forms_length : (ps qs : List Plan) → map sides ps ≡ map sides qs → length ps ≡ length qs
forms_length ps qs e = sym (length-map ps sides) ∙ ap length e ∙ length-map qs sides

froms_with : (ds : List TaskDef) (ps : List Plan) → length ps ≡ length ds → map (λ (d : TaskDef). d.from) (with_plans ds ps) ≡ map (λ (d : TaskDef). d.from) ds
froms_with [] ps l = refl
froms_with (d ∷ ds) [] l = absurd (omega arith)
froms_with (d ∷ ds) (p ∷ ps) l = ap (λ z. d.from ∷ z) (froms_with ds ps (omega arith))

sides_with : (ds : List TaskDef) (ps : List Plan) → length ps ≡ length ds → map (λ (d : TaskDef). sides d.plan) (with_plans ds ps) ≡ map sides ps
sides_with [] [] l = refl
sides_with [] (p ∷ ps) l = absurd (omega arith)
sides_with (d ∷ ds) [] l = absurd (omega arith)
sides_with (d ∷ ds) (p ∷ ps) l = ap (λ z. sides p ∷ z) (sides_with ds ps (omega arith))

pub length_with : (ds : List TaskDef) (ps : List Plan) → length (with_plans ds ps) ≡ length ds
length_with [] ps = refl
length_with (d ∷ ds) [] = refl
length_with (d ∷ ds) (p ∷ ps) = let more = length_with ds ps in omega arith

reads_by : (ds : List TaskDef) → reads ds ≡ flat_map (λ (x : List ℕ). x) (map (λ (d : TaskDef). d.from) ds)
reads_by [] = refl
reads_by (d ∷ ds) = ap (λ z. d.from ++ z) (reads_by ds)

both : (es : List TaskDef) → map (λ (d : TaskDef). sides d.plan) es ≡ map sides (map plan_for es)
both [] = refl
both (d ∷ es) = ap (λ z. sides d.plan ∷ z) (both es)

module _ (ds : List TaskDef) (ps : List Plan) (same : map sides ps ≡ map sides (map plan_for ds)) where
  many : length ps ≡ length ds
  many = forms_length ps (map plan_for ds) same ∙ length-map ds plan_for

  from_at : (k : ℕ) (d : TaskDef) → k < length ds → (slice_index_or (with_plans ds ps) k d).from ≡ (slice_index_or ds k d).from
  from_at k d l =
      let long = length_with ds ps in
      sym (get_or-map (λ (t : TaskDef). t.from) (with_plans ds ps) k d [] (omega arith)) ∙ ap (λ z. slice_index_or z k []) (froms_with ds ps many) ∙ get_or-map (λ (t : TaskDef). t.from) ds k d [] l

  sides_at : (k : ℕ) (d : TaskDef) → k < length ds → sides (slice_index_or (with_plans ds ps) k d).plan ≡ sides (slice_index_or ds k d).plan
  sides_at k d l =
      let long = length_with ds ps in
      sym (get_or-map (λ (t : TaskDef). sides t.plan) (with_plans ds ps) k d 0 (omega arith)) ∙ ap (λ z. slice_index_or z k 0) (sides_with ds ps many ∙ same ∙ sym (both ds))
      ∙ get_or-map (λ (t : TaskDef). sides t.plan) ds k d 0 l

  pub forest_with : IsForest ds → IsForest (with_plans ds ps)
  forest_with f =
      let long = length_with ds ps in
      record {
        inputs = λ k d l. let within : k < length ds = omega arith in
            ap length (from_at k d within) ∙ f.inputs k d within ∙ sym (sides_at k d within);
        earlier = λ k d l. let within : k < length ds = omega arith in subst (λ z. All (λ s. s < k) z) (sym (from_at k d within)) (f.earlier k d within);
        once = subst (λ z. AllPairs Differ z) (sym (reads_by (with_plans ds ps) ∙ ap (flat_map (λ (x : List ℕ). x)) (froms_with ds ps many) ∙ sym (reads_by ds))) f.once;
      }

-- ---- an answer

pub if_ok : {X E : Type 0} {P Q : X → Type 0} (r : Result X E) → IfOk r P → ((x : X) → P x → Q x) → IfOk r Q
if_ok (Ok x) p f = f x p
if_ok (Err e) p f = p
