-- The tasks of faultless lines are a forest.
use Rattle.std.proofs.Common.{◌≡◌, ◌≢◌, ℕ, zero, suc, ◌+◌, ◌<◌, ◌≤◌, Bool, true, false, cond, ◌||◌, List, [], ◌∷◌, ◌++◌, length, Option, Some, None, refl, sym, ap, subst, ◌∙◌, append_assoc}
use Rattle.std.proofs.Common.{length-append, All, arith}
use Rattle.std.specs.Prelude.{AllPairs, slice_index_or, nat_lt}
use Rattle.std.specs.List.{list_any, filter_map, cons_option, position_from, flat_map}
use Rattle.std.specs.Option.{is_none}
use Rattle.std.specs.Str.{bytes_eq}
use Rattle.std.proofs.lemmas.Bool.{or_parts}
use Rattle.std.proofs.lemmas.Bool.Decides.{nat_tests}
use Rattle.std.proofs.lemmas.Grind.{flat_map-append}
use Rattle.std.proofs.lemmas.List.{append-nil, get_or_append_left}
use Rattle.std.proofs.lemmas.List.Elements.{All-nil, All-push}
use Rattle.std.proofs.lemmas.List.Folds.{list_any-append}
use Rattle.std.proofs.lemmas.List.Quantifiers.{all_pairs_push}
use Rattle.std.proofs.lemmas.Slice.Eq.{bytes_eq-Decides}
use Rattle.std.proofs.Math.Seq.{get_or-append_seam}
use Rattle.task_script.specs.declared.script.TaskDef.{TaskDef}
use Rattle.task_script.specs.declared.script.Script.{Script}
use Rattle.task_script.specs.Plan.{sides}
use Rattle.task_script.specs.Forest.{IsForest, reads as read_tasks}
use Rattle.task_script.specs.Forms.{Kind, lines_kind, count_kind, upper_kind, number_kind, keep_kind, drop_kind, tally_kind, pin_kind, custom_kind, cat_kind, weave_kind, reads, Form, skip_line}
use Rattle.task_script.specs.Forms.{cpus_line}
use Rattle.task_script.specs.Forms.{caches_line, room_line, task_line, text_line, end_line}
use Rattle.task_script.specs.Script.{number_of, plan_of, task_of, tasks_of, texts_of, named_in, read_in, so_far, lacks_task, reads_again, AreFaultless, IsScript}
use Rattle.task_script.proofs.FormLaws.{is_good}
use Rattle.task_script.proofs.ScriptLaws.{form_good}
use Rattle.task_script.proofs.NameLaws.{by_position, last_some}

abbrev Names : Type 0
Names = List (List ℕ)

abbrev is_named : List ℕ → Names → Bool
is_named name names = list_any (λ other. bytes_eq other name) names

-- ---- the number of a name

lower_step : (p : List ℕ → Bool) (i k : ℕ) (xs : Names) (b : Bool) → (position_from p (i + 1) xs ≡ Some k → i + 1 ≤ k) → cond b (Some i) (position_from p (i + 1) xs) ≡ Some k → i ≤ k
lower_step p i k xs true more e = let same : i ≡ k = cc in omega arith
lower_step p i k xs false more e = let above : i + 1 ≤ k = more e in omega arith

lower : (p : List ℕ → Bool) (i k : ℕ) (xs : Names) → position_from p i xs ≡ Some k → i ≤ k
lower p i k [] e = absurd cc
lower p i k (x ∷ xs) e = lower_step p i k xs (p x) (lower p (i + 1) k xs) e

upper_step : (p : List ℕ → Bool) (i k : ℕ) (xs : Names) (b : Bool) → (position_from p (i + 1) xs ≡ Some k → k < i + 1 + length xs) → cond b (Some i) (position_from p (i + 1) xs) ≡ Some k
    → k < i + suc (length xs)
upper_step p i k xs true more e = let same : i ≡ k = cc in omega arith
upper_step p i k xs false more e = let below : k < i + 1 + length xs = more e in omega arith

upper : (p : List ℕ → Bool) (i k : ℕ) (xs : Names) → position_from p i xs ≡ Some k → k < i + length xs
upper p i k [] e = absurd cc
upper p i k (x ∷ xs) e = upper_step p i k xs (p x) (upper p (i + 1) k xs) e

one_step : (i k : ℕ) (x a b : List ℕ) (xs : Names) (is_a is_b : Bool) → bytes_eq x a ≡ is_a → bytes_eq x b ≡ is_b
    → (position_from (λ other. bytes_eq other a) (i + 1) xs ≡ Some k → position_from (λ other. bytes_eq other b) (i + 1) xs ≡ Some k → a ≡ b)
    → cond is_a (Some i) (position_from (λ other. bytes_eq other a) (i + 1) xs) ≡ Some k
    → cond is_b (Some i) (position_from (λ other. bytes_eq other b) (i + 1) xs) ≡ Some k → a ≡ b
one_step i k x a b xs true true p q more e f = sym ((bytes_eq-Decides x a).0 p) ∙ (bytes_eq-Decides x b).0 q
one_step i k x a b xs true false p q more e f =
    let same : i ≡ k = cc in
    let above : i + 1 ≤ k = lower (λ other. bytes_eq other b) (i + 1) k xs f in
    absurd (omega arith)
one_step i k x a b xs false true p q more e f =
    let same : i ≡ k = cc in
    let above : i + 1 ≤ k = lower (λ other. bytes_eq other a) (i + 1) k xs e in
    absurd (omega arith)
one_step i k x a b xs false false p q more e f = more e f

one_name : (i k : ℕ) (a b : List ℕ) (xs : Names) → position_from (λ other. bytes_eq other a) i xs ≡ Some k → position_from (λ other. bytes_eq other b) i xs ≡ Some k → a ≡ b
one_name i k a b [] e f = absurd cc
one_name i k a b (x ∷ xs) e f = one_step i k x a b xs (bytes_eq x a) (bytes_eq x b) refl refl (one_name (i + 1) k a b xs) e f

-- a number is that of one name, and below the number of names
number-one : (names : Names) (k : ℕ) (a b : List ℕ) → number_of names a ≡ Some k → number_of names b ≡ Some k → a ≡ b
number-one names k a b e f = one_name 0 k a b names (sym (by_position names a) ∙ e) (sym (by_position names b) ∙ f)

number-below : (names : Names) (k : ℕ) (a : List ℕ) → number_of names a ≡ Some k → k < length names
number-below names k a e = let below = upper (λ other. bytes_eq other a) 0 k names (sym (by_position names a) ∙ e) in omega (arith, below)

number-later : (names : Names) (k : ℕ) (a new : List ℕ) → number_of names a ≡ Some k → number_of (names ++ new ∷ []) a ≡ Some k
number-later names k a new e = by_position (names ++ new ∷ []) a ∙ last_some (λ other. bytes_eq other a) 0 k names new (sym (by_position names a) ∙ e)

-- ---- the tasks that are read

-- the name of this task is among those that are read
record IsReadName (names sources : Names) (k : ℕ) : Type 0 where
  name : List ℕ
  read : is_named name sources ≡ true
  numbered : number_of names name ≡ Some k

abbrev Differ : ℕ → ℕ → Type 0
Differ s t = s ≢ t

-- tasks that are read, each once, and by these names
record AreRead (names sources : Names) (tasks : List ℕ) : Type 0 where
  named : All (IsReadName names sources) tasks
  once : AllPairs Differ tasks

more_names : (sources more : Names) (name : List ℕ) → is_named name sources ≡ true → is_named name (sources ++ more) ≡ true
more_names sources more name e = list_any-append (λ other. bytes_eq other name) sources more ∙ ap (λ b. b || is_named name more) e

itself : (name : List ℕ) → bytes_eq name name ≡ true
itself name = (bytes_eq-Decides name name).1 refl

false_or_true : (b : Bool) → (b || true) ≡ true
false_or_true true = refl
false_or_true false = refl

last_named : (sources : Names) (name : List ℕ) → is_named name (sources ++ name ∷ []) ≡ true
last_named sources name =
    list_any-append (λ other. bytes_eq other name) sources (name ∷ [])
    ∙ ap (λ b. is_named name sources || (b || false)) (itself name)
    ∙ false_or_true (is_named name sources)

read-one : (names sources : Names) (tasks : List ℕ) (name : List ℕ) (k : ℕ) → AreRead names sources tasks → number_of names name ≡ Some k → is_named name sources ≡ false
    → AreRead names (sources ++ name ∷ []) (tasks ++ k ∷ [])
read-one names sources tasks name k are number fresh = record {
  named = All-push (IsReadName names (sources ++ name ∷ [])) tasks k
      (λ i d below. let was = are.named i d below in record { name = was.name; read = more_names sources (name ∷ []) was.name was.read; numbered = was.numbered })
      (record { name = name; read = last_named sources name; numbered = number });
  once = all_pairs_push Differ tasks k are.once
      (λ i d below same.
      let was = are.named i d below in
      let one : was.name ≡ name = number-one names k was.name name (was.numbered ∙ ap (λ (t : ℕ). Some t) same) number in
      let read : is_named name sources ≡ true = subst (λ (n : List ℕ). is_named n sources ≡ true) one was.read in
      cc);
}

-- names in another order are the same names
abbrev Same : Names → Names → Type 0
Same x y = (q : List ℕ) → is_named q x ≡ is_named q y

turned : (a b : Bool) → (a || b) ≡ (b || (a || false))
turned true true = refl
turned true false = refl
turned false true = refl
turned false false = refl

same-more : (x y : Names) (name : List ℕ) → Same x y → Same (name ∷ x) (y ++ name ∷ [])
same-more x y name same q =
    ap (λ b. bytes_eq name q || b) (same q)
    ∙ turned (bytes_eq name q) (is_named q y)
    ∙ sym (list_any-append (λ other. bytes_eq other q) y (name ∷ []))

record Found (names : Names) (name : List ℕ) : Type 0 where
  number : ℕ
  is : number_of names name ≡ Some number

found_one : (names : Names) (name : List ℕ) (o : Option ℕ) → number_of names name ≡ o → is_none o ≡ false → Found names name
found_one names name None e f = absurd cc
found_one names name (Some k) e f = record { number = k; is = e }

-- the numbers of these names are read, each once
record AreReadMore (names sources : Names) (tasks : List ℕ) (more : Names) : Type 0 where
  read : AreRead names (sources ++ more) (tasks ++ filter_map (number_of names) more)
  below : All (λ t. t < length names) (filter_map (number_of names) more)
  counted : length (filter_map (number_of names) more) ≡ length more

cons_below : (n k : ℕ) (ks : List ℕ) → k < n → All (λ t. t < n) ks → All (λ t. t < n) (k ∷ ks)
cons_below n k ks one more zero d within = one
cons_below n k ks one more (suc i) d within = more i d (omega arith)

read-more : (names sources seen : Names) (tasks : List ℕ) (more : Names) → Same seen sources → AreRead names sources tasks
    → lacks_task names more ≡ false → reads_again seen more ≡ false → AreReadMore names sources tasks more
read-more names sources seen tasks [] same are found once = record {
  read = subst (λ (z : Names). AreRead names z (tasks ++ [])) (sym (append-nil sources)) (subst (λ (z : List ℕ). AreRead names sources z) (sym (append-nil tasks)) are);
  below = All-nil (λ t. t < length names);
  counted = refl;
}
read-more names sources seen tasks (name ∷ more) same are found once =
    let lacks = or_parts (is_none (number_of names name)) (lacks_task names more) found in
    let again = or_parts (is_named name seen) (reads_again (name ∷ seen) more) once in
    let this = found_one names name (number_of names name) refl lacks.0 in
    let fresh : is_named name sources ≡ false = sym (same name) ∙ again.0 in
    let one = read-one names sources tasks name this.number are this.is fresh in
    let rest = read-more names (sources ++ name ∷ []) (name ∷ seen) (tasks ++ this.number ∷ []) more (same-more seen sources name same) one lacks.1 again.1 in
    let numbers : filter_map (number_of names) (name ∷ more) ≡ this.number ∷ filter_map (number_of names) more = ap (λ (o : Option ℕ). cons_option o (filter_map (number_of names) more)) this.is in
    record {
      read = subst (λ (z : List ℕ). AreRead names (sources ++ name ∷ more) (tasks ++ z)) (sym numbers)
          (subst (λ (z : Names). AreRead names z (tasks ++ this.number ∷ filter_map (number_of names) more)) (append_assoc sources (name ∷ []) more)
          (subst (λ (z : List ℕ). AreRead names ((sources ++ name ∷ []) ++ more) z) (append_assoc tasks (this.number ∷ []) (filter_map (number_of names) more)) rest.read));
      below =
          subst
          (λ (z : List ℕ). All (λ t. t < length names) z) (sym numbers)
          (cons_below (length names) this.number (filter_map (number_of names) more) (number-below names this.number name this.is) rest.below);
      counted = ap length numbers ∙ ap (λ (n : ℕ). suc n) rest.counted;
    }

read-later : (names sources : Names) (tasks : List ℕ) (new : List ℕ) → AreRead names sources tasks → AreRead (names ++ new ∷ []) sources tasks
read-later names sources tasks new are = record {
  named = λ i d below. let was = are.named i d below in record { name = was.name; read = was.read; numbered = number-later names _ was.name new was.numbered };
  once = are.once;
}

-- ---- the tasks so far

reads-push : (done : List TaskDef) (d : TaskDef) → read_tasks (done ++ d ∷ []) ≡ read_tasks done ++ d.from
reads-push done d = flat_map-append (λ (e : TaskDef). e.from) done (d ∷ []) ∙ ap (λ (z : List ℕ). read_tasks done ++ z) (append-nil d.from)

record Grown (names sources : Names) (done : List TaskDef) : Type 0 where
  forest : IsForest done
  counted : length done ≡ length names
  read : AreRead names sources (read_tasks done)

sides_are : (kind : Kind) (texts : Names) → length (reads kind) ≡ sides (plan_of kind texts)
sides_are lines_kind texts = refl
sides_are (count_kind number) texts = refl
sides_are (upper_kind source) texts = refl
sides_are (number_kind source) texts = refl
sides_are (keep_kind prefix source) texts = refl
sides_are (drop_kind prefix source) texts = refl
sides_are (tally_kind source) texts = refl
sides_are (pin_kind number source) texts = refl
sides_are (custom_kind number source) texts = refl
sides_are (cat_kind first second) texts = refl
sides_are (weave_kind first second) texts = refl

module _ (done : List TaskDef) (d : TaskDef) (forest : IsForest done) (earlier : All (λ s. s < length done) d.from) where
  reads_earlier : (t : ℕ) (below : Bool) → nat_lt t (length done) ≡ below → (e : TaskDef) → t < length (done ++ d ∷ []) → All (λ s. s < t) (slice_index_or (done ++ d ∷ []) t e).from
  reads_earlier t true test e within =
      let inside : t < length done = grind (arith, nat_tests) in
      subst (λ (z : TaskDef). All (λ s. s < t) z.from) (sym (get_or_append_left done (d ∷ []) e t inside)) (forest.earlier t e inside)
  reads_earlier t false test e within =
      let above : length done ≤ t = grind (arith, nat_tests) in
      let more = length-append done (d ∷ []) in
      let at : length done ≡ t = omega arith in
      subst (λ (k : ℕ). All (λ s. s < k) (slice_index_or (done ++ d ∷ []) k e).from) at
      (subst (λ (z : TaskDef). All (λ s. s < length done) z.from) (sym (get_or-append_seam done d [] e)) earlier)

  one_more : length d.from ≡ sides d.plan → AllPairs Differ (read_tasks done ++ d.from) → IsForest (done ++ d ∷ [])
  one_more inputs once = record {
    inputs = All-push (λ (e : TaskDef). length e.from ≡ sides e.plan) done d forest.inputs inputs;
    earlier = λ t e within. reads_earlier t (nat_lt t (length done)) refl e within;
    once = subst (λ (z : List ℕ). AllPairs Differ z) (sym (reads-push done d)) once;
  }

grown-task : (names sources : Names) (done : List TaskDef) (name : List ℕ) (kind : Kind) (texts : Names) → Grown names sources done
    → lacks_task names (reads kind) ≡ false → reads_again sources (reads kind) ≡ false
    → Grown (names ++ name ∷ []) (sources ++ reads kind) (done ++ task_of names name kind texts ∷ [])
grown-task names sources done name kind texts g found once =
    let d = task_of names name kind texts in
    let more = read-more names sources sources (read_tasks done) (reads kind) (λ q. refl) g.read found once in
    let earlier : All (λ s. s < length done) d.from = subst (λ (n : ℕ). All (λ s. s < n) d.from) (sym g.counted) more.below in
    record {
      forest = one_more done d g.forest earlier (more.counted ∙ sides_are kind texts) more.read.once;
      counted = length-append done (d ∷ []) ∙ ap (λ (n : ℕ). n + 1) g.counted ∙ sym (length-append names (name ∷ []));
      read = subst (λ (z : List ℕ). AreRead (names ++ name ∷ []) (sources ++ reads kind) z) (sym (reads-push done d))
          (read-later names (sources ++ reads kind) (read_tasks done ++ d.from) name more.read);
    }

-- ---- the lines

flat_push : (names : Form → Names) (before : List Form) (form : Form) → flat_map names (before ++ form ∷ []) ≡ flat_map names before ++ names form
flat_push names before form = flat_map-append names before (form ∷ []) ∙ ap (λ (z : Names). flat_map names before ++ z) (append-nil (names form))

abbrev GrownAfter : List Form → List TaskDef → Type 0
GrownAfter before done = Grown (flat_map named_in before) (flat_map read_in before) done

-- a line that is no task leaves the tasks
grown-same : (before : List Form) (form : Form) (done : List TaskDef) → named_in form ≡ [] → read_in form ≡ [] → GrownAfter before done → GrownAfter (before ++ form ∷ []) done
grown-same before form done none unread g =
    let names : flat_map named_in (before ++ form ∷ []) ≡ flat_map named_in before = flat_push named_in before form ∙ ap (λ (z : Names). flat_map named_in before ++ z) none
    ∙ append-nil (flat_map named_in before) in
    let sources : flat_map read_in (before ++ form ∷ []) ≡ flat_map read_in before = flat_push read_in before form ∙ ap (λ (z : Names). flat_map read_in before ++ z) unread
    ∙ append-nil (flat_map read_in before) in
    subst (λ (z : Names). Grown z (flat_map read_in (before ++ form ∷ [])) done) (sym names) (subst (λ (z : Names). Grown (flat_map named_in before) z done) (sym sources) g)

names-same : (before : List Form) (form : Form) → named_in form ≡ [] → flat_map named_in (before ++ form ∷ []) ≡ flat_map named_in before
names-same before form none = flat_push named_in before form ∙ ap (λ (z : Names). flat_map named_in before ++ z) none ∙ append-nil (flat_map named_in before)

-- what the tasks come to, with those of the later lines
abbrev Ends : List Form → List TaskDef → List Form → Type 0
Ends before done forms = IsForest (done ++ tasks_of (flat_map named_in before) forms)

passed : (before : List Form) (form : Form) (done : List TaskDef) (forms : List Form) → named_in form ≡ []
    → tasks_of (flat_map named_in before) (form ∷ forms) ≡ tasks_of (flat_map named_in before) forms → Ends (before ++ form ∷ []) done forms → Ends before done (form ∷ forms)
passed before form done forms none skips ends =
    subst (λ (z : List TaskDef). IsForest (done ++ z)) (ap (λ (z : Names). tasks_of z forms) (names-same before form none) ∙ sym skips) ends

forest-on : (customs : ℕ) (before : List Form) (done : List TaskDef) (lines : Names) (forms : List Form) → GrownAfter before done → AreFaultless customs before lines forms → Ends before done forms
forest-on customs before done [] [] g all = subst (λ (z : List TaskDef). IsForest z) (sym (append-nil done)) g.forest
forest-on customs before done [] (form ∷ forms) g all = absurd all
forest-on customs before done (line ∷ lines) [] g all = absurd all
forest-on customs before done (line ∷ lines) (skip_line ∷ forms) g all =
    passed before skip_line done forms refl refl (forest-on customs (before ++ skip_line ∷ []) done lines forms (grown-same before skip_line done refl refl g) all.1)
forest-on customs before done (line ∷ lines) (cpus_line n ∷ forms) g all =
    passed before (cpus_line n) done forms refl refl (forest-on customs (before ++ cpus_line n ∷ []) done lines forms (grown-same before (cpus_line n) done refl refl g) all.1)
forest-on customs before done (line ∷ lines) (caches_line n ∷ forms) g all =
    passed before (caches_line n) done forms refl refl (forest-on customs (before ++ caches_line n ∷ []) done lines forms (grown-same before (caches_line n) done refl refl g) all.1)
forest-on customs before done (line ∷ lines) (room_line n ∷ forms) g all =
    passed before (room_line n) done forms refl refl (forest-on customs (before ++ room_line n ∷ []) done lines forms (grown-same before (room_line n) done refl refl g) all.1)
forest-on customs before done (line ∷ lines) (text_line t ∷ forms) g all =
    passed before (text_line t) done forms refl refl (forest-on customs (before ++ text_line t ∷ []) done lines forms (grown-same before (text_line t) done refl refl g) all.1)
forest-on customs before done (line ∷ lines) (end_line ∷ forms) g all =
    passed before end_line done forms refl refl (forest-on customs (before ++ end_line ∷ []) done lines forms (grown-same before end_line done refl refl g) all.1)
forest-on customs before done (line ∷ lines) (task_line name kind ∷ forms) g all =
    let names = flat_map named_in before in
    let good = is_good (so_far customs before) (task_line name kind) (form_good (so_far customs before) line (task_line name kind) all.0.formed all.0.good) in
    let d = task_of names name kind (texts_of forms) in
    let grown : GrownAfter (before ++ task_line name kind ∷ []) (done ++ d ∷ []) =
    subst (λ (z : Names). Grown z (flat_map read_in (before ++ task_line name kind ∷ [])) (done ++ d ∷ [])) (sym (flat_push named_in before (task_line name kind)))
    (subst (λ (z : Names). Grown (names ++ name ∷ []) z (done ++ d ∷ [])) (sym (flat_push read_in before (task_line name kind)))
    (grown-task names (flat_map read_in before) done name kind (texts_of forms) g good.found good.unread)) in
    let ends = forest-on customs (before ++ task_line name kind ∷ []) (done ++ d ∷ []) lines forms grown all.1 in
    subst (λ (z : List TaskDef). IsForest z) (append_assoc done (d ∷ []) (tasks_of (names ++ name ∷ []) forms))
    (subst (λ (z : Names). IsForest ((done ++ d ∷ []) ++ tasks_of z forms)) (flat_push named_in before (task_line name kind)) ends)

nothing : Grown [] [] []
nothing = record {
  forest = record { inputs = All-nil (λ (d : TaskDef). length d.from ≡ sides d.plan); earlier = λ t d l. absurd (omega arith); once = λ i j d l m. absurd (omega arith) };
  counted = refl;
  read = record { named = All-nil (IsReadName [] []); once = λ i j d l m. absurd (omega arith) };
}

-- the tasks of a script are a forest
pub script-forest : (customs : ℕ) (bytes : List ℕ) (script : Script) → IsScript customs bytes script → IsForest script.tasks
script-forest customs bytes script is =
    subst (λ (s : Script). IsForest s.tasks) (sym is.says) (forest-on customs [] [] _ is.forms nothing is.faultless)
