-- The numbers of the works that tasks have.
use Rattle.std.proofs.Common.{◌≡◌, ◌≢◌, ℕ, suc, ◌+◌, ◌*◌, ◌-◌, ◌^◌, ◌<◌, ◌≤◌, ◌==◌, Bool, true, false, cond, ◌&&◌, List, [], ◌∷◌, ◌++◌, length, Option, Some, None, refl, sym, ap, subst, ◌∙◌, All}
use Rattle.std.proofs.Common.{arith, zero-add}
use Rattle.std.specs.Prelude.{AllPairs, nat_le, unwrap_or}
use Rattle.std.specs.List.{list_any, list_all}
use Rattle.std.specs.Char.{is_ascii_digit}
use Rattle.std.specs.Option.{is_some, option_map, option_to_list}
use Rattle.std.proofs.Math.Nat.{pow-suc, pow-le-pow_right}
use Rattle.std.proofs.lemmas.Bool.{and_parts, or_parts, not-false, leb-true, leb-false, eqb-false}
use Rattle.std.proofs.lemmas.List.{append-nil}
use Rattle.std.proofs.lemmas.List.Elements.{All-nil, All-cons, All-push, filter_map-append}
use Rattle.std.proofs.lemmas.List.Quantifiers.{all_pairs_push}
use Rattle.task_script.specs.declared.reader.Source.{Source}
use Rattle.task_script.specs.declared.script.TaskDef.{TaskDef}
use Rattle.task_script.specs.Plan.{is_table}
use Rattle.task_script.specs.Forms.{decimal, is_number, value_of, Kind, lines_kind, count_kind, upper_kind, number_kind, keep_kind, drop_kind, tally_kind, pin_kind, custom_kind, cat_kind}
use Rattle.task_script.specs.Forms.{weave_kind, task_line}
use Rattle.task_script.specs.Lines.{has_bytes}
use Rattle.task_script.specs.Script.{custom_in, has_bad_count, is_no_work, task_of}
use Rattle.task_script.specs.Reading.{State, held, start, source_task, closed, settled, IsBelow}
use Rattle.task_script.specs.Valid.{works_of, AreCustoms}

abbrev Differ : ℕ → ℕ → Type 0
Differ n m = n ≢ m

abbrev Fits : TaskDef → Type 0
Fits d = is_some d.custom ≡ is_table d.plan

-- the numbers that the reader keeps are those of its tasks
pub record HasWorks (customs : ℕ) (s : State) : Type 0 where
  pub brought : s.customs ≡ customs
  pub listed : works_of s.tasks ≡ s.works
  pub below : All (λ n. n < customs) s.works
  pub short : All (λ n. n < 10 ^ 10) s.works
  pub once : AllPairs Differ s.works
  pub plans : All Fits s.tasks

pub works_are : (customs : ℕ) (s : State) → HasWorks customs s → AreCustoms customs s.tasks
works_are customs s h = record {
  below = subst (λ (ws : List ℕ). All (λ n. n < customs) ws) (sym h.listed) h.below;
  short = subst (λ (ws : List ℕ). All (λ n. n < 10 ^ 10) ws) (sym h.listed) h.short;
  once = subst (λ (ws : List ℕ). AllPairs Differ ws) (sym h.listed) h.once;
  plans = h.plans;
}

pub same_works : (customs : ℕ) (s t : State) → t.customs ≡ s.customs → t.works ≡ s.works → t.tasks ≡ s.tasks → HasWorks customs s → HasWorks customs t
same_works customs s t brought works tasks h = record {
  brought = brought ∙ h.brought;
  listed = ap works_of tasks ∙ h.listed ∙ sym works;
  below = subst (λ (ws : List ℕ). All (λ n. n < customs) ws) (sym works) h.below;
  short = subst (λ (ws : List ℕ). All (λ n. n < 10 ^ 10) ws) (sym works) h.short;
  once = subst (λ (ws : List ℕ). AllPairs Differ ws) (sym works) h.once;
  plans = subst (λ (ts : List TaskDef). All Fits ts) (sym tasks) h.plans;
}

listed_push : (tasks : List TaskDef) (d : TaskDef) → works_of (tasks ++ d ∷ []) ≡ works_of tasks ++ works_of (d ∷ [])
listed_push tasks d = filter_map-append (λ (e : TaskDef). e.custom) tasks (d ∷ [])

-- a task that has no work
no_more : (customs : ℕ) (s t : State) (d : TaskDef) → works_of (d ∷ []) ≡ [] → Fits d → t.customs ≡ s.customs → t.works ≡ s.works → t.tasks ≡ s.tasks ++ d ∷ []
    → HasWorks customs s → HasWorks customs t
no_more customs s t d none fits brought works tasks h = record {
  brought = brought ∙ h.brought;
  listed = ap works_of tasks ∙ listed_push s.tasks d ∙ ap (λ (ws : List ℕ). works_of s.tasks ++ ws) none ∙ append-nil (works_of s.tasks) ∙ h.listed ∙ sym works;
  below = subst (λ (ws : List ℕ). All (λ n. n < customs) ws) (sym works) h.below;
  short = subst (λ (ws : List ℕ). All (λ n. n < 10 ^ 10) ws) (sym works) h.short;
  once = subst (λ (ws : List ℕ). AllPairs Differ ws) (sym works) h.once;
  plans = subst (λ (ts : List TaskDef). All Fits ts) (sym tasks) (All-push Fits s.tasks d h.plans fits);
}

-- a task that has the work n
one_more : (customs : ℕ) (s t : State) (d : TaskDef) (n : ℕ) → works_of (d ∷ []) ≡ n ∷ [] → Fits d → n < customs → n < 10 ^ 10 → All (λ m. m ≢ n) s.works
    → t.customs ≡ s.customs → t.works ≡ s.works ++ n ∷ [] → t.tasks ≡ s.tasks ++ d ∷ [] → HasWorks customs s → HasWorks customs t
one_more customs s t d n this fits below short apart brought works tasks h = record {
  brought = brought ∙ h.brought;
  listed = ap works_of tasks ∙ listed_push s.tasks d ∙ ap (λ (ws : List ℕ). works_of s.tasks ++ ws) this ∙ ap (λ (ws : List ℕ). ws ++ n ∷ []) h.listed ∙ sym works;
  below = subst (λ (ws : List ℕ). All (λ m. m < customs) ws) (sym works) (All-push (λ m. m < customs) s.works n h.below below);
  short = subst (λ (ws : List ℕ). All (λ m. m < 10 ^ 10) ws) (sym works) (All-push (λ m. m < 10 ^ 10) s.works n h.short short);
  once = subst (λ (ws : List ℕ). AllPairs Differ ws) (sym works) (all_pairs_push Differ s.works n h.once apart);
  plans = subst (λ (ts : List TaskDef). All Fits ts) (sym tasks) (All-push Fits s.tasks d h.plans fits);
}

-- ---- a source that is closed

closed_at : (customs : ℕ) (s : State) (o : Option Source) → s.source ≡ o → HasWorks customs s → HasWorks customs (closed s)
closed_at customs s None e h = same_works customs s (closed s) refl refl (ap (λ (o : Option Source). s.tasks ++ option_to_list (option_map source_task o)) e ∙ append-nil s.tasks) h
closed_at customs s (Some source) e h =
    no_more customs s (closed s) (source_task source) refl refl refl refl (ap (λ (o : Option Source). s.tasks ++ option_to_list (option_map source_task o)) e) h

pub closed_works : (customs : ℕ) (s : State) → HasWorks customs s → HasWorks customs (closed s)
closed_works customs s h = closed_at customs s s.source refl h

-- ---- a task

others : (n : ℕ) (works : List ℕ) → list_any (λ other. other == n) works ≡ false → All (λ m. m ≢ n) works
others n [] e = All-nil (λ m. m ≢ n)
others n (m ∷ works) e =
    let parts = or_parts (m == n) (list_any (λ other. other == n) works) e in
    All-cons (λ k. k ≢ n) m works (eqb-false m n parts.0) (others n works parts.1)

-- a number of so many digits
digit_low : (digit : ℕ) → is_ascii_digit digit ≡ true → digit - 48 ≤ 9
digit_low digit e = let high = leb-true digit 57 (and_parts (nat_le 48 digit) (nat_le digit 57) e).1 in omega arith

decimal_short : (k before : ℕ) (digits : List ℕ) → before < 10 ^ k → list_all is_ascii_digit digits ≡ true → decimal before digits < 10 ^ (k + length digits)
decimal_short k before [] small e = let n : k + 0 ≡ k = omega arith in subst (λ (m : ℕ). before < 10 ^ m) (sym n) small
decimal_short k before (digit ∷ digits) small e =
    let parts = and_parts (is_ascii_digit digit) (list_all is_ascii_digit digits) e in
    let low = digit_low digit parts.0 in
    let power : 10 ^ suc k ≡ 10 ^ k * 10 = pow-suc 10 k in
    let more : before * 10 + (digit - 48) < 10 ^ suc k = omega arith in
    let n : suc k + length digits ≡ k + suc (length digits) = omega arith in
    subst (λ (m : ℕ). decimal (before * 10 + (digit - 48)) digits < 10 ^ m) n (decimal_short (suc k) (before * 10 + (digit - 48)) digits more parts.1)

number_short : (word : List ℕ) → is_number word ≡ true → value_of word < 10 ^ 10
number_short word e =
    let parts = and_parts (has_bytes word && nat_le (length word) 10) (list_all is_ascii_digit word) e in
    let few : length word ≤ 10 = leb-true (length word) 10 (and_parts (has_bytes word) (nat_le (length word) 10) parts.0).1 in
    let none : 0 + length word ≡ length word = zero-add (length word) in
    let short : decimal 0 word < 10 ^ length word = subst (λ (n : ℕ). decimal 0 word < 10 ^ n) none (decimal_short 0 0 word (omega arith) parts.1) in
    let power : 10 ^ length word ≤ 10 ^ 10 = pow-le-pow_right (omega arith) few in
    let value : value_of word ≡ decimal 0 word = ap (λ (b : Bool). unwrap_or (cond b (Some (decimal 0 word)) None) 0) e in
    subst (λ (n : ℕ). n < 10 ^ 10) (sym value) (omega arith)

-- a task of this kind, whose texts are still to come where it is a source
pub more_works : (customs : ℕ) (s : State) (name : List ℕ) (kind : Kind) → HasWorks customs s → has_bad_count kind ≡ false → is_no_work (held s) (custom_in kind) ≡ false
    → HasWorks customs (settled s (task_line name kind))
more_works customs s name lines_kind h good work = same_works customs s (settled s (task_line name lines_kind)) refl (append-nil s.works) (append-nil s.tasks) h
more_works customs s name (custom_kind number source) h good work =
    let parts = or_parts (nat_le s.customs (value_of number)) (list_any (λ other. other == value_of number) s.works) work in
    let below : value_of number < customs = subst (λ (n : ℕ). value_of number < n) h.brought (leb-false s.customs (value_of number) parts.0) in
    let kind = custom_kind number source in
    one_more customs s (settled s (task_line name kind)) (task_of s.names name kind []) (value_of number) refl refl below (number_short number (not-false _ good))
    (others (value_of number) s.works parts.1) refl refl refl h
more_works customs s name (count_kind number) h good work = let kind = count_kind number in
    no_more customs s (settled s (task_line name kind)) (task_of s.names name kind []) refl refl refl (append-nil s.works) refl h
more_works customs s name (upper_kind source) h good work = let kind = upper_kind source in
    no_more customs s (settled s (task_line name kind)) (task_of s.names name kind []) refl refl refl (append-nil s.works) refl h
more_works customs s name (number_kind source) h good work = let kind = number_kind source in
    no_more customs s (settled s (task_line name kind)) (task_of s.names name kind []) refl refl refl (append-nil s.works) refl h
more_works customs s name (keep_kind prefix source) h good work = let kind = keep_kind prefix source in
    no_more customs s (settled s (task_line name kind)) (task_of s.names name kind []) refl refl refl (append-nil s.works) refl h
more_works customs s name (drop_kind prefix source) h good work = let kind = drop_kind prefix source in
    no_more customs s (settled s (task_line name kind)) (task_of s.names name kind []) refl refl refl (append-nil s.works) refl h
more_works customs s name (tally_kind source) h good work = let kind = tally_kind source in
    no_more customs s (settled s (task_line name kind)) (task_of s.names name kind []) refl refl refl (append-nil s.works) refl h
more_works customs s name (pin_kind number source) h good work = let kind = pin_kind number source in
    no_more customs s (settled s (task_line name kind)) (task_of s.names name kind []) refl refl refl (append-nil s.works) refl h
more_works customs s name (cat_kind first second) h good work = let kind = cat_kind first second in
    no_more customs s (settled s (task_line name kind)) (task_of s.names name kind []) refl refl refl (append-nil s.works) refl h
more_works customs s name (weave_kind first second) h good work = let kind = weave_kind first second in
    no_more customs s (settled s (task_line name kind)) (task_of s.names name kind []) refl refl refl (append-nil s.works) refl h

-- nothing was read
pub no_works : (customs : ℕ) → HasWorks customs (start customs)
no_works customs = record {
  brought = refl;
  listed = refl;
  below = All-nil (λ n. n < customs);
  short = All-nil (λ n. n < 10 ^ 10);
  once = λ i j d l m. absurd (omega arith);
  plans = All-nil Fits;
}

-- a number that is below the number of works
pub below_of : (customs n : ℕ) (number : Option ℕ) → IsBelow customs number → number ≡ Some n → n < customs
below_of customs n None below is = absurd cc
below_of customs n (Some m) below is = let same : m ≡ n = cc in omega arith
