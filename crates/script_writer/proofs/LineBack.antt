-- The form of each line that is written.
use Rattle.std.proofs.Common.{◌≡◌, ℕ, ◌<◌, ◌≤◌, ◌^◌, ◌==◌, true, false, List, [], ◌∷◌, ◌++◌, length, Option, Some, refl, sym, ap, subst, ◌∙◌, arith}
use Rattle.std.specs.Fmt.{decimal as digits_of}
use Rattle.std.specs.Prelude.{codes, unwrap_or}
use Rattle.std.specs.List.{AllByRecursion}
use Rattle.std.proofs.lemmas.List.{nil_from_length}
use Rattle.task_script.specs.declared.plan.Plan.{Plan}
use Rattle.task_script.specs.declared.plan.Plan.TheVariants.{Lines, Count, Upper, Number, Keep, Drop, Tally, Cat, Weave, Pin, Table}
use Rattle.task_script.specs.Plan.{sides}
use Rattle.task_script.specs.Lines.{is_blank, skip_blanks}
use Rattle.task_script.specs.Forms.{is_name, Kind, lines_kind, count_kind, upper_kind, number_kind, keep_kind, drop_kind, tally_kind, pin_kind, custom_kind, cat_kind, weave_kind, reads, cpus_line}
use Rattle.task_script.specs.Forms.{caches_line}
use Rattle.task_script.specs.Forms.{room_line, task_line, text_line, end_line, worded_form, bare_form, form_of}
use Rattle.task_script.specs.Valid.{IsText, IsWord, Begins}
use Rattle.script_writer.specs.Spelling.{spaced, spelled_setting, kind_words, source_words, spelled_text}
use Rattle.script_writer.proofs.WordLaws.{words_spaced, EndsClean, text_kept, spaced_kept}
use Rattle.script_writer.proofs.NumberLaws.{number_word, number_clean, name_word, name_clean, plain_word, plain_clean}

-- ---- lines of words

pub line_of_words : (byte : ℕ) (bytes : List ℕ) (more : List (List ℕ)) → is_blank byte ≡ false → (byte == 35) ≡ false → (byte == 124) ≡ false → IsWord (byte ∷ bytes)
    → AllByRecursion IsWord more → EndsClean (byte ∷ bytes) more → form_of (spaced ((byte ∷ bytes) ∷ more)) ≡ worded_form ((byte ∷ bytes) ∷ more)
unfolding form_of
line_of_words byte bytes more blank hash bar w ws ends =
    ap (λ (line : List ℕ). bare_form (skip_blanks line)) (spaced_kept (byte ∷ bytes) more ends)
    ∙ rw (blank, hash, bar) (ap worded_form (words_spaced (byte ∷ bytes) more w ws))

pub cpus_back : (n : ℕ) → n < 2 ^ 64 → form_of (spelled_setting (codes "cpus") n) ≡ Some (cpus_line (digits_of n))
cpus_back n small =
    line_of_words 99 (112 ∷ 117 ∷ 115 ∷ []) (digits_of n ∷ []) refl refl refl (plain_word (codes "cpus") (omega arith) refl) (number_word n small, tt) (number_clean n small)

pub caches_back : (n : ℕ) → n < 2 ^ 64 → form_of (spelled_setting (codes "caches") n) ≡ Some (caches_line (digits_of n))
caches_back n small =
    line_of_words 99 (97 ∷ 99 ∷ 104 ∷ 101 ∷ 115 ∷ []) (digits_of n ∷ []) refl refl refl (plain_word (codes "caches") (omega arith) refl) (number_word n small, tt) (number_clean n small)

pub room_back : (n : ℕ) → n < 2 ^ 64 → form_of (spelled_setting (codes "room") n) ≡ Some (room_line (digits_of n))
room_back n small =
    line_of_words 114 (111 ∷ 111 ∷ 109 ∷ []) (digits_of n ∷ []) refl refl refl (plain_word (codes "room") (omega arith) refl) (number_word n small, tt) (number_clean n small)

pub end_back : form_of (codes "end") ≡ Some end_line
unfolding form_of
end_back = refl

-- ---- texts

pub text_back : (text : List ℕ) → IsText text → form_of (spelled_text text) ≡ Some (text_line text)
unfolding form_of
text_back [] t = refl
text_back (byte ∷ bytes) t = rw (text_kept (byte ∷ bytes) t.no_return) refl

-- ---- tasks

abbrev first : List (List ℕ) → List ℕ
first [] = []
first (name ∷ names) = name

abbrev second : List (List ℕ) → List ℕ
second (name ∷ other ∷ names) = other
second _ = []

-- the kind that the words of a plan say, with the names of its sources
abbrev pub said_kind : Option ℕ → Plan → List (List ℕ) → Kind
said_kind number (Lines left) names = lines_kind
said_kind number (Count next last) names = count_kind (digits_of last)
said_kind number Upper names = upper_kind (first names)
said_kind number (Number next) names = number_kind (first names)
said_kind number (Keep prefix) names = keep_kind prefix (first names)
said_kind number (Drop prefix) names = drop_kind prefix (first names)
said_kind number (Tally n) names = tally_kind (first names)
said_kind number (Cat side) names = cat_kind (first names) (second names)
said_kind number (Weave side ended) names = weave_kind (first names) (second names)
said_kind number (Pin left on) names = pin_kind (digits_of left) (first names)
said_kind number (Table table ends) names = custom_kind (digits_of (unwrap_or number 0)) (first names)

exact_one : (names : List (List ℕ)) → length names ≡ 1 → first names ∷ [] ≡ names
exact_one [] e = absurd (omega arith)
exact_one (name ∷ []) e = refl
exact_one (name ∷ other ∷ names) e = absurd (omega arith)

exact_two : (names : List (List ℕ)) → length names ≡ 2 → first names ∷ second names ∷ [] ≡ names
exact_two [] e = absurd (omega arith)
exact_two (name ∷ []) e = absurd (omega arith)
exact_two (name ∷ other ∷ []) e = refl
exact_two (name ∷ other ∷ third ∷ names) e = absurd (omega arith)

pub reads_back : (number : Option ℕ) (plan : Plan) (names : List (List ℕ)) → length names ≡ sides plan → reads (said_kind number plan names) ≡ names
reads_back number (Lines left) names e = sym (nil_from_length names e)
reads_back number (Count next last) names e = sym (nil_from_length names e)
reads_back number Upper names e = exact_one names e
reads_back number (Number next) names e = exact_one names e
reads_back number (Keep prefix) names e = exact_one names e
reads_back number (Drop prefix) names e = exact_one names e
reads_back number (Tally n) names e = exact_one names e
reads_back number (Cat side) names e = exact_two names e
reads_back number (Weave side ended) names e = exact_two names e
reads_back number (Pin left on) names e = exact_one names e
reads_back number (Table table ends) names e = exact_one names e

-- each is a name
abbrev pub AllNamed : List (List ℕ) → Type 0
AllNamed names = AllByRecursion (λ name. is_name name ≡ true) names

first_named : (names : List (List ℕ)) → length names ≡ 1 → AllNamed names → is_name (first names) ≡ true
first_named [] e all = absurd (omega arith)
first_named (name ∷ names) e all = all.0

second_named : (names : List (List ℕ)) → length names ≡ 2 → AllNamed names → is_name (second names) ≡ true
second_named [] e all = absurd (omega arith)
second_named (name ∷ []) e all = absurd (omega arith)
second_named (name ∷ other ∷ names) e all = all.1.0

-- a number of at most ten digits, where there is one
abbrev pub IsLow : Option ℕ → Type 0
IsLow number = unwrap_or number 0 < 10 ^ 10

-- numbers of a plan as it begins have at most seven digits
kind_are_words : (number : Option ℕ) (plan : Plan) → IsLow number → Begins plan → AllByRecursion IsWord (kind_words number plan)
kind_are_words number (Lines left) low b = (plain_word (codes "lines") (omega arith) refl, tt)
kind_are_words number (Count next last) low b =
    let few : last ≤ 1000000 = b.1 in
    (plain_word (codes "count") (omega arith) refl, (number_word last (omega arith), tt))
kind_are_words number Upper low b = (plain_word (codes "upper") (omega arith) refl, tt)
kind_are_words number (Number next) low b = (plain_word (codes "number") (omega arith) refl, tt)
kind_are_words number (Keep prefix) low b = (plain_word (codes "keep") (omega arith) refl, (b, tt))
kind_are_words number (Drop prefix) low b = (plain_word (codes "drop") (omega arith) refl, (b, tt))
kind_are_words number (Tally n) low b = (plain_word (codes "tally") (omega arith) refl, tt)
kind_are_words number (Cat side) low b = (plain_word (codes "cat") (omega arith) refl, tt)
kind_are_words number (Weave side ended) low b = (plain_word (codes "weave") (omega arith) refl, tt)
kind_are_words number (Pin left on) low b =
    let few : left ≤ 1000000 = b.1 in
    (plain_word (codes "pin") (omega arith) refl, (number_word left (omega arith), tt))
kind_are_words number (Table table ends) low b = (plain_word (codes "custom") (omega arith) refl, (number_word (unwrap_or number 0) (omega arith), tt))

names_are_words : (names : List (List ℕ)) → AllNamed names → AllByRecursion IsWord names
names_are_words [] all = tt
names_are_words (name ∷ names) all = (name_word name all.0, names_are_words names all.1)

sources_are_words : (names : List (List ℕ)) → AllNamed names → AllByRecursion IsWord (source_words names)
sources_are_words [] all = tt
sources_are_words (name ∷ names) all = (plain_word (codes "from") (omega arith) refl, names_are_words (name ∷ names) all)

words_append : (ws vs : List (List ℕ)) → AllByRecursion IsWord ws → AllByRecursion IsWord vs → AllByRecursion IsWord (ws ++ vs)
words_append [] vs a b = b
words_append (word ∷ ws) vs a b = (a.0, words_append ws vs a.1 b)

pub task_are_words : (name : List ℕ) (number : Option ℕ) (plan : Plan) (names : List (List ℕ)) → is_name name ≡ true → IsLow number → Begins plan → AllNamed names
    → AllByRecursion IsWord (name ∷ (kind_words number plan ++ source_words names))
task_are_words name number plan names is low b all =
    (name_word name is, words_append (kind_words number plan) (source_words names) (kind_are_words number plan low b) (sources_are_words names all))

pub task_word : IsWord (codes "task")
task_word = plain_word (codes "task") (omega arith) refl

-- the last word has no carriage return, and the words say the kind
record Reads (name : List ℕ) (number : Option ℕ) (plan : Plan) (names : List (List ℕ)) : Type 0 where
  clean : EndsClean (codes "task") (name ∷ (kind_words number plan ++ source_words names))
  form : worded_form (codes "task" ∷ name ∷ (kind_words number plan ++ source_words names)) ≡ Some (task_line name (said_kind number plan names))

read_none : (name : List ℕ) (number : Option ℕ) (plan : Plan) (names : List (List ℕ)) → length names ≡ 0 → Reads name number plan [] → Reads name number plan names
read_none name number plan names e r = subst (Reads name number plan) (sym (nil_from_length names e)) r

read_one : (name : List ℕ) (number : Option ℕ) (plan : Plan) (names : List (List ℕ)) → length names ≡ 1 → Reads name number plan (first names ∷ []) → Reads name number plan names
read_one name number plan names e r = subst (Reads name number plan) (exact_one names e) r

read_two : (name : List ℕ) (number : Option ℕ) (plan : Plan) (names : List (List ℕ)) → length names ≡ 2 → Reads name number plan (first names ∷ second names ∷ []) → Reads name number plan names
read_two name number plan names e r = subst (Reads name number plan) (exact_two names e) r

read_back : (name : List ℕ) (number : Option ℕ) (plan : Plan) (names : List (List ℕ)) → IsLow number → Begins plan → length names ≡ sides plan → AllNamed names → Reads name number plan names
read_back name number (Lines left) names low b e all = read_none name number (Lines left) names e (record { clean = plain_clean (codes "lines") refl; form = refl })
read_back name number (Count next last) names low b e all =
    let few : last ≤ 1000000 = b.1 in
    read_none name number (Count next last) names e (record { clean = number_clean last (omega arith); form = refl })
read_back name number Upper names low b e all = read_one name number Upper names e (record { clean = name_clean (first names) (first_named names e all); form = refl })
read_back name number (Number next) names low b e all = read_one name number (Number next) names e (record { clean = name_clean (first names) (first_named names e all); form = refl })
read_back name number (Keep prefix) names low b e all = read_one name number (Keep prefix) names e (record { clean = name_clean (first names) (first_named names e all); form = refl })
read_back name number (Drop prefix) names low b e all = read_one name number (Drop prefix) names e (record { clean = name_clean (first names) (first_named names e all); form = refl })
read_back name number (Tally n) names low b e all = read_one name number (Tally n) names e (record { clean = name_clean (first names) (first_named names e all); form = refl })
read_back name number (Cat side) names low b e all = read_two name number (Cat side) names e (record { clean = name_clean (second names) (second_named names e all); form = refl })
read_back name number (Weave side ended) names low b e all =
    read_two name number (Weave side ended) names e (record { clean = name_clean (second names) (second_named names e all); form = refl })
read_back name number (Pin left on) names low b e all = read_one name number (Pin left on) names e (record { clean = name_clean (first names) (first_named names e all); form = refl })
read_back name number (Table table ends) names low b e all =
    read_one name number (Table table ends) names e (record { clean = name_clean (first names) (first_named names e all); form = refl })

pub task_back : (name : List ℕ) (number : Option ℕ) (plan : Plan) (names : List (List ℕ)) → is_name name ≡ true → IsLow number → Begins plan → length names ≡ sides plan → AllNamed names
    → form_of (spaced (codes "task" ∷ name ∷ (kind_words number plan ++ source_words names))) ≡ Some (task_line name (said_kind number plan names))
task_back name number plan names is low b e all =
    let r = read_back name number plan names low b e all in
    line_of_words 116 (97 ∷ 115 ∷ 107 ∷ []) (name ∷ (kind_words number plan ++ source_words names)) refl refl refl task_word (task_are_words name number plan names is low b all) r.clean ∙ r.form
