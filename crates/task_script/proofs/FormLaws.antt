-- What a form's texts and words are, and what a form without fault can be kept as.
use Rattle.std.proofs.Common.{◌≡◌, ◌≢◌, ℕ, zero, suc, ◌≤◌, ◌==◌, Bool, true, false, cond, ◌&&◌, ◌||◌, List, [], ◌∷◌, length, Option, Some, None, refl, subst, All, arith}
use Rattle.std.specs.List.{slice_split, onto_first, filter, list_any}
use Rattle.std.specs.Option.{IsSomeAnd, is_some, is_none}
use Rattle.std.specs.Prelude.{codes, nat_le, ⊤}
use Rattle.std.specs.Str.{bytes_eq}
use Rattle.std.proofs.lemmas.Bool.{and_parts, or_parts, not-false, leb-true, leb-false, eqb-false}
use Rattle.handoff_data.specs.Line.{IsLine}
use Rattle.task_script.specs.Lines.{input_lines, before_returns, without_returns, is_blank, skip_blanks, has_bytes, words}
use Rattle.task_script.specs.Forms.{AreLines, HasLinePrefix, HasLineText, value_of, is_number, is_within, Kind, reads, lines_kind, count_kind, upper_kind, number_kind, keep_kind, drop_kind}
use Rattle.task_script.specs.Forms.{tally_kind, pin_kind, custom_kind, cat_kind, weave_kind, Form, skip_line, cpus_line, caches_line, room_line, task_line, text_line, end_line, setting_form}
use Rattle.task_script.specs.Forms.{reader_form}
use Rattle.task_script.specs.Forms.{joining_form, choosing_form, long_form, worded_form, text_of, bare_form, form_of}
use Rattle.task_script.specs.Script.{SoFar, faults, lowest, form_code, is_bad_group, is_kept, has_tasks, bad_number, bad_name, name_twice, no_such_task, already_read, too_many, bad_order, custom_in}
use Rattle.task_script.specs.Script.{is_no_work, bad_custom}
use Rattle.task_script.specs.Script.{text_without_task}
use Rattle.task_script.specs.Reading.{IsBelow, CanSettle}
use Rattle.task_script.specs.Valid.{IsText, IsWord}

-- P of each
abbrev pub Each : (List ℕ → Type 0) → List (List ℕ) → Type 0
Each P [] = ⊤
Each P (x ∷ xs) = P x × Each P xs

-- ---- no line feeds

cons_line : (byte : ℕ) (bytes : List ℕ) → byte ≢ 10 → IsLine bytes → IsLine (byte ∷ bytes)
cons_line byte bytes other rest zero d lt = other
cons_line byte bytes other rest (suc k) d lt = rest k d (omega arith)

first_of_line : (byte : ℕ) (bytes : List ℕ) → IsLine (byte ∷ bytes) → byte ≢ 10
first_of_line byte bytes h = h 0 0 (omega arith)

rest_of_line : (byte : ℕ) (bytes : List ℕ) → IsLine (byte ∷ bytes) → IsLine bytes
rest_of_line byte bytes h k d lt = h (suc k) d (omega arith)

no_line : IsLine []
no_line k d lt = absurd (omega arith)

-- ---- texts

-- what is read has no line feed
break_lines : (byte : ℕ) (lines : List (List ℕ)) → Each IsLine lines → (b : Bool) → (byte == 10) ≡ b → Each IsLine (cond b ([] ∷ lines) (onto_first byte lines))
break_lines byte lines h true e = (no_line, h)
break_lines byte [] h false e = (cons_line byte [] (eqb-false byte 10 e) no_line, tt)
break_lines byte (line ∷ lines) h false e = (cons_line byte line (eqb-false byte 10 e) h.0, h.1)

pub lines_read : (bytes : List ℕ) → Each IsLine (input_lines bytes)
lines_read [] = tt
lines_read (byte ∷ bytes) = break_lines byte (input_lines bytes) (lines_read bytes) (byte == 10) refl

rest_text : (byte : ℕ) (bytes : List ℕ) → IsText (byte ∷ bytes) → IsText bytes
rest_text byte [] h = record { line = no_line; no_return = λ e. absurd cc }
rest_text byte (next ∷ bytes) h = record { line = rest_of_line byte (next ∷ bytes) h.line; no_return = h.no_return }

no_text : IsText []
no_text = record { line = no_line; no_return = λ e. absurd cc }

lone_text : (byte : ℕ) → byte ≢ 10 → (b : Bool) → (byte == 13) ≡ b → IsText (cond b [] (byte ∷ []))
lone_text byte other true e = no_text
lone_text byte other false e = record { line = cons_line byte [] other no_line; no_return = λ same. let n : byte ≢ 13 = eqb-false byte 13 e in absurd (n cc) }

before_text : (byte : ℕ) (bytes : List ℕ) → byte ≢ 10 → IsText bytes → IsText (before_returns byte bytes)
before_text byte [] other h = lone_text byte other (byte == 13) refl
before_text byte (next ∷ bytes) other h = record { line = cons_line byte (next ∷ bytes) other h.line; no_return = h.no_return }

returns_text : (line : List ℕ) → IsLine line → IsText (without_returns line)
returns_text [] h = no_text
returns_text (byte ∷ line) h = before_text byte (without_returns line) (first_of_line byte line h) (returns_text line (rest_of_line byte line h))

blanks_text : (line : List ℕ) → IsText line → IsText (skip_blanks line)
blanks_text [] h = h
blanks_text (byte ∷ line) h =
    let rest = blanks_text line (rest_text byte line h) in
    elim (is_blank byte) as (λ b. IsText (cond b (skip_blanks line) (byte ∷ line))) [ true ↦ rest | false ↦ h ]

-- ---- words

abbrev IsPlain : ℕ → Type 0
IsPlain byte = (byte ≢ 10) × (byte ≢ 32) × (byte ≢ 9)

abbrev ArePlain : List ℕ → Type 0
ArePlain bytes = All IsPlain bytes

none_plain : ArePlain []
none_plain k d lt = absurd (omega arith)

cons_plain : (byte : ℕ) (bytes : List ℕ) → IsPlain byte → ArePlain bytes → ArePlain (byte ∷ bytes)
cons_plain byte bytes this rest zero d lt = this
cons_plain byte bytes this rest (suc k) d lt = rest k d (omega arith)

no_blank : (byte : ℕ) → byte ≢ 10 → is_blank byte ≡ false → IsPlain byte
no_blank byte other e = let parts = or_parts (byte == 32) (byte == 9) e in (other, eqb-false byte 32 parts.0, eqb-false byte 9 parts.1)

onto_plain : (byte : ℕ) (parts : List (List ℕ)) → IsPlain byte → Each ArePlain parts → Each ArePlain (onto_first byte parts)
onto_plain byte [] this h = (cons_plain byte [] this none_plain, tt)
onto_plain byte (part ∷ parts) this h = (cons_plain byte part this h.0, h.1)

part_plain : (byte : ℕ) (parts : List (List ℕ)) → byte ≢ 10 → Each ArePlain parts → (b : Bool) → is_blank byte ≡ b → Each ArePlain (cond b ([] ∷ parts) (onto_first byte parts))
part_plain byte parts other h true e = (none_plain, h)
part_plain byte parts other h false e = onto_plain byte parts (no_blank byte other e) h

split_plain : (line : List ℕ) → IsLine line → Each ArePlain (slice_split is_blank line)
split_plain [] h = (none_plain, tt)
split_plain (byte ∷ line) h =
    part_plain byte (slice_split is_blank line) (first_of_line byte line h) (split_plain line (rest_of_line byte line h)) (is_blank byte) refl

keep_word : (part : List ℕ) (parts : List (List ℕ)) → ArePlain part → Each IsWord parts → Each IsWord (cond (has_bytes part) (part ∷ parts) parts)
keep_word [] parts this h = h
keep_word (byte ∷ part) parts this h = (record { some = omega arith; no_blank = this }, h)

kept_words : (parts : List (List ℕ)) → Each ArePlain parts → Each IsWord (filter has_bytes parts)
kept_words [] h = tt
kept_words (part ∷ parts) h = keep_word part (filter has_bytes parts) h.0 (kept_words parts h.1)

words_of_line : (line : List ℕ) → IsLine line → Each IsWord (words line)
words_of_line line h = kept_words (slice_split is_blank line) (split_plain line h)

-- ---- the texts and words of a form

abbrev pub HasPrefixWord : Kind → Type 0
HasPrefixWord (keep_kind prefix source) = IsWord prefix
HasPrefixWord (drop_kind prefix source) = IsWord prefix
HasPrefixWord _ = ⊤

abbrev pub HasWords : Form → Type 0
HasWords (text_line text) = IsText text
HasWords (task_line name kind) = IsWord name × HasPrefixWord kind × Each IsWord (reads kind)
HasWords _ = ⊤

-- the form that is picked
pick : (b : Bool) (x : Form) (rest : Option Form) (form : Form) → cond b (Some x) rest ≡ Some form → HasWords x → (rest ≡ Some form → HasWords form) → HasWords form
pick true x rest form e h more = let same : x ≡ form = cc in subst HasWords same h
pick false x rest form e h more = more e

within : (b : Bool) (o : Option Form) (form : Form) → cond b o None ≡ Some form → o ≡ Some form
within true o form e = e
within false o form e = absurd cc

none_text : (form : Form) → None ≡ Some form → HasWords form
none_text form e = absurd cc

joining_text : (name kind first second : List ℕ) (form : Form) → IsWord name → IsWord first → IsWord second → joining_form name kind first second ≡ Some form → HasWords form
joining_text name kind first second form n a b e =
    pick (bytes_eq kind (codes "cat")) (task_line name (cat_kind first second)) (cond (bytes_eq kind (codes "weave")) (Some (task_line name (weave_kind first second))) None) form e (
      n,
      tt,
      (a, (b, tt)),
    )
    (λ w. pick (bytes_eq kind (codes "weave")) (task_line name (weave_kind first second)) None form w (n, tt, (a, (b, tt))) (none_text form))

choosing_text : (name kind word source : List ℕ) (form : Form) → IsWord name → IsWord word → IsWord source → choosing_form name kind word source ≡ Some form → HasWords form
choosing_text name kind word source form n w s e =
    pick (bytes_eq kind (codes "keep")) (task_line name (keep_kind word source))
    (cond (bytes_eq kind (codes "drop")) (Some (task_line name (drop_kind word source))) pinned) form e (n, w, (s, tt))
    (λ d. pick (bytes_eq kind (codes "drop")) (task_line name (drop_kind word source)) pinned form d (n, w, (s, tt))
    (λ p. pick (bytes_eq kind (codes "pin")) (task_line name (pin_kind word source)) brought form p (n, tt, (s, tt))
    (λ c. pick (bytes_eq kind (codes "custom")) (task_line name (custom_kind word source)) None form c (n, tt, (s, tt)) (none_text form))))
  where
    brought : Option Form
    brought = cond (bytes_eq kind (codes "custom")) (Some (task_line name (custom_kind word source))) None

    pinned : Option Form
    pinned = cond (bytes_eq kind (codes "pin")) (Some (task_line name (pin_kind word source))) brought

long_text : (name kind third fourth fifth : List ℕ) (form : Form) → IsWord name → IsWord third → IsWord fourth → IsWord fifth
    → long_form name kind third fourth fifth ≡ Some form → HasWords form
long_text name kind third fourth fifth form n t o i e =
    elim (bytes_eq kind (codes "cat") || bytes_eq kind (codes "weave"))
    as (λ b. cond b (cond (bytes_eq third (codes "from")) (joining_form name kind fourth fifth) None) (cond (bytes_eq fourth (codes "from")) (choosing_form name kind third fifth) None) ≡ Some form
    → HasWords form) [
      | true ↦ λ j. joining_text name kind fourth fifth form n o i (within (bytes_eq third (codes "from")) (joining_form name kind fourth fifth) form j)
      | false ↦ λ j. choosing_text name kind third fifth form n t i (within (bytes_eq fourth (codes "from")) (choosing_form name kind third fifth) form j)
    ] e

setting_text : (word number : List ℕ) (form : Form) → setting_form word number ≡ Some form → HasWords form
setting_text word number form e =
    pick (bytes_eq word (codes "cpus")) (cpus_line number) (cond (bytes_eq word (codes "caches")) (Some (caches_line number)) (cond (bytes_eq word (codes "room")) (Some (room_line number)) None)) form
    e tt
    (λ f. pick (bytes_eq word (codes "caches")) (caches_line number) (cond (bytes_eq word (codes "room")) (Some (room_line number)) None) form f tt
    (λ g. pick (bytes_eq word (codes "room")) (room_line number) None form g tt (none_text form)))

reader_text : (name kind source : List ℕ) (form : Form) → IsWord name → IsWord source → reader_form name kind source ≡ Some form → HasWords form
reader_text name kind source form n s e =
    pick (bytes_eq kind (codes "upper")) (task_line name (upper_kind source))
    (cond (bytes_eq kind (codes "number")) (Some (task_line name (number_kind source))) (cond (bytes_eq kind (codes "tally")) (Some (task_line name (tally_kind source))) None)) form e (n, tt, (s, tt))
    (λ f. pick (bytes_eq kind (codes "number")) (task_line name (number_kind source)) (cond (bytes_eq kind (codes "tally")) (Some (task_line name (tally_kind source))) None) form f (n, tt, (s, tt))
    (λ g. pick (bytes_eq kind (codes "tally")) (task_line name (tally_kind source)) None form g (n, tt, (s, tt)) (none_text form)))

worded_text : (ws : List (List ℕ)) (form : Form) → Each IsWord ws → worded_form ws ≡ Some form → HasWords form
worded_text [] form h e = absurd cc
worded_text (a ∷ []) form h e = pick (bytes_eq a (codes "end")) end_line None form e tt (none_text form)
worded_text (a ∷ b ∷ []) form h e = setting_text a b form e
worded_text (a ∷ b ∷ c ∷ []) form h e =
    pick (bytes_eq a (codes "task") && bytes_eq c (codes "lines")) (task_line b lines_kind) None form e (h.1.0, tt, tt) (none_text form)
worded_text (a ∷ b ∷ c ∷ d ∷ []) form h e =
    pick (bytes_eq a (codes "task") && bytes_eq c (codes "count")) (task_line b (count_kind d)) None form e (h.1.0, tt, tt) (none_text form)
worded_text (a ∷ b ∷ c ∷ d ∷ s ∷ []) form h e =
    reader_text b c s form h.1.0 h.1.1.1.1.0 (within (bytes_eq a (codes "task") && bytes_eq d (codes "from")) (reader_form b c s) form e)
worded_text (a ∷ b ∷ c ∷ d ∷ s ∷ t ∷ []) form h e =
    long_text b c d s t form h.1.0 h.1.1.1.0 h.1.1.1.1.0 h.1.1.1.1.1.0 (within (bytes_eq a (codes "task")) (long_form b c d s t) form e)
worded_text (a ∷ b ∷ c ∷ d ∷ s ∷ t ∷ u ∷ ws) form h e = absurd cc

text_line_of : (bytes : List ℕ) → IsText bytes → IsText (text_of bytes)
text_line_of [] h = h
text_line_of (byte ∷ bytes) h =
    let rest = rest_text byte bytes h in
    elim (byte == 32) as (λ b. IsText (cond b bytes (byte ∷ bytes))) [ true ↦ rest | false ↦ h ]

bare_text : (line : List ℕ) (form : Form) → IsText line → bare_form line ≡ Some form → HasWords form
bare_text [] form h e = let same : skip_line ≡ form = cc in subst HasWords same tt
bare_text (byte ∷ bytes) form h e =
    pick (byte == 35) skip_line (cond (byte == 124) (Some (text_line (text_of bytes))) (worded_form (words (byte ∷ bytes)))) form e tt
    (λ f. pick (byte == 124) (text_line (text_of bytes)) (worded_form (words (byte ∷ bytes))) form f (text_line_of bytes (rest_text byte bytes h))
    (worded_text (words (byte ∷ bytes)) form (words_of_line (byte ∷ bytes) h.line)))

pub form_words : (line : List ℕ) (form : Form) → IsLine line → form_of line ≡ Some form → HasWords form
unfolding form_of
form_words line form h e = bare_text (skip_blanks (without_returns line)) form (blanks_text (without_returns line) (returns_text line h)) e

-- no line feed is in them

word_line : (word : List ℕ) → IsWord word → IsLine word
word_line word h k d lt = (h.no_blank k d lt).0

word_lines : (ws : List (List ℕ)) → Each IsWord ws → AreLines ws
word_lines [] h = tt
word_lines (word ∷ ws) h = (word_line word h.0, word_lines ws h.1)

prefix_line : (kind : Kind) → HasPrefixWord kind → HasLinePrefix kind
prefix_line lines_kind h = tt
prefix_line (count_kind number) h = tt
prefix_line (upper_kind source) h = tt
prefix_line (number_kind source) h = tt
prefix_line (keep_kind prefix source) h = word_line prefix h
prefix_line (drop_kind prefix source) h = word_line prefix h
prefix_line (tally_kind source) h = tt
prefix_line (pin_kind number source) h = tt
prefix_line (custom_kind number source) h = tt
prefix_line (cat_kind first second) h = tt
prefix_line (weave_kind first second) h = tt

line_text : (form : Form) → HasWords form → HasLineText form
line_text skip_line h = tt
line_text (cpus_line number) h = tt
line_text (caches_line number) h = tt
line_text (room_line number) h = tt
line_text (task_line name kind) h = (word_line name h.0, prefix_line kind h.1, word_lines (reads kind) h.2)
line_text (text_line text) h = h.line
line_text end_line h = tt

pub form_text : (line : List ℕ) (form : Form) → IsLine line → form_of line ≡ Some form → HasLineText form
form_text line form h e = line_text form (form_words line form h e)

-- ---- what a faultless form can be kept as

unended : (b : Bool) (o : Option ℕ) → cond b (Some 12) o ≡ None → o ≡ None
unended true o e = absurd cc
unended false o e = e

-- no code comes
nine : (a b c d e f g h i : Bool) → lowest ((3, a) ∷ (4, b) ∷ (5, c) ∷ (6, d) ∷ (7, e) ∷ (8, f) ∷ (10, g) ∷ (13, h) ∷ (14, i) ∷ []) ≡ None
    → (a ≡ false) × (b ≡ false) × (c ≡ false) × (d ≡ false) × (e ≡ false) × (f ≡ false) × (g ≡ false) × (h ≡ false) × (i ≡ false)
nine true b c d e f g h i is = absurd cc
nine false true c d e f g h i is = absurd cc
nine false false true d e f g h i is = absurd cc
nine false false false true e f g h i is = absurd cc
nine false false false false true f g h i is = absurd cc
nine false false false false false true g h i is = absurd cc
nine false false false false false false true h i is = absurd cc
nine false false false false false false false true i is = absurd cc
nine false false false false false false false false true is = absurd cc
nine false false false false false false false false false is = (refl, refl, refl, refl, refl, refl, refl, refl, refl)

pub record IsGood (s : SoFar) (form : Form) : Type 0 where
  pub numbers : bad_number s form ≡ false
  pub named : bad_name form ≡ false
  pub fresh : name_twice s form ≡ false
  pub found : no_such_task s form ≡ false
  pub unread : already_read s form ≡ false
  pub few : too_many s form ≡ false
  pub ordered : bad_order s form ≡ false
  pub work : bad_custom s form ≡ false
  pub behind : text_without_task s form ≡ false

pub is_good : (s : SoFar) (form : Form) → form_code s (Some form) ≡ None → IsGood s form
is_good s form e =
    let h = nine (bad_number s form) (bad_name form) (name_twice s form) (no_such_task s form) (already_read s form) (too_many s form) (bad_order s form) (bad_custom s form) (text_without_task s form)
    (unended (s.ended && is_kept form) (lowest (faults s form)) e) in
    record { numbers = h.0; named = h.1; fresh = h.2; found = h.3; unread = h.4; few = h.5; ordered = h.6; work = h.7; behind = h.8 }

within_high : (low high : ℕ) (number : List ℕ) → is_within low high number ≡ true → value_of number ≤ high
within_high low high number e = leb-true (value_of number) high (and_parts (is_number number && nat_le low (value_of number)) (nat_le (value_of number) high) e).1

group_fits : (cpus : Option ℕ) (number : List ℕ) → is_bad_group cpus number ≡ false → is_none cpus ≡ false → IsSomeAnd cpus (λ n. value_of number ≤ n)
group_fits None number bad none = absurd cc
group_fits (Some n) number bad none = within_high 1 n number (not-false _ bad)

below_customs : (s : SoFar) (number : Option ℕ) → is_no_work s number ≡ false → IsBelow s.customs number
below_customs s None e = tt
below_customs s (Some n) e = leb-false s.customs n (or_parts (nat_le s.customs n) (list_any (λ other. other == n) s.works) e).0

pub can_settle : (s : SoFar) (form : Form) → form_code s (Some form) ≡ None → CanSettle s form
can_settle s skip_line e = tt
can_settle s (cpus_line number) e =
    let good = is_good s (cpus_line number) e in
    let top : value_of number ≤ 16 = within_high 1 16 number (not-false _ good.numbers) in omega arith
can_settle s (caches_line number) e =
    let good = is_good s (caches_line number) e in
    group_fits s.cpus number good.numbers
    (or_parts (is_none s.cpus) (is_some s.caches) (or_parts (is_none s.cpus || is_some s.caches) (has_tasks s.names) good.ordered).0).0
can_settle s (room_line number) e =
    let good = is_good s (room_line number) e in
    let top : value_of number ≤ 64 = within_high 1 64 number (not-false _ good.numbers) in omega arith
can_settle s (task_line name kind) e =
    let good = is_good s (task_line name kind) e in
    (not-false _ good.named, leb-false 200 (length s.names) good.few, below_customs s (custom_in kind) good.work)
can_settle s (text_line text) e = tt
can_settle s end_line e = tt
