-- What a text says is bounded by its bytes.
use Rattle.std.proofs.Common.{◌≡◌, ◌==◌, ℕ, ◌+◌, ◌-◌, ◌<◌, ◌≤◌, Bool, true, false, nat_lt, nat_le, List, [], ◌∷◌, Option, Some, None, Result, Ok, Err, length, ap, ◌∙◌, refl, arith, if◌then◌else◌}
use Rattle.std.proofs.Common.{length-append, take, inl, inr, drop}
use Rattle.std.specs.List.{slice_split, onto_first}
use Rattle.std.proofs.lemmas.Bool.Decides.{nat_tests}
use Rattle.std.proofs.lemmas.Bool.{cases_Bool}
use Rattle.std.proofs.lemmas.List.Sums.{sum_by-append}
use Rattle.std.proofs.lemmas.List.Splits.{length-slice_split, slice_split-cons_yes, slice_split-cons_no}
use Rattle.handoff_data.specs.declared.entry.Entry.{Entry}
use Rattle.handoff_data.specs.History.{History}
use Rattle.journal_text.specs.declared.heading.Heading.{Heading}
use Rattle.journal_text.specs.declared.heading.Stage.{Stage}
use Rattle.journal_text.specs.declared.heading.Stage.TheVariants as stage
use Rattle.journal_text.specs.declared.keyword.Keyword.{Keyword}
use Rattle.journal_text.specs.declared.keyword.Keyword.TheVariants as keyword
use Rattle.journal_text.specs.Entries.{entry_after}
use Rattle.journal_text.specs.Fields.{◌>>=◌, gap_len, word_len, one_of}
use Rattle.journal_text.specs.Headings.{heading_after}
use Rattle.journal_text.specs.Keywords.{keyword_of}
use Rattle.journal_text.specs.Lines.{Progress, line_after, content_len, words_after, words_at, body_after, body_by, with_said, with_entry, closed, is_next, is_last}
use Rattle.journal_text.specs.Text.{is_feed, byte_limit, blank_progress, entries_in, entry_count, history_at, history_of, last_of, lines_from, parts_from, reading, then_on}

-- ---- answers, taken apart

pub record Goes (o : Option Progress) (on : Progress → Result History ℕ) (j : History) : Type 0 where
  pub next : Progress
  pub after : o ≡ Some next
  pub says : on next ≡ Ok j

pub then_ok : (line : ℕ) (o : Option Progress) (on : Progress → Result History ℕ) (j : History) → then_on line o on ≡ Ok j → Goes o on j
then_ok line None on j is = absurd cc
then_ok line (Some q) on j is = record { next = q; after = refl; says = is }

some_if : (b : Bool) (p q : Progress) → (if b then Some p else None) ≡ Some q → p ≡ q
some_if true p q is = cc
some_if false p q is = absurd cc

-- ---- a line adds one journal or one entry at most

-- how many journals and entries there are so far
abbrev size : Progress → ℕ
size p = length p.whole + entries_in p.whole + length p.entries

closed_size : (p : Progress) → size (closed p) ≡ size p + 1
closed_size p =
    omega (arith, length-append p.whole (p.entries ∷ []), sum_by-append (λ (entries : List Entry). length entries) p.whole (p.entries ∷ []))

entry_size : (p : Progress) (e : Entry) → size (with_entry p e) ≡ size p + 1
entry_size p e = omega (arith, length-append p.entries (e ∷ []))

same_size : (p q : Progress) → p ≡ q → size p ≡ size q
same_size p q same = ap (λ (x : Progress). size x) same

said_grows : (p q : Progress) (said : Option Entry) → with_said p said ≡ Some q → size q ≤ size p + 1
said_grows p q None is = absurd cc
said_grows p q (Some e) is =
    let same : with_entry p e ≡ q = cc in
    let after = same_size (with_entry p e) q same in
    let grows = entry_size p e in
    omega arith

body_grows : (k : Keyword) (p q : Progress) (rest : List ℕ) → body_by k p rest ≡ Some q → size q ≤ size p + 1
body_grows keyword.Seat p q rest is =
    let after = same_size (closed p) q (some_if (is_next (one_of rest) p) (closed p) q is) in
    let grows = closed_size p in
    omega arith
body_grows keyword.End p q rest is =
    let done : Progress = record (closed p) { heading = record p.heading { stage = stage.Done } } in
    let after : size (closed p) ≡ size q = same_size done q (some_if (is_last rest p) done q is) in
    let grows = closed_size p in
    omega arith
body_grows k p q rest is = said_grows p q (entry_after k rest) is

found_grows : (found : Option Keyword) (p q : Progress) (rest : List ℕ) → (found >>= λ k. body_by k p rest) ≡ Some q → size q ≤ size p + 1
found_grows None p q rest is = absurd cc
found_grows (Some k) p q rest is = body_grows k p q rest is

heading_grows : (h : Option Heading) (p q : Progress) → (h >>= λ x. Some (record p { heading = x })) ≡ Some q → size q ≤ size p + 1
heading_grows None p q is = absurd cc
heading_grows (Some h) p q is =
    let same : record p { heading = h } ≡ q = cc in
    let after : size p ≡ size q = same_size (record p { heading = h }) q same in
    omega arith

at_grows : (s : Stage) (p q : Progress) (word rest : List ℕ) → words_at s p word rest ≡ Some q → size q ≤ size p + 1
unfolding body_after
at_grows stage.Entries p q word rest is = found_grows (keyword_of word) p q rest is
at_grows s p q word rest is = heading_grows (heading_after p.heading word rest) p q is

blank_grows : (b : Bool) (p q : Progress) (word rest : List ℕ) → (if b then Some p else words_after p word rest) ≡ Some q → size q ≤ size p + 1
unfolding words_after
blank_grows true p q word rest is =
    let same : p ≡ q = cc in
    let after = same_size p q same in
    omega arith
blank_grows false p q word rest is = at_grows p.heading.stage p q word rest is

line_grows : (p q : Progress) (line : List ℕ) → line_after p line ≡ Some q → size q ≤ size p + 1
unfolding line_after
line_grows p q line is =
    let text = take (content_len line) line in
    blank_grows (gap_len text == length text) p q (take (word_len text) text) (drop (word_len text) text) is

-- ---- whole texts

-- how many journals and entries there are
abbrev history_size : History → ℕ
history_size j = length j.seats + entries_in j.seats

at_size : (s : Stage) (p : Progress) (line : ℕ) (j : History) → history_at s p line ≡ Ok j → history_size j ≤ size p
at_size stage.Done p line j is =
    let same : record { cpus = p.heading.cpus; tasks = p.heading.tasks; seats = p.whole } ≡ j = cc in
    let sizes : length p.whole + entries_in p.whole ≡ history_size j = ap (λ (h : History). history_size h) same in
    omega arith
at_size s p line j is = absurd cc

size_of : (p : Progress) (line : ℕ) (j : History) → history_of p line ≡ Ok j → history_size j ≤ size p
unfolding history_of
size_of p line j is = at_size p.heading.stage p line j is

-- how many bytes the lines have, each with one behind it
abbrev pub total : List (List ℕ) → ℕ
total [] = 0
total (text ∷ texts) = length text + 1 + total texts

record Bounded (room before : ℕ) (text : List ℕ) (texts : List (List ℕ)) (j : History) : Type 0 where
  within : length text + total texts ≤ room
  few : history_size j ≤ before + 1 + length texts

last_fits : (full : Bool) (line room : ℕ) (p : Progress) (text : List ℕ) (j : History) → nat_lt room (length text) ≡ full
    → (if full then Err line else then_on line (line_after p text) (λ q. history_of q (line + 1))) ≡ Ok j → Bounded room (size p) text [] j
last_fits true line room p text j full is = absurd cc
last_fits false line room p text j fits is =
    let room_left : length text ≤ room = grind (arith, nat_tests, fits) in
    let goes = then_ok line (line_after p text) (λ q. history_of q (line + 1)) j is in
    let whole = size_of goes.next (line + 1) j goes.says in
    let grows = line_grows p goes.next text goes.after in
    record { within = omega arith; few = omega arith }

last_some : (empty : Bool) (line room : ℕ) (p : Progress) (text : List ℕ) (j : History) → (length text == 0) ≡ empty
    → (if empty then history_of p line else if nat_lt room (length text) then Err line else then_on line (line_after p text) (λ q. history_of q (line + 1))) ≡ Ok j → Bounded room (size p) text [] j
last_some true line room p text j none is =
    let no_byte : length text ≡ 0 = grind (arith, nat_tests, none) in
    let whole = size_of p line j is in
    record { within = omega arith; few = omega arith }
last_some false line room p text j some is = last_fits (nat_lt room (length text)) line room p text j refl is

last_bounded : (line room : ℕ) (p : Progress) (text : List ℕ) (j : History) → last_of line room p text ≡ Ok j → Bounded room (size p) text [] j
unfolding last_of
last_bounded line room p text j is = last_some (length text == 0) line room p text j refl is

-- a line that has others behind it, which are bounded
more_bounded : (full : Bool) (texts : List (List ℕ)) (line room : ℕ) (p : Progress) (text next : List ℕ) (j : History) → nat_le room (length text) ≡ full
    → ((q : Progress) → lines_from (line + 1) (room - (length text + 1)) q next texts ≡ Ok j → Bounded (room - (length text + 1)) (size q) next texts j)
    → (if full then Err line else then_on line (line_after p text) (λ q. lines_from (line + 1) (room - (length text + 1)) q next texts)) ≡ Ok j → Bounded room (size p) text (next ∷ texts) j
more_bounded true texts line room p text next j full others is = absurd cc
more_bounded false texts line room p text next j fits others is =
    let room_left : length text < room = grind (arith, nat_tests, fits) in
    let goes = then_ok line (line_after p text) (λ q. lines_from (line + 1) (room - (length text + 1)) q next texts) j is in
    let rest = others goes.next goes.says in
    let grows = line_grows p goes.next text goes.after in
    record { within = omega (arith, rest.within); few = omega (arith, rest.few) }

lines_bounded : (texts : List (List ℕ)) (line room : ℕ) (p : Progress) (text : List ℕ) (j : History) → lines_from line room p text texts ≡ Ok j → Bounded room (size p) text texts j
lines_bounded [] line room p text j is = last_bounded line room p text j is
lines_bounded (next ∷ texts) line room p text j is =
    more_bounded (nat_le room (length text)) texts line room p text next j refl (λ q. lines_bounded texts (line + 1) (room - (length text + 1)) q next j) is

total_first : (x : ℕ) (texts : List (List ℕ)) → 0 < length texts → total (onto_first x texts) ≡ total texts + 1
total_first x [] some = absurd (omega arith)
total_first x (text ∷ texts) some = omega arith

pub total_split : (bytes : List ℕ) → total (slice_split is_feed bytes) ≡ length bytes + 1
total_split [] = refl
total_split (b ∷ bytes) =
    elim (cases_Bool (is_feed b)) [
      | inl feed ↦ ap total (slice_split-cons_yes is_feed b bytes feed) ∙ omega (arith, total_split bytes)
      | inr other ↦ ap total (slice_split-cons_no is_feed b bytes other) ∙ omega (arith, total_split bytes, total_first b (slice_split is_feed bytes) (omega (arith, length-slice_split is_feed bytes)))
    ]

count_within : (texts : List (List ℕ)) → length texts ≤ total texts
count_within [] = omega arith
count_within (text ∷ texts) = omega (arith, count_within texts)

parts_bounded : (texts : List (List ℕ)) (line room : ℕ) (p : Progress) (j : History) → parts_from line room p texts ≡ Ok j → (total texts ≤ room + 1) × (history_size j ≤ size p + length texts)
parts_bounded [] line room p j is = absurd cc
parts_bounded (text ∷ texts) line room p j is =
    let bounded = lines_bounded texts line room p text j is in
    (omega (arith, bounded.within), omega (arith, bounded.few))

pub reading_bounded : (bytes : List ℕ) (j : History) → reading bytes ≡ Ok j → (length bytes ≤ byte_limit) × (length j.seats + entry_count j ≤ length bytes + 1)
unfolding reading
reading_bounded bytes j is =
    let bounded = parts_bounded (slice_split is_feed bytes) 1 byte_limit blank_progress j is in
    let whole = total_split bytes in
    let few = count_within (slice_split is_feed bytes) in
    (omega (arith, bounded.0, whole), omega (arith, bounded.1, whole, few))
