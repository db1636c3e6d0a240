-- A text that is written is read.
use Rattle.std.proofs.Common.{◌≡◌, ◌≢◌, ◌==◌, ℕ, ◌+◌, ◌-◌, ◌^◌, ◌<◌, ◌≤◌, ◌&&◌, true, false, nat_lt, nat_le, List, [], ◌∷◌, ◌++◌, Option, Some, None, Ok, Err, length, take, drop, ap, sym, ◌∙◌, refl}
use Rattle.std.proofs.Common.{arith, if◌then◌else◌, map, length-append}
use Rattle.std.specs.List.{slice_split, AllByRecursion}
use Rattle.std.specs.Prelude.{codes}
use Rattle.std.proofs.lemmas.Bool.Decides.{nat_tests}
use Rattle.std.proofs.lemmas.Fmt.{decimal_digit}
use Rattle.std.proofs.lemmas.List.{append_assoc, append-nil}
use Rattle.std.proofs.lemmas.List.Splits.{slice_split_at}
use Rattle.handoff_data.specs.declared.entry.Entry.{Entry}
use Rattle.handoff_data.specs.History.{History}
use Rattle.journal_text.specs.declared.heading.Heading.{Heading}
use Rattle.journal_text.specs.declared.heading.Stage.{Stage}
use Rattle.journal_text.specs.declared.heading.Stage.TheVariants as stage
use Rattle.journal_text.specs.Fields.{◌>>=◌, one_of, gap_len, word_len}
use Rattle.journal_text.specs.Headings.{heading_after}
use Rattle.journal_text.specs.Lines.{Progress, line_after, content_after, words_after, body_after, with_entry, closed, is_next, is_last}
use Rattle.journal_text.specs.Readable.{AreReadable, IsReadable, text_of}
use Rattle.journal_text.specs.Spelling.{fields, entry_line, seat_lines, first_lines, spelling}
use Rattle.journal_text.specs.Text.{is_feed, byte_limit, blank_progress, history_of, last_of, parts_from, reading, then_on}
use Rattle.journal_text.proofs.Texts.{on_parts, not_full}
use Rattle.journal_text.proofs.LineBack.{IsPlain, is_plain, plain, plain-append, plain_fields, content_of, not_none, at_entries, entry_line_back, plain_entry_line}
use Rattle.journal_text.proofs.Readback.{IsWord, IsTail, word_of, take_front, drop_front, one_read}
use Rattle.journal_text.specs.Keywords.{change_word_of, run_word_of, cause_word_of, mark_word_of}

-- what the lines make of what was said before
abbrev pub run : Progress → List (List ℕ) → Option Progress
run p [] = Some p
run p (line ∷ lines) = line_after p line >>= λ q. run q lines

bind_assoc : {A B C : Type 0} (o : Option A) (f : A → Option B) (g : B → Option C) → ((o >>= f) >>= g) ≡ (o >>= λ x. f x >>= g)
bind_assoc None f g = refl
bind_assoc (Some x) f g = refl

bind_same : {A B : Type 0} (o : Option A) (f g : A → Option B) → ((x : A) → f x ≡ g x) → (o >>= f) ≡ (o >>= g)
bind_same None f g same = refl
bind_same (Some x) f g same = same x

-- Where both steps answer.
pub record Steps {A B : Type 0} (o : Option A) (f : A → Option B) (y : B) : Type 0 where
  pub between : A
  pub first : o ≡ Some between
  pub second : f between ≡ Some y

pub bind_some : {A B : Type 0} (o : Option A) (f : A → Option B) (y : B) → (o >>= f) ≡ Some y → Steps o f y
bind_some None f y e = absurd (cc)
bind_some (Some x) f y e = record { between = x; first = refl; second = e }

pub run-append : (p : Progress) (xs ys : List (List ℕ)) → run p (xs ++ ys) ≡ (run p xs >>= λ q. run q ys)
run-append p [] ys = refl
run-append p (x ∷ xs) ys =
    bind_same (line_after p x) _ _ (λ q. run-append q xs ys) ∙ sym (bind_assoc (line_after p x) (λ q. run q xs) (λ q. run q ys))

-- one run after another
pub run_on : (p q : Progress) (xs ys : List (List ℕ)) → run p xs ≡ Some q → run p (xs ++ ys) ≡ run q ys
run_on p q xs ys e = run-append p xs ys ∙ ap (λ o. o >>= λ q. run q ys) e

no_feed : (b : ℕ) → is_plain b ≡ true → is_feed b ≡ false
no_feed b e = grind (arith, nat_tests)

-- each line is plain
abbrev pub ArePlain : List (List ℕ) → Type 0
ArePlain lines = AllByRecursion IsPlain lines

split_text : (lines : List (List ℕ)) → ArePlain lines → slice_split is_feed (text_of lines) ≡ lines ++ [] ∷ []
split_text [] all = refl
split_text (line ∷ lines) all =
    ap (slice_split is_feed) (append_assoc line (10 ∷ []) (text_of lines))
    ∙ slice_split_at is_feed line 10 (text_of lines) (λ k d less. no_feed _ (all.0 k d less)) refl
    ∙ ap (λ parts. line ∷ parts) (split_text lines all.1)

-- the lines of a text within the limit say what they make
never_empty : (ls : List (List ℕ)) → ls ++ [] ∷ [] ≢ []
never_empty [] e = absurd (cc)
never_empty (l ∷ ls) e = absurd (cc)

run_text : (lines : List (List ℕ)) (p q : Progress) (line room : ℕ) → run p lines ≡ Some q → length (text_of lines) ≤ room
    → parts_from line room p (lines ++ [] ∷ []) ≡ history_of q (line + length lines)
unfolding last_of
run_text [] p q line room made short =
    let same : p ≡ q = cc in
    let here : line ≡ line + length {A = List ℕ} [] = omega arith in
    ap (λ n. history_of p n) here ∙ ap (λ x. history_of x (line + length {A = List ℕ} [])) same
run_text (l ∷ ls) p q line room made short =
    let s = bind_some (line_after p l) (λ r. run r ls) q made in
    let lengths : length (text_of (l ∷ ls)) ≡ length l + 1 + length (text_of ls)
    = omega (arith, length-append (l ++ 10 ∷ []) (text_of ls), length-append l (10 ∷ [])) in
    let fits : length l < room = omega arith in
    let next : line + 1 + length ls ≡ line + length (l ∷ ls) = omega arith in
    on_parts line room p l (ls ++ [] ∷ []) (never_empty ls)
    ∙ ap (λ b. if b then Err line else then_on line (line_after p l) (λ q. parts_from (line + 1) (room - (length l + 1)) q (ls ++ [] ∷ []))) (not_full room (length l) fits)
    ∙ ap (λ o. then_on line o (λ q. parts_from (line + 1) (room - (length l + 1)) q (ls ++ [] ∷ []))) s.first
    ∙ run_text ls s.between q (line + 1) (room - (length l + 1)) s.second (omega arith)
    ∙ ap (history_of q) next

-- the entries of one journal
run_entries : (es : List Entry) (p : Progress) → AllByRecursion IsReadable es → p.heading.stage ≡ stage.Entries
    → run p (map entry_line es) ≡ Some (record p { entries = p.entries ++ es })
run_entries [] p all here = ap (λ (es : List Entry). Some (record p { entries = es })) (sym (append-nil p.entries))
run_entries (e ∷ es) p all here =
    ap (λ o. o >>= λ q. run q (map entry_line es)) (entry_line_back p e all.0 here)
    ∙ run_entries es (with_entry p e) all.1 here
    ∙ ap (λ (es : List Entry). Some (record p { entries = es })) (append_assoc p.entries (e ∷ []) es)

gap_zero : (w rest : List ℕ) → IsWord w → 0 < length w → gap_len (w ++ rest) ≡ 0
unfolding gap_len
gap_zero [] rest word some = absurd (omega arith)
gap_zero (b ∷ w) rest word some = rw word.0 refl

-- a line of a word, and what stands behind it
words_in : (p : Progress) (w rest : List ℕ) → IsWord w → 0 < length w → IsTail rest → content_after p (w ++ rest) ≡ words_after p w rest
words_in p w rest word some tail =
    let text = w ++ rest in
    let long : 0 < length text = omega (arith, length-append w rest) in
    ap (λ g. if g == length text then Some p else words_after p (take (word_len text) text) (drop (word_len text) text)) (gap_zero w rest word some)
    ∙ ap (λ b. if b then Some p else words_after p (take (word_len text) text) (drop (word_len text) text)) (not_none text long)
    ∙ ap (λ n. words_after p (take n text) (drop n text)) (word_of w rest word tail)
    ∙ ap (λ x. words_after p x (drop (length w) text)) (take_front w rest) ∙ ap (words_after p w) (drop_front w rest)

-- the first lines
abbrev opening : Stage → ℕ → ℕ → ℕ → Progress
opening s c t n = record { heading = record { stage = s; cpus = c; tasks = t; seats = n }; whole = []; entries = [] }

heading_said : (s : Stage) (c t n : ℕ) (word rest : List ℕ) (s' : Stage) (c' t' n' : ℕ) → s ≢ stage.Entries
    → heading_after (record { stage = s; cpus = c; tasks = t; seats = n }) word rest ≡ Some (record { stage = s'; cpus = c'; tasks = t'; seats = n' })
    → words_after (opening s c t n) word rest ≡ Some (opening s' c' t' n')
unfolding words_after
heading_said stage.Version c t n word rest s' c' t' n' other e = ap (λ o. o >>= λ (h : Heading). Some (record { heading = h; whole = []; entries = [] })) e
heading_said stage.Cpus c t n word rest s' c' t' n' other e = ap (λ o. o >>= λ (h : Heading). Some (record { heading = h; whole = []; entries = [] })) e
heading_said stage.Tasks c t n word rest s' c' t' n' other e = ap (λ o. o >>= λ (h : Heading). Some (record { heading = h; whole = []; entries = [] })) e
heading_said stage.Seats c t n word rest s' c' t' n' other e = ap (λ o. o >>= λ (h : Heading). Some (record { heading = h; whole = []; entries = [] })) e
heading_said stage.FirstSeat c t n word rest s' c' t' n' other e = ap (λ o. o >>= λ (h : Heading). Some (record { heading = h; whole = []; entries = [] })) e
heading_said stage.Entries c t n word rest s' c' t' n' other e = absurd (other refl)
heading_said stage.Done c t n word rest s' c' t' n' other e = ap (λ o. o >>= λ (h : Heading). Some (record { heading = h; whole = []; entries = [] })) e

-- a line of a word and a number
number_line : (p : Progress) (w : List ℕ) (n : ℕ) → IsPlain w → IsWord w → 0 < length w → n < 2 ^ 64
    → line_after p (w ++ fields (n ∷ [])) ≡ words_after p w (fields (n ∷ []))
number_line p w n all word some fits =
    content_of p (w ++ fields (n ∷ [])) (plain-append w (fields (n ∷ [])) all (plain_fields (n ∷ []) (fits, tt)))
    ∙ words_in p w (fields (n ∷ [])) word some refl

one_said : one_of (codes " 1") ≡ Some 1
one_said = ap (λ w. one_of (32 ∷ (w ++ []))) (sym (decimal_digit 1 (omega arith))) ∙ one_read 1 (omega arith)

version_line : line_after (opening stage.Version 0 0 0) (codes "journal 1") ≡ Some (opening stage.Cpus 0 0 0)
unfolding heading_after
version_line =
    content_of (opening stage.Version 0 0 0) (codes "journal 1") (plain (codes "journal 1") refl)
    ∙ words_in (opening stage.Version 0 0 0) (codes "journal") (codes " 1") (refl, (refl, (refl, (refl, (refl, (refl, (refl, tt))))))) (omega arith) refl
    ∙ heading_said stage.Version 0 0 0 (codes "journal") (codes " 1") stage.Cpus 0 0 0 (λ e. absurd (cc))
    (ap (λ o. o >>= λ n. if n == 1 then Some (record { stage = stage.Cpus; cpus = 0; tasks = 0; seats = 0 }) else None) one_said)

cpus_line : (n : ℕ) → 1 ≤ n → n ≤ 16 → line_after (opening stage.Cpus 0 0 0) (codes "cpus" ++ fields (n ∷ [])) ≡ Some (opening stage.Tasks n 0 0)
unfolding heading_after
cpus_line n low high =
    let test : (nat_le 1 n && nat_le n 16) ≡ true = grind (arith, nat_tests) in
    number_line (opening stage.Cpus 0 0 0) (codes "cpus") n (plain (codes "cpus") refl) (refl, (refl, (refl, (refl, tt)))) (omega arith) (omega arith)
    ∙ heading_said stage.Cpus 0 0 0 (codes "cpus") (fields (n ∷ [])) stage.Tasks n 0 0 (λ e. absurd (cc))
    (ap (λ o. o >>= λ n. if nat_le 1 n && nat_le n 16 then Some (record { stage = stage.Tasks; cpus = n; tasks = 0; seats = 0 }) else None) (one_read n (omega arith))
    ∙ ap (λ b. if b then Some (record { stage = stage.Tasks; cpus = n; tasks = 0; seats = 0 }) else None) test)

tasks_line : (c n : ℕ) → n ≤ 200 → line_after (opening stage.Tasks c 0 0) (codes "tasks" ++ fields (n ∷ [])) ≡ Some (opening stage.Seats c n 0)
unfolding heading_after
tasks_line c n high =
    let test : nat_le n 200 ≡ true = grind (arith, nat_tests) in
    number_line (opening stage.Tasks c 0 0) (codes "tasks") n (plain (codes "tasks") refl) (refl, (refl, (refl, (refl, (refl, tt))))) (omega arith) (omega arith)
    ∙ heading_said stage.Tasks c 0 0 (codes "tasks") (fields (n ∷ [])) stage.Seats c n 0 (λ e. absurd (cc))
    (ap (λ o. o >>= λ n. if nat_le n 200 then Some (record { stage = stage.Seats; cpus = c; tasks = n; seats = 0 }) else None) (one_read n (omega arith))
    ∙ ap (λ b. if b then Some (record { stage = stage.Seats; cpus = c; tasks = n; seats = 0 }) else None) test)

seats_line : (c t n : ℕ) → c ≤ n → n ≤ c + 4 → c ≤ 16 → line_after (opening stage.Seats c t 0) (codes "seats" ++ fields (n ∷ [])) ≡ Some (opening stage.FirstSeat c t n)
unfolding heading_after
seats_line c t n low high few =
    let test : (nat_le c n && nat_le n (c + 4) && nat_le n 20) ≡ true = grind (arith, nat_tests) in
    number_line (opening stage.Seats c t 0) (codes "seats") n (plain (codes "seats") refl) (refl, (refl, (refl, (refl, (refl, tt))))) (omega arith) (omega arith)
    ∙ heading_said stage.Seats c t 0 (codes "seats") (fields (n ∷ [])) stage.FirstSeat c t n (λ e. absurd (cc))
    (ap (λ o. o >>= λ n. if nat_le c n && nat_le n (c + 4) && nat_le n 20 then Some (record { stage = stage.FirstSeat; cpus = c; tasks = t; seats = n }) else None) (one_read n (omega arith))
    ∙ ap (λ b. if b then Some (record { stage = stage.FirstSeat; cpus = c; tasks = t; seats = n }) else None) test)

first_seat : (c t n : ℕ) → line_after (opening stage.FirstSeat c t n) (codes "seat" ++ fields (0 ∷ [])) ≡ Some (opening stage.Entries c t n)
unfolding heading_after
first_seat c t n =
    number_line (opening stage.FirstSeat c t n) (codes "seat") 0 (plain (codes "seat") refl) (refl, (refl, (refl, (refl, tt)))) (omega arith) (omega arith)
    ∙ heading_said stage.FirstSeat c t n (codes "seat") (fields (0 ∷ [])) stage.Entries c t n (λ e. absurd (cc))
    (ap (λ o. o >>= λ k. if k == 0 then Some (record { stage = stage.Entries; cpus = c; tasks = t; seats = n }) else None) (one_read 0 (omega arith)))

-- a later seat
seat_body : (p : Progress) (rest : List ℕ) → body_after p (codes "seat") rest ≡ (if is_next (one_of rest) p then Some (closed p) else None)
unfolding body_after change_word_of run_word_of cause_word_of mark_word_of
seat_body p rest = refl

later_seat : (p : Progress) (i : ℕ) → p.heading.stage ≡ stage.Entries → i ≡ length p.whole + 1 → i < p.heading.seats → i < 2 ^ 64
    → line_after p (codes "seat" ++ fields (i ∷ [])) ≡ Some (closed p)
later_seat p i here next within fits =
    let test : ((i == length p.whole + 1) && nat_lt i p.heading.seats) ≡ true = grind (arith, nat_tests) in
    number_line p (codes "seat") i (plain (codes "seat") refl) (refl, (refl, (refl, (refl, tt)))) (omega arith) fits
    ∙ at_entries p (codes "seat") (fields (i ∷ [])) here ∙ seat_body p (fields (i ∷ []))
    ∙ ap (λ o. if is_next o p then Some (closed p) else None) (one_read i fits) ∙ ap (λ b. if b then Some (closed p) else None) test

end_body : (p : Progress) (rest : List ℕ) → body_after p (codes "end") rest
    ≡ (if is_last rest p then Some (record (closed p) { heading = record p.heading { stage = stage.Done } }) else None)
unfolding body_after change_word_of run_word_of cause_word_of mark_word_of
end_body p rest = refl

end_line : (p : Progress) → p.heading.stage ≡ stage.Entries → length p.whole + 1 ≡ p.heading.seats
    → line_after p (codes "end") ≡ Some (record (closed p) { heading = record p.heading { stage = stage.Done } })
end_line p here last =
    let test : (length p.whole + 1 == p.heading.seats) ≡ true = grind (arith, nat_tests) in
    content_of p (codes "end") (plain (codes "end") refl)
    ∙ words_in p (codes "end") [] (refl, (refl, (refl, tt))) (omega arith) tt ∙ at_entries p (codes "end") [] here ∙ end_body p []
    ∙ ap (λ b. if b then Some (record (closed p) { heading = record p.heading { stage = stage.Done } }) else None) test

-- the journals of these seats come after the one that is being read
abbrev seated : Progress → List (List Entry) → Progress
seated p [] = p
seated p (j ∷ js) = seated (record (closed p) { entries = j }) js

abbrev Readable : List (List Entry) → Type 0
Readable js = AllByRecursion (λ journal. AllByRecursion IsReadable journal) js

longer : (p : Progress) → length (closed p).whole ≡ length p.whole + 1
longer p = omega (arith, length-append p.whole (p.entries ∷ []))

run_seats : (js : List (List Entry)) (p : Progress) (i : ℕ) → p.heading.stage ≡ stage.Entries → i ≡ length p.whole + 1
    → i + length js ≤ p.heading.seats → p.heading.seats < 2 ^ 32 → Readable js → run p (seat_lines i js) ≡ Some (seated p js)
run_seats [] p i here next within few all = refl
run_seats (j ∷ js) p i here next within few all =
    let q : Progress = record (closed p) { entries = j } in
    let first = ap (λ o. o >>= λ r. run r (map entry_line j)) (later_seat p i here next (omega arith) (omega arith)) ∙ run_entries j (closed p) all.0 here in
    run_on p q ((codes "seat" ++ fields (i ∷ [])) ∷ map entry_line j) (seat_lines (i + 1) js) first
    ∙ run_seats js q (i + 1) here (omega (arith, longer p)) (omega arith) few all.1

whole_seated : (js : List (List Entry)) (p : Progress) → (closed (seated p js)).whole ≡ p.whole ++ (p.entries ∷ js)
whole_seated [] p = refl
whole_seated (j ∷ js) p = whole_seated js (record (closed p) { entries = j }) ∙ append_assoc p.whole (p.entries ∷ []) (j ∷ js)

heading_seated : (js : List (List Entry)) (p : Progress) → (seated p js).heading ≡ p.heading
heading_seated [] p = refl
heading_seated (j ∷ js) p = heading_seated js (record (closed p) { entries = j })

length_seated : (js : List (List Entry)) (p : Progress) → length (seated p js).whole ≡ length p.whole + length js
length_seated [] p = omega arith
length_seated (j ∷ js) p = omega (arith, length_seated js (record (closed p) { entries = j }), longer p)

-- what all lines make
finished : ℕ → ℕ → ℕ → List Entry → List (List Entry) → Progress
finished c t n first js =
    let p = seated (record (opening stage.Entries c t n) { entries = first }) js in
    record (closed p) { heading = record p.heading { stage = stage.Done } }

run_first : (c t n : ℕ) → 1 ≤ c → c ≤ 16 → t ≤ 200 → c ≤ n → n ≤ c + 4 → run blank_progress (first_lines c t n) ≡ Some (opening stage.FirstSeat c t n)
run_first c t n low high few enough most =
    let rest = (codes "cpus" ++ fields (c ∷ [])) ∷ (codes "tasks" ++ fields (t ∷ [])) ∷ (codes "seats" ++ fields (n ∷ [])) ∷ [] in
    ap (λ o. o >>= λ q. run q rest) version_line
    ∙ ap (λ o. o >>= λ q. run q ((codes "tasks" ++ fields (t ∷ [])) ∷ (codes "seats" ++ fields (n ∷ [])) ∷ [])) (cpus_line c low high)
    ∙ ap (λ o. o >>= λ q. run q ((codes "seats" ++ fields (n ∷ [])) ∷ [])) (tasks_line c t few)
    ∙ ap (λ o. o >>= λ q. run q []) (seats_line c t n enough most high)

run_all : (c t : ℕ) (first : List Entry) (js : List (List Entry)) → 1 ≤ c → c ≤ 16 → t ≤ 200 → c ≤ length (first ∷ js) → length (first ∷ js) ≤ c + 4
    → Readable (first ∷ js)
    → run blank_progress (spelling (record { cpus = c; tasks = t; seats = first ∷ js })) ≡ Some (finished c t (length (first ∷ js)) first js)
unfolding finished
run_all c t first js low high few enough most all =
    let n = length (first ∷ js) in
    let p0 = opening stage.FirstSeat c t n in
    let p1 : Progress = record (opening stage.Entries c t n) { entries = first } in
    let opened = ap (λ o. o >>= λ r. run r (map entry_line first)) (first_seat c t n) ∙ run_entries first (opening stage.Entries c t n) all.0 refl in
    let seats = run_on p0 p1 ((codes "seat" ++ fields (0 ∷ [])) ∷ map entry_line first) (seat_lines (0 + 1) js) opened ∙ run_seats js p1 1 refl (omega arith) (omega arith) (omega arith) all.1 in
    let front = run_on blank_progress p0 (first_lines c t n) (seat_lines 0 (first ∷ js)) (run_first c t n low high few enough most) ∙ seats in
    run_on blank_progress (seated p1 js) (first_lines c t n ++ seat_lines 0 (first ∷ js)) (codes "end" ∷ []) front
    ∙ ap (λ o. o >>= λ q. run q [])
    (end_line (seated p1 js) (ap (λ (h : Heading). h.stage) (heading_seated js p1))
    (omega (arith, length_seated js p1, ap (λ (h : Heading). h.seats) (heading_seated js p1))))

-- what they say
says : (c t n : ℕ) (first : List Entry) (js : List (List Entry)) (line : ℕ)
    → history_of (finished c t n first js) line ≡ Ok (record { cpus = c; tasks = t; seats = first ∷ js })
unfolding history_of finished
says c t n first js line =
    let p1 : Progress = record (opening stage.Entries c t n) { entries = first } in
    ap (λ (h : Heading). let j : History = record { cpus = h.cpus; tasks = h.tasks; seats = (closed (seated p1 js)).whole } in Ok j) (heading_seated js p1)
    ∙ ap (λ (ss : List (List Entry)). let j : History = record { cpus = c; tasks = t; seats = ss } in Ok j) (whole_seated js p1)

plain_entries : (es : List Entry) → AllByRecursion IsReadable es → ArePlain (map entry_line es)
plain_entries [] all = tt
plain_entries (e ∷ es) all = (plain_entry_line e all.0, plain_entries es all.1)

plain_lines-append : (xs ys : List (List ℕ)) → ArePlain xs → ArePlain ys → ArePlain (xs ++ ys)
plain_lines-append [] ys first second = second
plain_lines-append (x ∷ xs) ys first second = (first.0, plain_lines-append xs ys first.1 second)

plain_number : (w : List ℕ) (n : ℕ) → IsPlain w → n < 2 ^ 64 → IsPlain (w ++ fields (n ∷ []))
plain_number w n all fits = plain-append w (fields (n ∷ [])) all (plain_fields (n ∷ []) (fits, tt))

plain_seats : (js : List (List Entry)) (i : ℕ) → i + length js < 2 ^ 64 → Readable js → ArePlain (seat_lines i js)
plain_seats [] i fits all = tt
plain_seats (j ∷ js) i fits all = (
  plain_number (codes "seat") i (plain (codes "seat") refl) (omega arith),
  plain_lines-append (map entry_line j) (seat_lines (i + 1) js) (plain_entries j all.0) (plain_seats js (i + 1) (omega arith) all.1),
)

plain_all : (c t : ℕ) (seats : List (List Entry)) → c < 2 ^ 64 → t < 2 ^ 64 → length seats < 2 ^ 64 → Readable seats
    → ArePlain (spelling (record { cpus = c; tasks = t; seats = seats }))
plain_all c t seats fc ft fs all =
    plain_lines-append (first_lines c t (length seats) ++ seat_lines 0 seats) (codes "end" ∷ [])
    (plain_lines-append (first_lines c t (length seats)) (seat_lines 0 seats) (
      plain (codes "journal 1") refl,
      (
        plain_number (codes "cpus") c (plain (codes "cpus") refl) fc,
        (plain_number (codes "tasks") t (plain (codes "tasks") refl) ft, (plain_number (codes "seats") (length seats) (plain (codes "seats") refl) fs, tt)),
      ),
    )
    (plain_seats seats 0 (omega arith) all))
    (plain (codes "end") refl, tt)

text_back : (c t : ℕ) (seats : List (List Entry)) → 1 ≤ c → c ≤ 16 → t ≤ 200 → c ≤ length seats → length seats ≤ c + 4 → Readable seats
    → length (text_of (spelling (record { cpus = c; tasks = t; seats = seats }))) ≤ byte_limit
    → reading (text_of (spelling (record { cpus = c; tasks = t; seats = seats }))) ≡ Ok (record { cpus = c; tasks = t; seats = seats })
unfolding reading
text_back c t [] low high few enough most all short = absurd (omega arith)
text_back c t (first ∷ js) low high few enough most all short =
    let lines = spelling (record { cpus = c; tasks = t; seats = first ∷ js }) in
    ap (parts_from 1 byte_limit blank_progress) (split_text lines (plain_all c t (first ∷ js) (omega arith) (omega arith) (omega arith) all))
    ∙ run_text lines blank_progress (finished c t (length (first ∷ js)) first js) 1 byte_limit (run_all c t first js low high few enough most all) short
    ∙ says c t (length (first ∷ js)) first js (1 + length lines)

-- reading what was written gives the journals back
pub read_back : (j : History) → AreReadable j → length (text_of (spelling j)) ≤ byte_limit → reading (text_of (spelling j)) ≡ Ok j
read_back j r short = text_back j.cpus j.tasks j.seats r.some_cpu r.few_cpus r.few_tasks r.enough_seats r.few_seats r.entries short
