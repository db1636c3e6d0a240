-- A refused line is refused whatever stands behind it.
use Rattle.std.proofs.Common.{◌≡◌, ◌==◌, ℕ, ◌+◌, ◌-◌, ◌<◌, ◌≤◌, Bool, true, false, nat_lt, nat_le, List, [], ◌∷◌, ◌++◌, Option, Some, None, Result, Ok, Err, length, ap, sym, ◌∙◌, refl, arith}
use Rattle.std.proofs.Common.{if◌then◌else◌}
use Rattle.std.specs.List.{slice_split}
use Rattle.std.proofs.lemmas.Bool.Decides.{nat_tests}
use Rattle.std.proofs.lemmas.List.Splits.{length-slice_split}
use Rattle.handoff_data.specs.History.{History}
use Rattle.journal_text.specs.declared.heading.Stage.{Stage}
use Rattle.journal_text.specs.declared.heading.Stage.TheVariants as stage
use Rattle.journal_text.specs.Fields.{◌>>=◌}
use Rattle.journal_text.specs.Lines.{Progress, line_after}
use Rattle.journal_text.specs.Refusals.{line_count, RefusedLinesAreFinal}
use Rattle.journal_text.specs.Text.{is_feed, byte_limit, blank_progress, history_at, history_of, last_of, lines_from, parts_from, reading, then_on}
use Rattle.journal_text.proofs.Bounds.{total, total_split, reading_bounded}
use Rattle.journal_text.proofs.LineChange.{split_feed}
use Rattle.journal_text.proofs.Runs.{read_made}
use Rattle.journal_text.proofs.TextBack.{run}

abbrev line_or : Result History ℕ → ℕ
line_or (Ok j) = 0
line_or (Err line) = line

same_line : (m n : ℕ) → ◌≡◌ {A = Result History ℕ} (Err m) (Err n) → m ≡ n
same_line m n e = ap line_or e

-- ---- a fault isn't named on a line before

at_not_before : (s : Stage) (p : Progress) (line n : ℕ) → history_at s p line ≡ Err n → line ≤ n
at_not_before stage.Done p line n is = absurd cc
at_not_before s p line n is = let e = same_line line n is in omega arith

whole_not_before : (p : Progress) (line n : ℕ) → history_of p line ≡ Err n → line ≤ n
unfolding history_of
whole_not_before p line n is = at_not_before p.heading.stage p line n is

then_not_before : (line n : ℕ) (o : Option Progress) (on : Progress → Result History ℕ) → ((q : Progress) → on q ≡ Err n → line + 1 ≤ n) → then_on line o on ≡ Err n → line ≤ n
then_not_before line n None on later is = let e = same_line line n is in omega arith
then_not_before line n (Some q) on later is = let l = later q is in omega arith

if_not_before : (full : Bool) (line n : ℕ) (on : Result History ℕ) → (on ≡ Err n → line ≤ n) → (if full then Err line else on) ≡ Err n → line ≤ n
if_not_before true line n on later is = let e = same_line line n is in omega arith
if_not_before false line n on later is = later is

empty_not_before : (empty : Bool) (line n : ℕ) (p : Progress) (on : Result History ℕ) → (on ≡ Err n → line ≤ n) → (if empty then history_of p line else on) ≡ Err n → line ≤ n
empty_not_before true line n p on later is = whole_not_before p line n is
empty_not_before false line n p on later is = later is

not_before : (texts : List (List ℕ)) (line room n : ℕ) (p : Progress) (text : List ℕ) → lines_from line room p text texts ≡ Err n → line ≤ n
unfolding last_of
not_before [] line room n p text is =
    empty_not_before (length text == 0) line n p _
    (λ more. if_not_before (nat_lt room (length text)) line n _
    (λ on. then_not_before line n (line_after p text) (λ q. history_of q (line + 1)) (λ q. whole_not_before q (line + 1) n) on) more) is
not_before (next ∷ texts) line room n p text is =
    if_not_before (nat_le room (length text)) line n _
    (λ on. then_not_before line n (line_after p text) (λ q. lines_from (line + 1) (room - (length text + 1)) q next texts)
    (λ q. not_before texts (line + 1) (room - (length text + 1)) n q next) on) is

-- ---- a text that begins with the lines up to the fault

-- where a line is refused, by itself or by the limit, or another one behind it is
stuck_here : (full : Bool) (o : Option Progress) (line room : ℕ) (text : List ℕ) (more : List (List ℕ)) (last : Progress) (on : Progress → Result History ℕ)
    → nat_le room (length text) ≡ full → length text + 1 + total more ≤ room + 1 → 0 < total more → (o >>= λ q. run q more) ≡ Some last
    → ((q : Progress) → on q ≡ Err line → line + 1 ≤ line) → (if full then Err line else then_on line o on) ≡ Err line → ⊥
stuck_here true o line room text more last on full fits some made later is = grind (arith, nat_tests, full, fits, some)
stuck_here false None line room text more last on full fits some made later is = absurd cc
stuck_here false (Some q) line room text more last on full fits some made later is = let l = later q is in omega arith

stuck_on : (full : Bool) (o : Option Progress) (line n room : ℕ) (text : List ℕ) (more : List (List ℕ)) (last : Progress) (on : Progress → Result History ℕ)
    → line < n → (o >>= λ q. run q more) ≡ Some last → ((q : Progress) → run q more ≡ Some last → on q ≡ Err n → ⊥)
    → (if full then Err line else then_on line o on) ≡ Err n → ⊥
stuck_on true o line n room text more last on less made later is = let e = same_line line n is in omega arith
stuck_on false None line n room text more last on less made later is = absurd cc
stuck_on false (Some q) line n room text more last on less made later is = later q made is

total-append : (xs ys : List (List ℕ)) → total (xs ++ ys) ≡ total xs + total ys
total-append [] ys = omega arith
total-append (x ∷ xs) ys = omega (arith, total-append xs ys)

stuck : (hs : List (List ℕ)) (line n room : ℕ) (p last : Progress) (h next : List ℕ) (others more : List (List ℕ)) → n ≡ line + length hs
    → 0 < total more → total (h ∷ (hs ++ more)) ≤ room + 1 → run p (h ∷ (hs ++ more)) ≡ Some last
    → lines_from line room p h (hs ++ (next ∷ others)) ≡ Err n → ⊥
stuck [] line n room p last h next others more at some fits made is =
    let here : line ≡ n = omega arith in
    let is' : lines_from line room p h (next ∷ others) ≡ Err line = is ∙ ap (λ (x : ℕ). let e : Result History ℕ = Err x in e) (sym here) in
    stuck_here (nat_le room (length h)) (line_after p h) line room h more last _ refl (omega (arith, fits)) some made
    (λ q on. not_before others (line + 1) (room - (length h + 1)) line q next on) is'
stuck (g ∷ hs) line n room p last h next others more at some fits made is =
    let less : line < n = omega arith in
    let next_at : n ≡ line + 1 + length hs = omega arith in
    let left : total (g ∷ (hs ++ more)) ≤ room - (length h + 1) + 1 = omega (arith, fits, some, total-append hs more) in
    stuck_on (nat_le room (length h)) (line_after p h) line n room h (g ∷ (hs ++ more)) last _ less made
    (λ q on said. stuck hs (line + 1) n (room - (length h + 1)) q last g next others more next_at some left on said) is

-- lines that aren't none
record Lines (lines : List (List ℕ)) : Type 0 where
  first : List ℕ
  others : List (List ℕ)
  is : lines ≡ first ∷ others

some_lines : (lines : List (List ℕ)) → 0 < length lines → Lines lines
some_lines [] some = absurd (omega arith)
some_lines (line ∷ lines) some = record { first = line; others = lines; is = refl }

some_total : (lines : List (List ℕ)) → 0 < length lines → 0 < total lines
some_total [] some = some
some_total (line ∷ lines) some = omega arith

pub refused_final : RefusedLinesAreFinal
unfolding reading
refused_final front rest other j refused read =
    let says = read_made (front ++ (10 ∷ other)) j read in
    let f = some_lines (slice_split is_feed front) (omega (arith, length-slice_split is_feed front)) in
    let r = some_lines (slice_split is_feed rest) (omega (arith, length-slice_split is_feed rest)) in
    let more = slice_split is_feed other in
    let some : 0 < total more = some_total more (omega (arith, length-slice_split is_feed other)) in
    let lines : slice_split is_feed (front ++ (10 ∷ rest)) ≡ f.first ∷ (f.others ++ (r.first ∷ r.others))
    = split_feed front rest ∙ ap (λ (xs : List (List ℕ)). xs ++ slice_split is_feed rest) f.is ∙ ap (λ (xs : List (List ℕ)). f.first ∷ (f.others ++ xs)) r.is in
    let lines' : slice_split is_feed (front ++ (10 ∷ other)) ≡ f.first ∷ (f.others ++ more)
    = split_feed front other ∙ ap (λ (xs : List (List ℕ)). xs ++ more) f.is in
    let count : line_count front ≡ 1 + length f.others = ap length f.is ∙ omega arith in
    let bounded = reading_bounded (front ++ (10 ∷ other)) j read in
    let fits : total (f.first ∷ (f.others ++ more)) ≤ byte_limit + 1 = omega (arith, ap total lines', total_split (front ++ (10 ∷ other)), bounded.0) in
    let made : run blank_progress (f.first ∷ (f.others ++ more)) ≡ Some says.last = ap (run blank_progress) (sym lines') ∙ says.made in
    stuck f.others 1 (line_count front) byte_limit blank_progress says.last f.first r.first r.others more count some fits made
    (ap (parts_from 1 byte_limit blank_progress) (sym lines) ∙ refused)
