-- Texts, a line at a time.
use Rattle.std.proofs.Common.{◌≡◌, ◌≢◌, ◌<◌, Bool, le-leb, refl, arith, ℕ, ◌+◌, ◌-◌, ◌≤◌, List, [], ◌∷◌, Option, Some, None, Result, Err, length, take, drop, true, false, nat_le, ap, sym, ◌∙◌}
use Rattle.std.proofs.Common.{if◌then◌else◌}
use Rattle.std.specs.List.{slice_split, position_or_len}
use Rattle.std.proofs.lemmas.Bool.Decides.{nat_tests}
use Rattle.std.proofs.lemmas.List.Splits.{length-slice_split}
use Rattle.handoff_data.specs.History.{History}
use Rattle.journal_text.specs.Lines.{Progress, line_after, Takes}
use Rattle.journal_text.specs.Text.{is_feed, last_of, lines_from, parts_from, then_on}
use Rattle.journal_text.proofs.Parts.{parts}

-- the text that is left is its first line and the others
pub parts_last : (line room : ℕ) (p : Progress) (rest text others : List ℕ) → position_or_len is_feed rest ≤ length rest
    → text ≡ take (position_or_len is_feed rest) rest → others ≡ drop (position_or_len is_feed rest) rest → length others ≡ 0
    → parts_from line room p (slice_split is_feed rest) ≡ last_of line room p text
parts_last line room p rest text others within front back none =
    let x = parts is_feed rest within in
    ap (parts_from line room p) x.is ∙ ap (lines_from line room p (take (position_or_len is_feed rest) rest)) (x.last (ap length (sym back) ∙ none))
    ∙ ap (last_of line room p) (sym front)

-- a line that has more behind it
abbrev pub on_with : ℕ → ℕ → Progress → List ℕ → List ℕ → Result History ℕ
on_with line room p text more =
    if nat_le room (length text) then Err line
    else then_on line (line_after p text) (λ q. parts_from (line + 1) (room - (length text + 1)) q (slice_split is_feed more))

pub on_parts : (line room : ℕ) (p : Progress) (text : List ℕ) (xs : List (List ℕ)) → xs ≢ []
    → lines_from line room p text xs
    ≡ (if nat_le room (length text) then Err line
    else then_on line (line_after p text) (λ q. parts_from (line + 1) (room - (length text + 1)) q xs))
on_parts line room p text [] some = absurd (some refl)
on_parts line room p text (next ∷ texts) some = refl

some_parts : (line room : ℕ) (p : Progress) (text more : List ℕ)
    → lines_from line room p text (slice_split is_feed more) ≡ on_with line room p text more
some_parts line room p text more =
    on_parts line room p text (slice_split is_feed more) (λ none. omega (arith, length-slice_split is_feed more, ap length none))

pub parts_more : (line room : ℕ) (p : Progress) (rest text others : List ℕ) (b : ℕ) (more : List ℕ) → position_or_len is_feed rest ≤ length rest
    → text ≡ take (position_or_len is_feed rest) rest → others ≡ drop (position_or_len is_feed rest) rest → others ≡ b ∷ more
    → parts_from line room p (slice_split is_feed rest) ≡ on_with line room p text more
parts_more line room p rest text others b more within front back cons =
    let x = parts is_feed rest within in
    ap (parts_from line room p) x.is ∙ ap (lines_from line room p (take (position_or_len is_feed rest) rest)) (x.more b more (sym back ∙ cons))
    ∙ some_parts line room p (take (position_or_len is_feed rest) rest) more ∙ ap (λ t. on_with line room p t more) (sym front)

pub on_full : (line room : ℕ) (p : Progress) (text more : List ℕ) → room ≤ length text → on_with line room p text more ≡ Err line
on_full line room p text more full = rw (le-leb room (length text) full) refl

same_fault : (b : Bool) (line : ℕ) → ◌≡◌ {A = Result History ℕ} (if b then Err line else Err line) (Err line)
same_fault true line = refl
same_fault false line = refl

pub on_refused : (line room : ℕ) (p : Progress) (text more : List ℕ) → line_after p text ≡ None → on_with line room p text more ≡ Err line
on_refused line room p text more none =
    rw none (same_fault (nat_le room (length text)) line)

pub not_full : (room n : ℕ) → n < room → nat_le room n ≡ false
not_full room n less = grind (arith, nat_tests)

pub on_taken : (line room : ℕ) (p q : Progress) (text more : List ℕ) → length text < room → line_after p text ≡ Some q
    → on_with line room p text more ≡ parts_from (line + 1) (room - (length text + 1)) q (slice_split is_feed more)
on_taken line room p q text more fits some = rw (not_full room (length text) fits, some) refl

pub was_taken : (fits : Bool) (after : Option Progress) (p : Progress) → fits ≡ true → Takes fits after p → after ≡ Some p
was_taken true after p e takes = takes
was_taken false after p e takes = absurd (cc)

pub was_refused : (fits : Bool) (after : Option Progress) (p : Progress) → fits ≡ false → Takes fits after p → after ≡ None
was_refused false after p e takes = takes
was_refused true after p e takes = absurd (cc)
