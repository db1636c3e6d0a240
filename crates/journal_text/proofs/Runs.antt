-- A text is read where it is within the limit and its lines make a whole.
use Rattle.std.proofs.Common.{◌≡◌, ◌==◌, ℕ, ◌+◌, ◌-◌, ◌<◌, ◌≤◌, Bool, true, false, nat_lt, nat_le, List, [], ◌∷◌, Some, Ok, Err, length, ap, sym, ◌∙◌, refl, arith, if◌then◌else◌}
use Rattle.std.specs.List.{slice_split}
use Rattle.std.proofs.lemmas.Bool.Decides.{nat_tests}
use Rattle.std.proofs.lemmas.List.Splits.{length-slice_split}
use Rattle.handoff_data.specs.History.{History}
use Rattle.journal_text.specs.declared.heading.Stage.{Stage}
use Rattle.journal_text.specs.declared.heading.Stage.TheVariants as stage
use Rattle.journal_text.specs.Fields.{◌>>=◌, gap_len}
use Rattle.journal_text.specs.Lines.{Progress, line_after, content_len}
use Rattle.journal_text.specs.Text.{is_feed, byte_limit, blank_progress, history_at, history_of, last_of, lines_from, parts_from, reading, then_on}
use Rattle.journal_text.proofs.Bounds.{then_ok, total, total_split}
use Rattle.journal_text.proofs.TextBack.{run, bind_some}

-- these lines make the journals
pub record Says (p : Progress) (lines : List (List ℕ)) (j : History) : Type 0 where
  pub last : Progress
  pub made : run p lines ≡ Some last
  pub whole : history_of last 0 ≡ Ok j

-- a line of no byte adds nothing
pub empty_line : (p : Progress) → line_after p [] ≡ Some p
unfolding line_after content_len gap_len
empty_line p = refl

at_any : (s : Stage) (p : Progress) (line line' : ℕ) (j : History) → history_at s p line ≡ Ok j → history_at s p line' ≡ Ok j
at_any stage.Done p line line' j is = is
at_any s p line line' j is = absurd cc

at_any_line : (p : Progress) (line line' : ℕ) (j : History) → history_of p line ≡ Ok j → history_of p line' ≡ Ok j
unfolding history_of
at_any_line p line line' j is = at_any p.heading.stage p line line' j is

-- ---- what is read is made

bind_none : (text : List ℕ) (n : ℕ) → length text ≡ 0 → text ≡ []
bind_none [] n none = refl
bind_none (b ∷ text) n none = absurd (omega arith)

last_by : (empty full : Bool) (line room : ℕ) (p : Progress) (text : List ℕ) (j : History) → (length text == 0) ≡ empty
    → (if empty then history_of p line else if full then Err line else then_on line (line_after p text) (λ q. history_of q (line + 1))) ≡ Ok j
    → Says p (text ∷ []) j
last_by true full line room p text j none is =
    let no_byte : length text ≡ 0 = grind (arith, nat_tests, none) in
    record {
      last = p;
      made = ap (λ t. line_after p t >>= λ q. run q []) (bind_none text 0 no_byte) ∙ ap (λ o. o >>= λ q. run q []) (empty_line p);
      whole = at_any_line p line 0 j is;
    }
last_by false true line room p text j some is = absurd cc
last_by false false line room p text j some is =
    let goes = then_ok line (line_after p text) (λ q. history_of q (line + 1)) j is in
    record { last = goes.next; made = ap (λ o. o >>= λ q. run q []) goes.after; whole = at_any_line goes.next (line + 1) 0 j goes.says }

more_by : (full : Bool) (line room : ℕ) (p : Progress) (text next : List ℕ) (texts : List (List ℕ)) (j : History)
    → ((q : Progress) → lines_from (line + 1) (room - (length text + 1)) q next texts ≡ Ok j → Says q (next ∷ texts) j)
    → (if full then Err line else then_on line (line_after p text) (λ q. lines_from (line + 1) (room - (length text + 1)) q next texts)) ≡ Ok j
    → Says p (text ∷ (next ∷ texts)) j
more_by true line room p text next texts j others is = absurd cc
more_by false line room p text next texts j others is =
    let goes = then_ok line (line_after p text) (λ q. lines_from (line + 1) (room - (length text + 1)) q next texts) j is in
    let rest = others goes.next goes.says in
    record { last = rest.last; made = ap (λ o. o >>= λ q. run q (next ∷ texts)) goes.after ∙ rest.made; whole = rest.whole }

lines_made : (texts : List (List ℕ)) (line room : ℕ) (p : Progress) (text : List ℕ) (j : History) → lines_from line room p text texts ≡ Ok j → Says p (text ∷ texts) j
unfolding last_of
lines_made [] line room p text j is = last_by (length text == 0) (nat_lt room (length text)) line room p text j refl is
lines_made (next ∷ texts) line room p text j is =
    more_by (nat_le room (length text)) line room p text next texts j (λ q. lines_made texts (line + 1) (room - (length text + 1)) q next j) is

parts_made : (texts : List (List ℕ)) (line room : ℕ) (p : Progress) (j : History) → parts_from line room p texts ≡ Ok j → Says p texts j
parts_made [] line room p j is = absurd cc
parts_made (text ∷ texts) line room p j is = lines_made texts line room p text j is

pub read_made : (bytes : List ℕ) (j : History) → reading bytes ≡ Ok j → Says blank_progress (slice_split is_feed bytes) j
unfolding reading
read_made bytes j is = parts_made (slice_split is_feed bytes) 1 byte_limit blank_progress j is

-- ---- what is made is read, within the limit

last_back : (empty full : Bool) (line room : ℕ) (p : Progress) (text : List ℕ) (j : History) → (length text == 0) ≡ empty
    → nat_lt room (length text) ≡ full → length text ≤ room → Says p (text ∷ []) j
    → (if empty then history_of p line else if full then Err line else then_on line (line_after p text) (λ q. history_of q (line + 1))) ≡ Ok j
last_back true full line room p text j none less fits says =
    let no_byte : length text ≡ 0 = grind (arith, nat_tests, none) in
    let made : Some p ≡ Some says.last = sym (ap (λ t. line_after p t >>= λ q. run q []) (bind_none text 0 no_byte) ∙ ap (λ o. o >>= λ q. run q []) (empty_line p)) ∙ says.made in
    let same : p ≡ says.last = cc in
    ap (λ q. history_of q line) same ∙ at_any_line says.last 0 line j says.whole
last_back false true line room p text j some less fits says = absurd (grind (arith, nat_tests, less, fits))
last_back false false line room p text j some less fits says =
    let s = bind_some (line_after p text) (λ q. run q []) says.last says.made in
    let same : s.between ≡ says.last = let e : Some s.between ≡ Some says.last = s.second in cc in
    ap (λ o. then_on line o (λ q. history_of q (line + 1))) s.first ∙ ap (λ q. history_of q (line + 1)) same ∙ at_any_line says.last 0 (line + 1) j says.whole

more_back : (full : Bool) (line room : ℕ) (p : Progress) (text next : List ℕ) (texts : List (List ℕ)) (j : History)
    → nat_le room (length text) ≡ full → length text < room
    → ((q : Progress) → Says q (next ∷ texts) j → lines_from (line + 1) (room - (length text + 1)) q next texts ≡ Ok j)
    → Says p (text ∷ (next ∷ texts)) j
    → (if full then Err line else then_on line (line_after p text) (λ q. lines_from (line + 1) (room - (length text + 1)) q next texts)) ≡ Ok j
more_back true line room p text next texts j full fits others says = absurd (grind (arith, nat_tests, full, fits))
more_back false line room p text next texts j full fits others says =
    let s = bind_some (line_after p text) (λ q. run q (next ∷ texts)) says.last says.made in
    ap (λ o. then_on line o (λ q. lines_from (line + 1) (room - (length text + 1)) q next texts)) s.first
    ∙ others s.between (record { last = says.last; made = s.second; whole = says.whole })

lines_back : (texts : List (List ℕ)) (line room : ℕ) (p : Progress) (text : List ℕ) (j : History) → length text + total texts ≤ room
    → Says p (text ∷ texts) j → lines_from line room p text texts ≡ Ok j
unfolding last_of
lines_back [] line room p text j fits says =
    last_back (length text == 0) (nat_lt room (length text)) line room p text j refl refl (omega (arith, fits)) says
lines_back (next ∷ texts) line room p text j fits says =
    more_back (nat_le room (length text)) line room p text next texts j refl (omega (arith, fits))
    (λ q. lines_back texts (line + 1) (room - (length text + 1)) q next j (omega (arith, fits))) says

parts_back : (texts : List (List ℕ)) (line room : ℕ) (p : Progress) (j : History) → 0 < length texts → total texts ≤ room + 1 → Says p texts j → parts_from line room p texts ≡ Ok j
parts_back [] line room p j some fits says = absurd (omega arith)
parts_back (text ∷ texts) line room p j some fits says = lines_back texts line room p text j (omega (arith, fits)) says

pub made_read : (bytes : List ℕ) (j : History) → length bytes ≤ byte_limit → Says blank_progress (slice_split is_feed bytes) j → reading bytes ≡ Ok j
unfolding reading
made_read bytes j short says =
    parts_back (slice_split is_feed bytes) 1 byte_limit blank_progress j (omega (arith, length-slice_split is_feed bytes)) (omega (arith, total_split bytes)) says
