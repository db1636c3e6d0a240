-- Carriage returns at the ends of lines, and blank lines, change nothing.
use Rattle.std.proofs.Common.{◌≡◌, ℕ, ◌+◌, ◌≤◌, true, false, List, [], ◌∷◌, ◌++◌, Option, Some, None, Ok, length, take, drop, if◌then◌else◌, ◌==◌, ap, sym, ◌∙◌, refl, arith, subst, inl, inr}
use Rattle.std.specs.List.{slice_split, AllByRecursion}
use Rattle.std.proofs.lemmas.Bool.Decides.{nat_tests}
use Rattle.std.proofs.lemmas.List.{append-nil}
use Rattle.handoff_data.specs.History.{History}
use Rattle.journal_text.specs.Fields.{◌>>=◌, is_blank, gap_len, word_len}
use Rattle.journal_text.specs.Freedoms.{EndsLine, HasMoreReturns, HasMoreLines}
use Rattle.journal_text.specs.Lines.{Progress, content_len, line_after, content_after, words_after}
use Rattle.journal_text.specs.Text.{is_feed, byte_limit, blank_progress, reading}
use Rattle.journal_text.proofs.TextBack.{run, run-append}
use Rattle.journal_text.proofs.Runs.{read_made, made_read}
use Rattle.journal_text.proofs.LineChange.{NoFeed, NoReturn, AreReturns, TakesPlaceOf, change_read, split_feed, split_behind, strip, strip-returns, strip-behind, line_is_content}

-- the carriage returns that end a line, and the lines behind it
pub record LineEnd (bytes : List ℕ) : Type 0 where
  pub returns : List ℕ
  pub others : List (List ℕ)
  pub all : AreReturns returns
  pub is : slice_split is_feed bytes ≡ returns ∷ others

return_no_feed : is_feed 13 ≡ false
return_no_feed = refl

pub line_end : (bytes : List ℕ) → EndsLine bytes → LineEnd bytes
line_end [] ends = record { returns = []; others = []; all = tt; is = refl }
line_end (b ∷ bytes) (inl feed) = record {
  returns = [];
  others = slice_split is_feed bytes;
  all = tt;
  is = ap (λ x. slice_split is_feed (x ∷ bytes)) feed;
}
line_end (b ∷ bytes) (inr more) =
    let rest = line_end bytes more.1 in
    record {
      returns = 13 ∷ rest.returns;
      others = rest.others;
      all = (refl, rest.all);
      is = ap (λ x. slice_split is_feed (x ∷ bytes)) more.0 ∙ split_behind (13 ∷ []) bytes rest.returns rest.others (refl, tt) rest.is;
    }

returns_free : (returns returns' : List ℕ) → AreReturns returns → AreReturns returns' → TakesPlaceOf returns returns'
returns_free returns returns' all all' p q front is =
    line_is_content p (front ++ returns') ∙ ap (content_after p) (strip-returns front returns' all' ∙ sym (strip-returns front returns all))
    ∙ sym (line_is_content p (front ++ returns)) ∙ is

pub more_returns : (bytes bytes' : List ℕ) (j : History) → HasMoreReturns bytes bytes' → length bytes' ≤ byte_limit → reading bytes ≡ Ok j → reading bytes' ≡ Ok j
more_returns bytes bytes' j h short read =
    let end = line_end h.after h.ends in
    let more = split_behind (13 ∷ []) h.after end.returns end.others (refl, tt) end.is in
    let fits : length (h.before ++ (13 ∷ h.after)) ≤ byte_limit = subst (λ (x : List ℕ). length x ≤ byte_limit) h.with short in
    ap reading h.with
    ∙ change_read h.before h.after (13 ∷ h.after) end.returns (13 ∷ end.returns) end.others j end.is more
    (returns_free end.returns (13 ∷ end.returns) end.all (refl, end.all)) fits (ap reading (sym h.without) ∙ read)

-- ---- blank lines

abbrev AreBlank : List ℕ → Type 0
AreBlank bytes = AllByRecursion (λ b. is_blank b ≡ true) bytes

blank_no_feed : (b : ℕ) → is_blank b ≡ true → is_feed b ≡ false
blank_no_feed b e = grind (arith, nat_tests)

blank_no_return : (b : ℕ) → is_blank b ≡ true → (b == 13) ≡ false
blank_no_return b e = grind (arith, nat_tests)

blanks_no_feed : (bytes : List ℕ) → AreBlank bytes → NoFeed bytes
blanks_no_feed [] all = tt
blanks_no_feed (b ∷ bytes) all = (blank_no_feed b all.0, blanks_no_feed bytes all.1)

blanks_no_return : (bytes : List ℕ) → AreBlank bytes → NoReturn bytes
blanks_no_return [] all = tt
blanks_no_return (b ∷ bytes) all = (blank_no_return b all.0, blanks_no_return bytes all.1)

blank_gap : (bytes : List ℕ) → AreBlank bytes → gap_len bytes ≡ length bytes
unfolding gap_len
blank_gap [] all = refl
blank_gap (b ∷ bytes) all = rw all.0 (ap (λ n. 1 + n) (blank_gap bytes all.1) ∙ omega arith)

same_test : (m n : ℕ) → m ≡ n → (m == n) ≡ true
same_test m n e = grind (arith, nat_tests)

strip_none : (bytes : List ℕ) → AreBlank bytes → strip bytes ≡ bytes
unfolding content_len
strip_none bytes all =
    ap strip (sym (append-nil bytes)) ∙ strip-behind bytes [] (blanks_no_return bytes all) ∙ append-nil bytes

blank_line : (p : Progress) (bytes : List ℕ) → AreBlank bytes → line_after p bytes ≡ Some p
blank_line p bytes all =
    line_is_content p bytes ∙ ap (content_after p) (strip_none bytes all)
    ∙ ap (λ t. if t then Some p else words_after p (take (word_len bytes) bytes) (drop (word_len bytes) bytes)) (same_test (gap_len bytes) (length bytes) (blank_gap bytes all))

blanks_split : (blanks after : List ℕ) → AreBlank blanks → slice_split is_feed (blanks ++ (10 ∷ after)) ≡ blanks ∷ slice_split is_feed after
blanks_split blanks after all =
    split_behind blanks (10 ∷ after) [] (slice_split is_feed after) (blanks_no_feed blanks all) refl
    ∙ ap (λ x. x ∷ slice_split is_feed after) (append-nil blanks)

bind_on : (o : Option Progress) (f g : Progress → Option Progress) → ((q : Progress) → f q ≡ g q) → (o >>= f) ≡ (o >>= g)
bind_on None f g same = refl
bind_on (Some q) f g same = same q

pub more_lines : (bytes bytes' : List ℕ) (j : History) → HasMoreLines bytes bytes' → length bytes' ≤ byte_limit → reading bytes ≡ Ok j → reading bytes' ≡ Ok j
more_lines bytes bytes' j h short read =
    let says = read_made bytes j read in
    let front = slice_split is_feed h.before in
    let back = slice_split is_feed h.after in
    let lines : slice_split is_feed bytes ≡ front ++ back = ap (slice_split is_feed) h.without ∙ split_feed h.before h.after in
    let lines' : slice_split is_feed bytes' ≡ front ++ (h.blanks ∷ back)
    = ap (slice_split is_feed) h.with ∙ split_feed h.before (h.blanks ++ (10 ∷ h.after)) ∙ ap (λ xs. front ++ xs) (blanks_split h.blanks h.after h.are_blank) in
    let same : run blank_progress (front ++ (h.blanks ∷ back)) ≡ run blank_progress (front ++ back)
    = run-append blank_progress front (h.blanks ∷ back)
    ∙ bind_on (run blank_progress front) _ _ (λ q. ap (λ o. o >>= λ r. run r back) (blank_line q h.blanks h.are_blank))
    ∙ sym (run-append blank_progress front back) in
    made_read bytes' j short (record {
      last = says.last;
      made = ap (run blank_progress) lines' ∙ same ∙ ap (run blank_progress) (sym lines) ∙ says.made;
      whole = says.whole;
    })
