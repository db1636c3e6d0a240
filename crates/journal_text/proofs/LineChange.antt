-- A text with one line changed says what it said, where the line does.
use Rattle.std.proofs.Common.{◌≡◌, ℕ, suc, ◌+◌, ◌-◌, ◌<◌, ◌≤◌, false, List, [], ◌∷◌, ◌++◌, Some, Ok, length, take, if◌then◌else◌, ap, sym, ◌∙◌, refl, arith, inl, inr, length-append, reverse, ◌⊎◌}
use Rattle.std.specs.List.{slice_split, onto_first, prefix_len, suffix_len, AllByRecursion}
use Rattle.std.proofs.lemmas.Bool.{cases_Bool}
use Rattle.std.proofs.lemmas.List.{append_assoc, append-nil, reverse-append, length-reverse}
use Rattle.std.proofs.lemmas.List.Sums.{suffix_len-le-length}
use Rattle.std.proofs.lemmas.List.Splits.{slice_split-cons_yes, slice_split-cons_no, length-slice_split}
use Rattle.std.proofs.lemmas.Grind.{common_steps}
use Rattle.handoff_data.specs.History.{History}
use Rattle.journal_text.specs.Fields.{◌>>=◌}
use Rattle.journal_text.specs.Lines.{Progress, line_after, content_after, content_len, is_return}
use Rattle.journal_text.specs.Text.{is_feed, byte_limit, blank_progress, reading}
use Rattle.journal_text.proofs.TextBack.{run, bind_some}
use Rattle.journal_text.proofs.Runs.{read_made, made_read}

-- no byte is a line feed
abbrev pub NoFeed : List ℕ → Type 0
NoFeed bytes = AllByRecursion (λ b. is_feed b ≡ false) bytes

-- ---- the lines of a text, of which the first may have been begun

-- the first of the lines has more in front
abbrev begun : List ℕ → List (List ℕ) → List (List ℕ)
begun front [] = front ∷ []
begun front (line ∷ lines) = (front ++ line) ∷ lines

-- the lines of this text, the first begun, where another text follows whose lines are a first and others
pub lines_with : List ℕ → List ℕ → List ℕ → List (List ℕ) → List (List ℕ)
lines_with front [] next others = (front ++ next) ∷ others
lines_with front (b ∷ bytes) next others = if is_feed b then front ∷ lines_with [] bytes next others else lines_with (front ++ b ∷ []) bytes next others

begun-nil : (lines : List (List ℕ)) → 0 < length lines → begun [] lines ≡ lines
begun-nil [] some = absurd (omega arith)
begun-nil (line ∷ lines) some = refl

begun-onto : (front : List ℕ) (b : ℕ) (lines : List (List ℕ)) → begun front (onto_first b lines) ≡ begun (front ++ b ∷ []) lines
begun-onto front b [] = refl
begun-onto front b (line ∷ lines) = ap (λ x. x ∷ lines) (sym (append_assoc front (b ∷ []) line))

some_lines : (bytes : List ℕ) → 0 < length (slice_split is_feed bytes)
some_lines bytes = omega (arith, length-slice_split is_feed bytes)

pub split_with : (bytes more front next : List ℕ) (others : List (List ℕ)) → slice_split is_feed more ≡ next ∷ others
    → begun front (slice_split is_feed (bytes ++ more)) ≡ lines_with front bytes next others
unfolding lines_with
split_with [] more front next others is = ap (begun front) is
split_with (b ∷ bytes) more front next others is =
    elim (cases_Bool (is_feed b)) [
      | inl feed ↦
          ap (begun front) (slice_split-cons_yes is_feed b (bytes ++ more) feed)
          ∙ ap (λ x. x ∷ slice_split is_feed (bytes ++ more)) (append-nil front)
          ∙ ap (λ xs. front ∷ xs) (sym (begun-nil (slice_split is_feed (bytes ++ more)) (some_lines (bytes ++ more))) ∙ split_with bytes more [] next others is)
          ∙ sym (ap (λ x. if x then front ∷ lines_with [] bytes next others else lines_with (front ++ b ∷ []) bytes next others) feed)
      | inr other ↦
          ap (begun front) (slice_split-cons_no is_feed b (bytes ++ more) other)
          ∙ begun-onto front b (slice_split is_feed (bytes ++ more))
          ∙ split_with bytes more (front ++ b ∷ []) next others is
          ∙ sym (ap (λ x. if x then front ∷ lines_with [] bytes next others else lines_with (front ++ b ∷ []) bytes next others) other)
    ]

-- the lines of a text before which other bytes stand, none of them a line feed
pub split_behind : (front bytes next : List ℕ) (others : List (List ℕ)) → NoFeed front → slice_split is_feed bytes ≡ next ∷ others
    → slice_split is_feed (front ++ bytes) ≡ (front ++ next) ∷ others
split_behind [] bytes next others none is = is
split_behind (b ∷ front) bytes next others none is =
    slice_split-cons_no is_feed b (front ++ bytes) none.0 ∙ ap (onto_first b) (split_behind front bytes next others none.1 is)

-- ---- a line that is taken in the place of another

-- wherever the one line is taken, behind the same bytes of it, the other is too, and says the same
abbrev pub TakesPlaceOf : List ℕ → List ℕ → Type 0
TakesPlaceOf line line' = (p q : Progress) (front : List ℕ) → line_after p (front ++ line) ≡ Some q → line_after p (front ++ line') ≡ Some q

run_change : (bytes front next next' : List ℕ) (others : List (List ℕ)) (p q : Progress) → TakesPlaceOf next next'
    → run p (lines_with front bytes next others) ≡ Some q → run p (lines_with front bytes next' others) ≡ Some q
unfolding lines_with
run_change [] front next next' others p q takes made =
    let s = bind_some (line_after p (front ++ next)) (λ r. run r others) q made in
    ap (λ o. o >>= λ r. run r others) (takes p s.between front s.first) ∙ s.second
run_change (b ∷ bytes) front next next' others p q takes made =
    elim (cases_Bool (is_feed b)) [
      | inl feed ↦
          let made' : run p (front ∷ lines_with [] bytes next others) ≡ Some q
          = sym (ap (λ x. run p (if x then front ∷ lines_with [] bytes next others else lines_with (front ++ b ∷ []) bytes next others)) feed) ∙ made in
          let s = bind_some (line_after p front) (λ r. run r (lines_with [] bytes next others)) q made' in
          ap (λ x. run p (if x then front ∷ lines_with [] bytes next' others else lines_with (front ++ b ∷ []) bytes next' others)) feed
          ∙ ap (λ o. o >>= λ r. run r (lines_with [] bytes next' others)) s.first
          ∙ run_change bytes [] next next' others s.between q takes s.second
      | inr other ↦
          let made' : run p (lines_with (front ++ b ∷ []) bytes next others) ≡ Some q
          = sym (ap (λ x. run p (if x then front ∷ lines_with [] bytes next others else lines_with (front ++ b ∷ []) bytes next others)) other) ∙ made in
          ap (λ x. run p (if x then front ∷ lines_with [] bytes next' others else lines_with (front ++ b ∷ []) bytes next' others)) other
          ∙ run_change bytes (front ++ b ∷ []) next next' others p q takes made'
    ]

whole_split : (bytes more next : List ℕ) (others : List (List ℕ)) → slice_split is_feed more ≡ next ∷ others
    → slice_split is_feed (bytes ++ more) ≡ lines_with [] bytes next others
whole_split bytes more next others is = sym (begun-nil (slice_split is_feed (bytes ++ more)) (some_lines (bytes ++ more))) ∙ split_with bytes more [] next others is

-- a text in which the line that begins behind these bytes goes on otherwise
pub change_read : (before more more' next next' : List ℕ) (others : List (List ℕ)) (j : History)
    → slice_split is_feed more ≡ next ∷ others → slice_split is_feed more' ≡ next' ∷ others → TakesPlaceOf next next'
    → length (before ++ more') ≤ byte_limit → reading (before ++ more) ≡ Ok j → reading (before ++ more') ≡ Ok j
change_read before more more' next next' others j is is' takes short read =
    let says = read_made (before ++ more) j read in
    let made : run blank_progress (lines_with [] before next others) ≡ Some says.last
    = ap (run blank_progress) (sym (whole_split before more next others is)) ∙ says.made in
    made_read (before ++ more') j short (record {
      last = says.last;
      made = ap (run blank_progress) (whole_split before more' next' others is') ∙ run_change before [] next next' others blank_progress says.last takes made;
      whole = says.whole;
    })

-- the lines of a text and of one behind a line feed
pub split_feed : (before after : List ℕ) → slice_split is_feed (before ++ 10 ∷ after) ≡ slice_split is_feed before ++ slice_split is_feed after
split_feed [] after = refl
split_feed (b ∷ before) after =
    elim (cases_Bool (is_feed b)) [
      | inl feed ↦
          slice_split-cons_yes is_feed b (before ++ 10 ∷ after) feed ∙ ap (λ xs. [] ∷ xs) (split_feed before after)
          ∙ ap (λ xs. xs ++ slice_split is_feed after) (sym (slice_split-cons_yes is_feed b before feed))
      | inr other ↦
          slice_split-cons_no is_feed b (before ++ 10 ∷ after) other ∙ ap (onto_first b) (split_feed before after)
          ∙ onto-append b (slice_split is_feed before) (slice_split is_feed after) (some_lines before)
          ∙ ap (λ xs. xs ++ slice_split is_feed after) (sym (slice_split-cons_no is_feed b before other))
    ]
  where
    onto-append : (b : ℕ) (xs ys : List (List ℕ)) → 0 < length xs → onto_first b (xs ++ ys) ≡ onto_first b xs ++ ys
    onto-append b [] ys some = absurd (omega arith)
    onto-append b (x ∷ xs) ys some = refl

-- ---- the content of a line

-- a line without the carriage returns at its end
abbrev pub strip : List ℕ → List ℕ
strip line = take (content_len line) line

prefix-front : (xs : List ℕ) (b : ℕ) → (is_return b ≡ false) ⊎ (prefix_len is_return xs < length xs)
    → prefix_len is_return (xs ++ b ∷ []) ≡ prefix_len is_return xs
prefix-front [] b (inl other) = rw other refl
prefix-front [] b (inr less) = absurd (omega arith)
prefix-front (x ∷ xs) b how =
    elim (cases_Bool (is_return x)) [
      | inl passes ↦ rw passes (ap (λ n. 1 + n) (prefix-front xs b (elim how [
        | inl other ↦ inl other
        | inr less ↦ inr (let l : suc (1 + prefix_len is_return xs) ≤ suc (length xs) = rw passes at less in omega arith)
      ])))
      | inr fails ↦ rw fails refl
    ]

-- one more byte in front of what has some other byte than a carriage return, or one that is another
pub strip-cons : (b : ℕ) (line : List ℕ) → (is_return b ≡ false) ⊎ (0 < content_len line) → strip (b ∷ line) ≡ b ∷ strip line
unfolding content_len
strip-cons b line how =
    let back : suffix_len is_return (b ∷ line) ≡ suffix_len is_return line
    = ap (prefix_len is_return) (reverse-append (b ∷ []) line) ∙ prefix-front (reverse line) b (elim how [ inl other ↦ inl other | inr some ↦ inr (omega (arith, length-reverse line, some)) ]) in
    let long : suffix_len is_return line ≤ length line = suffix_len-le-length is_return line in
    let count : length (b ∷ line) - suffix_len is_return (b ∷ line) ≡ suc (length line - suffix_len is_return line) = omega arith in
    ap (λ n. take n (b ∷ line)) count

length-strip : (line : List ℕ) → length (strip line) ≡ content_len line
unfolding content_len
length-strip line = grind (arith, common_steps)

-- bytes in front of what has some other byte than a carriage return
pub strip-append : (front line : List ℕ) → 0 < length (strip line) → strip (front ++ line) ≡ front ++ strip line
strip-append [] line some = refl
strip-append (b ∷ front) line some =
    let rest = strip-append front line some in
    let more : 0 < content_len (front ++ line) = omega (arith, length-strip (front ++ line), ap length rest, length-append front (strip line)) in
    strip-cons b (front ++ line) (inr more) ∙ ap (λ x. b ∷ x) rest

-- each byte is another than a carriage return
abbrev pub NoReturn : List ℕ → Type 0
NoReturn bytes = AllByRecursion (λ b. is_return b ≡ false) bytes

pub strip-behind : (front line : List ℕ) → NoReturn front → strip (front ++ line) ≡ front ++ strip line
strip-behind [] line none = refl
strip-behind (b ∷ front) line none = strip-cons b (front ++ line) (inl none.0) ∙ ap (λ x. b ∷ x) (strip-behind front line none.1)

-- ---- carriage returns at the end of a line

abbrev pub AreReturns : List ℕ → Type 0
AreReturns bytes = AllByRecursion (λ b. b ≡ 13) bytes

prefix-one : (xs : List ℕ) → prefix_len is_return (13 ∷ xs) ≡ 1 + prefix_len is_return xs
prefix-one xs = refl

strip-push : (line : List ℕ) → strip (line ++ 13 ∷ []) ≡ strip line
unfolding content_len
strip-push line =
    let back : suffix_len is_return (line ++ 13 ∷ []) ≡ 1 + suffix_len is_return line
    = ap (prefix_len is_return) (reverse-append line (13 ∷ [])) ∙ prefix-one (reverse line) in
    let long : suffix_len is_return line ≤ length line = suffix_len-le-length is_return line in
    let count : length (line ++ 13 ∷ []) - suffix_len is_return (line ++ 13 ∷ []) ≡ length line - suffix_len is_return line = omega (arith, length-append line (13 ∷ [])) in
    ap (λ n. take n (line ++ 13 ∷ [])) count ∙ take_first line (13 ∷ []) (length line - suffix_len is_return line) (omega arith)
  where
    take_first : (xs ys : List ℕ) (n : ℕ) → n ≤ length xs → take n (xs ++ ys) ≡ take n xs
    take_first xs ys n within = grind (arith, common_steps)

pub strip-returns : (line returns : List ℕ) → AreReturns returns → strip (line ++ returns) ≡ strip line
strip-returns line [] all = ap strip (append-nil line)
strip-returns line (r ∷ returns) all =
    ap strip (ap (λ x. line ++ (x ∷ returns)) all.0 ∙ sym (append_assoc line (13 ∷ []) returns))
    ∙ strip-returns (line ++ 13 ∷ []) returns all.1 ∙ strip-push line

pub line_is_content : (p : Progress) (line : List ℕ) → line_after p line ≡ content_after p (strip line)
unfolding line_after
line_is_content p line = refl
