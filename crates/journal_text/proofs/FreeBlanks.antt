-- More blanks before a blank change nothing.
use Rattle.std.proofs.Common.{◌≡◌, ◌==◌, ℕ, suc, ◌<◌, ◌≤◌, Bool, true, false, List, [], ◌∷◌, ◌++◌, Some, None, Ok, length, take, drop, ap, sym, ◌∙◌, refl, arith, subst, if◌then◌else◌, inl, inr}
use Rattle.std.specs.List.{slice_split}
use Rattle.std.proofs.lemmas.Bool.Decides.{nat_tests}
use Rattle.std.proofs.lemmas.Bool.{cases_Bool, cases_eq}
use Rattle.std.proofs.lemmas.List.Splits.{length-slice_split}
use Rattle.handoff_data.specs.History.{History}
use Rattle.journal_text.specs.Fields.{is_blank, gap_len, word_len, field_at, word_at}
use Rattle.journal_text.specs.Freedoms.{HasMoreBlanks}
use Rattle.journal_text.specs.Lines.{Progress, content_after, words_after, is_return}
use Rattle.journal_text.specs.Text.{is_feed, byte_limit, reading}
use Rattle.journal_text.proofs.Alike.{Alike, AlikeWord, equal, further, same_word, words_end}
use Rattle.journal_text.proofs.LineChange.{TakesPlaceOf, change_read, split_behind, strip, strip-append, strip-behind, line_is_content}

-- ---- gaps and words, a byte at a time

pub gap_blank : (b : ℕ) (s : List ℕ) → is_blank b ≡ true → gap_len (b ∷ s) ≡ suc (gap_len s)
unfolding gap_len
gap_blank b s e = rw e (omega arith)

pub gap_other : (b : ℕ) (s : List ℕ) → is_blank b ≡ false → gap_len (b ∷ s) ≡ 0
unfolding gap_len
gap_other b s e = rw e refl

word_blank : (b : ℕ) (s : List ℕ) → is_blank b ≡ true → word_len (b ∷ s) ≡ 0
unfolding word_len
word_blank b s e = rw e refl

word_other : (b : ℕ) (s : List ℕ) → is_blank b ≡ false → word_len (b ∷ s) ≡ suc (word_len s)
unfolding word_len
word_other b s e = rw e (omega arith)

-- the word behind the gap, and what stands behind it
abbrev pub next : List ℕ → List ℕ × List ℕ
next s = word_at (drop (gap_len s) s)

pub next_blank : (b : ℕ) (s : List ℕ) → is_blank b ≡ true → next (b ∷ s) ≡ next s
next_blank b s e = ap (λ n. word_at (drop n (b ∷ s))) (gap_blank b s e)

next_other : (b : ℕ) (s : List ℕ) → is_blank b ≡ false → next (b ∷ s) ≡ word_at (b ∷ s)
next_other b s e = ap (λ n. word_at (drop n (b ∷ s))) (gap_other b s e)

field_blank : (b : ℕ) (s : List ℕ) → is_blank b ≡ true → field_at (b ∷ s) ≡ Some (next (b ∷ s))
unfolding field_at
field_blank b s e =
    let some : (suc (gap_len s) == 0) ≡ false = grind (arith, nat_tests) in
    ap (λ n. if n == 0 then None else Some (next (b ∷ s))) (gap_blank b s e)
    ∙ ap (λ t. if t then None else Some (next (b ∷ s))) some

-- ---- what is read alike behind any bytes

-- the words behind the gaps, and what stands behind them
pub record NextAlike (s s' : List ℕ) : Type 0 where
  pub words : AlikeWord (next s).0 (next s').0
  pub rests : Alike (next s).1 (next s').1

-- the words at the front are one, and what stands behind them is alike
record FrontAlike (s s' : List ℕ) : Type 0 where
  word : (word_at s).0 ≡ (word_at s').0
  rests : Alike (word_at s).1 (word_at s').1

blank_alike : (b b' : ℕ) (s s' : List ℕ) → is_blank b ≡ true → is_blank b' ≡ true → NextAlike (b ∷ s) (b' ∷ s') → Alike (b ∷ s) (b' ∷ s')
blank_alike b b' s s' e e' h =
    further (b ∷ s) (b' ∷ s') (next (b ∷ s)).0 (next (b' ∷ s')).0 (next (b ∷ s)).1 (next (b' ∷ s')).1 (field_blank b s e) (field_blank b' s' e') h.words h.rests

front_blank : (b b' : ℕ) (s s' : List ℕ) → is_blank b ≡ true → is_blank b' ≡ true → NextAlike (b ∷ s) (b' ∷ s') → FrontAlike (b ∷ s) (b' ∷ s')
front_blank b b' s s' e e' h = record {
  word = ap (λ n. take n (b ∷ s)) (word_blank b s e) ∙ sym (ap (λ n. take n (b' ∷ s')) (word_blank b' s' e'));
  rests = subst (λ n. Alike (drop n (b ∷ s)) (drop (word_len (b' ∷ s')) (b' ∷ s'))) (sym (word_blank b s e))
      (subst (λ n. Alike (b ∷ s) (drop n (b' ∷ s'))) (sym (word_blank b' s' e')) (blank_alike b b' s s' e e' h));
}

next_on : (b : ℕ) (s s' : List ℕ) → is_blank b ≡ true → NextAlike s s' → NextAlike (b ∷ s) (b ∷ s')
next_on b s s' e h = record {
  words = subst (λ (x : List ℕ × List ℕ). AlikeWord x.0 (next (b ∷ s')).0) (sym (next_blank b s e))
      (subst (λ (x : List ℕ × List ℕ). AlikeWord (next s).0 x.0) (sym (next_blank b s' e)) h.words);
  rests = subst (λ (x : List ℕ × List ℕ). Alike x.1 (next (b ∷ s')).1) (sym (next_blank b s e))
      (subst (λ (x : List ℕ × List ℕ). Alike (next s).1 x.1) (sym (next_blank b s' e)) h.rests);
}

front_on : (b : ℕ) (s s' : List ℕ) → is_blank b ≡ false → FrontAlike s s' → FrontAlike (b ∷ s) (b ∷ s')
front_on b s s' e h = record {
  word = ap (λ n. take n (b ∷ s)) (word_other b s e) ∙ ap (λ x. b ∷ x) h.word ∙ sym (ap (λ n. take n (b ∷ s')) (word_other b s' e));
  rests = subst (λ n. Alike (drop n (b ∷ s)) (drop (word_len (b ∷ s')) (b ∷ s'))) (sym (word_other b s e))
      (subst (λ n. Alike (drop (word_len s) s) (drop n (b ∷ s'))) (sym (word_other b s' e)) h.rests);
}

next_front : (b : ℕ) (s s' : List ℕ) → is_blank b ≡ false → FrontAlike (b ∷ s) (b ∷ s') → NextAlike (b ∷ s) (b ∷ s')
next_front b s s' e h = record {
  words = subst (λ (x : List ℕ × List ℕ). AlikeWord x.0 (next (b ∷ s')).0) (sym (next_other b s e))
      (subst (λ (x : List ℕ × List ℕ). AlikeWord (word_at (b ∷ s)).0 x.0) (sym (next_other b s' e)) (same_word (word_at (b ∷ s)).0 (word_at (b ∷ s')).0 h.word));
  rests = subst (λ (x : List ℕ × List ℕ). Alike x.1 (next (b ∷ s')).1) (sym (next_other b s e))
      (subst (λ (x : List ℕ × List ℕ). Alike (word_at (b ∷ s)).1 x.1) (sym (next_other b s' e)) h.rests);
}

-- Two ends of a line that begin with a blank: they are both blank or both not, and what they say is alike.
pub record EndsAlike (b b' : ℕ) (s s' : List ℕ) : Type 0 where
  pub blank : is_blank b ≡ true
  pub blank' : is_blank b' ≡ true
  pub test : (gap_len (b ∷ s) == length (b ∷ s)) ≡ (gap_len (b' ∷ s') == length (b' ∷ s'))
  pub next : NextAlike (b ∷ s) (b' ∷ s')

record BothAlike (s s' : List ℕ) : Type 0 where
  test : (gap_len s == length s) ≡ (gap_len s' == length s')
  front : FrontAlike s s'
  next : NextAlike s s'

same_test : (m n : ℕ) → m ≡ n → (m == n) ≡ true
same_test m n e = grind (arith, nat_tests)

pub other_test : (m n : ℕ) → (m ≡ n → ⊥) → (m == n) ≡ false
other_test m n e = grind (arith, nat_tests)

pub suc_test : (m n : ℕ) → (suc m == suc n) ≡ (m == n)
suc_test m n =
    elim (cases_eq m n) [
      | inl same ↦ same_test (suc m) (suc n) (omega arith) ∙ sym (same_test m n same)
      | inr other ↦ other_test (suc m) (suc n) (λ e. other (omega arith)) ∙ sym (other_test m n other)
    ]

zero_test : (n : ℕ) → (0 == suc n) ≡ false
zero_test n = other_test 0 (suc n) (λ e. absurd (omega arith))

both_on : (b : ℕ) (s s' : List ℕ) → BothAlike s s' → BothAlike (b ∷ s) (b ∷ s')
both_on b s s' h =
    elim (cases_Bool (is_blank b)) [
      | inl blank ↦
          let next' = next_on b s s' blank h.next in
          record {
            test = ap (λ n. n == length (b ∷ s)) (gap_blank b s blank) ∙ suc_test (gap_len s) (length s) ∙ h.test
                ∙ sym (ap (λ n. n == length (b ∷ s')) (gap_blank b s' blank) ∙ suc_test (gap_len s') (length s'));
            front = front_blank b b s s' blank blank next';
            next = next';
          }
      | inr other ↦
          let front' = front_on b s s' other h.front in
          record {
            test = ap (λ n. n == length (b ∷ s)) (gap_other b s other) ∙ zero_test (length s)
                ∙ sym (ap (λ n. n == length (b ∷ s')) (gap_other b s' other) ∙ zero_test (length s'));
            front = front';
            next = next_front b s s' other front';
          }
    ]

both_alike : (front : List ℕ) (b b' : ℕ) (s s' : List ℕ) → EndsAlike b b' s s' → BothAlike (front ++ (b ∷ s)) (front ++ (b' ∷ s'))
both_alike [] b b' s s' h = record { test = h.test; front = front_blank b b' s s' h.blank h.blank' h.next; next = h.next }
both_alike (x ∷ front) b b' s s' h = both_on x (front ++ (b ∷ s)) (front ++ (b' ∷ s')) (both_alike front b b' s s' h)

content_by : (t t' : Bool) (p q : Progress) (word word' rest rest' : List ℕ) → t ≡ t' → word ≡ word' → Alike rest rest'
    → (if t then Some p else words_after p word rest) ≡ Some q → (if t' then Some p else words_after p word' rest') ≡ Some q
content_by true true p q word word' rest rest' tests words rests is = is
content_by true false p q word word' rest rest' tests words rests is = absurd cc
content_by false true p q word word' rest rest' tests words rests is = absurd cc
content_by false false p q word word' rest rest' tests words rests is =
    ap (λ w. words_after p w rest') (sym words) ∙ words_end p word rest rest' rests q is

-- a line that ends so says what one does that ends otherwise, where the ends are alike
pub ends_alike : (p q : Progress) (front : List ℕ) (b b' : ℕ) (s s' : List ℕ) → EndsAlike b b' s s'
    → content_after p (front ++ (b ∷ s)) ≡ Some q → content_after p (front ++ (b' ∷ s')) ≡ Some q
ends_alike p q front b b' s s' h is =
    let both = both_alike front b b' s s' h in
    content_by _ _ p q _ _ _ _ both.test both.front.word both.front.rests is

-- ---- more blanks

pub blank_no_feed : (b : ℕ) → is_blank b ≡ true → is_feed b ≡ false
blank_no_feed b e = grind (arith, nat_tests)

pub blank_no_return : (b : ℕ) → is_blank b ≡ true → is_return b ≡ false
blank_no_return b e = grind (arith, nat_tests)

blank_ends : (b y : ℕ) (s : List ℕ) → is_blank b ≡ true → is_blank y ≡ true → EndsAlike b y s (b ∷ s)
blank_ends b y s e f = record {
  blank = e;
  blank' = f;
  test = sym (ap (λ n. n == length (y ∷ (b ∷ s))) (gap_blank y (b ∷ s) f) ∙ suc_test (gap_len (b ∷ s)) (length (b ∷ s)));
  next = record {
    words = same_word _ _ (ap (λ (x : List ℕ × List ℕ). x.0) (sym (next_blank y (b ∷ s) f)));
    rests = equal _ _ (ap (λ (x : List ℕ × List ℕ). x.1) (sym (next_blank y (b ∷ s) f)));
  };
}

-- the content of a line that has these bytes, none of them a carriage return, before its end
pub content_of_end : (front : List ℕ) (b : ℕ) (s : List ℕ) → is_return b ≡ false → strip (front ++ (b ∷ s)) ≡ front ++ (b ∷ strip s)
content_of_end front b s other =
    let one : strip (b ∷ s) ≡ b ∷ strip s = strip-behind (b ∷ []) s (other, tt) in
    strip-append front (b ∷ s) (omega (arith, ap length one)) ∙ ap (λ x. front ++ x) one

blanks_free : (b y : ℕ) (s : List ℕ) → is_blank b ≡ true → is_blank y ≡ true → TakesPlaceOf (b ∷ s) (y ∷ (b ∷ s))
blanks_free b y s e f p q front is =
    let two : strip (y ∷ (b ∷ s)) ≡ y ∷ (b ∷ strip s) = strip-behind (y ∷ (b ∷ [])) s (blank_no_return y f, (blank_no_return b e, tt)) in
    let lines : strip (front ++ (y ∷ (b ∷ s))) ≡ front ++ (y ∷ (b ∷ strip s))
    = strip-append front (y ∷ (b ∷ s)) (omega (arith, ap length two)) ∙ ap (λ x. front ++ x) two in
    let said : content_after p (front ++ (b ∷ strip s)) ≡ Some q
    = ap (content_after p) (sym (content_of_end front b s (blank_no_return b e))) ∙ sym (line_is_content p (front ++ (b ∷ s))) ∙ is in
    line_is_content p (front ++ (y ∷ (b ∷ s))) ∙ ap (content_after p) lines
    ∙ ends_alike p q front b y (strip s) (b ∷ strip s) (blank_ends b y (strip s) e f) said

-- the first line of a text, and the others
pub record FirstLine (bytes : List ℕ) : Type 0 where
  pub line : List ℕ
  pub others : List (List ℕ)
  pub is : slice_split is_feed bytes ≡ line ∷ others

first_of : (lines : List (List ℕ)) → 0 < length lines → (line : List ℕ) × (others : List (List ℕ)) × (lines ≡ line ∷ others)
first_of [] some = absurd (omega arith)
first_of (line ∷ others) some = (line, others, refl)

pub first_line : (bytes : List ℕ) → FirstLine bytes
first_line bytes =
    let f = first_of (slice_split is_feed bytes) (omega (arith, length-slice_split is_feed bytes)) in
    record { line = f.0; others = f.1; is = f.2 }

pub more_blanks : (bytes bytes' : List ℕ) (j : History) → HasMoreBlanks bytes bytes' → length bytes' ≤ byte_limit → reading bytes ≡ Ok j → reading bytes' ≡ Ok j
more_blanks bytes bytes' j h short read =
    let first = first_line h.after in
    let one = split_behind (h.blank ∷ []) h.after first.line first.others (blank_no_feed h.blank h.blank_is, tt) first.is in
    let two = split_behind (h.more ∷ (h.blank ∷ [])) h.after first.line first.others (blank_no_feed h.more h.more_is, (blank_no_feed h.blank h.blank_is, tt)) first.is in
    let fits : length (h.before ++ (h.more ∷ (h.blank ∷ h.after))) ≤ byte_limit = subst (λ (x : List ℕ). length x ≤ byte_limit) h.with short in
    ap reading h.with
    ∙ change_read h.before (h.blank ∷ h.after) (h.more ∷ (h.blank ∷ h.after)) (h.blank ∷ first.line) (h.more ∷ (h.blank ∷ first.line)) first.others j one two
    (blanks_free h.blank h.more first.line h.blank_is h.more_is) fits (ap reading (sym h.without) ∙ read)
