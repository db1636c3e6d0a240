-- What a number of workers looks like.
use Rattle.std.proofs.Common.{◌≡◌, ◌∙◌, ◌≤◌, ◌<◌, refl, sym, ap, subst, ℕ, Bool, true, false, true≢false, nat_le, nat_lt, List, [], ◌∷◌, length, codes, None, rules, arith, nat_eq}
use Rattle.std.specs.List.{list_all}
use Rattle.std.specs.Char.{is_ascii_digit, digit_value}
use Rattle.std.specs.Str.{bytes_eq}
use Rattle.std.specs.Str.Parse.{AllDigits, ExplainsUnsignedError, HasUnsignedDigitsIfOk, IsNumeral, ParsesUnsigned, digits_value, without_leading_plus}
use Rattle.std.specs.Prelude.{Err, Option, Some, ◌^◌}
use Rattle.clap.specs.Words.{ReadsOne}
use borrow.Author.Tests.{tests}
use Rattle.clap.specs.Lexer.{long_of, short_of}
use Rattle.command_words.specs.Words.{is_number}
use Rattle.command_words.proofs.Bools.{both, all_five}

-- a word that is no option
pub record IsValue (text : List ℕ) : Type 0 where
  pub dashes : bytes_eq text (codes "--") ≡ false
  pub long : long_of text ≡ None
  pub short : short_of text ≡ None

no_dash : (d : ℕ) → is_ascii_digit d ≡ true → nat_eq d 45 ≡ false
no_dash d digit = search rules

pub number_digits : (text : List ℕ) → is_number text ≡ true → list_all is_ascii_digit text ≡ true
number_digits text h =
    (all_five (nat_lt 0 (length text)) (nat_le (length text) 10) (list_all is_ascii_digit text) (nat_le 1 (digits_value 10 text)) (nat_le (digits_value 10 text) 16) h).2

number_some : (text : List ℕ) → is_number text ≡ true → 0 < length text
number_some text h =
    let e = (all_five (nat_lt 0 (length text)) (nat_le (length text) 10) (list_all is_ascii_digit text) (nat_le 1 (digits_value 10 text)) (nat_le (digits_value 10 text) 16) h).0 in
    search (rules, tests)

number_within : (text : List ℕ) → is_number text ≡ true → digits_value 10 text ≤ 16
number_within text h =
    let e = (all_five (nat_lt 0 (length text)) (nat_le (length text) 10) (list_all is_ascii_digit text) (nat_le 1 (digits_value 10 text)) (nat_le (digits_value 10 text) 16) h).4 in
    search (rules, tests)

pub number_is_value : (text : List ℕ) → is_number text ≡ true → IsValue text
number_is_value [] h = absurd (true≢false (sym h))
number_is_value (d ∷ ds) h =
    let e = no_dash d (both (is_ascii_digit d) (list_all is_ascii_digit ds) (number_digits (d ∷ ds) h)).0 in
    record { dashes = rw e refl; long = rw e refl; short = rw e refl }

-- ---- the test

not_true : (b : Bool) → (b ≡ true → ⊥) → b ≡ false
not_true true h = absurd (h refl)
not_true false h = refl

digit_below : (d : ℕ) → is_ascii_digit d ≡ true → digit_value d < 10
digit_below d digit = search (rules, tests)

numeral : (text : List ℕ) → list_all is_ascii_digit text ≡ true → AllDigits 10 text
numeral [] h = tt
numeral (d ∷ ds) h =
    let parts = both (is_ascii_digit d) (list_all is_ascii_digit ds) h in
    (digit_below d parts.0, numeral ds parts.1)

no_plus_byte : (d : ℕ) → is_ascii_digit d ≡ true → nat_eq d 43 ≡ false
no_plus_byte d digit = search (rules, tests)

no_plus : (text : List ℕ) → list_all is_ascii_digit text ≡ true → without_leading_plus text ≡ text
no_plus [] h = refl
no_plus (d ∷ ds) h =
    let e = no_plus_byte d (both (is_ascii_digit d) (list_all is_ascii_digit ds) h).0 in
    rw e refl

pub refused_number : {E : Type 0} (text : List ℕ) (e : E) → ParsesUnsigned 32 10 text (Err e) → is_number text ≡ false
refused_number text e h = not_true (is_number text) (λ is.
    let digits = number_digits text is in
    let plain = no_plus text digits in
    let low = number_within text is in
    h (subst (λ t. IsNumeral 10 t × (digits_value 10 t < 2 ^ 32)) (sym plain) ((number_some text is, numeral text digits), omega (arith, low))))

-- what is read of a number in the matches
pub workers_read : (text : List ℕ) (r : Option ℕ) → is_number text ≡ true
    → ReadsOne (λ bs n. ParsesUnsigned 32 10 bs n × ExplainsUnsignedError 10 bs n × HasUnsignedDigitsIfOk bs n) text r → r ≡ Some (digits_value 10 text)
workers_read text None is (e, gives) = absurd (true≢false (sym is ∙ refused_number text e gives.0))
workers_read text (Some n) is gives = ap Some (gives.0.1 ∙ ap (digits_value 10) (no_plus text (number_digits text is)))
