-- Numbers and names as words of a line.
use Rattle.std.proofs.Common.{◌≡◌, ℕ, ◌+◌, ◌-◌, ◌*◌, ◌%◌, ◌^◌, ◌<◌, ◌≤◌, true, ◌&&◌, List, [], ◌∷◌, ◌++◌, length, refl, ap, ◌∙◌}
use Rattle.std.proofs.Common.{All, arith}
use Rattle.std.specs.Fmt.{decimal as digits_of}
use Rattle.std.specs.Prelude.{nat_le}
use Rattle.std.specs.List.{list_all}
use Rattle.std.specs.Char.{is_ascii_digit, is_ascii_lowercase}
use Rattle.std.proofs.lemmas.Bool.{and_from, and_parts, le-leb}
use Rattle.std.proofs.lemmas.Bool.Decides.{nat_tests}
use Rattle.std.proofs.lemmas.Fmt.{decimal_by_steps, decimal_nonempty, length-decimal-le}
use Rattle.std.proofs.lemmas.List.Elements.{All-cons}
use Rattle.std.proofs.lemmas.List.Folds.{list_all-append}
use Rattle.std.proofs.lemmas.List.Sums.{AllPass-from_list_all}
use Rattle.task_script.specs.Lines.{has_bytes}
use Rattle.task_script.specs.Forms.{decimal, is_number, value_of, is_within, is_name_byte, is_name}
use Rattle.task_script.specs.Valid.{IsWord}
use Rattle.script_writer.proofs.WordLaws.{IsClean}

-- ---- bytes that are no blank, no line feed and no carriage return

above_word : (bytes : List ℕ) → 0 < length bytes → All (λ byte. 33 ≤ byte) bytes → IsWord bytes
above_word bytes some h =
    record { some = some; no_blank = λ k d lt. let low = h k d lt in ((λ e. omega arith), (λ e. omega arith), (λ e. omega arith)) }

above_clean : (bytes : List ℕ) → All (λ byte. 33 ≤ byte) bytes → IsClean bytes
above_clean bytes h k d lt e = let low = h k d lt in omega arith

-- ---- numbers

digit_low : (byte : ℕ) → is_ascii_digit byte ≡ true → 33 ≤ byte
digit_low byte e = grind (arith, nat_tests)

digit_is : (n : ℕ) → n < 10 → is_ascii_digit (48 + n) ≡ true
digit_is n small = grind (arith, nat_tests)

all_digits : (n : ℕ) → n < 2 ^ 64 → list_all is_ascii_digit (digits_of n) ≡ true
all_digits =
    decimal_by_steps (λ n ds. list_all is_ascii_digit ds ≡ true)
    (λ n small. and_from (is_ascii_digit (48 + n)) true (digit_is n small) refl)
    (λ n ds more all. list_all-append is_ascii_digit ds ((48 + n % 10) ∷ [])
    ∙ and_from (list_all is_ascii_digit ds) (is_ascii_digit (48 + n % 10) && true) all (and_from (is_ascii_digit (48 + n % 10)) true (digit_is (n % 10) (omega arith)) refl))

number_above : (n : ℕ) → n < 2 ^ 64 → All (λ byte. 33 ≤ byte) (digits_of n)
number_above n small k d lt = digit_low _ (AllPass-from_list_all is_ascii_digit (digits_of n) (all_digits n small) k d lt)

pub number_word : (n : ℕ) → n < 2 ^ 64 → IsWord (digits_of n)
number_word n small = above_word (digits_of n) (decimal_nonempty n small) (number_above n small)

pub number_clean : (n : ℕ) → n < 2 ^ 64 → IsClean (digits_of n)
number_clean n small = above_clean (digits_of n) (number_above n small)

-- one more digit
digits_push : (before : ℕ) (ds : List ℕ) (digit : ℕ) → decimal before (ds ++ digit ∷ []) ≡ decimal before ds * 10 + (digit - 48)
digits_push before [] digit = refl
digits_push before (d ∷ ds) digit = digits_push (before * 10 + (d - 48)) ds digit

decimal_back : (n : ℕ) → n < 2 ^ 64 → decimal 0 (digits_of n) ≡ n
decimal_back =
    decimal_by_steps (λ n ds. decimal 0 ds ≡ n) (λ n small. omega arith)
    (λ n ds more front. digits_push 0 ds (48 + n % 10) ∙ ap (λ (m : ℕ). m * 10 + (48 + n % 10 - 48)) front ∙ omega arith)

has_some : (bytes : List ℕ) → 0 < length bytes → has_bytes bytes ≡ true
has_some [] some = absurd (omega arith)
has_some (byte ∷ bytes) some = refl

pub number_is : (n : ℕ) → n < 10 ^ 10 → is_number (digits_of n) ≡ true
number_is n small =
    let fits : n < 2 ^ 64 = omega arith in
    and_from (has_bytes (digits_of n) && nat_le (length (digits_of n)) 10) (list_all is_ascii_digit (digits_of n))
    (and_from (has_bytes (digits_of n)) (nat_le (length (digits_of n)) 10) (has_some (digits_of n) (decimal_nonempty n fits))
    (le-leb (length (digits_of n)) 10 (length-decimal-le 10 n (omega arith) small fits)))
    (all_digits n fits)

pub value_back : (n : ℕ) → n < 10 ^ 10 → value_of (digits_of n) ≡ n
value_back n small = rw (number_is n small) (decimal_back n (omega arith))

pub within_back : (low high n : ℕ) → low ≤ n → n ≤ high → n < 10 ^ 10 → is_within low high (digits_of n) ≡ true
within_back low high n above below small =
    let value = value_back n small in
    and_from (is_number (digits_of n) && nat_le low (value_of (digits_of n))) (nat_le (value_of (digits_of n)) high)
    (and_from (is_number (digits_of n)) (nat_le low (value_of (digits_of n))) (number_is n small) (le-leb low (value_of (digits_of n)) (rw value above)))
    (le-leb (value_of (digits_of n)) high (rw value below))

-- ---- names

letter_low : (byte : ℕ) → is_ascii_lowercase byte ≡ true → 33 ≤ byte
letter_low byte e = grind (arith, nat_tests)

name_byte_low : (byte : ℕ) → is_name_byte byte ≡ true → 33 ≤ byte
name_byte_low byte e = grind (arith, nat_tests)

name_above : (name : List ℕ) → is_name name ≡ true → All (λ byte. 33 ≤ byte) name
name_above [] e = absurd cc
name_above (byte ∷ bytes) e =
    let parts = and_parts (is_ascii_lowercase byte && nat_le (length bytes) 15) (list_all is_name_byte bytes) e in
    let head = and_parts (is_ascii_lowercase byte) (nat_le (length bytes) 15) parts.0 in
    All-cons (λ b. 33 ≤ b) byte bytes (letter_low byte head.0) (λ k d lt. name_byte_low _ (AllPass-from_list_all is_name_byte bytes parts.1 k d lt))

name_some : (name : List ℕ) → is_name name ≡ true → 0 < length name
name_some [] e = absurd cc
name_some (byte ∷ bytes) e = omega arith

pub name_word : (name : List ℕ) → is_name name ≡ true → IsWord name
name_word name e = above_word name (name_some name e) (name_above name e)

pub name_clean : (name : List ℕ) → is_name name ≡ true → IsClean name
name_clean name e = above_clean name (name_above name e)

-- ---- words that are given byte by byte

pub plain_word : (word : List ℕ) → 0 < length word → list_all (nat_le 33) word ≡ true → IsWord word
plain_word word some e = above_word word some (λ k d lt. low _ (AllPass-from_list_all (nat_le 33) word e k d lt))
  where
    low : (byte : ℕ) → nat_le 33 byte ≡ true → 33 ≤ byte
    low byte e = grind (arith, nat_tests)

pub plain_clean : (word : List ℕ) → list_all (nat_le 33) word ≡ true → IsClean word
plain_clean word e = above_clean word (λ k d lt. low _ (AllPass-from_list_all (nat_le 33) word e k d lt))
  where
    low : (byte : ℕ) → nat_le 33 byte ≡ true → 33 ≤ byte
    low byte e = grind (arith, nat_tests)
