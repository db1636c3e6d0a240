-- What is written is read: numbers, words and fields.
use Rattle.std.proofs.Common.{◌≡◌, ◌==◌, ℕ, suc, ◌+◌, ◌-◌, ◌*◌, ◌/◌, ◌%◌, ◌^◌, ◌<◌, ◌≤◌, Bool, true, false, ◌&&◌, nat_lt, nat_le, List, [], ◌∷◌, ◌++◌, Option, Some, None, length, take, drop, ap, ◌∙◌}
use Rattle.std.proofs.Common.{refl, arith, if◌then◌else◌}
use Rattle.std.specs.Fmt.{decimal}
use Rattle.std.proofs.lemmas.Bool.Decides.{nat_tests}
use Rattle.std.proofs.lemmas.Fmt.{decimal_by_steps, decimal_nonempty, length-decimal-le}
use Rattle.std.proofs.lemmas.Grind.{common_steps}
use Rattle.journal_text.specs.Fields.{is_digit, is_blank, digits_from, number_of, field_at, word_at, gap_len, word_len, u64_at, u32_at, one_of, two_of, three_of, ended, ◌>>=◌}
use Rattle.journal_text.specs.Spelling.{field, fields}
use Rattle.journal_text.proofs.Digits.{AreDigits, decimal_digits}

push_if : (b : Bool) (whole front : Option ℕ) (d : ℕ) → whole ≡ (front >>= λ m. digits_from m (d ∷ []))
    → (if b then whole else None) ≡ ((if b then front else None) >>= λ m. digits_from m (d ∷ []))
push_if true whole front d e = e
push_if false whole front d e = refl

-- one more digit
digits_push : (n : ℕ) (ds : List ℕ) (d : ℕ) → digits_from n (ds ++ d ∷ []) ≡ (digits_from n ds >>= λ m. digits_from m (d ∷ []))
digits_push n [] d = refl
digits_push n (x ∷ ds) d =
    push_if (is_digit x && nat_lt (n * 10 + (x - 48)) (2 ^ 64)) _ _ d (digits_push (n * 10 + (x - 48)) ds d)

last_digit : (m n d : ℕ) → d < 10 → m * 10 + d ≡ n → n < 2 ^ 64 → digits_from m ((48 + d) ∷ []) ≡ Some n
last_digit m n d small e fits =
    let value : m * 10 + (48 + d - 48) ≡ n = omega arith in
    let test : (is_digit (48 + d) && nat_lt (m * 10 + (48 + d - 48)) (2 ^ 64)) ≡ true = grind (arith, nat_tests) in
    ap (λ b. if b then Some (m * 10 + (48 + d - 48)) else None) test ∙ ap (λ (k : ℕ). Some k) value

pub digits_decimal : (n : ℕ) → n < 2 ^ 64 → n < 2 ^ 64 → digits_from 0 (decimal n) ≡ Some n
digits_decimal = decimal_by_steps (λ n ds. n < 2 ^ 64 → digits_from 0 ds ≡ Some n)
    (λ n small fits. last_digit 0 n n small (omega arith) fits)
    (λ n ds more front fits. digits_push 0 ds (48 + n % 10) ∙ ap (λ o. o >>= λ m. digits_from m ((48 + n % 10) ∷ [])) (front (omega arith))
    ∙ last_digit (n / 10) n (n % 10) (omega arith) (omega arith) fits)

pub number_decimal : (n : ℕ) → n < 2 ^ 64 → number_of (decimal n) ≡ Some n
unfolding number_of
number_decimal n fits =
    let some : 0 < length (decimal n) = decimal_nonempty n fits in
    let short : length (decimal n) ≤ 20 = length-decimal-le 20 n (omega arith) (omega arith) fits in
    let test : (nat_lt 0 (length (decimal n)) && nat_le (length (decimal n)) 20) ≡ true = grind (arith, nat_tests) in
    ap (λ b. if b then digits_from 0 (decimal n) else None) test ∙ digits_decimal n fits fits

-- nothing, or a blank first
abbrev pub IsTail : List ℕ → Type 0
IsTail [] = Unit {0}
IsTail (b ∷ bytes) = is_blank b ≡ true

-- each byte may stand in a word
abbrev pub IsWord : List ℕ → Type 0
IsWord [] = Unit {0}
IsWord (b ∷ bytes) = (is_blank b ≡ false) × IsWord bytes

tail_len : (rest : List ℕ) → IsTail rest → word_len rest ≡ 0
unfolding word_len
tail_len [] tail = refl
tail_len (b ∷ rest) tail = rw tail refl

pub word_of : (w rest : List ℕ) → IsWord w → IsTail rest → word_len (w ++ rest) ≡ length w
unfolding word_len
word_of [] rest word tail = tail_len rest tail
word_of (b ∷ w) rest word tail = rw word.0 (ap (λ n. 1 + n) (word_of w rest word.1 tail) ∙ omega arith)

pub take_front : (w rest : List ℕ) → take (length w) (w ++ rest) ≡ w
take_front w rest = grind (arith, common_steps)

pub drop_front : (w rest : List ℕ) → drop (length w) (w ++ rest) ≡ rest
drop_front w rest = grind (arith, common_steps)

pub field_of : (b : ℕ) (w rest : List ℕ) → IsWord (b ∷ w) → IsTail rest → field_at (32 ∷ ((b ∷ w) ++ rest)) ≡ Some (b ∷ w, rest)
unfolding field_at gap_len
field_of b w rest word tail =
    let gap : gap_len (32 ∷ (b ∷ (w ++ rest))) ≡ 1 = rw word.0 refl in
    let long : word_len ((b ∷ w) ++ rest) ≡ length (b ∷ w) = word_of (b ∷ w) rest word tail in
    ap (λ n. if n == 0 then None else Some (word_at (drop n (32 ∷ (b ∷ (w ++ rest)))))) gap
    ∙ ap (λ n. Some (take n ((b ∷ w) ++ rest), drop n ((b ∷ w) ++ rest))) long
    ∙ ap (λ (x : List ℕ). Some (x, drop (length (b ∷ w)) ((b ∷ w) ++ rest))) (take_front (b ∷ w) rest)
    ∙ ap (λ (x : List ℕ). Some (b ∷ w, x)) (drop_front (b ∷ w) rest)

digit_visible : (b : ℕ) → is_digit b ≡ true → is_blank b ≡ false
digit_visible b e = grind (arith, nat_tests)

pub word_from_digits : (ds : List ℕ) → AreDigits ds → IsWord ds
word_from_digits [] all = tt
word_from_digits (d ∷ ds) all = (digit_visible d (all 0 0 (omega arith)), word_from_digits ds (λ k e less. all (suc k) e (omega arith)))

-- any word that isn't empty
pub field_word : (w rest : List ℕ) → 0 < length w → IsWord w → IsTail rest → field_at (32 ∷ (w ++ rest)) ≡ Some (w, rest)
field_word [] rest some word tail = absurd (omega arith)
field_word (b ∷ w) rest some word tail = field_of b w rest word tail

pub u64_field : (n : ℕ) (rest : List ℕ) → n < 2 ^ 64 → IsTail rest → u64_at (field n ++ rest) ≡ Some (n, rest)
unfolding u64_at
u64_field n rest fits tail =
    ap (λ o. o >>= λ word. number_of word.0 >>= λ n. Some (n, word.1)) (field_word (decimal n) rest (decimal_nonempty n fits) (word_from_digits (decimal n) (decimal_digits n fits)) tail)
    ∙ ap (λ o. o >>= λ (n : ℕ). Some (n, rest)) (number_decimal n fits)

pub u32_field : (n : ℕ) (rest : List ℕ) → n < 2 ^ 32 → IsTail rest → u32_at (field n ++ rest) ≡ Some (n, rest)
unfolding u32_at
u32_field n rest fits tail =
    let test : nat_lt n (2 ^ 32) ≡ true = grind (arith, nat_tests) in
    ap (λ o. o >>= λ n. if nat_lt n.0 (2 ^ 32) then Some n else None) (u64_field n rest (omega arith) tail)
    ∙ ap (λ b. if b then Some (n, rest) else None) test

pub one_read : (n : ℕ) → n < 2 ^ 64 → one_of (fields (n ∷ [])) ≡ Some n
unfolding one_of
one_read n fits = ap (λ o. o >>= λ n. ended n.0 n.1) (u64_field n [] fits tt)

pub two_read : (t m : ℕ) → t < 2 ^ 32 → m < 2 ^ 64 → two_of (fields (t ∷ m ∷ [])) ≡ Some (t, m)
unfolding two_of
two_read t m ft fm =
    ap (λ o. o >>= λ t. u64_at t.1 >>= λ m. ended (t.0, m.0) m.1) (u32_field t (fields (m ∷ [])) ft refl)
    ∙ ap (λ o. o >>= λ m. ended (t, m.0) m.1) (u64_field m [] fm tt)

pub three_read : (t m c : ℕ) → t < 2 ^ 32 → m < 2 ^ 64 → c < 2 ^ 32 → three_of (fields (t ∷ m ∷ c ∷ [])) ≡ Some (t, m, c)
unfolding three_of
three_read t m c ft fm fc =
    ap (λ o. o >>= λ t. u64_at t.1 >>= λ m. u32_at m.1 >>= λ c. ended (t.0, m.0, c.0) c.1) (u32_field t (fields (m ∷ c ∷ [])) ft refl)
    ∙ ap (λ o. o >>= λ m. u32_at m.1 >>= λ c. ended (t, m.0, c.0) c.1) (u64_field m (fields (c ∷ [])) fm refl)
    ∙ ap (λ o. o >>= λ c. ended (t, m, c.0) c.1) (u32_field c [] fc tt)

pub IsWord-append : (xs ys : List ℕ) → IsWord xs → IsWord ys → IsWord (xs ++ ys)
IsWord-append [] ys first second = second
IsWord-append (x ∷ xs) ys first second = (first.0, IsWord-append xs ys first.1 second)
