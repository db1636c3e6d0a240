-- Written numbers.
use Rattle.std.proofs.Common.{◌≡◌, ◌≢◌, ℕ, zero, suc, ◌+◌, ◌%◌, ◌^◌, ◌<◌, List, [], ◌∷◌, ◌++◌, length, take, get_or, true, ap, ◌∙◌, arith}
use Rattle.std.specs.Fmt.{decimal}
use Rattle.std.specs.List.{flat_map}
use Rattle.std.specs.Prelude.{All}
use Rattle.std.proofs.lemmas.Bool.Decides.{nat_tests}
use Rattle.std.proofs.lemmas.Fmt.{decimal_by_steps}
use Rattle.std.proofs.lemmas.Grind.{flat_map-append}
use Rattle.std.proofs.lemmas.List.{take_more, append-nil}
use Rattle.std.proofs.lemmas.List.Elements.{All-append}
use Rattle.handoff_data.specs.Line.{IsLine}
use Rattle.journal_text.specs.Fields.{is_digit}
use Rattle.journal_text.specs.Spelling.{field, fields, behind_comma}

-- each byte is a digit
abbrev pub AreDigits : List ℕ → Type 0
AreDigits bs = All (λ b. is_digit b ≡ true) bs

digit_is : (n : ℕ) → n < 10 → is_digit (48 + n) ≡ true
digit_is n small = grind (arith, nat_tests)

one_digit : (n : ℕ) → n < 10 → AreDigits ((48 + n) ∷ [])
one_digit n small zero d less = digit_is n small
one_digit n small (suc k) d less = absurd (omega arith)

pub decimal_digits : (n : ℕ) → n < 2 ^ 64 → AreDigits (decimal n)
decimal_digits =
    decimal_by_steps (λ n ds. AreDigits ds) one_digit
    (λ n ds more all. All-append (λ b. is_digit b ≡ true) ds ((48 + n % 10) ∷ []) all (one_digit (n % 10) (omega arith)))

digit_no_feed : (b : ℕ) → is_digit b ≡ true → b ≢ 10
digit_no_feed b e = grind (arith, nat_tests)

pub IsLine-append : (xs ys : List ℕ) → IsLine xs → IsLine ys → IsLine (xs ++ ys)
IsLine-append xs ys = All-append (λ b. b ≢ 10) xs ys

pub IsLine-field : (n : ℕ) → n < 2 ^ 64 → IsLine (field n)
IsLine-field n small zero d less = λ e. absurd (omega arith)
IsLine-field n small (suc k) d less = digit_no_feed _ (decimal_digits n small k d (omega arith))

pub fields_more : (ns : List ℕ) (i : ℕ) → i < length ns → fields (take (i + 1) ns) ≡ fields (take i ns) ++ field (get_or ns i 0)
fields_more ns i less = ap fields (take_more ns i 0 less) ∙ flat_map-append field (take i ns) (get_or ns i 0 ∷ [])
    ∙ ap (λ t. fields (take i ns) ++ (32 ∷ t)) (append-nil (decimal (get_or ns i 0)))

pub IsLine-behind_comma : (n : ℕ) → n < 2 ^ 64 → IsLine (behind_comma n)
IsLine-behind_comma n small zero d less = λ e. absurd (omega arith)
IsLine-behind_comma n small (suc k) d less = digit_no_feed _ (decimal_digits n small k d (omega arith))

pub behind_commas_more : (ns : List ℕ) (i : ℕ) → i < length ns
    → flat_map behind_comma (take (i + 1) ns) ≡ flat_map behind_comma (take i ns) ++ behind_comma (get_or ns i 0)
behind_commas_more ns i less = ap (flat_map behind_comma) (take_more ns i 0 less) ∙ flat_map-append behind_comma (take i ns) (get_or ns i 0 ∷ [])
    ∙ ap (λ t. flat_map behind_comma (take i ns) ++ (44 ∷ t)) (append-nil (decimal (get_or ns i 0)))
