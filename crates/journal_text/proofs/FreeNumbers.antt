-- Leading zeros, and the order of the numbers of a mask, change nothing.
use Rattle.std.proofs.Common.{◌≡◌, ◌==◌, ℕ, zero, suc, ◌⊎◌, get_or, ◌+◌, ◌-◌, ◌*◌, ◌^◌, ◌<◌, ◌≤◌, Bool, true, false, ◌&&◌, nat_lt, nat_le, List, [], ◌∷◌, ◌++◌, Option, Some, None, Ok, length, take}
use Rattle.std.proofs.Common.{drop, ap, sym, ◌∙◌, refl, arith, subst, if◌then◌else◌, inl, inr, length-append, bit_or}
use Rattle.std.specs.Prelude.{codes}
use Rattle.std.specs.List.{slice_split, AllByRecursion, flat_map}
use Rattle.std.specs.Str.{bytes_eq}
use Rattle.std.proofs.lemmas.Bool.Decides.{nat_tests}
use Rattle.std.proofs.lemmas.List.{append-nil}
use Rattle.std.proofs.lemmas.List.Splits.{slice_split_at, slice_split_none}
use Rattle.std.proofs.lemmas.Nat.Bits.{bit_at_or, same_from_bits}
use Rattle.handoff_data.specs.History.{History}
use Rattle.handoff_data.specs.declared.mask.CpuMask.{CpuMask}
use Rattle.handoff_data.specs.Mask.{mask_with, no_cpus}
use Rattle.journal_text.specs.Entries.{is_comma, cpu_of, mask_from, listed_mask_of, mask_of, by_list_of, at_of}
use Rattle.journal_text.specs.Fields.{◌>>=◌, is_blank, is_digit, digits_from, number_of, gap_len, word_at}
use Rattle.journal_text.specs.Freedoms.{EndsWord, IsNumeral, parted, HasMoreZeros, HasOtherOrder}
use Rattle.journal_text.specs.Lines.{content_len, content_after, is_return}
use Rattle.journal_text.specs.Text.{is_feed, byte_limit, reading}
use Rattle.journal_text.proofs.Alike.{AlikeWord, equal}
use Rattle.journal_text.proofs.FreeBlanks.{EndsAlike, ends_alike, next, next_blank, content_of_end, blank_no_feed, blank_no_return, first_line, gap_blank, gap_other, other_test}
use Rattle.journal_text.proofs.FreeLines.{line_end}
use Rattle.journal_text.proofs.LineChange.{NoFeed, NoReturn, TakesPlaceOf, change_read, split_behind, strip, strip-behind, strip-returns, line_is_content}
use Rattle.journal_text.proofs.Readback.{IsWord, IsTail, word_of, take_front, drop_front}
use Rattle.journal_text.proofs.TextBack.{bind_some}

abbrev pub AreNumerals : List (List ℕ) → Type 0
AreNumerals ns = AllByRecursion IsNumeral ns

abbrev Digits : List ℕ → Type 0
Digits bytes = AllByRecursion (λ b. is_digit b ≡ true) bytes

-- a byte of a word of numerals: a digit or a comma
abbrev is_part : ℕ → Type 0
is_part b = (is_digit b ≡ true) ⊎ (b ≡ 44)

part_visible : (b : ℕ) → is_part b → is_blank b ≡ false
part_visible b (inl e) = grind (arith, nat_tests, e)
part_visible b (inr e) = grind (arith, nat_tests, e)

part_no_feed : (b : ℕ) → is_part b → is_feed b ≡ false
part_no_feed b (inl e) = grind (arith, nat_tests, e)
part_no_feed b (inr e) = grind (arith, nat_tests, e)

part_no_return : (b : ℕ) → is_part b → is_return b ≡ false
part_no_return b (inl e) = grind (arith, nat_tests, e)
part_no_return b (inr e) = grind (arith, nat_tests, e)

abbrev AreParts : List ℕ → Type 0
AreParts bytes = AllByRecursion is_part bytes

parts-append : (xs ys : List ℕ) → AreParts xs → AreParts ys → AreParts (xs ++ ys)
parts-append [] ys first second = second
parts-append (x ∷ xs) ys first second = (first.0, parts-append xs ys first.1 second)

digit_parts : (bytes : List ℕ) → Digits bytes → AreParts bytes
digit_parts [] all = tt
digit_parts (b ∷ bytes) all = (inl all.0, digit_parts bytes all.1)

behind_parts : (ns : List (List ℕ)) → AreNumerals ns → AreParts (flat_map (λ (m : List ℕ). 44 ∷ m) ns)
behind_parts [] all = tt
behind_parts (n ∷ ns) all = parts-append (44 ∷ n) (flat_map (λ (m : List ℕ). 44 ∷ m) ns) (inr refl, digit_parts n all.0.digits) (behind_parts ns all.1)

parted_parts : (ns : List (List ℕ)) → AreNumerals ns → AreParts (parted ns)
parted_parts [] all = tt
parted_parts (n ∷ ns) all = parts-append n (flat_map (λ (m : List ℕ). 44 ∷ m) ns) (digit_parts n all.0.digits) (behind_parts ns all.1)

parts_word : (bytes : List ℕ) → AreParts bytes → IsWord bytes
parts_word [] all = tt
parts_word (b ∷ bytes) all = (part_visible b all.0, parts_word bytes all.1)

parts_no_feed : (bytes : List ℕ) → AreParts bytes → NoFeed bytes
parts_no_feed [] all = tt
parts_no_feed (b ∷ bytes) all = (part_no_feed b all.0, parts_no_feed bytes all.1)

parts_no_return : (bytes : List ℕ) → AreParts bytes → NoReturn bytes
parts_no_return [] all = tt
parts_no_return (b ∷ bytes) all = (part_no_return b all.0, parts_no_return bytes all.1)

-- ---- numbers

zero_more : (n v : ℕ) (word : List ℕ) → length word < 20 → number_of word ≡ Some v → number_of (48 ∷ word) ≡ Some v
unfolding number_of
zero_more n v word short is =
    let test : (nat_lt 0 (length (48 ∷ word)) && nat_le (length (48 ∷ word)) 20) ≡ true = grind (arith, nat_tests) in
    ap (λ b. if b then digits_from 0 (48 ∷ word) else None) test ∙ was_digits (nat_lt 0 (length word) && nat_le (length word) 20) word v is
  where
    was_digits : (b : Bool) (word : List ℕ) (v : ℕ) → (if b then digits_from 0 word else None) ≡ Some v → digits_from 0 word ≡ Some v
    was_digits true word v is = is
    was_digits false word v is = absurd cc

both_none : (b : Bool) (o : Option ℕ) → o ≡ None → (if b then o else None) ≡ None
both_none true o none = none
both_none false o none = refl

comma_none : (k : ℕ) (word more : List ℕ) → digits_from k (word ++ (44 ∷ more)) ≡ None
comma_none k [] more = refl
comma_none k (b ∷ word) more = both_none (is_digit b && nat_lt (k * 10 + (b - 48)) (2 ^ 64)) _ (comma_none (k * 10 + (b - 48)) word more)

no_number : (word more : List ℕ) → number_of (word ++ (44 ∷ more)) ≡ None
unfolding number_of
no_number word more = both_none _ _ (comma_none 0 word more)

-- ---- masks

abbrev tail_text : List (List ℕ) → List ℕ
tail_text ns = flat_map (λ (m : List ℕ). 44 ∷ m) ns

digit_no_comma : (b : ℕ) → is_digit b ≡ true → is_comma b ≡ false
digit_no_comma b e = grind (arith, nat_tests)

no_comma : (n : List ℕ) → Digits n → (k d : ℕ) → k < length n → is_comma (get_or n k d) ≡ false
no_comma [] all k d less = absurd (omega arith)
no_comma (b ∷ n) all zero d less = digit_no_comma b all.0
no_comma (b ∷ n) all (suc k) d less = no_comma n all.1 k d (omega arith)

pub split_parted : (n : List ℕ) (ns : List (List ℕ)) → AreNumerals (n ∷ ns) → slice_split is_comma (parted (n ∷ ns)) ≡ n ∷ ns
split_parted n [] all =
    ap (slice_split is_comma) (append-nil n) ∙ slice_split_none is_comma n (λ k d less. no_comma n all.0.digits k d less)
split_parted n (m ∷ ns) all =
    slice_split_at is_comma n 44 (parted (m ∷ ns)) (λ k d less. no_comma n all.0.digits k d less) refl
    ∙ ap (λ xs. n ∷ xs) (split_parted m ns all.1)

cpu_zero : (n : List ℕ) (c : ℕ) → length n < 20 → cpu_of n ≡ Some c → cpu_of (48 ∷ n) ≡ Some c
unfolding cpu_of
cpu_zero n c short is =
    let s = bind_some (number_of n) (λ c. if nat_lt c 16 then Some c else None) c is in
    ap (λ o. o >>= λ c. if nat_lt c 16 then Some c else None) (zero_more 0 s.between n short s.first) ∙ s.second

from_zero : (lower higher : List (List ℕ)) (n : List ℕ) (mask all : CpuMask) → length n < 20
    → mask_from mask (lower ++ (n ∷ higher)) ≡ Some all → mask_from mask (lower ++ ((48 ∷ n) ∷ higher)) ≡ Some all
from_zero [] higher n mask all short is =
    let s = bind_some (cpu_of n) (λ c. mask_from (mask_with mask c) higher) all is in
    ap (λ o. o >>= λ c. mask_from (mask_with mask c) higher) (cpu_zero n s.between short s.first) ∙ s.second
from_zero (m ∷ lower) higher n mask all short is =
    let s = bind_some (cpu_of m) (λ c. mask_from (mask_with mask c) (lower ++ (n ∷ higher))) all is in
    ap (λ o. o >>= λ c. mask_from (mask_with mask c) (lower ++ ((48 ∷ n) ∷ higher))) s.first
    ∙ from_zero lower higher n (mask_with mask s.between) all short s.second

or_turned : (a b c : ℕ) → bit_or (bit_or a b) c ≡ bit_or (bit_or a c) b
or_turned a b c = same_from_bits (bit_or (bit_or a b) c) (bit_or (bit_or a c) b)
    (λ k. grind (arith, bit_at_or (bit_or a b) c k, bit_at_or a b k, bit_at_or (bit_or a c) b k, bit_at_or a c k))

with_turned : (mask : CpuMask) (c d : ℕ) → mask_with (mask_with mask d) c ≡ mask_with (mask_with mask c) d
with_turned mask c d =
    ap (λ (bits : ℕ). let m : CpuMask = record { bits = bits } in m) (or_turned mask.bits (2 ^ d) (2 ^ c))

from_turned : (lower higher : List (List ℕ)) (a b : List ℕ) (mask all : CpuMask)
    → mask_from mask (lower ++ (a ∷ (b ∷ higher))) ≡ Some all → mask_from mask (lower ++ (b ∷ (a ∷ higher))) ≡ Some all
from_turned [] higher a b mask all is =
    let s = bind_some (cpu_of a) (λ c. mask_from (mask_with mask c) (b ∷ higher)) all is in
    let t = bind_some (cpu_of b) (λ c. mask_from (mask_with (mask_with mask s.between) c) higher) all s.second in
    ap (λ o. o >>= λ c. mask_from (mask_with mask c) (a ∷ higher)) t.first
    ∙ ap (λ o. o >>= λ c. mask_from (mask_with (mask_with mask t.between) c) higher) s.first
    ∙ ap (λ (m : CpuMask). mask_from m higher) (with_turned mask s.between t.between) ∙ t.second
from_turned (m ∷ lower) higher a b mask all is =
    let s = bind_some (cpu_of m) (λ c. mask_from (mask_with mask c) (lower ++ (a ∷ (b ∷ higher)))) all is in
    ap (λ o. o >>= λ c. mask_from (mask_with mask c) (lower ++ (b ∷ (a ∷ higher)))) s.first
    ∙ from_turned lower higher a b (mask_with mask s.between) all s.second

-- ---- words of numerals

-- a digit is the first byte
abbrev StartsDigit : List ℕ → Type 0
StartsDigit [] = ⊥
StartsDigit (b ∷ bytes) = is_digit b ≡ true

numeral_starts : (n more : List ℕ) → IsNumeral n → StartsDigit (n ++ more)
numeral_starts [] more is = let some = is.some in absurd (omega arith)
numeral_starts (b ∷ n) more is = is.digits.0

parted_starts : (n : List ℕ) (ns : List (List ℕ)) → AreNumerals (n ∷ ns) → StartsDigit (parted (n ∷ ns))
parted_starts n ns all = numeral_starts n (tail_text ns) all.0

not_dash : (word : List ℕ) → StartsDigit word → bytes_eq word (codes "-") ≡ false
not_dash [] starts = absurd starts
not_dash (b ∷ word) starts = let no : (b == 45) ≡ false = grind (arith, nat_tests, starts) in rw no refl

not_direct : (word : List ℕ) → StartsDigit word → bytes_eq word (codes "direct") ≡ false
not_direct [] starts = absurd starts
not_direct (b ∷ word) starts = let no : (b == 100) ≡ false = grind (arith, nat_tests, starts) in rw no refl

not_list : (word : List ℕ) → StartsDigit word → bytes_eq word (codes "list") ≡ false
not_list [] starts = absurd starts
not_list (b ∷ word) starts = let no : (b == 108) ≡ false = grind (arith, nat_tests, starts) in rw no refl

no_by_list : (word : List ℕ) → StartsDigit word → by_list_of word ≡ None
unfolding by_list_of
no_by_list word starts = rw (not_direct word starts, not_list word starts) refl

mask_is : (word : List ℕ) → StartsDigit word → mask_of word ≡ listed_mask_of word
unfolding mask_of
mask_is word starts = ap (λ b. if b then Some no_cpus else listed_mask_of word) (not_dash word starts)

at_is : (word : List ℕ) → StartsDigit word → at_of word ≡ (number_of word >>= λ c. if nat_lt c (2 ^ 32) then Some (Some c) else None)
unfolding at_of
at_is word starts = ap (λ b. if b then Some None else number_of word >>= λ c. if nat_lt c (2 ^ 32) then Some (Some c) else None) (not_dash word starts)

none_some : {A : Type 0} (o : Option A) (x : A) → o ≡ None → o ≡ Some x → ⊥
none_some o x none some = cc

-- two words that begin with digits are alike where their numbers and their masks are
digits_alike : (word word' : List ℕ) → StartsDigit word → StartsDigit word' → ((n : ℕ) → number_of word ≡ Some n → number_of word' ≡ Some n)
    → ((mask : CpuMask) → listed_mask_of word ≡ Some mask → listed_mask_of word' ≡ Some mask) → AlikeWord word word'
digits_alike word word' starts starts' numbers masks = record {
  number = numbers;
  by_list = λ b is. absurd (none_some (by_list_of word) b (no_by_list word starts) is);
  mask = λ m is. mask_is word' starts' ∙ masks m (sym (mask_is word starts) ∙ is);
  at = λ a is.
      let s = bind_some (number_of word) (λ c. if nat_lt c (2 ^ 32) then Some (Some c) else None) a (sym (at_is word starts) ∙ is) in
      at_is word' starts' ∙ ap (λ o. o >>= λ c. if nat_lt c (2 ^ 32) then Some (Some c) else None) (numbers s.between s.first) ∙ s.second;
}

listed_is : (n : List ℕ) (ns : List (List ℕ)) → AreNumerals (n ∷ ns) → listed_mask_of (parted (n ∷ ns)) ≡ mask_from no_cpus (n ∷ ns)
unfolding listed_mask_of
listed_is n ns all = ap (mask_from no_cpus) (split_parted n ns all)

some_listed : (ns : List (List ℕ)) → 0 < length ns → AreNumerals ns → listed_mask_of (parted ns) ≡ mask_from no_cpus ns
some_listed [] some all = absurd (omega arith)
some_listed (n ∷ ns) some all = listed_is n ns all

some_starts : (ns : List (List ℕ)) → 0 < length ns → AreNumerals ns → StartsDigit (parted ns)
some_starts [] some all = absurd (omega arith)
some_starts (n ∷ ns) some all = parted_starts n ns all

-- a word of two numerals or more is no number
two_no_number : (n m : List ℕ) (ns : List (List ℕ)) → number_of (parted (n ∷ (m ∷ ns))) ≡ None
two_no_number n m ns = no_number n (m ++ tail_text ns)

numerals_zero : (lower higher : List (List ℕ)) (n : List ℕ) → AreNumerals (lower ++ (n ∷ higher)) → AreNumerals (lower ++ ((48 ∷ n) ∷ higher))
numerals_zero [] higher n all = (record { some = omega arith; digits = (refl, all.0.digits) }, all.1)
numerals_zero (m ∷ lower) higher n all = (all.0, numerals_zero lower higher n all.1)

numerals_turned : (lower higher : List (List ℕ)) (a b : List ℕ) → AreNumerals (lower ++ (a ∷ (b ∷ higher))) → AreNumerals (lower ++ (b ∷ (a ∷ higher)))
numerals_turned [] higher a b all = (all.1.0, (all.0, all.1.1))
numerals_turned (m ∷ lower) higher a b all = (all.0, numerals_turned lower higher a b all.1)

number_zero : (lower higher : List (List ℕ)) (n : List ℕ) (v : ℕ) → length n < 20
    → number_of (parted (lower ++ (n ∷ higher))) ≡ Some v → number_of (parted (lower ++ ((48 ∷ n) ∷ higher))) ≡ Some v
number_zero [] [] n v short is =
    let same : number_of n ≡ Some v = sym (ap number_of (append-nil n)) ∙ is in
    ap number_of (append-nil (48 ∷ n)) ∙ zero_more 0 v n short same
number_zero [] (m ∷ higher) n v short is = absurd (none_some _ v (two_no_number n m higher) is)
number_zero (m ∷ []) higher n v short is = absurd (none_some _ v (two_no_number m n higher) is)
number_zero (m ∷ (k ∷ lower)) higher n v short is = absurd (none_some _ v (two_no_number m k (lower ++ (n ∷ higher))) is)

number_turned : (lower higher : List (List ℕ)) (a b : List ℕ) (v : ℕ)
    → number_of (parted (lower ++ (a ∷ (b ∷ higher)))) ≡ Some v → number_of (parted (lower ++ (b ∷ (a ∷ higher)))) ≡ Some v
number_turned [] higher a b v is = absurd (none_some _ v (two_no_number a b higher) is)
number_turned (m ∷ []) higher a b v is = absurd (none_some _ v (two_no_number m a (b ∷ higher)) is)
number_turned (m ∷ (k ∷ lower)) higher a b v is = absurd (none_some _ v (two_no_number m k (lower ++ (a ∷ (b ∷ higher)))) is)

zero_alike : (lower higher : List (List ℕ)) (n : List ℕ) → AreNumerals (lower ++ (n ∷ higher)) → length n < 20
    → AlikeWord (parted (lower ++ (n ∷ higher))) (parted (lower ++ ((48 ∷ n) ∷ higher)))
zero_alike lower higher n all short =
    let all' = numerals_zero lower higher n all in
    let some : 0 < length (lower ++ (n ∷ higher)) = omega (arith, length-append lower (n ∷ higher)) in
    let some' : 0 < length (lower ++ ((48 ∷ n) ∷ higher)) = omega (arith, length-append lower ((48 ∷ n) ∷ higher)) in
    digits_alike _ _ (some_starts _ some all) (some_starts _ some' all') (λ v is. number_zero lower higher n v short is)
    (λ m is. some_listed _ some' all' ∙ from_zero lower higher n no_cpus m short (sym (some_listed _ some all) ∙ is))

turned_alike : (lower higher : List (List ℕ)) (a b : List ℕ) → AreNumerals (lower ++ (a ∷ (b ∷ higher)))
    → AlikeWord (parted (lower ++ (a ∷ (b ∷ higher)))) (parted (lower ++ (b ∷ (a ∷ higher))))
turned_alike lower higher a b all =
    let all' = numerals_turned lower higher a b all in
    let some : 0 < length (lower ++ (a ∷ (b ∷ higher))) = omega (arith, length-append lower (a ∷ (b ∷ higher))) in
    let some' : 0 < length (lower ++ (b ∷ (a ∷ higher))) = omega (arith, length-append lower (b ∷ (a ∷ higher))) in
    digits_alike _ _ (some_starts _ some all) (some_starts _ some' all') (λ v is. number_turned lower higher a b v is)
    (λ m is. some_listed _ some' all' ∙ from_turned lower higher a b no_cpus m (sym (some_listed _ some all) ∙ is))

-- ---- lines with a word of numerals behind a blank

-- a word that is there, and stands behind a blank
record IsWordThere (b : ℕ) (w rest : List ℕ) : Type 0 where
  next_is : next (b ∷ (w ++ rest)) ≡ (w, rest)
  test : (gap_len (b ∷ (w ++ rest)) == length (b ∷ (w ++ rest))) ≡ false

word_there : (b : ℕ) (w rest : List ℕ) → is_blank b ≡ true → 0 < length w → IsWord w → IsTail rest → IsWordThere b w rest
word_there b [] rest blank some word tail = absurd (omega arith)
word_there b (c ∷ w) rest blank some word tail =
    let text = (c ∷ w) ++ rest in
    let gap : gap_len text ≡ 0 = gap_other c (w ++ rest) word.0 in
    let long = word_of (c ∷ w) rest word tail in
    record {
      next_is = next_blank b text blank ∙ ap (λ n. word_at (drop n text)) gap ∙ ap (λ n. (take n text, drop n text)) long
          ∙ ap (λ (x : List ℕ). (x, drop (length (c ∷ w)) text)) (take_front (c ∷ w) rest) ∙ ap (λ (x : List ℕ). (c ∷ w, x)) (drop_front (c ∷ w) rest);
      test = ap (λ n. n == length (b ∷ text)) (gap_blank b text blank ∙ ap suc gap) ∙ other_test 1 (length (b ∷ text)) (λ e. omega (arith, e));
    }

words_alike : (b : ℕ) (w w' rest : List ℕ) → is_blank b ≡ true → 0 < length w → 0 < length w' → IsWord w → IsWord w' → IsTail rest
    → AlikeWord w w' → EndsAlike b b (w ++ rest) (w' ++ rest)
words_alike b w w' rest blank some some' word word' tail alike =
    let one = word_there b w rest blank some word tail in
    let two = word_there b w' rest blank some' word' tail in
    record {
      blank = blank;
      blank' = blank;
      test = one.test ∙ sym two.test;
      next = record {
        words = subst (λ (x : List ℕ × List ℕ). AlikeWord x.0 (next (b ∷ (w' ++ rest))).0) (sym one.next_is)
            (subst (λ (x : List ℕ × List ℕ). AlikeWord w x.0) (sym two.next_is) alike);
        rests = equal _ _ (ap (λ (x : List ℕ × List ℕ). x.1) one.next_is ∙ sym (ap (λ (x : List ℕ × List ℕ). x.1) two.next_is));
      };
    }

-- what is left of the line behind a word
record WordEnd (bytes : List ℕ) : Type 0 where
  line : List ℕ
  others : List (List ℕ)
  is : slice_split is_feed bytes ≡ line ∷ others
  tail : IsTail (strip line)

strip_nil : strip [] ≡ []
unfolding content_len
strip_nil = refl

word_end : (bytes : List ℕ) → EndsWord bytes → WordEnd bytes
word_end [] ends = record { line = []; others = []; is = refl; tail = subst IsTail (sym strip_nil) tt }
word_end (b ∷ bytes) (inl blank) =
    let first = first_line bytes in
    record {
      line = b ∷ first.line;
      others = first.others;
      is = split_behind (b ∷ []) bytes first.line first.others (blank_no_feed b blank, tt) first.is;
      tail = subst IsTail (sym (strip-behind (b ∷ []) first.line (blank_no_return b blank, tt))) blank;
    }
word_end (b ∷ bytes) (inr ends) =
    let end = line_end (b ∷ bytes) ends in
    record {
      line = end.returns;
      others = end.others;
      is = end.is;
      tail = subst IsTail (sym (strip-returns [] end.returns end.all ∙ strip_nil)) tt;
    }

words_free : (b : ℕ) (w w' rest : List ℕ) → is_blank b ≡ true → 0 < length w → 0 < length w' → AreParts w → AreParts w' → IsTail (strip rest)
    → AlikeWord w w' → TakesPlaceOf (b ∷ (w ++ rest)) (b ∷ (w' ++ rest))
words_free b w w' rest blank some some' parts parts' tail alike p q front is =
    let one : strip (front ++ (b ∷ (w ++ rest))) ≡ front ++ (b ∷ (w ++ strip rest))
    = content_of_end front b (w ++ rest) (blank_no_return b blank) ∙ ap (λ x. front ++ (b ∷ x)) (strip-behind w rest (parts_no_return w parts)) in
    let two : strip (front ++ (b ∷ (w' ++ rest))) ≡ front ++ (b ∷ (w' ++ strip rest))
    = content_of_end front b (w' ++ rest) (blank_no_return b blank) ∙ ap (λ x. front ++ (b ∷ x)) (strip-behind w' rest (parts_no_return w' parts')) in
    let said : content_after p (front ++ (b ∷ (w ++ strip rest))) ≡ Some q
    = ap (content_after p) (sym one) ∙ sym (line_is_content p (front ++ (b ∷ (w ++ rest)))) ∙ is in
    line_is_content p (front ++ (b ∷ (w' ++ rest))) ∙ ap (content_after p) two
    ∙ ends_alike p q front b b (w ++ strip rest) (w' ++ strip rest) (words_alike b w w' (strip rest) blank some some' (parts_word w parts) (parts_word w' parts') tail alike) said

-- a text in which a word of numerals is spelled otherwise
respelled : (before after w w' : List ℕ) (b : ℕ) (j : History) → is_blank b ≡ true → 0 < length w → 0 < length w' → AreParts w → AreParts w' → EndsWord after
    → AlikeWord w w' → length (before ++ (b ∷ (w' ++ after))) ≤ byte_limit → reading (before ++ (b ∷ (w ++ after))) ≡ Ok j → reading (before ++ (b ∷ (w' ++ after))) ≡ Ok j
respelled before after w w' b j blank some some' parts parts' ends alike short read =
    let end = word_end after ends in
    let one = split_behind (b ∷ w) after end.line end.others (blank_no_feed b blank, parts_no_feed w parts) end.is in
    let two = split_behind (b ∷ w') after end.line end.others (blank_no_feed b blank, parts_no_feed w' parts') end.is in
    change_read before (b ∷ (w ++ after)) (b ∷ (w' ++ after)) (b ∷ (w ++ end.line)) (b ∷ (w' ++ end.line)) end.others j one two
    (words_free b w w' end.line blank some some' parts parts' end.tail alike) short read

starts_some : (word : List ℕ) → StartsDigit word → 0 < length word
starts_some [] starts = absurd starts
starts_some (b ∷ word) starts = omega arith

pub more_zeros : (bytes bytes' : List ℕ) (j : History) → HasMoreZeros bytes bytes' → length bytes' ≤ byte_limit → reading bytes ≡ Ok j → reading bytes' ≡ Ok j
more_zeros bytes bytes' j h short read =
    let all = h.numerals in
    let all' = numerals_zero h.lower h.higher h.numeral all in
    let some : 0 < length (h.lower ++ (h.numeral ∷ h.higher)) = omega (arith, length-append h.lower (h.numeral ∷ h.higher)) in
    let some' : 0 < length (h.lower ++ ((48 ∷ h.numeral) ∷ h.higher)) = omega (arith, length-append h.lower ((48 ∷ h.numeral) ∷ h.higher)) in
    ap reading h.with
    ∙ respelled h.before h.after (parted (h.lower ++ (h.numeral ∷ h.higher))) (parted (h.lower ++ ((48 ∷ h.numeral) ∷ h.higher))) h.blank j h.blank_is
    (starts_some _ (some_starts _ some all)) (starts_some _ (some_starts _ some' all')) (parted_parts _ all) (parted_parts _ all') h.ends
    (zero_alike h.lower h.higher h.numeral all h.short) (subst (λ (x : List ℕ). length x ≤ byte_limit) h.with short) (ap reading (sym h.without) ∙ read)

pub other_order : (bytes bytes' : List ℕ) (j : History) → HasOtherOrder bytes bytes' → length bytes' ≤ byte_limit → reading bytes ≡ Ok j → reading bytes' ≡ Ok j
other_order bytes bytes' j h short read =
    let all = h.numerals in
    let all' = numerals_turned h.lower h.higher h.first h.second all in
    let some : 0 < length (h.lower ++ (h.first ∷ (h.second ∷ h.higher))) = omega (arith, length-append h.lower (h.first ∷ (h.second ∷ h.higher))) in
    let some' : 0 < length (h.lower ++ (h.second ∷ (h.first ∷ h.higher))) = omega (arith, length-append h.lower (h.second ∷ (h.first ∷ h.higher))) in
    ap reading h.with
    ∙ respelled h.before h.after (parted (h.lower ++ (h.first ∷ (h.second ∷ h.higher)))) (parted (h.lower ++ (h.second ∷ (h.first ∷ h.higher)))) h.blank j h.blank_is
    (starts_some _ (some_starts _ some all)) (starts_some _ (some_starts _ some' all')) (parted_parts _ all) (parted_parts _ all') h.ends
    (turned_alike h.lower h.higher h.first h.second all) (subst (λ (x : List ℕ). length x ≤ byte_limit) h.with short) (ap reading (sym h.without) ∙ read)
