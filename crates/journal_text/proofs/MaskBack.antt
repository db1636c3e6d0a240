-- A mask that is written is read.
use Rattle.std.proofs.Common.{◌≡◌, ℕ, ◌^◌, ◌<◌, ◌⊎◌, ◌↔◌, Bool, true, false, nat_lt, nat_eq, lit<, eq-eqb, eqb-true, List, [], ◌∷◌, ◌++◌, Some, None, length, get_or, ap, sym, ◌∙◌, refl, arith, subst}
use Rattle.std.proofs.Common.{inl, inr, if◌then◌else◌, map, bit_or, filter}
use Rattle.std.specs.Fmt.{decimal}
use Rattle.std.specs.Int.{bit_at}
use Rattle.std.specs.List.{flat_map, slice_split, AllPass}
use Rattle.std.specs.Prelude.{codes}
use Rattle.std.specs.Str.{bytes_eq}
use Rattle.std.proofs.lemmas.Bool.{false≢true}
use Rattle.std.proofs.lemmas.Bool.Decides.{nat_tests}
use Rattle.std.proofs.lemmas.Fmt.{decimal_nonempty}
use Rattle.std.proofs.lemmas.List.{append-nil, length-append}
use Rattle.std.proofs.lemmas.List.Elements.{All-append}
use Rattle.std.proofs.lemmas.List.Sums.{AllPass-from_list_all}
use Rattle.std.proofs.lemmas.List.Splits.{slice_split_at, slice_split_none}
use Rattle.handoff_data.proofs.Bits.{bits_with, shifted_one, same_members, zero_none}
use Rattle.handoff_data.specs.declared.mask.CpuMask.{CpuMask}
use Rattle.handoff_data.specs.Mask.{HasCpu, has_cpu, mask_with, no_cpus}
use Rattle.journal_text.specs.Entries.{is_comma, cpu_of, mask_from, listed_mask_of, mask_of}
use Rattle.journal_text.specs.Fields.{◌>>=◌, is_digit}
use Rattle.journal_text.specs.Spelling.{all_cpus, members, listed_cpus, behind_comma, mask_text}
use Rattle.journal_text.proofs.Digits.{AreDigits, decimal_digits}
use Rattle.journal_text.proofs.Readback.{number_decimal, IsWord, IsWord-append, word_from_digits}

-- the mask with all these processors as well
mask_all : CpuMask → List ℕ → CpuMask
mask_all mask [] = mask
mask_all mask (c ∷ cs) = mask_all (mask_with mask c) cs

-- each is the number of a processor
abbrev AreCpus : List ℕ → Type 0
AreCpus [] = Unit {0}
AreCpus (c ∷ cs) = (c < 16) × AreCpus cs

digit_no_comma : (b : ℕ) → is_digit b ≡ true → is_comma b ≡ false
digit_no_comma b e = grind (arith, nat_tests)

no_commas : (n : ℕ) → n < 2 ^ 64 → (k d : ℕ) → k < length (decimal n) → is_comma (get_or (decimal n) k d) ≡ false
no_commas n fits k d less = digit_no_comma _ (decimal_digits n fits k d less)

split_listed : (c : ℕ) (cs : List ℕ) → c < 16 → AreCpus cs
    → slice_split is_comma (decimal c ++ flat_map behind_comma cs) ≡ decimal c ∷ map decimal cs
split_listed c [] small all =
    ap (slice_split is_comma) (append-nil (decimal c)) ∙ slice_split_none is_comma (decimal c) (no_commas c (omega arith))
split_listed c (d ∷ ds) small all =
    slice_split_at is_comma (decimal c) 44 (decimal d ++ flat_map behind_comma ds) (no_commas c (omega arith)) refl
    ∙ ap (λ parts. decimal c ∷ parts) (split_listed d ds all.0 all.1)

cpu_decimal : (c : ℕ) → c < 16 → cpu_of (decimal c) ≡ Some c
unfolding cpu_of
cpu_decimal c small =
    let test : nat_lt c 16 ≡ true = grind (arith, nat_tests) in
    ap (λ o. o >>= λ c. if nat_lt c 16 then Some c else None) (number_decimal c (omega arith)) ∙ ap (λ b. if b then Some c else None) test

mask_listed : (mask : CpuMask) (cs : List ℕ) → AreCpus cs → mask_from mask (map decimal cs) ≡ Some (mask_all mask cs)
unfolding mask_all
mask_listed mask [] all = refl
mask_listed mask (c ∷ cs) all =
    ap (λ o. o >>= λ c. mask_from (mask_with mask c) (map decimal cs)) (cpu_decimal c all.0) ∙ mask_listed (mask_with mask c) cs all.1

-- c is one of these
abbrev Among : ℕ → List ℕ → Type 0
Among c [] = ⊥
Among c (d ∷ ds) = (c ≡ d) ⊎ Among c ds

has_with : (mask : CpuMask) (c k : ℕ) → c < 16 → HasCpu (mask_with mask c) k ↔ (HasCpu mask k ⊎ (k ≡ c))
has_with mask c k small =
    let b : (bit_at (bit_or mask.bits (2 ^ c)) k ≡ 1) ↔ ((bit_at mask.bits k ≡ 1) ⊎ (k ≡ c))
    = subst (λ (n : ℕ). (bit_at (bit_or mask.bits n) k ≡ 1) ↔ ((bit_at mask.bits k ≡ 1) ⊎ (k ≡ c))) (shifted_one c (omega arith)) (bits_with mask.bits c k small) in (
      λ h. elim (b.0 h.bit) [ inl old ↦ inl (record { bit = old }) | inr new ↦ inr new ],
      λ e. record { bit = b.1 (elim e [ inl old ↦ inl old.bit | inr new ↦ inr new ]) },
    )

has_from_test : (of : CpuMask) (c k : ℕ) → has_cpu of c ≡ true → k ≡ c → HasCpu of k
has_from_test of c k e same = record { bit = subst (λ (n : ℕ). bit_at of.bits n ≡ 1) (sym same) (eqb-true (bit_at of.bits c) 1 e) }

test_from_has : (of : CpuMask) (c k : ℕ) → HasCpu of k → k ≡ c → has_cpu of c ≡ true
test_from_has of c k h same = eq-eqb (bit_at of.bits c) 1 (subst (λ (n : ℕ). bit_at of.bits n ≡ 1) same h.bit)

kept_if : (of mask : CpuMask) (c : ℕ) (rest : List ℕ) (k : ℕ) (b : Bool) → has_cpu of c ≡ b → c < 16
    → (HasCpu (mask_all (mask_with mask c) rest) k → HasCpu (mask_with mask c) k ⊎ HasCpu of k)
    → (HasCpu (mask_all mask rest) k → HasCpu mask k ⊎ HasCpu of k)
    → HasCpu (mask_all mask (if b then c ∷ rest else rest)) k → HasCpu mask k ⊎ HasCpu of k
unfolding mask_all
kept_if of mask c rest k true e small on off h =
    elim (on h) [
      | inl was ↦ elim ((has_with mask c k small).0 was) [ inl old ↦ inl old | inr same ↦ inr (has_from_test of c k e same) ]
      | inr has ↦ inr has
    ]
kept_if of mask c rest k false e small on off h = off h

-- the mask with the listed members of a mask has what was there, and those members alone
kept : (of mask : CpuMask) (cs : List ℕ) (k : ℕ) → AreCpus cs → HasCpu (mask_all mask (filter (λ c. has_cpu of c) cs)) k → HasCpu mask k ⊎ HasCpu of k
unfolding mask_all
kept of mask [] k all h = inl h
kept of mask (c ∷ cs) k all h =
    kept_if of mask c (filter (λ c. has_cpu of c) cs) k (has_cpu of c) refl all.0 (kept of (mask_with mask c) cs k all.1) (kept of mask cs k all.1) h

has_if : (of mask : CpuMask) (c : ℕ) (cs rest : List ℕ) (k : ℕ) (b : Bool) → has_cpu of c ≡ b → c < 16
    → (HasCpu (mask_with mask c) k ⊎ (Among k cs × HasCpu of k) → HasCpu (mask_all (mask_with mask c) rest) k)
    → (HasCpu mask k ⊎ (Among k cs × HasCpu of k) → HasCpu (mask_all mask rest) k)
    → HasCpu mask k ⊎ (Among k (c ∷ cs) × HasCpu of k) → HasCpu (mask_all mask (if b then c ∷ rest else rest)) k
unfolding mask_all
has_if of mask c cs rest k true e small on off h =
    on (elim h [
      | inl old ↦ inl ((has_with mask c k small).1 (inl old))
      | inr x ↦ elim x.0 [ inl same ↦ inl ((has_with mask c k small).1 (inr same)) | inr among ↦ inr (among, x.1) ]
    ])
has_if of mask c cs rest k false e small on off h =
    off (elim h [
      | inl old ↦ inl old
      | inr x ↦ elim x.0 [ inl same ↦ absurd (false≢true (sym e ∙ test_from_has of c k x.1 same)) | inr among ↦ inr (among, x.1) ]
    ])

-- all of them
has_all : (of mask : CpuMask) (cs : List ℕ) (k : ℕ) → AreCpus cs → HasCpu mask k ⊎ (Among k cs × HasCpu of k) → HasCpu (mask_all mask (filter (λ c. has_cpu of c) cs)) k
unfolding mask_all
has_all of mask [] k all h = elim h [ inl old ↦ old | inr x ↦ absurd x.0 ]
has_all of mask (c ∷ cs) k all h =
    has_if of mask c cs (filter (λ c. has_cpu of c) cs) k (has_cpu of c) refl all.0 (has_all of (mask_with mask c) cs k all.1) (has_all of mask cs k all.1) h

among_all : (k : ℕ) → k < 16 → Among k all_cpus
among_all k small = grind arith

are_cpus_if : (b : Bool) (c : ℕ) (rest : List ℕ) → c < 16 → AreCpus rest → AreCpus (if b then c ∷ rest else rest)
are_cpus_if true c rest small all = (small, all)
are_cpus_if false c rest small all = all

are_cpus : (of : CpuMask) (cs : List ℕ) → AreCpus cs → AreCpus (filter (λ c. has_cpu of c) cs)
are_cpus of [] all = tt
are_cpus of (c ∷ cs) all = are_cpus_if (has_cpu of c) c (filter (λ c. has_cpu of c) cs) all.0 (are_cpus of cs all.1)

cpus_small : AreCpus all_cpus
cpus_small =
    (lit< tt, (lit< tt, (lit< tt, (lit< tt, (lit< tt, (lit< tt, (lit< tt, (lit< tt, (lit< tt, (lit< tt, (lit< tt, (lit< tt, (lit< tt, (lit< tt, (lit< tt, (lit< tt, tt))))))))))))))))

all_members : (mask : CpuMask) → ((c : ℕ) → HasCpu mask c → c < 16) → mask_all no_cpus (members mask) ≡ mask
all_members mask small =
    same_members _ mask (λ k. (
      λ h. elim (kept mask no_cpus all_cpus k cpus_small h) [ inl none ↦ absurd (zero_none 0 k refl none.bit) | inr has ↦ has ],
      λ h. has_all mask no_cpus all_cpus k cpus_small (inr (among_all k (small k h), h)),
    ))

digit_no_dash : (b : ℕ) → is_digit b ≡ true → nat_eq b 45 ≡ false
digit_no_dash b e = grind (arith, nat_tests)

pub no_dash : (ds rest : List ℕ) → AreDigits ds → 0 < length ds → bytes_eq (ds ++ rest) (codes "-") ≡ false
no_dash [] rest all some = absurd (omega arith)
no_dash (d ∷ ds) rest all some = rw (digit_no_dash d (all 0 0 (omega arith))) refl

listed_back : (cs : List ℕ) → AreCpus cs → mask_of (listed_cpus cs) ≡ Some (mask_all no_cpus cs)
unfolding mask_of mask_all listed_mask_of
listed_back [] all = refl
listed_back (c ∷ cs) all =
    let word = decimal c ++ flat_map behind_comma cs in
    ap (λ b. if b then Some no_cpus else mask_from no_cpus (slice_split is_comma word))
    (no_dash (decimal c) (flat_map behind_comma cs) (decimal_digits c (omega (arith, all.0))) (decimal_nonempty c (omega (arith, all.0))))
    ∙ ap (mask_from no_cpus) (split_listed c cs all.0 all.1) ∙ mask_listed no_cpus (c ∷ cs) all

pub mask_back : (mask : CpuMask) → ((c : ℕ) → HasCpu mask c → c < 16) → mask_of (mask_text mask) ≡ Some mask
unfolding mask_text
mask_back mask small =
    listed_back (members mask) (are_cpus mask all_cpus cpus_small) ∙ ap (λ (m : CpuMask). Some m) (all_members mask small)

commas_word : (cs : List ℕ) → AreCpus cs → IsWord (flat_map behind_comma cs)
commas_word [] all = tt
commas_word (c ∷ cs) all =
    (refl, IsWord-append (decimal c) (flat_map behind_comma cs) (word_from_digits (decimal c) (decimal_digits c (omega (arith, all.0)))) (commas_word cs all.1))

listed_word : (cs : List ℕ) → AreCpus cs → IsWord (listed_cpus cs)
listed_word [] all = (refl, tt)
listed_word (c ∷ cs) all =
    IsWord-append (decimal c) (flat_map behind_comma cs) (word_from_digits (decimal c) (decimal_digits c (omega (arith, all.0)))) (commas_word cs all.1)

listed_some : (cs : List ℕ) → AreCpus cs → 0 < length (listed_cpus cs)
listed_some [] all = omega arith
listed_some (c ∷ cs) all =
    let some : 0 < length (decimal c) = decimal_nonempty c (omega (arith, all.0)) in
    omega (arith, some, length-append (decimal c) (flat_map behind_comma cs))

pub mask_word : (mask : CpuMask) → IsWord (mask_text mask)
unfolding mask_text
mask_word mask = listed_word (members mask) (are_cpus mask all_cpus cpus_small)

pub mask_some : (mask : CpuMask) → 0 < length (mask_text mask)
unfolding mask_text
mask_some mask = listed_some (members mask) (are_cpus mask all_cpus cpus_small)

digit_plain : (b : ℕ) → is_digit b ≡ true → nat_lt 13 b ≡ true
digit_plain b e = grind (arith, nat_tests)

commas_plain : (cs : List ℕ) → AreCpus cs → AllPass (λ b. nat_lt 13 b) (flat_map behind_comma cs)
commas_plain [] all = AllPass-from_list_all (λ b. nat_lt 13 b) [] refl
commas_plain (c ∷ cs) all =
    All-append (λ b. nat_lt 13 b ≡ true) (44 ∷ decimal c) (flat_map behind_comma cs)
    (All-append (λ b. nat_lt 13 b ≡ true) (44 ∷ []) (decimal c) (AllPass-from_list_all (λ b. nat_lt 13 b) (44 ∷ []) refl)
    (λ k d less. digit_plain _ (decimal_digits c (omega (arith, all.0)) k d less)))
    (commas_plain cs all.1)

listed_plain : (cs : List ℕ) → AreCpus cs → AllPass (λ b. nat_lt 13 b) (listed_cpus cs)
listed_plain [] all = AllPass-from_list_all (λ b. nat_lt 13 b) (codes "-") refl
listed_plain (c ∷ cs) all =
    All-append (λ b. nat_lt 13 b ≡ true) (decimal c) (flat_map behind_comma cs)
    (λ k d less. digit_plain _ (decimal_digits c (omega (arith, all.0)) k d less)) (commas_plain cs all.1)

-- its bytes are above the line feed and the carriage return
pub mask_plain : (mask : CpuMask) → AllPass (λ b. nat_lt 13 b) (mask_text mask)
unfolding mask_text
mask_plain mask = listed_plain (members mask) (are_cpus mask all_cpus cpus_small)
