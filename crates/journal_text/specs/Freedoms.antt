-- The reader's freedoms: in what texts of journals may differ and still say the same. Each is one small change at one
-- place of a text.
use Rattle.std.specs.Prelude.{◌≡◌, ◌⊎◌, ◌<◌, ◌≤◌, ℕ, true, List, Ok, [], ◌∷◌, ◌++◌, length}
use Rattle.std.specs.List.{AllByRecursion, flat_map}
use Rattle.handoff_data.specs.History.{History}
use Rattle.journal_text.specs.Fields.{is_blank, is_digit}
use Rattle.journal_text.specs.Text.{byte_limit, reading}

-- the text goes on with carriage returns, if any, and then a line feed, or its end
abbrev pub EndsLine : List ℕ → Type 0
EndsLine [] = Unit {0}
EndsLine (b ∷ bytes) = (b ≡ 10) ⊎ ((b ≡ 13) × EndsLine bytes)

-- the text goes on with a blank, or is at the end of a line
abbrev pub EndsWord : List ℕ → Type 0
EndsWord [] = Unit {0}
EndsWord (b ∷ bytes) = (is_blank b ≡ true) ⊎ EndsLine (b ∷ bytes)

-- one more blank stands before a blank
pub record HasMoreBlanks (bytes bytes' : List ℕ) : Type 0 where
  pub before : List ℕ
  pub after : List ℕ
  pub blank : ℕ
  pub more : ℕ
  pub blank_is : is_blank blank ≡ true
  pub more_is : is_blank more ≡ true
  pub without : bytes ≡ before ++ (blank ∷ after)
  pub with : bytes' ≡ before ++ (more ∷ (blank ∷ after))

-- one more carriage return stands at the end of a line
pub record HasMoreReturns (bytes bytes' : List ℕ) : Type 0 where
  pub before : List ℕ
  pub after : List ℕ
  pub ends : EndsLine after
  pub without : bytes ≡ before ++ after
  pub with : bytes' ≡ before ++ (13 ∷ after)

-- one more line of blanks stands behind a line
pub record HasMoreLines (bytes bytes' : List ℕ) : Type 0 where
  pub before : List ℕ
  pub after : List ℕ
  pub blanks : List ℕ
  pub are_blank : AllByRecursion (λ b. is_blank b ≡ true) blanks
  pub without : bytes ≡ before ++ (10 ∷ after)
  pub with : bytes' ≡ before ++ (10 ∷ (blanks ++ (10 ∷ after)))

-- a digit or more, and nothing else
pub record IsNumeral (word : List ℕ) : Type 0 where
  pub some : 0 < length word
  pub digits : AllByRecursion (λ b. is_digit b ≡ true) word

-- numerals with a comma between each two
abbrev pub parted : List (List ℕ) → List ℕ
parted [] = []
parted (n ∷ ns) = n ++ flat_map (λ m. 44 ∷ m) ns

-- one more zero stands before a numeral of fewer than 20 digits, which is a word, or one of a mask
pub record HasMoreZeros (bytes bytes' : List ℕ) : Type 0 where
  pub before : List ℕ
  pub after : List ℕ
  pub blank : ℕ
  pub blank_is : is_blank blank ≡ true
  pub lower : List (List ℕ)
  pub numeral : List ℕ
  pub higher : List (List ℕ)
  pub numerals : AllByRecursion IsNumeral (lower ++ (numeral ∷ higher))
  pub short : length numeral < 20
  pub ends : EndsWord after
  pub without : bytes ≡ before ++ (blank ∷ (parted (lower ++ (numeral ∷ higher)) ++ after))
  pub with : bytes' ≡ before ++ (blank ∷ (parted (lower ++ ((48 ∷ numeral) ∷ higher)) ++ after))

-- two neighbours of the numerals of a mask change places
pub record HasOtherOrder (bytes bytes' : List ℕ) : Type 0 where
  pub before : List ℕ
  pub after : List ℕ
  pub blank : ℕ
  pub blank_is : is_blank blank ≡ true
  pub lower : List (List ℕ)
  pub first : List ℕ
  pub second : List ℕ
  pub higher : List (List ℕ)
  pub numerals : AllByRecursion IsNumeral (lower ++ (first ∷ (second ∷ higher)))
  pub ends : EndsWord after
  pub without : bytes ≡ before ++ (blank ∷ (parted (lower ++ (first ∷ (second ∷ higher))) ++ after))
  pub with : bytes' ≡ before ++ (blank ∷ (parted (lower ++ (second ∷ (first ∷ higher))) ++ after))

-- the second text differs from the first by one of the reader's freedoms
abbrev pub DiffersByOneFreedom : List ℕ → List ℕ → Type 0
DiffersByOneFreedom bytes bytes' =
    HasMoreBlanks bytes bytes' ⊎ (HasMoreReturns bytes bytes' ⊎ (HasMoreLines bytes bytes'
    ⊎ (HasMoreZeros bytes bytes' ⊎ HasOtherOrder bytes bytes')))

-- where two texts differ so, the second says what the first says, if it is within the limit
abbrev pub ChangesNothing : (List ℕ → List ℕ → Type 0) → Type 0
ChangesNothing Differs =
    (bytes bytes' : List ℕ) (j : History) → Differs bytes bytes' → length bytes' ≤ byte_limit
    → reading bytes ≡ Ok j → reading bytes' ≡ Ok j
