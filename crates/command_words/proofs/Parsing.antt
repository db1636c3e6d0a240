-- What the parser makes of the words of options, at each way to write them.
use Rattle.std.proofs.Common.{◌≡◌, ◌≢◌, ◌≤◌, refl, sym, ℕ, true, false, true≢false, List, [], ◌∷◌, codes, Option, Some, option_map, arith}
use Rattle.std.specs.Bool.{⊤}
use Rattle.std.specs.List.{flat_map, list_any, list_all}
use Rattle.clap.specs.Words.{Row, Text, is_simple, one_of, subcommand_of, takes}
use Rattle.clap.proofs.OnLiterals.{clap_on_literals}
use Rattle.command_words.specs.Words.{Choice, workers_apart, workers_joined, with_trace, with_plain, are_single, has_number, is_plain, is_trace, is_workers, is_same}
use Rattle.command_words.specs.Written.{words_of}
use Rattle.command_words.specs.Program.{flag_text, program_app}
use Rattle.command_words.proofs.Bools.{both, from_not, neither}
use Rattle.command_words.proofs.Numbers.{IsValue, number_is_value}

pub is_simple_program : is_simple program_app ≡ true
unfolding clap_on_literals
is_simple_program = refl

-- what is read of the matches of `run`
pub record Told : Type 0 where
  pub workers : Option Text
  pub trace : Option Text
  pub plain : Option Text

abbrev pub told_of : List Row → Told
told_of rows = record {
  workers = one_of (codes "workers") rows;
  trace = one_of (codes "trace") rows;
  plain = one_of (codes "plain") rows;
}

abbrev pub told_by : Text × List Row → Text × Told
told_by p = (p.0, told_of p.1)

abbrev pub parsed : List Text → Option (Text × Told)
parsed words = option_map told_by (subcommand_of program_app words)

-- the text of the number of workers
abbrev pub number_of : List Choice → List ℕ
number_of [] = codes "4"
number_of (workers_apart text ∷ choices) = text
number_of (workers_joined text ∷ choices) = text
number_of (_ ∷ choices) = number_of choices

abbrev pub told_by_choices : List Choice → Told
told_by_choices choices = record {
  workers = Some (number_of choices);
  trace = Some (flag_text (list_any is_trace choices));
  plain = Some (flag_text (list_any is_plain choices));
}

-- the parser takes the words, and finds what the options say
abbrev pub Parses : List Text → Text → Told → Type 0
Parses words name told = (parsed words ≡ Some (name, told)) × (takes program_app words ≡ true)

-- no word that stands alone as a number looks like an option
abbrev pub HasValues : List Choice → Type 0
HasValues [] = ⊤
HasValues (workers_apart text ∷ choices) = IsValue text × HasValues choices
HasValues (_ ∷ choices) = HasValues choices

pub has_values : (choices : List Choice) → list_all has_number choices ≡ true → HasValues choices
has_values [] h = tt
has_values (workers_apart text ∷ choices) h =
    let parts = both _ _ h in
    (number_is_value text parts.0, has_values choices parts.1)
has_values (workers_joined text ∷ choices) h = has_values choices (both _ _ h).1
has_values (with_trace ∷ choices) h = has_values choices h
has_values (with_plain ∷ choices) h = has_values choices h

-- ---- there are three options

abbrev kind : Choice → ℕ
kind (workers_apart text) = 0
kind (workers_joined text) = 0
kind with_trace = 1
kind with_plain = 2

few : (a : Choice) → kind a ≤ 2
few (workers_apart text) = omega arith
few (workers_joined text) = omega arith
few with_trace = omega arith
few with_plain = omega arith

no_workers : (b : Choice) → is_workers b ≡ false → 0 ≢ kind b
no_workers (workers_apart text) e = absurd (true≢false e)
no_workers (workers_joined text) e = absurd (true≢false e)
no_workers with_trace e = λ h. omega (arith, h)
no_workers with_plain e = λ h. omega (arith, h)

no_trace : (b : Choice) → is_trace b ≡ false → 1 ≢ kind b
no_trace (workers_apart text) e = λ h. omega (arith, h)
no_trace (workers_joined text) e = λ h. omega (arith, h)
no_trace with_trace e = absurd (true≢false e)
no_trace with_plain e = λ h. omega (arith, h)

no_plain : (b : Choice) → is_plain b ≡ false → 2 ≢ kind b
no_plain (workers_apart text) e = λ h. omega (arith, h)
no_plain (workers_joined text) e = λ h. omega (arith, h)
no_plain with_trace e = λ h. omega (arith, h)
no_plain with_plain e = absurd (true≢false e)

differ : (a b : Choice) → is_same a b ≡ false → kind a ≢ kind b
differ (workers_apart text) b e = no_workers b e
differ (workers_joined text) b e = no_workers b e
differ with_trace b e = no_trace b e
differ with_plain b e = no_plain b e

no_fourth : (a b c d : Choice) (rest : List Choice) → are_single (a ∷ b ∷ c ∷ d ∷ rest) ≡ true → ⊥
no_fourth a b c d rest single =
    let of_a = from_not _ _ single in
    let ab = neither _ _ of_a.0 in
    let ac = neither _ _ ab.1 in
    let ad = neither _ _ ac.1 in
    let of_b = from_not _ _ of_a.1 in
    let bc = neither _ _ of_b.0 in
    let bd = neither _ _ bc.1 in
    let of_c = from_not _ _ of_b.1 in
    let cd = neither _ _ of_c.0 in
    pigeons (kind a) (kind b) (kind c) (kind d) (few a) (few b) (few c) (few d) (differ a b ab.0) (differ a c ac.0)
    (differ a d ad.0) (differ b c bc.0) (differ b d bd.0) (differ c d cd.0)
  where
    pigeons : (i j k l : ℕ) → i ≤ 2 → j ≤ 2 → k ≤ 2 → l ≤ 2 → i ≢ j → i ≢ k → i ≢ l → j ≢ k → j ≢ l → k ≢ l → ⊥
    pigeons i j k l p q r s ij ik il jk jl kl = grind arith

tail_single : (a : Choice) (rest : List Choice) → are_single (a ∷ rest) ≡ true → are_single rest ≡ true
tail_single a rest single = (from_not _ _ single).1

-- ---- each way to write them

pub parsing : (choices : List Choice) → HasValues choices → are_single choices ≡ true
    → Parses (codes "run" ∷ flat_map words_of choices) (codes "run") (told_by_choices choices)
unfolding clap_on_literals
parsing [] v single = (refl, refl)
parsing (with_trace ∷ []) v single = (refl, refl)
parsing (with_trace ∷ with_trace ∷ rest) v single = absurd (true≢false (sym single))
parsing (with_trace ∷ with_plain ∷ []) v single = (refl, refl)
parsing (with_trace ∷ with_plain ∷ with_trace ∷ rest) v single = absurd (true≢false (sym single))
parsing (with_trace ∷ with_plain ∷ with_plain ∷ rest) v single = absurd (true≢false (sym (tail_single with_trace (with_plain ∷ with_plain ∷ rest) single)))
parsing (with_trace ∷ with_plain ∷ workers_apart t ∷ []) v single = rw (v.0.dashes, v.0.long, v.0.short) (refl, refl)
parsing (with_trace ∷ with_plain ∷ workers_joined t ∷ []) v single = (refl, refl)
parsing (with_trace ∷ workers_apart t ∷ []) v single = rw (v.0.dashes, v.0.long, v.0.short) (refl, refl)
parsing (with_trace ∷ workers_apart t ∷ with_trace ∷ rest) v single = absurd (true≢false (sym single))
parsing (with_trace ∷ workers_apart t ∷ with_plain ∷ []) v single = rw (v.0.dashes, v.0.long, v.0.short) (refl, refl)
parsing (with_trace ∷ workers_apart t ∷ workers_apart t' ∷ rest) v single = absurd (true≢false (sym (tail_single with_trace (workers_apart t ∷ workers_apart t' ∷ rest) single)))
parsing (with_trace ∷ workers_apart t ∷ workers_joined t' ∷ rest) v single = absurd (true≢false (sym (tail_single with_trace (workers_apart t ∷ workers_joined t' ∷ rest) single)))
parsing (with_trace ∷ workers_joined t ∷ []) v single = (refl, refl)
parsing (with_trace ∷ workers_joined t ∷ with_trace ∷ rest) v single = absurd (true≢false (sym single))
parsing (with_trace ∷ workers_joined t ∷ with_plain ∷ []) v single = (refl, refl)
parsing (with_trace ∷ workers_joined t ∷ workers_apart t' ∷ rest) v single = absurd (true≢false (sym (tail_single with_trace (workers_joined t ∷ workers_apart t' ∷ rest) single)))
parsing (with_trace ∷ workers_joined t ∷ workers_joined t' ∷ rest) v single = absurd (true≢false (sym (tail_single with_trace (workers_joined t ∷ workers_joined t' ∷ rest) single)))
parsing (with_plain ∷ []) v single = (refl, refl)
parsing (with_plain ∷ with_trace ∷ []) v single = (refl, refl)
parsing (with_plain ∷ with_trace ∷ with_trace ∷ rest) v single = absurd (true≢false (sym (tail_single with_plain (with_trace ∷ with_trace ∷ rest) single)))
parsing (with_plain ∷ with_trace ∷ with_plain ∷ rest) v single = absurd (true≢false (sym single))
parsing (with_plain ∷ with_trace ∷ workers_apart t ∷ []) v single = rw (v.0.dashes, v.0.long, v.0.short) (refl, refl)
parsing (with_plain ∷ with_trace ∷ workers_joined t ∷ []) v single = (refl, refl)
parsing (with_plain ∷ with_plain ∷ rest) v single = absurd (true≢false (sym single))
parsing (with_plain ∷ workers_apart t ∷ []) v single = rw (v.0.dashes, v.0.long, v.0.short) (refl, refl)
parsing (with_plain ∷ workers_apart t ∷ with_trace ∷ []) v single = rw (v.0.dashes, v.0.long, v.0.short) (refl, refl)
parsing (with_plain ∷ workers_apart t ∷ with_plain ∷ rest) v single = absurd (true≢false (sym single))
parsing (with_plain ∷ workers_apart t ∷ workers_apart t' ∷ rest) v single = absurd (true≢false (sym (tail_single with_plain (workers_apart t ∷ workers_apart t' ∷ rest) single)))
parsing (with_plain ∷ workers_apart t ∷ workers_joined t' ∷ rest) v single = absurd (true≢false (sym (tail_single with_plain (workers_apart t ∷ workers_joined t' ∷ rest) single)))
parsing (with_plain ∷ workers_joined t ∷ []) v single = (refl, refl)
parsing (with_plain ∷ workers_joined t ∷ with_trace ∷ []) v single = (refl, refl)
parsing (with_plain ∷ workers_joined t ∷ with_plain ∷ rest) v single = absurd (true≢false (sym single))
parsing (with_plain ∷ workers_joined t ∷ workers_apart t' ∷ rest) v single = absurd (true≢false (sym (tail_single with_plain (workers_joined t ∷ workers_apart t' ∷ rest) single)))
parsing (with_plain ∷ workers_joined t ∷ workers_joined t' ∷ rest) v single = absurd (true≢false (sym (tail_single with_plain (workers_joined t ∷ workers_joined t' ∷ rest) single)))
parsing (workers_apart t ∷ []) v single = rw (v.0.dashes, v.0.long, v.0.short) (refl, refl)
parsing (workers_apart t ∷ with_trace ∷ []) v single = rw (v.0.dashes, v.0.long, v.0.short) (refl, refl)
parsing (workers_apart t ∷ with_trace ∷ with_trace ∷ rest) v single = absurd (true≢false (sym (tail_single (workers_apart t) (with_trace ∷ with_trace ∷ rest) single)))
parsing (workers_apart t ∷ with_trace ∷ with_plain ∷ []) v single = rw (v.0.dashes, v.0.long, v.0.short) (refl, refl)
parsing (workers_apart t ∷ with_trace ∷ workers_apart t' ∷ rest) v single = absurd (true≢false (sym single))
parsing (workers_apart t ∷ with_trace ∷ workers_joined t' ∷ rest) v single = absurd (true≢false (sym single))
parsing (workers_apart t ∷ with_plain ∷ []) v single = rw (v.0.dashes, v.0.long, v.0.short) (refl, refl)
parsing (workers_apart t ∷ with_plain ∷ with_trace ∷ []) v single = rw (v.0.dashes, v.0.long, v.0.short) (refl, refl)
parsing (workers_apart t ∷ with_plain ∷ with_plain ∷ rest) v single = absurd (true≢false (sym (tail_single (workers_apart t) (with_plain ∷ with_plain ∷ rest) single)))
parsing (workers_apart t ∷ with_plain ∷ workers_apart t' ∷ rest) v single = absurd (true≢false (sym single))
parsing (workers_apart t ∷ with_plain ∷ workers_joined t' ∷ rest) v single = absurd (true≢false (sym single))
parsing (workers_apart t ∷ workers_apart t' ∷ rest) v single = absurd (true≢false (sym single))
parsing (workers_apart t ∷ workers_joined t' ∷ rest) v single = absurd (true≢false (sym single))
parsing (workers_joined t ∷ []) v single = (refl, refl)
parsing (workers_joined t ∷ with_trace ∷ []) v single = (refl, refl)
parsing (workers_joined t ∷ with_trace ∷ with_trace ∷ rest) v single = absurd (true≢false (sym (tail_single (workers_joined t) (with_trace ∷ with_trace ∷ rest) single)))
parsing (workers_joined t ∷ with_trace ∷ with_plain ∷ []) v single = (refl, refl)
parsing (workers_joined t ∷ with_trace ∷ workers_apart t' ∷ rest) v single = absurd (true≢false (sym single))
parsing (workers_joined t ∷ with_trace ∷ workers_joined t' ∷ rest) v single = absurd (true≢false (sym single))
parsing (workers_joined t ∷ with_plain ∷ []) v single = (refl, refl)
parsing (workers_joined t ∷ with_plain ∷ with_trace ∷ []) v single = (refl, refl)
parsing (workers_joined t ∷ with_plain ∷ with_plain ∷ rest) v single = absurd (true≢false (sym (tail_single (workers_joined t) (with_plain ∷ with_plain ∷ rest) single)))
parsing (workers_joined t ∷ with_plain ∷ workers_apart t' ∷ rest) v single = absurd (true≢false (sym single))
parsing (workers_joined t ∷ with_plain ∷ workers_joined t' ∷ rest) v single = absurd (true≢false (sym single))
parsing (workers_joined t ∷ workers_apart t' ∷ rest) v single = absurd (true≢false (sym single))
parsing (workers_joined t ∷ workers_joined t' ∷ rest) v single = absurd (true≢false (sym single))
parsing (a ∷ b ∷ c ∷ d ∷ rest) v single = absurd (no_fourth a b c d rest single)

pub parsing_plan : (parsed (codes "plan" ∷ []) ≡ Some (codes "plan", told_of [])) × (takes program_app (codes "plan" ∷ []) ≡ true)
unfolding clap_on_literals
parsing_plan = (refl, refl)

pub parsing_check : (parsed (codes "check" ∷ []) ≡ Some (codes "check", told_of [])) × (takes program_app (codes "check" ∷ []) ≡ true)
unfolding clap_on_literals
parsing_check = (refl, refl)
