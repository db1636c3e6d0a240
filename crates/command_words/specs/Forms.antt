-- What the test of the forms goes by.
use Rattle.std.specs.Prelude.{ℕ, Bool, false, not, ◌&&◌, if◌then◌else◌, List, [], ◌∷◌, codes, Option, Some}
use Rattle.std.specs.Prelude.{option_map}
use Rattle.std.specs.Str.{bytes_eq}
use Rattle.std.specs.List.{list_all, list_any}
use Rattle.std.specs.Option.{option_map_or}
use Rattle.command_words.specs.Words.{Choice, are_single, behind, choices_of, has_number, is_plain, is_trace}
use Rattle.command_words.specs.Words.{is_workers}
use Rattle.command_words.specs.declared.forms.Seen.{Seen}

-- none of these options was seen before, and none stands twice; a number is one
abbrev pub are_new : Seen → List Choice → Bool
are_new seen choices = list_all has_number choices && are_single choices
    && not (seen.workers && list_any is_workers choices)
    && not (seen.trace && list_any is_trace choices) && not (seen.plain && list_any is_plain choices)

-- the words are options that may follow those that were seen
abbrev pub may_follow : Seen → List (List ℕ) → Bool
may_follow seen words = option_map_or (are_new seen) (choices_of words) false

-- what stands in the place of a number of workers, and the words behind it
abbrev pub workers_in : List ℕ → List (List ℕ) → Option (List ℕ × List (List ℕ))
workers_in word [] = option_map (λ number. (number, [])) (behind (codes "--workers=") word)
workers_in word (next ∷ rest) =
    if bytes_eq word (codes "--workers") then Some (next, rest)
    else option_map (λ number. (number, next ∷ rest)) (behind (codes "--workers=") word)
