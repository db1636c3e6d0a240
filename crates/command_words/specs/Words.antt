-- What the words of the command line say.
use Rattle.std.specs.Prelude.{ℕ, Bool, true, false, not, ◌&&◌, ◌==◌, if◌then◌else◌, List, [], ◌∷◌, length, map, codes}
use Rattle.std.specs.Prelude.{Option, Some, None, option_map, option_and_then, nat_le, nat_lt}
use Rattle.std.specs.List.{list_all, list_any}
use Rattle.std.specs.Char.{is_ascii_digit}
use Rattle.std.specs.Str.{bytes_eq}
use Rattle.std.specs.Str.Parse.{digits_value}
use Rattle.std.specs.String.{string_bytes}
use Rattle.std.specs.declared.string.String.{String}
use Rattle.std.specs.declared.alloc.Global.{Global}
use Rattle.command_words.specs.declared.words.RunOptions.{RunOptions}
use Rattle.command_words.specs.declared.words.Words.{Words}
use Rattle.command_words.specs.declared.words.Words.TheVariants.{Run, Plan, Check}

-- ---- the options of `run`

-- an option as it is written: a number of workers behind a blank or behind an equals sign, and two plain words
pub data Choice : Type 0 where
  workers_apart : List ℕ → Choice
  workers_joined : List ℕ → Choice
  with_trace : Choice
  with_plain : Choice

-- what follows this front of a text
abbrev pub behind : List ℕ → List ℕ → Option (List ℕ)
behind [] text = Some text
behind (x ∷ front) [] = None
behind (x ∷ front) (y ∷ text) = if x == y then behind front text else None

-- the option that one word writes
abbrev pub choice_of : List ℕ → Option Choice
choice_of word =
    if bytes_eq word (codes "--trace") then Some with_trace
    else if bytes_eq word (codes "--plain") then Some with_plain
    else option_map workers_joined (behind (codes "--workers=") word)

-- the options that words write one after the other
abbrev pub choices_of : List (List ℕ) → Option (List Choice)
choices_of [] = Some []
choices_of (word ∷ []) = option_map (λ choice. choice ∷ []) (choice_of word)
choices_of (word ∷ next ∷ rest) =
    if bytes_eq word (codes "--workers") then option_map (λ choices. workers_apart next ∷ choices) (choices_of rest)
    else option_and_then (λ choice. option_map (λ choices. choice ∷ choices) (choices_of (next ∷ rest)))
    (choice_of word)

abbrev pub is_workers : Choice → Bool
is_workers (workers_apart text) = true
is_workers (workers_joined text) = true
is_workers _ = false

abbrev pub is_trace : Choice → Bool
is_trace with_trace = true
is_trace _ = false

abbrev pub is_plain : Choice → Bool
is_plain with_plain = true
is_plain _ = false

-- the options of the same name
abbrev pub is_same : Choice → Choice → Bool
is_same (workers_apart text) = is_workers
is_same (workers_joined text) = is_workers
is_same with_trace = is_trace
is_same with_plain = is_plain

-- no option stands twice
abbrev pub are_single : List Choice → Bool
are_single [] = true
are_single (choice ∷ choices) = not (list_any (is_same choice) choices) && are_single choices

-- a number of workers: 1 to 10 decimal digits, which write a number from 1 to 16
abbrev pub is_number : List ℕ → Bool
is_number text = nat_lt 0 (length text) && nat_le (length text) 10 && list_all is_ascii_digit text
    && nat_le 1 (digits_value 10 text) && nat_le (digits_value 10 text) 16

abbrev pub has_number : Choice → Bool
has_number (workers_apart text) = is_number text
has_number (workers_joined text) = is_number text
has_number _ = true

-- how many workers the options ask for; 4 where none does
abbrev pub workers_of : List Choice → ℕ
workers_of [] = 4
workers_of (workers_apart text ∷ choices) = digits_value 10 text
workers_of (workers_joined text ∷ choices) = digits_value 10 text
workers_of (_ ∷ choices) = workers_of choices

abbrev pub options_of : List Choice → RunOptions
options_of choices = record {
  workers = workers_of choices;
  trace = list_any is_trace choices;
  plain = list_any is_plain choices;
}

-- ---- the commands

abbrev pub run_of : List Choice → Option Words
run_of choices =
    if list_all has_number choices && are_single choices then Some (Run (options_of choices)) else None

-- a command that stands alone
abbrev pub alone : Words → List (List ℕ) → Option Words
alone command [] = Some command
alone command _ = None

abbrev pub said_by : List (List ℕ) → Option Words
said_by [] = None
said_by (word ∷ rest) =
    if bytes_eq word (codes "run") then option_and_then run_of (choices_of rest)
    else if bytes_eq word (codes "plan") then alone Plan rest
    else if bytes_eq word (codes "check") then alone Check rest
    else None

-- the command that the words give, with its options, if they give one
abbrev pub reading_of : List (String Global) → Option Words
reading_of words = said_by (map string_bytes words)
