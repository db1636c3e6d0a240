-- How a command is written.
use Rattle.std.specs.Prelude.{◌≡◌, ◌↔◌, ◌++◌, ℕ, true, List, [], ◌∷◌, codes, Some}
use Rattle.std.specs.List.{list_all, flat_map}
use Rattle.command_words.specs.Words.{Choice, workers_apart, workers_joined, with_trace, with_plain}
use Rattle.command_words.specs.Words.{has_number, are_single, options_of, said_by}
use Rattle.command_words.specs.declared.words.RunOptions.{RunOptions}
use Rattle.command_words.specs.declared.words.Words.{Words}
use Rattle.command_words.specs.declared.words.Words.TheVariants.{Run, Plan, Check}

-- the words of an option
abbrev pub words_of : Choice → List (List ℕ)
words_of (workers_apart text) = codes "--workers" ∷ text ∷ []
words_of (workers_joined text) = (codes "--workers=" ++ text) ∷ []
words_of with_trace = codes "--trace" ∷ []
words_of with_plain = codes "--plain" ∷ []

-- the words are `run` and then those of options, each at most once, with a number where one stands
pub record WritesRun (words : List (List ℕ)) (options : RunOptions) : Type 0 where
  pub choices : List Choice
  pub spelled : words ≡ codes "run" ∷ flat_map words_of choices
  pub numbers : list_all has_number choices ≡ true
  pub single : are_single choices ≡ true
  pub told : options ≡ options_of choices

abbrev pub Writes : List (List ℕ) → Words → Type 0
Writes words (Run options) = WritesRun words options
Writes words Plan = words ≡ codes "plan" ∷ []
Writes words Check = words ≡ codes "check" ∷ []

-- words have a reading exactly where they are written so, and it is that one
abbrev pub ReadsWhatIsWritten : Type 0
ReadsWhatIsWritten = (words : List (List ℕ)) → (command : Words) → (said_by words ≡ Some command) ↔ Writes words command
