-- The command line as the parser has it.
use Rattle.std.specs.Prelude.{◌≡◌, ℕ, Bool, true, false, List, [], ◌∷◌, codes, Some}
use Rattle.clap.specs.Words.{App, Row, Rule, new_app, new_rule, one_of, with_rule, with_subcommand}
use Rattle.std.specs.Str.Parse.{digits_value}
use Rattle.clap.specs.declared.builder.action.ArgAction.TheVariants.{SetTrue}
use Rattle.command_words.specs.Words.{is_number}
use Rattle.command_words.specs.declared.words.RunOptions.{RunOptions}

abbrev pub workers_rule : Rule
workers_rule = record (new_rule (codes "workers")) {
  long = Some (codes "workers");
  defaults = codes "4" ∷ [];
}

abbrev pub flag_rule : List ℕ → Rule
flag_rule name = record (new_rule name) { long = Some name; action = Some SetTrue }

abbrev pub run_app : App
run_app =
    with_rule (with_rule (with_rule (new_app (codes "run")) workers_rule) (flag_rule (codes "trace"))) (flag_rule (codes "plain"))

-- words of which the first is a command; no help, no name of the program before them
abbrev pub bare_app : App
bare_app = record {
  top = record (new_app (codes "wakerun")).top {
    no_binary_name = true;
    disable_help_flag = true;
    disable_help_subcommand = true;
  };
  subs = [];
}

abbrev pub program_app : App
program_app =
    with_subcommand (with_subcommand (with_subcommand (with_subcommand bare_app run_app.top)
    (new_app (codes "plan")).top) (new_app (codes "check")).top) (new_app (codes "gen")).top

-- ---- what is read of its matches

-- the text of a flag that was given, and of one that was not
abbrev pub flag_text : Bool → List ℕ
flag_text true = codes "true"
flag_text false = codes "false"

-- the matches behind `run` have the texts of these options
pub record HaveOptions (rows : List Row) (options : RunOptions) : Type 0 where
  pub number : List ℕ
  pub workers : one_of (codes "workers") rows ≡ Some number
  pub is_one : is_number number ≡ true
  pub value : options.workers ≡ digits_value 10 number
  pub trace : one_of (codes "trace") rows ≡ Some (flag_text options.trace)
  pub plain : one_of (codes "plain") rows ≡ Some (flag_text options.plain)
