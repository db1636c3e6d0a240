-- The reading of words: what is written, what the parser finds, and what is taken out of it.
use Rattle.std.proofs.Common.{◌≡◌, ◌≢◌, ◌∙◌, ap, ap₂, refl, sym, subst, ℕ, Bool, true, false, true≢false, ◌&&◌, List, [], ◌∷◌, codes, Option, Some, None, option_map}
use Rattle.std.proofs.Common.{option_and_then, if◌then◌else◌, is_some}
use Rattle.std.specs.List.{flat_map, list_all}
use Rattle.std.specs.Str.{bytes_eq}
use Rattle.std.specs.Str.Parse.{digits_value}
use Rattle.clap.specs.Words.{HasMatchesOf, Row, Text, found_of, one_of, one_text, rows_of, subcommand_of, subcommand_rows_of, takes}
use Rattle.clap.specs.declared.parser.matches.ArgMatches.{ArgMatches}
use Rattle.clap.proofs.WalkLemmas.{one_text-rows}
use Rattle.command_words.specs.Words.{Choice, workers_apart, workers_joined, with_trace, with_plain, alone, are_single, choices_of, has_number, is_number, options_of, run_of, said_by, workers_of}
use Rattle.command_words.specs.Written.{Writes, words_of}
use Rattle.command_words.specs.Program.{HaveOptions, flag_text, program_app}
use Rattle.command_words.specs.declared.words.RunOptions.{RunOptions}
use Rattle.command_words.specs.declared.words.Words.{Words}
use Rattle.command_words.specs.declared.words.Words.TheVariants.{Run, Plan, Check}
use Rattle.command_words.proofs.Bools.{both}
use Rattle.command_words.proofs.Parsing.{Told, has_values, is_simple_program, number_of, parsed, parsing, parsing_check, parsing_plan, told_by, told_by_choices, told_of}
use Rattle.command_words.proofs.Spelling.{none_some, read_back, same_text, some_is, spelled}

-- ---- what has a reading is written so

-- options behind `run`
run_written : (choices : List Choice) (command : Words) → run_of choices ≡ Some command → Writes (codes "run" ∷ flat_map words_of choices) command
run_written choices command h = go (list_all has_number choices && are_single choices) refl h
  where
    go : (b : Bool) → (list_all has_number choices && are_single choices) ≡ b → (if b then Some (Run (options_of choices)) else None) ≡ Some command
        → Writes (codes "run" ∷ flat_map words_of choices) command
    go false e h = absurd (none_some command h)
    go true e h =
        let parts = both (list_all has_number choices) (are_single choices) e in
        subst (Writes (codes "run" ∷ flat_map words_of choices)) (some_is (Run (options_of choices)) command h)
        (record { choices = choices; spelled = refl; numbers = parts.0; single = parts.1; told = refl })

alone_written : (own command : Words) (rest : List (List ℕ)) → alone own rest ≡ Some command → (rest ≡ []) × (own ≡ command)
alone_written own command [] h = (refl, some_is own command h)
alone_written own command (x ∷ rest) h = absurd (none_some command h)

pub read_is_written : (words : List (List ℕ)) (command : Words) → said_by words ≡ Some command → Writes words command
read_is_written [] command h = absurd (none_some command h)
read_is_written (word ∷ rest) command h =
    by_name (bytes_eq word (codes "run")) (bytes_eq word (codes "plan")) (bytes_eq word (codes "check")) refl refl refl h
  where
    options : bytes_eq word (codes "run") ≡ true → (o : Option (List Choice)) → choices_of rest ≡ o → option_and_then run_of o ≡ Some command → Writes (word ∷ rest) command
    options e None f h = absurd (none_some command h)
    options e (Some choices) f h =
        subst (λ ws. Writes ws command) (ap₂ (λ w ws. w ∷ ws) (sym (same_text word (codes "run") e)) (sym (spelled rest choices f))) (run_written choices command h)

    by_name : (a b c : Bool) → bytes_eq word (codes "run") ≡ a → bytes_eq word (codes "plan") ≡ b → bytes_eq word (codes "check") ≡ c
        → (if a then option_and_then run_of (choices_of rest) else if b then alone Plan rest else if c then alone Check rest else None) ≡ Some command → Writes (word ∷ rest) command
    by_name true b c e f g h = options e (choices_of rest) refl h
    by_name false true c e f g h =
        let bare = alone_written Plan command rest h in
        subst (Writes (word ∷ rest)) bare.1 (ap₂ (λ w ws. w ∷ ws) (same_text word (codes "plan") f) bare.0)
    by_name false false true e f g h =
        let bare = alone_written Check command rest h in
        subst (Writes (word ∷ rest)) bare.1 (ap₂ (λ w ws. w ∷ ws) (same_text word (codes "check") g) bare.0)
    by_name false false false e f g h = absurd (none_some command h)

-- ---- and what is written so has that reading

pub written_is_read : (words : List (List ℕ)) (command : Words) → Writes words command → said_by words ≡ Some command
written_is_read words (Run options) w =
    ap said_by w.spelled ∙ ap (option_and_then run_of) (read_back w.choices) ∙ runs ∙ ap (λ o. Some (Run o)) (sym w.told)
  where
    runs : run_of w.choices ≡ Some (Run (options_of w.choices))
    runs = rw (w.numbers, w.single) refl
written_is_read words Plan w = ap said_by w
written_is_read words Check w = ap said_by w

-- ---- what the parser finds

pub is_taken : (words : List (List ℕ)) (command : Words) → Writes words command → takes program_app words ≡ true
is_taken words (Run options) w = ap (takes program_app) w.spelled ∙ (parsing w.choices (has_values w.choices w.numbers) w.single).1
is_taken words Plan w = ap (takes program_app) w ∙ parsing_plan.1
is_taken words Check w = ap (takes program_app) w ∙ parsing_check.1

-- the name and the rows behind what is told of them
pub record Found (entered : Option (Text × List Row)) (name : Text) (told : Told) : Type 0 where
  pub rows : List Row
  pub is : entered ≡ Some (name, rows)
  pub says : told_of rows ≡ told

found : (entered : Option (Text × List Row)) (name : Text) (told : Told) → option_map told_by entered ≡ Some (name, told) → Found entered name told
found None name told h = absurd (none_some (name, told) h)
found (Some p) name told h =
    let same = some_is (told_by p) (name, told) h in
    record { rows = p.1; is = ap (λ n. Some (n, p.1)) (ap (λ (q : Text × Told). q.0) same); says = ap (λ (q : Text × Told). q.1) same }

is_number_of : (choices : List Choice) → list_all has_number choices ≡ true → is_number (number_of choices) ≡ true
is_number_of [] h = refl
is_number_of (workers_apart text ∷ choices) h = (both (is_number text) (list_all has_number choices) h).0
is_number_of (workers_joined text ∷ choices) h = (both (is_number text) (list_all has_number choices) h).0
is_number_of (with_trace ∷ choices) h = is_number_of choices h
is_number_of (with_plain ∷ choices) h = is_number_of choices h

number_value : (choices : List Choice) → workers_of choices ≡ digits_value 10 (number_of choices)
number_value [] = refl
number_value (workers_apart text ∷ choices) = refl
number_value (workers_joined text ∷ choices) = refl
number_value (with_trace ∷ choices) = number_value choices
number_value (with_plain ∷ choices) = number_value choices

have_options : (rows : List Row) (choices : List Choice) → list_all has_number choices ≡ true → told_of rows ≡ told_by_choices choices → HaveOptions rows (options_of choices)
have_options rows choices numbers says = record {
  number = number_of choices;
  workers = ap (λ (t : Told). t.workers) says;
  is_one = is_number_of choices numbers;
  value = number_value choices;
  trace = ap (λ (t : Told). t.trace) says;
  plain = ap (λ (t : Told). t.plain) says;
}

-- what is taken out of the matches is what is written
pub taken_out : (m : ArgMatches) (words : List (List ℕ)) (command : Words) (result : Option Words) → Writes words command → HasMatchesOf program_app words m
    → ((rows : List Row) → (options : RunOptions) → subcommand_rows_of m ≡ Some (codes "run", rows) → HaveOptions rows options → result ≡ Some (Run options))
    → ((rows : List Row) → subcommand_rows_of m ≡ Some (codes "plan", rows) → result ≡ Some Plan)
    → ((rows : List Row) → subcommand_rows_of m ≡ Some (codes "check", rows) → result ≡ Some Check)
    → result ≡ Some command
taken_out m words (Run options) result w matches run plan check =
    let f = found (subcommand_of program_app words) (codes "run") (told_by_choices w.choices)
    (ap parsed w.spelled ∙ (parsing w.choices (has_values w.choices w.numbers) w.single).0) in
    run f.rows (options_of w.choices) ((matches is_simple_program).1 ∙ f.is) (have_options f.rows w.choices w.numbers f.says) ∙ ap (λ o. Some (Run o)) (sym w.told)
taken_out m words Plan result w matches run plan check =
    let f = found (subcommand_of program_app words) (codes "plan") (told_of []) (ap parsed w ∙ parsing_plan.0) in
    plan f.rows ((matches is_simple_program).1 ∙ f.is)
taken_out m words Check result w matches run plan check =
    let f = found (subcommand_of program_app words) (codes "check") (told_of []) (ap parsed w ∙ parsing_check.0) in
    check f.rows ((matches is_simple_program).1 ∙ f.is)

-- ---- words that have a reading

pub some_reading : (o : Option Words) → is_some o ≡ true → (command : Words) × (o ≡ Some command)
some_reading None h = absurd (true≢false (sym h))
some_reading (Some command) h = (command, refl)

pub not_none : (o : Option Words) → is_some o ≡ true → o ≢ None
not_none o h none = true≢false (sym h ∙ ap is_some none)

-- ---- what the getters read

pub flag_read : (text : Option Text) (r b : Bool) → (text ≡ Some (codes "true") → r ≡ true) → (text ≡ Some (codes "false") → r ≡ false) → text ≡ Some (flag_text b) → r ≡ b
flag_read text r true given left h = given h
flag_read text r false given left h = left h

pub one_read : (m : ArgMatches) (id text : Text) → one_of id (rows_of (found_of m)) ≡ Some text → one_text (found_of m) id ≡ Some text
one_read m id text h = one_text-rows (found_of m) id ∙ h
