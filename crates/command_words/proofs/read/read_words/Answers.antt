use Rattle.std.proofs.Common.{◌≡◌, ◌∙◌, rules, sym, ap, subst, true, true≢false, is_some, map, string_bytes}
use Rattle.clap.specs.Words.{HasMatchesOf, app_of, kind_of, takes}
use Rattle.clap.specs.contracts.error.kind.ErrorKind.{the_type}
use Rattle.clap.specs.declared.error.kind.ErrorKind.TheVariants.{OutOfMemory}
use Rattle.command_words.specs.Program.{program_app}
use Rattle.command_words.specs.Words.{reading_of}
use Rattle.command_words.proofs.Readings.{is_taken, not_none, read_is_written, some_reading, taken_out}
use Rattle.command_words.proofs.read.read_words.Goals as goal

pub returns-in_err-command-clause-err : goal.returns-in_err-command-clause-err
returns-in_err-command-clause-err c =
    let has : is_some (reading_of c.args.words.now) ≡ true = search rules in
    let none = not_none (reading_of c.args.words.now) has in
    search rules

pub unreachable-requires : goal.unreachable-requires
unreachable-requires c =
    let has : is_some (reading_of c.args.words.now) ≡ true = search rules in
    let reading = some_reading (reading_of c.args.words.now) has in
    let taken = is_taken (map string_bytes c.args.words.now) reading.0 (read_is_written _ _ reading.1) in
    let app : app_of c.in_ok-command.command ≡ program_app = search rules in
    let kind : kind_of c.in-Err.error ≡ OutOfMemory = c.in-Err.ensures.passes (ap (λ a. takes a (map string_bytes c.args.words.now)) app ∙ taken) in
    true≢false (sym (c.eq.ensures ∙ ap (λ k. denote.Enum.Bare.sameb the_type k OutOfMemory) (c.kind.ensures ∙ kind)) ∙ c.if-eq.false)

pub returns-in-Ok-clause-ok : goal.returns-in-Ok-clause-ok
returns-in-Ok-clause-ok c =
    let has : is_some (reading_of c.args.words.now) ≡ true = search rules in
    let reading = some_reading (reading_of c.args.words.now) has in
    let app : app_of c.in_ok-command.command ≡ program_app = search rules in
    let matches : HasMatchesOf program_app (map string_bytes c.args.words.now) c.in-Ok.matches =
    subst (λ a. HasMatchesOf a (map string_bytes c.args.words.now) c.in-Ok.matches) app (c.in-Ok.ensures.matches) in
    taken_out c.in-Ok.matches (map string_bytes c.args.words.now) reading.0 c.command_in.result (read_is_written _ _ reading.1) matches
    c.command_in.ensures.run c.command_in.ensures.plan c.command_in.ensures.check ∙ sym reading.1
