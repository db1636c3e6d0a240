use Rattle.std.proofs.Common.{◌≡◌, ◌∙◌, rules, sym, ap, subst, Some, None}
use Rattle.clap.specs.Words.{found_of, rows_of}
use Rattle.command_words.specs.Program.{HaveOptions}
use Rattle.command_words.specs.declared.words.Words.TheVariants.{Run}
use Rattle.command_words.proofs.Spelling.{none_some, some_is}
use Rattle.command_words.proofs.read.command_in.Goals as goal

pub returns-in_err-options_in-in-run-clause-run : goal.returns-in_err-options_in-in-run-clause-run
returns-in_err-options_in-in-run-clause-run c = λ rows options is have.
    let same : rows_of (found_of c.in_ok-name.options.now) ≡ rows = search rules in
    let read : c.options_in.result ≡ Some options = c.options_in.ensures options (subst (λ rs. HaveOptions rs options) (sym same) have) in
    let none : c.options_in.result ≡ None = search rules in
    absurd (none_some options (sym none ∙ read))

pub returns-in_ok-options_in-in-run-clause-run : goal.returns-in_ok-options_in-in-run-clause-run
returns-in_ok-options_in-in-run-clause-run c = λ rows options is have.
    let same : rows_of (found_of c.in_ok-name.options.now) ≡ rows = search rules in
    let read : c.options_in.result ≡ Some options = c.options_in.ensures options (subst (λ rs. HaveOptions rs options) (sym same) have) in
    let got : c.options_in.result ≡ Some c.in_ok-options_in-in-run.field-0 = search rules in
    ap (λ o. Some (Run o)) (some_is _ options (sym got ∙ read))
