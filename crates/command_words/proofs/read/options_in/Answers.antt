use Rattle.std.proofs.Common.{◌≡◌, ◌∙◌, rules, sym, codes, Some, None}
use Rattle.std.specs.Str.Parse.{digits_value}
use Rattle.command_words.proofs.Numbers.{workers_read}
use Rattle.command_words.proofs.Readings.{flag_read, one_read}
use Rattle.command_words.proofs.Spelling.{none_some}
use Rattle.command_words.proofs.read.options_in.Goals as goal

pub returns-in_err-get_one : goal.returns-in_err-get_one
returns-in_err-get_one c = λ options have.
    let read : c.get_one.result ≡ Some (digits_value 10 have.number) =
    workers_read have.number c.get_one.result have.is_one (c.get_one.ensures.value have.number (one_read c.args.matches.now (codes "workers") have.number have.workers)) in
    let none : c.get_one.result ≡ None = search rules in
    absurd (none_some (digits_value 10 have.number) (sym none ∙ read))

pub returns : goal.returns
returns c = λ options have.
    let read : c.get_one.result ≡ Some (digits_value 10 have.number) =
    workers_read have.number c.get_one.result have.is_one (c.get_one.ensures.value have.number (one_read c.args.matches.now (codes "workers") have.number have.workers)) in
    let got : c.in_ok-get_one.field-0 ≡ digits_value 10 have.number = search rules in
    let workers : c.in_ok-get_one.field-0 ≡ options.workers = got ∙ sym have.value in
    let trace : c.get_flag.result ≡ options.trace = flag_read _ c.get_flag.result options.trace c.get_flag.ensures.value c.get_flag.ensures.other
    (one_read c.args.matches.now (codes "trace") _ have.trace) in
    let plain : c.get_flag-2.result ≡ options.plain = flag_read _ c.get_flag-2.result options.plain c.get_flag-2.ensures.value c.get_flag-2.ensures.other
    (one_read c.args.matches.now (codes "plain") _ have.plain) in
    λ i. Some (record { workers = workers i; trace = trace i; plain = plain i })
