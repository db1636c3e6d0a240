use Rattle.std.proofs.Common.{rules, sym}
use Rattle.std.specs.Prelude.{Err}
use Rattle.std.specs.Str.Parse.{ParsesUnsigned}
use Rattle.command_words.proofs.Numbers.{refused_number}
use Rattle.command_words.proofs.forms.is_number.Goals as goal

pub returns-in-Err : goal.returns-in-Err
returns-in-Err c =
    let gives : ParsesUnsigned 32 10 c.args.text.now (Err c.in-Err.field-0) = search rules in
    sym (refused_number c.args.text.now c.in-Err.field-0 gives)
