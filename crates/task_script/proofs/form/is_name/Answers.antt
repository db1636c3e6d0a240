use Rattle.std.proofs.Common.{arith, rules}
use borrow.Author.Tests.{tests}
use Rattle.std.proofs.lemmas.Iterator.{YieldsList-from_slice}
use Rattle.std.proofs.lemmas.Iterator.Search.{all_from_yields_List}
use Rattle.task_script.specs.Forms.{is_name_byte}
use Rattle.task_script.proofs.LineLaws.{name_is}
use Rattle.task_script.proofs.form.is_name.Goals as goal

pub returns-then-rest-le-NAME_TAIL_LIMIT : goal.returns-then-rest-le-NAME_TAIL_LIMIT
returns-then-rest-le-NAME_TAIL_LIMIT c =
    name_is c.args.bytes.now c.in-Some.first.now c.in-Some.rest.now c.all.result (search rules) (search rules) (omega arith)
    (all_from_yields_List is_name_byte _ _ _ c.all.ensures.ran (YieldsList-from_slice c.in-Some.rest.now cc) (λ x b q k. search (rules, tests)))
