use Rattle.std.proofs.Common.{◌≡◌, arith}
use Rattle.std.proofs.lemmas.Result.{err_from_is_err_and}
use Rattle.task_script.specs.declared.script.ScriptError.TheVariants as errors
use Rattle.task_script.specs.Reading.{state_of, verdict}
use Rattle.task_script.proofs.ScriptLaws.{script_found, fault_found, not_script, one_script, few_tasks, refused}
use Rattle.task_script.proofs.ForestLaws.{script-forest}
use Rattle.task_script.proofs.reader.read_script.Goals as goal

pub returns-in_err-reader-clause-bad : goal.returns-in_err-reader-clause-bad
returns-in_err-reader-clause-bad c = λ f e.
    let p = err_from_is_err_and c.from_residual.result c.from_residual.ensures.1 in
    let same : c.in_err-reader.field-0.0 ≡ errors.Bad f = cc in
    let h = refused c.in_err-reader.field-0.0 (verdict c.args.customs c.args.bytes.now) c.in_err-reader.ensures f same in
    (fault_found c.args.customs c.args.bytes.now f h, not_script c.args.customs c.args.bytes.now f h)

pub into_script-requires : goal.into_script-requires
into_script-requires c =
    let few = few_tasks c.args.customs c.args.bytes.now (state_of c.in_ok-reader.reader) c.in_ok-reader.ensures in
    omega (arith, c.in_ok-reader.reader.tasks.ok.0)

pub returns-clause-found : goal.returns-clause-found
returns-clause-found c = script_found c.args.customs c.args.bytes.now (state_of c.in_ok-reader.reader) c.into_script.result c.in_ok-reader.ensures c.into_script.ensures

pub returns-clause-only : goal.returns-clause-only
returns-clause-only c = λ t a.
    one_script c.args.customs c.args.customs c.args.bytes.now c.into_script.result t
    (script_found c.args.customs c.args.bytes.now (state_of c.in_ok-reader.reader) c.into_script.result c.in_ok-reader.ensures c.into_script.ensures) a

pub returns-clause-forest : goal.returns-clause-forest
returns-clause-forest c =
    script-forest c.args.customs c.args.bytes.now c.into_script.result
    (script_found c.args.customs c.args.bytes.now (state_of c.in_ok-reader.reader) c.into_script.result c.in_ok-reader.ensures c.into_script.ensures)
