-- What was read is no script, and this is its first fault.
use Rattle.std.proofs.Common.{◌≡◌, ℕ, List, Err, ap, subst}
use Rattle.task_script.specs.Script.{NotScript, FirstFault}
use Rattle.task_script.specs.declared.script.ScriptError.{ScriptError}
use Rattle.wk_run.proofs.scripts.script_of.Goals as goal

pub returns-in-Err-Bad-clause-bad : goal.returns-in-Err-Bad-clause-bad
returns-in-Err-Bad-clause-bad g c = λ line code same.
    let refused = c.in-Err-Bad.ensures.bad c.in-Err-Bad.fault (ap (λ (e : ScriptError). Err e) c.in-Err-Bad.field-0-is) in
    let on_line : c.in-Err-Bad.fault.line ≡ line = cc in
    let with_code : c.in-Err-Bad.fault.code ≡ code = cc in
    let first : FirstFault c.args.customs c.in-Ok.bytes.items line code =
    subst (λ (b : List ℕ). FirstFault c.args.customs b line code) c.as_slice.ensures.value
    (subst (λ (n : ℕ). FirstFault c.args.customs c.as_slice.result.now n code) on_line
    (subst (λ (n : ℕ). FirstFault c.args.customs c.as_slice.result.now c.in-Err-Bad.fault.line n) with_code refused.0)) in
    record {
      read = c.in-Ok.bytes.items;
      input = c.in-Ok.ensures.read;
      fault = first;
      no_script = subst (λ (b : List ℕ). NotScript c.args.customs b) c.as_slice.ensures.value refused.1;
    }
