use Rattle.std.proofs.Common.{◌≡◌, sym, ◌∙◌, rules}
use Rattle.task_script.proofs.LineLaws.{kept_line, front_line, front_feeds}
use Rattle.task_script.proofs.pieces.without_returns.Goals as goal

pub returns-then-last-ne13-clause-value : goal.returns-then-last-ne13-clause-value
returns-then-last-ne13-clause-value c =
    sym (kept_line c.loop-last.line.now c.in-Some.front.now c.in-Some.last.now c.in-Some.ensures.cases.0 (search rules)) ∙ c.loop-last.invariant.value

pub loop-last-preserved : goal.loop-last-preserved
loop-last-preserved c =
    let is = c.in-Some.ensures.cases.0 in
    let return : c.in-Some.last.now ≡ 13 = search rules in
    record {
      value = front_line c.loop-last.line.now c.in-Some.front.now c.in-Some.last.now is return ∙ c.loop-last.invariant.value;
      feeds = λ h. front_feeds c.loop-last.line.now c.in-Some.front.now c.in-Some.last.now is (c.loop-last.invariant.feeds h);
    }
