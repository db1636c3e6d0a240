use Rattle.journal_facts.specs.declared.fact.Fact.{Fact}
use Rattle.journal_facts.specs.Answers.{IsOn}
use Rattle.journal_facts.proofs.Points.{next_too}
use Rattle.journal_facts.proofs.asking.count_on.Goals as goal

pub loop-i-preserved : goal.loop-i-preserved
loop-i-preserved c =
    next_too c.args.rest.now c.loop-i.i (λ (f : Fact). IsOn f c.args.kind c.args.subject c.args.number c.args.cpu) _ (c.is_on.ensures.0 c.if-not-is_on.false)
    c.loop-i-test.true c.loop-i.invariant
