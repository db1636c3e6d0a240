use Rattle.journal_legal.proofs.Numbered.{enter_marks}
use Rattle.journal_legal.proofs.judge.Judge.enter.Goals as goal

pub returns : goal.returns
returns c =
    let at = c.requires.at in
    record {
      few = at.few;
      facts = at.facts;
      members = at.members;
      marks = enter_marks c.args.journals.now c.args.before c.args.index c.args.seat c.args.self.now.marks.items c.requires.later at.marks;
    }
