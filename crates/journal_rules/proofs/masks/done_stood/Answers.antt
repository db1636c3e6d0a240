use Rattle.std.proofs.Common.{sym, subst, ◌↔◌}
use Rattle.std.specs.Prelude.{IsTrue}
use Rattle.handoff_data.specs.declared.entry.Entry.{Entry}
use Rattle.handoff_data.specs.Rules.{DoneStood}
use Rattle.journal_rules.proofs.masks.done_stood.Goals as goal

pub returns-in-Done : goal.returns-in-Done
returns-in-Done c =
    subst (λ (e : Entry). IsTrue c.may_be_done.result ↔ DoneStood c.args.journals.now c.args.seat c.args.index e) (sym c.in-Done.is)
    (c.may_be_done.ensures c.args.journals.now c.requires)
