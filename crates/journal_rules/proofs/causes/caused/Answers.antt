use Rattle.std.proofs.Common.{sym, subst, ◌↔◌}
use Rattle.std.specs.Prelude.{IsTrue}
use Rattle.handoff_data.specs.declared.entry.Entry.{Entry}
use Rattle.handoff_data.specs.Rules.{Caused}
use Rattle.journal_rules.proofs.causes.caused.Goals as goal

pub returns-in-Wake : goal.returns-in-Wake
returns-in-Wake c =
    subst (λ (e : Entry). IsTrue c.is_sleep.result ↔ Caused c.args.journals.now c.args.seat c.args.index e) (sym c.in-Wake.is)
    (c.is_sleep.ensures c.args.journals.now c.requires)

pub returns-in-List : goal.returns-in-List
returns-in-List c =
    subst (λ (e : Entry). IsTrue c.is_woken_before.result ↔ Caused c.args.journals.now c.args.seat c.args.index e) (sym c.in-List.is)
    (c.is_woken_before.ensures c.args.journals.now c.requires)

pub returns-in-Enq : goal.returns-in-Enq
returns-in-Enq c =
    subst (λ (e : Entry). IsTrue c.is_caused_queueing.result ↔ Caused c.args.journals.now c.args.seat c.args.index e) (sym c.in-Enq.is)
    (c.is_caused_queueing.ensures c.args.journals.now c.requires)
