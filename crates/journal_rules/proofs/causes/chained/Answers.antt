use Rattle.std.proofs.Common.{sym, subst, ◌↔◌}
use Rattle.std.specs.Prelude.{IsTrue}
use Rattle.handoff_data.specs.declared.entry.Entry.{Entry}
use Rattle.handoff_data.specs.Rules.{Chained}
use Rattle.journal_rules.proofs.causes.chained.Goals as goal

pub returns-in-Sleep : goal.returns-in-Sleep
returns-in-Sleep c =
    subst (λ (e : Entry). IsTrue c.follows_queueing.result ↔ Chained c.args.journals.now c.args.seat c.args.index e) (sym c.in-Sleep.is)
    (c.follows_queueing.ensures c.args.journals.now c.requires)

pub returns-in-Die : goal.returns-in-Die
returns-in-Die c =
    subst (λ (e : Entry). IsTrue c.follows_queueing-in-Die.result ↔ Chained c.args.journals.now c.args.seat c.args.index e) (sym c.in-Die.is)
    (c.follows_queueing-in-Die.ensures c.args.journals.now c.requires)

pub returns-in-Out : goal.returns-in-Out
returns-in-Out c =
    subst (λ (e : Entry). IsTrue c.follows_queueing-in-Out.result ↔ Chained c.args.journals.now c.args.seat c.args.index e) (sym c.in-Out.is)
    (c.follows_queueing-in-Out.ensures c.args.journals.now c.requires)

pub returns-in-Enq : goal.returns-in-Enq
returns-in-Enq c =
    subst (λ (e : Entry). IsTrue c.follows_sleep.result ↔ Chained c.args.journals.now c.args.seat c.args.index e) (sym c.in-Enq.is)
    (c.follows_sleep.ensures c.args.journals.now c.requires)

pub returns-in-In : goal.returns-in-In
returns-in-In c =
    subst (λ (e : Entry). IsTrue c.follows_out.result ↔ Chained c.args.journals.now c.args.seat c.args.index e) (sym c.in-In.is)
    (c.follows_out.ensures c.args.journals.now c.requires)
