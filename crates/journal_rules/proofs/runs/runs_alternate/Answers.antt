use Rattle.std.proofs.Common.{sym, subst, ◌↔◌}
use Rattle.std.specs.Prelude.{IsTrue}
use Rattle.handoff_data.specs.declared.entry.Entry.{Entry}
use Rattle.handoff_data.specs.Rules.{RunsAlternate}
use Rattle.journal_rules.proofs.runs.runs_alternate.Goals as goal

pub returns-in-Pick : goal.returns-in-Pick
returns-in-Pick c =
    subst (λ (e : Entry). IsTrue c.may_pick.result ↔ RunsAlternate c.args.journals.now c.args.seat c.args.index e) (sym c.in-Pick.is)
    (c.may_pick.ensures c.args.journals.now c.requires)

pub returns-in-Finish : goal.returns-in-Finish
returns-in-Finish c =
    subst (λ (e : Entry). IsTrue c.may_finish.result ↔ RunsAlternate c.args.journals.now c.args.seat c.args.index e) (sym c.in-Finish.is)
    (c.may_finish.ensures c.args.journals.now c.requires)
