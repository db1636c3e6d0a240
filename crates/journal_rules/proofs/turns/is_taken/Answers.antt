use Rattle.std.proofs.Common.{sym, subst, ◌↔◌}
use Rattle.std.specs.Prelude.{IsTrue}
use Rattle.handoff_data.specs.declared.entry.Entry.{Entry}
use Rattle.journal_rules.specs.Turns.{IsTakenBefore}
use Rattle.journal_rules.proofs.turns.is_taken.Goals as goal

pub returns-in-List : goal.returns-in-List
returns-in-List c = λ j knows.
    subst (λ (e : Entry). IsTrue c.is_queued_after.result ↔ IsTakenBefore j c.args.seat c.args.index e) (sym c.in-List.is)
    (c.is_queued_after.ensures j knows)
