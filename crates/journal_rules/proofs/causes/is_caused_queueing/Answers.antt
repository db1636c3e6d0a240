use Rattle.std.proofs.Common.{sym, subst, ◌↔◌, Bool}
use Rattle.std.specs.Prelude.{IsTrue}
use Rattle.handoff_data.specs.declared.entry.Entry.TheVariants as entry
use Rattle.handoff_data.specs.Rules.{Caused}
use Rattle.journal_rules.proofs.causes.is_caused_queueing.Goals as goal

pub returns-then-by_list : goal.returns-then-by_list
returns-then-by_list c = λ j knows.
    subst (λ (b : Bool). IsTrue c.follows_listing.result ↔ Caused j c.args.seat c.args.index (entry.Enq c.args.t c.args.m c.args.c b)) (sym c.if-by_list.true)
    (c.follows_listing.ensures j knows)

pub returns-else-by_list : goal.returns-else-by_list
returns-else-by_list c = λ j knows.
    subst (λ (b : Bool). IsTrue c.follows_wake.result ↔ Caused j c.args.seat c.args.index (entry.Enq c.args.t c.args.m c.args.c b)) (sym c.if-by_list.false)
    (c.follows_wake.ensures j knows)
