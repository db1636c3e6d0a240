use Rattle.std.proofs.Common.{sym, subst, ◌↔◌, rules}
use Rattle.std.specs.Prelude.{IsTrue}
use Rattle.handoff_data.specs.declared.entry.Entry.{Entry}
use Rattle.handoff_data.specs.Rules.{MaskedAndStood}
use Rattle.journal_rules.proofs.masks.masked_and_stood.Goals as goal

pub returns-in-Mask : goal.returns-in-Mask
returns-in-Mask c =
    subst (λ (e : Entry). IsTrue c.may_mask.result ↔ MaskedAndStood c.args.journals.now c.args.seat c.args.index e) (sym c.in-Mask.is)
    (c.may_mask.ensures c.args.journals.now c.requires.facts c.args.seat c.args.index)

pub returns-in-Stood : goal.returns-in-Stood
returns-in-Stood c =
    subst (λ (e : Entry). IsTrue c.may_stand.result ↔ MaskedAndStood c.args.journals.now c.args.seat c.args.index e) (sym c.in-Stood.is)
    (c.may_stand.ensures c.args.journals.now c.requires.facts c.requires.members (search rules) c.args.seat c.args.index)
