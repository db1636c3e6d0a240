use Rattle.std.proofs.Common.{◌⊎◌, ◌↔◌, subst, sym}
use Rattle.std.specs.Prelude.{Contains}
use Rattle.handoff_data.specs.declared.entry.Entry.{Entry}
use Rattle.journal_facts.specs.Members.{IsEntryMember}
use Rattle.journal_facts.proofs.members.push_masked.Goals as goal

pub returns-in_ok-push_mask : goal.returns-in_ok-push_mask
returns-in_ok-push_mask c = λ f.
    subst (λ (e : Entry). Contains c.push_mask.new.members.items f ↔ (Contains c.args.members.now.items f ⊎ IsEntryMember e f))
    (sym c.in-Mask.is) (c.in_ok-push_mask.ensures f)
