use Rattle.std.proofs.Common.{ℕ, List, Option, Some, None, ◌==◌, sym, ap, ◌∙◌}
use Rattle.core_data.specs.Found.{found}
use Rattle.core_data.specs.declared.held.HeldWorks.{HeldWorks}
use Rattle.core_data.specs.declared.values.WorkItem.{WorkItem}
use Rattle.step_stores.proofs.Writes.{get-works_out}
use Rattle.step_stores.proofs.outs.works_out.Goals as goal

pub returns : goal.returns
returns c =
    c.find_works.ensures
    ∙ ap (λ xs. found (λ (h : HeldWorks). c.args.c == h.c) (λ h. Some h.val) None xs) c.works.ensures
    ∙ ap (λ (f : ℕ → Option (List WorkItem)). f c.args.c) (sym (get-works_out c.args.core.now c.args.s c.index-row.result.now c.requires c.index-row.ensures))
