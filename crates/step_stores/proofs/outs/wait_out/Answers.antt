use Rattle.std.proofs.Common.{ℕ, List, Option, Some, None, ◌==◌, sym, ap, ◌∙◌}
use Rattle.core_data.specs.Found.{found}
use Rattle.core_data.specs.declared.held.HeldWait.{HeldWait}
use Rattle.core_data.specs.declared.values.WaitEntry.{WaitEntry}
use Rattle.step_stores.proofs.Writes.{get-wait_out}
use Rattle.step_stores.proofs.outs.wait_out.Goals as goal

pub returns : goal.returns
returns c =
    c.find_wait.ensures
    ∙ ap (λ xs. found (λ (h : HeldWait). c.args.k == h.k) (λ h. Some h.val) None xs) c.waits.ensures
    ∙ ap (λ (f : ℕ → Option (List WaitEntry)). f c.args.k) (sym (get-wait_out c.args.core.now c.args.s c.index-row.result.now c.requires c.index-row.ensures))
