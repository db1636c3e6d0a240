use Rattle.std.proofs.Common.{◌≡◌, ◌∙◌, sym, ap, List}
use Rattle.core_data.specs.declared.values.WorkItem.{WorkItem}
use Rattle.step_gives.proofs.WorksLemmas.{works-decides}
use Rattle.step_gives.proofs.works.is_same.Goals as goal

pub returns : goal.returns
returns c =
    let decides = works-decides c.a.inside.items.items c.b.inside.items.items c.eq.result c.eq.ensures in
    (λ h. sym c.a.view_is ∙ decides.0 h ∙ c.b.view_is, λ same. decides.1 (c.a.view_is ∙ same ∙ sym c.b.view_is))
