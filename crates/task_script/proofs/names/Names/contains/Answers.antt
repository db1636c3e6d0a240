-- The map has a number for each name, and for no other.
use Rattle.std.proofs.Common.{ℕ, List, ap, ◌∙◌}
use Rattle.std.specs.Prelude.{Option, is_some}
use Rattle.std.specs.List.{list_any}
use Rattle.std.specs.Str.{bytes_eq}
use Rattle.task_script.specs.Names.{texts}
use Rattle.task_script.proofs.NameLaws.{number-found}
use Rattle.task_script.proofs.names.Names.contains.Goals as goal

pub returns : goal.returns
returns c =
    c.contains_key.ensures
    ∙ ap (λ (o : Option ℕ). is_some o) (c.self.invariant c.args.name.now)
    ∙ number-found (texts c.self.inside.list.items) c.args.name.now
    ∙ ap (λ (l : List (List ℕ)). list_any (λ other. bytes_eq other c.args.name.now) l) c.self.view_is
