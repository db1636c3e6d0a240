-- The map has the number of the first place of one more name.
use Rattle.std.proofs.Common.{◌≡◌, ℕ, true, false, length, refl, sym, ap, ◌∙◌}
use Rattle.std.specs.Prelude.{Option, is_some}
use Rattle.task_script.specs.Script.{number_of}
use Rattle.task_script.specs.Names.{texts}
use Rattle.task_script.proofs.NameLaws.{numbered-more, numbered-again, not_some}
use Rattle.task_script.proofs.names.Names.push.Goals as goal

pub invariant_of-self-then-contains_key : goal.invariant_of-self-then-contains_key
invariant_of-self-then-contains_key c =
    let there : is_some (number_of (texts c.self.inside.list.items) c.args.name.now) ≡ true =
    sym (ap (λ (o : Option ℕ). is_some o) (c.self.invariant c.args.name.now)) ∙ sym c.contains_key.ensures ∙ c.if-contains_key.true in
    rw c.in_ok-push.ensures.items
    (numbered-again c.self.inside.list.items c.self.inside.numbers c.args.name (number_of (texts c.self.inside.list.items) c.args.name.now) c.self.invariant refl there)

pub invariant_of-self-else-is_err : goal.invariant_of-self-else-is_err
invariant_of-self-else-is_err c =
    let absent : is_some (number_of (texts c.self.inside.list.items) c.args.name.now) ≡ false =
    sym (ap (λ (o : Option ℕ). is_some o) (c.self.invariant c.args.name.now)) ∙ sym c.contains_key.ensures ∙ c.if-contains_key.false in
    let count : c.len-number.result ≡ length c.self.inside.list.items = c.len-number.ensures ∙ c.self.inside.list.ok.0 in
    rw c.in_ok-push-2.ensures.items
    (numbered-more c.self.inside.list.items c.self.inside.numbers c.insert.new.self c.args.name c.len-number.result c.insert.result c.self.invariant
    (not_some _ absent) count (sym c.is_err.ensures.value ∙ c.if-is_err.false) c.insert.ensures.updates)
