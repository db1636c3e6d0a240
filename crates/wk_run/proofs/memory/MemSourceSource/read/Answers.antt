-- The part that was copied, and the part that is left, make up what there was.
use Rattle.std.proofs.Common.{◌≡◌, length, take, drop, min, ◌∙◌, sym, ap}
use Rattle.wk_run.specs.Memory.{End}
use Rattle.wk_run.proofs.Fronts.{front-rest, front-end}
use Rattle.wk_run.proofs.memory.MemSourceSource.read.Goals as goal

pub returns-clause-bytes : goal.returns-clause-bytes
returns-clause-bytes c =
    let here : c.args.self.now.bytes ≡ drop c.self.inside.at c.self.inside.bytes.items = sym (ap (λ (e : End). e.bytes) c.self.view_is) in
    let left : c.split_at.result.1.now ≡ drop c.self.inside.at c.self.inside.bytes.items = cc in
    let copied : take c.copy_front-n.result c.copy_front-n.new.to ≡ take c.copy_front-n.result (drop c.self.inside.at c.self.inside.bytes.items) = cc in
    let count : c.copy_front-n.result ≡ min (length (drop c.self.inside.at c.self.inside.bytes.items)) (length c.copy_front-n.new.to) = cc in
    (here ∙ front-rest _ _ _ _ copied, λ none room. front-end _ _ _ _ count none room)
