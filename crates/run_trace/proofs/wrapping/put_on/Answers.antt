use Rattle.std.proofs.Common.{rules, suc, ◌≡◌, ◌<◌, ◌+◌, ◌-◌, ◌∙◌, ◌++◌, ◌∷◌, [], ℕ, List, length, sym, ap, arith}
use Rattle.std.specs.Prelude.{Option, None}
use Rattle.std.proofs.lemmas.List.{append_assoc, length_push}
use Rattle.std.specs.Vec.Iter.{into_iter_items}
use Rattle.run_trace.specs.Keeping.{Keeping}
use Rattle.run_trace.specs.Wrapped.{firsts, gates_left}
use Rattle.run_trace.proofs.Sitting.{no_gate, one_first, one_left}
use Rattle.run_trace.proofs.wrapping.put_on.Goals as goal

pub loop-preserved : goal.loop-preserved
loop-preserved g c =
    let was = c.loop.invariant in
    let n : ℕ = c.args.count - (c.loop.counter + 1) in
    let o : Option g.row.G.Denot = c.next.result in
    let gates : List g.row.G.Denot = into_iter_items c.loop.gates in
    let less : List g.row.G.Denot = into_iter_items c.next.new.self in
    let front : List (Keeping g.row.G.Denot) = c.loop.kept.items in
    let low : c.loop.counter < c.args.count = (let a = c.loop-test.true in omega (arith, a)) in
    let count : c.args.count - c.loop.counter ≡ suc n = omega (arith, low) in
    let none : o ≡ None → gates ≡ [] = no_gate c.loop.gates c.next.new.self o c.next.ensures.cases (search rules) in
    let pushed = c.push_reserved.ensures.items in
    record {
      kept = ap (λ (ks : List (Keeping g.row.G.Denot)). ks ++ firsts n less) pushed
          ∙ append_assoc front (c.new.result ∷ []) (firsts n less)
          ∙ ap (λ (k : Keeping g.row.G.Denot). front ++ k ∷ firsts n less) c.new.ensures
          ∙ ap (λ (ks : List (Keeping g.row.G.Denot)). front ++ ks) (one_first n gates less o c.next.ensures.items none)
          ∙ ap (λ (m : ℕ). front ++ firsts m gates) (sym count)
          ∙ was.kept;
      left = one_left n gates less o c.next.ensures.items none ∙ ap (λ (m : ℕ). gates_left m gates) (sym count) ∙ was.left;
      many = ap length pushed ∙ length_push front c.new.result ∙ ap (λ (m : ℕ). m + 1) was.many;
      low = omega (arith, low);
      room = (let a = was.room in let b = c.push_reserved.ensures.capacity in omega (arith, a, b));
    }
