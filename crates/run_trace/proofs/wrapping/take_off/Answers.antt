use Rattle.std.proofs.Common.{◌≡◌, ◌∙◌, ◌++◌, ◌∷◌, [], List, Vec, length, map, sym, subst, ap, All, arith}
use Rattle.std.specs.Prelude.{Option}
use Rattle.std.specs.Global.{Global}
use Rattle.std.specs.Option.{option_to_list}
use Rattle.std.proofs.lemmas.List.{append_assoc, length_push, length-append}
use Rattle.std.proofs.lemmas.List.Elements.{All-cons}
use Rattle.handoff_data.specs.declared.entry.Entry.{Entry}
use Rattle.run_trace.specs.Keeping.{Keeping, Follows}
use Rattle.run_trace.specs.Wrapped.{gates_in, entries_of, items_of}
use Rattle.run_trace.proofs.Homes.{one_list}
use Rattle.run_trace.proofs.wrapping.take_off.Goals as goal

pub loop-one-preserved : goal.loop-one-preserved
loop-one-preserved g c =
    let was = c.loop-one.invariant in
    let step = c.in-Some.ensures.steps.0 in
    let rest : List (Keeping g.row.G.Denot) = c.next.new.self.rest.items in
    let one : Keeping g.row.G.Denot = c.in-Some.one in
    let gate : Option g.row.G.Denot = c.take_apart-gate.result.0 in
    let entries : Vec Entry Global = c.take_apart-gate.result.1 in
    let pushed = c.push_reserved.ensures.items in
    let put = c.put_back.ensures.gates in
    record {
      can_next = tt;
      is_finite = tt;
      lists = ap (λ (vs : List (Vec Entry Global)). map items_of vs ++ map entries_of rest) pushed
          ∙ one_list c.loop-one.lists.items entries one rest c.take_apart-gate.ensures.entries
          ∙ ap (λ (xs : List (Keeping g.row.G.Denot)). map items_of c.loop-one.lists.items ++ map entries_of xs) (sym step) ∙ was.lists;
      gates = ap (λ (hs : List g.row.G.Denot). hs ++ gates_in rest) put
          ∙ append_assoc c.loop-one.gates.items (option_to_list gate) (gates_in rest)
          ∙ ap (λ (o : Option g.row.G.Denot). c.loop-one.gates.items ++ (option_to_list o ++ gates_in rest)) c.take_apart-gate.ensures.gate
          ∙ ap (λ (xs : List (Keeping g.row.G.Denot)). c.loop-one.gates.items ++ gates_in xs) (sym step) ∙ was.gates;
      follows = λ all. was.follows (subst (All (Follows g.G.Gate.told)) (sym step)
          (All-cons (Follows g.G.Gate.told) one rest c.take_apart-gate.ensures.follows all));
      lists_fit = (let a = length_push c.loop-one.lists.items entries in let b = ap length pushed in let d = ap length step in
          let e = c.push_reserved.ensures.capacity in let f = was.lists_fit in omega (arith, a, b, d, e, f));
      gates_fit = (let a = length-append c.loop-one.gates.items (option_to_list gate) in let b = ap length put in
          let d = ap (λ (xs : List (Keeping g.row.G.Denot)). length (gates_in xs)) step in
          let h = length-append (option_to_list one.gate) (gates_in rest) in
          let i = ap (λ (o : Option g.row.G.Denot). length (option_to_list o)) c.take_apart-gate.ensures.gate in
          let e = c.put_back.ensures.capacity in let f = was.gates_fit in omega (arith, a, b, d, e, f, h, i));
      capacity = c.put_back.ensures.capacity ∙ was.capacity;
    }
