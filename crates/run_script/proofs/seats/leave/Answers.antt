use Rattle.std.proofs.Common.{◌≡◌, ◌∙◌, ◌++◌, ◌∷◌, [], List, length, map, sym, subst, ap, All, arith}
use Rattle.std.proofs.lemmas.List.{append_assoc, length_push, length-append}
use Rattle.std.proofs.lemmas.List.Elements.{All-push}
use Rattle.std.specs.Option.{option_to_list}
use Rattle.run_rounds.specs.declared.seat.Seat.{Seat}
use Rattle.run_script.specs.Seated.{pass_of, gates_in}
use Rattle.task_words.specs.Views.{PassView}
use Rattle.word_steps.specs.Folds.{journal}
use Rattle.run_script.proofs.seats.leave.Goals as goal

pub loop-seat-preserved : goal.loop-seat-preserved
loop-seat-preserved g c =
    let was = c.loop-seat.invariant in
    let step = c.in-Some.ensures.steps.0 in
    let rest : List (Seat g.row.G.Denot) = c.next.new.self.rest.items in
    let pass : PassView = c.in-Some.seat.pass in
    let gate = option_to_list c.in-Some.seat.gate in
    let pushed = c.push_reserved.ensures.items in
    let put = c.put_back.ensures.gates in
    record {
      can_next = tt;
      is_finite = tt;
      passes = ap (λ (ps : List PassView). ps ++ map pass_of rest) pushed ∙ append_assoc c.loop-seat.passes.items (pass ∷ []) (map pass_of rest)
          ∙ ap (λ (xs : List (Seat g.row.G.Denot)). c.loop-seat.passes.items ++ map pass_of xs) (sym step) ∙ was.passes;
      tied = subst (All (λ (p : PassView). journal p.seat p.trace ≡ p.told ++ p.turn.entries)) (sym pushed)
          (All-push (λ (p : PassView). journal p.seat p.trace ≡ p.told ++ p.turn.entries) c.loop-seat.passes.items pass was.tied c.turn-turn.ensures.tied);
      gates = ap (λ (hs : List g.row.G.Denot). hs ++ gates_in rest) put ∙ append_assoc c.loop-seat.gates.items gate (gates_in rest)
          ∙ ap (λ (xs : List (Seat g.row.G.Denot)). c.loop-seat.gates.items ++ gates_in xs) (sym step) ∙ was.gates;
      passes_fit = (let a = length_push c.loop-seat.passes.items pass in let b = ap length pushed in let d = ap length step in
          let e = c.push_reserved.ensures.capacity in let f = was.passes_fit in omega (arith, a, b, d, e, f));
      gates_fit = (let a = length-append c.loop-seat.gates.items gate in let b = ap length put in
          let d = ap (λ (xs : List (Seat g.row.G.Denot)). length (gates_in xs)) step in let h = length-append gate (gates_in rest) in
          let e = c.put_back.ensures.capacity in let f = was.gates_fit in omega (arith, a, b, d, e, f, h));
      capacity = c.put_back.ensures.capacity ∙ was.capacity;
    }
