use Rattle.std.proofs.Common.{rules, refl, ◌≡◌, ◌∙◌, ◌++◌, ◌∷◌, [], List, length, sym, subst, ap, arith}
use Rattle.std.specs.Prelude.{None}
use Rattle.std.proofs.lemmas.List.{append-nil, append_assoc, length_push, nil_from_length}
use Rattle.std.specs.Vec.Iter.{into_iter_items, into_iter_len}
use Rattle.run_rounds.specs.declared.seat.Seat.{Seat}
use Rattle.run_script.proofs.Sitting.{no_gate, one_seated, one_left}
use Rattle.run_script.specs.Seated.{AreSeated, gates_left}
use Rattle.task_words.specs.Views.{PassView}
use Rattle.run_script.proofs.seats.sit.Goals as goal

pub loop-pass-preserved : goal.loop-pass-preserved
loop-pass-preserved g c =
    let was = c.loop-pass.invariant in
    let step = c.in-Some.ensures.steps.0 in
    let rest = c.next.new.self.rest.items in
    let p : PassView = c.in-Some.pass in
    let x : Seat g.row.G.Denot = record { pass = c.in-Some.pass; gate = c.next-in-loop-pass.result; dead = c.new.result } in
    let gates = into_iter_items c.loop-pass.gates in
    let less = into_iter_items c.next-in-loop-pass.new.self in
    let none : c.next-in-loop-pass.result ≡ None → gates ≡ [] =
    no_gate c.loop-pass.gates c.next-in-loop-pass.new.self c.next-in-loop-pass.result c.next-in-loop-pass.ensures.cases (search rules) in
    record {
      can_next = tt;
      is_finite = tt;
      seats = λ more are.
          subst (AreSeated c.args.passes.items (into_iter_items c.args.gates.now))
          (sym (append_assoc c.loop-pass.seats.items (x ∷ []) more) ∙ ap (λ (xs : List (Seat g.row.G.Denot)). xs ++ more) (sym c.push_reserved.ensures.items))
          (was.seats (x ∷ more) (subst (λ (ps : List PassView). AreSeated ps gates (x ∷ more)) (sym step)
          (one_seated p rest gates less c.next-in-loop-pass.result x more c.next-in-loop-pass.ensures.items none refl refl c.new.ensures.items are)));
      left = one_left p rest gates less c.next-in-loop-pass.result c.next-in-loop-pass.ensures.items none
          ∙ ap (λ (ps : List PassView). gates_left ps gates) (sym step) ∙ was.left;
      fits = (let a = length_push c.loop-pass.seats.items x in let b = ap length c.push_reserved.ensures.items in let d = ap length step in
          let e = c.push_reserved.ensures.capacity in let f = was.fits in omega (arith, a, b, d, e, f));
    }

pub returns-clause-seats : goal.returns-clause-seats
returns-clause-seats g c =
    let was = c.loop-pass.invariant in
    let len : into_iter_len c.loop-pass.pass-iterator ≡ length (into_iter_items c.loop-pass.pass-iterator) = search rules in
    let none : into_iter_items c.loop-pass.pass-iterator ≡ [] =
    nil_from_length (into_iter_items c.loop-pass.pass-iterator) (sym len ∙ c.in-None.ensures.steps.0) in
    subst (AreSeated c.args.passes.items (into_iter_items c.args.gates.now)) (append-nil c.loop-pass.seats.items)
    (was.seats [] (subst (λ (ps : List PassView). AreSeated ps (into_iter_items c.loop-pass.gates) []) (sym none) tt))
