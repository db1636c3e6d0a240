use Rattle.std.proofs.Common.{◌≡◌, ◌%◌, ◌∙◌, set, ap, arith}
use Rattle.handoff_data.specs.declared.shape.Shape.{Shape}
use Rattle.std.proofs.lemmas.List.{length-set}
use Rattle.std.proofs.lemmas.List.Elements.{All-set}
use Rattle.run_rounds.proofs.Keeping.{go_on_again, go_on_one}
use Rattle.run_rounds.specs.Seats.{IsReady}
use Rattle.run_script.proofs.starts.start_all.Goals as goal

pub returns-in_err-start_one-clause-goes : goal.returns-in_err-start_one-clause-goes
returns-in_err-start_one-clause-goes g c =
    let at = c.loop-t.t % c.shape-shape.result.cpus in
    go_on_again g.G.Gate.told c.args.seats.now.items c.loop-t.seats.items (set c.loop-t.seats.items at c.start_one.new.seat) c.loop-t.invariant.goes
    (go_on_one g.G.Gate.told c.loop-t.seats.items at c.index_mut.result.now c.start_one.new.seat
    (let same = c.loop-t.invariant.count in let count = c.requires.count in let shape = c.shape-shape.ensures.shape in let some = c.shape-shape.ensures.valid.some_cpu in
    let cpus : c.shape-shape.result.cpus ≡ c.args.wk.now.shape.cpus = ap (λ (x : Shape). x.cpus) shape in omega (arith, same, count, cpus, some))
    c.index_mut.ensures.value c.start_one.ensures.goes)

pub loop-t-preserved : goal.loop-t-preserved
loop-t-preserved g c =
    let at = c.loop-t.t % c.shape-shape.result.cpus in
    record {
      goes = go_on_again g.G.Gate.told c.args.seats.now.items c.loop-t.seats.items (set c.loop-t.seats.items at c.start_one.new.seat) c.loop-t.invariant.goes
          (go_on_one g.G.Gate.told c.loop-t.seats.items at c.index_mut.result.now c.start_one.new.seat
          (let same = c.loop-t.invariant.count in let count = c.requires.count in let shape = c.shape-shape.ensures.shape in let some = c.shape-shape.ensures.valid.some_cpu in
          let cpus : c.shape-shape.result.cpus ≡ c.args.wk.now.shape.cpus = ap (λ (x : Shape). x.cpus) shape in omega (arith, same, count, cpus, some))
          c.index_mut.ensures.value c.start_one.ensures.goes);
      ready = All-set (IsReady c.args.wk.now) c.loop-t.seats.items at c.start_one.new.seat c.in_ok-start_one.ensures.ready c.loop-t.invariant.ready;
      count = length-set c.loop-t.seats.items at c.start_one.new.seat ∙ c.loop-t.invariant.count;
    }
