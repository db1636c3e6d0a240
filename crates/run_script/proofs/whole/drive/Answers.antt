use Rattle.std.proofs.Common.{rules, ◌≡◌, ◌<◌, ◌∙◌, All, length, sym, subst}
use Rattle.std.proofs.lemmas.Result.{on_ok_weaker}
use Rattle.run_rounds.specs.Seats.{IsReady, GoOn}
use Rattle.run_script.proofs.Driving.{crew_some, to_workers, from_workers, over_all, driven}
use Rattle.run_script.specs.Seated.{AreOver}
use Rattle.run_script.proofs.whole.drive.Goals as goal

pub deal-requires-clause-some : goal.deal-requires-clause-some
deal-requires-clause-some g c =
    let count : c.len-count.result ≡ length c.args.seats.now.items = search rules in
    crew_some c.in_ok-crew.crew.items c.min.result c.args.workers c.len-count.result c.args.wk.now.shape.cpus c.in_ok-crew.ensures.none
    c.min.ensures (count ∙ c.requires.count) c.shape.ensures.valid.some_cpu c.requires.workers

pub run_rounds-run-requires-clause-ready : goal.run_rounds-run-requires-clause-ready
run_rounds-run-requires-clause-ready g c κs within =
    let count : c.len-count.result ≡ length c.args.seats.now.items = search rules in
    let some : 0 < length c.in_ok-crew.crew.items =
    crew_some c.in_ok-crew.crew.items c.min.result c.args.workers c.len-count.result c.args.wk.now.shape.cpus c.in_ok-crew.ensures.none
    c.min.ensures (count ∙ c.requires.count) c.shape.ensures.valid.some_cpu c.requires.workers in
    to_workers (length c.in_ok-crew.crew.items) some c.deal.new.workers.items c.args.seats.now.items c.deal.ensures.dealt
    (IsReady c.args.wk.now) c.requires.ready

pub gather-requires-clause-some : goal.gather-requires-clause-some
gather-requires-clause-some g c =
    let count : c.len-count.result ≡ length c.args.seats.now.items = search rules in
    let some : 0 < length c.in_ok-crew.crew.items =
    crew_some c.in_ok-crew.crew.items c.min.result c.args.workers c.len-count.result c.args.wk.now.shape.cpus c.in_ok-crew.ensures.none
    c.min.ensures (count ∙ c.requires.count) c.shape.ensures.valid.some_cpu c.requires.workers in
    subst (λ n. 0 < n) (sym (c.run_rounds-run.ensures.count ∙ c.deal.ensures.count)) some

pub gather-requires-clause-dealt : goal.gather-requires-clause-dealt
gather-requires-clause-dealt g c =
    let count : c.len-count.result ≡ length c.args.seats.now.items = search rules in
    let some : 0 < length c.in_ok-crew.crew.items =
    crew_some c.in_ok-crew.crew.items c.min.result c.args.workers c.len-count.result c.args.wk.now.shape.cpus c.in_ok-crew.ensures.none
    c.min.ensures (count ∙ c.requires.count) c.shape.ensures.valid.some_cpu c.requires.workers in
    let d = driven g.G.Gate.told (length c.in_ok-crew.crew.items) some c.deal.new.workers.items c.run_rounds-run.new.workers.items c.args.seats.now.items
    c.deal.ensures.count c.run_rounds-run.ensures.count c.run_rounds-run.ensures.goes c.deal.ensures.dealt in
    (d.list, d.many ∙ sym count, d.rows_are)

pub returns-clause-goes : goal.returns-clause-goes
returns-clause-goes g c =
    let count : c.len-count.result ≡ length c.args.seats.now.items = search rules in
    let some : 0 < length c.in_ok-crew.crew.items =
    crew_some c.in_ok-crew.crew.items c.min.result c.args.workers c.len-count.result c.args.wk.now.shape.cpus c.in_ok-crew.ensures.none
    c.min.ensures (count ∙ c.requires.count) c.shape.ensures.valid.some_cpu c.requires.workers in
    let d = driven g.G.Gate.told (length c.in_ok-crew.crew.items) some c.deal.new.workers.items c.run_rounds-run.new.workers.items c.args.seats.now.items
    c.deal.ensures.count c.run_rounds-run.ensures.count c.run_rounds-run.ensures.goes c.deal.ensures.dealt in
    subst (GoOn g.G.Gate.told c.args.seats.now.items) (sym (c.gather.ensures d.list (d.many ∙ sym count) d.rows_are)) d.goes

pub returns-clause-ready : goal.returns-clause-ready
returns-clause-ready g c =
    let count : c.len-count.result ≡ length c.args.seats.now.items = search rules in
    let some : 0 < length c.in_ok-crew.crew.items =
    crew_some c.in_ok-crew.crew.items c.min.result c.args.workers c.len-count.result c.args.wk.now.shape.cpus c.in_ok-crew.ensures.none
    c.min.ensures (count ∙ c.requires.count) c.shape.ensures.valid.some_cpu c.requires.workers in
    let d = driven g.G.Gate.told (length c.in_ok-crew.crew.items) some c.deal.new.workers.items c.run_rounds-run.new.workers.items c.args.seats.now.items
    c.deal.ensures.count c.run_rounds-run.ensures.count c.run_rounds-run.ensures.goes c.deal.ensures.dealt in
    let some' : 0 < length c.run_rounds-run.new.workers.items = subst (λ n. 0 < n) (sym (c.run_rounds-run.ensures.count ∙ c.deal.ensures.count)) some in
    on_ok_weaker c.run_rounds-run.result
    (λ all. subst (All (IsReady c.args.wk.now)) (sym (c.gather.ensures d.list (d.many ∙ sym count) d.rows_are))
    (from_workers (length c.run_rounds-run.new.workers.items) some' c.run_rounds-run.new.workers.items d.list d.rows_are (IsReady c.args.wk.now) all))
    c.run_rounds-run.ensures.ready

pub returns-clause-over : goal.returns-clause-over
returns-clause-over g c =
    let count : c.len-count.result ≡ length c.args.seats.now.items = search rules in
    let some : 0 < length c.in_ok-crew.crew.items =
    crew_some c.in_ok-crew.crew.items c.min.result c.args.workers c.len-count.result c.args.wk.now.shape.cpus c.in_ok-crew.ensures.none
    c.min.ensures (count ∙ c.requires.count) c.shape.ensures.valid.some_cpu c.requires.workers in
    let d = driven g.G.Gate.told (length c.in_ok-crew.crew.items) some c.deal.new.workers.items c.run_rounds-run.new.workers.items c.args.seats.now.items
    c.deal.ensures.count c.run_rounds-run.ensures.count c.run_rounds-run.ensures.goes c.deal.ensures.dealt in
    let some' : 0 < length c.run_rounds-run.new.workers.items = subst (λ n. 0 < n) (sym (c.run_rounds-run.ensures.count ∙ c.deal.ensures.count)) some in
    on_ok_weaker c.run_rounds-run.result
    (λ over. subst (AreOver c.args.wk.now.shape.tasks) (sym (c.gather.ensures d.list (d.many ∙ sym count) d.rows_are))
    (over_all (length c.run_rounds-run.new.workers.items) some' c.run_rounds-run.new.workers.items d.list d.rows_are c.args.wk.now.shape.tasks over))
    c.run_rounds-run.ensures.over
