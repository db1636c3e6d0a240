use Rattle.std.proofs.Common.{rules, ◌≡◌, ◌+◌, ◌∙◌, ◌++◌, List, Vec, All, length, sym, subst, ap, arith}
use Rattle.std.proofs.lemmas.List.{length-append}
use Rattle.std.specs.Global.{Global}
use Rattle.std.specs.Vec.{vec_len, vec_capacity}
use Rattle.std.specs.Vec.Iter.{into_iter_items}
use Rattle.run_script.proofs.Homes.{seats_count, firsts_ready}
use Rattle.run_script.proofs.Runs.{many_seats, many_gates, were_told, has_run}
use Rattle.run_script.specs.Ran.{HasRun}
use Rattle.run_script.specs.Seated.{gates_in, gates_left, AreSeated}
use Rattle.task_words.specs.Views.{PassView}
use Rattle.word_steps.specs.Folds.{journal}
use Rattle.run_script.proofs.whole.run_gates.Goals as goal

pub run_seats-run-requires-clause-ready : goal.run_seats-run-requires-clause-ready
run_seats-run-requires-clause-ready g c κs within =
    let ps : List PassView = c.args.passes.items in
    let gs : List g.row.G.Denot = c.args.gates.now.items in
    let same : into_iter_items c.into_iter-given.result ≡ gs =
    c.into_iter-given.ensures.rest ∙ ap (λ (v : Vec g.row.G.Denot Global). v.items) c.replace.ensures.value in
    let are : AreSeated ps gs c.sit.new.seats.items =
    subst (λ (hs : List g.row.G.Denot). AreSeated ps hs c.sit.new.seats.items) same c.sit.ensures.seats in
    firsts_ready c.args.wk.now c.args.wk.now.shape.cpus ps gs c.sit.new.seats.items c.requires.passes are (λ j. c.args.wk.now.shape.cpus)

pub run_seats-run-requires-clause-count : goal.run_seats-run-requires-clause-count
run_seats-run-requires-clause-count g c κs within =
    let ps : List PassView = c.args.passes.items in
    let gs : List g.row.G.Denot = c.args.gates.now.items in
    let same : into_iter_items c.into_iter-given.result ≡ gs =
    c.into_iter-given.ensures.rest ∙ ap (λ (v : Vec g.row.G.Denot Global). v.items) c.replace.ensures.value in
    let are : AreSeated ps gs c.sit.new.seats.items =
    subst (λ (hs : List g.row.G.Denot). AreSeated ps hs c.sit.new.seats.items) same c.sit.ensures.seats in
    seats_count c.args.wk.now c.args.wk.now.shape.cpus ps gs c.sit.new.seats.items c.requires.passes are

pub leave-requires-clause-passes_fit : goal.leave-requires-clause-passes_fit
leave-requires-clause-passes_fit g c =
    let ps : List PassView = c.args.passes.items in
    let gs : List g.row.G.Denot = c.args.gates.now.items in
    let same : into_iter_items c.into_iter-given.result ≡ gs =
    c.into_iter-given.ensures.rest ∙ ap (λ (v : Vec g.row.G.Denot Global). v.items) c.replace.ensures.value in
    let are : AreSeated ps gs c.sit.new.seats.items =
    subst (λ (hs : List g.row.G.Denot). AreSeated ps hs c.sit.new.seats.items) same c.sit.ensures.seats in
    let many : length c.run_seats-run.new.seats.items ≡ length ps =
    many_seats g.G.Gate.told c.args.wk.now ps gs c.sit.new.seats.items c.run_seats-run.new.seats.items c.requires.passes are c.run_seats-run.ensures.goes in
    let len : vec_len c.args.passes ≡ length ps = search rules in
    let room : vec_capacity c.in_ok-back.back ≡ length ps = c.in_ok-back.ensures.exact ∙ c.len-2.ensures ∙ len in
    omega (arith, many, room)

pub leave-requires-clause-gates_fit : goal.leave-requires-clause-gates_fit
leave-requires-clause-gates_fit g c =
    let ps : List PassView = c.args.passes.items in
    let gs : List g.row.G.Denot = c.args.gates.now.items in
    let same : into_iter_items c.into_iter-given.result ≡ gs =
    c.into_iter-given.ensures.rest ∙ ap (λ (v : Vec g.row.G.Denot Global). v.items) c.replace.ensures.value in
    let are : AreSeated ps gs c.sit.new.seats.items =
    subst (λ (hs : List g.row.G.Denot). AreSeated ps hs c.sit.new.seats.items) same c.sit.ensures.seats in
    let many : length (gates_in c.run_seats-run.new.seats.items) + length (gates_left ps gs) ≡ length gs =
    many_gates g.G.Gate.told c.args.wk.now ps gs c.sit.new.seats.items c.run_seats-run.new.seats.items c.requires.passes are c.run_seats-run.ensures.goes in
    let len : vec_len c.args.gates.now ≡ length gs = search rules in
    let room : vec_capacity c.replace.new.dest ≡ length gs =
    ap (λ (v : Vec g.row.G.Denot Global). vec_capacity v) c.replace.ensures.after ∙ c.in_ok-home.ensures.exact ∙ c.len-3.ensures ∙ len in
    omega (arith, many, room)

pub put_rest-requires : goal.put_rest-requires
put_rest-requires g c =
    let ps : List PassView = c.args.passes.items in
    let gs : List g.row.G.Denot = c.args.gates.now.items in
    let same : into_iter_items c.into_iter-given.result ≡ gs =
    c.into_iter-given.ensures.rest ∙ ap (λ (v : Vec g.row.G.Denot Global). v.items) c.replace.ensures.value in
    let are : AreSeated ps gs c.sit.new.seats.items =
    subst (λ (hs : List g.row.G.Denot). AreSeated ps hs c.sit.new.seats.items) same c.sit.ensures.seats in
    let many : length (gates_in c.run_seats-run.new.seats.items) + length (gates_left ps gs) ≡ length gs =
    many_gates g.G.Gate.told c.args.wk.now ps gs c.sit.new.seats.items c.run_seats-run.new.seats.items c.requires.passes are c.run_seats-run.ensures.goes in
    let left : into_iter_items c.sit.new.gates ≡ gates_left ps gs = c.sit.ensures.left ∙ ap (gates_left ps) same in
    let len : vec_len c.args.gates.now ≡ length gs = search rules in
    let room : vec_capacity c.replace.new.dest ≡ length gs =
    ap (λ (v : Vec g.row.G.Denot Global). vec_capacity v) c.replace.ensures.after ∙ c.in_ok-home.ensures.exact ∙ c.len-3.ensures ∙ len in
    record {
      room = (let a = ap length c.leave.ensures.gates in let b = ap length left in let d = c.leave.ensures.capacity in omega (arith, many, room, a, b, d));
    }

pub returns-in_err-run-clause-count : goal.returns-in_err-run-clause-count
returns-in_err-run-clause-count g c =
    let ps : List PassView = c.args.passes.items in
    let gs : List g.row.G.Denot = c.args.gates.now.items in
    let same : into_iter_items c.into_iter-given.result ≡ gs =
    c.into_iter-given.ensures.rest ∙ ap (λ (v : Vec g.row.G.Denot Global). v.items) c.replace.ensures.value in
    let are : AreSeated ps gs c.sit.new.seats.items =
    subst (λ (hs : List g.row.G.Denot). AreSeated ps hs c.sit.new.seats.items) same c.sit.ensures.seats in
    let many : length (gates_in c.run_seats-run.new.seats.items) + length (gates_left ps gs) ≡ length gs =
    many_gates g.G.Gate.told c.args.wk.now ps gs c.sit.new.seats.items c.run_seats-run.new.seats.items c.requires.passes are c.run_seats-run.ensures.goes in
    let left : into_iter_items c.sit.new.gates ≡ gates_left ps gs = c.sit.ensures.left ∙ ap (gates_left ps) same in
    let new : c.put_rest.new.gates.items ≡ gates_in c.run_seats-run.new.seats.items ++ gates_left ps gs =
    c.put_rest.ensures ∙ (λ j. c.leave.ensures.gates j ++ left j) in
    ap length new ∙ length-append (gates_in c.run_seats-run.new.seats.items) (gates_left ps gs) ∙ many

pub returns-clause-count : goal.returns-clause-count
returns-clause-count g c =
    let ps : List PassView = c.args.passes.items in
    let gs : List g.row.G.Denot = c.args.gates.now.items in
    let same : into_iter_items c.into_iter-given.result ≡ gs =
    c.into_iter-given.ensures.rest ∙ ap (λ (v : Vec g.row.G.Denot Global). v.items) c.replace.ensures.value in
    let are : AreSeated ps gs c.sit.new.seats.items =
    subst (λ (hs : List g.row.G.Denot). AreSeated ps hs c.sit.new.seats.items) same c.sit.ensures.seats in
    let many : length (gates_in c.run_seats-run.new.seats.items) + length (gates_left ps gs) ≡ length gs =
    many_gates g.G.Gate.told c.args.wk.now ps gs c.sit.new.seats.items c.run_seats-run.new.seats.items c.requires.passes are c.run_seats-run.ensures.goes in
    let left : into_iter_items c.sit.new.gates ≡ gates_left ps gs = c.sit.ensures.left ∙ ap (gates_left ps) same in
    let new : c.put_rest.new.gates.items ≡ gates_in c.run_seats-run.new.seats.items ++ gates_left ps gs =
    c.put_rest.ensures ∙ (λ j. c.leave.ensures.gates j ++ left j) in
    ap length new ∙ length-append (gates_in c.run_seats-run.new.seats.items) (gates_left ps gs) ∙ many

pub returns-clause-ran : goal.returns-clause-ran
returns-clause-ran g c =
    let ps : List PassView = c.args.passes.items in
    let gs : List g.row.G.Denot = c.args.gates.now.items in
    let same : into_iter_items c.into_iter-given.result ≡ gs =
    c.into_iter-given.ensures.rest ∙ ap (λ (v : Vec g.row.G.Denot Global). v.items) c.replace.ensures.value in
    let are : AreSeated ps gs c.sit.new.seats.items =
    subst (λ (hs : List g.row.G.Denot). AreSeated ps hs c.sit.new.seats.items) same c.sit.ensures.seats in
    let left : into_iter_items c.sit.new.gates ≡ gates_left ps gs = c.sit.ensures.left ∙ ap (gates_left ps) same in
    let new : c.put_rest.new.gates.items ≡ gates_in c.run_seats-run.new.seats.items ++ gates_left ps gs =
    c.put_rest.ensures ∙ (λ j. c.leave.ensures.gates j ++ left j) in
    subst (HasRun g.G.Gate.told c.args.wk.now gs c.put_rest.new.gates.items) (sym c.leave.ensures.passes)
    (has_run g.G.Gate.told c.args.wk.now ps gs c.sit.new.seats.items c.run_seats-run.new.seats.items c.requires.passes are c.run_seats-run.ensures.goes
    c.requires.agents c.in_ok-run.ensures.ready c.in_ok-run.ensures.over
    (subst (All (λ (p : PassView). journal p.seat p.trace ≡ p.told ++ p.turn.entries)) c.leave.ensures.passes c.leave.ensures.tied)
    c.put_rest.new.gates.items new)

pub returns-in_err-run-clause-part : goal.returns-in_err-run-clause-part
returns-in_err-run-clause-part g c =
    let ps : List PassView = c.args.passes.items in
    let gs : List g.row.G.Denot = c.args.gates.now.items in
    let same : into_iter_items c.into_iter-given.result ≡ gs =
    c.into_iter-given.ensures.rest ∙ ap (λ (v : Vec g.row.G.Denot Global). v.items) c.replace.ensures.value in
    let are : AreSeated ps gs c.sit.new.seats.items =
    subst (λ (hs : List g.row.G.Denot). AreSeated ps hs c.sit.new.seats.items) same c.sit.ensures.seats in
    let left : into_iter_items c.sit.new.gates ≡ gates_left ps gs = c.sit.ensures.left ∙ ap (gates_left ps) same in
    let new : c.put_rest.new.gates.items ≡ gates_in c.run_seats-run.new.seats.items ++ gates_left ps gs =
    c.put_rest.ensures ∙ (λ j. c.leave.ensures.gates j ++ left j) in
    were_told g.G.Gate.told c.args.wk.now ps gs c.sit.new.seats.items c.run_seats-run.new.seats.items c.requires.passes are c.run_seats-run.ensures.goes
    c.put_rest.new.gates.items new

pub returns-clause-part : goal.returns-clause-part
returns-clause-part g c =
    let ps : List PassView = c.args.passes.items in
    let gs : List g.row.G.Denot = c.args.gates.now.items in
    let same : into_iter_items c.into_iter-given.result ≡ gs =
    c.into_iter-given.ensures.rest ∙ ap (λ (v : Vec g.row.G.Denot Global). v.items) c.replace.ensures.value in
    let are : AreSeated ps gs c.sit.new.seats.items =
    subst (λ (hs : List g.row.G.Denot). AreSeated ps hs c.sit.new.seats.items) same c.sit.ensures.seats in
    let left : into_iter_items c.sit.new.gates ≡ gates_left ps gs = c.sit.ensures.left ∙ ap (gates_left ps) same in
    let new : c.put_rest.new.gates.items ≡ gates_in c.run_seats-run.new.seats.items ++ gates_left ps gs =
    c.put_rest.ensures ∙ (λ j. c.leave.ensures.gates j ++ left j) in
    were_told g.G.Gate.told c.args.wk.now ps gs c.sit.new.seats.items c.run_seats-run.new.seats.items c.requires.passes are c.run_seats-run.ensures.goes
    c.put_rest.new.gates.items new
