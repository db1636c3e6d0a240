use Rattle.std.proofs.Common.{rules, ◌≡◌, ◌+◌, ◌∙◌, ◌++◌, ℕ, List, Vec, length, sym, ap, arith}
use Rattle.std.proofs.lemmas.List.{length-append}
use Rattle.std.specs.Global.{Global}
use Rattle.std.specs.Vec.{vec_len, vec_capacity}
use Rattle.std.specs.Vec.Iter.{into_iter_items}
use Rattle.run_trace.proofs.Homes.{gates_home, seats, were_told, traced}
use Rattle.run_trace.specs.Keeping.{Keeping}
use Rattle.run_trace.specs.Wrapped.{firsts, gates_in, gates_left}
use Rattle.run_trace.proofs.run.run_around.Goals as goal

pub take_off-requires-clause-gates_fit : goal.take_off-requires-clause-gates_fit
take_off-requires-clause-gates_fit g c =
    let n : ℕ = c.args.script.now.shape.cpus + c.args.script.now.shape.agents in
    let gs : List g.row.G.Denot = c.args.gates.now.items in
    let same : into_iter_items c.into_iter-given.result ≡ gs =
    c.into_iter-given.ensures.rest ∙ ap (λ (v : Vec g.row.G.Denot Global). v.items) c.replace.ensures.value in
    let firstly : c.put_on.new.kept.items ≡ firsts n gs = c.put_on.ensures.kept ∙ ap (firsts n) same in
    let many : length (gates_in c.run_script-run.new.gates.items) + length (gates_left n gs) ≡ length gs =
    gates_home g.G.Gate.told n gs c.put_on.new.kept.items c.run_script-run.new.gates.items firstly c.run_script-run.ensures.gates
    c.run_script-run.ensures.part in
    let len : vec_len c.args.gates.now ≡ length gs = search rules in
    let room : vec_capacity c.replace.new.dest ≡ length gs =
    ap (λ (v : Vec g.row.G.Denot Global). vec_capacity v) c.replace.ensures.after ∙ c.in_ok-home.ensures.exact ∙ c.len.ensures ∙ len in
    omega (arith, many, room)

pub take_off-requires-clause-lists_fit : goal.take_off-requires-clause-lists_fit
take_off-requires-clause-lists_fit g c =
    let n : ℕ = c.args.script.now.shape.cpus + c.args.script.now.shape.agents in
    let gs : List g.row.G.Denot = c.args.gates.now.items in
    let same : into_iter_items c.into_iter-given.result ≡ gs =
    c.into_iter-given.ensures.rest ∙ ap (λ (v : Vec g.row.G.Denot Global). v.items) c.replace.ensures.value in
    let firstly : c.put_on.new.kept.items ≡ firsts n gs = c.put_on.ensures.kept ∙ ap (firsts n) same in
    let many : length c.run_script-run.new.gates.items ≡ n =
    seats g.G.Gate.told n gs c.put_on.new.kept.items c.run_script-run.new.gates.items firstly c.run_script-run.ensures.gates in
    let room : vec_capacity c.in_ok-lists.lists ≡ n = c.in_ok-lists.ensures.exact in
    omega (arith, many, room)

pub put_rest-requires : goal.put_rest-requires
put_rest-requires g c =
    let n : ℕ = c.args.script.now.shape.cpus + c.args.script.now.shape.agents in
    let gs : List g.row.G.Denot = c.args.gates.now.items in
    let same : into_iter_items c.into_iter-given.result ≡ gs =
    c.into_iter-given.ensures.rest ∙ ap (λ (v : Vec g.row.G.Denot Global). v.items) c.replace.ensures.value in
    let firstly : c.put_on.new.kept.items ≡ firsts n gs = c.put_on.ensures.kept ∙ ap (firsts n) same in
    let left : into_iter_items c.put_on.new.gates ≡ gates_left n gs = c.put_on.ensures.left ∙ ap (gates_left n) same in
    let many : length (gates_in c.run_script-run.new.gates.items) + length (gates_left n gs) ≡ length gs =
    gates_home g.G.Gate.told n gs c.put_on.new.kept.items c.run_script-run.new.gates.items firstly c.run_script-run.ensures.gates
    c.run_script-run.ensures.part in
    let len : vec_len c.args.gates.now ≡ length gs = search rules in
    let room : vec_capacity c.replace.new.dest ≡ length gs =
    ap (λ (v : Vec g.row.G.Denot Global). vec_capacity v) c.replace.ensures.after ∙ c.in_ok-home.ensures.exact ∙ c.len.ensures ∙ len in
    record {
      room = (let a = ap length c.take_off.ensures.gates in let b = ap length left in let d = c.take_off.ensures.capacity in omega (arith, many, room, a, b, d));
    }

pub returns-in_err-lines-clause-gates : goal.returns-in_err-lines-clause-gates
returns-in_err-lines-clause-gates g c =
    let n : ℕ = c.args.script.now.shape.cpus + c.args.script.now.shape.agents in
    let gs : List g.row.G.Denot = c.args.gates.now.items in
    let same : into_iter_items c.into_iter-given.result ≡ gs =
    c.into_iter-given.ensures.rest ∙ ap (λ (v : Vec g.row.G.Denot Global). v.items) c.replace.ensures.value in
    let firstly : c.put_on.new.kept.items ≡ firsts n gs = c.put_on.ensures.kept ∙ ap (firsts n) same in
    let left : into_iter_items c.put_on.new.gates ≡ gates_left n gs = c.put_on.ensures.left ∙ ap (gates_left n) same in
    let many : length (gates_in c.run_script-run.new.gates.items) + length (gates_left n gs) ≡ length gs =
    gates_home g.G.Gate.told n gs c.put_on.new.kept.items c.run_script-run.new.gates.items firstly c.run_script-run.ensures.gates
    c.run_script-run.ensures.part in
    let new : c.put_rest.new.gates.items ≡ gates_in c.run_script-run.new.gates.items ++ gates_left n gs =
    c.put_rest.ensures ∙ (λ j. c.take_off.ensures.gates j ++ left j) in
    ap length new ∙ length-append (gates_in c.run_script-run.new.gates.items) (gates_left n gs) ∙ many

pub returns-clause-gates : goal.returns-clause-gates
returns-clause-gates g c =
    let n : ℕ = c.args.script.now.shape.cpus + c.args.script.now.shape.agents in
    let gs : List g.row.G.Denot = c.args.gates.now.items in
    let same : into_iter_items c.into_iter-given.result ≡ gs =
    c.into_iter-given.ensures.rest ∙ ap (λ (v : Vec g.row.G.Denot Global). v.items) c.replace.ensures.value in
    let firstly : c.put_on.new.kept.items ≡ firsts n gs = c.put_on.ensures.kept ∙ ap (firsts n) same in
    let left : into_iter_items c.put_on.new.gates ≡ gates_left n gs = c.put_on.ensures.left ∙ ap (gates_left n) same in
    let many : length (gates_in c.run_script-run.new.gates.items) + length (gates_left n gs) ≡ length gs =
    gates_home g.G.Gate.told n gs c.put_on.new.kept.items c.run_script-run.new.gates.items firstly c.run_script-run.ensures.gates
    c.run_script-run.ensures.part in
    let new : c.put_rest.new.gates.items ≡ gates_in c.run_script-run.new.gates.items ++ gates_left n gs =
    c.put_rest.ensures ∙ (λ j. c.take_off.ensures.gates j ++ left j) in
    ap length new ∙ length-append (gates_in c.run_script-run.new.gates.items) (gates_left n gs) ∙ many

pub returns-clause-told : goal.returns-clause-told
returns-clause-told g c =
    let n : ℕ = c.args.script.now.shape.cpus + c.args.script.now.shape.agents in
    let gs : List g.row.G.Denot = c.args.gates.now.items in
    let same : into_iter_items c.into_iter-given.result ≡ gs =
    c.into_iter-given.ensures.rest ∙ ap (λ (v : Vec g.row.G.Denot Global). v.items) c.replace.ensures.value in
    let firstly : c.put_on.new.kept.items ≡ firsts n gs = c.put_on.ensures.kept ∙ ap (firsts n) same in
    let left : into_iter_items c.put_on.new.gates ≡ gates_left n gs = c.put_on.ensures.left ∙ ap (gates_left n) same in
    let new : c.put_rest.new.gates.items ≡ gates_in c.run_script-run.new.gates.items ++ gates_left n gs =
    c.put_rest.ensures ∙ (λ j. c.take_off.ensures.gates j ++ left j) in
    traced g.G.Gate.told n gs c.put_on.new.kept.items c.run_script-run.new.gates.items firstly c.run_script-run.ensures.gates
    c.args.script.now c.in_ok-lines.ensures.told (λ j. n) c.take_off.ensures.follows c.put_rest.new.gates.items _ new c.take_off.ensures.lists

pub returns-in_err-lines-clause-part : goal.returns-in_err-lines-clause-part
returns-in_err-lines-clause-part g c =
    let n : ℕ = c.args.script.now.shape.cpus + c.args.script.now.shape.agents in
    let gs : List g.row.G.Denot = c.args.gates.now.items in
    let same : into_iter_items c.into_iter-given.result ≡ gs =
    c.into_iter-given.ensures.rest ∙ ap (λ (v : Vec g.row.G.Denot Global). v.items) c.replace.ensures.value in
    let firstly : c.put_on.new.kept.items ≡ firsts n gs = c.put_on.ensures.kept ∙ ap (firsts n) same in
    let left : into_iter_items c.put_on.new.gates ≡ gates_left n gs = c.put_on.ensures.left ∙ ap (gates_left n) same in
    let new : c.put_rest.new.gates.items ≡ gates_in c.run_script-run.new.gates.items ++ gates_left n gs =
    c.put_rest.ensures ∙ (λ j. c.take_off.ensures.gates j ++ left j) in
    were_told g.G.Gate.told n gs c.put_on.new.kept.items c.run_script-run.new.gates.items firstly c.run_script-run.ensures.gates
    c.run_script-run.ensures.part c.take_off.ensures.follows c.put_rest.new.gates.items new

pub returns-clause-part : goal.returns-clause-part
returns-clause-part g c =
    let n : ℕ = c.args.script.now.shape.cpus + c.args.script.now.shape.agents in
    let gs : List g.row.G.Denot = c.args.gates.now.items in
    let same : into_iter_items c.into_iter-given.result ≡ gs =
    c.into_iter-given.ensures.rest ∙ ap (λ (v : Vec g.row.G.Denot Global). v.items) c.replace.ensures.value in
    let firstly : c.put_on.new.kept.items ≡ firsts n gs = c.put_on.ensures.kept ∙ ap (firsts n) same in
    let left : into_iter_items c.put_on.new.gates ≡ gates_left n gs = c.put_on.ensures.left ∙ ap (gates_left n) same in
    let new : c.put_rest.new.gates.items ≡ gates_in c.run_script-run.new.gates.items ++ gates_left n gs =
    c.put_rest.ensures ∙ (λ j. c.take_off.ensures.gates j ++ left j) in
    were_told g.G.Gate.told n gs c.put_on.new.kept.items c.run_script-run.new.gates.items firstly c.run_script-run.ensures.gates
    c.run_script-run.ensures.part c.take_off.ensures.follows c.put_rest.new.gates.items new
