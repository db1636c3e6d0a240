-- The works are as many as what they mean.
use Rattle.std.proofs.Common.{rules, ◌≡◌, ◌∙◌, ℕ, sym, subst, length, map}
use Rattle.std.proofs.lemmas.List.{length-map}
use Rattle.std.specs.Vec.{vec_len}
use Rattle.wk_run.specs.Run.{ReadsScript}
use Rattle.wk_run.proofs.OutputLaws.{run_written, run_written_part}
use Rattle.wk_run.proofs.command.run_cmd.Goals as goal

pub returns-in-Ok-write_output-clause-ok : goal.returns-in-Ok-write_output-clause-ok
returns-in-Ok-write_output-clause-ok g c = λ _.
    let works = map g.W.Work.meaning c.args.customs.items in
    let held = g.S.Source.remaining c.args.input.now in
    let left = g.S.Source.remaining c.script_of.new.input in
    let len : vec_len c.args.customs ≡ length c.args.customs.items = search rules in
    let count : c.len-count.result ≡ length works = c.len-count.ensures ∙ len ∙ sym (length-map c.args.customs.items g.W.Work.meaning) in
    run_written g.G.Gate.told c.args.options works c.in-Ok.script c.args.gates.now.items c.run_output.new.gates.items held left (g.K.Sink.taken c.args.out.now)
    (g.K.Sink.taken c.write_output.new.out) c.in-Ok-run_output.text.items c.as_slice.result.now c.as_slice.ensures.value
    (subst (λ (n : ℕ). ReadsScript n held left c.in-Ok.script) count c.in-Ok.ensures.script) c.in-Ok-run_output.ensures.output c.in-Ok-write_output.ensures.written

pub returns-clause-write_fault : goal.returns-clause-write_fault
returns-clause-write_fault g c = λ _.
    let works = map g.W.Work.meaning c.args.customs.items in
    let held = g.S.Source.remaining c.args.input.now in
    let left = g.S.Source.remaining c.script_of.new.input in
    let len : vec_len c.args.customs ≡ length c.args.customs.items = search rules in
    let count : c.len-count.result ≡ length works = c.len-count.ensures ∙ len ∙ sym (length-map c.args.customs.items g.W.Work.meaning) in (
      c.in-Err-write_output.ensures.cause,
      run_written_part g.G.Gate.told c.args.options works c.in-Ok.script c.args.gates.now.items c.run_output.new.gates.items held left (g.K.Sink.taken c.args.out.now)
          (g.K.Sink.taken c.write_output.new.out) c.in-Ok-run_output.text.items c.as_slice.result.now c.as_slice.ensures.value
          (subst (λ (n : ℕ). ReadsScript n held left c.in-Ok.script) count c.in-Ok.ensures.script) c.in-Ok-run_output.ensures.output c.in-Err-write_output.ensures.part,
    )
