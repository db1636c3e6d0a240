use Rattle.std.proofs.Common.{◌∙◌, sym, ap, ◌<◌, length, get_or, arith, Bool, true, false}
use Rattle.std.specs.Prelude.{if◌then◌else◌}
use Rattle.core_data.specs.Acts.{is_act}
use Rattle.core_data.specs.declared.act.Act.TheVariants.{TookTask}
use Rattle.step_data.proofs.ActLemmas.{since_more}
use Rattle.step_data.proofs.act.is_since.Goals as goal

pub loop-act-preserved : goal.loop-act-preserved
loop-act-preserved c =
    let x = get_or c.args.acts.now c.loop-act.act-index (TookTask 0) in
    let lt : c.loop-act.act-index < length c.args.acts.now = omega arith in
    c.known_after-known.ensures
    ∙ ap (λ (k : Bool). if is_act c.args.fact x then true else if is_act c.args.end x then false else k) c.loop-act.invariant
    ∙ sym (since_more c.args.fact c.args.end c.args.acts.now c.loop-act.act-index (TookTask 0) lt)
