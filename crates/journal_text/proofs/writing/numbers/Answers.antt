use Rattle.std.proofs.Common.{◌++◌, ap, sym, ◌∙◌, append_assoc, arith, subst, take, get_or}
use Rattle.handoff_data.specs.Line.{IsLine}
use Rattle.journal_text.specs.Spelling.{field, fields}
use Rattle.journal_text.proofs.Digits.{IsLine-append, IsLine-field, fields_more}
use Rattle.journal_text.proofs.writing.numbers.Goals as goal

pub loop-n-preserved : goal.loop-n-preserved
loop-n-preserved c =
    let n = get_or c.args.ns.now c.loop-n.n-index 0 in
    let bytes = c.in_ok-write.ensures.bytes in (
      bytes ∙ ap (λ t. t ++ field n) c.loop-n.invariant.0 ∙ append_assoc c.args.keyword.now (fields (take c.loop-n.n-index c.args.ns.now)) (field n)
          ∙ ap (λ t. c.args.keyword.now ++ t) (sym (fields_more c.args.ns.now c.loop-n.n-index (omega arith))),
      subst IsLine (sym bytes) (IsLine-append _ _ c.loop-n.invariant.1 (IsLine-field n (omega (arith, c.type_inv.ns c.loop-n.n-index)))),
    )
