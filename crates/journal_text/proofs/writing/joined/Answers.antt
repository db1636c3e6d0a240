use Rattle.std.proofs.Common.{◌++◌, ap, sym, ◌∙◌, append_assoc, arith, subst, take, get_or}
use Rattle.std.specs.List.{flat_map}
use Rattle.handoff_data.specs.Line.{IsLine}
use Rattle.journal_text.specs.Spelling.{field, behind_comma}
use Rattle.journal_text.proofs.Digits.{IsLine-append, IsLine-behind_comma, behind_commas_more}
use Rattle.journal_text.proofs.writing.joined.Goals as goal

pub loop-c-preserved : goal.loop-c-preserved
loop-c-preserved c =
    let n = get_or c.args.others.now c.loop-c.c-index 0 in
    let bytes = c.in_ok-write.ensures.bytes in (
      bytes ∙ ap (λ t. t ++ behind_comma n) c.loop-c.invariant.0
          ∙ append_assoc (field c.args.first) (flat_map behind_comma (take c.loop-c.c-index c.args.others.now)) (behind_comma n)
          ∙ ap (λ t. field c.args.first ++ t) (sym (behind_commas_more c.args.others.now c.loop-c.c-index (omega arith))),
      subst IsLine (sym bytes) (IsLine-append _ _ c.loop-c.invariant.1 (IsLine-behind_comma n (omega (arith, c.type_inv.others c.loop-c.c-index)))),
    )
