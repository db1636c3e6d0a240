use Rattle.std.proofs.Common.{◌≤◌, length, take, drop, ap, sym, ◌∙◌, Some, arith}
use Rattle.std.specs.List.{slice_split}
use Rattle.handoff_data.specs.declared.mask.CpuMask.{CpuMask}
use Rattle.journal_text.specs.Entries.{is_comma, mask_from, listed_mask_of}
use Rattle.journal_text.proofs.Masks.{comma_at, mask_none, mask_last, mask_more}
use Rattle.journal_text.proofs.entries.listed_mask.Goals as goal

pub words-init : goal.words-init
unfolding listed_mask_of
words-init c = ap (λ m. mask_from m (slice_split is_comma c.args.word.now)) c.none-mask.ensures.exact

pub returns-in_default : goal.returns-in_default
returns-in_default c =
    let rest = c.words.rest.now in
    let within : comma_at rest ≤ length rest = omega (arith, c.find_byte.ensures.value, c.find_byte.ensures.within) in
    let front = c.split_at.ensures.front ∙ ap (λ n. take n rest) c.find_byte.ensures.value in
    sym (mask_none c.words.mask rest c.split_at.result.0.now within front (sym c.cpu.ensures.value ∙ c.in_default.is)) ∙ c.words.invariant

pub returns-in_default-split_first : goal.returns-in_default-split_first
returns-in_default-split_first c =
    let rest = c.words.rest.now in
    let within : comma_at rest ≤ length rest = omega (arith, c.find_byte.ensures.value, c.find_byte.ensures.within) in
    let front = c.split_at.ensures.front ∙ ap (λ n. take n rest) c.find_byte.ensures.value in
    let back = c.split_at.ensures.back ∙ ap (λ n. drop n rest) c.find_byte.ensures.value in
    ap (λ (m : CpuMask). Some m) c.with-mask.ensures.exact
    ∙ sym (mask_last c.words.mask rest c.split_at.result.0.now c.split_at.result.1.now c.in-Some.c within front back c.in_default-split_first.ensures.cases (sym c.cpu.ensures.value ∙ c.in-Some.is))
    ∙ c.words.invariant

pub words-preserved : goal.words-preserved
words-preserved c =
    let rest = c.words.rest.now in
    let within : comma_at rest ≤ length rest = omega (arith, c.find_byte.ensures.value, c.find_byte.ensures.within) in
    let front = c.split_at.ensures.front ∙ ap (λ n. take n rest) c.find_byte.ensures.value in
    let back = c.split_at.ensures.back ∙ ap (λ n. drop n rest) c.find_byte.ensures.value in
    ap (λ m. mask_from m (slice_split is_comma c.in-Some-split_first.more.now)) c.with-mask.ensures.exact
    ∙ sym (mask_more c.words.mask rest c.split_at.result.0.now c.split_at.result.1.now c.in-Some.c c.in-Some-split_first._comma.now c.in-Some-split_first.more.now within front back
    c.in-Some-split_first.ensures.cases.0 (sym c.cpu.ensures.value ∙ c.in-Some.is))
    ∙ c.words.invariant
