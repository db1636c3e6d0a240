use Rattle.std.proofs.Common.{◌≡◌, ◌∙◌, rules, sym, not, ◌&&◌}
use Rattle.command_words.specs.Words.{is_number}
use Rattle.command_words.proofs.Following.{and_stop, and_then, told_plain, told_trace, told_workers}
use Rattle.command_words.proofs.forms.+may_follow.Goals.{then-not-seen-3, else-not-seen-3}
use Rattle.command_words.proofs.forms.+may_follow.Goals as goal

pub returns-then-not-seen : goal.returns-then-not-seen
returns-then-not-seen t c =
    told_trace c.args.seen c.args.words.now c.in-Some.word.now c.in-Some.rest.now (search rules) _ (search rules)
    (and_then _ _ _ (search rules) c.may_follow.ensures)

pub returns-else-not-seen : goal.returns-else-not-seen
returns-else-not-seen t c =
    told_trace c.args.seen c.args.words.now c.in-Some.word.now c.in-Some.rest.now (search rules) _ (search rules)
    (and_stop _ _ (search rules))

pub returns-then-not-seen-2 : goal.returns-then-not-seen-2
returns-then-not-seen-2 t c =
    told_plain c.args.seen c.args.words.now c.in-Some.word.now c.in-Some.rest.now (search rules) _ (search rules)
    (and_then _ _ _ (search rules) c.may_follow-then-not-seen-2.ensures)

pub returns-else-not-seen-2 : goal.returns-else-not-seen-2
returns-else-not-seen-2 t c =
    told_plain c.args.seen c.args.words.now c.in-Some.word.now c.in-Some.rest.now (search rules) _ (search rules)
    (and_stop _ _ (search rules))

pub returns-then-is_number : goal.returns-then-is_number
returns-then-is_number t c =
    let value : c.if-not-seen-3.value ≡ (not c.args.seen.workers && is_number c.in-Some-workers_in.number.now) =
    elim c.if-not-seen-3.branch [
      | then-not-seen-3 w ↦ search rules
      | else-not-seen-3 w ↦ search rules
    ] in
    told_workers c.args.seen c.args.words.now c.in-Some.word.now c.in-Some.rest.now (search rules) _
    c.in-Some-workers_in.number.now c.in-Some-workers_in.rest.now (search rules)
    (and_then _ _ _ (sym value ∙ search rules) c.may_follow-then-is_number.ensures)

pub returns-else-is_number : goal.returns-else-is_number
returns-else-is_number t c =
    let value : c.if-not-seen-3.value ≡ (not c.args.seen.workers && is_number c.in-Some-workers_in.number.now) =
    elim c.if-not-seen-3.branch [
      | then-not-seen-3 w ↦ search rules
      | else-not-seen-3 w ↦ search rules
    ] in
    told_workers c.args.seen c.args.words.now c.in-Some.word.now c.in-Some.rest.now (search rules) _
    c.in-Some-workers_in.number.now c.in-Some-workers_in.rest.now (search rules)
    (value ∙ and_stop _ _ (sym value ∙ search rules))
