use Rattle.std.proofs.Common.{◌≡◌, ℕ, ◌≤◌, length, take, drop, ap, sym, ◌∙◌, Ok, Result, subst, arith, MatchResult}
use Rattle.std.specs.List.{slice_split, position_or_len}
use Rattle.handoff_data.specs.History.{History}
use Rattle.journal_text.specs.Lines.{progress}
use Rattle.journal_text.specs.Text.{is_feed, byte_limit, parts_from, reading, IsFault}
use Rattle.journal_text.proofs.Texts.{parts_last, parts_more, on_full, on_refused, on_taken, was_taken, was_refused}
use Rattle.journal_text.proofs.reading.read_journal.Goals as goal

pub lines-init : goal.lines-init
unfolding reading
lines-init c =
    (ap (λ p. parts_from 1 byte_limit p (slice_split is_feed c.args.bytes.now)) c.new_draft-draft.ensures, omega arith)

pub returns-in_default : goal.returns-in_default
returns-in_default c =
    let rest = c.lines.rest.now in
    let within : position_or_len is_feed rest ≤ length rest = omega (arith, c.find_byte.ensures.value, c.find_byte.ensures.within) in
    let front = c.split_at.ensures.front ∙ ap (λ n. take n rest) c.find_byte.ensures.value in
    let back = c.split_at.ensures.back ∙ ap (λ n. drop n rest) c.find_byte.ensures.value in
    let said = sym (parts_last c.lines.line c.lines.room (progress c.lines.draft) rest c.split_at.result.0.now c.split_at.result.1.now within front back c.in_default.ensures.cases)
    ∙ c.lines.invariant.0 in
    subst (λ (r : Result History ℕ). MatchResult c.finish_with.result (λ j. r ≡ Ok j) (λ e. IsFault e r)) said c.finish_with.ensures

pub returns-then-text-room : goal.returns-then-text-room
returns-then-text-room c =
    let rest = c.lines.rest.now in
    let text = c.split_at.result.0.now in
    let within : position_or_len is_feed rest ≤ length rest = omega (arith, c.find_byte.ensures.value, c.find_byte.ensures.within) in
    let front = c.split_at.ensures.front ∙ ap (λ n. take n rest) c.find_byte.ensures.value in
    let back = c.split_at.ensures.back ∙ ap (λ n. drop n rest) c.find_byte.ensures.value in
    sym c.lines.invariant.0
    ∙ parts_more c.lines.line c.lines.room (progress c.lines.draft) rest text c.split_at.result.1.now c.in-Some._feed.now c.in-Some.more.now within front back c.in-Some.ensures.cases.0
    ∙ on_full c.lines.line c.lines.room (progress c.lines.draft) text c.in-Some.more.now (omega arith)

pub returns-then-not-branch : goal.returns-then-not-branch
returns-then-not-branch c =
    let rest = c.lines.rest.now in
    let text = c.split_at.result.0.now in
    let within : position_or_len is_feed rest ≤ length rest = omega (arith, c.find_byte.ensures.value, c.find_byte.ensures.within) in
    let front = c.split_at.ensures.front ∙ ap (λ n. take n rest) c.find_byte.ensures.value in
    let back = c.split_at.ensures.back ∙ ap (λ n. drop n rest) c.find_byte.ensures.value in
    sym c.lines.invariant.0
    ∙ parts_more c.lines.line c.lines.room (progress c.lines.draft) rest text c.split_at.result.1.now c.in-Some._feed.now c.in-Some.more.now within front back c.in-Some.ensures.cases.0
    ∙ on_refused c.lines.line c.lines.room (progress c.lines.draft) text c.in-Some.more.now
    (was_refused _ _ _ c.if-not-branch.true c.in_ok-take_line.ensures)

pub lines-preserved : goal.lines-preserved
lines-preserved c =
    let rest = c.lines.rest.now in
    let text = c.split_at.result.0.now in
    let within : position_or_len is_feed rest ≤ length rest = omega (arith, c.find_byte.ensures.value, c.find_byte.ensures.within) in
    let front = c.split_at.ensures.front ∙ ap (λ n. take n rest) c.find_byte.ensures.value in
    let back = c.split_at.ensures.back ∙ ap (λ n. drop n rest) c.find_byte.ensures.value in (
      sym (on_taken c.lines.line c.lines.room (progress c.lines.draft) _ text c.in-Some.more.now (omega arith) (was_taken _ _ _ c.if-not-branch.false c.in_ok-take_line.ensures))
          ∙ sym (parts_more c.lines.line c.lines.room (progress c.lines.draft) rest text c.split_at.result.1.now c.in-Some._feed.now c.in-Some.more.now within front back c.in-Some.ensures.cases.0)
          ∙ c.lines.invariant.0,
      omega arith,
    )
