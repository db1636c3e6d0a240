use Rattle.std.proofs.Common.{◌≡◌, ◌+◌, ◌≤◌, length, take}
use Rattle.std.specs.List.{suffix_len}
use Rattle.journal_text.specs.Lines.{is_return}
use Rattle.journal_text.proofs.draft.content_length.Given as goal

abbrev pub invariant-loop-n : goal.invariant-loop-n
invariant-loop-n l = (l.n ≤ length l.line) × (l.n + suffix_len is_return l.line ≡ length l.line + suffix_len is_return (take l.n l.line))

abbrev pub decreases-loop-n : goal.decreases-loop-n
decreases-loop-n l = l.n
