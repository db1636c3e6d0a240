use Rattle.std.proofs.Common.{◌≡◌, length}
use Rattle.std.specs.List.{slice_split}
use Rattle.journal_text.specs.Entries.{is_comma, mask_from, listed_mask_of}
use Rattle.journal_text.proofs.entries.listed_mask.Given as goal

-- the rest of the word makes the mask that the whole word makes
abbrev pub invariant-words : goal.invariant-words
invariant-words l = mask_from l.mask (slice_split is_comma l.rest) ≡ listed_mask_of l.fn.word

abbrev pub decreases-words : goal.decreases-words
decreases-words l = length l.rest
