use Rattle.std.proofs.Common.{◌≡◌, drop}
use Rattle.journal_text.specs.Fields.{digits_from}
use Rattle.journal_text.proofs.fields.number.Given as goal

-- the rest of the digits makes the number that all make
abbrev pub invariant-loop-byte : goal.invariant-loop-byte
invariant-loop-byte l = digits_from l.number (drop l.byte-index l.word) ≡ digits_from 0 l.word
