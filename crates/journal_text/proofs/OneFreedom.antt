-- One of the reader's freedoms, whichever it is, changes nothing.
use Rattle.std.proofs.Common.{◌≡◌, ◌≤◌, ℕ, List, Ok, length, inl, inr}
use Rattle.handoff_data.specs.History.{History}
use Rattle.journal_text.specs.Freedoms.{DiffersByOneFreedom}
use Rattle.journal_text.specs.Text.{byte_limit, reading}
use Rattle.journal_text.proofs.FreeBlanks.{more_blanks}
use Rattle.journal_text.proofs.FreeLines.{more_returns, more_lines}
use Rattle.journal_text.proofs.FreeNumbers.{more_zeros, other_order}

pub one_freedom : (bytes bytes' : List ℕ) (j : History) → DiffersByOneFreedom bytes bytes' → length bytes' ≤ byte_limit → reading bytes ≡ Ok j → reading bytes' ≡ Ok j
one_freedom bytes bytes' j (inl blanks) short read = more_blanks bytes bytes' j blanks short read
one_freedom bytes bytes' j (inr (inl returns)) short read = more_returns bytes bytes' j returns short read
one_freedom bytes bytes' j (inr (inr (inl lines))) short read = more_lines bytes bytes' j lines short read
one_freedom bytes bytes' j (inr (inr (inr (inl zeros)))) short read = more_zeros bytes bytes' j zeros short read
one_freedom bytes bytes' j (inr (inr (inr (inr order)))) short read = other_order bytes bytes' j order short read
