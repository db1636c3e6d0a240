use Rattle.std.proofs.Common.{◌≡◌, ◌++◌, take, string_bytes}
use Rattle.std.specs.List.{flat_map}
use Rattle.handoff_data.specs.Line.{IsLine}
use Rattle.journal_text.specs.Spelling.{field, behind_comma}
use Rattle.journal_text.proofs.writing.joined.Given as goal

abbrev pub invariant-loop-c : goal.invariant-loop-c
invariant-loop-c l = (string_bytes l.text ≡ field l.first ++ flat_map behind_comma (take l.c-index l.others)) × IsLine (string_bytes l.text)
