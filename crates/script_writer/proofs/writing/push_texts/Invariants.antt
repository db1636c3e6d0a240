use Rattle.std.proofs.Common.{◌≡◌, ◌++◌, map, drop}
use Rattle.script_writer.specs.Spelling.{spelled_text, text_of}
use Rattle.script_writer.proofs.writing.push_texts.Given as goal

-- what is written and the texts that are left are all texts
abbrev pub invariant-loop-index : goal.invariant-loop-index
invariant-loop-index l =
    l.bytes.items ++ text_of (map spelled_text (drop l.index l.texts)) ≡ l.fn.bytes.items ++ text_of (map spelled_text l.texts)
