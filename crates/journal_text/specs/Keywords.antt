-- The words that lines of journals begin with.
use Rattle.std.specs.Prelude.{ℕ, List, Option, Some, None, if◌then◌else◌, codes}
use Rattle.std.specs.Str.{bytes_eq}
use Rattle.journal_text.specs.declared.keyword.Keyword.{Keyword}
use Rattle.journal_text.specs.declared.keyword.Keyword.TheVariants as keyword

unfoldable pub change_word_of : List ℕ → Option Keyword
change_word_of word =
    if bytes_eq word (codes "new") then Some keyword.New
    else if bytes_eq word (codes "sleep") then Some keyword.Sleep
    else if bytes_eq word (codes "out") then Some keyword.Out
    else if bytes_eq word (codes "in") then Some keyword.In
    else if bytes_eq word (codes "die") then Some keyword.Die
    else None

unfoldable pub run_word_of : List ℕ → Option Keyword
run_word_of word =
    if bytes_eq word (codes "pick") then Some keyword.Pick
    else if bytes_eq word (codes "finish") then Some keyword.Finish
    else if bytes_eq word (codes "enq") then Some keyword.Enq
    else None

unfoldable pub cause_word_of : List ℕ → Option Keyword
cause_word_of word =
    if bytes_eq word (codes "wake") then Some keyword.Wake
    else if bytes_eq word (codes "list") then Some keyword.List
    else if bytes_eq word (codes "mask") then Some keyword.Mask
    else if bytes_eq word (codes "stood") then Some keyword.Stood
    else if bytes_eq word (codes "done") then Some keyword.Done
    else None

unfoldable pub mark_word_of : List ℕ → Option Keyword
mark_word_of word =
    if bytes_eq word (codes "offline") then Some keyword.Offline
    else if bytes_eq word (codes "up") then Some keyword.Up
    else if bytes_eq word (codes "refused") then Some keyword.Refused
    else if bytes_eq word (codes "seat") then Some keyword.Seat
    else if bytes_eq word (codes "end") then Some keyword.End
    else None

-- the first, or else the second
abbrev pub or_else : {A : Type 0} → Option A → Option A → Option A
or_else (Some x) other = Some x
or_else None other = other

-- the keyword that the word spells, if it spells one
abbrev pub keyword_of : List ℕ → Option Keyword
keyword_of word =
    or_else (change_word_of word) (or_else (run_word_of word) (or_else (cause_word_of word) (mark_word_of word)))
