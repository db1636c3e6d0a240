-- The fact by which an identity is looked for.
use Rattle.handoff_data.specs.Numbers.{Identity, Change, Run, Waking, Listing, Masking, Leaving, Returning}
use Rattle.journal_facts.specs.declared.fact.Fact.{Fact}
use Rattle.journal_facts.specs.declared.fact.Kind.TheVariants as kind
use Rattle.journal_facts.specs.Facts.{here_on}

-- the fact that an entry with this identity tells, but for its place
abbrev pub key_of : Identity → Fact
key_of (Change t m) = here_on kind.Change 0 0 t m 0
key_of (Run t n) = here_on kind.Run 0 0 t n 0
key_of (Waking t m) = here_on kind.Wake 0 0 t m 0
key_of (Listing t m) = here_on kind.Listing 0 0 t m 0
key_of (Masking t r) = here_on kind.Mask 0 0 t r 0
key_of (Leaving c e) = here_on kind.Offline 0 0 c e 0
key_of (Returning c e) = here_on kind.Up 0 0 c e 0
