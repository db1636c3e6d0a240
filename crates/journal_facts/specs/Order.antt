-- The order of facts: by the kind, and then by the other fields in their order.
use Rattle.std.specs.Prelude.{◌≡◌, ◌⊎◌, ◌<◌, ◌≤◌, ℕ}
use Rattle.journal_facts.specs.declared.fact.Fact.{Fact}
use Rattle.journal_facts.specs.Facts.{kind_number}

-- the first number is smaller, or the two are the same and the rest decides
abbrev pub Lex : ℕ → ℕ → Type 0 → Type 0
Lex x y rest = (x < y) ⊎ ((x ≡ y) × rest)

-- the one fact comes before the other
abbrev pub IsBelow : Fact → Fact → Type 0
IsBelow a b =
    Lex (kind_number a.kind) (kind_number b.kind) (Lex a.subject b.subject (Lex a.number b.number
    (Lex a.cpu b.cpu (Lex a.seat b.seat (a.index < b.index)))))

-- the one fact comes before the other, or is the same
abbrev pub IsUpTo : Fact → Fact → Type 0
IsUpTo a b =
    Lex (kind_number a.kind) (kind_number b.kind) (Lex a.subject b.subject (Lex a.number b.number
    (Lex a.cpu b.cpu (Lex a.seat b.seat (a.index ≤ b.index)))))
