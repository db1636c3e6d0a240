-- The journals of a core's seats as one history.
use Rattle.std.specs.Prelude.{ℕ, zero, suc, ◌∷◌, [], List}
use Rattle.handoff_data.specs.History.{History}
use Rattle.handoff_data.specs.declared.entry.Entry.{Entry}

-- the journals of the first n seats
abbrev pub first_journals : ℕ → (ℕ → List Entry) → List (List Entry)
first_journals zero journal = []
first_journals (suc n) journal = journal zero ∷ first_journals n (λ s. journal (suc s))

unfoldable pub history : ℕ → ℕ → ℕ → (ℕ → List Entry) → History
history cpus tasks seats journal = record { cpus = cpus; tasks = tasks; seats = first_journals seats journal }
