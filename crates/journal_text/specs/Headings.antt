-- The first lines of a text of journals.
use Rattle.std.specs.Prelude.{◌==◌, ◌+◌, ◌&&◌, ℕ, List, Option, Some, None, if◌then◌else◌, nat_le, codes}
use Rattle.std.specs.Str.{bytes_eq}
use Rattle.journal_text.specs.declared.heading.Heading.{Heading}
use Rattle.journal_text.specs.declared.heading.Stage.{Stage}
use Rattle.journal_text.specs.declared.heading.Stage.TheVariants as stage
use Rattle.journal_text.specs.Fields.{◌>>=◌, one_of}

-- the number behind this very word, and nothing behind it
abbrev pub number_after : List ℕ → List ℕ → List ℕ → Option ℕ
number_after expected word rest = if bytes_eq word expected then one_of rest else None

-- the heading with one more line, at this stage
abbrev pub heading_at : Stage → Heading → List ℕ → List ℕ → Option Heading
heading_at stage.Version h word rest =
    number_after (codes "journal") word rest >>= λ n. if n == 1 then Some (record h { stage = stage.Cpus }) else None
heading_at stage.Cpus h word rest =
    number_after (codes "cpus") word rest >>= λ n. if nat_le 1 n && nat_le n 16
    then Some (record h { stage = stage.Tasks; cpus = n }) else None
heading_at stage.Tasks h word rest =
    number_after (codes "tasks") word rest >>= λ n. if nat_le n 200
    then Some (record h { stage = stage.Seats; tasks = n }) else None
heading_at stage.Seats h word rest =
    number_after (codes "seats") word rest >>= λ n. if nat_le h.cpus n && nat_le n (h.cpus + 4) && nat_le n 20
    then Some (record h { stage = stage.FirstSeat; seats = n }) else None
heading_at stage.FirstSeat h word rest =
    number_after (codes "seat") word rest >>= λ n. if n == 0 then Some (record h { stage = stage.Entries }) else None
heading_at stage.Entries h word rest = None
heading_at stage.Done h word rest = None

-- the heading with one more line, if the line may come next
unfoldable pub heading_after : Heading → List ℕ → List ℕ → Option Heading
heading_after h word rest = heading_at h.stage h word rest
