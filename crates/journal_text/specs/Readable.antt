-- Which journals can be read again.
use Rattle.std.specs.Prelude.{◌+◌, ◌^◌, ◌<◌, ◌≤◌, ℕ, List, [], ◌∷◌, ◌++◌, IfSome, length}
use Rattle.std.specs.List.{flat_map, AllByRecursion}
use Rattle.handoff_data.specs.declared.entry.Entry.{Entry}
use Rattle.handoff_data.specs.declared.entry.Entry.TheVariants as entry
use Rattle.handoff_data.specs.Mask.{HasCpu}
use Rattle.handoff_data.specs.History.{History}

-- a task or a processor, and a number of its own, fit their types
abbrev pub Fit : ℕ → ℕ → Type 0
Fit t m = (t < 2 ^ 32) × (m < 2 ^ 64)

-- the numbers of the entry fit their types, and its mask has processors below 16 alone
abbrev pub IsReadable : Entry → Type 0
IsReadable (entry.New t m c) = Fit t m × (c < 2 ^ 32)
IsReadable (entry.Sleep t m c) = Fit t m × (c < 2 ^ 32)
IsReadable (entry.Wake t m) = Fit t m
IsReadable (entry.List t m c e) = Fit t m × Fit c e
IsReadable (entry.Enq t m c by_list) = Fit t m × (c < 2 ^ 32)
IsReadable (entry.Out t m c) = Fit t m × (c < 2 ^ 32)
IsReadable (entry.In t m c) = Fit t m × (c < 2 ^ 32)
IsReadable (entry.Die t m c) = Fit t m × (c < 2 ^ 32)
IsReadable (entry.Pick t n c) = Fit t n × (c < 2 ^ 32)
IsReadable (entry.Finish t n c) = Fit t n × (c < 2 ^ 32)
IsReadable (entry.Mask t r mask) = Fit t r × ((c : ℕ) → HasCpu mask c → c < 16)
IsReadable (entry.Stood t r m at) = Fit t r × (m < 2 ^ 64) × IfSome at (λ c. c < 2 ^ 32)
IsReadable (entry.Done t r) = Fit t r
IsReadable (entry.Offline c e) = Fit c e
IsReadable (entry.Up c e) = Fit c e
IsReadable (entry.Refused t state) = (t < 2 ^ 32) × (state.0 < 2 ^ 16)

-- the journals are in the reader's ranges
pub record AreReadable (j : History) : Type 0 where
  pub some_cpu : 1 ≤ j.cpus
  pub few_cpus : j.cpus ≤ 16
  pub few_tasks : j.tasks ≤ 200
  pub enough_seats : j.cpus ≤ length j.seats
  pub few_seats : length j.seats ≤ j.cpus + 4
  pub entries : AllByRecursion (λ journal. AllByRecursion IsReadable journal) j.seats

-- the lines, each with its line feed
abbrev pub text_of : List (List ℕ) → List ℕ
text_of lines = flat_map (λ line. line ++ 10 ∷ []) lines
