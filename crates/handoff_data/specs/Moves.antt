-- The table of moves: how an entry changes the place of its task.
use Rattle.std.specs.Prelude.{◌≡◌, ◌⊎◌, ℕ, true, false, Option, Some, None}
use Rattle.handoff_data.specs.declared.entry.Entry.{Entry}
use Rattle.handoff_data.specs.declared.entry.Entry.TheVariants as entry
use Rattle.handoff_data.specs.declared.place.Q.TheVariants as q
use Rattle.handoff_data.specs.declared.place.Place.{Place}

-- the task that an entry moves, or speaks of
abbrev pub task_of : Entry → Option ℕ
task_of (entry.New t m c) = Some t
task_of (entry.Sleep t m c) = Some t
task_of (entry.Wake t m) = Some t
task_of (entry.List t m c e) = Some t
task_of (entry.Enq t m c by_list) = Some t
task_of (entry.Out t m c) = Some t
task_of (entry.In t m c) = Some t
task_of (entry.Die t m c) = Some t
task_of (entry.Pick t n c) = Some t
task_of (entry.Finish t n c) = Some t
task_of (entry.Mask t r mask) = Some t
task_of (entry.Stood t r m at) = Some t
task_of (entry.Done t r) = Some t
task_of (entry.Offline c e) = None
task_of (entry.Up c e) = None
task_of (entry.Refused t state) = Some t

-- an entry of this seat is a move from this place, or none at all
abbrev pub MovesFrom : ℕ → Place → Entry → Type 0
MovesFrom seat p (entry.New t m c) = (p.q ≡ q.New) × (p.b ≡ None)
MovesFrom seat p (entry.Pick t n c) = (p.q ≡ q.On c) × (p.b ≡ None)
MovesFrom seat p (entry.Sleep t m c) = (p.q ≡ q.On c) × (p.b ≡ Some c)
MovesFrom seat p (entry.Finish t n c) = p.b ≡ Some c
MovesFrom seat p (entry.Wake t m) = p.q ≡ q.Off
MovesFrom seat p (entry.List t m c e) = (p.q ≡ q.Waking seat) × ((p.b ≡ None) ⊎ (p.b ≡ Some c))
MovesFrom seat p (entry.Enq t m c true) = (p.q ≡ q.Listed c) × (p.b ≡ None)
MovesFrom seat p (entry.Enq t m c false) = (p.q ≡ q.Waking seat) × (p.b ≡ None)
MovesFrom seat p (entry.Out t m c) = (p.q ≡ q.On c) × (p.b ≡ None)
MovesFrom seat p (entry.In t m c) = (p.q ≡ q.Moving seat) × (p.b ≡ None)
MovesFrom seat p (entry.Die t m c) = (p.q ≡ q.On c) × (p.b ≡ Some c)
MovesFrom seat p _ = Unit {0}

-- where the task is after an entry of this seat
abbrev pub moved : ℕ → Place → Entry → Place
moved seat p (entry.New t m c) = record { q = q.On c; b = None }
moved seat p (entry.Pick t n c) = record { q = q.On c; b = Some c }
moved seat p (entry.Sleep t m c) = record { q = q.Off; b = Some c }
moved seat p (entry.Finish t n c) = record { q = p.q; b = None }
moved seat p (entry.Wake t m) = record { q = q.Waking seat; b = p.b }
moved seat p (entry.List t m c e) = record { q = q.Listed c; b = p.b }
moved seat p (entry.Enq t m c by_list) = record { q = q.On c; b = None }
moved seat p (entry.Out t m c) = record { q = q.Moving seat; b = None }
moved seat p (entry.In t m c) = record { q = q.On c; b = None }
moved seat p (entry.Die t m c) = record { q = q.Dead; b = Some c }
moved seat p _ = p

-- one change of one task's place, from the one to the other, by an entry of this seat
pub record Moves (seat : ℕ) (before : Place) (entry : Entry) (after : Place) : Type 0 where
  pub from : MovesFrom seat before entry
  pub to : after ≡ moved seat before entry
