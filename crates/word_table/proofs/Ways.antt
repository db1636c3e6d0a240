-- Each kind of step on one word, at a seat that a token opened.
use Rattle.std.proofs.Common.{◌≡◌, ℕ, ◌<◌, ◌≤◌, Bool, eqb, sym, subst, List}
use mathlib.Core.Option.{none}
use prog.Atomic.{either}
use Rattle.atomic_table.specs.Table.{step, Allows}
use Rattle.handoff_data.specs.declared.shape.Shape.{Shape}
use Rattle.word_steps.specs.Records.{Rec}
use Rattle.word_steps.specs.Words.{STRIDE}
use Rattle.word_table.specs.Kinds.{Note, May, Told, LeavesSlots, KeepsRule}
use Rattle.word_table.specs.Layout.{rows_of, word_at}
use Rattle.word_table.specs.Parts.{Known}
use Rattle.word_table.specs.Plays.{sat, Sat, became, stored, tried}
use Rattle.word_table.specs.Ruled.{Ruled}
use Rattle.word_table.specs.declared.slot.Key.{Key}
use Rattle.word_table.proofs.Moves.{may_become, may_store, may_try}

module _ {B : Type 0} (lasting : B → List ℕ) (ended_of : B → Bool) (key : Key B) (slots id s : ℕ) (known : Known) (trace : List Rec) (m : Sat B) (is : m ≡ sat known s trace) (n : ℕ)
    (col : ℕ) (bound : Shape → ℕ) (note : Note) (may : May) (told : Told) (low : col < STRIDE) (rows : (shape : Shape) → bound shape ≤ rows_of shape)
    (quiet : LeavesSlots note)
    (keep : KeepsRule col bound note may told)
    (shape : Shape) (same : key.shape ≡ shape) (lt : n < bound shape) (i : ℕ) (at : i ≡ word_at n col) where
  near : n < bound key.shape
  near = subst (λ (z : Shape). n < bound z) (sym same) lt

  pub become_may : (f : ℕ → ℕ) (a : ℕ) → ((x : ℕ) → may shape s trace n x (f x))
      → Allows (Ruled lasting ended_of key) slots id m i f (became col note told f (step slots i a 0 none) m)
  become_may f a ok = subst (λ (z : ℕ × Sat B). Allows (Ruled lasting ended_of key) slots id z.1 z.0 f (became col note told f (step slots z.0 a 0 none) z.1)) (λ h. (sym at h, sym is h))
      (may_become lasting ended_of key col bound note may told low rows quiet keep f slots a id s n known trace near (λ x. subst (λ (z : Shape). may z s trace n x (f x)) (sym same) (ok x)))

  pub store_may : (y : ℕ) → ((x : ℕ) → may shape s trace n x y) → ((x : ℕ) → note s trace n y x ≡ note s trace n y y)
      → Allows (Ruled lasting ended_of key) slots id m i (λ _. y) (λ _. stored col note told (step slots i y 0 none) m y)
  store_may y ok plain = subst (λ (z : ℕ × Sat B). Allows (Ruled lasting ended_of key) slots id z.1 z.0 (λ _. y) (λ _. stored col note told (step slots z.0 y 0 none) z.1 y))
      (λ h. (sym at h, sym is h))
      (may_store lasting ended_of key col bound note may told low rows quiet keep slots id s n y known trace near (λ x. subst (λ (z : Shape). may z s trace n x y) (sym same) (ok x)) plain)

  pub try_may : (old new : ℕ) → may shape s trace n old new
      → Allows (Ruled lasting ended_of key) slots id m i (λ x. either (eqb x old) new x) (tried col note told (step slots i old new none) m)
  try_may old new ok = subst (λ (z : ℕ × Sat B). Allows (Ruled lasting ended_of key) slots id z.1 z.0 (λ x. either (eqb x old) new x) (tried col note told (step slots z.0 old new none) z.1))
      (λ h. (sym at h, sym is h))
      (may_try lasting ended_of key col bound note may told low rows quiet keep slots id s n old new known trace near (subst (λ (z : Shape). may z s trace n old new) (sym same) ok))
