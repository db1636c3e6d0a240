-- Each kind of step that takes or gives a slot, at a seat that equals one at rest or with a slot in its hand.
use Rattle.std.proofs.Common.{◌≡◌, ℕ, suc, ◌<◌, Bool, eqb, sym, subst, List}
use Rattle.std.specs.Prelude.{Some, [], slice_index_or}
use mathlib.Core.Option.{none}
use prog.Atomic.{either}
use Rattle.atomic_table.specs.Table.{State, step, Allows}
use Rattle.handoff_data.specs.declared.shape.Shape.{Shape}
use Rattle.word_rule.specs.May.{MayGive, MayTakeBody, MayReturnBody}
use Rattle.word_rule.specs.Sorts.{Sort, lock_of, count_of, held_of}
use Rattle.word_steps.specs.Records.{Rec}
use Rattle.word_steps.specs.Words.{BODY}
use Rattle.word_steps.specs.declared.val.Val.{Val}
use Rattle.word_table.specs.Layout.{BODY_SLOT, slot_of, word_at, slot_at}
use Rattle.word_table.specs.Parts.{Known}
use Rattle.word_table.specs.Plays.{sat, holding, Sat, took, gave, left, came}
use Rattle.word_table.specs.Ruled.{lastings, Ruled}
use Rattle.word_table.specs.declared.slot.Key.{Key}
use Rattle.word_table.specs.declared.slot.Slot.{Slot}
use Rattle.word_table.specs.declared.slot.Slot.TheVariants.{Held, Body}
use Rattle.word_table.specs.declared.view.View.{View}
use Rattle.word_table.proofs.Moves.{may_take, may_give, may_leave, may_come}

module _ {B : Type 0} (lasting : B → List ℕ) (ended_of : B → Bool) (key : Key B) (slots id s : ℕ) (known : Known) (trace : List Rec) (m : Sat B) (shape : Shape) (same : key.shape ≡ shape) where
  abbrev R : State (Slot B) View → Type 0
  R = Ruled lasting ended_of key

  module _ (sort : Sort) (n i : ℕ) (at : i ≡ word_at n (lock_of sort)) (lt : n < count_of sort shape) where
    near : n < count_of sort key.shape
    near = subst (λ (z : Shape). n < count_of sort z) (sym same) lt

    pub take_may : (new : ℕ) → new ≡ suc s → m ≡ sat known s trace
        → Allows R slots id m i (λ x. either (eqb x 0) new x) (took sort (step slots i 0 new none) m)
    take_may new next is = subst (λ (z : ℕ × ℕ × Sat B). Allows R slots id z.2 z.0 (λ x. either (eqb x 0) z.1 x) (took sort (step slots z.0 0 z.1 none) z.2)) (λ h. (sym at h, sym next h, sym is h))
        (may_take lasting ended_of key slots id s sort n known trace near)

    pub give_may : (v w : Val) → m ≡ holding known s trace (slot_at n (slot_of sort)) (Held w) → held_of sort trace n ≡ Some v
        → MayGive s trace shape sort n w → Allows R slots id m i (λ _. 0) (λ _. gave sort (step slots i 0 0 none) m 0)
    give_may v w is has may = subst (λ (z : ℕ × Sat B). Allows R slots id z.1 z.0 (λ _. 0) (λ _. gave sort (step slots z.0 0 0 none) z.1 0)) (λ h. (sym at h, sym is h))
        (may_give lasting ended_of key slots id s sort n known trace v w near has (subst (λ (z : Shape). MayGive s trace z sort n w) (sym same) may))

  pub leave_may : (i t : ℕ) → i ≡ word_at t BODY → m ≡ sat known s trace → t < shape.tasks → MayTakeBody s trace t
      → Allows R slots id m i (λ x. x) (left lasting ended_of (step slots i 0 0 none) m)
  leave_may i t at is lt may = subst (λ (z : ℕ × Sat B). Allows R slots id z.1 z.0 (λ x. x) (left lasting ended_of (step slots z.0 0 0 none) z.1)) (λ h. (sym at h, sym is h))
      (may_leave lasting ended_of key slots id s t known trace (subst (λ (z : Shape). t < z.tasks) (sym same) lt) may)

  pub come_may : (i t : ℕ) (b : B) → i ≡ word_at t BODY → m ≡ holding known s trace (slot_at t BODY_SLOT) (Body b) → t < shape.tasks
      → MayReturnBody s trace t (ended_of b) → lasting b ≡ slice_index_or (lastings lasting key) t []
      → Allows R slots id m i (λ x. x) (came ended_of (step slots i 0 0 none) m)
  come_may i t b at is lt may lasts = subst (λ (z : ℕ × Sat B). Allows R slots id z.1 z.0 (λ x. x) (came ended_of (step slots z.0 0 0 none) z.1)) (λ h. (sym at h, sym is h))
      (may_come lasting ended_of key slots id s t known trace b (subst (λ (z : Shape). t < z.tasks) (sym same) lt) may lasts)
