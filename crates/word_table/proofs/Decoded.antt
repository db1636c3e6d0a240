-- What the slots show at home, after one of them was changed.
use Rattle.std.proofs.Common.{◌≡◌, ◌≢◌, ℕ, ◌<◌, inl, inr, Bool, true, false, set, length, refl, sym, ap, ◌∙◌, List, arith}
use Rattle.std.proofs.lemmas.Bool.{cases_eq}
use Rattle.std.specs.Prelude.{Option, Some, None, is_some}
use mathlib.Core.Option.{none, some}
use mathlib.Core.Option as maybe
use mathlib.Core.Path.{fun_ext}
use lib.ListN.{get_elem?}
use Rattle.atomic_table.proofs.Lists.{set_here, set_else}
use Rattle.core_data.specs.Columns.{put}
use Rattle.core_data.specs.Queue.{Queue}
use Rattle.core_data.specs.declared.values.TaskVal.{TaskVal}
use Rattle.core_data.specs.declared.values.WaitEntry.{WaitEntry}
use Rattle.core_data.specs.declared.values.WorkItem.{WorkItem}
use Rattle.core_stores.proofs.Columns.{put_there, put_other}
use Rattle.word_rule.specs.Sorts.{Sort, OfTask, OfQueue, OfWorks, OfWait, home_of, without, with_home, some_of}
use Rattle.word_steps.specs.declared.val.Val.{Val}
use Rattle.word_steps.specs.declared.val.Val.TheVariants as val
use Rattle.word_table.specs.Layout.{SLOTS, BODY_SLOT, slot_of, slot_at}
use Rattle.word_table.specs.Ruled.{val_in, has_body, task_of, queue_of, works_of, wait_of, homes_of}
use Rattle.word_table.specs.declared.slot.Slot.{Slot}
use Rattle.word_table.specs.declared.slot.Slot.TheVariants.{Empty, Held, Body, Room}
use Rattle.word_table.proofs.Slotted.{sort_of}

module _ {B : Type 0} (hs : List (maybe.Option (Slot B))) where
  -- a column of slots, as F sees them
  abbrev column : {C : Type 0} → (maybe.Option (maybe.Option (Slot B)) → C) → ℕ → ℕ → C
  column F l n = F (get_elem? hs (slot_at n l))

  abbrev column_after : {C : Type 0} → (maybe.Option (maybe.Option (Slot B)) → C) → ℕ → maybe.Option (Slot B) → ℕ → ℕ → C
  column_after F j h l n = F (get_elem? (set hs j h) (slot_at n l))

  column_put : {C : Type 0} (F : maybe.Option (maybe.Option (Slot B)) → C) (n k : ℕ) (h : maybe.Option (Slot B)) → slot_at n k < length hs
      → column_after F (slot_at n k) h k ≡ put (column F k) n (F (some h))
  column_put F n k h fits = fun_ext (λ m. elim (cases_eq m n) [
    | inl e ↦ ap (λ (z : ℕ). F (get_elem? (set hs (slot_at n k) h) (slot_at z k))) e ∙ ap F (set_here hs (slot_at n k) h fits) ∙ sym (put_there (column F k) n (F (some h)) m e)
    | inr ne ↦ ap F (set_else hs (slot_at n k) (slot_at m k) h (λ e. ne (omega (arith, e)))) ∙ sym (put_other (column F k) n (F (some h)) m ne)
  ])

  column_beside : {C : Type 0} (F : maybe.Option (maybe.Option (Slot B)) → C) (n k l : ℕ) (h : maybe.Option (Slot B)) → k < SLOTS
      → l < SLOTS → l ≢ k → column_after F (slot_at n k) h l ≡ column F l
  column_beside F n k l h low small ne = fun_ext (λ m. ap F (set_else hs (slot_at n k) (slot_at m l) h (λ e. ne (omega (arith, e, low, small)))))

  -- a slot that shows the same before and after
  column_still : {C : Type 0} (F : maybe.Option (maybe.Option (Slot B)) → C) (j l : ℕ) (h : maybe.Option (Slot B)) → j < length hs
      → F (some h) ≡ F (get_elem? hs j) → column_after F j h l ≡ column F l
  column_still F j l h fits same = fun_ext (λ m. elim (cases_eq (slot_at m l) j) [
    | inl e ↦ ap (λ (z : ℕ). F (get_elem? (set hs j h) z)) e ∙ ap F (set_here hs j h fits) ∙ same ∙ ap (λ (z : ℕ). F (get_elem? hs z)) (sym e)
    | inr ne ↦ ap F (set_else hs j (slot_at m l) h ne)
  ])

abbrev Lying : Type 0 → Type 0
Lying B = maybe.Option (maybe.Option (Slot B))

abbrev task : {B : Type 0} → Lying B → Option TaskVal
task o = task_of (val_in o)

abbrev queue : {B : Type 0} → Lying B → Option Queue
queue o = queue_of (val_in o)

abbrev works : {B : Type 0} → Lying B → Option (List WorkItem)
works o = works_of (val_in o)

abbrev wait : {B : Type 0} → Lying B → Option (List WaitEntry)
wait o = wait_of (val_in o)

module _ {B : Type 0} (hs : List (maybe.Option (Slot B))) (ended : ℕ → Bool) where
  -- a value of the sort is taken out
  pub without_shown : (sort : Sort) (n : ℕ) → slot_at n (slot_of sort) < length hs
      → homes_of (set hs (slot_at n (slot_of sort)) none) ended ≡ without sort n (homes_of hs ended)
  without_shown OfTask n fits = λ j. record {
    task = column_put hs task n 0 none fits j;
    queue = column_beside hs queue n 0 2 none (omega arith) (omega arith) (omega arith) j;
    works = column_beside hs works n 0 3 none (omega arith) (omega arith) (omega arith) j;
    wait = column_beside hs wait n 0 5 none (omega arith) (omega arith) (omega arith) j;
    body = column_beside hs has_body n 0 1 none (omega arith) (omega arith) (omega arith) j;
    ended = ended;
  }
  without_shown OfQueue n fits = λ j. record {
    task = column_beside hs task n 2 0 none (omega arith) (omega arith) (omega arith) j;
    queue = column_put hs queue n 2 none fits j;
    works = column_beside hs works n 2 3 none (omega arith) (omega arith) (omega arith) j;
    wait = column_beside hs wait n 2 5 none (omega arith) (omega arith) (omega arith) j;
    body = column_beside hs has_body n 2 1 none (omega arith) (omega arith) (omega arith) j;
    ended = ended;
  }
  without_shown OfWorks n fits = λ j. record {
    task = column_beside hs task n 3 0 none (omega arith) (omega arith) (omega arith) j;
    queue = column_beside hs queue n 3 2 none (omega arith) (omega arith) (omega arith) j;
    works = column_put hs works n 3 none fits j;
    wait = column_beside hs wait n 3 5 none (omega arith) (omega arith) (omega arith) j;
    body = column_beside hs has_body n 3 1 none (omega arith) (omega arith) (omega arith) j;
    ended = ended;
  }
  without_shown OfWait n fits = λ j. record {
    task = column_beside hs task n 5 0 none (omega arith) (omega arith) (omega arith) j;
    queue = column_beside hs queue n 5 2 none (omega arith) (omega arith) (omega arith) j;
    works = column_beside hs works n 5 3 none (omega arith) (omega arith) (omega arith) j;
    wait = column_put hs wait n 5 none fits j;
    body = column_beside hs has_body n 5 1 none (omega arith) (omega arith) (omega arith) j;
    ended = ended;
  }

  -- a value is put home
  pub home_shown : (n : ℕ) (v : Val) → slot_at n (slot_of (sort_of v)) < length hs
      → homes_of (set hs (slot_at n (slot_of (sort_of v))) (some (Held v))) ended ≡ with_home n v (homes_of hs ended)
  home_shown n (val.Task v) fits = let h : maybe.Option (Slot B) = some (Held (val.Task v)) in λ j. record {
    task = column_put hs task n 0 h fits j;
    queue = column_beside hs queue n 0 2 h (omega arith) (omega arith) (omega arith) j;
    works = column_beside hs works n 0 3 h (omega arith) (omega arith) (omega arith) j;
    wait = column_beside hs wait n 0 5 h (omega arith) (omega arith) (omega arith) j;
    body = column_beside hs has_body n 0 1 h (omega arith) (omega arith) (omega arith) j;
    ended = ended;
  }
  home_shown n (val.Queue v) fits = let h : maybe.Option (Slot B) = some (Held (val.Queue v)) in λ j. record {
    task = column_beside hs task n 2 0 h (omega arith) (omega arith) (omega arith) j;
    queue = column_put hs queue n 2 h fits j;
    works = column_beside hs works n 2 3 h (omega arith) (omega arith) (omega arith) j;
    wait = column_beside hs wait n 2 5 h (omega arith) (omega arith) (omega arith) j;
    body = column_beside hs has_body n 2 1 h (omega arith) (omega arith) (omega arith) j;
    ended = ended;
  }
  home_shown n (val.Works v) fits = let h : maybe.Option (Slot B) = some (Held (val.Works v)) in λ j. record {
    task = column_beside hs task n 3 0 h (omega arith) (omega arith) (omega arith) j;
    queue = column_beside hs queue n 3 2 h (omega arith) (omega arith) (omega arith) j;
    works = column_put hs works n 3 h fits j;
    wait = column_beside hs wait n 3 5 h (omega arith) (omega arith) (omega arith) j;
    body = column_beside hs has_body n 3 1 h (omega arith) (omega arith) (omega arith) j;
    ended = ended;
  }
  home_shown n (val.Wait v) fits = let h : maybe.Option (Slot B) = some (Held (val.Wait v)) in λ j. record {
    task = column_beside hs task n 5 0 h (omega arith) (omega arith) (omega arith) j;
    queue = column_beside hs queue n 5 2 h (omega arith) (omega arith) (omega arith) j;
    works = column_beside hs works n 5 3 h (omega arith) (omega arith) (omega arith) j;
    wait = column_put hs wait n 5 h fits j;
    body = column_beside hs has_body n 5 1 h (omega arith) (omega arith) (omega arith) j;
    ended = ended;
  }

  -- a body is out, or home
  pub body_shown : (t : ℕ) (h : maybe.Option (Slot B)) → slot_at t BODY_SLOT < length hs
      → homes_of (set hs (slot_at t BODY_SLOT) h) ended ≡ record (homes_of hs ended) { body = put (homes_of hs ended).body t (has_body (some h)) }
  body_shown t h fits = λ j. record {
    task = column_beside hs task t 1 0 h (omega arith) (omega arith) (omega arith) j;
    queue = column_beside hs queue t 1 2 h (omega arith) (omega arith) (omega arith) j;
    works = column_beside hs works t 1 3 h (omega arith) (omega arith) (omega arith) j;
    wait = column_beside hs wait t 1 5 h (omega arith) (omega arith) (omega arith) j;
    body = column_put hs has_body t 1 h fits j;
    ended = ended;
  }

  -- a slot that has no value before and none after
  pub still_shown : (j : ℕ) (h : maybe.Option (Slot B)) → j < length hs → val_in (some h) ≡ val_in (get_elem? hs j)
      → has_body (some h) ≡ has_body (get_elem? hs j) → homes_of (set hs j h) ended ≡ homes_of hs ended
  still_shown i h fits a b = λ j. record {
    task = column_still hs task i 0 h fits (ap task_of a) j;
    queue = column_still hs queue i 2 h fits (ap queue_of a) j;
    works = column_still hs works i 3 h fits (ap works_of a) j;
    wait = column_still hs wait i 5 h fits (ap wait_of a) j;
    body = column_still hs has_body i 1 h fits b j;
    ended = ended;
  }

-- What lies in a slot that shows a value

none_some : (v : Val) → ◌≡◌ {A = Option Val} None (Some v) → ⊥
none_some v e = let no : false ≡ true = ap is_some e in cc

some_same : (v w : Val) → ◌≡◌ {A = Option Val} (Some v) (Some w) → v ≡ w
some_same v w e = cc

task_val : (o : Option Val) (v : Val) → some_of val.Task (task_of o) ≡ Some v → o ≡ Some v
task_val None v e = e
task_val (Some (val.Task w)) v e = e
task_val (Some (val.Queue w)) v e = absurd (none_some v e)
task_val (Some (val.Works w)) v e = absurd (none_some v e)
task_val (Some (val.Wait w)) v e = absurd (none_some v e)

queue_val : (o : Option Val) (v : Val) → some_of val.Queue (queue_of o) ≡ Some v → o ≡ Some v
queue_val None v e = e
queue_val (Some (val.Task w)) v e = absurd (none_some v e)
queue_val (Some (val.Queue w)) v e = e
queue_val (Some (val.Works w)) v e = absurd (none_some v e)
queue_val (Some (val.Wait w)) v e = absurd (none_some v e)

works_val : (o : Option Val) (v : Val) → some_of val.Works (works_of o) ≡ Some v → o ≡ Some v
works_val None v e = e
works_val (Some (val.Task w)) v e = absurd (none_some v e)
works_val (Some (val.Queue w)) v e = absurd (none_some v e)
works_val (Some (val.Works w)) v e = e
works_val (Some (val.Wait w)) v e = absurd (none_some v e)

wait_val : (o : Option Val) (v : Val) → some_of val.Wait (wait_of o) ≡ Some v → o ≡ Some v
wait_val None v e = e
wait_val (Some (val.Task w)) v e = absurd (none_some v e)
wait_val (Some (val.Queue w)) v e = absurd (none_some v e)
wait_val (Some (val.Works w)) v e = absurd (none_some v e)
wait_val (Some (val.Wait w)) v e = e

module _ {B : Type 0} where
  val_there : (o : maybe.Option (maybe.Option (Slot B))) (v : Val) → val_in o ≡ Some v → o ≡ some (some (Held v))
  val_there none v e = absurd (none_some v e)
  val_there (some none) v e = absurd (none_some v e)
  val_there (some (some Empty)) v e = absurd (none_some v e)
  val_there (some (some (Held w))) v e = ap (λ (z : Val). some (some (Held z))) (some_same w v e)
  val_there (some (some (Body b))) v e = absurd (none_some v e)
  val_there (some (some (Room r))) v e = absurd (none_some v e)

  pub body_there : (o : maybe.Option (maybe.Option (Slot B))) → has_body o ≡ true → (b : B) × (o ≡ some (some (Body b)))
  body_there none e = let no : false ≡ true = e in cc
  body_there (some none) e = let no : false ≡ true = e in cc
  body_there (some (some Empty)) e = let no : false ≡ true = e in cc
  body_there (some (some (Held v))) e = let no : false ≡ true = e in cc
  body_there (some (some (Body b))) e = (b, refl)
  body_there (some (some (Room r))) e = let no : false ≡ true = e in cc

  pub value_there : (sort : Sort) (hs : List (maybe.Option (Slot B))) (ended : ℕ → Bool) (n : ℕ) (v : Val)
      → home_of sort (homes_of hs ended) n ≡ Some v → get_elem? hs (slot_at n (slot_of sort)) ≡ some (some (Held v))
  value_there OfTask hs ended n v e = val_there (get_elem? hs (slot_at n 0)) v (task_val (val_in (get_elem? hs (slot_at n 0))) v e)
  value_there OfQueue hs ended n v e = val_there (get_elem? hs (slot_at n 2)) v (queue_val (val_in (get_elem? hs (slot_at n 2))) v e)
  value_there OfWorks hs ended n v e = val_there (get_elem? hs (slot_at n 3)) v (works_val (val_in (get_elem? hs (slot_at n 3))) v e)
  value_there OfWait hs ended n v e = val_there (get_elem? hs (slot_at n 5)) v (wait_val (val_in (get_elem? hs (slot_at n 5))) v e)
