-- How the words and slots of a new table are laid.
use Rattle.std.proofs.Common.{◌≡◌, ℕ, zero, suc, ◌+◌, ◌*◌, ◌<◌, ◌≤◌, inl, inr, length, get_or, refl, sym, ap, ◌∙◌, subst, List, [], ◌∷◌, ◌++◌, arith}
use Rattle.std.proofs.Math.ListN.{set}
use Rattle.std.proofs.lemmas.Bool.{cases_eq}
use Rattle.std.proofs.lemmas.Bool.Decides.{nat_tests}
use Rattle.std.proofs.lemmas.List.{length-append}
use Rattle.std.specs.Prelude.{replicate, Vec}
use Rattle.std.specs.Global.{Global}
use Rattle.std.specs.Vec.{vec_capacity}
use mathlib.Core.Option.{none, some}
use mathlib.Core.Option as maybe
use mathlib.Core.Path.{fun_ext}
use lib.ListN.{get_elem?}
use Rattle.core_data.specs.Columns.{put_at}
use Rattle.handoff_data.specs.declared.mask.CpuMask.{CpuMask}
use Rattle.handoff_data.specs.declared.shape.Shape.{Shape}
use Rattle.word_steps.proofs.FlatWords.{words_of-set}
use Rattle.word_steps.specs.Words.{STATE, ACTIVE, words_of}
use Rattle.word_table.specs.Begin.{words_with, body_slot, row, AreRows, IsLaid}
use Rattle.word_table.specs.Layout.{SLOTS, rows_of, slot_at}
use Rattle.word_table.specs.Ruled.{IsRoomed}
use Rattle.word_table.specs.declared.slot.Slot.{Slot}
use Rattle.word_table.specs.declared.slot.Slot.TheVariants.{Empty, Body, Room}

-- The words

zeros : (n i : ℕ) → get_or {A = ℕ} (replicate n 0) i 0 ≡ 0
zeros zero i = refl
zeros (suc n) zero = refl
zeros (suc n) (suc i) = zeros n i

zero_word : (n m c : ℕ) → words_of (replicate n 0) m c ≡ words_with 0 0 m c
zero_word n m c = let z = zeros n (64 * m + c) in grind (arith, nat_tests)

pub zero_words : (n : ℕ) → words_of (replicate n 0) ≡ words_with 0 0
zero_words n = fun_ext (λ m. fun_ext (zero_word n m))

task_word : (t p m c : ℕ) → put_at (words_with t p) t STATE 0x800 m c ≡ words_with (t + 1) p m c
task_word t p m c = grind (arith, nat_tests)

cpu_word : (t p m c : ℕ) → put_at (words_with t p) p ACTIVE 1 m c ≡ words_with t (p + 1) m c
cpu_word t p m c = grind (arith, nat_tests)

-- one task more is TASK_NEW
pub task_stored : (words : List ℕ) (t p : ℕ) → words_of words ≡ words_with t p → 64 * t + 10 < length words
    → words_of (set words (64 * t + 10) 0x800) ≡ words_with (t + 1) p
task_stored words t p is fits = words_of-set words t 10 0x800 (omega arith) fits ∙ ap (λ f. put_at f t 10 0x800) is
    ∙ fun_ext (λ m. fun_ext (task_word t p m))

-- one processor more is active
pub cpu_stored : (words : List ℕ) (t p : ℕ) → words_of words ≡ words_with t p → 64 * p + 30 < length words
    → words_of (set words (64 * p + 30) 1) ≡ words_with t (p + 1)
cpu_stored words t p is fits = words_of-set words p 30 1 (omega arith) fits ∙ ap (λ f. put_at f p 30 1) is
    ∙ fun_ext (λ m. fun_ext (cpu_word t p m))

-- The slots

module _ {A : Type 0} where
  pub front_at : (xs ys : List A) (i : ℕ) → i < length xs → get_elem? (xs ++ ys) i ≡ get_elem? xs i
  front_at [] ys i h = absurd (omega arith)
  front_at (x ∷ xs) ys zero h = refl
  front_at (x ∷ xs) ys (suc i) h = front_at xs ys i (omega arith)

  pub back_at : (xs ys : List A) (n i : ℕ) → n ≡ length xs + i → get_elem? (xs ++ ys) n ≡ get_elem? ys i
  back_at [] ys n i e = ap (get_elem? ys) (omega (arith, e))
  back_at (x ∷ xs) ys zero i e = absurd (omega arith)
  back_at (x ∷ xs) ys (suc n) i e = back_at xs ys n i (omega arith)

  pub past : (xs : List A) (i : ℕ) → length xs ≤ i → get_elem? xs i ≡ none
  past [] i h = refl
  past (x ∷ xs) zero h = absurd (omega arith)
  past (x ∷ xs) (suc i) h = past xs i (omega arith)

module _ {B : Type 0} (shape : Shape) (mask : CpuMask) where
  -- the slots of one number more
  row_more : (m : ℕ) (bodies : List B) (slots : List (Slot B)) → length slots ≡ SLOTS * m
      → AreRows shape mask m bodies slots
      → AreRows shape mask (m + 1) bodies (slots ++ row shape mask m (body_slot (get_elem? bodies m)))
  row_more m bodies slots long rows n k low small = elim (cases_eq n m) [
    | inl e ↦ back_at slots (row shape mask m (body_slot (get_elem? bodies m))) (slot_at n k) k
        (omega (arith, e, long)) ∙ ap (λ (z : ℕ). get_elem? (row shape mask z (body_slot (get_elem? bodies z))) k)
        (sym e)
    | inr ne ↦ front_at slots (row shape mask m (body_slot (get_elem? bodies m))) (slot_at n k)
        (omega (arith, ne, low, small, long)) ∙ rows n k (omega (arith, ne, low)) small
  ]

  -- .. and a body more behind those that were laid
  body_more : (m : ℕ) (bodies : List B) (body : B) (slots : List (Slot B)) → length bodies ≡ m
      → AreRows shape mask m bodies slots → AreRows shape mask m (bodies ++ body ∷ []) slots
  body_more m bodies body slots count rows n k low small = rows n k low small
      ∙ ap (λ (z : maybe.Option B). get_elem? (row shape mask n (body_slot z)) k)
      (sym (front_at bodies (body ∷ []) n (omega (arith, count, low))))

  pub body_laid : (m : ℕ) (bodies : List B) (body : B) (slots after : List (Slot B)) → length bodies ≡ m
      → length slots ≡ SLOTS * m → AreRows shape mask m bodies slots → after ≡ slots ++ row shape mask m (Body body)
      → AreRows shape mask (m + 1) (bodies ++ body ∷ []) after
  body_laid m bodies body slots after count long rows is =
      subst (AreRows shape mask (m + 1) (bodies ++ body ∷ []))
      (ap (λ (z : maybe.Option B). slots ++ row shape mask m (body_slot z))
      (back_at bodies (body ∷ []) m 0 (omega (arith, count))) ∙ sym is)
      (row_more m (bodies ++ body ∷ []) slots long (body_more m bodies body slots count rows))

  pub bare_laid : (m : ℕ) (bodies : List B) (slots after : List (Slot B)) → length bodies ≤ m
      → length slots ≡ SLOTS * m → AreRows shape mask m bodies slots → after ≡ slots ++ row shape mask m Empty
      → AreRows shape mask (m + 1) bodies after
  bare_laid m bodies slots after count long rows is =
      subst (AreRows shape mask (m + 1) bodies) (ap (λ (z : maybe.Option B). slots ++ row shape mask m (body_slot z))
      (past bodies m count) ∙ sym is) (row_more m bodies slots long rows)

  -- all slots, and the room behind them
  pub all_laid : (bodies : List B) (slots after : List (Slot B)) (room : Vec B Global)
      → length slots ≡ SLOTS * rows_of shape → AreRows shape mask (rows_of shape) bodies slots
      → room.items ≡ [] → shape.tasks ≤ vec_capacity room → after ≡ slots ++ Room room ∷ []
      → IsLaid shape mask bodies after
  all_laid bodies slots after room long rows empty enough is = subst (IsLaid shape mask bodies) (sym is) record {
    long = length-append slots (Room room ∷ []) ∙ ap (λ (z : ℕ). z + 1) long;
    rows = λ n k low small. front_at slots (Room room ∷ []) (slot_at n k) (omega (arith, low, small, long))
        ∙ rows n k low small;
    room = subst (λ (z : maybe.Option (Slot B)). IsRoomed shape.tasks (some z))
        (sym (back_at slots (Room room ∷ []) (SLOTS * rows_of shape) 0 (omega (arith, long)))) (empty, enough);
  }
