-- Which slots of a closed table are taken.
use Rattle.std.proofs.Common.{◌≡◌, ◌≢◌, ℕ, ◌+◌, ◌<◌, ◌≤◌, Bool, true, false, get_or, set, get_or-set_same, get_or-set_other, length, map, sym, ap, ◌∙◌, subst, inl, inr, List, [], ◌∷◌, ◌++◌, arith}
use Rattle.std.specs.Prelude.{if◌then◌else◌}
use Rattle.std.specs.List.{range_with_len}
use Rattle.std.proofs.lemmas.Bool.{cases_eq}
use Rattle.std.proofs.lemmas.Bool.Decides.{nat_tests}
use Rattle.std.proofs.lemmas.List.{map_push}
use Rattle.std.proofs.lemmas.List.FromFn.{map-range_with_len_more}
use Rattle.word_table.specs.End.{is_body}
use Rattle.word_table.specs.Layout.{BODY_SLOT, slot_at}

pub no_body : (k : ℕ) → is_body 0 k ≡ false
no_body k = grind (arith, nat_tests)

this_body : (t : ℕ) → is_body (t + 1) (slot_at t BODY_SLOT) ≡ true
this_body t = grind (arith, nat_tests)

other_body : (t k : ℕ) → k ≢ slot_at t BODY_SLOT → is_body (t + 1) k ≡ is_body t k
other_body t k ne = grind (arith, nat_tests)

pub not_yet : (t : ℕ) → is_body t (slot_at t BODY_SLOT) ≡ false
not_yet t = grind (arith, nat_tests)

-- of the slots that were filled, those of the first t bodies are not any more
abbrev pub HasTaken : ℕ → (before after : List Bool) → Type 0
HasTaken t before after = (k : ℕ) → get_or after k false ≡ (if is_body t k then false else get_or before k false)

pub one_taken : (t : ℕ) (before after more : List Bool) → slot_at t BODY_SLOT < length after → HasTaken t before after
    → more ≡ set after (slot_at t BODY_SLOT) false → HasTaken (t + 1) before more
one_taken t before after more fits had is k = ap (λ (z : List Bool). get_or z k false) is
    ∙ elim (cases_eq k (slot_at t BODY_SLOT)) [
      | inl e ↦ ap (λ (z : ℕ). get_or (set after (slot_at t BODY_SLOT) false) z false) e
          ∙ get_or-set_same after (slot_at t BODY_SLOT) false false fits
          ∙ ap (λ (b : Bool). if b then false else get_or before k false) (sym (ap (is_body (t + 1)) e ∙ this_body t))
      | inr ne ↦ get_or-set_other after (slot_at t BODY_SLOT) k false false ne ∙ had k
          ∙ ap (λ (b : Bool). if b then false else get_or before k false) (sym (other_body t k ne))
    ]

-- the next slot of those that are emptied in their order
pub record Emptied (from last : ℕ) (others : ℕ → Bool) (filled : List Bool) : Type 0 where
  pub below : (k : ℕ) → k < from → get_or filled k false ≡ false
  pub above : (k : ℕ) → from ≤ k → k < last → get_or filled k false ≡ others k
  pub end : get_or filled last false ≡ false

pub one_kept : (i last : ℕ) (others : ℕ → Bool) (filled : List Bool) → i < last → others i ≡ false
    → Emptied i last others filled → Emptied (i + 1) last others filled
one_kept i last others filled low is had = record {
  below = λ k lt. elim (cases_eq k i) [
    | inl e ↦ ap (λ (z : ℕ). get_or filled z false) e ∙ had.above i (omega arith) low ∙ is
    | inr ne ↦ had.below k (omega arith)
  ];
  above = λ k le lt. had.above k (omega arith) lt;
  end = had.end;
}

pub one_emptied : (i last : ℕ) (others : ℕ → Bool) (filled after : List Bool) → i < last → last < length filled
    → after ≡ set filled i false → Emptied i last others filled → Emptied (i + 1) last others after
one_emptied i last others filled after low fits is had = subst (Emptied (i + 1) last others) (sym is) record {
  below = λ k lt. elim (cases_eq k i) [
    | inl e ↦ ap (λ (z : ℕ). get_or (set filled i false) z false) e ∙ get_or-set_same filled i false false (omega arith)
    | inr ne ↦ get_or-set_other filled i k false false ne ∙ had.below k (omega arith)
  ];
  above = λ k le lt. get_or-set_other filled i k false false (λ e. omega arith) ∙ had.above k (omega arith) lt;
  end = get_or-set_other filled i last false false (λ e. omega arith) ∙ had.end;
}

-- one more value of a list that is read off in order
pub one_read : {A C : Type 0} (F : A → C) (f : ℕ → C) (xs after : List A) (x : A) (n : ℕ)
    → map F xs ≡ map f (range_with_len 0 n) → after ≡ xs ++ x ∷ [] → F x ≡ f n
    → map F after ≡ map f (range_with_len 0 (n + 1))
one_read F f xs after x n had is e = ap (map F) is ∙ map_push F xs x ∙ (λ j. had j ++ e j ∷ [])
    ∙ sym (map-range_with_len_more f 0 n n (omega arith))

pub one_plain : {A : Type 0} (f : ℕ → A) (xs after : List A) (x : A) (n : ℕ) → xs ≡ map f (range_with_len 0 n)
    → after ≡ xs ++ x ∷ [] → x ≡ f n → after ≡ map f (range_with_len 0 (n + 1))
one_plain f xs after x n had is e = is ∙ (λ j. had j ++ e j ∷ []) ∙ sym (map-range_with_len_more f 0 n n (omega arith))
