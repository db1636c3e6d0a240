-- The exclusive entries of a wait queue that is home stay told.
use Rattle.std.proofs.Common.{◌≡◌, ℕ, Bool, true, false, set, refl, sym, ap, ◌∙◌, subst, List, [], ◌∷◌, inl, inr, ⊎_elim, eq-eqb, arith}
use Rattle.std.specs.Prelude.{Option, Some, None, is_some, ◌==◌, ◌&&◌, ◌||◌, if◌then◌else◌}
use Rattle.std.proofs.lemmas.Bool.{cases_eq}
use mathlib.Core.Option.{none, some, some-injective, some-ne-none}
use mathlib.Core.Option as maybe
use lib.ListN.{get_elem?}
use Rattle.atomic_table.proofs.Lists.{at_set}
use Rattle.core_data.specs.Entries.{has_entry}
use Rattle.core_data.specs.Columns.{put}
use Rattle.core_data.specs.declared.values.WaitEntry.{WaitEntry}
use Rattle.core_stores.proofs.Columns.{put_there, put_other}
use Rattle.word_steps.specs.Exclusives.{exclusive_entry}
use Rattle.word_rule.specs.Sorts.{Sort, OfWait, some_of}
use Rattle.word_steps.specs.Records.{Rec, Gave}
use Rattle.word_steps.specs.declared.val.Val.{Val}
use Rattle.word_steps.specs.declared.val.Val.TheVariants as val
use Rattle.word_table.proofs.Decoded.{value_there}
use Rattle.word_table.proofs.Slotted.{low_slot}
use Rattle.word_table.specs.Exclusives.{gives_exclusive, gave_exclusive, ExclusivesTold}
use Rattle.word_table.specs.Layout.{slot_of, slot_at}
use Rattle.word_table.specs.Ruled.{val_in, wait_of, homes_of}
use Rattle.word_table.specs.declared.slot.Slot.{Slot}
use Rattle.word_table.specs.declared.slot.Slot.TheVariants.{Held}

or_left : (a b : Bool) → a ≡ true → (a || b) ≡ true
or_left true b e = refl
or_left false b e = let no : false ≡ true = e in cc

or_right : (a b : Bool) → b ≡ true → (a || b) ≡ true
or_right true b e = refl
or_right false b e = e

both : (a b : Bool) → a ≡ true → b ≡ true → (a && b) ≡ true
both true b e f = f
both false b e f = let no : false ≡ true = e in cc

-- the later trace tells all that the earlier one does
abbrev pub TellsAll : List Rec → List Rec → Type 0
TellsAll before after = (k t : ℕ) → gave_exclusive before k t ≡ true → gave_exclusive after k t ≡ true

pub tells_more : (r : Rec) (trace : List Rec) → TellsAll trace (r ∷ trace)
tells_more r trace k t e = or_right (gives_exclusive r k t) (gave_exclusive trace k t) e

pub tells_same : (trace : List Rec) → TellsAll trace trace
tells_same trace k t e = e

-- what is given is told
pub given_told : (n : ℕ) (v w : Val) (trace : List Rec) (sort : Sort) (k t : ℕ) (entries : List WaitEntry)
    → slot_at k (slot_of OfWait) ≡ slot_at n (slot_of sort) → w ≡ val.Wait entries → has_entry entries
    (exclusive_entry t) ≡ true
    → gave_exclusive (Gave n v w ∷ trace) k t ≡ true
given_told n v w trace sort k t entries at is has =
    let low = low_slot sort in let e : k ≡ n = omega (arith, at, low) in let same : (k == n) ≡ true = eq-eqb k n e in
    subst (λ (z : Val). gave_exclusive (Gave n v z ∷ trace) k t ≡ true) (sym is)
    (or_left ((k == n) && has_entry entries (exclusive_entry t)) (gave_exclusive trace k t)
    (both (k == n) (has_entry entries (exclusive_entry t)) same has))

-- a new table has no entry
pub first_empty : (b : Bool) (entries : List WaitEntry)
    → ◌≡◌ {A = Option (List WaitEntry)} (if b then Some [] else None) (Some entries)
    → entries ≡ []
first_empty true entries e = cc
first_empty false entries e = let no : false ≡ true = ap is_some e in cc

module _ (traces : ℕ → List Rec) (s : ℕ) (tr tr' : List Rec) (is : tr ≡ traces s) (more : TellsAll tr tr') where
  told_after : (k t : ℕ) → (q : ℕ) × (gave_exclusive (traces q) k t ≡ true)
      → (q : ℕ) × (gave_exclusive (put traces s tr' q) k t ≡ true)
  told_after k t old =
      let tells : List Rec → Bool = λ z. gave_exclusive z k t in elim (cases_eq old.0 s) [
        | inl e ↦ (s, ap tells (put_there traces s tr' s refl) ∙ more k t (ap tells (is ∙ ap traces (sym e)) ∙ old.1))
        | inr ne ↦ (old.0, ap tells (put_other traces s tr' old.0 ne) ∙ old.1)
      ]

  pub told_still : (wait : ℕ → Option (List WaitEntry)) → ExclusivesTold traces wait
      → ExclusivesTold (put traces s tr') wait
  told_still wait told k t entries home has = told_after k t (told k t entries home has)

  module _ {B : Type 0} (hs : List (maybe.Option (Slot B))) (ended : ℕ → Bool)
      (told : ExclusivesTold traces (homes_of hs ended).wait) where
    wait_at : (k : ℕ) (entries : List WaitEntry) (hs' : List (maybe.Option (Slot B))) (ended' : ℕ → Bool)
        → (homes_of hs' ended').wait k ≡ Some entries
        → get_elem? hs' (slot_at k (slot_of OfWait)) ≡ some (some (Held (val.Wait entries)))
    wait_at k entries hs' ended' e = value_there OfWait hs' ended' k (val.Wait entries) (ap (some_of val.Wait) e)

    at_before : (k t : ℕ) (entries : List WaitEntry)
        → get_elem? hs (slot_at k (slot_of OfWait)) ≡ some (some (Held (val.Wait entries)))
        → has_entry entries (exclusive_entry t) ≡ true → (q : ℕ) × (gave_exclusive (put traces s tr' q) k t ≡ true)
    at_before k t entries there has = told_after k t (told k t entries (ap (λ o. wait_of (val_in o)) there) has)

    -- one slot less is home
    pub told_gone : (j : ℕ) → ExclusivesTold (put traces s tr') (homes_of (set hs j none) ended).wait
    told_gone j k t entries home has =
        let held : Slot B = Held (val.Wait entries) in
        ⊎_elim (λ e. absurd (some-ne-none held (sym e.1))) (λ e. at_before k t entries e.1 has)
        (at_set hs j (slot_at k (slot_of OfWait)) none (some held) (wait_at k entries (set hs j none) ended home))

    -- a slot is home with y
    pub told_put : (j : ℕ) (y : Slot B) (ended' : ℕ → Bool)
        → ((k t : ℕ) (entries : List WaitEntry) → slot_at k (slot_of OfWait) ≡ j → y ≡ Held (val.Wait entries)
        → has_entry entries (exclusive_entry t) ≡ true
        → gave_exclusive tr' k t ≡ true)
        → ExclusivesTold (put traces s tr') (homes_of (set hs j (some y)) ended').wait
    told_put j y ended' new k t entries home has =
        let held : Slot B = Held (val.Wait entries) in
        ⊎_elim (λ e. (
          s,
          ap (λ (z : List Rec). gave_exclusive z k t) (put_there traces s tr' s refl)
              ∙ new k t entries e.0 (some-injective y held e.1) has,
        ))
        (λ e. at_before k t entries e.1 has)
        (at_set hs j (slot_at k (slot_of OfWait)) (some y) (some held) (wait_at k entries (set hs j (some y)) ended' home))
