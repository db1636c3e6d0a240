-- A gate is told, and its list goes on.
use Rattle.std.proofs.Common.{◌≡◌, ◌∙◌, ◌++◌, ◌+◌, ◌≤◌, ◌∷◌, ℕ, List, [], length, take, refl, sym, ap, subst, inl, inr, arith}
use Rattle.std.specs.Prelude.{Option, Some, None, slice_get}
use Rattle.std.proofs.lemmas.List.{append-nil, append_assoc, take_more, take_all, take-append-le}
use Rattle.std.proofs.lemmas.Option.{slice_get_cases, slice_get_within, get_or_from_slice_get}
use Rattle.handoff_data.specs.declared.entry.Entry.{Entry}
use Rattle.run_cells.specs.Telling.{told_after, StaysTold, cleared, GoesOn}
use Rattle.task_words.specs.Views.{PassView, IsSameSeat}

after_twice : (begun : Option (List Entry)) (xs ys : List Entry) → told_after (told_after begun xs) ys ≡ told_after begun (xs ++ ys)
after_twice None xs ys = refl
after_twice (Some list) xs ys = ap (λ (l : List Entry). Some l) (append_assoc list xs ys)

-- the turn is told, and then empty
told_now : (before after : Option (List Entry)) (pass : PassView) → after ≡ told_after before pass.turn.entries
    → StaysTold before after pass (cleared pass)
told_now before after pass did begun is =
    did ∙ ap (λ (o : Option (List Entry)). told_after o pass.turn.entries) is ∙ after_twice begun pass.told pass.turn.entries

-- a list that stays is told where nothing more was
told_still : (before after : Option (List Entry)) (old new : PassView) → after ≡ before → new.told ≡ old.told → StaysTold before after old new
told_still before after old new same told begun is =
    same ∙ is ∙ ap (told_after begun) (sym told)

-- the turn is told, and the gate's list goes on
pub goes_told : (before after : Option (List Entry)) (old new : PassView) → new ≡ cleared old
    → after ≡ told_after before old.turn.entries → GoesOn before after old new
goes_told before after old new cleared_is did = subst (GoesOn before after old) (sym cleared_is) (record {
  same = record { table = refl; same_shape = refl; same_lasting = refl; same_seat = refl };
  told = told_now before after old did;
  grows = record { added = old.turn.entries; is = refl };
})

-- a call that tells nobody
pub goes_call : (list : Option (List Entry)) (old new : PassView) → IsSameSeat old new → GoesOn list list old new
goes_call list old new is = record {
  same = record { table = is.table; same_shape = is.same_shape; same_lasting = is.same_lasting; same_seat = is.same_seat };
  told = told_still list list old new refl is.same_told;
  grows = record { added = []; is = is.same_told ∙ sym (append-nil old.told) };
}

-- the gate refuses
pub goes_refused : (before after : Option (List Entry)) (old new : PassView) → new ≡ old → after ≡ before → GoesOn before after old new
goes_refused before after old new same still = record {
  same = record {
    table = ap (λ (p : PassView). p.of) same;
    same_shape = ap (λ (p : PassView). p.shape) same;
    same_lasting = ap (λ (p : PassView). p.lasting) same;
    same_seat = ap (λ (p : PassView). p.seat) same;
  };
  told = told_still before after old new still (ap (λ (p : PassView). p.told) same);
  grows = record { added = []; is = ap (λ (p : PassView). p.told) same ∙ sym (append-nil old.told) };
}

-- one after the other
pub goes_again : (x y z : Option (List Entry)) (a b c : PassView) → GoesOn x y a b → GoesOn y z b c → GoesOn x z a c
goes_again x y z a b c first second = record {
  same = record {
    table = second.same.table ∙ first.same.table;
    same_shape = second.same.same_shape ∙ first.same.same_shape;
    same_lasting = second.same.same_lasting ∙ first.same.same_lasting;
    same_seat = second.same.same_seat ∙ first.same.same_seat;
  };
  told = λ begun is. second.told begun (first.told begun is);
  grows = record {
    added = first.grows.added ++ second.grows.added;
    is = second.grows.is ∙ ap (λ (xs : List Entry). xs ++ second.grows.added) first.grows.is
        ∙ append_assoc a.told first.grows.added second.grows.added;
  };
}

-- a call that tells nobody, and then its telling
pub goes_then : (x y : Option (List Entry)) (a b c : PassView) → IsSameSeat a b → GoesOn x y b c → GoesOn x y a c
goes_then x y a b c same then = goes_again x x y a b c (goes_call x a b same) then

-- Entries that are added one by one

pub added_one : (all start xs : List Entry) (i : ℕ) (x : Entry) → xs ≡ start ++ take i all → slice_get all i ≡ Some x
    → xs ++ x ∷ [] ≡ start ++ take (i + 1) all
added_one all start xs i x so_far there =
    let one : take i all ++ x ∷ [] ≡ take (i + 1) all =
    ap (λ (y : Entry). take i all ++ y ∷ []) (sym (get_or_from_slice_get all i x x there)) ∙ sym (take_more all i x (slice_get_within all i x there)) in
    ap (λ (z : List Entry). z ++ x ∷ []) so_far ∙ append_assoc start (take i all) (x ∷ []) ∙ ap (λ (z : List Entry). start ++ z) one

past : (all : List Entry) (i : ℕ) → slice_get all i ≡ None → length all ≤ i
past all i none = elim ((slice_get_cases all i).1) [
  | inl h ↦ absurd (grind (arith, none, h.2))
  | inr h ↦ h.0
]

pub added_all : (all start xs : List Entry) (i : ℕ) → xs ≡ start ++ take i all → slice_get all i ≡ None → xs ≡ start ++ all
added_all all start xs i so_far none = so_far ∙ ap (λ (z : List Entry). start ++ z) (take_all i all (past all i none))

-- what was there first stands in front
pub front_of : (start more xs : List Entry) → xs ≡ start ++ more → take (length start) xs ≡ start
front_of start more xs is =
    ap (take (length start)) is ∙ take-append-le (length start) start more (omega arith) ∙ take_all (length start) start (omega arith)
