-- What the calls mean, from what they did.
use Rattle.std.proofs.Common.{◌≡◌, ◌≢◌, ◌∙◌, ℕ, ◌+◌, ◌<◌, ◌++◌, ◌∷◌, [], List, refl, sym, ap, subst, inl, inr, zero, suc, arith}
use Rattle.std.specs.Prelude.{Bool, true, false, ◌⊎◌, ◌==◌, ◌↔◌, Option, Some, None, if◌then◌else◌}
use Rattle.std.specs.List.{filter}
use Rattle.std.proofs.lemmas.Bool.{cases_Bool}
use Rattle.std.proofs.lemmas.Bool.Decides.{nat_tests}
use Rattle.std.proofs.lemmas.List.{append-nil}
use Rattle.std.proofs.lemmas.List.Elements.{All-nil, All-cons}
use Rattle.core_data.specs.Entries.{any_from, has_entry, same_entry}
use Rattle.core_data.specs.declared.values.WaitEntry.{WaitEntry}
use Rattle.core_gives.specs.Waits.{has_task}
use Rattle.handoff_data.specs.declared.shape.Shape.{Shape}
use Rattle.handoff_data.specs.declared.state.State.{State}
use Rattle.task_words.specs.Gives.{entered}
use Rattle.task_words.specs.Views.{PassView}
use Rattle.wait_queue.proofs.Meetings.{last_count}
use Rattle.wait_queue.proofs.Parts.{any_there, any_first, entry_task}
use Rattle.wait_queue.specs.Entering.{IsPrepared, IsFinished, with_entry}
use Rattle.wait_queue.specs.Laws.{IsStoredWithin, IsGone, HasMetAll, IsEnough, NoneWoken}
use Rattle.wait_queue.specs.Meets.{Meeting, HasMet, is_true, entries_of, staying, count_true, count_exclusive}
use Rattle.wait_queue.specs.Walks.{IsWalked}
use Rattle.word_steps.specs.Entries.{is_of_other}
use Rattle.word_steps.specs.Records.{Rec, Took, Gave}
use Rattle.word_steps.specs.declared.val.Val.TheVariants as val
use mathlib.Core.Bool.{not}

-- Entering

module _ (x : WaitEntry) (v : List WaitEntry) where
  entered_task : has_task (entered x v) x.t ≡ true
  unfolding entered
  entered_task = elim (x.exclusive) as (λ b. has_task (if b then v ++ x ∷ [] else x ∷ v) x.t ≡ true) [
    | true ↦ any_there (λ z. z.t == x.t) v [] x (grind (arith, nat_tests))
    | false ↦ any_there (λ z. z.t == x.t) [] v x (grind (arith, nat_tests))
  ]

  within_task : has_task (with_entry x v) x.t ≡ true
  unfolding with_entry
  within_task = elim (cases_Bool (has_task v x.t)) [
    | inl q ↦ ap (λ (b : Bool). has_task (if b then v else entered x v) x.t) q ∙ q
    | inr q ↦ ap (λ (b : Bool). has_task (if b then v else entered x v) x.t) q ∙ entered_task
  ]

  stayed_there : has_task v x.t ≡ true → with_entry x v ≡ v
  unfolding with_entry
  stayed_there q = ap (λ (b : Bool). if b then v else entered x v) q

  came_tail : has_task v x.t ≡ false → x.exclusive ≡ true → with_entry x v ≡ v ++ x ∷ []
  unfolding with_entry entered
  came_tail q e =
      ap (λ (b : Bool). if b then v else (if x.exclusive then v ++ x ∷ [] else x ∷ v)) q
      ∙ ap (λ (b : Bool). if b then v ++ x ∷ [] else x ∷ v) e

  came_head : has_task v x.t ≡ false → x.exclusive ≡ false → with_entry x v ≡ x ∷ v
  unfolding with_entry entered
  came_head q e =
      ap (λ (b : Bool). if b then v else (if x.exclusive then v ++ x ∷ [] else x ∷ v)) q
      ∙ ap (λ (b : Bool). if b then v ++ x ∷ [] else x ∷ v) e

pub prepared_within : (k s : ℕ) (exclusive : Bool) (state : State) (old new : List Rec)
    → IsPrepared k exclusive state s old new → IsStoredWithin k exclusive state s old new
prepared_within k s exclusive state old new p =
    let x : WaitEntry = record { t = p.t; exclusive = exclusive } in
    record {
      t = p.t;
      taken = p.v;
      given = with_entry x p.v;
      current = p.current;
      did = p.did;
      within = within_task x p.v;
      stayed = stayed_there x p.v;
      at_tail = came_tail x p.v;
      at_head = came_head x p.v;
    }

-- Leaving

filtered_if : (b : Bool) (q : WaitEntry → Bool) (x : WaitEntry) (xs : List WaitEntry)
    → any_from q false (if not b then x ∷ xs else xs) ≡ (if b then any_from q false xs else (if q x then true else any_from q false xs))
filtered_if true q x xs = refl
filtered_if false q x xs = any_first q x xs

filtered_gone : (t : ℕ) (v : List WaitEntry) → has_task (filter (is_of_other t) v) t ≡ false
filtered_gone t [] = refl
filtered_gone t (x ∷ xs) =
    filtered_if (x.t == t) (λ z. z.t == t) x (filter (is_of_other t) xs)
    ∙ elim (x.t == t) as (λ b. (if b then has_task (filter (is_of_other t) xs) t else (if b then true else has_task (filter (is_of_other t) xs) t)) ≡ false) [
      | true ↦ filtered_gone t xs
      | false ↦ filtered_gone t xs
    ]

other_entry : (t : ℕ) (x y : WaitEntry) → y.t ≢ t → (x.t == t) ≡ true → same_entry x y ≡ false
other_entry t x y other is = elim (cases_Bool (same_entry x y)) [
  | inl q ↦ let same = entry_task x y q in absurd (other (grind (arith, nat_tests, same, is)))
  | inr q ↦ q
]

by_task : (t : ℕ) (x y : WaitEntry) (xs : List WaitEntry) → y.t ≢ t → has_entry (filter (is_of_other t) xs) y ≡ has_entry xs y
    → ((x.t == t) ≡ true) ⊎ ((x.t == t) ≡ false)
    → (if x.t == t then has_entry (filter (is_of_other t) xs) y else (if same_entry x y then true else has_entry (filter (is_of_other t) xs) y))
    ≡ (if same_entry x y then true else has_entry xs y)
by_task t x y xs other rest (inl is) =
    ap (λ (b : Bool). if b then has_entry (filter (is_of_other t) xs) y else (if same_entry x y then true else has_entry (filter (is_of_other t) xs) y)) is
    ∙ rest ∙ sym (ap (λ (b : Bool). if b then true else has_entry xs y) (other_entry t x y other is))
by_task t x y xs other rest (inr not_is) =
    ap (λ (b : Bool). if b then has_entry (filter (is_of_other t) xs) y else (if same_entry x y then true else has_entry (filter (is_of_other t) xs) y)) not_is
    ∙ ap (λ (b : Bool). if same_entry x y then true else b) rest

filtered_entry : (t : ℕ) (v : List WaitEntry) (y : WaitEntry) → y.t ≢ t → has_entry (filter (is_of_other t) v) y ≡ has_entry v y
filtered_entry t [] y other = refl
filtered_entry t (x ∷ xs) y other =
    filtered_if (x.t == t) (λ z. same_entry z y) x (filter (is_of_other t) xs)
    ∙ by_task t x y xs other (filtered_entry t xs y other) (cases_Bool (x.t == t)) ∙ sym (any_first (λ z. same_entry z y) x xs)

pub finished_gone : (k s : ℕ) (old new : List Rec) → IsFinished k s old new → IsGone k s old new
finished_gone k s old new p = record {
  t = p.t;
  before = _;
  taken = p.v;
  given = filter (is_of_other p.t) p.v;
  current = p.current;
  did = p.did;
  gone = filtered_gone p.t p.v;
  others = λ x other. filtered_entry p.t p.v x other;
}

-- Walks

pub none_left : (shape : Shape) (k woken : ℕ) (old new : PassView) → IsWalked shape k None old new woken → HasMetAll shape k old new
none_left shape k woken old new w = by_rest w.rest w.end.reached w.met (ap (λ (p : PassView). p.trace) w.did)
  where
    by_rest : (rest : List WaitEntry) → (rest ≢ [] → None ≡ Some (count_exclusive w.meetings))
        → HasMet shape w.meetings (record old { trace = Took k (val.Wait (entries_of w.meetings ++ rest)) ∷ old.trace }) w.after
        → new.trace ≡ Gave k (val.Wait (entries_of w.meetings ++ rest)) (val.Wait (staying w.meetings ++ rest)) ∷ w.after.trace
        → HasMetAll shape k old new
    by_rest [] reached met did = record {
      meetings = w.meetings;
      after = w.after;
      met = subst (λ (z : List WaitEntry). HasMet shape w.meetings (record old { trace = Took k (val.Wait z) ∷ old.trace }) w.after)
          (append-nil (entries_of w.meetings)) met;
      did = did ∙ ap (λ (z : List WaitEntry × List WaitEntry). Gave k (val.Wait z.0) (val.Wait z.1) ∷ w.after.trace)
          (λ i. (append-nil (entries_of w.meetings) i, append-nil (staying w.meetings) i));
    }
    by_rest (y ∷ ys) reached met did =
        let asked = reached (λ same. grind (arith, same)) in absurd (grind (arith, asked))

pub enough_met : (shape : Shape) (k n woken : ℕ) (old new : PassView) → 0 < n
    → (w : IsWalked shape k (Some n) old new woken) → IsEnough n w.meetings w.rest
enough_met shape k n woken old new some w = record {
  enough = by_rest w.rest w.end.reached;
  never_more = last_count n some w.meetings (w.end.no_later n refl);
}
  where
    by_rest : (rest : List WaitEntry) → (rest ≢ [] → Some n ≡ Some (count_exclusive w.meetings))
        → (rest ≡ []) ⊎ (count_exclusive w.meetings ≡ n)
    by_rest [] reached = inl refl
    by_rest (y ∷ ys) reached = inr (let asked = reached (λ same. grind (arith, same)) in grind (arith, asked))

none_true : (ms : List Meeting) → count_true ms ≡ 0 → NoneWoken ms
none_true [] e = All-nil (λ x. is_true x.answer ≡ false)
none_true (x ∷ xs) e = elim (cases_Bool (is_true x.answer)) [
  | inl q ↦
      let more : count_true xs + 1 ≡ 0 = sym (ap (λ (b : Bool). if b then count_true xs + 1 else count_true xs) q) ∙ e in
      absurd (omega arith)
  | inr q ↦ All-cons (λ y. is_true y.answer ≡ false) x xs q (none_true xs (sym (ap (λ (b : Bool). if b then count_true xs + 1 else count_true xs) q) ∙ e))
]

true_none : (ms : List Meeting) → NoneWoken ms → count_true ms ≡ 0
true_none [] none = refl
true_none (x ∷ xs) none =
    ap (λ (b : Bool). if b then count_true xs + 1 else count_true xs) (none zero x (omega arith))
    ∙ true_none xs (λ k d lt. none (suc k) d (omega arith))

pub none_woken : (shape : Shape) (k woken : ℕ) (limit : Option ℕ) (old new : PassView)
    → (w : IsWalked shape k limit old new woken) → (woken ≡ 0) ↔ NoneWoken w.meetings
none_woken shape k woken limit old new w =
    (λ e. none_true w.meetings (sym w.answer ∙ e), λ none. w.answer ∙ true_none w.meetings none)
