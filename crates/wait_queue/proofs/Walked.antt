-- The end of a walk: the wait queue is given.
use Rattle.std.proofs.Common.{◌≡◌, ◌≢◌, ◌∙◌, ℕ, ◌++◌, ◌∷◌, [], List, refl, sym, ap, subst, inl, inr, arith}
use Rattle.std.specs.Prelude.{Bool, true, false, ◌⊎◌, ◌&&◌, Option, Some, None, unwrap_or}
use Rattle.std.proofs.lemmas.Bool.{cases_eq}
use Rattle.std.proofs.lemmas.Bool.Decides.{nat_tests}
use Rattle.std.proofs.lemmas.List.{append-nil}
use Rattle.core_data.specs.declared.values.WaitEntry.{WaitEntry}
use Rattle.core_gives.specs.Waits.{is_walk}
use Rattle.core_stores.proofs.Columns.{put_there, put_other}
use Rattle.handoff_data.specs.declared.shape.Shape.{Shape}
use Rattle.run_queue.specs.Rests.{Rests}
use Rattle.task_words.specs.Views.{PassView, IsSame}
use Rattle.wait_queue.proofs.Parts.{IsPart, part_gives, part_staying, part_more, passed_walk}
use Rattle.wait_queue.specs.Meets.{entries_of, staying, count_exclusive, HasMet}
use Rattle.wait_queue.specs.Settles.{Settles}
use Rattle.wait_queue.specs.Walks.{HasWalked, IsWalked}
use Rattle.word_rule.specs.May.{MayGiveWaitVal}
use Rattle.word_rule.specs.Told.{TakenWait}
use Rattle.word_steps.specs.Folds.{current_task, wait_held, has_passed, has_retaken, owes_walk, put_if}
use Rattle.word_steps.specs.Records.{Rec, Took, Gave}
use Rattle.word_steps.specs.declared.val.Val.TheVariants as val

pub pass_made : (old new : PassView) (trace : List Rec) → IsSame old new → new.trace ≡ trace → new ≡ record old { trace = trace }
pass_made old new trace same e = λ i. record {
  of = same.same.table i;
  shape = same.same.same_shape i;
  lasting = same.same.same_lasting i;
  seat = same.same.same_seat i;
  trace = e i;
  turn = same.same_turn i;
  told = same.same.same_told i;
}

-- a give after a walk along all pays what the seat owes
paid_if : (owed retaken walk : Bool) (k : ℕ) (h : ℕ → Bool) → h k ≡ owed → retaken ≡ true → walk ≡ true
    → put_if (owed && (retaken && walk)) k false h k ≡ false
paid_if true r w k h e took all =
    ap (λ (b : Bool). put_if (true && b) k false h k) (ap (λ (z : Bool × Bool). z.0 && z.1) (λ i. (took i, all i)))
    ∙ grind (arith, nat_tests)
paid_if false r w k h e took all = e

pub walk_pays : (k : ℕ) (trace : List Rec) (v given : List WaitEntry) → has_retaken trace k ≡ true
    → is_walk (has_passed trace k) v ≡ true → owes_walk (Gave k (val.Wait v) (val.Wait given) ∷ trace) k ≡ false
walk_pays k trace v given retaken all =
    paid_if (owes_walk trace k) (has_retaken trace k) (is_walk (has_passed trace k) v) k (owes_walk trace) refl retaken all

-- no debt comes by a give
owes_if : (b : Bool) (k j : ℕ) (h : ℕ → Bool) → h j ≡ false → put_if b k false h j ≡ false
owes_if true k j h e = elim (cases_eq j k) [
  | inl same ↦ put_there h k false j same
  | inr apart ↦ put_other h k false j apart ∙ e
]
owes_if false k j h e = e

pub apart_of : {A : Type 0} (held : ℕ → Option A) (k j : ℕ) (v : A) → held k ≡ None → held j ≡ Some v → j ≢ k
apart_of held k j v free there same =
    let no : ◌≡◌ {A = Option _} None (Some v) = sym free ∙ ap held (sym same) ∙ there in grind (arith, no)

-- the lock of a wait queue was taken, and is given
pub around : (s k : ℕ) (v w given : List WaitEntry) (rs after : List Rec) → wait_held rs k ≡ None
    → Rests s (Took k (val.Wait v) ∷ rs) after → Settles s rs (Gave k (val.Wait w) (val.Wait given) ∷ after)
around s k v w given rs after free x = record {
  tasks = x.tasks;
  queues = x.queues;
  waits = λ j e. elim (cases_eq j k) [
    | inl same ↦ grind (arith, nat_tests, same)
    | inr apart ↦
        let held : wait_held after j ≡ wait_held (Took k (val.Wait v) ∷ rs) j = ap (λ (h : ℕ → Option (List WaitEntry)). h j) x.apart.waits in
        grind (arith, nat_tests, apart, held, e)
  ];
  claimed = x.claimed;
  owes = λ j e. owes_if _ k j (owes_walk after) (ap (λ (h : ℕ → Bool). h j) x.apart.owes ∙ e);
  still = λ j u there. let apart = apart_of (wait_held rs) k j u free there in record {
    held = put_other (wait_held after) k None j apart ∙ ap (λ (h : ℕ → Option (List WaitEntry)). h j) x.apart.waits
        ∙ put_other (wait_held rs) k (Some v) j apart ∙ there;
    passed = λ t e. x.apart.passed j t (grind (arith, nat_tests, apart, e));
    retaken = ap (λ (h : ℕ → Bool). h j) x.apart.retaken ∙ put_other (has_retaken rs) k true j apart;
  };
  untouched = record { works = x.apart.untouched.works; body = x.apart.untouched.body; ended = x.apart.untouched.ended; stays = x.apart.untouched.stays };
  current = x.current;
  clear = x.clear;
}

pub walk_settles : (s seat k cond : ℕ) (v w given : List WaitEntry) (rs old after new : List Rec) → wait_held rs k ≡ None
    → old ≡ Took k (val.Wait v) ∷ rs → Rests seat old after → seat ≡ s → cond ≡ k → new ≡ Gave cond (val.Wait w) (val.Wait given) ∷ after → Settles s rs new
walk_settles s seat k cond v w given rs old after new free took rests same at gave =
    subst (Settles s rs) (sym (gave ∙ ap (λ (n : ℕ). Gave n (val.Wait w) (val.Wait given) ∷ after) at))
    (around s k v w given rs after free (subst (λ (z : ℕ × List Rec). Rests z.0 z.1 after) (λ i. (same i, took i)) rests))

module _ (shape : Shape) (limit : Option ℕ) (given v : List WaitEntry) (old after : PassView) (woken k : ℕ) where
  -- the lock is held still, as it was taken
  held_still : (rs : List Rec) → old.trace ≡ Took k (val.Wait v) ∷ rs → Rests old.seat old.trace after.trace
      → wait_held after.trace k ≡ Some v
  held_still rs took rests =
      let there : wait_held (Took k (val.Wait v) ∷ rs) k ≡ Some v = grind (arith, nat_tests) in
      ap (λ (h : ℕ → Option (List WaitEntry)). h k) (rests.apart.waits ∙ ap wait_held took) ∙ there

  pub walked_may : (seat cond : ℕ) (rs : List Rec) → TakenWait shape v → HasWalked shape limit given v old after woken
      → old.trace ≡ Took k (val.Wait v) ∷ rs → Rests old.seat old.trace after.trace → cond ≡ k
      → MayGiveWaitVal seat after.trace shape cond given
  walked_may seat cond rs told h took rests at =
      subst (λ (n : ℕ). MayGiveWaitVal seat after.trace shape n given) (sym at)
      (part_gives shape seat after.trace k given v told (held_still rs took rests)
      (subst (λ (z : List WaitEntry × List WaitEntry). IsPart (λ t. (current_task seat after.trace ≡ Some t) ⊎ (has_passed after.trace k t ≡ true)) z.0 z.1)
      (λ i. (sym h.stays i, sym h.all i))
      (part_more (λ t. has_passed after.trace k t ≡ true) _ (λ t e. inr e) (staying h.meetings ++ h.rest) (entries_of h.meetings ++ h.rest)
      (part_staying k after.trace h.meetings h.rest h.passed))))

  -- what the give adds to the trace
  gave_part : (new : List Rec) (cond : ℕ) (rs : List Rec) (h : HasWalked shape limit given v old after woken)
      → old.trace ≡ Took k (val.Wait v) ∷ rs → Rests old.seat old.trace after.trace → cond ≡ k
      → new ≡ Gave cond (val.Wait (unwrap_or (wait_held after.trace cond) given)) (val.Wait given) ∷ after.trace
      → new ≡ Gave k (val.Wait (entries_of h.meetings ++ h.rest)) (val.Wait (staying h.meetings ++ h.rest)) ∷ after.trace
  gave_part new cond rs h took rests at gave =
      gave
      ∙ ap (λ (n : ℕ). Gave n (val.Wait (unwrap_or (wait_held after.trace n) given)) (val.Wait given) ∷ after.trace) at
      ∙ ap (λ (o : Option (List WaitEntry)). Gave k (val.Wait (unwrap_or o given)) (val.Wait given) ∷ after.trace) (held_still rs took rests)
      ∙ ap (λ (z : List WaitEntry × List WaitEntry). Gave k (val.Wait z.0) (val.Wait z.1) ∷ after.trace) (λ i. (h.all i, h.stays i))

  pub walked_did : (start new : PassView) (cond : ℕ) → HasWalked shape limit given v old after woken
      → IsSame start old → old.trace ≡ Took k (val.Wait v) ∷ start.trace → Rests old.seat old.trace after.trace
      → cond ≡ k → IsSame after new
      → new.trace ≡ Gave cond (val.Wait (unwrap_or (wait_held after.trace cond) given)) (val.Wait given) ∷ after.trace
      → IsWalked shape k limit start new woken
  walked_did start new cond h begun took rests at ended gave = record {
    meetings = h.meetings;
    rest = h.rest;
    after = after;
    met = subst (λ p. HasMet shape h.meetings p after)
        (pass_made start old (Took k (val.Wait (entries_of h.meetings ++ h.rest)) ∷ start.trace) begun
        (took ∙ ap (λ (z : List WaitEntry). Took k (val.Wait z) ∷ start.trace) h.all)) h.met;
    did = pass_made after new (Gave k (val.Wait (entries_of h.meetings ++ h.rest)) (val.Wait (staying h.meetings ++ h.rest)) ∷ after.trace) ended
        (gave_part new.trace cond start.trace h took rests at gave);
    end = h.end;
    answer = h.answer;
  }

  -- .. which pays what the seat owes, where no number was asked for
  pub walked_paid : (new : List Rec) (cond : ℕ) (rs : List Rec) → HasWalked shape limit given v old after woken
      → old.trace ≡ Took k (val.Wait v) ∷ rs → Rests old.seat old.trace after.trace → cond ≡ k
      → new ≡ Gave cond (val.Wait (unwrap_or (wait_held after.trace cond) given)) (val.Wait given) ∷ after.trace
      → limit ≡ None → owes_walk new k ≡ false
  walked_paid new cond rs h took rests at gave none = by_rest h.rest h.end.reached (gave_part new cond rs h took rests at gave)
    where
      taken : has_retaken after.trace k ≡ true
      taken =
          let there : has_retaken (Took k (val.Wait v) ∷ rs) k ≡ true = grind (arith, nat_tests) in
          ap (λ (r : ℕ → Bool). r k) (rests.apart.retaken ∙ ap has_retaken took) ∙ there

      by_rest : (rest : List WaitEntry) → (rest ≢ [] → limit ≡ Some (count_exclusive h.meetings))
          → new ≡ Gave k (val.Wait (entries_of h.meetings ++ rest)) (val.Wait (staying h.meetings ++ rest)) ∷ after.trace
          → owes_walk new k ≡ false
      by_rest [] reached e =
          ap (λ (z : List Rec). owes_walk z k) e
          ∙ walk_pays k after.trace (entries_of h.meetings ++ []) (staying h.meetings ++ []) taken
          (ap (is_walk (has_passed after.trace k)) (append-nil (entries_of h.meetings)) ∙ passed_walk k after.trace h.meetings h.passed)
      by_rest (y ∷ ys) reached e =
          let asked = reached (λ same. grind (arith, same)) in absurd (grind (arith, sym none ∙ asked))
