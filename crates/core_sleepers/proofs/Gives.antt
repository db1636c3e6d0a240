-- Giving a wait queue.
use Rattle.std.proofs.Common.{◌≡◌, ◌≢◌, ℕ, ◌==◌, ◌&&◌, inl, inr, Bool, true, false, List, Option, Some, None, refl, sym, ap, subst, ◌∙◌, arith}
use Rattle.std.specs.Prelude.{if◌then◌else◌, is_some}
use Rattle.std.proofs.lemmas.Bool.Decides.{nat_tests}
use Rattle.core_data.specs.Entries.{has_entry, is_gone}
use Rattle.core_data.specs.Noted.{noted, given_asleep}
use Rattle.core_data.specs.Columns.{Columns, put, put_at}
use Rattle.core_data.specs.declared.act.Act.TheVariants.{Walked}
use Rattle.core_data.specs.declared.values.WaitEntry.{WaitEntry}
use Rattle.core_gives.specs.Waits.{MayGiveWait, give_wait, give_by, walked_if, has_task, HasEachOnce, IsPutIn, IsTakenOut, is_walk, sleeper_of}
use Rattle.core_invariant.specs.Invariant.{Holds}
use Rattle.core_invariant.specs.Locks.{IsGuarded}
use Rattle.core_invariant.specs.Sleepers.{SleepersHold, IsSafeSleeper, IsSafeBeside, shared_entry}
use Rattle.core_kinds.specs.Steps.{is_sleep}
use Rattle.core_sleepers.proofs.Entries.{walk-passed, kept-task, gone-entry, sleeper-task, asleep-given}
use Rattle.core_sleepers.proofs.Plain.{both, no_some, some_same}
use Rattle.core_sleepers.proofs.Safe.{safe-by}
use Rattle.core_sleepers.proofs.Takes.{home-put, out-put}

-- the seat whose wait queue is out holds its lock
out_lock : {A : Type 0} (count seats : ℕ) (lock : ℕ → Option ℕ) (home : ℕ → Option A) (out : ℕ → ℕ → Option A) (s k : ℕ) (v : A) → IsGuarded A count seats lock home out → out s k ≡ Some v
    → lock k ≡ Some s
out_lock count seats lock home out s k v g h = g.out_held s k (ap is_some h)

-- .. which is one seat
one_holder : (lock : ℕ → Option ℕ) (k l x s : ℕ) → k ≡ l → lock k ≡ Some x → lock l ≡ Some s → x ≡ s
one_holder lock k l x s e p q = some_same x s (sym p ∙ ap lock e ∙ q)

-- a seat has walked the wait queue of l, and owes it no more
abbrev walks : (ℕ → ℕ → Bool) → ℕ → ℕ → ℕ → ℕ → Bool
walks owes s l = put owes s (λ k. if k == l then false else owes s k)

walks-other : (owes : ℕ → ℕ → Bool) (s l x k : ℕ) → (x ≡ s → k ≢ l) → owes x k ≡ true → walks owes s l x k ≡ true
walks-other owes s l x k h o = grind (arith, nat_tests, h, o)

safe-walked : (core : Columns) (s l k u : ℕ) → core.has_retaken s l ≡ true → (k ≡ l → core.has_passed s l u ≡ true) → IsSafeSleeper core k u → IsSafeSleeper (noted core s (Walked l)) k u
safe-walked core s l k u again passed h =
    safe-by core.state core.cpu core.cond core.tested k u
    (λ o. inr (inr (
      o.0,
      walks-other core.owes_walk s l o.0 k (λ p q. elim o.2 [
        | inl r ↦ both (core.has_retaken s l) again (ap (λ z. core.has_retaken z l) (sym p) ∙ ap (core.has_retaken o.0) (sym q) ∙ r)
        | inr r ↦ both (core.has_passed s l u) (passed q) (ap (λ z. core.has_passed z l u) (sym p) ∙ ap (λ z. core.has_passed o.0 z u) (sym q) ∙ r)
      ]) o.1,
      o.2,
    ))) h

beside-walked : (core : Columns) (s l y k u : ℕ) → core.has_retaken s l ≡ true → (k ≡ l → y ≡ s) → IsSafeBeside core y k u → IsSafeBeside (noted core s (Walked l)) y k u
beside-walked core s l y k u again same h =
    safe-by core.state core.cpu core.cond core.tested k u
    (λ o. inr (inr (
      o.0,
      walks-other core.owes_walk s l o.0 k (λ p q. elim o.2 [
        | inl r ↦ both (core.has_retaken s l) again (ap (λ z. core.has_retaken z l) (sym p) ∙ ap (core.has_retaken o.0) (sym q) ∙ r)
        | inr r ↦ r.0 (p ∙ sym (same q))
      ]) o.1,
      o.2,
    ))) h

-- the seat has passed each task whose entry it took
hold-walks : (core : Columns) (s l : ℕ) (taken : List WaitEntry) → SleepersHold core → IsGuarded _ core.conds core.seats core.wait_lock core.wait core.wait_held
    → core.wait_lock l ≡ Some s → core.wait_held s l ≡ Some taken → core.has_retaken s l ≡ true → is_walk (core.has_passed s l) taken ≡ true → SleepersHold (noted core s (Walked l))
hold-walks core s l taken h locks locked out again walk =
    let holder : (x k : ℕ) → k ≡ l → core.wait_lock k ≡ Some x → x ≡ s = λ x k e w. one_holder core.wait_lock k l x s e w locked in
    let out_holder : (x k : ℕ) (v : List WaitEntry) → k ≡ l → core.wait_held x k ≡ Some v → (x ≡ s) × (taken ≡ v)
    = λ x k v e w. (let p = holder x k e (out_lock core.conds core.seats core.wait_lock core.wait core.wait_held x k v locks w) in
    (p, some_same taken v (sym out ∙ ap (λ z. core.wait_held z l) (sym p) ∙ ap (core.wait_held x) (sym e) ∙ w))) in
    record {
      once = h.once;
      safe_home = λ k u entries w e. safe-walked core s l k u again (λ q. absurd (no_some (sym (locks.held_away l s locked) ∙ ap core.wait (sym q) ∙ w))) (h.safe_home k u entries w e);
      safe_out = λ x k u v w e. safe-walked core s l k u again
          (λ q. walk-passed (core.has_passed s l) taken u walk (ap (λ z. has_entry z (shared_entry u)) (out_holder x k v q w).1 ∙ e)) (h.safe_out x k u v w e);
      safe_passed = λ x k u w p. safe-walked core s l k u again
          (λ q. ap (λ z. core.has_passed z l u) (sym (holder x k q w)) ∙ ap (λ z. core.has_passed x z u) (sym q) ∙ p) (h.safe_passed x k u w p);
      safe_stored = λ x k u w c o. beside-walked core s l x k u again (λ q. holder x k q w) (h.safe_stored x k u w c o);
      entry_home = h.entry_home;
      entry_out = h.entry_out;
      passed_awake = h.passed_awake;
      fresh_slept = h.fresh_slept;
      fresh_test = h.fresh_test;
    }

-- what is safe beside the holder is safe
beside-safe : (core : Columns) (s k u : ℕ) → IsSafeBeside core s k u → IsSafeSleeper core k u
beside-safe core s k u h = safe-by core.state core.cpu core.cond core.tested k u (λ o. inr (inr (o.0, o.1, elim o.2 [ inl r ↦ inl r | inr r ↦ inr r.1 ]))) h

-- the give itself
abbrev gives : Columns → ℕ → ℕ → List WaitEntry → List WaitEntry → Columns
gives core s k given taken =
    record core {
      wait_lock = put core.wait_lock k None;
      wait = put core.wait k (Some given);
      wait_held = put_at core.wait_held s k None;
      is_asleep = put core.is_asleep s (given_asleep k taken given (sleeper_of (core.current_task s) (core.has_slept_in s k) given) (core.is_asleep s));
    }

-- an entry that is given is safe: it was there, or was put in by the current task
given-safe : (core : Columns) (s l u : ℕ) (given taken : List WaitEntry) → SleepersHold core → core.wait_lock l ≡ Some s → core.wait_held s l ≡ Some taken
    → ((x : WaitEntry) → has_entry given x ≡ true → has_entry taken x ≡ false → IsPutIn core s l x) → has_entry given (shared_entry u) ≡ true → IsSafeSleeper core l u
given-safe core s l u given taken h locked out put_in e = by (has_entry taken (shared_entry u)) refl
  where
    by : (b : Bool) → has_entry taken (shared_entry u) ≡ b → IsSafeSleeper core l u
    by true q = h.safe_out s l u taken out q
    by false q = let r = put_in (shared_entry u) e q in beside-safe core s l u (h.safe_stored s l u locked r.0 r.1)

-- one who sleeps at the condition still, and is in a sleep state, has an entry that is given
given-task : (core : Columns) (s l u : ℕ) (given taken : List WaitEntry) → SleepersHold core → core.wait_lock l ≡ Some s → core.wait_held s l ≡ Some taken
    → ((x t : ℕ) → core.current_task x ≡ Some t → core.cpu t ≡ x)
    → ((x : WaitEntry) → has_entry taken x ≡ true → has_entry given x ≡ false → IsTakenOut core s l x)
    → core.is_asleep (core.cpu u) u l ≡ true → (core.cpu u ≡ s → is_gone taken given u ≡ false) → is_sleep (core.state u) ≡ true → has_task given u ≡ true
given-task core s l u given taken h locked out here taken_out a stays z =
    by (is_gone taken given u) refl
  where
    by : (b : Bool) → is_gone taken given u ≡ b → has_task given u ≡ true
    by false q = kept-task taken given u (h.entry_out s l u taken a z out) q
    by true q =
        let g = gone-entry taken given u q in
        elim (taken_out g.entry g.was g.isnt) [
          | inl c ↦ absurd (both (is_gone taken given u) q (stays (here s u (c ∙ ap Some g.of_task))))
          | inr p ↦ absurd (both (is_sleep (core.state u)) z (h.passed_awake s l u locked (ap (core.has_passed s l) (sym g.of_task) ∙ p) a))
        ]

hold-gives : (core : Columns) (s l : ℕ) (given taken : List WaitEntry) → SleepersHold core → IsGuarded _ core.conds core.seats core.wait_lock core.wait core.wait_held
    → ((x t : ℕ) → core.current_task x ≡ Some t → core.cpu t ≡ x) → core.wait_lock l ≡ Some s → core.wait_held s l ≡ Some taken → HasEachOnce given
    → ((x : WaitEntry) → has_entry given x ≡ true → has_entry taken x ≡ false → IsPutIn core s l x)
    → ((x : WaitEntry) → has_entry taken x ≡ true → has_entry given x ≡ false → IsTakenOut core s l x)
    → SleepersHold (gives core s l given taken)
hold-gives core s l given taken h locks here locked out once put_in taken_out =
    let sleeper = sleeper_of (core.current_task s) (core.has_slept_in s l) given in
    let free : (k x : ℕ) → put core.wait_lock l None k ≡ Some x → (k ≢ l) × (core.wait_lock k ≡ Some x)
    = λ k x w. elim (home-put core.wait_lock l None k x w) [ inl a ↦ absurd (no_some a.1) | inr a ↦ a ] in
    let away : (x k : ℕ) (v : List WaitEntry) → put_at core.wait_held s l None x k ≡ Some v → (k ≢ l) × (core.wait_held x k ≡ Some v)
    = λ x k v w. elim (out-put core.wait_held s l None x k v w) [
      | inl a ↦ absurd (no_some a.2)
      | inr a ↦ (λ e. a.0 (one_holder core.wait_lock k l x s e (out_lock core.conds core.seats core.wait_lock core.wait core.wait_held x k v locks a.1) locked) e, a.1)
    ] in
    let slept : (u k : ℕ) → k ≢ l → put core.is_asleep s (given_asleep l taken given sleeper (core.is_asleep s)) (core.cpu u) u k ≡ true → core.is_asleep (core.cpu u) u k ≡ true
    = λ u k n a. elim (asleep-given core.is_asleep s l taken given sleeper (core.cpu u) u k a) [ inl b ↦ absurd (n b.1) | inr b ↦ b.0 ] in
    let has : (u k : ℕ) → k ≡ l → put core.is_asleep s (given_asleep l taken given sleeper (core.is_asleep s)) (core.cpu u) u k ≡ true → is_sleep (core.state u) ≡ true → has_task given u ≡ true
    = λ u k e a z. elim (asleep-given core.is_asleep s l taken given sleeper (core.cpu u) u k a) [
      | inl b ↦ sleeper-task (core.current_task s) (core.has_slept_in s l) given u b.2
      | inr b ↦ given-task core s l u given taken h locked out here taken_out (ap (core.is_asleep (core.cpu u) u) (sym e) ∙ b.0) (λ p. b.1 p e) z
    ] in
    record {
      once = record {
        at_home = λ k v w. elim (home-put core.wait l (Some given) k v w) [ inl a ↦ subst (λ z. HasEachOnce z) (some_same given v a.1) once | inr a ↦ h.once.at_home k v a.1 ];
        taken = λ x k v w. h.once.taken x k v (away x k v w).1;
      };
      safe_home = λ k u entries w e. elim (home-put core.wait l (Some given) k entries w) [
        | inl a ↦ subst (λ z. IsSafeSleeper core z u) (sym a.0) (given-safe core s l u given taken h locked out put_in (ap (λ z. has_entry z (shared_entry u)) (some_same given entries a.1) ∙ e))
        | inr a ↦ h.safe_home k u entries a.1 e
      ];
      safe_out = λ x k u v w e. h.safe_out x k u v (away x k v w).1 e;
      safe_passed = λ x k u w p. h.safe_passed x k u (free k x w).1 p;
      safe_stored = λ x k u w c o. h.safe_stored x k u (free k x w).1 c o;
      entry_home = λ k u entries a z w. elim (home-put core.wait l (Some given) k entries w) [
        | inl b ↦ ap (λ y. has_task y u) (sym (some_same given entries b.1)) ∙ has u k b.0 a z
        | inr b ↦ h.entry_home k u entries (slept u k b.0 a) z b.1
      ];
      entry_out = λ x k u v a z w. (let r = away x k v w in h.entry_out x k u v (slept u k r.0 a) z r.1);
      passed_awake = λ x k u w p a. (let r = free k x w in h.passed_awake x k u r.1 p (slept u k r.0 a));
      fresh_slept = h.fresh_slept;
      fresh_test = h.fresh_test;
    }

given_taken : (core : Columns) (s k : ℕ) (given taken : List WaitEntry) → Holds core → MayGiveWait core s k given → core.wait_held s k ≡ Some taken
    → (b : Bool) → (b ≡ true → (core.has_retaken s k ≡ true) × (is_walk (core.has_passed s k) taken ≡ true)) → SleepersHold (walked_if b (gives core s k given taken) s k)
given_taken core s k given taken holds may out false walk =
    hold-gives core s k given taken holds.sleepers holds.locks.waits holds.busy.runner.current_here may.locked out may.once
    (λ x p q. may.put_in taken x out p q) (λ x p q. may.taken_out taken x out p q)
given_taken core s k given taken holds may out true walk =
    let r = walk refl in
    let walked = hold-walks core s k taken holds.sleepers holds.locks.waits may.locked out r.0 r.1 in
    assumption (hold-gives (noted core s (Walked k)) s k given taken walked holds.locks.waits holds.busy.runner.current_here may.locked out may.once
    (λ x p q. may.put_in taken x out p q) (λ x p q. may.taken_out taken x out p q))

three_true : (a b c : Bool) → (a && (b && c)) ≡ true → (b ≡ true) × (c ≡ true)
three_true a b c h = (grind (arith, h), grind (arith, h))

given_by : (core : Columns) (s k : ℕ) (given : List WaitEntry) → Holds core → MayGiveWait core s k given → (o : Option (List WaitEntry)) → core.wait_held s k ≡ o
    → SleepersHold (give_by core s k given o)
given_by core s k given holds may None out = holds.sleepers
given_by core s k given holds may (Some taken) out =
    given_taken core s k given taken holds may out (core.owes_walk s k && (core.has_retaken s k && is_walk (core.has_passed s k) taken))
    (λ e. three_true (core.owes_walk s k) (core.has_retaken s k) (is_walk (core.has_passed s k) taken) e)

pub SleepersHold-give_wait : (core : Columns) (s k : ℕ) (given : List WaitEntry) → Holds core → MayGiveWait core s k given → SleepersHold (give_wait core s k given)
SleepersHold-give_wait core s k given holds may = given_by core s k given holds may (core.wait_held s k) refl
