-- What steps keep for the laws on wakes, what loads tell, and what gives leave.
use Rattle.std.proofs.Common.{◌≡◌, ◌≢◌, ℕ, ◌⊎◌, inl, inr, ◌+◌, ◌++◌, ◌∷◌, [], List, Bool, true, false, Some, None, Option, refl, sym, ap, ◌∙◌, subst, arith}
use Rattle.std.specs.Prelude.{if◌then◌else◌, ◌==◌, ◌&&◌, IsSome, is_some, bit_and}
use mathlib.Core.Bool.{not}
use Rattle.std.proofs.lemmas.Bool.{cases_eq}
use Rattle.std.proofs.lemmas.Bool.Decides.{nat_tests}
use Rattle.core_data.specs.Noted.{noted, given_asleep}
use Rattle.core_data.specs.Columns.{Columns, put, put_at}
use Rattle.core_data.specs.declared.act.Act.TheVariants.{Matched, SawOff, SawClear, SawRest, SawRestOff, SawRestIdle, Passed, OwnStored}
use Rattle.core_data.specs.declared.pos.TaskReads.{TaskReads}
use Rattle.core_data.specs.declared.values.WaitEntry.{WaitEntry}
use Rattle.core_gives.specs.Waits.{give_by, walked_if, is_walk, has_task, sleeper_of}
use Rattle.core_invariant.proofs.Puts.{put_here}
use Rattle.core_invariant.specs.Sleepers.{IsAwake}
use Rattle.core_kinds.specs.Running.{MayLeave}
use Rattle.core_kinds.specs.Steps.{normal, running, fresh, is_match, is_sleep, stored_word, numbered_reads, kept_reads, dead}
use Rattle.core_kinds.specs.Waking.{ran_if, slept_if, noted_if, logged_if, seen_if, is_own_read, is_matched, is_refused, state_read, rq_read, busy_read, cpu_read, level_read, test_by, tested_if}
use Rattle.core_law.specs.StepLaws.{SleepsAreKept, PassesAreKept, RefusalsAreTold, LoadsTell, GivesKeep, StepsAsk, WordsMean}
use Rattle.core_places.proofs.LastReads.{reads_here}
use Rattle.handoff_data.specs.declared.entry.Entry.{Entry}
use Rattle.handoff_data.specs.declared.entry.Entry.TheVariants.{Refused}
use Rattle.handoff_data.specs.declared.state.State.{State}

-- ---- sleepers

ran-slept : (b : Bool) (core : Columns) (s t : ℕ) → (ran_if b core s t).has_slept ≡ core.has_slept
ran-slept true core s t = refl
ran-slept false core s t = refl

ran-slept_in : (b : Bool) (core : Columns) (s t : ℕ) → (ran_if b core s t).has_slept_in ≡ core.has_slept_in
ran-slept_in true core s t = refl
ran-slept_in false core s t = refl

ran-own_stored : (b : Bool) (core : Columns) (s t : ℕ) → (ran_if b core s t).has_own_stored ≡ core.has_own_stored
ran-own_stored true core s t = refl
ran-own_stored false core s t = refl

slept-noted : (b : Bool) (core : Columns) (s t : ℕ) → b ≡ true → (slept_if b core s t).has_slept s t ≡ true
slept-noted true core s t h = grind (arith, nat_tests)
slept-noted false core s t h = absurd (grind (arith, h))

slept_in-noted : (b : Bool) (core : Columns) (s t k : ℕ) → b ≡ true → (slept_if b core s t).has_slept_in s k t ≡ true
slept_in-noted true core s t k h = grind (arith, nat_tests)
slept_in-noted false core s t k h = absurd (grind (arith, h))

slept-own_stored : (b : Bool) (core : Columns) (s t : ℕ) → (slept_if b core s t).has_own_stored ≡ core.has_own_stored
slept-own_stored true core s t = refl
slept-own_stored false core s t = refl

own-noted : (core : Columns) (s t k : ℕ) → (noted core s (OwnStored t)).has_own_stored s k t ≡ true
own-noted core s t k = grind (arith, nat_tests)

at-test : (core : Columns) (s t k : ℕ) (b : Bool) → b ≡ true → (tested_if b core s t k (core.cond k)).tested s t k ≡ Some (core.cond k)
at-test core s t k true h = grind (arith, nat_tests)
at-test core s t k false h = absurd (grind (arith, h))

by-test : (core : Columns) (s t k : ℕ) (o : Option ℕ) → o ≡ Some t → core.has_slept s t ≡ true → (test_by core s o k).tested s t k ≡ Some (core.cond k)
by-test core s t k None q h = absurd (grind (arith, q))
by-test core s t k (Some u) q h =
    let same : u ≡ t = grind (arith, q) in
    subst (λ (z : ℕ). (test_by core s (Some z) k).tested s t k ≡ Some (core.cond k)) (sym same) (at-test core s t k (core.has_slept s t) h)

walked-asleep : (b : Bool) (core : Columns) (s k : ℕ) → (walked_if b core s k).is_asleep ≡ core.is_asleep
walked-asleep true core s k = refl
walked-asleep false core s k = refl

asleep-there : (b : Bool) (t k : ℕ) (taken given : List WaitEntry) (asleep : ℕ → ℕ → Bool) → b ≡ true → given_asleep k taken given (if b then Some t else None) asleep t k ≡ true
asleep-there true t k taken given asleep h = grind (arith, nat_tests)
asleep-there false t k taken given asleep h = absurd (grind (arith, h))

asleep-by : (o : Option ℕ) (t k : ℕ) (taken given : List WaitEntry) (slept : ℕ → Bool) (asleep : ℕ → ℕ → Bool) → o ≡ Some t → has_task given t ≡ true → slept t ≡ true
    → given_asleep k taken given (sleeper_of o slept given) asleep t k ≡ true
asleep-by None t k taken given slept asleep q h b = absurd (grind (arith, q))
asleep-by (Some u) t k taken given slept asleep q h b =
    let same : u ≡ t = grind (arith, q) in
    subst (λ (z : ℕ). given_asleep k taken given (sleeper_of (Some z) slept given) asleep t k ≡ true) (sym same)
    (asleep-there (has_task given t && slept t) t k taken given asleep (grind (arith, h, b)))

given-asleep : (core : Columns) (s t k : ℕ) (given : List WaitEntry) (o : Option (List WaitEntry)) → IsSome o → core.current_task s ≡ Some t → has_task given t ≡ true → core.has_slept_in s k t ≡ true
    → (give_by core s k given o).is_asleep s t k ≡ true
given-asleep core s t k given None some q h b = absurd (grind (arith, some))
given-asleep core s t k given (Some taken) some q h b =
    let asleep = given_asleep k taken given (sleeper_of (core.current_task s) (core.has_slept_in s k) given) (core.is_asleep s) in
    ap (λ f. f s t k) (walked-asleep (core.owes_walk s k && (core.has_retaken s k && is_walk (core.has_passed s k) taken)) _ s k)
    ∙ (ap (λ f. f t k) (put_here core.is_asleep s asleep s refl) ∙ asleep-by (core.current_task s) t k taken given (core.has_slept_in s k) (core.is_asleep s) q h b)

pub sleeps-are_kept : (core : Columns) → SleepsAreKept core
sleeps-are_kept core =
    record {
      slept = λ s t state h. ap (λ f. f s t) (ran-slept (state.0 == 0) (slept_if (is_sleep state) _ s t) s t) ∙ slept-noted (is_sleep state) _ s t h;
      slept_in = λ s t k state h. ap (λ f. f s k t) (ran-slept_in (state.0 == 0) (slept_if (is_sleep state) _ s t) s t) ∙ slept_in-noted (is_sleep state) _ s t k h;
      own_stored = λ s t k state.
          ap (λ f. f s k t) (ran-own_stored (state.0 == 0) (slept_if (is_sleep state) _ s t) s t)
          ∙ (ap (λ f. f s k t) (slept-own_stored (is_sleep state) _ s t) ∙ own-noted (stored_word (record core { state = put core.state t state; seen_state = put core.seen_state s None }) s t) s t k);
      tests = λ s t k q h. by-test core s t k (core.current_task s) q h;
      sleeps = λ s t k given may q h b. given-asleep core s t k given (core.wait_held s k) may.out q h b;
    }

-- ---- what a load of a state notes

log-passed : (b : Bool) (core : Columns) (s : ℕ) (e : Entry) → (logged_if b core s e).has_passed ≡ core.has_passed
log-passed true core s e = refl
log-passed false core s e = refl

rest-passed : (b : Bool) (core : Columns) (s t : ℕ) → (noted_if b core s (SawRest t)).has_passed ≡ core.has_passed
rest-passed true core s t = refl
rest-passed false core s t = refl

match-passed : (b : Bool) (core : Columns) (s t : ℕ) → (noted_if b core s (Matched t)).has_passed ≡ core.has_passed
match-passed true core s t = refl
match-passed false core s t = refl

see-passed : (b : Bool) (core : Columns) (s : ℕ) (state : State) → (seen_if b core s state).has_passed ≡ core.has_passed
see-passed true core s state = refl
see-passed false core s state = refl

passed-noted : (b : Bool) (core : Columns) (s t k : ℕ) → b ≡ true → (noted_if b core s (Passed t)).has_passed s k t ≡ true
passed-noted true core s t k h = grind (arith, nat_tests)
passed-noted false core s t k h = absurd (grind (arith, h))

passed-none : (b : Bool) (core : Columns) (s t : ℕ) → b ≡ false → (noted_if b core s (Passed t)).has_passed ≡ core.has_passed
passed-none true core s t h = absurd (grind (arith, h))
passed-none false core s t h = refl

ran-passed : (b : Bool) (core : Columns) (s t k : ℕ) → b ≡ true → (ran_if b core s t).has_passed s k t ≡ true
ran-passed true core s t k h = grind (arith, nat_tests)
ran-passed false core s t k h = absurd (grind (arith, h))

-- the core before the load notes whether it passed the task, and before it notes a refusal
abbrev read_core : Columns → ℕ → ℕ → Option State → Columns
read_core core s t mask =
    let state = core.state t in
    noted_if (not (state.0 == 0x200)) (noted_if (is_matched state mask)
    (seen_if (is_own_read core s t) (record core { last_reads = put_at core.last_reads s t (state_read t state (core.last_reads s t)) }) s state)
    s (Matched t)) s (SawRest t)

abbrev passed_core : Columns → ℕ → ℕ → Option State → Columns
passed_core core s t mask = noted_if (not (is_match (core.state t) normal)) (read_core core s t mask) s (Passed t)

read-passed : (core : Columns) (s t : ℕ) (mask : Option State) → (read_core core s t mask).has_passed ≡ core.has_passed
read-passed core s t mask =
    let state = core.state t in
    let c0 = record core { last_reads = put_at core.last_reads s t (state_read t state (core.last_reads s t)) } in
    let c1 = seen_if (is_own_read core s t) c0 s state in
    let c2 = noted_if (is_matched state mask) c1 s (Matched t) in
    rest-passed (not (state.0 == 0x200)) c2 s t ∙ (match-passed (is_matched state mask) c1 s t ∙ see-passed (is_own_read core s t) c0 s state)

awake_passes : (x : State) → IsAwake x ⊎ (x ≡ fresh) → not (is_match x normal) ≡ true
awake_passes x (inl (inl a)) = ap (λ (z : State). not (is_match z normal)) a ∙ refl
awake_passes x (inl (inr (inl a))) = ap (λ (z : State). not (is_match z normal)) a ∙ refl
awake_passes x (inl (inr (inr a))) = ap (λ (z : State). not (is_match z normal)) a ∙ refl
awake_passes x (inr a) = ap (λ (z : State). not (is_match z normal)) a ∙ refl

sleep-number : (x : State) → is_sleep x ≡ true → (x.0 ≡ 1) ⊎ (x.0 ≡ 2)
sleep-number x h = elim (cases_eq x.0 1) [
  | inl q ↦ inl q
  | inr q ↦ inr (grind (arith, nat_tests, h, q))
]

asleep_stays : (x : State) → is_sleep x ≡ true → not (is_match x normal) ≡ false
asleep_stays x h = elim (sleep-number x h) [
  | inl a ↦ ap (λ z. not (not (bit_and z 3 == 0))) a ∙ refl
  | inr a ↦ ap (λ z. not (not (bit_and z 3 == 0))) a ∙ refl
]

pub passes-are_kept : (core : Columns) → PassesAreKept core
passes-are_kept core =
    record {
      read = λ s t k mask h.
          ap (λ f. f s k t) (log-passed (is_refused (core.state t) mask) (passed_core core s t mask) s (Refused t (core.state t)))
          ∙ passed-noted (not (is_match (core.state t) normal)) (read_core core s t mask) s t k (awake_passes (core.state t) h);
      asleep = λ s t k mask h.
          ap (λ f. f s k t) (log-passed (is_refused (core.state t) mask) (passed_core core s t mask) s (Refused t (core.state t)))
          ∙ (ap (λ f. f s k t) (passed-none (not (is_match (core.state t) normal)) (read_core core s t mask) s t (asleep_stays (core.state t) h))
          ∙ ap (λ f. f s k t) (read-passed core s t mask));
      own = λ s t k state h. ran-passed (state.0 == 0) (slept_if (is_sleep state) _ s t) s t k (grind (arith, nat_tests, h));
      made_runnable = λ s t k. passed-noted true (stored_word (record core { state = put core.state t running }) s t) s t k refl;
    }

note-journal : (b : Bool) (core : Columns) (s t : ℕ) → (noted_if b core s (Passed t)).journal ≡ core.journal
note-journal true core s t = refl
note-journal false core s t = refl

rest-journal : (b : Bool) (core : Columns) (s t : ℕ) → (noted_if b core s (SawRest t)).journal ≡ core.journal
rest-journal true core s t = refl
rest-journal false core s t = refl

match-journal : (b : Bool) (core : Columns) (s t : ℕ) → (noted_if b core s (Matched t)).journal ≡ core.journal
match-journal true core s t = refl
match-journal false core s t = refl

see-journal : (b : Bool) (core : Columns) (s : ℕ) (state : State) → (seen_if b core s state).journal ≡ core.journal
see-journal true core s state = refl
see-journal false core s state = refl

passed-journal : (core : Columns) (s t : ℕ) (mask : Option State) → (passed_core core s t mask).journal ≡ core.journal
passed-journal core s t mask =
    let state = core.state t in
    let c0 = record core { last_reads = put_at core.last_reads s t (state_read t state (core.last_reads s t)) } in
    let c1 = seen_if (is_own_read core s t) c0 s state in
    let c2 = noted_if (is_matched state mask) c1 s (Matched t) in
    let c3 = noted_if (not (state.0 == 0x200)) c2 s (SawRest t) in
    note-journal (not (is_match state normal)) c3 s t ∙ (rest-journal (not (state.0 == 0x200)) c2 s t ∙ (match-journal (is_matched state mask) c1 s t ∙ see-journal (is_own_read core s t) c0 s state))

logged-one : (b : Bool) (core : Columns) (s : ℕ) (e : Entry) → b ≡ true → (logged_if b core s e).journal s ≡ core.journal s ++ e ∷ []
logged-one true core s e h = put_here core.journal s (core.journal s ++ e ∷ []) s refl
logged-one false core s e h = absurd (grind (arith, h))

logged-none : (b : Bool) (core : Columns) (s : ℕ) (e : Entry) → b ≡ false → (logged_if b core s e).journal s ≡ core.journal s
logged-none true core s e h = absurd (grind (arith, h))
logged-none false core s e h = refl

pub refusals-are_told : (core : Columns) → RefusalsAreTold core
refusals-are_told core =
    record {
      refused = λ s t mask h.
          let e = Refused t (core.state t) in
          logged-one (is_refused (core.state t) (Some mask)) (passed_core core s t (Some mask)) s e (grind (arith, nat_tests, h))
          ∙ ap (λ j. j s ++ e ∷ []) (passed-journal core s t (Some mask));
      matched = λ s t mask h.
          logged-none (is_refused (core.state t) (Some mask)) (passed_core core s t (Some mask)) s (Refused t (core.state t)) (grind (arith, nat_tests, h))
          ∙ ap (λ j. j s) (passed-journal core s t (Some mask));
      unmasked = λ s t. ap (λ j. j s) (passed-journal core s t None);
    }

-- ---- what loads tell

note-reads : (b : Bool) (core : Columns) (s t : ℕ) → (noted_if b core s (Passed t)).last_reads ≡ core.last_reads
note-reads true core s t = refl
note-reads false core s t = refl

rest-reads : (b : Bool) (core : Columns) (s t : ℕ) → (noted_if b core s (SawRest t)).last_reads ≡ core.last_reads
rest-reads true core s t = refl
rest-reads false core s t = refl

match-reads : (b : Bool) (core : Columns) (s t : ℕ) → (noted_if b core s (Matched t)).last_reads ≡ core.last_reads
match-reads true core s t = refl
match-reads false core s t = refl

see-reads : (b : Bool) (core : Columns) (s : ℕ) (state : State) → (seen_if b core s state).last_reads ≡ core.last_reads
see-reads true core s state = refl
see-reads false core s state = refl

log-reads : (b : Bool) (core : Columns) (s : ℕ) (e : Entry) → (logged_if b core s e).last_reads ≡ core.last_reads
log-reads true core s e = refl
log-reads false core s e = refl

off-reads : (b c : Bool) (core : Columns) (s t : ℕ) → (noted_if b (noted_if c core s (SawOff t)) s (SawRestOff t)).last_reads ≡ core.last_reads
off-reads true true core s t = refl
off-reads true false core s t = refl
off-reads false true core s t = refl
off-reads false false core s t = refl

clear-reads : (b c : Bool) (core : Columns) (s t : ℕ) → (noted_if b (noted_if c core s (SawClear t)) s (SawRestIdle t)).last_reads ≡ core.last_reads
clear-reads true true core s t = refl
clear-reads true false core s t = refl
clear-reads false true core s t = refl
clear-reads false false core s t = refl

state-reads : (core : Columns) (s t : ℕ) (mask : Option State)
    → (logged_if (is_refused (core.state t) mask) (passed_core core s t mask) s (Refused t (core.state t))).last_reads s t ≡ state_read t (core.state t) (core.last_reads s t)
state-reads core s t mask =
    let state = core.state t in
    let r = state_read t state (core.last_reads s t) in
    let c0 = record core { last_reads = put_at core.last_reads s t r } in
    let c1 = seen_if (is_own_read core s t) c0 s state in
    let c2 = noted_if (is_matched state mask) c1 s (Matched t) in
    let c3 = noted_if (not (state.0 == 0x200)) c2 s (SawRest t) in
    let c4 = noted_if (not (is_match state normal)) c3 s (Passed t) in
    ap (λ f. f s t) (log-reads (is_refused state mask) c4 s (Refused t state) ∙ (note-reads (not (is_match state normal)) c3 s t ∙ (rest-reads (not (state.0 == 0x200)) c2 s t
    ∙ (match-reads (is_matched state mask) c1 s t ∙ see-reads (is_own_read core s t) c0 s state))))
    ∙ reads_here core.last_reads s t r s t refl refl

rq-reads : (core : Columns) (s t : ℕ) → (noted_if ((core.on_rq t == 0) && core.saw_rest s t) (noted_if ((core.on_rq t == 0) && core.is_unstored s t)
    (record core { last_reads = put_at core.last_reads s t (rq_read t (core.on_rq t) (core.changes t) (core.last_reads s t)) }) s (SawOff t)) s (SawRestOff t)).last_reads s t
    ≡ rq_read t (core.on_rq t) (core.changes t) (core.last_reads s t)
rq-reads core s t =
    let r = rq_read t (core.on_rq t) (core.changes t) (core.last_reads s t) in
    ap (λ f. f s t) (off-reads ((core.on_rq t == 0) && core.saw_rest s t) ((core.on_rq t == 0) && core.is_unstored s t) (record core { last_reads = put_at core.last_reads s t r }) s t)
    ∙ reads_here core.last_reads s t r s t refl refl

busy-reads : (core : Columns) (s t : ℕ) → (noted_if (not (core.on_cpu t) && core.saw_rest_off s t) (noted_if (not (core.on_cpu t))
    (record core { last_reads = put_at core.last_reads s t (busy_read t (core.on_cpu t) (core.last_reads s t)) }) s (SawClear t)) s (SawRestIdle t)).last_reads s t ≡ busy_read t (core.on_cpu t)
    (core.last_reads s t)
busy-reads core s t =
    let r = busy_read t (core.on_cpu t) (core.last_reads s t) in
    ap (λ f. f s t) (clear-reads (not (core.on_cpu t) && core.saw_rest_off s t) (not (core.on_cpu t)) (record core { last_reads = put_at core.last_reads s t r }) s t)
    ∙ reads_here core.last_reads s t r s t refl refl

known : {A B : Type 0} (o : Option A) (x : B) → IsSome o → (if is_some o then Some x else None) ≡ Some x
known None x h = absurd (grind (arith, h))
known (Some y) x h = refl

numbered : (core : Columns) (s t : ℕ) → (put_at core.last_reads s t (numbered_reads t (core.changes t + 1) (core.last_reads s t)) s t).number ≡ Some (core.changes t + 1)
numbered core s t = ap (λ (x : TaskReads). x.number) (reads_here core.last_reads s t (numbered_reads t (core.changes t + 1) (core.last_reads s t)) s t refl refl)

own-level : (o : Option ℕ) (t level : ℕ) (known : Option ℕ) → o ≡ Some t → level_read o t level known ≡ Some level
own-level None t level known e = absurd (grind (arith, e))
own-level (Some u) t level known e = let same : u ≡ t = grind (arith, e) in grind (arith, nat_tests, same)

other-level : (o : Option ℕ) (t level : ℕ) (known : Option ℕ) → o ≢ Some t → level_read o t level known ≡ known
other-level None t level known ne = refl
other-level (Some u) t level known ne = elim (cases_eq u t) [
  | inl e ↦ absurd (ne (ap Some e))
  | inr other ↦ grind (arith, nat_tests, other)
]

pub loads-tell : (core : Columns) → LoadsTell core
loads-tell core =
    record {
      state = λ s t mask. ap (λ (x : TaskReads). x.state) (state-reads core s t mask);
      rq = λ s t h. ap (λ (x : TaskReads). x.rq) (rq-reads core s t) ∙ known (core.last_reads s t).state (record { on = core.on_rq t; m = core.changes t }) h;
      busy = λ s t h. ap (λ (x : TaskReads). x.busy) (busy-reads core s t) ∙ known (core.last_reads s t).rq (core.on_cpu t) h;
      cpu = λ s t. ap (λ (x : TaskReads). x.cpu) (reads_here core.last_reads s t (cpu_read t (core.cpu t) (core.last_reads s t)) s t refl refl);
      level = λ s t own. put_here core.level_known s _ s refl ∙ own-level (core.current_task s) t (core.count t) (core.level_known s) own;
      other_level = λ s t other. put_here core.level_known s _ s refl ∙ other-level (core.current_task s) t (core.count t) (core.level_known s) other;
      unknown_level = λ s c t. put_here core.level_known s None s refl;
      placed = λ s t c.
          let r = cpu_read t c (core.last_reads s t) in
          let between = put_at core.last_reads s t r in
          ap (λ (x : TaskReads). x.cpu) (reads_here between s t (kept_reads t (between s t)) s t refl refl) ∙ ap (λ (x : TaskReads). x.cpu) (reads_here core.last_reads s t r s t refl refl);
      number = λ s t. ap (λ (x : TaskReads). x.number) (rq-reads core s t);
      queued = λ s c t. numbered core s t;
      left = λ s c t. numbered core s t;
      moved = λ s c t. numbered core s t;
    }

-- ---- gives and words

pub gives-keep : (core : Columns) → GivesKeep core
gives-keep core =
    record {
      mask = λ s t val taken stood done may out. let kept = may.kept taken out in (kept.mask, kept.r);
      rest = λ s t val taken stood done may out. let kept = may.kept taken out in (kept.narrowed, kept.pending, kept.stop_queued);
      untold = λ s t val stood done may. (may.not_stood, may.not_done);
      works = λ s c val may. may.kept;
    }

-- a task that leaves its queue by TASK_DEAD has disable count 0
dies_at : (o : Option State) (count : ℕ) → o ≡ Some dead → MayLeave o count → count ≡ 0
dies_at None count q may = absurd (grind (arith, q))
dies_at (Some x) count q (inl a) = let same : x ≡ dead = grind (arith, q) in absurd (grind (arith, nat_tests, same, a))
dies_at (Some x) count q (inr a) = a.1

pub steps-ask : (core : Columns) → StepsAsk core
steps-ask core =
    record {
      dies = λ s c t may dead. dies_at (core.seen_state s) (core.count t) dead may.seen;
      given_up = λ s t queue may current none. elim (may.switch.1 refl t current) [
        | inl kept ↦ absurd (grind (arith, kept, none))
        | inr left ↦ left.2.1
      ];
      picked = λ s c t queue may. may.chosen;
      moved = λ s c t queue may. may.waiting;
    }

pub words-mean : WordsMean
words-mean =
    record {
      sleeps = λ state. (sleep-number state, λ h. elim h [ inl a ↦ grind (arith, nat_tests, a) | inr a ↦ grind (arith, nat_tests, a) ]);
      room = λ n. (λ h. h, λ h. h);
    }
