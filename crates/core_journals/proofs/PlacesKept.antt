-- The place of a task, by its words.
use Rattle.std.proofs.Common.{◌≡◌, ◌≢◌, ℕ, ◌≤◌, Option, Some, None, refl, subst, ap, ◌∙◌, arith}
use Rattle.std.specs.Prelude.{◌==◌, Bool, true, false}
use Rattle.std.proofs.lemmas.Bool.Decides.{nat_tests}
use Rattle.core_journals.specs.Places.{q_of, busy_at}
use Rattle.core_kinds.specs.Steps.{waking, dead, is_sleep}
use Rattle.handoff_data.specs.declared.place.Place.{Place}
use Rattle.handoff_data.specs.declared.place.Q.{Q}
use Rattle.handoff_data.specs.declared.place.Q.TheVariants as q
use Rattle.handoff_data.specs.declared.state.State.{State}

-- the element at t, and one that isn't there
pub here : (t : ℕ) (P : Bool → Type 0) → P true → P (t == t)
here t P h = let same : true ≡ (t == t) = grind (arith, nat_tests) in subst P same h

pub apart : (t u : ℕ) (P : Bool → Type 0) → u ≢ t → P false → P (u == t)
apart t u P h p = let other : false ≡ (u == t) = grind (arith, nat_tests, h) in subst P other p

pub q-new : (changes on_rq : ℕ) (state : State) (cpu : ℕ) (lock : Option ℕ) → changes ≡ 0 → q_of changes on_rq state cpu lock ≡ q.New
q-new changes on_rq state cpu lock h = grind (arith, nat_tests, h)

pub q-on : (changes on_rq : ℕ) (state : State) (cpu : ℕ) (lock : Option ℕ) (c : ℕ) → changes ≢ 0 → on_rq ≡ 1 → cpu ≡ c → q_of changes on_rq state cpu lock ≡ q.On c
q-on changes on_rq state cpu lock c m h here = grind (arith, nat_tests, m, h, here)

pub q-moving : (changes on_rq : ℕ) (state : State) (cpu : ℕ) (lock : Option ℕ) (s : ℕ) → changes ≢ 0 → on_rq ≡ 2 → lock ≡ Some s → q_of changes on_rq state cpu lock ≡ q.Moving s
q-moving changes on_rq state cpu lock s m h locked = grind (arith, nat_tests, m, h, locked)

pub q-dead : (changes on_rq : ℕ) (state : State) (cpu : ℕ) (lock : Option ℕ) → changes ≢ 0 → on_rq ≡ 0 → state ≡ dead → q_of changes on_rq state cpu lock ≡ q.Dead
q-dead changes on_rq state cpu lock m h d = let bits = ap (λ (x : State). x.0) d in grind (arith, nat_tests, m, h, bits)

pub q-waking : (changes on_rq : ℕ) (state : State) (cpu : ℕ) (lock : Option ℕ) (s : ℕ) → changes ≢ 0 → on_rq ≡ 0 → state ≡ waking → lock ≡ Some s → q_of changes on_rq state cpu lock ≡ q.Waking s
q-waking changes on_rq state cpu lock s m h w locked = let bits = ap (λ (x : State). x.0) w in grind (arith, nat_tests, m, h, bits, locked)

pub q-asleep : (changes on_rq : ℕ) (state : State) (cpu : ℕ) (lock : Option ℕ) → changes ≢ 0 → on_rq ≡ 0 → is_sleep state ≡ true → q_of changes on_rq state cpu lock ≡ q.Off
q-asleep changes on_rq state cpu lock m h asleep = grind (arith, nat_tests, m, h, asleep)

-- by its bits
waking-is : (x : State) → x.0 ≡ 0x200 → x ≡ waking
waking-is x h = ap (λ n. record { 0 = n }) h

-- The lock doesn't tell where a task is that isn't on its way to a queue.
pub q-lock : (changes on_rq : ℕ) (state : State) (cpu : ℕ) (lock new : Option ℕ) → on_rq ≤ 2 → on_rq ≢ 2 → (on_rq ≡ 0 → state ≢ waking)
    → q_of changes on_rq state cpu new ≡ q_of changes on_rq state cpu lock
q-lock changes on_rq state cpu lock new few still off =
    let awake : (on_rq ≡ 0 → state.0 ≢ 0x200) = λ h w. off h (waking-is state w) in
    grind (arith, nat_tests, few, still, awake)

-- nor does the state that of a task that was never queued, or is queued
pub q-state : (changes on_rq : ℕ) (state new : State) (cpu : ℕ) (lock : Option ℕ) → (changes ≢ 0 → on_rq ≡ 1) → q_of changes on_rq new cpu lock ≡ q_of changes on_rq state cpu lock
q-state changes on_rq state new cpu lock h = grind (arith, nat_tests, h)

-- nor does the processor word that of one that isn't queued
pub q-cpu : (changes on_rq : ℕ) (state : State) (cpu c : ℕ) (lock : Option ℕ) → on_rq ≢ 1 → q_of changes on_rq state c lock ≡ q_of changes on_rq state cpu lock
q-cpu changes on_rq state cpu c lock h = grind (arith, nat_tests, h)

pub b-busy : (on_cpu : Bool) (cpu c : ℕ) → on_cpu ≡ true → cpu ≡ c → busy_at on_cpu cpu ≡ Some c
b-busy true cpu c h here = ap Some here
b-busy false cpu c h here = absurd (grind (arith, h))

pub b-idle : (on_cpu : Bool) (cpu : ℕ) → on_cpu ≡ false → busy_at on_cpu cpu ≡ None
b-idle true cpu h = absurd (grind (arith, h))
b-idle false cpu h = refl

pub same-place : (a b : Q) (x y : Option ℕ) → a ≡ b → x ≡ y → ◌≡◌ {A = Place} (record { q = a; b = x }) (record { q = b; b = y })
same-place a b x y h g = ap (λ z. record { q = z; b = x }) h ∙ ap (λ z. record { q = b; b = z }) g
