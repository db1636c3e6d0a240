-- What the words of one task say of the journals.
use Rattle.std.proofs.Common.{◌≡◌, ◌≢◌, ℕ, ◌<◌, ◌⊎◌, Option, Some, refl, subst, arith}
use Rattle.std.specs.Prelude.{◌==◌, ◌%◌, Bool, true, false}
use Rattle.std.proofs.lemmas.Bool.Decides.{nat_tests}
use Rattle.core_invariant.specs.Journals.{LastChanges, Wakes, LastRuns}
use Rattle.core_kinds.specs.Steps.{waking, dead}
use Rattle.handoff_data.specs.History.{History}
use Rattle.handoff_data.specs.Positions.{Stands, IsIn, IsSomewhere}
use Rattle.handoff_data.specs.Rules.{IsQueued, IsSleep}
use Rattle.handoff_data.specs.declared.entry.Entry.TheVariants as entry
use Rattle.handoff_data.specs.declared.state.State.{State}

-- the row of a column in which one element is stored
pub rows : (t : ℕ) (P : ℕ → Bool → Type 0) → P t true → ((u : ℕ) → u ≢ t → P u false) → (u : ℕ) → P u (u == t)
rows t P here others u = by_test (u == t) refl
  where
    by_test : (b : Bool) → (u == t) ≡ b → P u b
    by_test true q = let same : t ≡ u = grind (arith, nat_tests, q) in subst (λ z. P z true) same here
    by_test false q = others u (λ same. grind (arith, nat_tests, q, same))

pub record LastRow (j : History) (t : ℕ) (state : State) (on_rq changes cpu : ℕ) (on_cpu : Bool) (lock : Option ℕ) : Type 0 where
  pub queued : on_rq ≡ 1 → IsQueued j t changes cpu
  pub moving : (s : ℕ) → on_rq ≡ 2 → lock ≡ Some s → (c : ℕ) × IsIn j s (entry.Out t changes c)
  pub ended : changes ≢ 0 → on_rq ≡ 0 → state ≡ dead → (c : ℕ) × IsSomewhere j (entry.Die t changes c)
  pub off : changes ≢ 0 → on_rq ≡ 0 → state ≢ dead → IsSleep j t changes
  pub leaving : on_rq ≡ 0 → on_cpu ≡ true → IsIn j cpu (entry.Sleep t changes cpu) ⊎ IsIn j cpu (entry.Die t changes cpu)
  pub asleep : changes ≢ 0 → on_rq ≡ 0 → state ≢ dead → state ≢ waking → IsIn j cpu (entry.Sleep t changes cpu)

pub last-row : {j : History} {state : ℕ → State} {on_rq changes cpu : ℕ → ℕ} {on_cpu : ℕ → Bool} {lock : ℕ → Option ℕ} → LastChanges j state on_rq changes cpu on_cpu lock
    → (t : ℕ) → LastRow j t (state t) (on_rq t) (changes t) (cpu t) (on_cpu t) (lock t)
last-row p t = record { queued = p.queued t; moving = p.moving t; ended = p.ended t; off = p.off t; leaving = p.leaving t; asleep = p.asleep t }

pub last-rows : {j : History} {state : ℕ → State} {on_rq changes cpu : ℕ → ℕ} {on_cpu : ℕ → Bool} {lock : ℕ → Option ℕ}
    → ((t : ℕ) → LastRow j t (state t) (on_rq t) (changes t) (cpu t) (on_cpu t) (lock t)) → LastChanges j state on_rq changes cpu on_cpu lock
last-rows p =
    record {
      queued = λ t. (p t).queued;
      moving = λ t. (p t).moving;
      ended = λ t. (p t).ended;
      off = λ t. (p t).off;
      leaving = λ t. (p t).leaving;
      asleep = λ t. (p t).asleep;
    }

pub record WakeRow (j : History) (t : ℕ) (state : State) (on_rq changes : ℕ) (lock : Option ℕ) : Type 0 where
  pub past : (s i m : ℕ) → Stands j s i (entry.Wake t m) → (m < changes) ⊎ ((m ≡ changes) × (on_rq ≡ 0) × (state ≡ waking) × (lock ≡ Some s))
  pub present : (s : ℕ) → on_rq ≡ 0 → state ≡ waking → lock ≡ Some s → IsIn j s (entry.Wake t changes)
  pub listed : (s i m c e : ℕ) → Stands j s i (entry.List t m c e) → m < changes

pub wake-row : {j : History} {state : ℕ → State} {on_rq changes : ℕ → ℕ} {lock : ℕ → Option ℕ} → Wakes j state on_rq changes lock → (t : ℕ) → WakeRow j t (state t) (on_rq t) (changes t) (lock t)
wake-row p t = record { past = λ s i m. p.past s i t m; present = p.present t; listed = λ s i m. p.listed s i t m }

pub wake-rows : {j : History} {state : ℕ → State} {on_rq changes : ℕ → ℕ} {lock : ℕ → Option ℕ} → ((t : ℕ) → WakeRow j t (state t) (on_rq t) (changes t) (lock t)) → Wakes j state on_rq changes lock
wake-rows p = record { past = λ s i t. (p t).past s i; present = λ t. (p t).present; listed = λ s i t. (p t).listed s i }

pub record RunRow (j : History) (t : ℕ) (on_cpu : Bool) (runs cpu : ℕ) : Type 0 where
  pub busy_odd : on_cpu ≡ true → runs % 2 ≡ 1
  pub busy : on_cpu ≡ true → IsIn j cpu (entry.Pick t runs cpu)
  pub idle_even : on_cpu ≡ false → runs % 2 ≡ 0
  pub idle : on_cpu ≡ false → runs ≢ 0 → (c : ℕ) × IsSomewhere j (entry.Finish t runs c)

pub run-row : {j : History} {on_cpu : ℕ → Bool} {runs cpu : ℕ → ℕ} → LastRuns j on_cpu runs cpu → (t : ℕ) → RunRow j t (on_cpu t) (runs t) (cpu t)
run-row p t = record { busy_odd = p.busy_odd t; busy = p.busy t; idle_even = p.idle_even t; idle = p.idle t }

pub run-rows : {j : History} {on_cpu : ℕ → Bool} {runs cpu : ℕ → ℕ} → ((t : ℕ) → RunRow j t (on_cpu t) (runs t) (cpu t)) → LastRuns j on_cpu runs cpu
run-rows p = record { busy_odd = λ t. (p t).busy_odd; busy = λ t. (p t).busy; idle_even = λ t. (p t).idle_even; idle = λ t. (p t).idle }
