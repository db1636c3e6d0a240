-- What holds of tasks off their queues, step by step.
use Rattle.std.proofs.Common.{◌≡◌, ◌≢◌, ℕ, ◌+◌, ◌⊎◌, inl, inr, Bool, true, false, Option, Some, None, refl, sym, ap, ◌∙◌, arith}
use Rattle.std.specs.Prelude.{if◌then◌else◌, ◌==◌}
use Rattle.std.proofs.lemmas.Bool.{cases_eq}
use Rattle.std.proofs.lemmas.Bool.Decides.{nat_tests}
use Rattle.core_data.specs.Columns.{put}
use Rattle.core_invariant.proofs.Puts.{put_here, put_there}
use Rattle.core_invariant.specs.Places.{OffTasks}
use Rattle.core_kinds.specs.Steps.{waking, dead, is_sleep}
use Rattle.handoff_data.specs.declared.state.State.{State}

-- what OffTasks says of a task with this state and this lock word
abbrev IsOff : State → Option ℕ → (ℕ → Bool) → Type 0
IsOff x l claimed = (is_sleep x ≡ true) ⊎ ((x ≡ dead) ⊎ ((x ≡ waking) × ((s : ℕ) × (l ≡ Some s) × (claimed s ≡ true))))

off_keep : (x y : State) (l m : Option ℕ) (claimed next : ℕ → Bool) → IsOff x l claimed → y ≡ x → ((s : ℕ) → x ≡ waking → l ≡ Some s → claimed s ≡ true → (m ≡ Some s) × (next s ≡ true))
    → IsOff y m next
off_keep x y l m claimed next (inl a) q k = inl (ap is_sleep q ∙ a)
off_keep x y l m claimed next (inr (inl a)) q k = inr (inl (q ∙ a))
off_keep x y l m claimed next (inr (inr w)) q k = let r = k w.1.0 w.0 w.1.1 w.1.2 in inr (inr (q ∙ w.0, (w.1.0, r.0, r.1)))

pub OffTasks-take : (state : ℕ → State) (on_rq changes : ℕ → ℕ) (lock : ℕ → Option ℕ) (claimed : ℕ → ℕ → Bool) (s t : ℕ) → OffTasks state on_rq changes lock claimed → lock t ≡ None
    → OffTasks state on_rq changes (put lock t (Some s)) claimed
OffTasks-take state on_rq changes lock claimed s t p free u h e =
    off_keep (state u) (state u) (lock u) (put lock t (Some s) u) (λ k. claimed k u) (λ k. claimed k u) (p u h e) refl
    (λ k w q c. (grind (arith, nat_tests, q, free), c))

pub OffTasks-give : (state : ℕ → State) (on_rq changes : ℕ → ℕ) (lock : ℕ → Option ℕ) (claimed : ℕ → ℕ → Bool) (t : ℕ) → OffTasks state on_rq changes lock claimed → (on_rq t ≢ 0) ⊎ (state t ≢ waking)
    → OffTasks state on_rq changes (put lock t None) claimed
OffTasks-give state on_rq changes lock claimed t p settled u h e =
    off_keep (state u) (state u) (lock u) (put lock t None u) (λ k. claimed k u) (λ k. claimed k u) (p u h e) refl
    (λ k w q c. (grind (arith, nat_tests, q, settled, w, e), c))

-- a task is queued, and its seat's claim ends
pub OffTasks-queue : (state : ℕ → State) (on_rq changes : ℕ → ℕ) (lock : ℕ → Option ℕ) (claimed : ℕ → ℕ → Bool) (s t : ℕ) → OffTasks state on_rq changes lock claimed
    → OffTasks state (put on_rq t 1) (put changes t (changes t + 1)) lock (put claimed s (λ u. if u == t then false else claimed s u))
OffTasks-queue state on_rq changes lock claimed s t p u h e =
    let other : u ≢ t = λ q. grind (arith, nat_tests, q, e) in
    let c' = put changes t (changes t + 1) in
    let old_changes : changes u ≢ 0 = λ q. h (put_there changes t (changes t + 1) u other ∙ q) in
    let old_on : on_rq u ≡ 0 = sym (put_there on_rq t 1 u other) ∙ e in
    off_keep (state u) (state u) (lock u) (lock u) (λ k. claimed k u) (λ k. put claimed s (λ v. if v == t then false else claimed s v) k u) (p u old_changes old_on) refl
    (λ k w q c. (q, grind (arith, nat_tests, c, other)))

-- a task is taken off its queue to be moved
pub OffTasks-move : (state : ℕ → State) (on_rq changes : ℕ → ℕ) (lock : ℕ → Option ℕ) (claimed : ℕ → ℕ → Bool) (t : ℕ) → OffTasks state on_rq changes lock claimed
    → OffTasks state (put on_rq t 2) (put changes t (changes t + 1)) lock claimed
OffTasks-move state on_rq changes lock claimed t p u h e =
    let other : u ≢ t = λ q. grind (arith, nat_tests, q, e) in
    let old_changes : changes u ≢ 0 = λ q. h (put_there changes t (changes t + 1) u other ∙ q) in
    let old_on : on_rq u ≡ 0 = sym (put_there on_rq t 2 u other) ∙ e in
    p u old_changes old_on

-- a task sleeps or dies
pub OffTasks-leave : (state : ℕ → State) (on_rq changes : ℕ → ℕ) (lock : ℕ → Option ℕ) (claimed : ℕ → ℕ → Bool) (t : ℕ) → OffTasks state on_rq changes lock claimed
    → (is_sleep (state t) ≡ true) ⊎ (state t ≡ dead)
    → OffTasks state (put on_rq t 0) (put changes t (changes t + 1)) lock claimed
OffTasks-leave state on_rq changes lock claimed t p leaves u h e =
    elim (cases_eq u t) [
      | inl q ↦ elim leaves [ inl a ↦ inl (ap (λ k. is_sleep (state k)) q ∙ a) | inr a ↦ inr (inl (ap state q ∙ a)) ]
      | inr q ↦ p u (λ z. h (put_there changes t (changes t + 1) u q ∙ z)) (sym (put_there on_rq t 0 u q) ∙ e)
    ]

-- the state of another task is stored, or of one that isn't off its queue
pub OffTasks-state : (state : ℕ → State) (on_rq changes : ℕ → ℕ) (lock : ℕ → Option ℕ) (claimed : ℕ → ℕ → Bool) (t : ℕ) (x : State) → OffTasks state on_rq changes lock claimed
    → (changes t ≡ 0) ⊎ (on_rq t ≢ 0)
    → OffTasks (put state t x) on_rq changes lock claimed
OffTasks-state state on_rq changes lock claimed t x p not_off u h e =
    let other : u ≢ t = λ q. grind (arith, q, not_off, h, e) in
    off_keep (state u) (put state t x u) (lock u) (lock u) (λ k. claimed k u) (λ k. claimed k u) (p u h e) (put_there state t x u other)
    (λ k w q c. (q, c))

-- a task is claimed by the seat that has its lock
pub OffTasks-claim : (state : ℕ → State) (on_rq changes : ℕ → ℕ) (lock : ℕ → Option ℕ) (claimed : ℕ → ℕ → Bool) (s t : ℕ) → OffTasks state on_rq changes lock claimed → lock t ≡ Some s
    → OffTasks (put state t waking) on_rq changes lock (put claimed s (λ u. if u == t then true else claimed s u))
OffTasks-claim state on_rq changes lock claimed s t p locked u h e =
    elim (cases_eq u t) [
      | inl q ↦ inr (inr (put_here state t waking u q, (s, ap lock q ∙ locked, grind (arith, nat_tests, q))))
      | inr q ↦ off_keep (state u) (put state t waking u) (lock u) (lock u) (λ k. claimed k u)
          (λ k. put claimed s (λ v. if v == t then true else claimed s v) k u) (p u h e) (put_there state t waking u q)
          (λ k w l c. (l, grind (arith, nat_tests, c, q)))
    ]
