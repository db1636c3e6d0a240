-- What holds of a seat's last reads of a task, and of the words that it has stored, step by step.
use Rattle.std.proofs.Common.{◌≡◌, ◌≢◌, ℕ, ◌⊎◌, inl, inr, Bool, true, Option, Some, None, sym, ap, ◌∙◌, arith}
use Rattle.std.proofs.lemmas.Bool.{cases_eq}
use Rattle.std.proofs.lemmas.Bool.Decides.{nat_tests}
use Rattle.core_data.specs.Columns.{put, put_at}
use Rattle.core_data.specs.declared.pos.TaskReads.{TaskReads}
use Rattle.core_invariant.proofs.Puts.{put_here, put_there}
use Rattle.core_kinds.specs.Steps.{waking}
use Rattle.core_places.proofs.Marks.{mark, renew, mark_keeps, lock_taken, lock_given}
use Rattle.handoff_data.specs.declared.state.State.{State}

-- the reads of seat s of task t, and those of another seat or task
pub reads_here : (reads : ℕ → ℕ → TaskReads) (s t : ℕ) (r : TaskReads) (k u : ℕ) → k ≡ s → u ≡ t → put_at reads s t r k u ≡ r
reads_here reads s t r k u q e = ap (λ f. f u) (put_here reads s (put (reads s) t r) k q) ∙ put_here (reads s) t r u e

pub reads_there : (reads : ℕ → ℕ → TaskReads) (s t : ℕ) (r : TaskReads) (k u : ℕ) → (k ≢ s) ⊎ (u ≢ t) → put_at reads s t r k u ≡ reads k u
reads_there reads s t r k u other =
    elim (cases_eq k s) [
      | inl q ↦ elim other [
        | inl h ↦ absurd (h q)
        | inr h ↦ ap (λ f. f u) (put_here reads s (put (reads s) t r) k q) ∙ (put_there (reads s) t r u h ∙ ap (λ z. reads z u) (sym q))
      ]
      | inr q ↦ ap (λ f. f u) (put_there reads s (put (reads s) t r) k q)
    ]

-- either these are the reads of seat s of task t, or they are as they were
pub reads_cases : (reads : ℕ → ℕ → TaskReads) (s t : ℕ) (r : TaskReads) (k u : ℕ) → ((k ≡ s) × (u ≡ t) × (put_at reads s t r k u ≡ r)) ⊎ (put_at reads s t r k u ≡ reads k u)
reads_cases reads s t r k u =
    elim (cases_eq k s) [
      | inl q ↦ elim (cases_eq u t) [ inl e ↦ inl (q, e, reads_here reads s t r k u q e) | inr e ↦ inr (reads_there reads s t r k u (inr e)) ]
      | inr q ↦ inr (reads_there reads s t r k u (inl q))
    ]

-- the processor word last read or stored is that of the task
abbrev pub CpusRead : (ℕ → ℕ) → (ℕ → Option ℕ) → (ℕ → ℕ → TaskReads) → Type 0
CpusRead cpu lock reads = (s t c : ℕ) → lock t ≡ Some s → (reads s t).cpu ≡ Some c → cpu t ≡ c

pub CpusRead-take : (cpu : ℕ → ℕ) (lock : ℕ → Option ℕ) (reads : ℕ → ℕ → TaskReads) (s t : ℕ) (r : TaskReads) → CpusRead cpu lock reads → r.cpu ≡ None
    → CpusRead cpu (put lock t (Some s)) (put_at reads s t r)
CpusRead-take cpu lock reads s t r p none k u c l e =
    elim (reads_cases reads s t r k u) [
      | inl a ↦ absurd (grind (arith, e, ap (λ (x : TaskReads). x.cpu) a.2, none))
      | inr a ↦ elim (lock_taken lock s t k u l) [
        | inl b ↦ p k u c b (ap (λ (x : TaskReads). x.cpu) (sym a) ∙ e)
        | inr b ↦ absurd (grind (arith, e, ap (λ (x : TaskReads). x.cpu) (reads_here reads s t r k u b.0 b.1), none))
      ]
    ]

pub CpusRead-give : (cpu : ℕ → ℕ) (lock : ℕ → Option ℕ) (reads : ℕ → ℕ → TaskReads) (t : ℕ) → CpusRead cpu lock reads
    → CpusRead cpu (put lock t None) reads
CpusRead-give cpu lock reads t p k u c l e = p k u c (lock_given lock t k u l) e

-- another word of the task is read or stored
pub CpusRead-same : (cpu : ℕ → ℕ) (lock : ℕ → Option ℕ) (reads : ℕ → ℕ → TaskReads) (s t : ℕ) (r : TaskReads) → CpusRead cpu lock reads → r.cpu ≡ (reads s t).cpu
    → CpusRead cpu lock (put_at reads s t r)
CpusRead-same cpu lock reads s t r p same k u c l e =
    elim (reads_cases reads s t r k u) [
      | inl a ↦ p k u c l (ap (λ z. (reads z u).cpu) a.0 ∙ (ap (λ z. (reads s z).cpu) a.1 ∙ (sym same ∙ (ap (λ (x : TaskReads). x.cpu) (sym a.2) ∙ e))))
      | inr a ↦ p k u c l (ap (λ (x : TaskReads). x.cpu) (sym a) ∙ e)
    ]

-- the processor word is read
pub CpusRead-load : (cpu : ℕ → ℕ) (lock : ℕ → Option ℕ) (reads : ℕ → ℕ → TaskReads) (s t : ℕ) (r : TaskReads) → CpusRead cpu lock reads → r.cpu ≡ Some (cpu t)
    → CpusRead cpu lock (put_at reads s t r)
CpusRead-load cpu lock reads s t r p read k u c l e =
    elim (reads_cases reads s t r k u) [
      | inl a ↦ let same : Some c ≡ Some (cpu t) = sym e ∙ (ap (λ (x : TaskReads). x.cpu) a.2 ∙ read) in ap cpu a.1 ∙ grind (arith, same)
      | inr a ↦ p k u c l (ap (λ (x : TaskReads). x.cpu) (sym a) ∙ e)
    ]

-- .. or stored by the seat that has the lock
pub CpusRead-store : (cpu : ℕ → ℕ) (lock : ℕ → Option ℕ) (reads : ℕ → ℕ → TaskReads) (s t d : ℕ) (r : TaskReads) → CpusRead cpu lock reads → lock t ≡ Some s → r.cpu ≡ Some d
    → CpusRead (put cpu t d) lock (put_at reads s t r)
CpusRead-store cpu lock reads s t d r p locked stored k u c l e =
    elim (cases_eq u t) [
      | inl q ↦ let same : k ≡ s = grind (arith, l, ap lock q, locked) in
          let is : Some c ≡ Some d = sym e ∙ (ap (λ (x : TaskReads). x.cpu) (reads_here reads s t r k u same q) ∙ stored) in
          put_here cpu t d u q ∙ grind (arith, is)
      | inr q ↦ put_there cpu t d u q ∙ p k u c l (ap (λ (x : TaskReads). x.cpu) (sym (reads_there reads s t r k u (inr q))) ∙ e)
    ]

-- while a task is in this state, with this queue word, the holder of its lock has stored a word of it
abbrev pub WakingStored : (ℕ → State) → (ℕ → ℕ) → (ℕ → Option ℕ) → (ℕ → ℕ → Bool) → Type 0
WakingStored state on_rq lock stored = (s t : ℕ) → lock t ≡ Some s → on_rq t ≡ 0 → state t ≡ waking → stored s t ≡ true

abbrev pub MovingStored : (ℕ → ℕ) → (ℕ → Option ℕ) → (ℕ → ℕ → Bool) → Type 0
MovingStored on_rq lock stored = (s t : ℕ) → lock t ≡ Some s → on_rq t ≡ 2 → stored s t ≡ true

pub WakingStored-take : (state : ℕ → State) (on_rq : ℕ → ℕ) (lock : ℕ → Option ℕ) (stored : ℕ → ℕ → Bool) (s t : ℕ) → WakingStored state on_rq lock stored → (on_rq t ≡ 0 → state t ≢ waking)
    → WakingStored state on_rq (put lock t (Some s)) (renew stored s t)
WakingStored-take state on_rq lock stored s t p rests k u l e w =
    let other : u ≢ t = λ q. rests (ap on_rq (sym q) ∙ e) (ap state (sym q) ∙ w) in
    let old : stored k u ≡ true = p k u (sym (put_there lock t (Some s) u other) ∙ l) e w in
    grind (arith, nat_tests, old, other)

pub WakingStored-give : (state : ℕ → State) (on_rq : ℕ → ℕ) (lock : ℕ → Option ℕ) (stored : ℕ → ℕ → Bool) (t : ℕ) → WakingStored state on_rq lock stored
    → WakingStored state on_rq (put lock t None) stored
WakingStored-give state on_rq lock stored t p k u l e w = p k u (lock_given lock t k u l) e w

pub WakingStored-stored : (state : ℕ → State) (on_rq : ℕ → ℕ) (lock : ℕ → Option ℕ) (stored : ℕ → ℕ → Bool) (s t : ℕ) → WakingStored state on_rq lock stored
    → WakingStored state on_rq lock (mark stored s t)
WakingStored-stored state on_rq lock stored s t p k u l e w = mark_keeps stored s t k u (p k u l e w)

pub WakingStored-change : (state : ℕ → State) (on_rq : ℕ → ℕ) (lock : ℕ → Option ℕ) (stored : ℕ → ℕ → Bool) (s t v : ℕ) → WakingStored state on_rq lock stored → (v ≢ 0) ⊎ (state t ≢ waking)
    → WakingStored state (put on_rq t v) lock (mark stored s t)
WakingStored-change state on_rq lock stored s t v p by k u l e w =
    let other : u ≢ t = λ q. grind (arith, put_here on_rq t v u q, e, ap state q, w, by) in
    mark_keeps stored s t k u (p k u l (sym (put_there on_rq t v u other) ∙ e) w)

pub WakingStored-state : (state : ℕ → State) (on_rq : ℕ → ℕ) (lock : ℕ → Option ℕ) (stored : ℕ → ℕ → Bool) (s t : ℕ) (x : State) → WakingStored state on_rq lock stored → (lock t ≡ Some s)
    ⊎ (x ≢ waking)
    → WakingStored (put state t x) on_rq lock (mark stored s t)
WakingStored-state state on_rq lock stored s t x p by k u l e w =
    elim (cases_eq u t) [
      | inl q ↦ elim by [
        | inl locked ↦ let same : k ≡ s = grind (arith, l, ap lock q, locked) in grind (arith, nat_tests, same, q)
        | inr h ↦ absurd (h (sym (put_here state t x u q) ∙ w))
      ]
      | inr q ↦ mark_keeps stored s t k u (p k u l e (sym (put_there state t x u q) ∙ w))
    ]

pub MovingStored-take : (on_rq : ℕ → ℕ) (lock : ℕ → Option ℕ) (stored : ℕ → ℕ → Bool) (s t : ℕ) → MovingStored on_rq lock stored → on_rq t ≢ 2
    → MovingStored on_rq (put lock t (Some s)) (renew stored s t)
MovingStored-take on_rq lock stored s t p rests k u l e =
    let other : u ≢ t = λ q. rests (ap on_rq (sym q) ∙ e) in
    let old : stored k u ≡ true = p k u (sym (put_there lock t (Some s) u other) ∙ l) e in
    grind (arith, nat_tests, old, other)

pub MovingStored-give : (on_rq : ℕ → ℕ) (lock : ℕ → Option ℕ) (stored : ℕ → ℕ → Bool) (t : ℕ) → MovingStored on_rq lock stored
    → MovingStored on_rq (put lock t None) stored
MovingStored-give on_rq lock stored t p k u l e = p k u (lock_given lock t k u l) e

pub MovingStored-stored : (on_rq : ℕ → ℕ) (lock : ℕ → Option ℕ) (stored : ℕ → ℕ → Bool) (s t : ℕ) → MovingStored on_rq lock stored
    → MovingStored on_rq lock (mark stored s t)
MovingStored-stored on_rq lock stored s t p k u l e = mark_keeps stored s t k u (p k u l e)

pub MovingStored-change : (on_rq : ℕ → ℕ) (lock : ℕ → Option ℕ) (stored : ℕ → ℕ → Bool) (s t v : ℕ) → MovingStored on_rq lock stored → (v ≢ 2) ⊎ (lock t ≡ Some s)
    → MovingStored (put on_rq t v) lock (mark stored s t)
MovingStored-change on_rq lock stored s t v p by k u l e =
    elim (cases_eq u t) [
      | inl q ↦ elim by [
        | inl h ↦ absurd (h (sym (put_here on_rq t v u q) ∙ e))
        | inr locked ↦ let same : k ≡ s = grind (arith, l, ap lock q, locked) in grind (arith, nat_tests, same, q)
      ]
      | inr q ↦ mark_keeps stored s t k u (p k u l (sym (put_there on_rq t v u q) ∙ e))
    ]
