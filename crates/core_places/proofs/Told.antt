-- What holds of a seat's last reads of a task's queue word, busy word and number, step by step.
use Rattle.std.proofs.Common.{◌≡◌, ◌≢◌, ℕ, ◌+◌, ◌≤◌, ◌⊎◌, inl, inr, true, Option, Some, None, refl, sym, ap, ◌∙◌, subst, arith}
use Rattle.std.proofs.lemmas.Bool.{cases_eq}
use Rattle.core_data.specs.Columns.{put, put_at}
use Rattle.core_data.specs.declared.pos.Rq.{Rq}
use Rattle.core_data.specs.declared.pos.TaskReads.{TaskReads}
use Rattle.core_invariant.proofs.Puts.{put_here, put_there}
use Rattle.core_invariant.specs.Positions.{ReadsTold}
use Rattle.core_places.proofs.LastReads.{reads_here, reads_there}
use Rattle.core_places.proofs.Marks.{lock_taken, lock_given}
use Rattle.handoff_data.specs.History.{History}
use Rattle.handoff_data.specs.Positions.{IsSomewhere}
use Rattle.handoff_data.specs.Rules.{IsQueued}
use Rattle.handoff_data.specs.declared.entry.Entry.{Entry}
use Rattle.handoff_data.specs.declared.entry.Entry.TheVariants as entry

-- t left the queue of c by its change m
abbrev pub IsLeft : History → ℕ → ℕ → ℕ → Type 0
IsLeft j t m c = IsSomewhere j (entry.Sleep t m c) ⊎ IsSomewhere j (entry.Die t m c)

-- what the reads r of task t tell the seat that made them, where c, on and m are the words of t, and `held` says that the seat has its lock
pub record Tells (j : History) (t c on m : ℕ) (held : Type 0) (r : TaskReads) : Type 0 where
  pub queued : (rq : Rq) → held → r.rq ≡ Some rq → rq.on ≡ 1 → IsQueued j t rq.m c
  pub off : (rq : Rq) → held → r.rq ≡ Some rq → rq.on ≡ 0 → rq.m ≢ 0 → (d : ℕ) × IsLeft j t rq.m d
  pub still : (rq : Rq) → held → r.rq ≡ Some rq → rq.on ≡ 0 → (on ≡ 0) × (m ≡ rq.m)
  pub busy : (rq : Rq) → held → r.rq ≡ Some rq → rq.on ≡ 0 → r.busy ≡ Some true → IsLeft j t rq.m c
  pub number : (rq : Rq) → r.rq ≡ Some rq → r.number ≡ Some rq.m
  pub past : (n : ℕ) → r.number ≡ Some n → n ≤ m

told_at : (j : History) (cpu on_rq changes : ℕ → ℕ) (lock : ℕ → Option ℕ) (reads : ℕ → ℕ → TaskReads) → ReadsTold j cpu on_rq changes lock reads
    → (k u : ℕ) → Tells j u (cpu u) (on_rq u) (changes u) (lock u ≡ Some k) (reads k u)
told_at j cpu on_rq changes lock reads p k u =
    record {
      queued = λ rq. p.queued k u rq;
      off = λ rq. p.off k u rq;
      still = λ rq. p.still k u rq;
      busy = λ rq. p.busy k u rq;
      number = λ rq. p.number k u rq;
      past = λ n. p.past k u n;
    }

of_tells : (j : History) (cpu on_rq changes : ℕ → ℕ) (lock : ℕ → Option ℕ) (reads : ℕ → ℕ → TaskReads) → ((k u : ℕ) → Tells j u (cpu u) (on_rq u) (changes u) (lock u ≡ Some k) (reads k u))
    → ReadsTold j cpu on_rq changes lock reads
of_tells j cpu on_rq changes lock reads f =
    record {
      queued = λ k u rq. (f k u).queued rq;
      off = λ k u rq. (f k u).off rq;
      still = λ k u rq. (f k u).still rq;
      busy = λ k u rq. (f k u).busy rq;
      number = λ k u rq. (f k u).number rq;
      past = λ k u n. (f k u).past n;
    }

-- a seat has read nothing of the task but its number
forgot : (j : History) (t c on m : ℕ) (held : Type 0) (r : TaskReads) → r.rq ≡ None → ((n : ℕ) → r.number ≡ Some n → n ≤ m) → Tells j t c on m held r
forgot j t c on m held r none past =
    record {
      queued = λ rq h e o. absurd (no rq e);
      off = λ rq h e o some. absurd (no rq e);
      still = λ rq h e o. absurd (no rq e);
      busy = λ rq h e o b. absurd (no rq e);
      number = λ rq e. absurd (no rq e);
      past = past;
    }
  where
    no : (rq : Rq) → r.rq ≡ Some rq → ⊥
    no rq e = grind (arith, e, none)

-- every entry of j stands in k too
abbrev pub Has : History → History → Type 0
Has j k = (e : Entry) → IsSomewhere j e → IsSomewhere k e

queued-on : (j k : History) → Has j k → (t m c : ℕ) → IsQueued j t m c → IsQueued k t m c
queued-on j k has t m c (inl a) = inl (has (entry.New t m c) a)
queued-on j k has t m c (inr (inl a)) = inr (inl (has (entry.In t m c) a))
queued-on j k has t m c (inr (inr a)) = inr (inr (a.0, has (entry.Enq t m c a.0) a.1))

left-on : (j k : History) → Has j k → (t m c : ℕ) → IsLeft j t m c → IsLeft k t m c
left-on j k has t m c (inl a) = inl (has (entry.Sleep t m c) a)
left-on j k has t m c (inr a) = inr (has (entry.Die t m c) a)

-- what another step leaves of what the words of t were, for a seat that has its lock
abbrev pub Leaves : Type 0 → Type 0 → ℕ → ℕ → ℕ → ℕ → ℕ → ℕ → Type 0
Leaves held held' c c' on on' m m' = held' → held × (c' ≡ c) × (on ≡ 0 → (on' ≡ 0) × (m' ≡ m))

tells-on : (j k : History) (t c c' on on' m m' : ℕ) (held held' : Type 0) (r : TaskReads) → Tells j t c on m held r → Has j k → Leaves held held' c c' on on' m m' → m ≤ m'
    → Tells k t c' on' m' held' r
tells-on j k t c c' on on' m m' held held' r p has leaves grows =
    record {
      queued = λ rq h e o. let l = leaves h in subst (IsQueued k t rq.m) (sym l.1) (queued-on j k has t rq.m c (p.queued rq l.0 e o));
      off = λ rq h e o some. let l = leaves h in let d = p.off rq l.0 e o some in (d.0, left-on j k has t rq.m d.0 d.1);
      still = λ rq h e o. let l = leaves h in let w = p.still rq l.0 e o in let n = l.2 w.0 in (n.0, n.1 ∙ w.1);
      busy = λ rq h e o b. let l = leaves h in subst (IsLeft k t rq.m) (sym l.1) (left-on j k has t rq.m c (p.busy rq l.0 e o b));
      number = p.number;
      past = λ n e. let b = p.past n e in omega (arith, b, grows);
    }

-- seat k and task u are s and t, or another pair
spot : (s t k u : ℕ) → ((k ≡ s) × (u ≡ t)) ⊎ ((k ≢ s) ⊎ (u ≢ t))
spot s t k u = elim (cases_eq k s) [
  | inl q ↦ elim (cases_eq u t) [ inl r ↦ inl (q, r) | inr r ↦ inr (inr r) ]
  | inr q ↦ inr (inl q)
]

-- the reads of seat s of task t are r, and every other stays told
ReadsTold-put : (j : History) (cpu on_rq changes : ℕ → ℕ) (lock : ℕ → Option ℕ) (reads : ℕ → ℕ → TaskReads) (s t : ℕ) (r : TaskReads)
    → Tells j t (cpu t) (on_rq t) (changes t) (lock t ≡ Some s) r
    → ((k u : ℕ) → (k ≢ s) ⊎ (u ≢ t) → Tells j u (cpu u) (on_rq u) (changes u) (lock u ≡ Some k) (reads k u))
    → ReadsTold j cpu on_rq changes lock (put_at reads s t r)
ReadsTold-put j cpu on_rq changes lock reads s t r here there =
    of_tells j cpu on_rq changes lock (put_at reads s t r) (λ k u. elim (spot s t k u) [
      | inl q ↦ subst (λ (x : TaskReads). Tells j u (cpu u) (on_rq u) (changes u) (lock u ≡ Some k) x) (sym (reads_here reads s t r k u q.0 q.1)) (at k u q.0 q.1)
      | inr q ↦ subst (λ (x : TaskReads). Tells j u (cpu u) (on_rq u) (changes u) (lock u ≡ Some k) x) (sym (reads_there reads s t r k u q)) (there k u q)
    ])
  where
    at : (k u : ℕ) → k ≡ s → u ≡ t → Tells j u (cpu u) (on_rq u) (changes u) (lock u ≡ Some k) r
    at k u q e =
        subst (λ z. Tells j z (cpu z) (on_rq z) (changes z) (lock z ≡ Some k) r) (sym e)
        (subst (λ z. Tells j t (cpu t) (on_rq t) (changes t) (lock t ≡ Some z) r) (sym q) here)

pub ReadsTold-take : (j : History) (cpu on_rq changes : ℕ → ℕ) (lock : ℕ → Option ℕ) (reads : ℕ → ℕ → TaskReads) (s t : ℕ) (r : TaskReads) → ReadsTold j cpu on_rq changes lock reads
    → r.rq ≡ None → r.number ≡ None → ReadsTold j cpu on_rq changes (put lock t (Some s)) (put_at reads s t r)
ReadsTold-take j cpu on_rq changes lock reads s t r p none fresh =
    ReadsTold-put j cpu on_rq changes (put lock t (Some s)) reads s t r
    (forgot j t (cpu t) (on_rq t) (changes t) (put lock t (Some s) t ≡ Some s) r none (λ n e. absurd (grind (arith, e, fresh))))
    (λ k u o. tells-on j j u (cpu u) (cpu u) (on_rq u) (on_rq u) (changes u) (changes u) (lock u ≡ Some k) (put lock t (Some s) u ≡ Some k) (reads k u)
    (told_at j cpu on_rq changes lock reads p k u) (λ e a. a)
    (λ h. (elim (lock_taken lock s t k u h) [ inl a ↦ a | inr a ↦ absurd (elim o [ inl b ↦ b a.0 | inr b ↦ b a.1 ]) ], refl, λ z. (z, refl))) (omega arith))

pub ReadsTold-give : (j : History) (cpu on_rq changes : ℕ → ℕ) (lock : ℕ → Option ℕ) (reads : ℕ → ℕ → TaskReads) (t : ℕ) → ReadsTold j cpu on_rq changes lock reads
    → ReadsTold j cpu on_rq changes (put lock t None) reads
ReadsTold-give j cpu on_rq changes lock reads t p =
    of_tells j cpu on_rq changes (put lock t None) reads (λ k u.
    tells-on j j u (cpu u) (cpu u) (on_rq u) (on_rq u) (changes u) (changes u) (lock u ≡ Some k) (put lock t None u ≡ Some k) (reads k u)
    (told_at j cpu on_rq changes lock reads p k u) (λ e a. a) (λ h. (lock_given lock t k u h, refl, λ z. (z, refl))) (omega arith))

-- a journal has one entry more
pub ReadsTold-log : (j k : History) (cpu on_rq changes : ℕ → ℕ) (lock : ℕ → Option ℕ) (reads : ℕ → ℕ → TaskReads) → Has j k → ReadsTold j cpu on_rq changes lock reads
    → ReadsTold k cpu on_rq changes lock reads
ReadsTold-log j k cpu on_rq changes lock reads has p =
    of_tells k cpu on_rq changes lock reads (λ i u.
    tells-on j k u (cpu u) (cpu u) (on_rq u) (on_rq u) (changes u) (changes u) (lock u ≡ Some i) (lock u ≡ Some i) (reads i u)
    (told_at j cpu on_rq changes lock reads p i u) has (λ h. (h, refl, λ z. (z, refl))) (omega arith))

-- what was read of `on_rq` is forgotten, and the number stays
pub ReadsTold-forget : (j : History) (cpu on_rq changes : ℕ → ℕ) (lock : ℕ → Option ℕ) (reads : ℕ → ℕ → TaskReads) (s t : ℕ) (r : TaskReads) → ReadsTold j cpu on_rq changes lock reads
    → r.rq ≡ None → r.number ≡ (reads s t).number → ReadsTold j cpu on_rq changes lock (put_at reads s t r)
ReadsTold-forget j cpu on_rq changes lock reads s t r p none same =
    ReadsTold-put j cpu on_rq changes lock reads s t r
    (forgot j t (cpu t) (on_rq t) (changes t) (lock t ≡ Some s) r none (λ n e. p.past s t n (sym same ∙ e)))
    (λ k u o. told_at j cpu on_rq changes lock reads p k u)

-- another word is read
pub ReadsTold-same : (j : History) (cpu on_rq changes : ℕ → ℕ) (lock : ℕ → Option ℕ) (reads : ℕ → ℕ → TaskReads) (s t : ℕ) (r : TaskReads) → ReadsTold j cpu on_rq changes lock reads
    → r.rq ≡ (reads s t).rq → r.busy ≡ (reads s t).busy → r.number ≡ (reads s t).number → ReadsTold j cpu on_rq changes lock (put_at reads s t r)
ReadsTold-same j cpu on_rq changes lock reads s t r p rq busy number =
    let old = told_at j cpu on_rq changes lock reads p s t in
    ReadsTold-put j cpu on_rq changes lock reads s t r
    (record {
      queued = λ x h e. old.queued x h (sym rq ∙ e);
      off = λ x h e. old.off x h (sym rq ∙ e);
      still = λ x h e. old.still x h (sym rq ∙ e);
      busy = λ x h e o b. old.busy x h (sym rq ∙ e) o (sym busy ∙ b);
      number = λ x e. number ∙ old.number x (sym rq ∙ e);
      past = λ n e. old.past n (sym number ∙ e);
    })
    (λ k u o. told_at j cpu on_rq changes lock reads p k u)

-- the queue word and its number are stored, by the seat that has the task's lock or while the task is queued, and what was read of it is forgotten
pub ReadsTold-change : (j k : History) (cpu on_rq changes : ℕ → ℕ) (lock : ℕ → Option ℕ) (reads : ℕ → ℕ → TaskReads) (s t v : ℕ) (r : TaskReads) → ReadsTold j cpu on_rq changes lock reads
    → Has j k → (lock t ≡ Some s) ⊎ (on_rq t ≡ 1) → r.rq ≡ None → r.number ≡ Some (changes t + 1)
    → ReadsTold k cpu (put on_rq t v) (put changes t (changes t + 1)) lock (put_at reads s t r)
ReadsTold-change j k cpu on_rq changes lock reads s t v r p has by none number =
    let next = put on_rq t v in
    let more = put changes t (changes t + 1) in
    ReadsTold-put k cpu next more lock reads s t r
    (forgot k t (cpu t) (next t) (more t) (lock t ≡ Some s) r none (λ n e. let is : Some n ≡ Some (changes t + 1) = sym e ∙ number in let same : n ≡ changes t + 1 = grind (arith, is) in
    let here = put_here changes t (changes t + 1) t refl in omega (arith, same, here)))
    (λ i u o. tells-on j k u (cpu u) (cpu u) (on_rq u) (next u) (changes u) (more u) (lock u ≡ Some i) (lock u ≡ Some i) (reads i u)
    (told_at j cpu on_rq changes lock reads p i u) has (λ h. (h, refl, λ z. words i u o h z)) (grows u))
  where
    grows : (u : ℕ) → changes u ≤ put changes t (changes t + 1) u
    grows u = elim (cases_eq u t) [
      | inl q ↦ let is = put_here changes t (changes t + 1) u q in let same = ap changes q in omega (arith, is, same)
      | inr q ↦ let is = put_there changes t (changes t + 1) u q in omega (arith, is)
    ]

    words : (i u : ℕ) → (i ≢ s) ⊎ (u ≢ t) → lock u ≡ Some i → on_rq u ≡ 0 → (put on_rq t v u ≡ 0) × (put changes t (changes t + 1) u ≡ changes u)
    words i u o h z = elim (cases_eq u t) [
      | inl q ↦ elim by [
        | inl locked ↦ let same : i ≡ s = grind (arith, h, ap lock q, locked) in absurd (elim o [ inl a ↦ a same | inr a ↦ a q ])
        | inr queued ↦ absurd (grind (arith, z, ap on_rq q, queued))
      ]
      | inr q ↦ (put_there on_rq t v u q ∙ z, put_there changes t (changes t + 1) u q)
    ]

-- the processor word is stored, and what was read before of this task is forgotten
pub ReadsTold-store_cpu : (j : History) (cpu on_rq changes : ℕ → ℕ) (lock : ℕ → Option ℕ) (reads between : ℕ → ℕ → TaskReads) (s t c : ℕ) (r : TaskReads) → ReadsTold j cpu on_rq changes lock reads
    → lock t ≡ Some s → r.rq ≡ None → r.number ≡ (reads s t).number → ((k u : ℕ) → (k ≢ s) ⊎ (u ≢ t) → between k u ≡ reads k u)
    → ReadsTold j (put cpu t c) on_rq changes lock (put_at between s t r)
ReadsTold-store_cpu j cpu on_rq changes lock reads between s t c r p locked none same other =
    let next = put cpu t c in
    ReadsTold-put j next on_rq changes lock between s t r
    (forgot j t (next t) (on_rq t) (changes t) (lock t ≡ Some s) r none (λ n e. p.past s t n (sym same ∙ e)))
    (λ k u o. subst (λ (x : TaskReads). Tells j u (next u) (on_rq u) (changes u) (lock u ≡ Some k) x) (sym (other k u o))
    (tells-on j j u (cpu u) (next u) (on_rq u) (on_rq u) (changes u) (changes u) (lock u ≡ Some k) (lock u ≡ Some k) (reads k u)
    (told_at j cpu on_rq changes lock reads p k u) (λ e a. a) (λ h. (h, here k u o h, λ z. (z, refl))) (omega arith)))
  where
    here : (k u : ℕ) → (k ≢ s) ⊎ (u ≢ t) → lock u ≡ Some k → put cpu t c u ≡ cpu u
    here k u o h = elim (cases_eq u t) [
      | inl q ↦ let is : k ≡ s = grind (arith, h, ap lock q, locked) in absurd (elim o [ inl a ↦ a is | inr a ↦ a q ])
      | inr q ↦ put_there cpu t c u q
    ]

-- `on_rq` and its number are read
pub ReadsTold-load_rq : (j : History) (cpu on_rq changes : ℕ → ℕ) (lock : ℕ → Option ℕ) (reads : ℕ → ℕ → TaskReads) (s t : ℕ) (r : TaskReads) → ReadsTold j cpu on_rq changes lock reads
    → r.number ≡ Some (changes t) → r.busy ≡ None → ((rq : Rq) → r.rq ≡ Some rq → (rq.on ≡ on_rq t) × (rq.m ≡ changes t))
    → (on_rq t ≡ 1 → IsQueued j t (changes t) (cpu t)) → (on_rq t ≡ 0 → changes t ≢ 0 → (d : ℕ) × IsLeft j t (changes t) d)
    → ReadsTold j cpu on_rq changes lock (put_at reads s t r)
ReadsTold-load_rq j cpu on_rq changes lock reads s t r p number none is queued off =
    ReadsTold-put j cpu on_rq changes lock reads s t r
    (record {
      queued = λ rq h e o. let w = is rq e in subst (λ z. IsQueued j t z (cpu t)) (sym w.1) (queued (sym w.0 ∙ o));
      off = λ rq h e o some. let w = is rq e in let d = off (sym w.0 ∙ o) (λ q. some (w.1 ∙ q)) in (d.0, subst (λ z. IsLeft j t z d.0) (sym w.1) d.1);
      still = λ rq h e o. let w = is rq e in (sym w.0 ∙ o, sym w.1);
      busy = λ rq h e o b. absurd (grind (arith, b, none));
      number = λ rq e. number ∙ ap (λ z. Some z) (sym (is rq e).1);
      past = λ n e. let q : Some n ≡ Some (changes t) = sym e ∙ number in let same : n ≡ changes t = grind (arith, q) in omega (arith, same);
    })
    (λ k u o. told_at j cpu on_rq changes lock reads p k u)

-- the busy word is read
pub ReadsTold-load_busy : (j : History) (cpu on_rq changes : ℕ → ℕ) (lock : ℕ → Option ℕ) (reads : ℕ → ℕ → TaskReads) (s t : ℕ) (r : TaskReads) → ReadsTold j cpu on_rq changes lock reads
    → r.rq ≡ (reads s t).rq → r.number ≡ (reads s t).number → (r.busy ≡ Some true → on_rq t ≡ 0 → IsLeft j t (changes t) (cpu t))
    → ReadsTold j cpu on_rq changes lock (put_at reads s t r)
ReadsTold-load_busy j cpu on_rq changes lock reads s t r p rq number left =
    let old = told_at j cpu on_rq changes lock reads p s t in
    ReadsTold-put j cpu on_rq changes lock reads s t r
    (record {
      queued = λ x h e. old.queued x h (sym rq ∙ e);
      off = λ x h e. old.off x h (sym rq ∙ e);
      still = λ x h e. old.still x h (sym rq ∙ e);
      busy = λ x h e o b. let w = old.still x h (sym rq ∙ e) o in subst (λ z. IsLeft j t z (cpu t)) w.1 (left b w.0);
      number = λ x e. number ∙ old.number x (sym rq ∙ e);
      past = λ n e. old.past n (sym number ∙ e);
    })
    (λ k u o. told_at j cpu on_rq changes lock reads p k u)
