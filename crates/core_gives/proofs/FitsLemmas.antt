-- A queue fits the words exactly where it has only tasks that are queued there, none twice, and as many as there are.
use Rattle.std.proofs.Common.{◌≡◌, ℕ, zero, suc, ◌+◌, ◌<◌, ◌≤◌, ◌==◌, ◌&&◌, ◌⊎◌, inl, inr, List, [], ◌∷◌, Bool, true, false, Option, Some, None, length, refl, sym, ◌∙◌, ap, subst, arith}
use Rattle.std.specs.Prelude.{if◌then◌else◌, count_by, slice_get, is_some, IsTrue}
use mathlib.Core.Bool.{not}
use Rattle.std.proofs.lemmas.Bool.{cases_lt, cases_eq}
use Rattle.std.proofs.lemmas.Bool.Decides.{nat_tests}
use Rattle.std.proofs.lemmas.List.Sums.{sum_by-cons}
use Rattle.core_data.proofs.QueueLemmas.{times_in-cons}
use Rattle.core_data.specs.Queue.{Queue, IsOnce, times_in, runnable_count}
use Rattle.core_data.specs.Columns.{columns, column}
use Rattle.core_data.specs.declared.machine.Core.{Core}
use Rattle.core_data.specs.declared.words.TaskWords.{TaskWords}
use Rattle.core_gives.specs.Fits.{IsHere, AreHere, IsCurHere}
use Rattle.core_gives.specs.Queues.{IsQueueOf, is_at, times, is_some_of}

-- the sum of f over the numbers below n
abbrev sum_below : (ℕ → ℕ) → ℕ → ℕ
sum_below f zero = 0
sum_below f (suc n) = f 0 + sum_below (λ k. f (suc k)) n

abbrev one_if : Bool → ℕ
one_if b = if b then 1 else 0

sum-cong : (f g : ℕ → ℕ) (n : ℕ) → ((k : ℕ) → k < n → f k ≡ g k) → sum_below f n ≡ sum_below g n
sum-cong f g zero h = refl
sum-cong f g (suc n) h =
    let here : f 0 ≡ g 0 = h 0 (omega arith) in
    let rest : sum_below (λ k. f (suc k)) n ≡ sum_below (λ k. g (suc k)) n = sum-cong (λ k. f (suc k)) (λ k. g (suc k)) n (λ k lt. h (suc k) (omega arith)) in
    omega (arith, here, rest)

sum-add : (f g : ℕ → ℕ) (n : ℕ) → sum_below (λ k. f k + g k) n ≡ sum_below f n + sum_below g n
sum-add f g zero = refl
sum-add f g (suc n) = let r = sum-add (λ k. f (suc k)) (λ k. g (suc k)) n in omega (arith, r)

sum-zero : (n : ℕ) → sum_below (λ k. 0) n ≡ 0
sum-zero zero = refl
sum-zero (suc n) = let r = sum-zero n in omega (arith, r)

-- one number is met once
sum-one : (n x : ℕ) → x < n → sum_below (λ k. one_if (x == k)) n ≡ 1
sum-one zero x h = absurd (omega arith)
sum-one (suc n) zero h =
    let rest : sum_below (λ k. one_if (0 == suc k)) n ≡ sum_below (λ k. 0) n = sum-cong (λ k. one_if (0 == suc k)) (λ k. 0) n (λ k lt. grind (arith, nat_tests)) in
    let none = sum-zero n in
    let here : one_if (0 == 0) ≡ 1 = grind (arith, nat_tests) in
    omega (arith, rest, none, here)
sum-one (suc n) (suc x) h =
    let rest : sum_below (λ k. one_if (suc x == suc k)) n ≡ sum_below (λ k. one_if (x == k)) n = sum-cong (λ k. one_if (suc x == suc k)) (λ k. one_if (x == k)) n (λ k lt. grind (arith, nat_tests)) in
    let one = sum-one n x (omega arith) in
    let here : one_if (suc x == 0) ≡ 0 = grind (arith, nat_tests) in
    omega (arith, rest, one, here)

sum-le : (f g : ℕ → ℕ) (n : ℕ) → ((k : ℕ) → k < n → f k ≤ g k) → sum_below f n ≤ sum_below g n
sum-le f g zero h = omega arith
sum-le f g (suc n) h =
    let here : f 0 ≤ g 0 = h 0 (omega arith) in
    let rest : sum_below (λ k. f (suc k)) n ≤ sum_below (λ k. g (suc k)) n = sum-le (λ k. f (suc k)) (λ k. g (suc k)) n (λ k lt. h (suc k) (omega arith)) in
    omega (arith, here, rest)

-- sums of the same value, where no term of the one is above that of the other, have the same terms
sum-terms : (f g : ℕ → ℕ) (n : ℕ) → ((k : ℕ) → k < n → f k ≤ g k) → sum_below f n ≡ sum_below g n → (k : ℕ) → k < n → f k ≡ g k
sum-terms f g zero h e k lt = absurd (omega arith)
sum-terms f g (suc n) h e zero lt =
    let here : f 0 ≤ g 0 = h 0 (omega arith) in
    let rest : sum_below (λ k. f (suc k)) n ≤ sum_below (λ k. g (suc k)) n = sum-le (λ k. f (suc k)) (λ k. g (suc k)) n (λ k lt. h (suc k) (omega arith)) in
    omega (arith, here, rest, e)
sum-terms f g (suc n) h e (suc k) lt =
    let here : f 0 ≤ g 0 = h 0 (omega arith) in
    let rest : sum_below (λ k. f (suc k)) n ≤ sum_below (λ k. g (suc k)) n = sum-le (λ k. f (suc k)) (λ k. g (suc k)) n (λ k lt. h (suc k) (omega arith)) in
    sum-terms (λ k. f (suc k)) (λ k. g (suc k)) n (λ k lt. h (suc k) (omega arith)) (omega (arith, here, rest, e)) k (omega arith)

-- a list of numbers below n is as long as all are met
sum-times : (n : ℕ) (xs : List ℕ) → ((i t : ℕ) → slice_get xs i ≡ Some t → t < n) → sum_below (times_in xs) n ≡ length xs
sum-times n [] h = sum-zero n
sum-times n (x ∷ xs) h =
    let split : sum_below (times_in (x ∷ xs)) n ≡ sum_below (λ k. one_if (x == k) + times_in xs k) n = sum-cong (times_in (x ∷ xs)) (λ k. one_if (x == k) + times_in xs k) n
    (λ k lt. times_in-cons x xs k) in
    let parts = sum-add (λ k. one_if (x == k)) (times_in xs) n in
    let one = sum-one n x (h 0 x refl) in
    let rest = sum-times n xs (λ i t e. h (suc i) t e) in
    omega (arith, split, parts, one, rest)

sum-cur : (n : ℕ) (o : Option ℕ) → ((t : ℕ) → o ≡ Some t → t < n) → sum_below (λ k. one_if (is_some_of o k)) n ≡ one_if (is_some o)
sum-cur n None h = sum-zero n
sum-cur n (Some x) h = sum-one n x (h x refl)

sum-queue : (n : ℕ) (queue : Queue) → ((i t : ℕ) → slice_get queue.waiting i ≡ Some t → t < n) → ((t : ℕ) → queue.cur ≡ Some t → t < n) → sum_below (times queue) n ≡ runnable_count queue
sum-queue n queue waiting cur =
    let parts = sum-add (times_in queue.waiting) (λ k. one_if (is_some_of queue.cur k)) n in
    let a = sum-times n queue.waiting waiting in
    let b = sum-cur n queue.cur cur in
    omega (arith, parts, a, b)

abbrev is_row_at : ℕ → TaskWords → Bool
is_row_at c w = (w.on_rq == 1) && (w.cpu == c)

abbrev on_of : List TaskWords → ℕ → ℕ
on_of rows = column (λ (w : TaskWords). w.on_rq) 0 rows

abbrev cpu_of : List TaskWords → ℕ → ℕ
cpu_of rows = column (λ (w : TaskWords). w.cpu) 0 rows

count-rows : (c : ℕ) (rows : List TaskWords) → count_by (is_row_at c) rows ≡ sum_below (λ k. one_if (is_at (on_of rows) (cpu_of rows) c k)) (length rows)
count-rows c [] = refl
count-rows c (w ∷ ws) =
    let e : count_by (is_row_at c) (w ∷ ws) ≡ one_if (is_row_at c w) + count_by (is_row_at c) ws = sum_by-cons (λ y. one_if (is_row_at c y)) w ws in
    let r = count-rows c ws in
    omega (arith, e, r)

-- the number of rows that are queued on c is that of the tasks
pub count-here : (core : Core) (c : ℕ) → count_by (is_row_at c) core.tasks.items ≡ sum_below (λ k. one_if (is_at (columns core).on_rq (columns core).cpu c k)) (columns core).tasks
unfolding columns
count-here core c = count-rows c core.tasks.items

pub column-past : {A B : Type 0} (f : A → B) (d : B) (xs : List A) (k : ℕ) → length xs ≤ k → column f d xs k ≡ d
column-past f d [] k h = refl
column-past f d (x ∷ xs) zero h = absurd (omega arith)
column-past f d (x ∷ xs) (suc k) h = column-past f d xs k (omega arith)

-- past the last task no word is set
on-past : (core : Core) (k : ℕ) → (columns core).tasks ≤ k → (columns core).on_rq k ≡ 0
unfolding columns
on-past core k h = column-past (λ (w : TaskWords). w.on_rq) 0 core.tasks.items k h

is_at-past : (core : Core) (c k : ℕ) → (columns core).tasks ≤ k → is_at (columns core).on_rq (columns core).cpu c k ≡ false
is_at-past core c k h = let z = on-past core k h in grind (arith, nat_tests, z)

is_at-below : (core : Core) (c k : ℕ) → is_at (columns core).on_rq (columns core).cpu c k ≡ true → k < (columns core).tasks
is_at-below core c k h =
    elim (cases_lt k (columns core).tasks) [
      | inl a ↦ a
      | inr b ↦ let z = is_at-past core c k b in absurd (grind (arith, z, h))
    ]

-- a task that stands at some place of a list stands in it
pub times-at : (xs : List ℕ) (i t : ℕ) → slice_get xs i ≡ Some t → 0 < times_in xs t
times-at [] i t h = absurd (grind (arith, h))
times-at (x ∷ xs) zero t h = let e = times_in-cons x xs t in let same : x ≡ t = cc in grind (arith, nat_tests, e, same)
times-at (x ∷ xs) (suc i) t h = let e = times_in-cons x xs t in let r = times-at xs i t h in omega (arith, e, r)

-- and one that stands in it stands at some place
pub place-of : (xs : List ℕ) (t : ℕ) → 0 < times_in xs t → (i : ℕ) × (slice_get xs i ≡ Some t)
place-of [] t h = absurd (omega (arith, h))
place-of (x ∷ xs) t h =
    elim (cases_eq x t) [
      | inl a ↦ (0, ap (λ (y : ℕ). Some y) a)
      | inr b ↦
          let e = times_in-cons x xs t in
          let rest : 0 < times_in xs t = grind (arith, nat_tests, e, b, h) in
          let p = place-of xs t rest in
          (suc p.0, p.1)
    ]

pub is_some_of-same : (o : Option ℕ) (t : ℕ) → is_some_of o t ≡ true → o ≡ Some t
is_some_of-same None t h = absurd (grind (arith, h))
is_some_of-same (Some j) t h = let e : j ≡ t = grind (arith, nat_tests, h) in ap (λ (y : ℕ). Some y) e

pub is_some_of-at : (o : Option ℕ) (t : ℕ) → o ≡ Some t → is_some_of o t ≡ true
is_some_of-at None t h = absurd (cc)
is_some_of-at (Some j) t h = let e : j ≡ t = cc in grind (arith, nat_tests, e)

pub bool_cases : (b : Bool) → (b ≡ true) ⊎ (b ≡ false)
bool_cases true = inl refl
bool_cases false = inr refl

-- a task of such a queue stands there at most as often as its words say
times-le : (core : Core) (c : ℕ) (queue : Queue) → IsOnce queue.waiting → AreHere (columns core) c queue → IsCurHere (columns core) c queue → (k : ℕ)
    → times queue k ≤ one_if (is_at (columns core).on_rq (columns core).cpu c k)
times-le core c queue once here cur k =
    elim (bool_cases (is_some_of queue.cur k)) [
      | inl runs ↦
          let h = cur k (is_some_of-same queue.cur k runs) in
          let at : is_at (columns core).on_rq (columns core).cpu c k ≡ true = h.0.1 in
          let none : times_in queue.waiting k ≡ 0 = h.1 in
          grind (arith, runs, at, none)
      | inr rests ↦
          elim (cases_eq (times_in queue.waiting k) 0) [
            | inl none ↦ grind (arith, rests, none)
            | inr some ↦
                let p = place-of queue.waiting k (omega (arith, some)) in
                let at : is_at (columns core).on_rq (columns core).cpu c k ≡ true = (here p.0 k p.1).1 in
                let o = once.at_most k in
                grind (arith, rests, at, o)
          ]
    ]

pub fits : (core : Core) (c : ℕ) (queue : Queue) → IsOnce queue.waiting → AreHere (columns core) c queue → IsCurHere (columns core) c queue
    → count_by (is_row_at c) core.tasks.items ≡ runnable_count queue → IsQueueOf (columns core).on_rq (columns core).cpu c queue
fits core c queue once here cur count k =
    let n = (columns core).tasks in
    let words : ℕ → ℕ = λ (j : ℕ). one_if (is_at (columns core).on_rq (columns core).cpu c j) in
    let le = times-le core c queue once here cur in
    let all = sum-queue n queue (λ i t e. (here i t e).0) (λ t e. (cur t e).0.0) in
    let counted = count-here core c in
    elim (cases_lt k n) [
      | inl a ↦ sum-terms (times queue) words n (λ j lt. le j) (omega (arith, all, counted, count)) k a
      | inr b ↦
          let none = is_at-past core c k b in
          let some = le k in
          let zero_words : one_if (is_at (columns core).on_rq (columns core).cpu c k) ≡ 0 = ap one_if none in
          omega (arith, zero_words, some)
    ]

at-of : (b : Bool) (n : ℕ) → 0 < n → n ≡ one_if b → b ≡ true
at-of true n h e = refl
at-of false n h e = absurd (omega (arith, h, e))

pub fits-here : (core : Core) (c : ℕ) (queue : Queue) → IsQueueOf (columns core).on_rq (columns core).cpu c queue → AreHere (columns core) c queue
fits-here core c queue fit i t e =
    let some = times-at queue.waiting i t e in
    let at : is_at (columns core).on_rq (columns core).cpu c t ≡ true = at-of _ (times queue t) (omega (arith, some)) (fit t) in
    (is_at-below core c t at, at)

pub fits-cur : (core : Core) (c : ℕ) (queue : Queue) → IsQueueOf (columns core).on_rq (columns core).cpu c queue → IsCurHere (columns core) c queue
fits-cur core c queue fit t e =
    let runs = is_some_of-at queue.cur t e in
    let one : times queue t ≡ times_in queue.waiting t + 1 = ap (λ (b : Bool). times_in queue.waiting t + one_if b) runs in
    let at : is_at (columns core).on_rq (columns core).cpu c t ≡ true = at-of _ (times queue t) (omega (arith, one)) (fit t) in
    let exact : times queue t ≡ 1 = fit t ∙ ap one_if at in
    ((is_at-below core c t at, at), omega (arith, one, exact))

pub fits-count : (core : Core) (c : ℕ) (queue : Queue) → IsQueueOf (columns core).on_rq (columns core).cpu c queue → count_by (is_row_at c) core.tasks.items ≡ runnable_count queue
fits-count core c queue fit =
    let n = (columns core).tasks in
    let words : ℕ → ℕ = λ (j : ℕ). one_if (is_at (columns core).on_rq (columns core).cpu c j) in
    let here = fits-here core c queue fit in
    let cur = fits-cur core c queue fit in
    let all = sum-queue n queue (λ i t e. (here i t e).0) (λ t e. (cur t e).0.0) in
    let counted = count-here core c in
    let same = sum-cong (times queue) words n (λ k lt. fit k) in
    omega (arith, all, counted, same)

-- what holds of the task in an option holds of each that is in it
pub only-one : (o : Option ℕ) (t : ℕ) (P : ℕ → Type 0) → o ≡ Some t → P t → (u : ℕ) → o ≡ Some u → P u
only-one o t P is here u at = let same : t ≡ u = cc in subst P same here

pub not-contained : (b : Bool) (n : ℕ) → (IsTrue b → n ≡ 1) → n ≡ 0 → IsTrue (not b)
not-contained true n h e = let one = h (grind arith) in absurd (omega (arith, one, e))
not-contained false n h e = grind arith

pub none-waits : (b : Bool) (n : ℕ) → (n ≡ 1 → IsTrue b) → n ≤ 1 → IsTrue (not b) → n ≡ 0
none-waits b n h le absent = let wrong : n ≡ 1 → ⊥ = λ e. let yes = h e in grind (arith, yes, absent) in omega (arith, le, wrong)
