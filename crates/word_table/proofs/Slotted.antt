-- Which slots a trace has out, after one more step.
use Rattle.std.proofs.Common.{◌≡◌, ◌≢◌, ℕ, ◌+◌, ◌*◌, ◌/◌, ◌%◌, ◌<◌, ◌⊎◌, inl, inr, ⊎_elim, Bool, true, false, refl, sym, ap, subst, ◌∙◌, List, ◌∷◌, eq-eqb, ne_eqb, arith}
use Rattle.std.proofs.lemmas.Bool.{cases_eq}
use Rattle.std.specs.Prelude.{Option, Some, None, is_some, if◌then◌else◌, ◌==◌}
use Rattle.core_data.specs.Columns.{put}
use Rattle.core_gives.specs.Queues.{is_some_of}
use Rattle.core_stores.proofs.Columns.{put_there, put_other}
use Rattle.word_rule.specs.Sorts.{Sort, OfTask, OfQueue, OfWorks, OfWait, IsOf, some_of, held_of}
use Rattle.word_steps.specs.Folds.{task_held, queue_held, works_held, wait_held, body_held}
use Rattle.word_steps.specs.Records.{Rec, Took, Gave, OutBody, HomeBody}
use Rattle.word_steps.specs.declared.val.Val.{Val}
use Rattle.word_steps.specs.declared.val.Val.TheVariants as val
use Rattle.word_table.specs.Layout.{SLOTS, BODY_SLOT, slot_of, slot_at}
use Rattle.word_table.specs.Outs.{IsQuiet, by_column, is_out, has_out}

-- the sort of a value
abbrev pub sort_of : Val → Sort
sort_of (val.Task v) = OfTask
sort_of (val.Queue v) = OfQueue
sort_of (val.Works v) = OfWorks
sort_of (val.Wait v) = OfWait

pub sort_is : (sort : Sort) (v : Val) → IsOf sort v → sort ≡ sort_of v
sort_is OfTask (val.Task v) is = refl
sort_is OfTask (val.Queue v) is = absurd is
sort_is OfTask (val.Works v) is = absurd is
sort_is OfTask (val.Wait v) is = absurd is
sort_is OfQueue (val.Task v) is = absurd is
sort_is OfQueue (val.Queue v) is = refl
sort_is OfQueue (val.Works v) is = absurd is
sort_is OfQueue (val.Wait v) is = absurd is
sort_is OfWorks (val.Task v) is = absurd is
sort_is OfWorks (val.Queue v) is = absurd is
sort_is OfWorks (val.Works v) is = refl
sort_is OfWorks (val.Wait v) is = absurd is
sort_is OfWait (val.Task v) is = absurd is
sort_is OfWait (val.Queue v) is = absurd is
sort_is OfWait (val.Works v) is = absurd is
sort_is OfWait (val.Wait v) is = refl

-- a value of one sort
pub some_is : {A : Type 0} (f : A → Val) (o : Option A) (v : Val) → some_of f o ≡ Some v → (w : A) × (v ≡ f w)
some_is f None v e = let no : false ≡ true = ap is_some e in cc
some_is f (Some w) v e = (w, some_same (f w) v e)
  where
    some_same : (a b : Val) → ◌≡◌ {A = Option Val} (Some a) (Some b) → b ≡ a
    some_same a b e = cc

pub held_is : (sort : Sort) (trace : List Rec) (n : ℕ) (v : Val) → held_of sort trace n ≡ Some v → IsOf sort v
held_is OfTask trace n v e = let is = some_is val.Task (task_held trace n) v e in subst (IsOf OfTask) (sym is.1) tt
held_is OfQueue trace n v e = let is = some_is val.Queue (queue_held trace n) v e in subst (IsOf OfQueue) (sym is.1) tt
held_is OfWorks trace n v e = let is = some_is val.Works (works_held trace n) v e in subst (IsOf OfWorks) (sym is.1) tt
held_is OfWait trace n v e = let is = some_is val.Wait (wait_held trace n) v e in subst (IsOf OfWait) (sym is.1) tt

-- A slot by its number and column

pub low_slot : (sort : Sort) → slot_of sort < SLOTS
low_slot OfTask = omega arith
low_slot OfQueue = omega arith
low_slot OfWorks = omega arith
low_slot OfWait = omega arith

pub at_out : (n k : ℕ) (trace : List Rec) → k < SLOTS → has_out (slot_at n k) trace ≡ is_out k n trace
at_out n k trace low = let e : (6 * n + k) % 6 ≡ k = omega arith in
    let f : (6 * n + k) / 6 ≡ n = omega arith in λ j. is_out (e j) (f j) trace

else_out : (n k : ℕ) (trace trace' : List Rec) → ((l m : ℕ) → (m ≢ n) ⊎ (l ≢ k) → is_out l m trace' ≡ is_out l m trace) → (o : ℕ)
    → o ≢ slot_at n k → has_out o trace' ≡ has_out o trace
else_out n k trace trace' same o ne = elim (cases_eq (o / 6) n) [
  | inl e ↦ same (o % 6) (o / 6) (inr (λ f. ne (omega (arith, e, f))))
  | inr apart ↦ same (o % 6) (o / 6) (inl apart)
]

choice_same : (l k : ℕ) (a a' b b' : Bool) → (l ≡ k → a ≡ a') → b ≡ b' → (if l == k then a else b) ≡ (if l == k then a' else b')
choice_same l k a a' b b' f g = elim (cases_eq l k) [ inl e ↦ rw (eq-eqb l k e) (f e) | inr ne ↦ rw (ne_eqb l k ne) g ]

column_same : (l : ℕ) (a a' b b' c c' d d' e e' : Bool) → (l ≡ 0 → a ≡ a') → (l ≡ 1 → b ≡ b') → (l ≡ 2 → c ≡ c') → (l ≡ 3 → d ≡ d')
    → (l ≡ 5 → e ≡ e') → by_column l a b c d e ≡ by_column l a' b' c' d' e'
column_same l a a' b b' c c' d d' e e' f g h i j =
    choice_same l 0 a a' _ _ f (choice_same l 1 b b' _ _ g (choice_same l 2 c c' _ _ h (choice_same l 3 d d' _ _ i (choice_same l 5 e e' false false j refl))))

pub quiet_out : (r : Rec) (trace : List Rec) → IsQuiet r trace → (o : ℕ) → has_out o (r ∷ trace) ≡ has_out o trace
quiet_out r trace q o =
    λ j. by_column (o % 6) (is_some (some_of val.Task (q.task j (o / 6)))) (is_some_of (q.body j) (o / 6)) (is_some (some_of val.Queue (q.queue j (o / 6))))
    (is_some (some_of val.Works (q.works j (o / 6)))) (is_some (some_of val.Wait (q.wait j (o / 6))))

-- a slot that is put as taken or as given, elsewhere
put_else : {A : Type 0} (f : A → Val) (h : ℕ → Option A) (n m l k : ℕ) (o : Option A) → (m ≢ n) ⊎ (l ≢ k) → l ≡ k
    → is_some (some_of f (put h n o m)) ≡ is_some (some_of f (h m))
put_else f h n m l k o (inl ne) e = ap (λ (x : _). is_some (some_of f x)) (put_other h n o m ne)
put_else f h n m l k o (inr ne) e = absurd (ne e)

put_here : {A : Type 0} (f : A → Val) (h : ℕ → Option A) (n : ℕ) (o : Option A) → is_some (some_of f (put h n o n)) ≡ is_some (some_of f o)
put_here f h n o = ap (λ (x : _). is_some (some_of f x)) (put_there h n o n refl)

took_apart : (n : ℕ) (v : Val) (trace : List Rec) (l m : ℕ) → (m ≢ n) ⊎ (l ≢ slot_of (sort_of v))
    → is_out l m (Took n v ∷ trace) ≡ is_out l m trace
took_apart n (val.Task v) trace l m ne = column_same l _ _ _ _ _ _ _ _ _ _ (put_else val.Task (task_held trace) n m l 0 (Some v) ne) (λ e. refl) (λ e. refl) (λ e. refl) (λ e. refl)
took_apart n (val.Queue v) trace l m ne = column_same l _ _ _ _ _ _ _ _ _ _ (λ e. refl) (λ e. refl) (put_else val.Queue (queue_held trace) n m l 2 (Some v) ne) (λ e. refl) (λ e. refl)
took_apart n (val.Works v) trace l m ne = column_same l _ _ _ _ _ _ _ _ _ _ (λ e. refl) (λ e. refl) (λ e. refl) (put_else val.Works (works_held trace) n m l 3 (Some v) ne) (λ e. refl)
took_apart n (val.Wait v) trace l m ne = column_same l _ _ _ _ _ _ _ _ _ _ (λ e. refl) (λ e. refl) (λ e. refl) (λ e. refl) (put_else val.Wait (wait_held trace) n m l 5 (Some v) ne)

gave_apart : (n : ℕ) (v w : Val) (trace : List Rec) (l m : ℕ) → (m ≢ n) ⊎ (l ≢ slot_of (sort_of v))
    → is_out l m (Gave n v w ∷ trace) ≡ is_out l m trace
gave_apart n (val.Task v) w trace l m ne = column_same l _ _ _ _ _ _ _ _ _ _ (put_else val.Task (task_held trace) n m l 0 None ne) (λ e. refl) (λ e. refl) (λ e. refl) (λ e. refl)
gave_apart n (val.Queue v) w trace l m ne = column_same l _ _ _ _ _ _ _ _ _ _ (λ e. refl) (λ e. refl) (put_else val.Queue (queue_held trace) n m l 2 None ne) (λ e. refl) (λ e. refl)
gave_apart n (val.Works v) w trace l m ne = column_same l _ _ _ _ _ _ _ _ _ _ (λ e. refl) (λ e. refl) (λ e. refl) (put_else val.Works (works_held trace) n m l 3 None ne) (λ e. refl)
gave_apart n (val.Wait v) w trace l m ne = column_same l _ _ _ _ _ _ _ _ _ _ (λ e. refl) (λ e. refl) (λ e. refl) (λ e. refl) (put_else val.Wait (wait_held trace) n m l 5 None ne)

took_there : (n : ℕ) (v : Val) (trace : List Rec) → is_out (slot_of (sort_of v)) n (Took n v ∷ trace) ≡ true
took_there n (val.Task v) trace = put_here val.Task (task_held trace) n (Some v)
took_there n (val.Queue v) trace = put_here val.Queue (queue_held trace) n (Some v)
took_there n (val.Works v) trace = put_here val.Works (works_held trace) n (Some v)
took_there n (val.Wait v) trace = put_here val.Wait (wait_held trace) n (Some v)

gave_there : (n : ℕ) (v w : Val) (trace : List Rec) → is_out (slot_of (sort_of v)) n (Gave n v w ∷ trace) ≡ false
gave_there n (val.Task v) w trace = put_here val.Task (task_held trace) n None
gave_there n (val.Queue v) w trace = put_here val.Queue (queue_held trace) n None
gave_there n (val.Works v) w trace = put_here val.Works (works_held trace) n None
gave_there n (val.Wait v) w trace = put_here val.Wait (wait_held trace) n None

-- The steps that take and give slots

module _ (sort : Sort) (n : ℕ) (v : Val) (is : IsOf sort v) where
  at_sort : slot_at n (slot_of sort) ≡ slot_at n (slot_of (sort_of v))
  at_sort = ap (λ (z : Sort). slot_at n (slot_of z)) (sort_is sort v is)

  pub took_out : (trace : List Rec) → has_out (slot_at n (slot_of sort)) (Took n v ∷ trace) ≡ true
  took_out trace = ap (λ (i : ℕ). has_out i (Took n v ∷ trace)) at_sort ∙ at_out n (slot_of (sort_of v)) (Took n v ∷ trace) (low_slot (sort_of v)) ∙ took_there n v trace

  pub took_else : (trace : List Rec) (o : ℕ) → o ≢ slot_at n (slot_of sort) → has_out o (Took n v ∷ trace) ≡ has_out o trace
  took_else trace o ne = else_out n (slot_of (sort_of v)) trace (Took n v ∷ trace) (took_apart n v trace) o (λ e. ne (e ∙ sym at_sort))

  pub gave_back : (w : Val) (trace : List Rec) → has_out (slot_at n (slot_of sort)) (Gave n v w ∷ trace) ≡ false
  gave_back w trace = ap (λ (i : ℕ). has_out i (Gave n v w ∷ trace)) at_sort ∙ at_out n (slot_of (sort_of v)) (Gave n v w ∷ trace) (low_slot (sort_of v)) ∙ gave_there n v w trace

  pub gave_else : (w : Val) (trace : List Rec) (o : ℕ) → o ≢ slot_at n (slot_of sort) → has_out o (Gave n v w ∷ trace) ≡ has_out o trace
  gave_else w trace o ne = else_out n (slot_of (sort_of v)) trace (Gave n v w ∷ trace) (gave_apart n v w trace) o (λ e. ne (e ∙ sym at_sort))

held_there : (sort : Sort) (trace : List Rec) (n : ℕ) → is_out (slot_of sort) n trace ≡ is_some (held_of sort trace n)
held_there OfTask trace n = refl
held_there OfQueue trace n = refl
held_there OfWorks trace n = refl
held_there OfWait trace n = refl

-- a value that the seat has out
pub held_out : (sort : Sort) (trace : List Rec) (n : ℕ) (v : Val) → held_of sort trace n ≡ Some v
    → has_out (slot_at n (slot_of sort)) trace ≡ true
held_out sort trace n v e = at_out n (slot_of sort) trace (low_slot sort) ∙ held_there sort trace n ∙ ap is_some e

-- Bodies: a seat has at most one out

-- whether the slot of a body is out, by the body that is
abbrev names : Option ℕ → ℕ → Bool
names = is_some_of

names_here : (t : ℕ) → names (Some t) t ≡ true
names_here t = rw (eq-eqb t t refl)

names_else : (t m : ℕ) → m ≢ t → names (Some t) m ≡ false
names_else t m ne = grind (arith, ne)

body_else : (r : Rec) (t : ℕ) (trace : List Rec) → ((l m : ℕ) → (m ≢ t) ⊎ (l ≢ 1) → is_out l m (r ∷ trace) ≡ is_out l m trace) → (o : ℕ)
    → o ≢ slot_at t BODY_SLOT → has_out o (r ∷ trace) ≡ has_out o trace
body_else r t trace = else_out t 1 trace (r ∷ trace)

pub body_out : (trace : List Rec) (t : ℕ) → body_held trace ≡ Some t → has_out (slot_at t BODY_SLOT) trace ≡ true
body_out trace t e = at_out t 1 trace (omega arith) ∙ ap (λ (o : Option ℕ). is_some_of o t) e ∙ names_here t

pub left_out : (t : ℕ) (b : Bool) (trace : List Rec) → has_out (slot_at t BODY_SLOT) (OutBody t b ∷ trace) ≡ true
left_out t b trace = body_out (OutBody t b ∷ trace) t refl

pub left_else : (t : ℕ) (b : Bool) (trace : List Rec) → body_held trace ≡ None → (o : ℕ) → o ≢ slot_at t BODY_SLOT
    → has_out o (OutBody t b ∷ trace) ≡ has_out o trace
left_else t b trace none = body_else (OutBody t b) t trace
    (λ l m ne. column_same l _ _ _ _ _ _ _ _ _ _ (λ e. refl) (λ e. ⊎_elim (λ apart. names_else t m apart ∙ sym (ap (λ (o : Option ℕ). is_some_of o m) none)) (λ no. absurd (no e)) ne) (λ e. refl)
    (λ e. refl) (λ e. refl))

pub came_back : (t : ℕ) (b : Bool) (trace : List Rec) → has_out (slot_at t BODY_SLOT) (HomeBody t b ∷ trace) ≡ false
came_back t b trace = at_out t 1 (HomeBody t b ∷ trace) (omega arith)

pub came_else : (t : ℕ) (b : Bool) (trace : List Rec) → body_held trace ≡ Some t → (o : ℕ) → o ≢ slot_at t BODY_SLOT
    → has_out o (HomeBody t b ∷ trace) ≡ has_out o trace
came_else t b trace has = body_else (HomeBody t b) t trace
    (λ l m ne. column_same l _ _ _ _ _ _ _ _ _ _ (λ e. refl) (λ e. ⊎_elim (λ apart. sym (ap (λ (o : Option ℕ). is_some_of o m) has ∙ names_else t m apart)) (λ no. absurd (no e)) ne) (λ e. refl)
    (λ e. refl) (λ e. refl))
