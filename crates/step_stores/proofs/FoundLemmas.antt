-- What is found in the lists of a seat after one item more or less.
use Rattle.std.proofs.Common.{◌≡◌, ℕ, ◌==◌, List, [], ◌∷◌, ◌++◌, Bool, true, false, Option, Some, None, refl, sym, ◌∙◌, ap, arith}
use Rattle.std.specs.Prelude.{◌&&◌, ◌||◌, if◌then◌else◌}
use Rattle.std.specs.List.{filter}
use Rattle.std.proofs.lemmas.Bool.Decides.{nat_tests}
use mathlib.Core.Bool.{not}
use mathlib.Core.Path.{fun_ext}
use Rattle.core_data.specs.Entries.{is_gone}
use Rattle.core_data.specs.Holding.{is_other_task, is_other_queue, is_other_works, is_other_wait}
use Rattle.core_data.specs.Noted.{given_asleep}
use Rattle.core_data.specs.Position.{is_other_test, is_test_of_other, is_sleep_of_other, is_reads_of_other, stays_asleep, newly_asleep}
use Rattle.step_data.proofs.FoundLemmas.{found-append}
use Rattle.core_data.specs.Queue.{Queue}
use Rattle.core_data.specs.Found.{found, no_reads}
use Rattle.core_data.specs.Columns.{put}
use Rattle.core_data.specs.declared.held.HeldTask.{HeldTask}
use Rattle.core_data.specs.declared.held.HeldQueue.{HeldQueue}
use Rattle.core_data.specs.declared.held.HeldWorks.{HeldWorks}
use Rattle.core_data.specs.declared.held.HeldWait.{HeldWait}
use Rattle.core_data.specs.declared.pos.Asleep.{Asleep}
use Rattle.core_data.specs.declared.pos.TaskReads.{TaskReads}
use Rattle.core_data.specs.declared.pos.Test.{Test}
use Rattle.core_data.specs.declared.values.TaskVal.{TaskVal}
use Rattle.core_data.specs.declared.values.WaitEntry.{WaitEntry}
use Rattle.core_data.specs.declared.values.WorkItem.{WorkItem}

-- filter, one element at a time
dropped_step : {A B : Type 0} (hit keep : A → Bool) (val : A → B) (d : B) (x : A) (xs : List A) (b c : Bool) → hit x ≡ b → keep x ≡ c → (b ≡ true → c ≡ false) → found hit val d (filter keep xs) ≡ d
    → found hit val d (if c then x ∷ filter keep xs else filter keep xs) ≡ d
dropped_step hit keep val d x xs b false h k n r = r
dropped_step hit keep val d x xs true true h k n r = absurd (let p = n refl in grind (arith, p))
dropped_step hit keep val d x xs false true h k n r = ap (λ (c : Bool). found hit val (if c then val x else d) (filter keep xs)) h ∙ r

-- a filter that drops each hit
found-dropped : {A B : Type 0} (hit keep : A → Bool) (val : A → B) (d : B) (xs : List A) → ((x : A) → hit x ≡ true → keep x ≡ false) → found hit val d (filter keep xs) ≡ d
found-dropped hit keep val d [] h = refl
found-dropped hit keep val d (x ∷ xs) h = dropped_step hit keep val d x xs (hit x) (keep x) refl refl (h x) (found-dropped hit keep val d xs h)

kept_step : {A B : Type 0} (hit keep : A → Bool) (val : A → B) (d : B) (x : A) (xs : List A) (c : Bool) → keep x ≡ c → (c ≡ false → hit x ≡ false)
    → ((y : B) → found hit val y (filter keep xs) ≡ found hit val y xs)
    → found hit val d (if c then x ∷ filter keep xs else filter keep xs) ≡ found hit val d (x ∷ xs)
kept_step hit keep val d x xs true k n r = r (if hit x then val x else d)
kept_step hit keep val d x xs false k n r = r d ∙ ap (λ (c : Bool). found hit val (if c then val x else d) xs) (sym (n refl))

-- and one that keeps them
found-kept : {A B : Type 0} (hit keep : A → Bool) (val : A → B) (d : B) (xs : List A) → ((x : A) → keep x ≡ false → hit x ≡ false) → found hit val d (filter keep xs) ≡ found hit val d xs
found-kept hit keep val d [] h = refl
found-kept hit keep val d (x ∷ xs) h = kept_step hit keep val d x xs (keep x) refl (h x) (λ y. found-kept hit keep val y xs h)

chosen_if : {A : Type 0} (c : Bool) (a u v : A) → (c ≡ false → u ≡ v) → (if c then a else u) ≡ (if c then a else v)
chosen_if true a u v h = refl
chosen_if false a u v h = h refl

chosen_both : {A : Type 0} (c : Bool) (a u v : A) → (c ≡ true → u ≡ a) → (c ≡ false → u ≡ v) → u ≡ (if c then a else v)
chosen_both true a u v g h = g refl
chosen_both false a u v g h = h refl

or_if : (c b : Bool) → (if c then true else b) ≡ c || b
or_if true b = refl
or_if false b = refl

-- lists with one key
key_held : {A B : Type 0} (key : A → ℕ) (val : A → B) (xs : List A) (x : A) (old : ℕ → Option B) → old ≡ (λ k. found (λ h. k == key h) (λ h. Some (val h)) None xs)
    → (λ (k : ℕ). found (λ h. k == key h) (λ h. Some (val h)) None (xs ++ x ∷ [])) ≡ put old (key x) (Some (val x))
key_held key val xs x old e = fun_ext (λ k. found-append (λ h. k == key h) (λ h. Some (val h)) None xs x) ∙ (λ i. put (sym e i) (key x) (Some (val x)))

key_released : {A B : Type 0} (key : A → ℕ) (val : A → B) (xs : List A) (t : ℕ) (old : ℕ → Option B) → old ≡ (λ k. found (λ h. k == key h) (λ h. Some (val h)) None xs)
    → (λ (k : ℕ). found (λ h. k == key h) (λ h. Some (val h)) None (filter (λ h. not (key h == t)) xs)) ≡ put old t None
key_released key val xs t old e =
    fun_ext (λ k. chosen_both (k == t) None _ (found (λ h. k == key h) (λ h. Some (val h)) None xs)
    (λ c. found-dropped (λ h. k == key h) (λ h. not (key h == t)) (λ h. Some (val h)) None xs (λ x h. grind (arith, nat_tests, c, h)))
    (λ c. found-kept (λ h. k == key h) (λ h. not (key h == t)) (λ h. Some (val h)) None xs (λ x h. grind (arith, nat_tests, c, h))))
    ∙ (λ i. put (sym e i) t None)

pub out_held_task : (xs : List HeldTask) (n : ℕ) (v : TaskVal) (old : ℕ → Option TaskVal) → old ≡ (λ n. found (λ (h : HeldTask). n == h.t) (λ h. Some h.val) None xs)
    → (λ (m : ℕ). found (λ (h : HeldTask). m == h.t) (λ h. Some h.val) None (xs ++ record { t = n; val = v } ∷ [])) ≡ put old n (Some v)
out_held_task xs n v old e = key_held (λ (h : HeldTask). h.t) (λ h. h.val) xs (record { t = n; val = v }) old e

pub out_released_task : (xs : List HeldTask) (n : ℕ) (old : ℕ → Option TaskVal) → old ≡ (λ n. found (λ (h : HeldTask). n == h.t) (λ h. Some h.val) None xs)
    → (λ (m : ℕ). found (λ (h : HeldTask). m == h.t) (λ h. Some h.val) None (filter (is_other_task n) xs)) ≡ put old n None
out_released_task xs n old e = key_released (λ (h : HeldTask). h.t) (λ h. h.val) xs n old e

pub out_held_queue : (xs : List HeldQueue) (n : ℕ) (v : Queue) (old : ℕ → Option Queue) → old ≡ (λ n. found (λ (h : HeldQueue). n == h.c) (λ h. Some h.val) None xs)
    → (λ (m : ℕ). found (λ (h : HeldQueue). m == h.c) (λ h. Some h.val) None (xs ++ record { c = n; val = v } ∷ [])) ≡ put old n (Some v)
out_held_queue xs n v old e = key_held (λ (h : HeldQueue). h.c) (λ h. h.val) xs (record { c = n; val = v }) old e

pub out_released_queue : (xs : List HeldQueue) (n : ℕ) (old : ℕ → Option Queue) → old ≡ (λ n. found (λ (h : HeldQueue). n == h.c) (λ h. Some h.val) None xs)
    → (λ (m : ℕ). found (λ (h : HeldQueue). m == h.c) (λ h. Some h.val) None (filter (is_other_queue n) xs)) ≡ put old n None
out_released_queue xs n old e = key_released (λ (h : HeldQueue). h.c) (λ h. h.val) xs n old e

pub out_held_works : (xs : List HeldWorks) (n : ℕ) (v : List WorkItem) (old : ℕ → Option (List WorkItem))
    → old ≡ (λ n. found (λ (h : HeldWorks). n == h.c) (λ h. Some h.val) None xs)
    → (λ (m : ℕ). found (λ (h : HeldWorks). m == h.c) (λ h. Some h.val) None (xs ++ record { c = n; val = v } ∷ [])) ≡ put old n (Some v)
out_held_works xs n v old e = key_held (λ (h : HeldWorks). h.c) (λ h. h.val) xs (record { c = n; val = v }) old e

pub out_released_works : (xs : List HeldWorks) (n : ℕ) (old : ℕ → Option (List WorkItem)) → old ≡ (λ n. found (λ (h : HeldWorks). n == h.c) (λ h. Some h.val) None xs)
    → (λ (m : ℕ). found (λ (h : HeldWorks). m == h.c) (λ h. Some h.val) None (filter (is_other_works n) xs)) ≡ put old n None
out_released_works xs n old e = key_released (λ (h : HeldWorks). h.c) (λ h. h.val) xs n old e

pub out_held_wait : (xs : List HeldWait) (n : ℕ) (v : List WaitEntry) (old : ℕ → Option (List WaitEntry))
    → old ≡ (λ n. found (λ (h : HeldWait). n == h.k) (λ h. Some h.val) None xs)
    → (λ (m : ℕ). found (λ (h : HeldWait). m == h.k) (λ h. Some h.val) None (xs ++ record { k = n; val = v } ∷ [])) ≡ put old n (Some v)
out_held_wait xs n v old e = key_held (λ (h : HeldWait). h.k) (λ h. h.val) xs (record { k = n; val = v }) old e

pub out_released_wait : (xs : List HeldWait) (n : ℕ) (old : ℕ → Option (List WaitEntry)) → old ≡ (λ n. found (λ (h : HeldWait). n == h.k) (λ h. Some h.val) None xs)
    → (λ (m : ℕ). found (λ (h : HeldWait). m == h.k) (λ h. Some h.val) None (filter (is_other_wait n) xs)) ≡ put old n None
out_released_wait xs n old e = key_released (λ (h : HeldWait). h.k) (λ h. h.val) xs n old e

-- tests and sleeps
pub tested : (xs : List Test) (test : Test) (old : ℕ → ℕ → Option ℕ) → old ≡ (λ t k. found (λ (x : Test). (t == x.t) && (k == x.k)) (λ x. Some x.v) None xs)
    → ◌≡◌ {A = ℕ → ℕ → Option ℕ} (λ (t k : ℕ). found (λ (x : Test). (t == x.t) && (k == x.k)) (λ x. Some x.v) None (filter (is_other_test test) xs ++ test ∷ []))
    (λ t l. if (t == test.t) && (l == test.k) then Some test.v else old t l)
tested xs test old e =
    fun_ext (λ t. fun_ext (λ k.
    found-append (λ (x : Test). (t == x.t) && (k == x.k)) (λ x. Some x.v) None (filter (is_other_test test) xs) test
    ∙ chosen_if ((t == test.t) && (k == test.k)) (Some test.v) _ _ (λ c. found-kept (λ (x : Test). (t == x.t) && (k == x.k)) (is_other_test test) (λ x. Some x.v) None xs
    (λ x h. grind (arith, nat_tests, c, h)))))
    ∙ (λ i. λ t l. if (t == test.t) && (l == test.k) then Some test.v else sym e i t l)

pub untested : (xs : List Test) (t : ℕ) (old : ℕ → ℕ → Option ℕ) → old ≡ (λ t k. found (λ (x : Test). (t == x.t) && (k == x.k)) (λ x. Some x.v) None xs)
    → ◌≡◌ {A = ℕ → ℕ → Option ℕ} (λ (u k : ℕ). found (λ (x : Test). (u == x.t) && (k == x.k)) (λ x. Some x.v) None (filter (is_test_of_other t) xs)) (λ u l. if u == t then None else old u l)
untested xs t old e =
    fun_ext (λ u. fun_ext (λ k. chosen_both (u == t) None _ (found (λ (x : Test). (u == x.t) && (k == x.k)) (λ x. Some x.v) None xs)
    (λ c. found-dropped (λ (x : Test). (u == x.t) && (k == x.k)) (is_test_of_other t) (λ x. Some x.v) None xs (λ x h. grind (arith, nat_tests, c, h)))
    (λ c. found-kept (λ (x : Test). (u == x.t) && (k == x.k)) (is_test_of_other t) (λ x. Some x.v) None xs (λ x h. grind (arith, nat_tests, c, h)))))
    ∙ (λ i. λ u l. if u == t then None else sym e i u l)

pub woken : (xs : List Asleep) (t : ℕ) (old : ℕ → ℕ → Bool) → old ≡ (λ t k. found (λ (x : Asleep). (t == x.t) && (k == x.k)) (λ x. true) false xs)
    → ◌≡◌ {A = ℕ → ℕ → Bool} (λ (u k : ℕ). found (λ (x : Asleep). (u == x.t) && (k == x.k)) (λ x. true) false (filter (is_sleep_of_other t) xs)) (λ u l. if u == t then false else old u l)
woken xs t old e =
    fun_ext (λ u. fun_ext (λ k. chosen_both (u == t) false _ (found (λ (x : Asleep). (u == x.t) && (k == x.k)) (λ x. true) false xs)
    (λ c. found-dropped (λ (x : Asleep). (u == x.t) && (k == x.k)) (is_sleep_of_other t) (λ x. true) false xs (λ x h. grind (arith, nat_tests, c, h)))
    (λ c. found-kept (λ (x : Asleep). (u == x.t) && (k == x.k)) (is_sleep_of_other t) (λ x. true) false xs (λ x h. grind (arith, nat_tests, c, h)))))
    ∙ (λ i. λ u l. if u == t then false else sym e i u l)

same_stays : (l : ℕ) (taken given : List WaitEntry) (t k : ℕ) (x : Asleep) → (t == x.t) && (k == x.k) ≡ true → stays_asleep l taken given x ≡ not ((k == l) && is_gone taken given t)
same_stays l taken given t k x h =
    let p : x.t ≡ t = grind (arith, nat_tests, h) in let q : x.k ≡ k = grind (arith, nat_tests, h) in
    ap (λ n. not ((n == l) && is_gone taken given x.t)) q ∙ ap (λ n. not ((k == l) && is_gone taken given n)) p

stayed : (xs : List Asleep) (l : ℕ) (taken given : List WaitEntry) (t k : ℕ) (g : Bool) → not ((k == l) && is_gone taken given t) ≡ g
    → found (λ (x : Asleep). (t == x.t) && (k == x.k)) (λ x. true) false (filter (stays_asleep l taken given) xs) ≡ g && found (λ (x : Asleep). (t == x.t) && (k == x.k)) (λ x. true) false xs
stayed xs l taken given t k false e = found-dropped (λ (x : Asleep). (t == x.t) && (k == x.k)) (stays_asleep l taken given) (λ x. true) false xs (λ x h. same_stays l taken given t k x h ∙ e)
stayed xs l taken given t k true e = found-kept (λ (x : Asleep). (t == x.t) && (k == x.k)) (stays_asleep l taken given) (λ x. true) false xs (λ x h. missed x ((t == x.t) && (k == x.k)) refl h)
  where
    missed : (x : Asleep) (b : Bool) → (t == x.t) && (k == x.k) ≡ b → stays_asleep l taken given x ≡ false → b ≡ false
    missed x false p h = refl
    missed x true p h = sym (same_stays l taken given t k x p ∙ e) ∙ h

append-nil : {A : Type 0} (xs : List A) → xs ++ [] ≡ xs
append-nil [] = refl
append-nil (x ∷ xs) = ap (λ ys. x ∷ ys) (append-nil xs)

pub slept_on : (xs : List Asleep) (l : ℕ) (taken given : List WaitEntry) (sleeper : Option ℕ) (old : ℕ → ℕ → Bool)
    → old ≡ (λ t k. found (λ (x : Asleep). (t == x.t) && (k == x.k)) (λ x. true) false xs)
    → (λ (t k : ℕ). found (λ (x : Asleep). (t == x.t) && (k == x.k)) (λ x. true) false (filter (stays_asleep l taken given) xs ++ newly_asleep l sleeper)) ≡ given_asleep l taken given sleeper old
slept_on xs l taken given None old e =
    fun_ext (λ t. fun_ext (λ k.
    ap (λ ys. found (λ (x : Asleep). (t == x.t) && (k == x.k)) (λ x. true) false ys) (append-nil (filter (stays_asleep l taken given) xs))
    ∙ stayed xs l taken given t k (not ((k == l) && is_gone taken given t)) refl))
    ∙ (λ i. given_asleep l taken given None (sym e i))
slept_on xs l taken given (Some u) old e =
    fun_ext (λ t. fun_ext (λ k.
    found-append (λ (x : Asleep). (t == x.t) && (k == x.k)) (λ x. true) false (filter (stays_asleep l taken given) xs) (record { t = u; k = l })
    ∙ ap (λ (b : Bool). if (t == u) && (k == l) then true else b) (stayed xs l taken given t k (not ((k == l) && is_gone taken given t)) refl)
    ∙ or_if ((t == u) && (k == l)) _))
    ∙ (λ i. given_asleep l taken given (Some u) (sym e i))

-- reads
pub read_so : (xs : List TaskReads) (reads : TaskReads) (old : ℕ → TaskReads) → old ≡ (λ t. found (λ (x : TaskReads). t == x.t) (λ x. x) (no_reads t) xs)
    → (λ (t : ℕ). found (λ (x : TaskReads). t == x.t) (λ x. x) (no_reads t) (filter (is_reads_of_other reads.t) xs ++ reads ∷ [])) ≡ put old reads.t reads
read_so xs reads old e =
    fun_ext (λ t.
    found-append (λ (x : TaskReads). t == x.t) (λ x. x) (no_reads t) (filter (is_reads_of_other reads.t) xs) reads
    ∙ chosen_if (t == reads.t) reads _ _ (λ c. found-kept (λ (x : TaskReads). t == x.t) (is_reads_of_other reads.t) (λ x. x) (no_reads t) xs (λ x h. grind (arith, nat_tests, c, h))))
    ∙ (λ i. put (sym e i) reads.t reads)
