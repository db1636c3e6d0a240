-- Names and the numbers of their places, where no name stands twice.
use Rattle.std.proofs.Common.{◌≡◌, ◌≢◌, ℕ, zero, suc, ◌+◌, ◌<◌, ◌≤◌, Bool, true, false, cond, List, [], ◌∷◌, ◌++◌, length, map, get_or, Some, None, refl, sym, ap, ◌∙◌}
use Rattle.std.proofs.Common.{All, AllPairs, arith, nat_lt}
use Rattle.std.specs.List.{position_from, list_any}
use Rattle.std.specs.Str.{bytes_eq}
use Rattle.std.proofs.lemmas.Bool.{false_from_ne_true, or_from}
use Rattle.std.proofs.lemmas.Bool.Decides.{nat_tests}
use Rattle.std.proofs.lemmas.Iterator.Adapters.{position_from-zero}
use Rattle.std.proofs.lemmas.List.{get_or_append_left, get_or-append-add, get_or_default, length-append}
use Rattle.std.proofs.lemmas.List.Elements.{All-head, All-tail, All-cons}
use Rattle.std.proofs.lemmas.Slice.Eq.{bytes_eq-Decides}
use Rattle.task_script.specs.Script.{number_of, reads_again}

-- ---- lists in which nothing stands twice

abbrev pub Apart : {X : Type 0} → List X → Type 0
Apart xs = AllPairs (λ x y. x ≢ y) xs

module _ {X : Type 0} where
  pub apart_tail : (x : X) (xs : List X) → Apart (x ∷ xs) → Apart xs
  apart_tail x xs h i j d lt within = h (suc i) (suc j) d (omega arith) (omega arith)

  pub apart_front : (xs ys : List X) → Apart (xs ++ ys) → Apart xs
  apart_front xs ys h i j d lt within e =
      let low : i < length xs = omega arith in
      h i j d lt (omega (arith, length-append xs ys)) (get_or_append_left xs ys d i low ∙ e ∙ sym (get_or_append_left xs ys d j within))

  -- none of the front is one that stands behind it
  pub apart_seam : (xs ys : List X) → Apart (xs ++ ys) → (j : ℕ) (d : X) → j < length ys → All (λ x. x ≢ get_or ys j d) xs
  apart_seam xs ys h j d below i c lt e =
      h i (length xs + j) d (omega arith) (omega (arith, length-append xs ys))
      (get_or_append_left xs ys d i lt ∙ get_or_default xs i d c lt ∙ e ∙ sym (get_or-append-add xs ys j d))

  pub apart_back : (xs ys : List X) → Apart (xs ++ ys) → Apart ys
  apart_back [] ys h = h
  apart_back (x ∷ xs) ys h = apart_back xs ys (apart_tail x (xs ++ ys) h)

-- ---- a name's number

same_bytes : (name : List ℕ) → bytes_eq name name ≡ true
same_bytes name = (bytes_eq-Decides name name).1 refl

other_bytes : (name other : List ℕ) → name ≢ other → bytes_eq name other ≡ false
other_bytes name other ne = false_from_ne_true _ (λ e. ne ((bytes_eq-Decides name other).0 e))

by_position : (names : List (List ℕ)) (name : List ℕ) → number_of names name ≡ position_from (λ other. bytes_eq other name) 0 names
by_position names name = position_from-zero (λ other. bytes_eq other name) names

position_at : (i k : ℕ) (names : List (List ℕ)) → k < length names → Apart names → position_from (λ other. bytes_eq other (get_or names k [])) i names ≡ Some (i + k)
position_at i k [] lt apart = absurd (omega arith)
position_at i zero (name ∷ names) lt apart =
    let here : i ≡ i + 0 = omega arith in
    ap (λ (b : Bool). cond b (Some i) (position_from (λ other. bytes_eq other name) (i + 1) names)) (same_bytes name) ∙ ap (λ (n : ℕ). Some n) here
position_at i (suc k) (name ∷ names) lt apart =
    let ne : name ≢ get_or names k [] = apart 0 (suc k) [] (omega arith) (omega arith) in
    let there : i + 1 + k ≡ i + suc k = omega arith in
    ap (λ (b : Bool). cond b (Some i) (position_from (λ other. bytes_eq other (get_or names k [])) (i + 1) names)) (other_bytes name (get_or names k []) ne)
    ∙ position_at (i + 1) k names (omega arith) (apart_tail name names apart) ∙ ap (λ (n : ℕ). Some n) there

-- a name that stands among these has the number of its place
pub number_at : (front back : List (List ℕ)) (k : ℕ) → k < length front → Apart (front ++ back) → number_of front (get_or (front ++ back) k []) ≡ Some k
number_at front back k lt apart =
    let none : 0 + k ≡ k = omega arith in
    ap (number_of front) (get_or_append_left front back [] k lt) ∙ by_position front (get_or front k [])
    ∙ position_at 0 k front lt (apart_front front back apart) ∙ ap (λ (n : ℕ). Some n) none

position_none : (i : ℕ) (name : List ℕ) (names : List (List ℕ)) → All (λ other. other ≢ name) names → position_from (λ other. bytes_eq other name) i names ≡ None
position_none i name [] h = refl
position_none i name (other ∷ names) h =
    ap (λ (b : Bool). cond b (Some i) (position_from (λ o. bytes_eq o name) (i + 1) names)) (other_bytes other name (All-head (λ o. o ≢ name) other names h))
    ∙ position_none (i + 1) name names (All-tail (λ o. o ≢ name) other names h)

-- a later name has no number yet
pub number_none : (front : List (List ℕ)) (name : List ℕ) (back : List (List ℕ)) → Apart (front ++ name ∷ back) → number_of front name ≡ None
number_none front name back apart = by_position front name ∙ position_none 0 name front (apart_seam front (name ∷ back) apart 0 [] (omega arith))

-- ---- names that are read

differ_by : (names : List (List ℕ)) (e k : ℕ) (b : Bool) → nat_lt e k ≡ b → Apart names → e < length names → k < length names → e ≢ k → get_or names e [] ≢ get_or names k []
differ_by names e k true test apart le lk ne same =
    let below : e < k = grind (arith, nat_tests) in apart e k [] below lk same
differ_by names e k false test apart le lk ne same =
    let above : k ≤ e = grind (arith, nat_tests) in apart k e [] (omega (arith, ne)) le (sym same)

differ : (names : List (List ℕ)) (e k : ℕ) → Apart names → e < length names → k < length names → e ≢ k → get_or names e [] ≢ get_or names k []
differ names e k apart = differ_by names e k (nat_lt e k) refl apart

module _ (names : List (List ℕ)) (apart : Apart names) where
  abbrev at : ℕ → List ℕ
  at k = get_or names k []

  -- the name of another task is another name
  none_named : (k : ℕ) (ks : List ℕ) → k < length names → All (λ e. e < length names) ks → All (λ e. e ≢ k) ks → list_any (λ other. bytes_eq other (at k)) (map at ks) ≡ false
  none_named k [] lt below ne = refl
  none_named k (e ∷ ks) lt below ne =
      or_from (bytes_eq (at e) (at k)) (list_any (λ other. bytes_eq other (at k)) (map at ks))
      (other_bytes (at e) (at k) (differ names e k apart (All-head (λ n. n < length names) e ks below) lt (All-head (λ n. n ≢ k) e ks ne)))
      (none_named k ks lt (All-tail (λ n. n < length names) e ks below) (All-tail (λ n. n ≢ k) e ks ne))

  pub none_again : (earlier ks : List ℕ) → All (λ e. e < length names) earlier → All (λ e. e < length names) ks
      → ((j d : ℕ) → j < length ks → All (λ e. e ≢ get_or ks j d) earlier) → Apart ks → reads_again (map at earlier) (map at ks) ≡ false
  none_again earlier [] low below new once = refl
  none_again earlier (k ∷ ks) low below new once =
      let lt = All-head (λ n. n < length names) k ks below in
      or_from (list_any (λ other. bytes_eq other (at k)) (map at earlier)) (reads_again (map at (k ∷ earlier)) (map at ks))
      (none_named k earlier lt low (new 0 0 (omega arith)))
      (none_again (k ∷ earlier) ks (All-cons (λ n. n < length names) k earlier lt low) (All-tail (λ n. n < length names) k ks below)
      (λ j d less. All-cons (λ e. e ≢ get_or ks j d) k earlier (once 0 (suc j) d (omega arith) (omega arith)) (new (suc j) d (omega arith))) (apart_tail k ks once))
