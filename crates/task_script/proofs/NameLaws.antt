-- The number of a name, after one more name.
use Rattle.std.proofs.Common.{◌≡◌, ℕ, suc, ◌+◌, Bool, true, false, cond, List, [], ◌∷◌, ◌++◌, length, refl, sym, ap, subst, ◌∙◌, add-zero, zero-add, arith}
use Rattle.std.specs.Prelude.{Option, Some, None, Result, Ok, Err, OnOk, is_err, is_some, ◌||◌}
use Rattle.std.specs.List.{position_from, list_any}
use Rattle.std.specs.Str.{bytes_eq}
use Rattle.std.specs.Ordering.{nat_cmp}
use Rattle.std.specs.Cmp.Lexicographic.{slice_cmp}
use Rattle.std.specs.BTreeMap as tree
use Rattle.std.specs.Borrow.{Bor}
use Rattle.std.proofs.lemmas.Iterator.Adapters.{position_from-zero}
use Rattle.std.proofs.lemmas.Slice.Eq.{bytes_eq-Decides}
use Rattle.std.proofs.lemmas.List.{length-map, map-append}
use Rattle.std.proofs.lemmas.Map.Text.{btree_map_updates_str}
use Rattle.task_script.specs.Script.{number_of}
use Rattle.task_script.specs.Names.{texts, AreNumbered}

-- ---- the first place at which a test passes, in a list with one more element

none_step : {X : Type 0} (p : X → Bool) (i : ℕ) (xs : List X) (x : X) (b : Bool)
    → (position_from p (i + 1) xs ≡ None → position_from p (i + 1) (xs ++ x ∷ []) ≡ cond (p x) (Some (i + 1 + length xs)) None)
    → cond b (Some i) (position_from p (i + 1) xs) ≡ None
    → cond b (Some i) (position_from p (i + 1) (xs ++ x ∷ [])) ≡ cond (p x) (Some (i + suc (length xs))) None
none_step p i xs x true more e = cc
none_step p i xs x false more e =
    let far : i + 1 + length xs ≡ i + suc (length xs) = omega arith in
    rw (more e, far) refl

last_none : {X : Type 0} (p : X → Bool) (i : ℕ) (xs : List X) (x : X) → position_from p i xs ≡ None → position_from p i (xs ++ x ∷ []) ≡ cond (p x) (Some (i + length xs)) None
last_none p i [] x e = rw add-zero refl
last_none p i (y ∷ xs) x e = none_step p i xs x (p y) (last_none p (i + 1) xs x) e

some_step : {X : Type 0} (p : X → Bool) (i k : ℕ) (xs : List X) (x : X) (b : Bool)
    → (position_from p (i + 1) xs ≡ Some k → position_from p (i + 1) (xs ++ x ∷ []) ≡ Some k)
    → cond b (Some i) (position_from p (i + 1) xs) ≡ Some k
    → cond b (Some i) (position_from p (i + 1) (xs ++ x ∷ [])) ≡ Some k
some_step p i k xs x true more e = e
some_step p i k xs x false more e = more e

pub last_some : {X : Type 0} (p : X → Bool) (i k : ℕ) (xs : List X) (x : X) → position_from p i xs ≡ Some k → position_from p i (xs ++ x ∷ []) ≡ Some k
last_some p i k [] x e = cc
last_some p i k (y ∷ xs) x e = some_step p i k xs x (p y) (last_some p (i + 1) k xs x) e

-- ---- names

pub by_position : (names : List (List ℕ)) (name : List ℕ) → number_of names name ≡ position_from (λ other. bytes_eq other name) 0 names
by_position names name = position_from-zero (λ other. bytes_eq other name) names

-- a name that isn't there, added behind the others
number-append : (names : List (List ℕ)) (new name : List ℕ) (same : Bool) → bytes_eq new name ≡ same → (found : Option ℕ) → number_of names name ≡ found
    → (same ≡ true → found ≡ None) → number_of (names ++ new ∷ []) name ≡ cond same (Some (length names)) found
number-append names new name same is None e fresh =
    by_position (names ++ new ∷ []) name
    ∙ last_none (λ other. bytes_eq other name) 0 names new (sym (by_position names name) ∙ e)
    ∙ rw (is, zero-add (length names)) refl
number-append names new name true is (Some k) e fresh = let none : Some k ≡ None = fresh refl in cc
number-append names new name false is (Some k) e fresh =
    by_position (names ++ new ∷ []) name ∙ last_some (λ other. bytes_eq other name) 0 k names new (sym (by_position names name) ∙ e)

same_name : (names : List (List ℕ)) (new name : List ℕ) (same : Bool) → bytes_eq new name ≡ same → number_of names new ≡ None → same ≡ true → number_of names name ≡ None
same_name names new name true is fresh e = subst (λ (n : List ℕ). number_of names n ≡ None) ((bytes_eq-Decides new name).0 is) fresh
same_name names new name false is fresh e = cc

other_name : (names : List (List ℕ)) (new name : List ℕ) (k : ℕ) (same : Bool) → bytes_eq new name ≡ same → number_of names new ≡ Some k → number_of names name ≡ None → bytes_eq new name ≡ false
other_name names new name k false is there e = is
other_name names new name k true is there e =
    let both : number_of names name ≡ Some k = subst (λ (n : List ℕ). number_of names n ≡ Some k) ((bytes_eq-Decides new name).0 is) there in cc

found_step : {X : Type 0} (p : X → Bool) (i : ℕ) (xs : List X) (b : Bool) → is_some (position_from p (i + 1) xs) ≡ list_any p xs → is_some (cond b (Some i) (position_from p (i + 1) xs)) ≡ b
    || list_any p xs
found_step p i xs true more = refl
found_step p i xs false more = more

found : {X : Type 0} (p : X → Bool) (i : ℕ) (xs : List X) → is_some (position_from p i xs) ≡ list_any p xs
found p i [] = refl
found p i (x ∷ xs) = found_step p i xs (p x) (found p (i + 1) xs)

-- a name has a number where it is among the names
pub number-found : (names : List (List ℕ)) (name : List ℕ) → is_some (number_of names name) ≡ list_any (λ other. bytes_eq other name) names
number-found names name = ap (λ (o : Option ℕ). is_some o) (by_position names name) ∙ found (λ other. bytes_eq other name) 0 names

-- a name that is there, added once more
pub number-again : (names : List (List ℕ)) (new name : List ℕ) (k : ℕ) (found : Option ℕ) → number_of names new ≡ Some k → number_of names name ≡ found
    → number_of (names ++ new ∷ []) name ≡ found
number-again names new name k (Some j) there e =
    by_position (names ++ new ∷ []) name ∙ last_some (λ other. bytes_eq other name) 0 j names new (sym (by_position names name) ∙ e)
number-again names new name k None there e =
    by_position (names ++ new ∷ []) name
    ∙ last_none (λ other. bytes_eq other name) 0 names new (sym (by_position names name) ∙ e)
    ∙ rw (other_name names new name k (bytes_eq new name) refl there e) refl

on_ok : {T E P : Type 0} (r : Result T E) → is_err r ≡ false → OnOk r P → P
on_ok (Ok x) e p = p
on_ok (Err x) e p = cc

pub not_some : (o : Option ℕ) → is_some o ≡ false → o ≡ None
not_some None e = refl
not_some (Some x) e = cc

-- the map with the number of one more name
pub numbered-more : {T E : Type 0} (list : List (Bor (List ℕ))) (m n : tree.BTreeMap (Bor (List ℕ)) ℕ) (new : Bor (List ℕ)) (number : ℕ) (r : Result T E) → AreNumbered list m
    → number_of (texts list) new.now ≡ None → number ≡ length list → is_err r ≡ false
    → OnOk r (tree.UpdatesBy (λ x y. slice_cmp nat_cmp x.now y.now) (λ k. slice_cmp nat_cmp new.now k.now) m n (Some number)) → AreNumbered (list ++ new ∷ []) n
numbered-more list m n new number r are fresh is_number ok updates = λ name.
    let count : length (texts list) ≡ length list = length-map list (λ (r : Bor (List ℕ)). r.now) in
    let whole : texts (list ++ new ∷ []) ≡ texts list ++ new.now ∷ [] = map-append (λ (r : Bor (List ℕ)). r.now) list (new ∷ []) in
    let added = number-append (texts list) new.now name (bytes_eq new.now name) refl (number_of (texts list) name) refl (same_name (texts list) new.now name (bytes_eq new.now name) refl fresh) in
    btree_map_updates_str new.now m n (Some number) (on_ok r ok updates) name
    ∙ ap (λ (o : Option ℕ). cond (bytes_eq new.now name) (Some number) o) (are name)
    ∙ ap (λ (k : ℕ). cond (bytes_eq new.now name) (Some k) (number_of (texts list) name)) (is_number ∙ sym count)
    ∙ sym added
    ∙ ap (λ (l : List (List ℕ)). number_of l name) (sym whole)

-- the map where the name is there already
pub numbered-again : (list : List (Bor (List ℕ))) (m : tree.BTreeMap (Bor (List ℕ)) ℕ) (new : Bor (List ℕ)) (k : Option ℕ) → AreNumbered list m
    → number_of (texts list) new.now ≡ k → is_some k ≡ true → AreNumbered (list ++ new ∷ []) m
numbered-again list m new None are there is = cc
numbered-again list m new (Some k) are there is = λ name.
    let whole : texts (list ++ new ∷ []) ≡ texts list ++ new.now ∷ [] = map-append (λ (r : Bor (List ℕ)). r.now) list (new ∷ []) in
    are name ∙ sym (number-again (texts list) new.now name k (number_of (texts list) name) there refl) ∙ ap (λ (l : List (List ℕ)). number_of l name) (sym whole)
