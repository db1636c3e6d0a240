-- Things that are dealt, and taken back.
use Rattle.std.proofs.Common.{zero, suc, refl, ◌≡◌, ◌<◌, ◌≤◌, ◌∙◌, ◌%◌, ◌+◌, ℕ, ◌++◌, ◌∷◌, [], List, map, length, get_or, set, replicate, sym, subst, ap, All, arith}
use Rattle.std.proofs.lemmas.List.{length-set, length-replicate, length-append, length_push, length-map, map-set, map_push, get_or-map}
use Rattle.std.proofs.lemmas.List.{set-set, set-get_or, get_or-set_same, append_assoc, nil_from_length, append-nil}
use Rattle.std.proofs.lemmas.List.Elements.{All-set, All-weaker, All-push, All-replicate, All-nil, All-cons, All-get_or, All-head, All-tail, All-contains}
use Rattle.std.specs.List.{Contains}
use Rattle.run_script.specs.Dealt.{with_last, dealt}

-- ---- one row

module _ {A : Type 0} where
  pub length-with_last : (rows : List (List A)) (i : ℕ) (x : A) → length (with_last rows i x) ≡ length rows
  length-with_last rows i x = length-set rows i (get_or rows i [] ++ x ∷ [])

  pub row-with_last : (rows : List (List A)) (i : ℕ) (x : A) → i < length rows
      → get_or (with_last rows i x) i [] ≡ get_or rows i [] ++ x ∷ []
  row-with_last rows i x within = get_or-set_same rows i (get_or rows i [] ++ x ∷ []) [] within

  -- without the last one, the rows are as they were
  pub without_last : (rows : List (List A)) (i : ℕ) (x : A) → set (with_last rows i x) i (get_or rows i []) ≡ rows
  without_last rows i x = set-set rows i (get_or rows i [] ++ x ∷ []) (get_or rows i []) ∙ set-get_or rows i []

  pub All-with_last : (P : A → Type 0) (rows : List (List A)) (i : ℕ) (x : A) → i < length rows → P x → All (All P) rows → All (All P) (with_last rows i x)
  All-with_last P rows i x within one all =
      All-set (All P) rows i (get_or rows i [] ++ x ∷ []) (All-push P (get_or rows i []) x (All-get_or (All P) rows i [] within all) one) all

  -- .. and back
  pub one_of : (P : A → Type 0) (rows : List (List A)) (i : ℕ) (x : A) → i < length rows → All (All P) (with_last rows i x) → P x
  one_of P rows i x within all =
      All-contains P (get_or rows i [] ++ x ∷ []) x
      (subst (All P) (row-with_last rows i x within)
      (All-get_or (All P) (with_last rows i x) i [] (subst (λ (n : ℕ). i < n) (sym (length-with_last rows i x)) within) all))
      (has_last (get_or rows i []) x)
    where
      has_last : (xs : List A) (y : A) → Contains (xs ++ y ∷ []) y
      has_last [] y = (0, omega arith, refl)
      has_last (z ∷ xs) y = let rest = has_last xs y in (suc rest.0, (let low = rest.1 in omega arith), rest.2)

  front_of : (P : A → Type 0) (xs : List A) (x : A) → All P (xs ++ x ∷ []) → All P xs
  front_of P [] x all = All-nil P
  front_of P (y ∷ xs) x all = All-cons P y xs (All-head P y (xs ++ x ∷ []) all) (front_of P xs x (All-tail P y (xs ++ x ∷ []) all))

  pub others_of : (P : A → Type 0) (rows : List (List A)) (i : ℕ) (x : A) → i < length rows → All (All P) (with_last rows i x) → All (All P) rows
  others_of P rows i x within all =
      subst (All (All P)) (without_last rows i x)
      (All-set (All P) (with_last rows i x) i (get_or rows i [])
      (front_of P (get_or rows i []) x
      (subst (All P) (row-with_last rows i x within)
      (All-get_or (All P) (with_last rows i x) i [] (subst (λ (n : ℕ). i < n) (sym (length-with_last rows i x)) within) all)))
      all)

-- ---- all rows

module _ {A : Type 0} (count : ℕ) where
  pub length-dealt : (s : ℕ) (xs : List A) → length (dealt count s xs) ≡ count
  unfolding dealt
  length-dealt s [] = length-replicate count []
  length-dealt s (x ∷ xs) = length-with_last (dealt count (suc s) xs) (s % count) x ∙ length-dealt (suc s) xs

  within_rows : (some : 0 < count) (s : ℕ) (xs : List A) → s % count < length (dealt count (suc s) xs)
  within_rows some s xs = subst (λ (n : ℕ). s % count < n) (sym (length-dealt (suc s) xs)) (omega (arith, some))

  pub dealt_none : (s : ℕ) → dealt {A = A} count s [] ≡ replicate count []
  unfolding dealt
  dealt_none s = refl

  pub dealt_more : (s : ℕ) (x : A) (xs : List A) → dealt count s (x ∷ xs) ≡ with_last (dealt count (suc s) xs) (s % count) x
  unfolding dealt
  dealt_more s x xs = refl

  -- what holds of each holds of each in the rows
  pub All-dealt : (P : A → Type 0) → 0 < count → (s : ℕ) (xs : List A) → All P xs → All (All P) (dealt count s xs)
  unfolding dealt
  All-dealt P some s [] all = All-replicate (All P) count [] (All-nil P)
  All-dealt P some s (x ∷ xs) all =
      All-with_last P (dealt count (suc s) xs) (s % count) x (within_rows some s xs) (All-head P x xs all)
      (All-dealt P some (suc s) xs (All-tail P x xs all))

  -- .. and back
  pub all_from_dealt : (P : A → Type 0) → 0 < count → (s : ℕ) (xs : List A) → All (All P) (dealt count s xs) → All P xs
  unfolding dealt
  all_from_dealt P some s [] all = All-nil P
  all_from_dealt P some s (x ∷ xs) all =
      All-cons P x xs (one_of P (dealt count (suc s) xs) (s % count) x (within_rows some s xs) all)
      (all_from_dealt P some (suc s) xs (others_of P (dealt count (suc s) xs) (s % count) x (within_rows some s xs) all))

  -- no row is longer than the list
  pub few_dealt : 0 < count → (s : ℕ) (xs : List A) → All (λ row. length row ≤ length xs) (dealt count s xs)
  unfolding dealt
  few_dealt some s [] = All-replicate (λ (row : List A). length row ≤ 0) count [] (omega arith)
  few_dealt some s (x ∷ xs) =
      let few : All (λ row. length row ≤ suc (length xs)) (dealt count (suc s) xs) =
      All-weaker (λ (row : List A). length row ≤ length xs) (λ (row : List A). length row ≤ suc (length xs)) (λ row low. omega (arith, low))
      (dealt count (suc s) xs) (few_dealt some (suc s) xs) in
      All-set (λ (row : List A). length row ≤ suc (length xs)) (dealt count (suc s) xs) (s % count)
      (get_or (dealt count (suc s) xs) (s % count) [] ++ x ∷ [])
      (let is : length (get_or (dealt count (suc s) xs) (s % count) [] ++ x ∷ []) ≡ length (get_or (dealt count (suc s) xs) (s % count) []) + 1 =
      length_push (get_or (dealt count (suc s) xs) (s % count) []) x in
      let low : length (get_or (dealt count (suc s) xs) (s % count) []) ≤ length xs =
      All-get_or (λ (row : List A). length row ≤ length xs) (dealt count (suc s) xs) (s % count) [] (within_rows some s xs) (few_dealt some (suc s) xs) in
      omega (arith, is, low))
      few

-- ---- a function of each

module _ {A B : Type 0} (f : A → B) where
  map_rows : List (List A) → List (List B)
  map_rows = map (map f)

  get_mapped : (rows : List (List A)) (i : ℕ) → i < length rows → get_or (map (map f) rows) i [] ≡ map f (get_or rows i [])
  get_mapped rows i within = get_or-map (map f) rows i [] [] within

  map_with_last : (rows : List (List A)) (i : ℕ) (x : A) → i < length rows
      → map (map f) (with_last rows i x) ≡ with_last (map (map f) rows) i (f x)
  map_with_last rows i x within =
      map-set (map f) rows i (get_or rows i [] ++ x ∷ [])
      ∙ ap (set (map (map f) rows) i) (map_push f (get_or rows i []) x ∙ ap (λ (r : List B). r ++ f x ∷ []) (sym (get_mapped rows i within)))

  map_replicate : (n : ℕ) → map (map f) (replicate n []) ≡ replicate n []
  map_replicate zero = refl
  map_replicate (suc n) = ap (λ (r : List (List B)). [] ∷ r) (map_replicate n)

  pub map_dealt : (count : ℕ) → 0 < count → (s : ℕ) (xs : List A) → map (map f) (dealt count s xs) ≡ dealt count s (map f xs)
  unfolding dealt
  map_dealt count some s [] = map_replicate count
  map_dealt count some s (x ∷ xs) =
      map_with_last (dealt count (suc s) xs) (s % count) x (within_rows count some s xs)
      ∙ ap (λ (r : List (List B)). with_last r (s % count) (f x)) (map_dealt count some (suc s) xs)

  -- a list that becomes one with a last element has one itself
  record IsPushed (xs : List A) (ys : List B) (y : B) : Type 0 where
    front : List A
    last : A
    is : xs ≡ front ++ last ∷ []
    front_is : map f front ≡ ys
    last_is : f last ≡ y

  pushed : (xs : List A) (ys : List B) (y : B) → map f xs ≡ ys ++ y ∷ [] → IsPushed xs ys y
  pushed [] [] y is = absurd (cc)
  pushed [] (z ∷ ys) y is = absurd (cc)
  pushed (x ∷ []) [] y is = record { front = []; last = x; is = refl; front_is = refl; last_is = cc }
  pushed (x ∷ []) (z ∷ []) y is = absurd (cc)
  pushed (x ∷ []) (z ∷ (w ∷ ys)) y is = absurd (cc)
  pushed (x ∷ (w ∷ xs)) [] y is = absurd (cc)
  pushed (x ∷ (w ∷ xs)) (z ∷ ys) y is =
      let tail : map f (w ∷ xs) ≡ ys ++ y ∷ [] = cc in
      let head : f x ≡ z = cc in
      let rest : IsPushed (w ∷ xs) ys y = pushed (w ∷ xs) ys y tail in
      record {
        front = x ∷ rest.front;
        last = rest.last;
        is = ap (λ (r : List A). x ∷ r) rest.is;
        front_is = (λ i. head i ∷ rest.front_is i);
        last_is = rest.last_is;
      }

  none_mapped : (xs : List A) → map f xs ≡ [] → xs ≡ []
  none_mapped [] is = refl
  none_mapped (x ∷ xs) is = absurd (cc)

  none_rows : (rows : List (List A)) (n : ℕ) → map (map f) rows ≡ replicate n [] → rows ≡ replicate n []
  none_rows [] zero is = refl
  none_rows [] (suc n) is = absurd (cc)
  none_rows (r ∷ rows) zero is = absurd (cc)
  none_rows (r ∷ rows) (suc n) is =
      let head : map f r ≡ [] = cc in
      let tail : map (map f) rows ≡ replicate n [] = cc in
      λ i. none_mapped r head i ∷ none_rows rows n tail i

  -- rows that become dealt ones are dealt themselves
  pub record AreDealt (count s : ℕ) (rows : List (List A)) (ys : List B) : Type 0 where
    pub list : List A
    pub rows_are : rows ≡ dealt count s list
    pub list_is : map f list ≡ ys

  -- one more
  dealt_again : (count : ℕ) → 0 < count → (s : ℕ) (rows : List (List A)) (y : B) (ys : List B) → s % count < length rows
      → (one : IsPushed (get_or rows (s % count) []) (get_or (dealt count (suc s) ys) (s % count) []) y)
      → AreDealt count (suc s) (set rows (s % count) one.front) ys → AreDealt count s rows (y ∷ ys)
  unfolding dealt
  dealt_again count some s rows y ys within one rest = record {
    list = one.last ∷ rest.list;
    rows_are = sym (ap (λ (r : List (List A)). with_last r i one.last) (sym rest.rows_are)
        ∙ ap (λ (r : List A). set (set rows i one.front) i (r ++ one.last ∷ [])) (get_or-set_same rows i one.front [] within)
        ∙ set-set rows i one.front (one.front ++ one.last ∷ [])
        ∙ ap (set rows i) (sym one.is) ∙ set-get_or rows i []);
    list_is = (λ j. one.last_is j ∷ rest.list_is j);
  }
    where
      i : ℕ
      i = s % count

  fronts_are : (rows : List (List A)) (before : List (List B)) (i : ℕ) (y : B) (front : List A) → map (map f) rows ≡ with_last before i y
      → map f front ≡ get_or before i [] → map (map f) (set rows i front) ≡ before
  fronts_are rows before i y front is front_is =
      map-set (map f) rows i front ∙ (λ j. set (is j) i (front_is j)) ∙ without_last before i y

  rows_as_many : (rows : List (List A)) (before : List (List B)) (i : ℕ) (y : B) → map (map f) rows ≡ with_last before i y
      → length rows ≡ length before
  rows_as_many rows before i y is = sym (length-map rows (map f)) ∙ ap length is ∙ length-with_last before i y

  row_of : (rows : List (List A)) (before : List (List B)) (i : ℕ) (y : B) → map (map f) rows ≡ with_last before i y → i < length before
      → map f (get_or rows i []) ≡ get_or before i [] ++ y ∷ []
  row_of rows before i y is low =
      sym (get_mapped rows i (subst (λ (n : ℕ). i < n) (sym (rows_as_many rows before i y is)) low))
      ∙ ap (λ (r : List (List B)). get_or r i []) is ∙ row-with_last before i y low

  pub are_dealt : (count : ℕ) → 0 < count → (s : ℕ) (rows : List (List A)) (ys : List B) → map (map f) rows ≡ dealt count s ys
      → AreDealt count s rows ys
  unfolding dealt
  are_dealt count some s rows [] is = record { list = []; rows_are = none_rows rows count is; list_is = refl }
  are_dealt count some s rows (y ∷ ys) is =
      let before : List (List B) = dealt count (suc s) ys in
      let low : s % count < length before = within_rows count some s ys in
      let one : IsPushed (get_or rows (s % count) []) (get_or before (s % count) []) y =
      pushed (get_or rows (s % count) []) (get_or before (s % count) []) y (row_of rows before (s % count) y is low) in
      dealt_again count some s rows y ys (subst (λ (n : ℕ). s % count < n) (sym (rows_as_many rows before (s % count) y is)) low) one
      (are_dealt count some (suc s) (set rows (s % count) one.front) ys (fronts_are rows before (s % count) y one.front is one.front_is))

-- ---- by steps

-- of these the first so many haven't been dealt, or are taken back, and the others stand in the rows
pub record IsPartOf {A : Type 0} (count : ℕ) (all first : List A) (rows : List (List A)) : Type 0 where
  pub rest : List A
  pub whole : first ++ rest ≡ all
  pub rows_are : rows ≡ dealt count (length first) rest

module _ {A : Type 0} (count : ℕ) where
  pub none_dealt : (all : List A) (rows : List (List A)) → rows ≡ replicate count [] → IsPartOf count all all rows
  unfolding dealt
  none_dealt all rows is = record { rest = []; whole = append-nil all; rows_are = is }

  pub one_dealt : (all first : List A) (x : A) (rows : List (List A)) → IsPartOf count all (first ++ x ∷ []) rows
      → IsPartOf count all first (with_last rows (length first % count) x)
  unfolding dealt
  one_dealt all first x rows part = record {
    rest = x ∷ part.rest;
    whole = sym (append_assoc first (x ∷ []) part.rest) ∙ part.whole;
    rows_are = ap (λ (r : List (List A)). with_last r (length first % count) x)
        (part.rows_are ∙ ap (λ (n : ℕ). dealt count n part.rest) (let is = length_push first x in omega (arith, is)));
  }

  pub all_dealt : (all : List A) (rows : List (List A)) → IsPartOf count all [] rows → rows ≡ dealt count 0 all
  all_dealt all rows part = part.rows_are ∙ ap (dealt count 0) part.whole

  pub none_back : (all : List A) (rows : List (List A)) → rows ≡ dealt count 0 all → IsPartOf count all [] rows
  none_back all rows is = record { rest = all; whole = refl; rows_are = is }

  pub all_back : (all first : List A) (rows : List (List A)) → length first ≡ length all → IsPartOf count all first rows → first ≡ all
  all_back all first rows same part =
      let none : part.rest ≡ [] = nil_from_length part.rest
      (let is = length-append first part.rest in let whole = ap length part.whole in omega (arith, is, whole, same)) in
      sym (append-nil first) ∙ ap (λ (r : List A). first ++ r) (sym none) ∙ part.whole

  -- the row from which the next one is taken, and that one
  pub record IsNext (all first : List A) (rows : List (List A)) : Type 0 where
    pub front : List A
    pub next : A
    pub row_is : get_or rows (length first % count) [] ≡ front ++ next ∷ []
    pub then : IsPartOf count all (first ++ next ∷ []) (set rows (length first % count) front)

  next_of : (some : 0 < count) (all first rest : List A) (rows : List (List A)) → length first < length all → first ++ rest ≡ all
      → rows ≡ dealt count (length first) rest → IsNext all first rows
  unfolding dealt
  next_of some all first [] rows more whole is =
      absurd (let a = length-append first [] in let b = ap length whole in omega (arith, a, b, more))
  next_of some all first (x ∷ rest) rows more whole is = record {
    front = get_or before i [];
    next = x;
    row_is = ap (λ (r : List (List A)). get_or r i []) is ∙ row-with_last before i x (within_rows count some (length first) rest);
    then = record {
      rest = rest;
      whole = append_assoc first (x ∷ []) rest ∙ whole;
      rows_are = ap (λ (r : List (List A)). set r i (get_or before i [])) is ∙ without_last before i x
          ∙ ap (λ (n : ℕ). dealt count n rest) (let is = length_push first x in omega (arith, is));
    };
  }
    where
      i : ℕ
      i = length first % count

      before : List (List A)
      before = dealt count (suc (length first)) rest

  pub next_back : (some : 0 < count) (all first : List A) (rows : List (List A)) → length first < length all → IsPartOf count all first rows
      → IsNext all first rows
  next_back some all first rows more part = next_of some all first part.rest rows more part.whole part.rows_are
