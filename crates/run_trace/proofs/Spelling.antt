-- One list that says what a gate with a list has told, and that grows as it is told more.
use Rattle.std.proofs.Common.{◌≡◌, ◌∙◌, ◌++◌, ◌+◌, ◌-◌, ◌∷◌, ℕ, List, [], length, take, drop, get_or, refl, sym, ap, subst, arith, length-append}
use Rattle.std.specs.Prelude.{Bool, true, false, Option, Some, None, is_some}
use Rattle.std.proofs.lemmas.List.{append-nil, append_assoc, take_all, take-append-le}
use Rattle.handoff_data.specs.declared.entry.Entry.{Entry}
use Rattle.run_cells.specs.Telling.{told_after, list_of}
use Rattle.run_trace.specs.Keeping.{Keeping, Follows, fresh, begun_of, mark, spelled_list, spelled_begun, spelled_told}

-- ---- the list grows at its end

list_more : (list xs ys : List Entry) → spelled_list list xs ++ ys ≡ spelled_list list (xs ++ ys)
list_more [] xs ys = refl
list_more (x ∷ list) xs ys = ap (λ (z : List Entry). mark true ∷ x ∷ z) (list_more list xs ys)

pub begun_more : (begun : Option (List Entry)) (xs ys : List Entry) → spelled_begun begun xs ++ ys ≡ spelled_begun begun (xs ++ ys)
begun_more None xs ys = refl
begun_more (Some list) xs ys = ap (λ (z : List Entry). mark true ∷ z) (list_more list xs ys)

-- ---- and it says what it is made of

marks_apart : (t u : Bool) → mark t ≡ mark u → t ≡ u
marks_apart true true is = refl
marks_apart true false is = absurd (cc)
marks_apart false true is = absurd (cc)
marks_apart false false is = refl

heads : (x y : Entry) (xs ys : List Entry) → x ∷ xs ≡ y ∷ ys → x ≡ y
heads x y xs ys is = ap (λ (z : List Entry). get_or z 0 x) is

tails : (x y : Entry) (xs ys : List Entry) → x ∷ xs ≡ y ∷ ys → xs ≡ ys
tails x y xs ys is = ap (λ (z : List Entry). drop 1 z) is

list_apart : (a b xs ys : List Entry) → spelled_list a xs ≡ spelled_list b ys → (a ≡ b) × (xs ≡ ys)
list_apart [] [] xs ys is = (refl, tails (mark false) (mark false) xs ys is)
list_apart [] (y ∷ b) xs ys is =
    let no : false ≡ true = marks_apart false true (heads (mark false) (mark true) xs (y ∷ spelled_list b ys) is) in absurd (cc)
list_apart (x ∷ a) [] xs ys is =
    let no : true ≡ false = marks_apart true false (heads (mark true) (mark false) (x ∷ spelled_list a xs) ys is) in absurd (cc)
list_apart (x ∷ a) (y ∷ b) xs ys is =
    let inner : x ∷ spelled_list a xs ≡ y ∷ spelled_list b ys =
    tails (mark true) (mark true) (x ∷ spelled_list a xs) (y ∷ spelled_list b ys) is in
    let same : x ≡ y = heads x y (spelled_list a xs) (spelled_list b ys) inner in
    let rest = list_apart a b xs ys (tails x y (spelled_list a xs) (spelled_list b ys) inner) in
    (λ j. same j ∷ rest.0 j, rest.1)

begun_apart : (a b : Option (List Entry)) (xs ys : List Entry) → spelled_begun a xs ≡ spelled_begun b ys → (a ≡ b) × (xs ≡ ys)
begun_apart None None xs ys is = (refl, tails (mark false) (mark false) xs ys is)
begun_apart None (Some b) xs ys is =
    let no : false ≡ true = marks_apart false true (heads (mark false) (mark true) xs (spelled_list b ys) is) in absurd (cc)
begun_apart (Some a) None xs ys is =
    let no : true ≡ false = marks_apart true false (heads (mark true) (mark false) (spelled_list a xs) ys is) in absurd (cc)
begun_apart (Some a) (Some b) xs ys is =
    let rest = list_apart a b xs ys (tails (mark true) (mark true) (spelled_list a xs) (spelled_list b ys) is) in
    (ap (λ (l : List Entry). Some l) rest.0, rest.1)

abbrev list_in : Option (List Entry) → List Entry
list_in None = []
list_in (Some list) = list

pub kept_apart : (t u : Bool) (a b : Option (List Entry)) (xs ys : List Entry)
    → Some (mark t ∷ spelled_begun a xs) ≡ Some (mark u ∷ spelled_begun b ys) → (t ≡ u) × (a ≡ b) × (xs ≡ ys)
kept_apart t u a b xs ys is =
    let both : mark t ∷ spelled_begun a xs ≡ mark u ∷ spelled_begun b ys = ap list_in is in
    let rest = begun_apart a b xs ys (tails (mark t) (mark u) (spelled_begun a xs) (spelled_begun b ys) both) in
    (marks_apart t u (heads (mark t) (mark u) (spelled_begun a xs) (spelled_begun b ys) both), rest.0, rest.1)

-- ---- what was there at first stays

pub begun_first : (list : Option (List Entry)) → begun_of list [] ≡ list
begun_first None = refl
begun_first (Some list) = ap (λ (l : List Entry). Some l) (take_all (length list - 0) list (omega arith))

begun_goes : (list : Option (List Entry)) (entries more : List Entry) → begun_of (told_after list more) (entries ++ more) ≡ begun_of list entries
begun_goes None entries more = refl
begun_goes (Some list) entries more =
    let count : length (list ++ more) - length (entries ++ more) ≡ length list - length entries =
    omega (arith, length-append list more, length-append entries more) in
    ap (λ (l : List Entry). Some l)
    (ap (λ (n : ℕ). take n (list ++ more)) count ∙ take-append-le (length list - length entries) list more (omega arith))

after_twice : (begun : Option (List Entry)) (xs ys : List Entry) → told_after (told_after begun xs) ys ≡ told_after begun (xs ++ ys)
after_twice None xs ys = refl
after_twice (Some list) xs ys = ap (λ (l : List Entry). Some l) (append_assoc list xs ys)

module _ {G : Type 0} (told : G → Option (List Entry)) (old new : Option G) (before after more : List Entry) where
  -- a gate with a list is told what they are told
  pub tells_kept : list_of told new ≡ told_after (list_of told old) more → is_some new ≡ is_some old → after ≡ before ++ more
      → spelled_told told (record { gate = new; entries = after }) ≡ told_after (spelled_told told (record { gate = old; entries = before })) more
  tells_kept telling there kept =
      let begun : begun_of (list_of told new) after ≡ begun_of (list_of told old) before =
      (λ j. begun_of (telling j) (kept j)) ∙ begun_goes (list_of told old) before more in
      (λ j. Some (mark (there j) ∷ spelled_begun (begun j) (kept j)))
      ∙ ap (λ (z : List Entry). Some (mark (is_some old) ∷ z)) (sym (begun_more (begun_of (list_of told old) before) before more))

  pub follows_kept : list_of told new ≡ told_after (list_of told old) more → after ≡ before ++ more
      → Follows told (record { gate = old; entries = before }) → Follows told (record { gate = new; entries = after })
  follows_kept telling kept follows =
      let begun : begun_of (list_of told new) after ≡ begun_of (list_of told old) before =
      (λ j. begun_of (telling j) (kept j)) ∙ begun_goes (list_of told old) before more in
      telling ∙ ap (λ (o : Option (List Entry)). told_after o more) follows
      ∙ after_twice (begun_of (list_of told old) before) before more
      ∙ sym (λ j. told_after (begun j) (kept j))

  -- a refusal tells nothing
  pub still_kept : list_of told new ≡ list_of told old → is_some new ≡ is_some old → after ≡ before
      → spelled_told told (record { gate = new; entries = after }) ≡ spelled_told told (record { gate = old; entries = before })
  still_kept telling there kept = λ j. Some (mark (there j) ∷ spelled_begun (begun_of (telling j) (kept j)) (kept j))

  pub follows_still : list_of told new ≡ list_of told old → after ≡ before
      → Follows told (record { gate = old; entries = before }) → Follows told (record { gate = new; entries = after })
  follows_still telling kept follows = telling ∙ follows ∙ sym (λ j. told_after (begun_of (telling j) (kept j)) (kept j))

-- nothing is kept yet
pub follows_first : {G : Type 0} (told : G → Option (List Entry)) (gate : Option G) (entries : List Entry) → entries ≡ []
    → Follows told (record { gate = gate; entries = entries })
follows_first told gate entries none =
    sym ((λ j. told_after (begun_of (list_of told gate) (none j)) (none j))
    ∙ ap (λ (o : Option (List Entry)). told_after o []) (begun_first (list_of told gate)) ∙ nothing (list_of told gate))
  where
    nothing : (o : Option (List Entry)) → told_after o [] ≡ o
    nothing None = refl
    nothing (Some list) = ap (λ (l : List Entry). Some l) (append-nil list)

pub ruleset kept_laws = (tells_kept, still_kept, follows_kept, follows_still)
