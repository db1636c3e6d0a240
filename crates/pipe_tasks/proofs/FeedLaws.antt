-- A plan that is fed item by item puts out the lines that are stated for whole lists.
use Rattle.std.proofs.Common.{◌≡◌, ℕ, zero, suc, ◌+◌, ◌-◌, ◌<◌, List, [], ◌∷◌, ◌++◌, length, map, Bool, true, false, refl, sym, ap, ◌∙◌, subst, arith}
use Rattle.std.specs.Prelude.{Option, Some, None, filter, not, nat_lt, nat_le, if◌then◌else◌}
use Rattle.std.proofs.lemmas.Bool.Decides.{nat_tests}
use Rattle.std.specs.Fmt.{decimal}
use Rattle.std.specs.List.{range_with_len}
use Rattle.task_script.specs.declared.plan.Plan.{Plan}
use Rattle.task_script.specs.declared.plan.Plan.TheVariants.{Lines, Count, Upper, Number, Keep, Drop, Tally, Cat, Weave, Pin, Table}
use Rattle.task_script.specs.Maps.{mapped_line}
use Rattle.pipe_tasks.specs.Words.{Line, upper_line, counted, count_line, numbered_line, has_prefix, woven}
use Rattle.pipe_tasks.specs.Plans.{says, last, made, counts_on, numbered, lines_of}
use Rattle.pipe_tasks.specs.Feeds.{Feeds, FeedingGivesLines}
use Rattle.pipe_tasks.specs.Feeds.Feeds.{makes, made_all, first, first_end, first_ends, second, second_end, second_ends}
use Rattle.pipe_tasks.proofs.PlanLaws.{numbered-counted, tallied, woven-cons, lines_of-first, lines_of-second, lines_of-first_end, lines_of-first_ends, lines_of-second_end, lines_of-second_ends}
use Rattle.pipe_tasks.proofs.PlanLaws.{lines_of-made, own_lines}

-- ---- what is put out are the lines

pub fed : {p : Plan} {x y out : List Line} → Feeds p x y out → out ≡ lines_of p x y
fed (makes {p} {q} {line} {x} {y} w m f) = ap (λ z. line ∷ z) (fed f) ∙ ap (λ (o : Option (Line × Plan)). own_lines o x y) (sym m) ∙ sym (lines_of-made p x y w)
fed (made_all {p} {x} {y} w m) = ap (λ (o : Option (Line × Plan)). own_lines o x y) (sym m) ∙ sym (lines_of-made p x y w)
fed (first {p} {line} {x} {y} w f) = ap (λ z. says p 0 line ++ z) (fed f) ∙ sym (lines_of-first p line x y w)
fed (first_end {p} {q} {y} w e f) = ap (λ z. last p 0 ++ z) (fed f) ∙ sym (lines_of-first_end p q y w e)
fed (first_ends {p} {y} w e) = sym (lines_of-first_ends p y w e)
fed (second {p} {line} {x} {y} w f) = ap (λ z. says p 1 line ++ z) (fed f) ∙ sym (lines_of-second p line x y w)
fed (second_end {p} {q} {x} w e f) = ap (λ z. last p 1 ++ z) (fed f) ∙ sym (lines_of-second_end p q x w e)
fed (second_ends {p} {x} w e) = sym (lines_of-second_ends p x w e)

-- ---- and every plan can be fed

feeds-lines : (left x y : List Line) → Feeds (Lines left) x y left
feeds-lines [] x y = made_all refl refl
feeds-lines (line ∷ left) x y = makes refl refl (feeds-lines left x y)

made-none : (n l : ℕ) → l < n → made (Count n l) ≡ None
made-none n l above = let test : nat_le n l ≡ false = grind (arith, nat_tests) in ap (λ b. if b then Some (decimal n, counts_on n l) else None) test

made-some : (n l : ℕ) → n < l → made (Count n l) ≡ Some (decimal n, Count (n + 1) l)
made-some n l below =
    let within : nat_le n l ≡ true = grind (arith, nat_tests) in
    let more : nat_lt n l ≡ true = grind (arith, nat_tests) in
    ap (λ b. if b then Some (decimal n, counts_on n l) else None) within ∙ ap (λ b. Some (decimal n, (if b then Count (n + 1) l else Count 1 0))) more

made-last : (n l : ℕ) → n ≡ l → made (Count n l) ≡ Some (decimal n, Count 1 0)
made-last n l same =
    let within : nat_le n l ≡ true = grind (arith, nat_tests) in
    let more : nat_lt n l ≡ false = grind (arith, nat_tests) in
    ap (λ b. if b then Some (decimal n, counts_on n l) else None) within ∙ ap (λ b. Some (decimal n, (if b then Count (n + 1) l else Count 1 0))) more

feeds-count : (k n l : ℕ) (x y : List Line) → l + 1 - n ≡ k → Feeds (Count n l) x y (map decimal (range_with_len n k))
feeds-count zero n l x y e = made_all refl (made-none n l (omega arith))
feeds-count (suc zero) n l x y e = makes refl (made-last n l (omega arith)) (made_all refl (made-none 1 0 (omega arith)))
feeds-count (suc (suc k)) n l x y e = makes refl (made-some n l (omega arith)) (feeds-count (suc k) (n + 1) l x y (omega arith))

feeds-upper : (x y : List Line) → Feeds Upper x y (map upper_line x)
feeds-upper [] y = first_ends refl refl
feeds-upper (line ∷ x) y = first refl (feeds-upper x y)

feeds-number : (n : ℕ) (x y : List Line) → Feeds (Number n) x y (numbered n x)
feeds-number n [] y = first_ends refl refl
feeds-number n (line ∷ x) y = subst (λ z. Feeds (Number n) (line ∷ x) y (numbered_line n line ∷ z)) (numbered-counted (n + 1) x) (first refl (feeds-number (counted (n + 1)) x y))

feeds-keep : (prefix : Line) (x y : List Line) → Feeds (Keep prefix) x y (filter (has_prefix prefix) x)
feeds-keep prefix [] y = first_ends refl refl
feeds-keep prefix (line ∷ x) y = subst (λ z. Feeds (Keep prefix) (line ∷ x) y z) (sym (lines_of-first (Keep prefix) line x y refl)) (first refl (feeds-keep prefix x y))

feeds-drop : (prefix : Line) (x y : List Line) → Feeds (Drop prefix) x y (filter (λ line. not (has_prefix prefix line)) x)
feeds-drop prefix [] y = first_ends refl refl
feeds-drop prefix (line ∷ x) y = subst (λ z. Feeds (Drop prefix) (line ∷ x) y z) (sym (lines_of-first (Drop prefix) line x y refl)) (first refl (feeds-drop prefix x y))

feeds-tally : (n : ℕ) (x y : List Line) → Feeds (Tally n) x y (count_line (n + length x) ∷ [])
feeds-tally n [] y = subst (λ z. Feeds (Tally n) [] y z) (sym (lines_of-first_ends (Tally n) y refl refl)) (first_ends refl refl)
feeds-tally n (line ∷ x) y = subst (λ z. Feeds (Tally n) (line ∷ x) y (z ∷ [])) (tallied n line x) (first refl (feeds-tally (counted (n + 1)) x y))

feeds-cat_second : (n : ℕ) (x y : List Line) → Feeds (Cat (suc n)) x y y
feeds-cat_second n x [] = second_ends refl refl
feeds-cat_second n x (line ∷ y) = second refl (feeds-cat_second n x y)

feeds-cat : (x y : List Line) → Feeds (Cat 0) x y (x ++ y)
feeds-cat [] y = first_end refl refl (feeds-cat_second 0 [] y)
feeds-cat (line ∷ x) y = first refl (feeds-cat x y)

feeds-rest_first : (x y : List Line) → Feeds (Weave 0 true) x y x
feeds-rest_first [] y = first_ends refl refl
feeds-rest_first (line ∷ x) y = first refl (feeds-rest_first x y)

feeds-rest_second : (n : ℕ) (x y : List Line) → Feeds (Weave (suc n) true) x y y
feeds-rest_second n x [] = second_ends refl refl
feeds-rest_second n x (line ∷ y) = second refl (feeds-rest_second n x y)

feeds-weave : (x y : List Line) → Feeds (Weave 0 false) x y (woven x y)
feeds-weave [] y = first_end refl refl (feeds-rest_second 0 [] y)
feeds-weave (a ∷ x) [] = first refl (second_end refl refl (feeds-rest_first x []))
feeds-weave (a ∷ x) (b ∷ y) = first refl (second refl (feeds-weave x y))

feeds-weave_second : (n : ℕ) (x y : List Line) → Feeds (Weave (suc n) false) x y (woven y x)
feeds-weave_second n x [] = second_end refl refl (feeds-rest_first x [])
feeds-weave_second n x (b ∷ y) = subst (λ z. Feeds (Weave (suc n) false) x (b ∷ y) z) (sym (woven-cons b y x)) (second refl (feeds-weave x y))

feeds-pin : (left : ℕ) (on : Bool) (x y : List Line) → Feeds (Pin left on) x y x
feeds-pin left on [] y = first_ends refl refl
feeds-pin left on (line ∷ x) y = first refl (feeds-pin (left - 1) (nat_lt 0 left) x y)

feeds-table : (table : List ℕ) (ends x y : List Line) → Feeds (Table table ends) x y (map (mapped_line table) x ++ ends)
feeds-table table ends [] y = first_ends refl refl
feeds-table table ends (line ∷ x) y = first refl (feeds-table table ends x y)

pub feeds : (p : Plan) (x y : List Line) → Feeds p x y (lines_of p x y)
feeds (Lines left) x y = feeds-lines left x y
feeds (Count n l) x y = feeds-count (l + 1 - n) n l x y refl
feeds Upper x y = feeds-upper x y
feeds (Number n) x y = feeds-number n x y
feeds (Keep prefix) x y = feeds-keep prefix x y
feeds (Drop prefix) x y = feeds-drop prefix x y
feeds (Tally n) x y = feeds-tally n x y
feeds (Cat zero) x y = feeds-cat x y
feeds (Cat (suc n)) x y = feeds-cat_second n x y
feeds (Weave zero false) x y = feeds-weave x y
feeds (Weave (suc n) false) x y = feeds-weave_second n x y
feeds (Weave zero true) x y = feeds-rest_first x y
feeds (Weave (suc n) true) x y = feeds-rest_second n x y
feeds (Pin left on) x y = feeds-pin left on x y
feeds (Table table ends) x y = feeds-table table ends x y

pub feeding : FeedingGivesLines
feeding p x y out = (fed, λ e. subst (λ z. Feeds p x y z) (sym e) (feeds p x y))
