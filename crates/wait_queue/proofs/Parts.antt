-- A wait queue that is given with some of its entries taken out.
use Rattle.std.proofs.Common.{◌≡◌, ◌∙◌, ℕ, ◌++◌, ◌∷◌, [], List, refl, sym, ap, subst, inl, inr, arith}
use Rattle.std.specs.Prelude.{Bool, true, false, ◌⊎◌, ◌==◌, ◌&&◌, Some, if◌then◌else◌}
use Rattle.std.specs.List.{filter}
use Rattle.std.proofs.lemmas.Bool.{cases_Bool, false≢true}
use Rattle.std.proofs.lemmas.Bool.Decides.{nat_tests}
use Rattle.core_data.specs.Entries.{any_from, has_entry, same_entry}
use Rattle.core_data.specs.declared.values.WaitEntry.{WaitEntry}
use Rattle.core_gives.specs.Waits.{HasEachOnce, is_walk}
use Rattle.handoff_data.specs.declared.shape.Shape.{Shape}
use Rattle.wait_queue.specs.Meets.{Meeting, HasPassedAll, is_true, entries_of, staying}
use Rattle.word_rule.specs.May.{MayGiveWaitVal}
use Rattle.word_rule.specs.Told.{TakenWait}
use Rattle.word_steps.specs.Entries.{is_of_other}
use Rattle.word_steps.specs.Folds.{current_task, wait_held, has_passed}
use Rattle.word_steps.specs.Records.{Rec}
use mathlib.Core.Bool.{not}

-- each entry that isn't among the given ones is of a task with P
abbrev pub IsPart : (ℕ → Type 0) → List WaitEntry → List WaitEntry → Type 0
IsPart P given [] = given ≡ []
IsPart P given (y ∷ ys) =
    (P y.t × IsPart P given ys) ⊎ ((others : List WaitEntry) × ((given ≡ y ∷ others) × IsPart P others ys))

any_known : (q : WaitEntry → Bool) (xs : List WaitEntry) → any_from q true xs ≡ true
any_known q [] = refl
any_known q (x ∷ xs) = elim (q x) as (λ b. any_from q (if b then true else true) xs ≡ true) [ true ↦ any_known q xs | false ↦ any_known q xs ]

pub any_first : (q : WaitEntry → Bool) (x : WaitEntry) (xs : List WaitEntry)
    → any_from q false (x ∷ xs) ≡ (if q x then true else any_from q false xs)
any_first q x xs = elim (q x) as (λ b. any_from q (if b then true else false) xs ≡ (if b then true else any_from q false xs)) [
  | true ↦ any_known q xs
  | false ↦ refl
]

-- an entry among others passes the test
pub any_there : (q : WaitEntry → Bool) (front back : List WaitEntry) (x : WaitEntry) → q x ≡ true
    → any_from q false (front ++ x ∷ back) ≡ true
any_there q [] back x e = any_first q x back ∙ ap (λ (b : Bool). if b then true else any_from q false back) e
any_there q (y ∷ ys) back x e =
    any_first q y (ys ++ x ∷ back)
    ∙ elim (q y) as (λ b. (if b then true else any_from q false (ys ++ x ∷ back)) ≡ true) [
      | true ↦ refl
      | false ↦ any_there q ys back x e
    ]

true_if : (b c : Bool) → (if b then true else c) ≡ false → (b ≡ false) × (c ≡ false)
true_if true c e = absurd (false≢true (sym e))
true_if false c e = (refl, e)

-- what passes among a part passes among all
any_part : (P : ℕ → Type 0) (q : WaitEntry → Bool) (given taken : List WaitEntry) → IsPart P given taken
    → any_from q false taken ≡ false → any_from q false given ≡ false
any_part P q given [] part none = ap (any_from q false) part
any_part P q given (y ∷ ys) (inl out) none =
    any_part P q given ys out.1 (true_if (q y) (any_from q false ys) (sym (any_first q y ys) ∙ none)).1
any_part P q given (y ∷ ys) (inr stays) none =
    let apart = true_if (q y) (any_from q false ys) (sym (any_first q y ys) ∙ none) in
    ap (any_from q false) stays.1.0 ∙ any_first q y stays.0
    ∙ ap (λ (b : Bool). if b then true else any_from q false stays.0) apart.0
    ∙ any_part P q stays.0 ys stays.1.1 apart.1

some_part : (P : ℕ → Type 0) (q : WaitEntry → Bool) (given taken : List WaitEntry) → IsPart P given taken
    → any_from q false given ≡ true → any_from q false taken ≡ true
some_part P q given taken part some = elim (cases_Bool (any_from q false taken)) [
  | inl e ↦ e
  | inr e ↦ absurd (false≢true (sym (any_part P q given taken part e) ∙ some))
]

pub once_part : (P : ℕ → Type 0) (given taken : List WaitEntry) → IsPart P given taken → HasEachOnce taken → HasEachOnce given
once_part P given [] part once = subst HasEachOnce (sym part) tt
once_part P given (y ∷ ys) (inl out) once = once_part P given ys out.1 once.1
once_part P given (y ∷ ys) (inr stays) once =
    subst HasEachOnce (sym stays.1.0)
    (any_part P (λ x. x.t == y.t) stays.0 ys stays.1.1 once.0, once_part P stays.0 ys stays.1.1 once.1)

pub entry_task : (x y : WaitEntry) → same_entry x y ≡ true → x.t ≡ y.t
entry_task x y e = elim (cases_Bool (x.t == y.t)) [
  | inl q ↦ grind (arith, nat_tests, q)
  | inr q ↦ absurd (grind (arith, nat_tests, q, e))
]

true_or : (b c : Bool) → (if b then true else c) ≡ true → (b ≡ true) ⊎ (c ≡ true)
true_or true c e = inl refl
true_or false c e = inr e

-- an entry that was taken out is of a task with P
pub out_of_part : (P : ℕ → Type 0) (x : WaitEntry) (given taken : List WaitEntry) → IsPart P given taken
    → has_entry taken x ≡ true → has_entry given x ≡ false → P x.t
out_of_part P x given [] part was gone = absurd (false≢true was)
out_of_part P x given (y ∷ ys) (inl out) was gone =
    elim (true_or (same_entry y x) (has_entry ys x) (sym (any_first (λ z. same_entry z x) y ys) ∙ was)) [
      | inl same ↦ subst P (entry_task y x same) out.0
      | inr there ↦ out_of_part P x given ys out.1 there gone
    ]
out_of_part P x given (y ∷ ys) (inr stays) was gone =
    let apart = true_if (same_entry y x) (has_entry stays.0 x)
    (sym (any_first (λ z. same_entry z x) y stays.0) ∙ ap (λ zs. has_entry zs x) (sym stays.1.0) ∙ gone) in
    elim (true_or (same_entry y x) (has_entry ys x) (sym (any_first (λ z. same_entry z x) y ys) ∙ was)) [
      | inl same ↦ absurd (false≢true (sym apart.0 ∙ same))
      | inr there ↦ out_of_part P x stays.0 ys stays.1.1 there apart.1
    ]

-- Such a wait queue may be given

pub part_gives : (shape : Shape) (s : ℕ) (trace : List Rec) (k : ℕ) (given taken : List WaitEntry) → TakenWait shape taken
    → wait_held trace k ≡ Some taken
    → IsPart (λ t. (current_task s trace ≡ Some t) ⊎ (has_passed trace k t ≡ true)) given taken
    → MayGiveWaitVal s trace shape k given
part_gives shape s trace k given taken told held part = record {
  taken = taken;
  held = held;
  once = once_part _ given taken part told.once;
  tasks = λ x e. told.tasks x (some_part _ (λ z. same_entry z x) given taken part e);
  put_in = λ x e none. absurd (false≢true (sym none ∙ some_part _ (λ z. same_entry z x) given taken part e));
  taken_out = λ x was gone. out_of_part _ x given taken part was gone;
}

-- Parts: all; all but those of a task; all but those whose tasks were woken

pub part_same : (P : ℕ → Type 0) (xs : List WaitEntry) → IsPart P xs xs
part_same P [] = refl
part_same P (x ∷ xs) = inr (xs, (refl, part_same P xs))

pub part_others : (t : ℕ) (xs : List WaitEntry) → IsPart (λ u. t ≡ u) (filter (is_of_other t) xs) xs
part_others t [] = refl
part_others t (x ∷ xs) = elim (cases_Bool (x.t == t)) [
  | inl q ↦
      inl (
        grind (arith, nat_tests, q),
        subst (λ zs. IsPart (λ u. t ≡ u) zs xs) (sym (ap (λ (b : Bool). if not b then x ∷ filter (is_of_other t) xs else filter (is_of_other t) xs) q)) (part_others t xs),
      )
  | inr q ↦ inr (filter (is_of_other t) xs, (ap (λ (b : Bool). if not b then x ∷ filter (is_of_other t) xs else filter (is_of_other t) xs) q, part_others t xs))
]

pub part_more : (P Q : ℕ → Type 0) → ((t : ℕ) → P t → Q t) → (given taken : List WaitEntry) → IsPart P given taken → IsPart Q given taken
part_more P Q so given [] part = part
part_more P Q so given (y ∷ ys) (inl out) = inl (so y.t out.0, part_more P Q so given ys out.1)
part_more P Q so given (y ∷ ys) (inr stays) = inr (stays.0, (stays.1.0, part_more P Q so stays.0 ys stays.1.1))

pub part_staying : (k : ℕ) (trace : List Rec) (ms : List Meeting) (rest : List WaitEntry) → HasPassedAll ms trace
    → IsPart (λ t. has_passed trace k t ≡ true) (staying ms ++ rest) (entries_of ms ++ rest)
part_staying k trace [] rest passed = part_same _ rest
part_staying k trace (x ∷ xs) rest passed =
    elim (is_true x.answer)
    as (λ b. IsPart (λ t. has_passed trace k t ≡ true) ((if b then staying xs else x.entry ∷ staying xs) ++ rest) (x.entry ∷ (entries_of xs ++ rest))) [
      | true ↦ inl (passed.0 k, part_staying k trace xs rest passed.1)
      | false ↦ inr (staying xs ++ rest, (refl, part_staying k trace xs rest passed.1))
    ]

-- a walk along all of them
pub passed_walk : (k : ℕ) (trace : List Rec) (ms : List Meeting) → HasPassedAll ms trace
    → is_walk (has_passed trace k) (entries_of ms) ≡ true
passed_walk k trace [] passed = refl
passed_walk k trace (x ∷ xs) passed =
    ap (λ (b : Bool). b && is_walk (has_passed trace k) (entries_of xs)) (passed.0 k) ∙ passed_walk k trace xs passed.1
