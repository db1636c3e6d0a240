-- The seat that has taken tokens back.
use Rattle.std.proofs.Common.{◌≡◌, ℕ, List, [], ◌∷◌, ◌++◌, map, length, append_assoc, sym, ap, ◌∙◌, subst, arith}
use Rattle.atomic_table.specs.Seated.{TableId}
use Rattle.word_table.specs.End.{part_of}
use Rattle.word_table.specs.Gathered.{GatheredView, IsGatheredOf, IsGathered, gathered_view}
use Rattle.word_table.specs.Plays.{Sat}
use Rattle.word_table.specs.Ruled.{Each, lastings, known_of}
use Rattle.word_table.specs.Views.{WordsView}
use Rattle.word_table.specs.declared.slot.Key.{Key}

-- it has the parts of the tokens, and knows what the table was told
pub gathered_me : {B : Type 0} (lasting : B → List ℕ) (key : Key B) (words : WordsView) (gathered : GatheredView)
    (name : TableId) (me : Sat B) → IsGathered name me → gathered_view name me.0 ≡ gathered → IsGatheredOf words gathered
    → key.shape ≡ words.shape → lastings lasting key ≡ words.lasting
    → me ≡ (record { parts = map part_of gathered.tokens; known = known_of lasting key }, [])
gathered_me lasting key words gathered name me one seen of shape last =
    let shapes = ap (λ (g : GatheredView). g.shape) seen ∙ of.same_shape ∙ sym shape in
    let lasts = ap (λ (g : GatheredView). g.lasting) seen ∙ of.same_lasting ∙ sym last in
    one ∙ λ j. (
      record { parts = map part_of (seen j).tokens; known = record { shape = shapes j; lasting = lasts j } },
      [],
    )

-- The last of those that are left

each_front : {A : Type 0} (P : A → Type 0) (xs ys : List A) → Each P (xs ++ ys) → Each P xs
each_front P [] ys e = tt
each_front P (x ∷ xs) ys e = (e.0, each_front P xs ys e.1)

each_back : {A : Type 0} (P : A → Type 0) (xs ys : List A) → Each P (xs ++ ys) → Each P ys
each_back P [] ys e = e
each_back P (x ∷ xs) ys e = each_back P xs ys e.1

pub last_of : {A : Type 0} (P : A → Type 0) (before left : List A) (x : A) → before ≡ left ++ x ∷ [] → Each P before → P x
last_of P before left x is all = (each_back P left (x ∷ []) (subst (Each P) is all)).0

pub others_of : {A : Type 0} (P : A → Type 0) (before left : List A) (x : A) → before ≡ left ++ x ∷ [] → Each P before → Each P left
others_of P before left x is all = each_front P left (x ∷ []) (subst (Each P) is all)

pub none_left : {A : Type 0} (xs : List A) → length xs ≡ 0 → xs ≡ []
none_left [] e = λ j. []
none_left (x ∷ xs) e = absurd (omega arith)

-- it goes to the front of those that have come back
pub one_back : {A : Type 0} (before left done all : List A) (x : A) → before ≡ left ++ x ∷ [] → before ++ done ≡ all
    → left ++ x ∷ done ≡ all
one_back before left done all x is was = sym (append_assoc left (x ∷ []) done) ∙ ap (λ z. z ++ done) (sym is) ∙ was
