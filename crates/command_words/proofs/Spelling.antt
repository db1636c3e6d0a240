-- Words are read as they are written.
use Rattle.std.proofs.Common.{◌≡◌, ◌∙◌, ap, ap₂, refl, sym, ℕ, Bool, true, false, true≢false, ◌++◌, List, [], ◌∷◌, codes, Option, Some, None, option_map, option_and_then}
use Rattle.std.proofs.Common.{rules, nat_eq, if◌then◌else◌, unwrap_or, is_some, append-nil}
use Rattle.std.specs.List.{flat_map}
use Rattle.std.specs.Str.{bytes_eq}
use Rattle.std.specs.Str.Pattern.{FindsTextPrefix, StripsPrefix}
use Rattle.std.specs.Borrow.{Bor}
use Rattle.std.specs.Prelude.{MatchOption, drop}
use Rattle.std.proofs.lemmas.Slice.Eq.{bytes_eq-Decides}
use Rattle.command_words.specs.Words.{Choice, workers_apart, workers_joined, with_trace, with_plain, behind, choice_of, choices_of}
use Rattle.command_words.specs.Written.{words_of}

pub some_is : {A : Type 0} (a b : A) → Some a ≡ Some b → a ≡ b
some_is a b e = ap (λ o. unwrap_or o a) e

pub none_some : {A : Type 0} (a : A) → None ≡ Some a → ⊥
none_some a e = true≢false (sym (ap is_some e))

-- ---- a word and a front

same_byte : (x y : ℕ) → nat_eq x y ≡ true → x ≡ y
same_byte x y e = search rules

own_byte : (x : ℕ) → nat_eq x x ≡ true
own_byte x = search rules

pub behind_is : (front text rest : List ℕ) → behind front text ≡ Some rest → text ≡ front ++ rest
behind_is [] text rest h = some_is text rest h
behind_is (x ∷ front) [] rest h = absurd (none_some rest h)
behind_is (x ∷ front) (y ∷ text) rest h = go (behind_is front text rest) (nat_eq x y) refl h
  where
    go : (behind front text ≡ Some rest → text ≡ front ++ rest) → (b : Bool) → nat_eq x y ≡ b → (if b then behind front text else None) ≡ Some rest
        → y ∷ text ≡ x ∷ front ++ rest
    go tail true e h = ap₂ (λ z zs. z ∷ zs) (sym (same_byte x y e)) (tail h)
    go tail false e h = absurd (none_some rest h)

pub behind_front : (front rest : List ℕ) → behind front (front ++ rest) ≡ Some rest
behind_front [] rest = refl
behind_front (x ∷ front) rest = rw (own_byte x) (behind_front front rest)

pub same_text : (a b : List ℕ) → bytes_eq a b ≡ true → a ≡ b
same_text a b e = (bytes_eq-Decides a b).0 e

-- ---- one option

-- the one word of an option
pub one_word : (word : List ℕ) (choice : Choice) → choice_of word ≡ Some choice → word ∷ [] ≡ words_of choice
one_word word choice h = go (bytes_eq word (codes "--trace")) (bytes_eq word (codes "--plain")) refl refl h
  where
    joined : (o : Option (List ℕ)) → behind (codes "--workers=") word ≡ o → option_map workers_joined o ≡ Some choice → word ∷ [] ≡ words_of choice
    joined None e h = absurd (none_some choice h)
    joined (Some text) e h = ap (λ w. w ∷ []) (behind_is (codes "--workers=") word text e) ∙ ap words_of (some_is _ choice h)

    go : (a b : Bool) → bytes_eq word (codes "--trace") ≡ a → bytes_eq word (codes "--plain") ≡ b
        → (if a then Some with_trace else if b then Some with_plain else option_map workers_joined (behind (codes "--workers=") word)) ≡ Some choice → word ∷ [] ≡ words_of choice
    go true b e f h = ap (λ w. w ∷ []) (same_text word _ e) ∙ ap words_of (some_is _ choice h)
    go false true e f h = ap (λ w. w ∷ []) (same_text word _ f) ∙ ap words_of (some_is _ choice h)
    go false false e f h = joined (behind (codes "--workers=") word) refl h

-- ---- options in turn

-- words that are read as options are the words of these
pub spelled : (words : List (List ℕ)) (choices : List Choice) → choices_of words ≡ Some choices → words ≡ flat_map words_of choices
spelled [] choices h = ap (flat_map words_of) (some_is [] choices h)
spelled (word ∷ []) choices h = go (choice_of word) refl h
  where
    go : (o : Option Choice) → choice_of word ≡ o → option_map (λ choice. choice ∷ []) o ≡ Some choices → word ∷ [] ≡ flat_map words_of choices
    go None e h = absurd (none_some choices h)
    go (Some choice) e h = (one_word word choice e ∙ sym (append-nil (words_of choice))) ∙ ap (flat_map words_of) (some_is _ choices h)
spelled (word ∷ next ∷ rest) choices h = go (spelled rest) (spelled (next ∷ rest)) (bytes_eq word (codes "--workers")) refl h
  where
    Tail : List (List ℕ) → Option (List Choice) → Type 0
    Tail words o = (cs : List Choice) → o ≡ Some cs → words ≡ flat_map words_of cs

    apart : bytes_eq word (codes "--workers") ≡ true → (o : Option (List Choice)) → Tail rest o → option_map (λ cs. workers_apart next ∷ cs) o ≡ Some choices
        → word ∷ next ∷ rest ≡ flat_map words_of choices
    apart f None tail h = absurd (none_some choices h)
    apart f (Some cs) tail h = ap₂ (λ w ws. w ∷ next ∷ ws) (same_text word _ f) (tail cs refl) ∙ ap (flat_map words_of) (some_is _ choices h)

    more : (choice : Choice) → choice_of word ≡ Some choice → (o : Option (List Choice)) → Tail (next ∷ rest) o → option_map (λ cs. choice ∷ cs) o ≡ Some choices
        → word ∷ next ∷ rest ≡ flat_map words_of choices
    more choice f None tail h = absurd (none_some choices h)
    more choice f (Some cs) tail h = ap₂ (λ ws vs. ws ++ vs) (one_word word choice f) (tail cs refl) ∙ ap (flat_map words_of) (some_is _ choices h)

    first : (c : Option Choice) → choice_of word ≡ c → (o : Option (List Choice)) → Tail (next ∷ rest) o
        → option_and_then (λ choice. option_map (λ cs. choice ∷ cs) o) c ≡ Some choices → word ∷ next ∷ rest ≡ flat_map words_of choices
    first None e o tail h = absurd (none_some choices h)
    first (Some choice) e o tail h = more choice e o tail h

    go : Tail rest (choices_of rest) → Tail (next ∷ rest) (choices_of (next ∷ rest)) → (b : Bool) → bytes_eq word (codes "--workers") ≡ b
        → (if b then option_map (λ cs. workers_apart next ∷ cs) (choices_of rest)
        else option_and_then (λ choice. option_map (λ cs. choice ∷ cs) (choices_of (next ∷ rest))) (choice_of word)) ≡ Some choices
        → word ∷ next ∷ rest ≡ flat_map words_of choices
    go near far true e h = apart e (choices_of rest) near h
    go near far false e h = first (choice_of word) refl (choices_of (next ∷ rest)) far h

-- a word that is no `--workers` is one option, with what follows
pub one_more : (word : List ℕ) (rest : List (List ℕ)) → bytes_eq word (codes "--workers") ≡ false
    → choices_of (word ∷ rest) ≡ option_and_then (λ choice. option_map (λ cs. choice ∷ cs) (choices_of rest)) (choice_of word)
one_more word [] e = go (choice_of word)
  where
    go : (o : Option Choice) → option_map (λ choice. choice ∷ []) o ≡ option_and_then (λ choice. option_map (λ cs. choice ∷ cs) (Some [])) o
    go None = refl
    go (Some choice) = refl
one_more word (next ∷ rest) e = rw e refl

-- the words of options are read as these
pub read_back : (choices : List Choice) → choices_of (flat_map words_of choices) ≡ Some choices
read_back [] = refl
read_back (workers_apart text ∷ choices) = ap (option_map (λ cs. workers_apart text ∷ cs)) (read_back choices)
read_back (workers_joined text ∷ choices) = one_more (codes "--workers=" ++ text) (flat_map words_of choices) refl ∙ ap (option_map (λ cs. workers_joined text ∷ cs)) (read_back choices)
read_back (with_trace ∷ choices) = one_more (codes "--trace") (flat_map words_of choices) refl ∙ ap (option_map (λ cs. with_trace ∷ cs)) (read_back choices)
read_back (with_plain ∷ choices) = one_more (codes "--plain") (flat_map words_of choices) refl ∙ ap (option_map (λ cs. with_plain ∷ cs)) (read_back choices)

-- what is stripped of a front
pub stripped : (front text : List ℕ) (r : Option (Bor (List ℕ))) → MatchOption r (FindsTextPrefix front text None) (λ x. StripsPrefix (FindsTextPrefix front) text x.now)
    → option_map (λ x. x.now) r ≡ behind front text
stripped front text None lacks = go (behind front text) refl
  where
    go : (o : Option (List ℕ)) → behind front text ≡ o → None ≡ o
    go None e = refl
    go (Some rest) e = absurd (lacks rest (behind_is front text rest e))
stripped front text (Some x) h =
    ap Some h.2 ∙ sym (ap (behind front) h.1.1 ∙ behind_front front (drop h.0 text))
