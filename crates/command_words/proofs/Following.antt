-- What may follow options that were seen.
use Rattle.std.proofs.Common.{◌≡◌, ◌∙◌, ap, ap₂, refl, sym, ℕ, Bool, true, false, not, ◌&&◌, ◌++◌, List, [], ◌∷◌, map, codes, Option, Some, None, option_map, option_and_then}
use Rattle.std.proofs.Common.{if◌then◌else◌, is_some, string_bytes}
use Rattle.std.specs.declared.string.String.{String}
use Rattle.std.specs.declared.alloc.Global.{Global}
use Rattle.command_words.specs.declared.words.Words.TheVariants.{Run}
use Rattle.std.specs.Option.{option_map_or}
use Rattle.std.specs.List.{list_all, list_any}
use Rattle.std.specs.Str.{bytes_eq}
use Rattle.command_words.specs.Words.{Choice, workers_apart, workers_joined, with_trace, with_plain, are_single, has_number, is_plain, is_trace, is_workers, is_number, behind}
use Rattle.command_words.specs.Words.{choice_of, choices_of, options_of, reading_of, run_of, said_by}
use Rattle.command_words.specs.Forms.{are_new, may_follow, workers_in}
use Rattle.command_words.specs.declared.forms.Seen.{Seen}
use Rattle.command_words.proofs.Spelling.{behind_is, none_some, one_more, same_text, some_is}

abbrev seen_by : Bool → Bool → Bool → Seen
seen_by w t p = record { workers = w; trace = t; plain = p }

-- ---- tests, in another order

right_false : (a : Bool) → (a && false) ≡ false
right_false true = refl
right_false false = refl

own_test : (t : Bool) → not (t && true) ≡ not t
own_test true = refl
own_test false = refl

trace_first : (n x s a y c : Bool) → (n && (x && s) && a && y && c) ≡ (y && (n && s && a && x && c))
trace_first false x s a true c = refl
trace_first true true s a true c = refl
trace_first true false s a true c = sym (ap (λ b. b && c) (right_false (s && a)))
trace_first n x s a false c = ap (λ b. b && c) (right_false (n && (x && s) && a))

plain_first : (n x s a b y : Bool) → (n && (x && s) && a && b && y) ≡ (y && (n && s && a && b && x))
plain_first false x s a b true = refl
plain_first true true s a b true = refl
plain_first true false s a b true = sym (right_false (s && a && b))
plain_first n x s a b false = right_false (n && (x && s) && a && b)

workers_first : (k n x s y b c : Bool) → (k && n && (x && s) && y && b && c) ≡ (y && k && (n && s && x && b && c))
workers_first false n x s true b c = refl
workers_first true false x s true b c = refl
workers_first true true true s true b c = refl
workers_first true true false true true b c = refl
workers_first true true false false true b c = refl
workers_first k n x s false b c = ap (λ a. a && b && c) (right_false (k && n && (x && s)))

-- ---- one option and those behind it

mapped : (test : List Choice → Bool) (choice : Choice) (o : Option (List Choice))
    → option_map_or test (option_map (λ cs. choice ∷ cs) o) false ≡ option_map_or (λ cs. test (choice ∷ cs)) o false
mapped test choice None = refl
mapped test choice (Some cs) = refl

through : (a : Bool) (f g : List Choice → Bool) → ((cs : List Choice) → g cs ≡ (a && f cs)) → (o : Option (List Choice))
    → option_map_or g o false ≡ (a && option_map_or f o false)
through a f g e None = sym (right_false a)
through a f g e (Some cs) = e cs

first_follows : (seen after : Seen) (a : Bool) (choice : Choice) (rest : List (List ℕ))
    → ((cs : List Choice) → are_new seen (choice ∷ cs) ≡ (a && are_new after cs))
    → option_map_or (are_new seen) (option_map (λ cs. choice ∷ cs) (choices_of rest)) false ≡ (a && may_follow after rest)
first_follows seen after a choice rest e =
    mapped (are_new seen) choice (choices_of rest) ∙ through a (are_new after) (λ cs. are_new seen (choice ∷ cs)) e (choices_of rest)

trace_new : (w t p : Bool) (cs : List Choice) → are_new (seen_by w t p) (with_trace ∷ cs) ≡ (not t && are_new (seen_by w true p) cs)
trace_new w t p cs =
    trace_first (list_all has_number cs) (not (list_any is_trace cs)) (are_single cs) (not (w && list_any is_workers cs)) (not (t && true)) (not (p && list_any is_plain cs))
    ∙ ap (λ y. y && are_new (seen_by w true p) cs) (own_test t)

plain_new : (w t p : Bool) (cs : List Choice) → are_new (seen_by w t p) (with_plain ∷ cs) ≡ (not p && are_new (seen_by w t true) cs)
plain_new w t p cs =
    plain_first (list_all has_number cs) (not (list_any is_plain cs)) (are_single cs) (not (w && list_any is_workers cs)) (not (t && list_any is_trace cs)) (not (p && true))
    ∙ ap (λ y. y && are_new (seen_by w t true) cs) (own_test p)

workers_new : (w t p k : Bool) (cs : List Choice)
    → (k && list_all has_number cs && (not (list_any is_workers cs) && are_single cs) && not (w && true) && not (t && list_any is_trace cs) && not (p && list_any is_plain cs))
    ≡ (not w && k && are_new (seen_by true t p) cs)
workers_new w t p k cs =
    workers_first k (list_all has_number cs) (not (list_any is_workers cs)) (are_single cs) (not (w && true)) (not (t && list_any is_trace cs)) (not (p && list_any is_plain cs))
    ∙ ap (λ y. y && k && are_new (seen_by true t p) cs) (own_test w)

-- ---- what stands first

pub trace_follows : (w t p : Bool) (word : List ℕ) (rest : List (List ℕ)) → bytes_eq word (codes "--trace") ≡ true
    → may_follow (seen_by w t p) (word ∷ rest) ≡ (not t && may_follow (seen_by w true p) rest)
trace_follows w t p word rest e =
    ap (λ v. may_follow (seen_by w t p) (v ∷ rest)) (same_text word (codes "--trace") e)
    ∙ ap (λ o. option_map_or (are_new (seen_by w t p)) o false) (one_more (codes "--trace") rest refl)
    ∙ first_follows (seen_by w t p) (seen_by w true p) (not t) with_trace rest (trace_new w t p)

pub plain_follows : (w t p : Bool) (word : List ℕ) (rest : List (List ℕ)) → bytes_eq word (codes "--plain") ≡ true
    → may_follow (seen_by w t p) (word ∷ rest) ≡ (not p && may_follow (seen_by w t true) rest)
plain_follows w t p word rest e =
    ap (λ v. may_follow (seen_by w t p) (v ∷ rest)) (same_text word (codes "--plain") e)
    ∙ ap (λ o. option_map_or (are_new (seen_by w t p)) o false) (one_more (codes "--plain") rest refl)
    ∙ first_follows (seen_by w t p) (seen_by w t true) (not p) with_plain rest (plain_new w t p)

joined_follows : (w t p : Bool) (word number : List ℕ) (rest : List (List ℕ)) → behind (codes "--workers=") word ≡ Some number
    → may_follow (seen_by w t p) (word ∷ rest) ≡ (not w && is_number number && may_follow (seen_by true t p) rest)
joined_follows w t p word number rest e =
    ap (λ v. may_follow (seen_by w t p) (v ∷ rest)) (behind_is (codes "--workers=") word number e)
    ∙ ap (λ o. option_map_or (are_new (seen_by w t p)) o false) (one_more (codes "--workers=" ++ number) rest refl)
    ∙ first_follows (seen_by w t p) (seen_by true t p) (not w && is_number number) (workers_joined number) rest (workers_new w t p (is_number number))

apart_follows : (w t p : Bool) (word number : List ℕ) (rest : List (List ℕ)) → bytes_eq word (codes "--workers") ≡ true
    → may_follow (seen_by w t p) (word ∷ number ∷ rest) ≡ (not w && is_number number && may_follow (seen_by true t p) rest)
apart_follows w t p word number rest e =
    ap (λ v. may_follow (seen_by w t p) (v ∷ number ∷ rest)) (same_text word (codes "--workers") e)
    ∙ first_follows (seen_by w t p) (seen_by true t p) (not w && is_number number) (workers_apart number) rest (workers_new w t p (is_number number))

pub workers_follow : (w t p : Bool) (word : List ℕ) (rest : List (List ℕ)) (number : List ℕ) (after : List (List ℕ)) → workers_in word rest ≡ Some (number, after)
    → may_follow (seen_by w t p) (word ∷ rest) ≡ (not w && is_number number && may_follow (seen_by true t p) after)
workers_follow w t p word rest number after h = by_rest rest h
  where
    Follows : List (List ℕ) → Type 0
    Follows rest = may_follow (seen_by w t p) (word ∷ rest) ≡ (not w && is_number number && may_follow (seen_by true t p) after)

    joined : (rest : List (List ℕ)) (o : Option (List ℕ)) → behind (codes "--workers=") word ≡ o → option_map {U = List ℕ × List (List ℕ)} (λ n. (n, rest)) o ≡ Some (number, after) → Follows rest
    joined rest None e h = absurd (none_some (number, after) h)
    joined rest (Some n) e h =
        let same : (n, rest) ≡ (number, after) = some_is (n, rest) (number, after) h in
        joined_follows w t p word n rest e
        ∙ ap₂ (λ m ws. not w && is_number m && may_follow (seen_by true t p) ws) (ap (λ (q : List ℕ × List (List ℕ)). q.0) same) (ap (λ (q : List ℕ × List (List ℕ)). q.1) same)

    by_word : (next : List ℕ) (more : List (List ℕ)) (b : Bool) → bytes_eq word (codes "--workers") ≡ b
        → (if b then Some (next, more) else option_map {U = List ℕ × List (List ℕ)} (λ n. (n, next ∷ more)) (behind (codes "--workers=") word)) ≡ Some (number, after) → Follows (next ∷ more)
    by_word next more true e h =
        let same : (next, more) ≡ (number, after) = some_is (next, more) (number, after) h in
        apart_follows w t p word next more e
        ∙ ap₂ (λ m ws. not w && is_number m && may_follow (seen_by true t p) ws) (ap (λ (q : List ℕ × List (List ℕ)). q.0) same) (ap (λ (q : List ℕ × List (List ℕ)). q.1) same)
    by_word next more false e h = joined (next ∷ more) (behind (codes "--workers=") word) refl h

    by_rest : (rest : List (List ℕ)) → workers_in word rest ≡ Some (number, after) → Follows rest
    by_rest [] h = joined [] (behind (codes "--workers=") word) refl h
    by_rest (next ∷ more) h = by_word next more (bytes_eq word (codes "--workers")) refl h

pub nothing_follows : (seen : Seen) (word : List ℕ) (rest : List (List ℕ)) → bytes_eq word (codes "--trace") ≡ false → bytes_eq word (codes "--plain") ≡ false
    → workers_in word rest ≡ None → may_follow seen (word ∷ rest) ≡ false
nothing_follows seen word rest trace plain h = by_rest rest h
  where
    no_choice : (o : Option (List ℕ)) → behind (codes "--workers=") word ≡ o → (rest : List (List ℕ)) → option_map {U = List ℕ × List (List ℕ)} (λ n. (n, rest)) o ≡ None → choice_of word ≡ None
    no_choice None e rest h = rw (trace, plain, e) refl
    no_choice (Some n) e rest h = absurd (none_some (n, rest) (sym h))

    by_word : (next : List ℕ) (more : List (List ℕ)) (b : Bool) → bytes_eq word (codes "--workers") ≡ b
        → (if b then Some (next, more) else option_map {U = List ℕ × List (List ℕ)} (λ n. (n, next ∷ more)) (behind (codes "--workers=") word)) ≡ None → may_follow seen (word ∷ next ∷ more) ≡ false
    by_word next more true e h = absurd (none_some (next, more) (sym h))
    by_word next more false e h =
        let none : choice_of word ≡ None = no_choice (behind (codes "--workers=") word) refl (next ∷ more) h in
        ap (λ o. option_map_or (are_new seen) o false) (one_more word (next ∷ more) e ∙ ap (option_and_then (λ choice. option_map (λ cs. choice ∷ cs) (choices_of (next ∷ more)))) none)

    by_rest : (rest : List (List ℕ)) → workers_in word rest ≡ None → may_follow seen (word ∷ rest) ≡ false
    by_rest [] h =
        let none : choice_of word ≡ None = no_choice (behind (codes "--workers=") word) refl [] h in
        ap (λ o. option_map_or (are_new seen) (option_map (λ choice. choice ∷ []) o) false) none
    by_rest (next ∷ more) h = by_word next more (bytes_eq word (codes "--workers")) refl h

-- ---- in the order of the code

pub and_then : (a b r : Bool) → a ≡ true → r ≡ b → r ≡ (a && b)
and_then a b r h e = rw h e

pub and_stop : (a b : Bool) → a ≡ false → a ≡ (a && b)
and_stop a b h = rw h refl

module _ (seen : Seen) (words : List (String Global)) (word : String Global) (rest : List (String Global)) (parts : words ≡ word ∷ rest) (r : Bool) where
  front : may_follow seen (string_bytes word ∷ map string_bytes rest) ≡ may_follow seen (map string_bytes words)
  front = ap (λ ws. may_follow seen (map string_bytes ws)) (sym parts)

  pub told_trace : bytes_eq (string_bytes word) (codes "--trace") ≡ true
      → r ≡ (not seen.trace && may_follow (seen_by seen.workers true seen.plain) (map string_bytes rest)) → r ≡ may_follow seen (map string_bytes words)
  told_trace is e = e ∙ sym (trace_follows seen.workers seen.trace seen.plain (string_bytes word) (map string_bytes rest) is) ∙ front

  pub told_plain : bytes_eq (string_bytes word) (codes "--plain") ≡ true
      → r ≡ (not seen.plain && may_follow (seen_by seen.workers seen.trace true) (map string_bytes rest)) → r ≡ may_follow seen (map string_bytes words)
  told_plain is e = e ∙ sym (plain_follows seen.workers seen.trace seen.plain (string_bytes word) (map string_bytes rest) is) ∙ front

  pub told_workers : (number : List ℕ) (after : List (String Global)) → workers_in (string_bytes word) (map string_bytes rest) ≡ Some (number, map string_bytes after)
      → r ≡ (not seen.workers && is_number number && may_follow (seen_by true seen.trace seen.plain) (map string_bytes after)) → r ≡ may_follow seen (map string_bytes words)
  told_workers number after is e =
      e ∙ sym (workers_follow seen.workers seen.trace seen.plain (string_bytes word) (map string_bytes rest) number (map string_bytes after) is) ∙ front

  pub told_nothing : bytes_eq (string_bytes word) (codes "--trace") ≡ false → bytes_eq (string_bytes word) (codes "--plain") ≡ false
      → workers_in (string_bytes word) (map string_bytes rest) ≡ None → false ≡ may_follow seen (map string_bytes words)
  told_nothing trace plain is = sym (nothing_follows seen (string_bytes word) (map string_bytes rest) trace plain is) ∙ front

-- ---- behind `run`

abbrev nothing : Seen
nothing = seen_by false false false

run_reads : (o : Option (List Choice)) → option_map_or (are_new nothing) o false ≡ is_some (option_and_then run_of o)
run_reads None = refl
run_reads (Some cs) = go (list_all has_number cs && are_single cs)
  where
    go : (b : Bool) → (b && true && true && true) ≡ is_some (if b then Some (Run (options_of cs)) else None)
    go true = refl
    go false = refl

pub run_has_reading : (words : List (String Global)) (word : String Global) (rest : List (String Global)) → words ≡ word ∷ rest
    → bytes_eq (string_bytes word) (codes "run") ≡ true → may_follow nothing (map string_bytes rest) ≡ is_some (reading_of words)
run_has_reading words word rest parts is =
    run_reads (choices_of (map string_bytes rest))
    ∙ ap (λ w. is_some (said_by (w ∷ map string_bytes rest))) (sym (same_text (string_bytes word) (codes "run") is))
    ∙ ap (λ ws. is_some (reading_of ws)) (sym parts)
