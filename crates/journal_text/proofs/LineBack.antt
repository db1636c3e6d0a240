-- A line that is written is read.
use Rattle.std.proofs.Common.{◌≡◌, ◌==◌, ℕ, ◌-◌, ◌^◌, ◌<◌, Bool, true, false, nat_lt, List, [], ◌∷◌, ◌++◌, Option, Some, None, length, take, ap, sym, ◌∙◌, refl, arith, subst, if◌then◌else◌}
use Rattle.std.specs.Fmt.{decimal}
use Rattle.std.specs.List.{AllPass, list_all, AllByRecursion}
use Rattle.std.specs.Prelude.{codes, IfSome}
use Rattle.std.proofs.Math.Seq.{take-length}
use Rattle.std.proofs.lemmas.Bool.Decides.{nat_tests}
use Rattle.std.proofs.lemmas.List.Elements.{All-append}
use Rattle.std.proofs.lemmas.List.Sums.{AllPass-from_list_all, suffix_len_is}
use Rattle.handoff_data.specs.declared.entry.Entry.{Entry}
use Rattle.handoff_data.specs.declared.entry.Entry.TheVariants as entry
use Rattle.journal_text.specs.declared.heading.Stage.{Stage}
use Rattle.journal_text.specs.declared.heading.Stage.TheVariants as stage
use Rattle.journal_text.specs.declared.keyword.Keyword.{Keyword}
use Rattle.journal_text.specs.declared.keyword.Keyword.TheVariants as keyword
use Rattle.journal_text.specs.Entries.{entry_after}
use Rattle.journal_text.specs.Fields.{is_digit, gap_len, word_len}
use Rattle.journal_text.specs.Keywords.{change_word_of, run_word_of, cause_word_of, mark_word_of}
use Rattle.journal_text.specs.Lines.{Progress, is_return, content_len, content_after, line_after, words_after, words_at, body_after, with_entry, with_said}
use Rattle.journal_text.specs.Readable.{IsReadable}
use Rattle.journal_text.specs.Spelling.{field, fields, by_text, at_text, mask_text, entry_line}
use Rattle.journal_text.proofs.Digits.{decimal_digits}
use Rattle.journal_text.proofs.EntryBack.{key, behind, entry_back}
use Rattle.journal_text.proofs.MaskBack.{mask_plain}

-- a byte that stands in lines: above the line feed and the carriage return
abbrev pub is_plain : ℕ → Bool
is_plain b = nat_lt 13 b

abbrev pub IsPlain : List ℕ → Type 0
IsPlain line = AllPass is_plain line

pub plain : (line : List ℕ) → list_all is_plain line ≡ true → IsPlain line
plain line e = AllPass-from_list_all is_plain line e

pub plain-append : (xs ys : List ℕ) → IsPlain xs → IsPlain ys → IsPlain (xs ++ ys)
plain-append xs ys = All-append (λ b. is_plain b ≡ true) xs ys

digit_plain : (b : ℕ) → is_digit b ≡ true → is_plain b ≡ true
digit_plain b e = grind (arith, nat_tests)

pub plain_decimal : (n : ℕ) → n < 2 ^ 64 → IsPlain (decimal n)
plain_decimal n fits k d less = digit_plain _ (decimal_digits n fits k d less)

pub plain_field : (n : ℕ) → n < 2 ^ 64 → IsPlain (field n)
plain_field n fits = plain-append (32 ∷ []) (decimal n) (plain (32 ∷ []) refl) (plain_decimal n fits)

pub plain_fields : (ns : List ℕ) → AllByRecursion (λ n. n < 2 ^ 64) ns → IsPlain (fields ns)
plain_fields [] all = plain [] refl
plain_fields (n ∷ ns) all = plain-append (field n) (fields ns) (plain_field n all.0) (plain_fields ns all.1)

no_return : (b : ℕ) → is_plain b ≡ true → is_return b ≡ false
no_return b e = grind (arith, nat_tests)

pub content_all : (line : List ℕ) → IsPlain line → content_len line ≡ length line
unfolding content_len
content_all line all =
    let none = suffix_len_is is_return line (length line) 0 (omega arith) (λ k from less. absurd (omega arith)) (λ some. no_return _ (all (length line - 1) 0 (omega arith))) in
    omega (arith, none)

pub content_of : (p : Progress) (line : List ℕ) → IsPlain line → line_after p line ≡ content_after p line
unfolding line_after
content_of p line all =
    ap (λ n. content_after p (take n line)) (content_all line all) ∙ ap (content_after p) (take-length line)

by_plain : (b : Bool) → IsPlain (by_text b)
by_plain false = plain (codes " direct") refl
by_plain true = plain (codes " list") refl

at_plain : (at : Option ℕ) → IfSome at (λ c. c < 2 ^ 32) → IsPlain (at_text at)
at_plain None fits = plain (codes " -") refl
at_plain (Some c) fits = plain_field c (omega (arith, fits))

-- each line is plain
pub plain_behind : (e : Entry) → IsReadable e → IsPlain (behind e)
plain_behind (entry.New t m c) r = plain_fields (t ∷ m ∷ c ∷ []) (omega (arith, r.0.0), (r.0.1, (omega (arith, r.1), tt)))
plain_behind (entry.Sleep t m c) r = plain_fields (t ∷ m ∷ c ∷ []) (omega (arith, r.0.0), (r.0.1, (omega (arith, r.1), tt)))
plain_behind (entry.Wake t m) r = plain_fields (t ∷ m ∷ []) (omega (arith, r.0), (r.1, tt))
plain_behind (entry.List t m c e) r = plain_fields (t ∷ m ∷ c ∷ e ∷ []) (omega (arith, r.0.0), (r.0.1, (omega (arith, r.1.0), (r.1.1, tt))))
plain_behind (entry.Enq t m c by_list) r =
    plain-append (fields (t ∷ m ∷ c ∷ [])) (by_text by_list) (plain_fields (t ∷ m ∷ c ∷ []) (omega (arith, r.0.0), (r.0.1, (omega (arith, r.1), tt)))) (by_plain by_list)
plain_behind (entry.Out t m c) r = plain_fields (t ∷ m ∷ c ∷ []) (omega (arith, r.0.0), (r.0.1, (omega (arith, r.1), tt)))
plain_behind (entry.In t m c) r = plain_fields (t ∷ m ∷ c ∷ []) (omega (arith, r.0.0), (r.0.1, (omega (arith, r.1), tt)))
plain_behind (entry.Die t m c) r = plain_fields (t ∷ m ∷ c ∷ []) (omega (arith, r.0.0), (r.0.1, (omega (arith, r.1), tt)))
plain_behind (entry.Pick t n c) r = plain_fields (t ∷ n ∷ c ∷ []) (omega (arith, r.0.0), (r.0.1, (omega (arith, r.1), tt)))
plain_behind (entry.Finish t n c) r = plain_fields (t ∷ n ∷ c ∷ []) (omega (arith, r.0.0), (r.0.1, (omega (arith, r.1), tt)))
plain_behind (entry.Mask t r mask) x =
    plain-append (fields (t ∷ r ∷ [])) (32 ∷ mask_text mask) (plain_fields (t ∷ r ∷ []) (omega (arith, x.0.0), (x.0.1, tt)))
    (plain-append (32 ∷ []) (mask_text mask) (plain (32 ∷ []) refl) (mask_plain mask))
plain_behind (entry.Stood t r m at) x =
    plain-append (fields (t ∷ r ∷ m ∷ [])) (at_text at) (plain_fields (t ∷ r ∷ m ∷ []) (omega (arith, x.0.0), (x.0.1, (x.1, tt)))) (at_plain at x.2)
plain_behind (entry.Done t r) x = plain_fields (t ∷ r ∷ []) (omega (arith, x.0), (x.1, tt))
plain_behind (entry.Offline c e) x = plain_fields (c ∷ e ∷ []) (omega (arith, x.0), (x.1, tt))
plain_behind (entry.Up c e) x = plain_fields (c ∷ e ∷ []) (omega (arith, x.0), (x.1, tt))
plain_behind (entry.Refused t state) x = plain_fields (t ∷ state.0 ∷ []) (omega (arith, x.0), (omega (arith, x.1), tt))

-- how the keyword is spelled
abbrev pub name : Keyword → List ℕ
name keyword.New = codes "new"
name keyword.Sleep = codes "sleep"
name keyword.Wake = codes "wake"
name keyword.List = codes "list"
name keyword.Enq = codes "enq"
name keyword.Out = codes "out"
name keyword.In = codes "in"
name keyword.Die = codes "die"
name keyword.Pick = codes "pick"
name keyword.Finish = codes "finish"
name keyword.Mask = codes "mask"
name keyword.Stood = codes "stood"
name keyword.Done = codes "done"
name keyword.Offline = codes "offline"
name keyword.Up = codes "up"
name keyword.Refused = codes "refused"
name keyword.Seat = codes "seat"
name keyword.End = codes "end"

pub name_plain : (k : Keyword) → IsPlain (name k)
name_plain keyword.New = plain (codes "new") refl
name_plain keyword.Sleep = plain (codes "sleep") refl
name_plain keyword.Wake = plain (codes "wake") refl
name_plain keyword.List = plain (codes "list") refl
name_plain keyword.Enq = plain (codes "enq") refl
name_plain keyword.Out = plain (codes "out") refl
name_plain keyword.In = plain (codes "in") refl
name_plain keyword.Die = plain (codes "die") refl
name_plain keyword.Pick = plain (codes "pick") refl
name_plain keyword.Finish = plain (codes "finish") refl
name_plain keyword.Mask = plain (codes "mask") refl
name_plain keyword.Stood = plain (codes "stood") refl
name_plain keyword.Done = plain (codes "done") refl
name_plain keyword.Offline = plain (codes "offline") refl
name_plain keyword.Up = plain (codes "up") refl
name_plain keyword.Refused = plain (codes "refused") refl
name_plain keyword.Seat = plain (codes "seat") refl
name_plain keyword.End = plain (codes "end") refl

pub line_is : (e : Entry) → entry_line e ≡ name (key e) ++ behind e
unfolding entry_line
line_is (entry.New t m c) = refl
line_is (entry.Sleep t m c) = refl
line_is (entry.Wake t m) = refl
line_is (entry.List t m c e) = refl
line_is (entry.Enq t m c by_list) = refl
line_is (entry.Out t m c) = refl
line_is (entry.In t m c) = refl
line_is (entry.Die t m c) = refl
line_is (entry.Pick t n c) = refl
line_is (entry.Finish t n c) = refl
line_is (entry.Mask t r mask) = refl
line_is (entry.Stood t r m at) = refl
line_is (entry.Done t r) = refl
line_is (entry.Offline c e) = refl
line_is (entry.Up c e) = refl
line_is (entry.Refused t state) = refl

pub not_none : (line : List ℕ) → 0 < length line → (0 == length line) ≡ false
not_none line some = grind (arith, nat_tests)

-- a line of a keyword with more behind a space
pub words_of : (p : Progress) (k : Keyword) (rest : List ℕ) → content_after p (name k ++ (32 ∷ rest)) ≡ words_after p (name k) (32 ∷ rest)
unfolding gap_len word_len
words_of p keyword.New rest = ap (λ b. if b then Some p else words_after p (name keyword.New) (32 ∷ rest)) (not_none (name keyword.New ++ (32 ∷ rest)) (omega arith))
words_of p keyword.Sleep rest = ap (λ b. if b then Some p else words_after p (name keyword.Sleep) (32 ∷ rest)) (not_none (name keyword.Sleep ++ (32 ∷ rest)) (omega arith))
words_of p keyword.Wake rest = ap (λ b. if b then Some p else words_after p (name keyword.Wake) (32 ∷ rest)) (not_none (name keyword.Wake ++ (32 ∷ rest)) (omega arith))
words_of p keyword.List rest = ap (λ b. if b then Some p else words_after p (name keyword.List) (32 ∷ rest)) (not_none (name keyword.List ++ (32 ∷ rest)) (omega arith))
words_of p keyword.Enq rest = ap (λ b. if b then Some p else words_after p (name keyword.Enq) (32 ∷ rest)) (not_none (name keyword.Enq ++ (32 ∷ rest)) (omega arith))
words_of p keyword.Out rest = ap (λ b. if b then Some p else words_after p (name keyword.Out) (32 ∷ rest)) (not_none (name keyword.Out ++ (32 ∷ rest)) (omega arith))
words_of p keyword.In rest = ap (λ b. if b then Some p else words_after p (name keyword.In) (32 ∷ rest)) (not_none (name keyword.In ++ (32 ∷ rest)) (omega arith))
words_of p keyword.Die rest = ap (λ b. if b then Some p else words_after p (name keyword.Die) (32 ∷ rest)) (not_none (name keyword.Die ++ (32 ∷ rest)) (omega arith))
words_of p keyword.Pick rest = ap (λ b. if b then Some p else words_after p (name keyword.Pick) (32 ∷ rest)) (not_none (name keyword.Pick ++ (32 ∷ rest)) (omega arith))
words_of p keyword.Finish rest = ap (λ b. if b then Some p else words_after p (name keyword.Finish) (32 ∷ rest)) (not_none (name keyword.Finish ++ (32 ∷ rest)) (omega arith))
words_of p keyword.Mask rest = ap (λ b. if b then Some p else words_after p (name keyword.Mask) (32 ∷ rest)) (not_none (name keyword.Mask ++ (32 ∷ rest)) (omega arith))
words_of p keyword.Stood rest = ap (λ b. if b then Some p else words_after p (name keyword.Stood) (32 ∷ rest)) (not_none (name keyword.Stood ++ (32 ∷ rest)) (omega arith))
words_of p keyword.Done rest = ap (λ b. if b then Some p else words_after p (name keyword.Done) (32 ∷ rest)) (not_none (name keyword.Done ++ (32 ∷ rest)) (omega arith))
words_of p keyword.Offline rest = ap (λ b. if b then Some p else words_after p (name keyword.Offline) (32 ∷ rest)) (not_none (name keyword.Offline ++ (32 ∷ rest)) (omega arith))
words_of p keyword.Up rest = ap (λ b. if b then Some p else words_after p (name keyword.Up) (32 ∷ rest)) (not_none (name keyword.Up ++ (32 ∷ rest)) (omega arith))
words_of p keyword.Refused rest = ap (λ b. if b then Some p else words_after p (name keyword.Refused) (32 ∷ rest)) (not_none (name keyword.Refused ++ (32 ∷ rest)) (omega arith))
words_of p keyword.Seat rest = ap (λ b. if b then Some p else words_after p (name keyword.Seat) (32 ∷ rest)) (not_none (name keyword.Seat ++ (32 ∷ rest)) (omega arith))
words_of p keyword.End rest = ap (λ b. if b then Some p else words_after p (name keyword.End) (32 ∷ rest)) (not_none (name keyword.End ++ (32 ∷ rest)) (omega arith))

pub body_of : (p : Progress) (e : Entry) (rest : List ℕ) → body_after p (name (key e)) rest ≡ with_said p (entry_after (key e) rest)
unfolding body_after change_word_of run_word_of cause_word_of mark_word_of
body_of p (entry.New t m c) rest = refl
body_of p (entry.Sleep t m c) rest = refl
body_of p (entry.Wake t m) rest = refl
body_of p (entry.List t m c e) rest = refl
body_of p (entry.Enq t m c by_list) rest = refl
body_of p (entry.Out t m c) rest = refl
body_of p (entry.In t m c) rest = refl
body_of p (entry.Die t m c) rest = refl
body_of p (entry.Pick t n c) rest = refl
body_of p (entry.Finish t n c) rest = refl
body_of p (entry.Mask t r mask) rest = refl
body_of p (entry.Stood t r m at) rest = refl
body_of p (entry.Done t r) rest = refl
body_of p (entry.Offline c e) rest = refl
body_of p (entry.Up c e) rest = refl
body_of p (entry.Refused t state) rest = refl

-- in the stage of entries
pub at_entries : (p : Progress) (word rest : List ℕ) → p.heading.stage ≡ stage.Entries → words_after p word rest ≡ body_after p word rest
unfolding words_after
at_entries p word rest here = ap (λ (s : Stage). words_at s p word rest) here

-- what is behind the keyword begins with a space
spaced : (e : Entry) → (rest : List ℕ) × (behind e ≡ 32 ∷ rest)
spaced (entry.New t m c) = (_, refl)
spaced (entry.Sleep t m c) = (_, refl)
spaced (entry.Wake t m) = (_, refl)
spaced (entry.List t m c e) = (_, refl)
spaced (entry.Enq t m c by_list) = (_, refl)
spaced (entry.Out t m c) = (_, refl)
spaced (entry.In t m c) = (_, refl)
spaced (entry.Die t m c) = (_, refl)
spaced (entry.Pick t n c) = (_, refl)
spaced (entry.Finish t n c) = (_, refl)
spaced (entry.Mask t r mask) = (_, refl)
spaced (entry.Stood t r m at) = (_, refl)
spaced (entry.Done t r) = (_, refl)
spaced (entry.Offline c e) = (_, refl)
spaced (entry.Up c e) = (_, refl)
spaced (entry.Refused t state) = (_, refl)

pub entry_line_back : (p : Progress) (e : Entry) → IsReadable e → p.heading.stage ≡ stage.Entries → line_after p (entry_line e) ≡ Some (with_entry p e)
entry_line_back p e r here =
    let all : IsPlain (name (key e) ++ behind e) = plain-append (name (key e)) (behind e) (name_plain (key e)) (plain_behind e r) in
    ap (line_after p) (line_is e) ∙ content_of p (name (key e) ++ behind e) all
    ∙ ap (λ rest. content_after p (name (key e) ++ rest)) (spaced e).1 ∙ words_of p (key e) (spaced e).0
    ∙ ap (words_after p (name (key e))) (sym (spaced e).1) ∙ at_entries p (name (key e)) (behind e) here
    ∙ body_of p e (behind e) ∙ ap (with_said p) (entry_back e r)

pub plain_entry_line : (e : Entry) → IsReadable e → IsPlain (entry_line e)
plain_entry_line e r = subst IsPlain (sym (line_is e)) (plain-append (name (key e)) (behind e) (name_plain (key e)) (plain_behind e r))
