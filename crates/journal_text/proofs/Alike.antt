-- What stands behind a word is read alike where its fields are.
use Rattle.std.proofs.Common.{◌≡◌, ◌==◌, ℕ, ◌+◌, ◌^◌, Bool, true, false, ◌&&◌, List, [], ◌∷◌, Option, Some, None, length, ap, sym, ◌∙◌, refl, arith, subst, if◌then◌else◌, nat_lt, nat_le}
use Rattle.std.specs.Prelude.{codes}
use Rattle.std.specs.Str.{bytes_eq}
use Rattle.std.proofs.lemmas.Bool.Decides.{nat_tests}
use Rattle.handoff_data.specs.declared.entry.Entry.TheVariants as entry
use Rattle.handoff_data.specs.declared.mask.CpuMask.{CpuMask}
use Rattle.journal_text.specs.declared.heading.Heading.{Heading}
use Rattle.journal_text.specs.declared.heading.Stage.{Stage}
use Rattle.journal_text.specs.declared.heading.Stage.TheVariants as stage
use Rattle.journal_text.specs.declared.keyword.Keyword.{Keyword}
use Rattle.journal_text.specs.declared.keyword.Keyword.TheVariants as keyword
use Rattle.journal_text.specs.Entries.{by_list_of, mask_of, at_of, list_of, enq_of, set_mask_of, stood_of, refused_of, entry_after}
use Rattle.journal_text.specs.Fields.{◌>>=◌, field_at, gap_len, number_of, u64_at, u32_at, one_of, two_of, three_of, ended}
use Rattle.journal_text.specs.Headings.{number_after, heading_at, heading_after}
use Rattle.journal_text.specs.Keywords.{keyword_of}
use Rattle.journal_text.specs.Lines.{Progress, with_said, with_entry, closed, is_next, is_last, body_by, body_after, words_at, words_after}
use Rattle.journal_text.proofs.TextBack.{bind_some}

-- whatever the one word says, the other does too
pub record AlikeWord (word word' : List ℕ) : Type 0 where
  pub number : (n : ℕ) → number_of word ≡ Some n → number_of word' ≡ Some n
  pub by_list : (b : Bool) → by_list_of word ≡ Some b → by_list_of word' ≡ Some b
  pub mask : (mask : CpuMask) → mask_of word ≡ Some mask → mask_of word' ≡ Some mask
  pub at : (at : Option ℕ) → at_of word ≡ Some at → at_of word' ≡ Some at

pub same_word : (word word' : List ℕ) → word ≡ word' → AlikeWord word word'
same_word word word' e = record {
  number = λ n is. ap number_of (sym e) ∙ is;
  by_list = λ b is. ap by_list_of (sym e) ∙ is;
  mask = λ m is. ap mask_of (sym e) ∙ is;
  at = λ a is. ap at_of (sym e) ∙ is;
}

-- the fields of the one say what those of the other do
pub data Alike : List ℕ → List ℕ → Type 0 where
  equal : (rest rest' : List ℕ) → rest ≡ rest' → Alike rest rest'
  further : (rest rest' word word' more more' : List ℕ) → field_at rest ≡ Some (word, more) → field_at rest' ≡ Some (word', more')
      → AlikeWord word word' → Alike more more' → Alike rest rest'

-- ---- one field

record AlikeField (rest' word more : List ℕ) : Type 0 where
  word' : List ℕ
  more' : List ℕ
  is : field_at rest' ≡ Some (word', more')
  words : AlikeWord word word'
  rests : Alike more more'

abbrev pair_or : Option (List ℕ × List ℕ) → List ℕ × List ℕ
pair_or None = ([], [])
pair_or (Some x) = x

field_alike : (rest rest' : List ℕ) → Alike rest rest' → (word more : List ℕ) → field_at rest ≡ Some (word, more) → AlikeField rest' word more
field_alike _ _ (equal rest rest' e) word more is =
    record { word' = word; more' = more; is = ap field_at (sym e) ∙ is; words = same_word word word refl; rests = equal more more refl }
field_alike _ _ (further rest rest' w w' m m' is is' words rests) word more got =
    let both : Some (w, m) ≡ Some (word, more) = sym is ∙ got in
    let ww : w ≡ word = ap (λ o. (pair_or o).0) both in
    let mm : m ≡ more = ap (λ o. (pair_or o).1) both in
    record {
      word' = w';
      more' = m';
      is = is';
      words = subst (λ (x : List ℕ). AlikeWord x w') ww words;
      rests = subst (λ (x : List ℕ). Alike x m') mm rests;
    }

-- ---- readers of fields

-- the reader takes from the one what it takes from the other, and goes on alike
abbrev pub Follows : {A : Type 0} → (List ℕ → Option (A × List ℕ)) → Type 0
Follows {A} parse = (rest rest' : List ℕ) → Alike rest rest' → (x : A) (more : List ℕ) → parse rest ≡ Some (x, more)
    → (more' : List ℕ) × (parse rest' ≡ Some (x, more')) × Alike more more'

-- the reader makes of the one what it makes of the other
abbrev pub Ends : {A : Type 0} → (List ℕ → Option A) → Type 0
Ends {A} parse = (rest rest' : List ℕ) → Alike rest rest' → (x : A) → parse rest ≡ Some x → parse rest' ≡ Some x

bind_ends : {A B : Type 0} (f : List ℕ → Option (A × List ℕ)) (g : A → List ℕ → Option B) → Follows f → ((x : A) → Ends (g x)) → Ends (λ rest. f rest >>= λ v. g v.0 v.1)
bind_ends f g follows ends rest rest' alike y is =
    let s = bind_some (f rest) (λ v. g v.0 v.1) y is in
    let next = follows rest rest' alike s.between.0 s.between.1 s.first in
    ap (λ o. o >>= λ v. g v.0 v.1) next.1 ∙ ends s.between.0 s.between.1 next.0 next.2 y s.second

word_ends : {A B : Type 0} (f : List ℕ → Option A) (g : A → List ℕ → Option B) → ((w w' : List ℕ) → AlikeWord w w' → (x : A) → f w ≡ Some x → f w' ≡ Some x)
    → ((x : A) → Ends (g x)) → Ends (λ rest. field_at rest >>= λ word. f word.0 >>= λ x. g x word.1)
word_ends f g says ends rest rest' alike y is =
    let s = bind_some (field_at rest) (λ word. f word.0 >>= λ x. g x word.1) y is in
    let t = bind_some (f s.between.0) (λ x. g x s.between.1) y s.second in
    let next = field_alike rest rest' alike s.between.0 s.between.1 s.first in
    ap (λ o. o >>= λ word. f word.0 >>= λ x. g x word.1) next.is
    ∙ ap (λ o. o >>= λ x. g x next.more') (says s.between.0 next.word' next.words t.between t.first)
    ∙ ends t.between s.between.1 next.more' next.rests y t.second

map_ends : {A B : Type 0} (f : List ℕ → Option A) (h : A → Option B) → Ends f → Ends (λ rest. f rest >>= h)
map_ends f h ends rest rest' alike y is =
    let s = bind_some (f rest) h y is in
    ap (λ o. o >>= h) (ends rest rest' alike s.between s.first) ∙ s.second

-- nothing stands there, in both
none_field : (word more : List ℕ) → field_at [] ≡ Some (word, more) → ⊥
unfolding field_at gap_len
none_field word more is = absurd cc

pub both_end : (rest rest' : List ℕ) → Alike rest rest' → rest ≡ [] → rest' ≡ []
both_end _ _ (equal rest rest' e) none = sym e ∙ none
both_end _ _ (further rest rest' w w' m m' is is' words rests) none =
    absurd (none_field w m (ap field_at (sym none) ∙ is))

ended_nil : {A : Type 0} (x y : A) (rest : List ℕ) → ended x rest ≡ Some y → rest ≡ []
ended_nil x y [] is = refl
ended_nil x y (b ∷ rest) is = absurd cc

ended_ends : {A : Type 0} (x : A) → Ends (ended x)
ended_ends x rest rest' alike y is =
    let none = ended_nil x y rest is in
    ap (ended x) (both_end rest rest' alike none ∙ sym none) ∙ is

abbrev number_or : Option (ℕ × List ℕ) → ℕ × List ℕ
number_or None = (0, [])
number_or (Some x) = x

u64_follows : Follows u64_at
unfolding u64_at
u64_follows rest rest' alike n more is =
    let s = bind_some (field_at rest) (λ word. number_of word.0 >>= λ n. Some (n, word.1)) (n, more) is in
    let t = bind_some (number_of s.between.0) (λ n. Some (n, s.between.1)) (n, more) s.second in
    let next = field_alike rest rest' alike s.between.0 s.between.1 s.first in
    let both : Some (t.between, s.between.1) ≡ Some (n, more) = t.second in
    let nn : t.between ≡ n = ap (λ o. (number_or o).0) both in
    let mm : s.between.1 ≡ more = ap (λ o. (number_or o).1) both in (
      next.more',
      ap (λ o. o >>= λ word. number_of word.0 >>= λ n. Some (n, word.1)) next.is
          ∙ ap (λ o. o >>= λ n. Some (n, next.more')) (next.words.number t.between t.first)
          ∙ ap (λ (x : ℕ). Some (x, next.more')) nn,
      subst (λ (x : List ℕ). Alike x next.more') mm next.rests,
    )

if_some : {A : Type 0} (b : Bool) (x y : A) → (if b then Some x else None) ≡ Some y → (b ≡ true) × (x ≡ y)
if_some true x y is = (refl, some_same x y is)
  where
    some_same : {A : Type 0} (x y : A) → ◌≡◌ {A = Option A} (Some x) (Some y) → x ≡ y
    some_same x y e = cc
if_some false x y is = absurd cc

u32_follows : Follows u32_at
unfolding u32_at
u32_follows rest rest' alike n more is =
    let s = bind_some (u64_at rest) (λ n. if nat_lt n.0 (2 ^ 32) then Some n else None) (n, more) is in
    let fits = if_some (nat_lt s.between.0 (2 ^ 32)) s.between (n, more) s.second in
    let next = u64_follows rest rest' alike s.between.0 s.between.1 s.first in
    let nn : s.between.0 ≡ n = ap (λ (v : ℕ × List ℕ). v.0) fits.1 in
    let mm : s.between.1 ≡ more = ap (λ (v : ℕ × List ℕ). v.1) fits.1 in (
      next.0,
      ap (λ o. o >>= λ n. if nat_lt n.0 (2 ^ 32) then Some n else None) next.1
          ∙ ap (λ b. if b then Some (s.between.0, next.0) else None) fits.0
          ∙ ap (λ (x : ℕ). Some (x, next.0)) nn,
      subst (λ (x : List ℕ). Alike x next.0) mm next.2,
    )

one_ends : Ends one_of
unfolding one_of
one_ends = bind_ends u64_at (λ n rest. ended n rest) u64_follows (λ n. ended_ends n)

two_ends : Ends two_of
unfolding two_of
two_ends =
    bind_ends u32_at (λ t rest. u64_at rest >>= λ m. ended (t, m.0) m.1) u32_follows
    (λ t. bind_ends u64_at (λ m rest. ended (t, m) rest) u64_follows (λ m. ended_ends (t, m)))

three_ends : Ends three_of
unfolding three_of
three_ends =
    bind_ends u32_at (λ t rest. u64_at rest >>= λ m. u32_at m.1 >>= λ c. ended (t, m.0, c.0) c.1) u32_follows
    (λ t. bind_ends u64_at (λ m rest. u32_at rest >>= λ c. ended (t, m, c.0) c.1) u64_follows
    (λ m. bind_ends u32_at (λ c rest. ended (t, m, c) rest) u32_follows (λ c. ended_ends (t, m, c))))

list_ends : Ends list_of
unfolding list_of
list_ends =
    bind_ends u32_at (λ t rest. u64_at rest >>= λ m. u32_at m.1 >>= λ c. u64_at c.1 >>= λ e. ended (entry.List t m.0 c.0 e.0) e.1) u32_follows
    (λ t. bind_ends u64_at (λ m rest. u32_at rest >>= λ c. u64_at c.1 >>= λ e. ended (entry.List t m c.0 e.0) e.1) u64_follows
    (λ m. bind_ends u32_at (λ c rest. u64_at rest >>= λ e. ended (entry.List t m c e.0) e.1) u32_follows
    (λ c. bind_ends u64_at (λ e rest. ended (entry.List t m c e) rest) u64_follows (λ e. ended_ends (entry.List t m c e)))))

enq_ends : Ends enq_of
unfolding enq_of
enq_ends =
    bind_ends u32_at (λ t rest. u64_at rest >>= λ m. u32_at m.1 >>= λ c. field_at c.1 >>= λ word. by_list_of word.0 >>= λ b. ended (entry.Enq t m.0 c.0 b) word.1) u32_follows
    (λ t. bind_ends u64_at (λ m rest. u32_at rest >>= λ c. field_at c.1 >>= λ word. by_list_of word.0 >>= λ b. ended (entry.Enq t m c.0 b) word.1) u64_follows
    (λ m. bind_ends u32_at (λ c rest. field_at rest >>= λ word. by_list_of word.0 >>= λ b. ended (entry.Enq t m c b) word.1) u32_follows
    (λ c. word_ends by_list_of (λ b rest. ended (entry.Enq t m c b) rest) (λ w w' alike. alike.by_list) (λ b. ended_ends (entry.Enq t m c b)))))

set_mask_ends : Ends set_mask_of
unfolding set_mask_of
set_mask_ends =
    bind_ends u32_at (λ t rest. u64_at rest >>= λ r. field_at r.1 >>= λ word. mask_of word.0 >>= λ mask. ended (entry.Mask t r.0 mask) word.1) u32_follows
    (λ t. bind_ends u64_at (λ r rest. field_at rest >>= λ word. mask_of word.0 >>= λ mask. ended (entry.Mask t r mask) word.1) u64_follows
    (λ r. word_ends mask_of (λ mask rest. ended (entry.Mask t r mask) rest) (λ w w' alike. alike.mask) (λ mask. ended_ends (entry.Mask t r mask))))

stood_ends : Ends stood_of
unfolding stood_of
stood_ends =
    bind_ends u32_at (λ t rest. u64_at rest >>= λ r. u64_at r.1 >>= λ m. field_at m.1 >>= λ word. at_of word.0 >>= λ at. ended (entry.Stood t r.0 m.0 at) word.1) u32_follows
    (λ t. bind_ends u64_at (λ r rest. u64_at rest >>= λ m. field_at m.1 >>= λ word. at_of word.0 >>= λ at. ended (entry.Stood t r m.0 at) word.1) u64_follows
    (λ r. bind_ends u64_at (λ m rest. field_at rest >>= λ word. at_of word.0 >>= λ at. ended (entry.Stood t r m at) word.1) u64_follows
    (λ m. word_ends at_of (λ at rest. ended (entry.Stood t r m at) rest) (λ w w' alike. alike.at) (λ at. ended_ends (entry.Stood t r m at)))))

refused_ends : Ends refused_of
unfolding refused_of
refused_ends = map_ends two_of (λ x. if nat_lt x.1 (2 ^ 16) then Some (entry.Refused x.0 record { 0 = x.1 }) else None) two_ends

entry_ends : (k : Keyword) → Ends (entry_after k)
unfolding entry_after
entry_ends keyword.New = map_ends three_of (λ x. Some (entry.New x.0 x.1 x.2)) three_ends
entry_ends keyword.Sleep = map_ends three_of (λ x. Some (entry.Sleep x.0 x.1 x.2)) three_ends
entry_ends keyword.Wake = map_ends two_of (λ x. Some (entry.Wake x.0 x.1)) two_ends
entry_ends keyword.List = list_ends
entry_ends keyword.Enq = enq_ends
entry_ends keyword.Out = map_ends three_of (λ x. Some (entry.Out x.0 x.1 x.2)) three_ends
entry_ends keyword.In = map_ends three_of (λ x. Some (entry.In x.0 x.1 x.2)) three_ends
entry_ends keyword.Die = map_ends three_of (λ x. Some (entry.Die x.0 x.1 x.2)) three_ends
entry_ends keyword.Pick = map_ends three_of (λ x. Some (entry.Pick x.0 x.1 x.2)) three_ends
entry_ends keyword.Finish = map_ends three_of (λ x. Some (entry.Finish x.0 x.1 x.2)) three_ends
entry_ends keyword.Mask = set_mask_ends
entry_ends keyword.Stood = stood_ends
entry_ends keyword.Done = map_ends two_of (λ x. Some (entry.Done x.0 x.1)) two_ends
entry_ends keyword.Offline = map_ends two_of (λ x. Some (entry.Offline x.0 x.1)) two_ends
entry_ends keyword.Up = map_ends two_of (λ x. Some (entry.Up x.0 x.1)) two_ends
entry_ends keyword.Refused = refused_ends
entry_ends keyword.Seat = λ rest rest' alike y is. is
entry_ends keyword.End = λ rest rest' alike y is. is

-- ---- lines behind their first word

said_ends : (k : Keyword) (p : Progress) → Ends (λ rest. with_said p (entry_after k rest))
said_ends k p = map_ends (entry_after k) (λ e. Some (with_entry p e)) (entry_ends k)

seat_by : (said said' : Option ℕ) (p q : Progress) → ((i : ℕ) → said ≡ Some i → said' ≡ Some i)
    → (if is_next said p then Some (closed p) else None) ≡ Some q → (if is_next said' p then Some (closed p) else None) ≡ Some q
seat_by None said' p q says is = absurd cc
seat_by (Some i) said' p q says is = ap (λ o. if is_next o p then Some (closed p) else None) (says i refl) ∙ is

some_or_none : (rest : List ℕ) (b : Bool) → (length rest == 0) ≡ b → b ≡ true → rest ≡ []
some_or_none [] b e is = refl
some_or_none (x ∷ rest) b e is = absurd (grind (arith, nat_tests, e, is))

end_by : (rest rest' : List ℕ) → Alike rest rest' → (p : Progress) (done q : Progress) → (if is_last rest p then Some done else None) ≡ Some q → (if is_last rest' p then Some done else None) ≡ Some q
end_by rest rest' alike p done q is =
    let test = if_some (is_last rest p) done q is in
    let first : (length rest == 0) ≡ true = and_left (length rest == 0) (length p.whole + 1 == p.heading.seats) test.0 in
    let none = some_or_none rest true first refl in
    ap (λ (x : List ℕ). if is_last x p then Some done else None) (both_end rest rest' alike none ∙ sym none) ∙ is
  where
    and_left : (a b : Bool) → (a && b) ≡ true → a ≡ true
    and_left true b e = refl
    and_left false b e = e

body_ends : (k : Keyword) (p : Progress) → Ends (body_by k p)
body_ends keyword.Seat p = λ rest rest' alike q is. seat_by (one_of rest) (one_of rest') p q (λ i. one_ends rest rest' alike i) is
body_ends keyword.End p = λ rest rest' alike q is. end_by rest rest' alike p (record (closed p) { heading = record p.heading { stage = stage.Done } }) q is
body_ends keyword.New p = said_ends keyword.New p
body_ends keyword.Sleep p = said_ends keyword.Sleep p
body_ends keyword.Wake p = said_ends keyword.Wake p
body_ends keyword.List p = said_ends keyword.List p
body_ends keyword.Enq p = said_ends keyword.Enq p
body_ends keyword.Out p = said_ends keyword.Out p
body_ends keyword.In p = said_ends keyword.In p
body_ends keyword.Die p = said_ends keyword.Die p
body_ends keyword.Pick p = said_ends keyword.Pick p
body_ends keyword.Finish p = said_ends keyword.Finish p
body_ends keyword.Mask p = said_ends keyword.Mask p
body_ends keyword.Stood p = said_ends keyword.Stood p
body_ends keyword.Done p = said_ends keyword.Done p
body_ends keyword.Offline p = said_ends keyword.Offline p
body_ends keyword.Up p = said_ends keyword.Up p
body_ends keyword.Refused p = said_ends keyword.Refused p

found_ends : (found : Option Keyword) (p : Progress) → Ends (λ rest. found >>= λ k. body_by k p rest)
found_ends None p rest rest' alike q is = absurd cc
found_ends (Some k) p rest rest' alike q is = body_ends k p rest rest' alike q is

number_ends : (b : Bool) → Ends (λ rest. if b then one_of rest else None)
number_ends true = one_ends
number_ends false = λ rest rest' alike x is. is

after_ends : (expected word : List ℕ) → Ends (number_after expected word)
after_ends expected word = number_ends (bytes_eq word expected)

heading_ends : (s : Stage) (h : Heading) (word : List ℕ) → Ends (heading_at s h word)
heading_ends stage.Version h word = map_ends (number_after (codes "journal") word) (λ n. if n == 1 then Some (record h { stage = stage.Cpus }) else None) (after_ends (codes "journal") word)
heading_ends stage.Cpus h word =
    map_ends (number_after (codes "cpus") word) (λ n. if nat_le 1 n && nat_le n 16 then Some (record h { stage = stage.Tasks; cpus = n }) else None) (after_ends (codes "cpus") word)
heading_ends stage.Tasks h word =
    map_ends (number_after (codes "tasks") word) (λ n. if nat_le n 200 then Some (record h { stage = stage.Seats; tasks = n }) else None) (after_ends (codes "tasks") word)
heading_ends stage.Seats h word =
    map_ends (number_after (codes "seats") word)
    (λ n. if nat_le h.cpus n && nat_le n (h.cpus + 4) && nat_le n 20 then Some (record h { stage = stage.FirstSeat; seats = n }) else None) (after_ends (codes "seats") word)
heading_ends stage.FirstSeat h word = map_ends (number_after (codes "seat") word) (λ n. if n == 0 then Some (record h { stage = stage.Entries }) else None) (after_ends (codes "seat") word)
heading_ends stage.Entries h word = λ rest rest' alike x is. is
heading_ends stage.Done h word = λ rest rest' alike x is. is

head_ends : (p : Progress) (word : List ℕ) → Ends (λ rest. heading_after p.heading word rest >>= λ h. Some (record p { heading = h }))
unfolding heading_after
head_ends p word = map_ends (heading_at p.heading.stage p.heading word) (λ h. Some (record p { heading = h })) (heading_ends p.heading.stage p.heading word)

at_ends : (s : Stage) (p : Progress) (word : List ℕ) → Ends (words_at s p word)
unfolding body_after
at_ends stage.Entries p word = found_ends (keyword_of word) p
at_ends stage.Version p word = head_ends p word
at_ends stage.Cpus p word = head_ends p word
at_ends stage.Tasks p word = head_ends p word
at_ends stage.Seats p word = head_ends p word
at_ends stage.FirstSeat p word = head_ends p word
at_ends stage.Done p word = head_ends p word

-- what a line says behind its first word
pub words_end : (p : Progress) (word : List ℕ) → Ends (words_after p word)
unfolding words_after
words_end p word = at_ends p.heading.stage p word
