-- Where lines and words end, and what bytes a line has.
use Rattle.std.proofs.Common.{◌≡◌, ◌≢◌, ℕ, zero, suc, ◌+◌, ◌-◌, ◌<◌, ◌≤◌, ◌==◌, Bool, true, false, cond, List, [], ◌∷◌, ◌++◌, length, get_or, take, drop, refl, sym, ap, subst, ◌∙◌, arith}
use Rattle.std.specs.List.{filter, All, list_all}
use Rattle.std.specs.Char.{is_ascii_lowercase}
use Rattle.std.proofs.lemmas.Bool.{eqb-true, eqb-false, eq-eqb, ne_eqb, le-leb, false_from_ne_true, false≢true}
use Rattle.std.proofs.lemmas.List.{take-append-drop, drop_more, get_or-take, get_or_default, length-take, take_rest, drop_all, nil_from_length, length-append, get_or_append_left}
use Rattle.std.proofs.lemmas.List.Splits.{slice_split_at, slice_split_none}
use Rattle.memchr.specs.Find.{Nowhere, NoneBefore, Passes, is_byte, is_byte2}
use Rattle.handoff_data.specs.Line.{IsLine}
use Rattle.task_script.specs.Lines.{input_lines, before_returns, without_returns, is_blank, skip_blanks, has_bytes, words}
use Rattle.task_script.specs.Forms.{is_name, is_name_byte}

-- the first line ends at the first line feed
pub line_ends : (line bytes : List ℕ) → All (λ b. b ≢ 10) line → input_lines (line ++ 10 ∷ bytes) ≡ line ∷ input_lines bytes
line_ends [] bytes none = refl
line_ends (byte ∷ line) bytes none =
    rw (ne_eqb byte 10 (none 0 0 (omega arith)), line_ends line bytes (λ k d lt. none (suc k) d (omega arith))) refl

-- without one there is one line
pub one_line : (bytes : List ℕ) → 0 < length bytes → All (λ b. b ≢ 10) bytes → input_lines bytes ≡ bytes ∷ []
one_line [] some none = absurd (omega arith)
one_line (byte ∷ []) some none = rw (ne_eqb byte 10 (none 0 0 (omega arith))) refl
one_line (byte ∷ next ∷ bytes) some none =
    rw (ne_eqb byte 10 (none 0 0 (omega arith)), one_line (next ∷ bytes) (omega arith) (λ k d lt. none (suc k) d (omega arith))) refl

-- no byte up to the place found is the one sought
pub none_up_to : (byte : ℕ) (bytes : List ℕ) (end : ℕ) → end ≤ length bytes → Nowhere (Passes (is_byte byte) bytes) 0 end → All (λ b. b ≢ byte) (take end bytes)
none_up_to byte bytes end fits none k d lt e =
    let below : k < end = omega (arith, length-take end bytes) in
    none k (omega arith) below (eq-eqb _ _ (get_or_default bytes k 0 d (omega arith) ∙ sym (get_or-take end bytes k d below) ∙ e))

pub none_at_all : (byte : ℕ) (bytes : List ℕ) → Nowhere (Passes (is_byte byte) bytes) 0 (length bytes) → All (λ b. b ≢ byte) bytes
none_at_all byte bytes none k d lt e = none k (omega arith) lt (eq-eqb _ _ (get_or_default bytes k 0 d lt ∙ e))

-- the bytes, parted at the place found
pub parted : (byte : ℕ) (bytes : List ℕ) (end : ℕ) → end < length bytes → Passes (is_byte byte) bytes end → bytes ≡ take end bytes ++ byte ∷ drop (end + 1) bytes
parted byte bytes end lt hit =
    sym (take-append-drop end bytes) ∙ ap (λ (r : List ℕ). take end bytes ++ r) (drop_more bytes end 0 lt ∙ ap (λ (b : ℕ). b ∷ drop (end + 1) bytes) (eqb-true _ _ hit))

pub line_found : (bytes : List ℕ) (end : ℕ) → NoneBefore (Passes (is_byte 10) bytes) 0 (length bytes) end → Passes (is_byte 10) bytes end
    → input_lines bytes ≡ take end bytes ∷ input_lines (take (length bytes - (end + 1)) (drop (end + 1) bytes))
line_found bytes end first hit =
    rw take_rest (ap input_lines (parted 10 bytes end first.high hit) ∙ line_ends (take end bytes) (drop (end + 1) bytes) (none_up_to 10 bytes end (omega arith) first.before))

pub last_line : (bytes : List ℕ) → (length bytes == 0) ≡ false → Nowhere (Passes (is_byte 10) bytes) 0 (length bytes)
    → input_lines bytes ≡ bytes ∷ input_lines (take (length bytes - length bytes) (drop (length bytes) bytes))
last_line bytes some none =
    rw (take_rest, drop_all (length bytes) bytes (omega arith)) (one_line bytes (omega (arith, eqb-false _ _ some)) (none_at_all 10 bytes none))

-- ---- names

pub name_is : (bytes : List ℕ) (first : ℕ) (rest : List ℕ) (all : Bool) → bytes ≡ first ∷ rest → is_ascii_lowercase first ≡ true → length rest ≤ 15
    → all ≡ list_all is_name_byte rest → all ≡ is_name bytes
name_is bytes first rest all is low short e = rw (is, low, le-leb (length rest) 15 short) e

-- ---- carriage returns and blanks

pub without_return : (front : List ℕ) → without_returns (front ++ 13 ∷ []) ≡ without_returns front
without_return [] = refl
without_return (byte ∷ front) = ap (before_returns byte) (without_return front)

pub kept_last : (front : List ℕ) (last : ℕ) → last ≢ 13 → without_returns (front ++ last ∷ []) ≡ front ++ last ∷ []
kept_last [] last other = rw (ne_eqb last 13 other) refl
kept_last (byte ∷ []) last other = rw (ne_eqb last 13 other) refl
kept_last (byte ∷ next ∷ front) last other = rw (kept_last (next ∷ front) last other) refl

pub kept_line : (line front : List ℕ) (last : ℕ) → line ≡ front ++ last ∷ [] → last ≢ 13 → without_returns line ≡ line
kept_line line front last is other = ap without_returns is ∙ kept_last front last other ∙ sym is

pub front_line : (line front : List ℕ) (last : ℕ) → line ≡ front ++ last ∷ [] → last ≡ 13 → without_returns front ≡ without_returns line
front_line line front last is return = sym (ap without_returns (is ∙ ap (λ (b : ℕ). front ++ b ∷ []) return) ∙ without_return front)

pub front_feeds : (line front : List ℕ) (last : ℕ) → line ≡ front ++ last ∷ [] → IsLine line → IsLine front
front_feeds line front last is none k d lt e =
    let longer : k < length line = omega (arith, ap length is, length-append front (last ∷ [])) in
    none k d longer (rw is (get_or_append_left front (last ∷ []) d k lt ∙ e))

skip_one : (byte : ℕ) (line : List ℕ) → words (skip_blanks line) ≡ words line → (b : Bool) → is_blank byte ≡ b
    → words (cond b (skip_blanks line) (byte ∷ line)) ≡ words (byte ∷ line)
skip_one byte line rest true e = rw e rest
skip_one byte line rest false e = refl

skip_words : (line : List ℕ) → words (skip_blanks line) ≡ words line
skip_words [] = refl
skip_words (byte ∷ line) = skip_one byte line (skip_words line) (is_blank byte) refl

keep_one : (byte : ℕ) (line : List ℕ) → (0 < length (skip_blanks line) → is_blank (get_or (skip_blanks line) 0 0) ≡ false) → (b : Bool) → is_blank byte ≡ b
    → 0 < length (cond b (skip_blanks line) (byte ∷ line)) → is_blank (get_or (cond b (skip_blanks line) (byte ∷ line)) 0 0) ≡ false
keep_one byte line rest true e some = rest some
keep_one byte line rest false e some = e

first_kept : (line : List ℕ) → 0 < length (skip_blanks line) → is_blank (get_or (skip_blanks line) 0 0) ≡ false
first_kept [] some = absurd (omega arith)
first_kept (byte ∷ line) some = keep_one byte line (first_kept line) (is_blank byte) refl some

positive : (n : ℕ) → (n ≡ 0 → ⊥) → 0 < n
positive zero h = absurd (h refl)
positive (suc n) h = omega arith

pub no_words : (line rest : List ℕ) → rest ≡ skip_blanks line → (length rest == 0) ≡ true → words line ≡ []
no_words line rest is none =
    sym (skip_words line) ∙ ap words (sym is) ∙ ap words (nil_from_length rest (eqb-true _ _ none))

has_some : (bytes : List ℕ) → 0 < length bytes → has_bytes bytes ≡ true
has_some [] some = absurd (omega arith)
has_some (byte ∷ bytes) some = refl

none_pass : (p : ℕ → Bool) (bytes : List ℕ) (end : ℕ) → end ≤ length bytes → Nowhere (Passes p bytes) 0 end → All (λ b. p b ≡ false) (take end bytes)
none_pass p bytes end fits none k d lt =
    let below : k < end = omega (arith, length-take end bytes) in
    let at : get_or (take end bytes) k d ≡ get_or bytes k 0 = get_or-take end bytes k d below ∙ get_or_default bytes k d 0 (omega arith) in
    false_from_ne_true _ (λ yes. none k (omega arith) below (sym (ap p at) ∙ yes))

cut_at : (bytes : List ℕ) (end : ℕ) → end < length bytes → bytes ≡ take end bytes ++ get_or bytes end 0 ∷ drop (end + 1) bytes
cut_at bytes end lt = sym (take-append-drop end bytes) ∙ ap (λ (r : List ℕ). take end bytes ++ r) (drop_more bytes end 0 lt)

pub word_found : (line rest : List ℕ) (end : ℕ) → rest ≡ skip_blanks line → (length rest == 0) ≡ false
    → NoneBefore (Passes (is_byte2 32 9) rest) 0 (length rest) end → Passes (is_byte2 32 9) rest end
    → words line ≡ take end rest ∷ words (take (length rest - (end + 1)) (drop (end + 1) rest))
word_found line rest end is some first hit =
    let long : 0 < length rest = omega (arith, eqb-false _ _ some) in
    let begins : is_blank (get_or rest 0 0) ≡ false = rw is (first_kept line (subst (λ (r : List ℕ). 0 < length r) is long)) in
    let far : 0 < end = positive end (λ z. false≢true (sym begins ∙ ap (λ (k : ℕ). is_blank (get_or rest k 0)) (sym z) ∙ hit)) in
    let whole : 0 < length (take end rest) = let h = first.high in omega (arith, length-take end rest) in
    let parts = slice_split_at is_blank (take end rest) (get_or rest end 0) (drop (end + 1) rest) (none_pass is_blank rest end (omega arith) first.before) hit in
    rw take_rest (sym (skip_words line) ∙ ap words (sym is) ∙ ap words (cut_at rest end first.high) ∙ ap (filter has_bytes) parts
    ∙ rw (has_some (take end rest) whole) refl)

pub last_word : (line rest : List ℕ) → rest ≡ skip_blanks line → (length rest == 0) ≡ false → Nowhere (Passes (is_byte2 32 9) rest) 0 (length rest)
    → words line ≡ rest ∷ words (take (length rest - length rest) (drop (length rest) rest))
last_word line rest is some none =
    let all : All (λ b. is_blank b ≡ false) rest = λ k d lt. false_from_ne_true _ (λ yes. none k (omega arith) lt (sym (ap is_blank (get_or_default rest k d 0 lt)) ∙ yes)) in
    rw (take_rest, drop_all (length rest) rest (omega arith)) (sym (skip_words line) ∙ ap words (sym is) ∙ ap (filter has_bytes) (slice_split_none is_blank rest all)
    ∙ rw (has_some rest (omega (arith, eqb-false _ _ some))) refl)
