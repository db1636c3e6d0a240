-- A line of words with one space between each two: its words, and that nothing of it is dropped at its ends.
use Rattle.std.proofs.Common.{◌≡◌, ◌≢◌, ℕ, false, List, [], ◌∷◌, ◌++◌, Some, None, refl, ap, ◌∙◌, All, arith}
use Rattle.std.specs.List.{slice_split, filter, last_or, AllByRecursion, flat_map}
use Rattle.std.proofs.lemmas.Bool.{ne_eqb}
use Rattle.std.proofs.lemmas.List.{append-nil}
use Rattle.std.proofs.lemmas.List.Elements.{All-head, All-tail, All-cons, All-append, All-same}
use Rattle.std.proofs.lemmas.List.Splits.{slice_split_at, slice_split_none}
use Rattle.handoff_data.specs.Line.{IsLine}
use Rattle.task_script.specs.Lines.{before_returns, without_returns, is_blank, has_bytes, words}
use Rattle.task_script.specs.Valid.{IsWord}
use Rattle.script_writer.specs.Spelling.{behind_space, spaced}

-- ---- words

not_blank : (byte : ℕ) → byte ≢ 32 → byte ≢ 9 → is_blank byte ≡ false
not_blank byte space tab = rw (ne_eqb byte 32 space, ne_eqb byte 9 tab) refl

none_blank : (word : List ℕ) → IsWord word → All (λ byte. is_blank byte ≡ false) word
none_blank word w k d lt = let plain = w.no_blank k d lt in not_blank _ plain.1 plain.2

-- a line of words is parted at its spaces
split_words : (word : List ℕ) (more : List (List ℕ)) → IsWord word → AllByRecursion IsWord more
    → slice_split is_blank (spaced (word ∷ more)) ≡ word ∷ more
split_words word [] w ws =
    ap (slice_split is_blank) (append-nil word) ∙ slice_split_none is_blank word (none_blank word w)
split_words word (next ∷ more) w ws =
    slice_split_at is_blank word 32 (spaced (next ∷ more)) (none_blank word w) refl
    ∙ ap (λ (parts : List (List ℕ)). word ∷ parts) (split_words next more ws.0 ws.1)

keep_one : (word : List ℕ) (more : List (List ℕ)) → IsWord word → filter has_bytes more ≡ more → filter has_bytes (word ∷ more) ≡ word ∷ more
keep_one [] more w e = let some = w.some in absurd (omega arith)
keep_one (byte ∷ word) more w e = ap (λ (ws : List (List ℕ)). (byte ∷ word) ∷ ws) e

keep_words : (ws : List (List ℕ)) → AllByRecursion IsWord ws → filter has_bytes ws ≡ ws
keep_words [] h = refl
keep_words (word ∷ ws) h = keep_one word ws h.0 (keep_words ws h.1)

pub words_spaced : (word : List ℕ) (more : List (List ℕ)) → IsWord word → AllByRecursion IsWord more → words (spaced (word ∷ more)) ≡ word ∷ more
words_spaced word more w ws = ap (filter has_bytes) (split_words word more w ws) ∙ keep_words (word ∷ more) (w, ws)

-- ---- carriage returns at the end

-- no byte is a carriage return
abbrev pub IsClean : List ℕ → Type 0
IsClean bytes = All (λ byte. byte ≢ 13) bytes

lone_kept : (byte : ℕ) → byte ≢ 13 → before_returns byte [] ≡ byte ∷ []
lone_kept byte other = rw (ne_eqb byte 13 other) refl

clean_kept : (bytes : List ℕ) → IsClean bytes → without_returns bytes ≡ bytes
clean_kept [] h = refl
clean_kept (byte ∷ []) h = lone_kept byte (All-head (λ b. b ≢ 13) byte [] h)
clean_kept (byte ∷ next ∷ bytes) h = ap (before_returns byte) (clean_kept (next ∷ bytes) (All-tail (λ b. b ≢ 13) byte (next ∷ bytes) h))

-- a text without a carriage return at its end
pub text_kept : (bytes : List ℕ) → last_or None bytes ≢ Some 13 → without_returns bytes ≡ bytes
text_kept [] h = refl
text_kept (byte ∷ []) h = lone_kept byte (λ e. h (ap (λ (b : ℕ). Some b) e))
text_kept (byte ∷ next ∷ bytes) h = ap (before_returns byte) (text_kept (next ∷ bytes) h)

-- what stands before what is kept
front_kept : (front : List ℕ) (byte : ℕ) (bytes : List ℕ) → without_returns (byte ∷ bytes) ≡ byte ∷ bytes → without_returns (front ++ byte ∷ bytes) ≡ front ++ byte ∷ bytes
front_kept [] byte bytes e = e
front_kept (one ∷ []) byte bytes e = ap (before_returns one) e
front_kept (one ∷ two ∷ front) byte bytes e = ap (before_returns one) (front_kept (two ∷ front) byte bytes e)

space_kept : (bytes : List ℕ) → without_returns bytes ≡ bytes → without_returns (32 ∷ bytes) ≡ 32 ∷ bytes
space_kept [] e = refl
space_kept (byte ∷ bytes) e = ap (before_returns 32) e

-- the last word has no carriage return
abbrev pub EndsClean : List ℕ → List (List ℕ) → Type 0
EndsClean word [] = IsClean word
EndsClean word (next ∷ more) = EndsClean next more

pub spaced_kept : (word : List ℕ) (more : List (List ℕ)) → EndsClean word more → without_returns (spaced (word ∷ more)) ≡ spaced (word ∷ more)
spaced_kept word [] h = clean_kept (word ++ []) (All-same (λ b. b ≢ 13) (word ++ []) word (append-nil word) h)
spaced_kept word (next ∷ more) h = front_kept word 32 (spaced (next ∷ more)) (space_kept (spaced (next ∷ more)) (spaced_kept next more h))

-- ---- line feeds

pub word_line : (word : List ℕ) → IsWord word → IsLine word
word_line word w k d lt = (w.no_blank k d lt).0

behind_lines : (ws : List (List ℕ)) → AllByRecursion IsWord ws → IsLine (flat_map behind_space ws)
behind_lines [] h = λ k d lt. absurd (omega arith)
behind_lines (word ∷ ws) h =
    All-append (λ b. b ≢ 10) (32 ∷ word) (flat_map behind_space ws) (All-cons (λ b. b ≢ 10) 32 word (λ e. omega arith) (word_line word h.0)) (behind_lines ws h.1)

pub spaced_line : (word : List ℕ) (more : List (List ℕ)) → IsWord word → AllByRecursion IsWord more → IsLine (spaced (word ∷ more))
spaced_line word more w ws = All-append (λ b. b ≢ 10) word (flat_map behind_space more) (word_line word w) (behind_lines more ws)
