-- Maps of bytes.
use Rattle.std.proofs.Common.{◌≡◌, ◌≢◌, ℕ, zero, suc, ◌+◌, ◌<◌, ◌≤◌, Bool, true, false, List, [], ◌∷◌, ◌++◌, refl, sym, ap, subst, ◌∙◌, arith, map, length, take, drop, get_or, set, zero-add}
use Rattle.std.specs.Prelude.{nat_lt}
use Rattle.std.specs.List.{range_with_len}
use Rattle.std.proofs.lemmas.Bool.Decides.{nat_tests}
use Rattle.std.proofs.lemmas.List.{get_or_default, get_or_past}
use Rattle.std.proofs.lemmas.List.Edits.{map_over_more}
use Rattle.std.proofs.lemmas.List.Elements.{All-map, All-weaker}
use Rattle.std.proofs.lemmas.List.FromFn.{length-range_with_len, get_or-range_with_len}
use Rattle.std.proofs.Math.Seq.{take-append_seam}
use Rattle.handoff_data.specs.Line.{IsLine}
use Rattle.task_script.specs.Maps.{mapped_byte, mapped_line, IsByteMap, identity_map}

abbrev IsNoFeed : ℕ → Type 0
IsNoFeed byte = byte ≢ 10

-- ---- each byte to itself

mapped_at : (byte : ℕ) (low : Bool) → nat_lt byte 256 ≡ low → mapped_byte identity_map byte ≡ byte
unfolding identity_map
mapped_at byte true e = let l : byte < 256 = grind (arith, nat_tests) in get_or-range_with_len 0 256 byte byte l ∙ zero-add byte
mapped_at byte false e =
    let l : 256 ≤ byte = grind (arith, nat_tests) in
    let long = length-range_with_len 0 256 in
    get_or_past (range_with_len 0 256) byte byte (omega arith)

pub mapped_same : (byte : ℕ) → mapped_byte identity_map byte ≡ byte
mapped_same byte = mapped_at byte (nat_lt byte 256) refl

pub line_same : (line : List ℕ) → mapped_line identity_map line ≡ line
line_same [] = refl
line_same (byte ∷ line) = λ i. mapped_same byte i ∷ line_same line i

is_map : IsByteMap identity_map
unfolding identity_map
is_map = record { count = length-range_with_len 0 256; no_feed = λ byte other e. other (sym (mapped_same byte) ∙ e) }

pub identity_is_map : (bytes : List ℕ) → bytes ≡ identity_map → IsByteMap bytes
identity_is_map bytes is = subst IsByteMap (sym is) is_map

-- ---- a line

pub mapped_is_line : (table line : List ℕ) → IsByteMap table → IsLine line → IsLine (mapped_line table line)
mapped_is_line table line is h = All-map IsNoFeed (mapped_byte table) line (All-weaker IsNoFeed (λ byte. IsNoFeed (mapped_byte table byte)) is.no_feed line h)

-- the items of a vector whose slice was written
pub written_back : (n : ℕ) (xs ys : List ℕ) → n ≡ length xs → take n (xs ++ ys) ≡ xs
written_back n xs ys e = ap (λ z. take z (xs ++ ys)) e ∙ take-append_seam xs ys

pub ruleset line_laws = (mapped_is_line, written_back)

-- one more byte
pub one_more : (table xs ys : List ℕ) (i u : ℕ) → i < length xs → length ys ≡ length xs → ys ≡ map (mapped_byte table) (take i xs) ++ drop i xs → u ≡ mapped_byte table (get_or ys i 0)
    → set ys i u ≡ map (mapped_byte table) (take (i + 1) xs) ++ drop (i + 1) xs
one_more table xs ys i u l same e f =
    let m : i < length ys = omega arith in
    ap (λ z. set ys i z) f ∙ map_over_more (mapped_byte table) xs ys i (get_or ys i 0) l e (get_or_default ys i 0 (get_or ys i 0) m)

-- one number more
range_more : (a n : ℕ) → range_with_len a (suc n) ≡ range_with_len a n ++ (a + n) ∷ []
range_more a zero = let n : a ≡ a + 0 = omega arith in ap (λ (z : ℕ). z ∷ []) n
range_more a (suc n) =
    let m : a + 1 + n ≡ a + suc n = omega arith in
    ap (λ (z : List ℕ). a ∷ z) (range_more (a + 1) n ∙ ap (λ (z : ℕ). range_with_len (a + 1) n ++ z ∷ []) m)

pub byte_more : (bytes : List ℕ) (n m : ℕ) → m ≡ n + 1 → bytes ≡ range_with_len 0 n → bytes ++ n ∷ [] ≡ range_with_len 0 m
byte_more bytes n m e is =
    let s : suc n ≡ m = omega arith in
    ap (λ (z : List ℕ). z ++ n ∷ []) is ∙ ap (λ (z : ℕ). range_with_len 0 n ++ z ∷ []) (sym (zero-add n)) ∙ sym (range_more 0 n) ∙ ap (λ (z : ℕ). range_with_len 0 z) s

pub no_feed_at : (table : List ℕ) (byte u : ℕ) → IsByteMap table → u ≡ mapped_byte table byte → byte ≢ 10 → u ≢ 10
no_feed_at table byte u is e other f = is.no_feed byte other (sym e ∙ f)
