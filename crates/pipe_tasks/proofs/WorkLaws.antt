-- Works that are there for every caller.
use Rattle.std.proofs.Common.{zero-add, ◌≡◌, ◌≢◌, ℕ, ◌+◌, ◌-◌, ◌<◌, ◌≤◌, ◌==◌, Bool, true, false, cond, List, [], ◌∷◌, ◌++◌, refl, sym, ap, subst, ◌∙◌, arith, map, length, take, drop, get_or, set}
use Rattle.std.specs.Prelude.{nat_lt, nat_le, if◌then◌else◌}
use Rattle.std.specs.Char.{is_ascii_lowercase, is_ascii_uppercase}
use Rattle.std.specs.List.{range_with_len}
use Rattle.std.proofs.lemmas.Bool.Decides.{nat_tests}
use Rattle.std.proofs.lemmas.List.{get_or_default, get_or_past, get_or-map, length-map}
use Rattle.std.proofs.lemmas.List.Edits.{map_over_more}
use Rattle.std.proofs.lemmas.List.Elements.{All-map, All-weaker}
use Rattle.std.proofs.lemmas.List.FromFn.{length-range_with_len, get_or-map-range_with_len, length-map-range_with_len}
use Rattle.handoff_data.specs.Line.{IsLine}
use Rattle.task_script.specs.Maps.{mapped_byte, mapped_line, identity_map}
use Rattle.task_script.proofs.MapLaws.{line_same}
use Rattle.pipe_tasks.specs.Words.{Line}
use Rattle.pipe_tasks.specs.Works.{swapped_byte, swap_map}
use Rattle.pipe_tasks.proofs.TextLaws.{written-back}

abbrev IsNoFeed : ℕ → Type 0
IsNoFeed byte = byte ≢ 10

-- ---- letters

pub swap_no_feed : (byte : ℕ) → byte ≢ 10 → swapped_byte byte ≢ 10
swap_no_feed byte other e = grind (arith, nat_tests)

beyond : (byte : ℕ) → 256 ≤ byte → swapped_byte byte ≡ byte
beyond byte high = grind (arith, nat_tests)

mapped_at : (byte : ℕ) (low : Bool) → nat_lt byte 256 ≡ low → mapped_byte swap_map byte ≡ swapped_byte byte
unfolding swap_map identity_map
mapped_at byte true e = let l : byte < 256 = grind (arith, nat_tests) in get_or-map-range_with_len swapped_byte 0 256 byte byte byte l (zero-add byte)
mapped_at byte false e =
    let l : 256 ≤ byte = grind (arith, nat_tests) in
    let long = length-map-range_with_len swapped_byte 0 256 in
    get_or_past (map swapped_byte (range_with_len 0 256)) byte byte (omega arith) ∙ sym (beyond byte l)

pub swapped_line : (line : Line) → map swapped_byte line ≡ mapped_line swap_map line
swapped_line [] = refl
swapped_line (byte ∷ line) = λ i. sym (mapped_at byte (nat_lt byte 256) refl) i ∷ swapped_line line i

pub swapped_is_line : (line : Line) → IsLine line → IsLine (map swapped_byte line)
swapped_is_line line h = All-map IsNoFeed swapped_byte line (All-weaker IsNoFeed (λ byte. IsNoFeed (swapped_byte byte)) swap_no_feed line h)

-- one more byte
pub one_more : (xs ys : List ℕ) (i u : ℕ) → i < length xs → length ys ≡ length xs → ys ≡ map swapped_byte (take i xs) ++ drop i xs → u ≡ swapped_byte (get_or ys i 0)
    → set ys i u ≡ map swapped_byte (take (i + 1) xs) ++ drop (i + 1) xs
one_more xs ys i u l same e f =
    let m : i < length ys = omega arith in
    ap (λ z. set ys i z) f ∙ map_over_more swapped_byte xs ys i (get_or ys i 0) l e (get_or_default ys i 0 (get_or ys i 0) m)

pub ruleset swap_laws = (swap_no_feed)

pub ruleset swap_line_laws = (swapped_is_line, swapped_line, written-back)

pub ruleset closing_laws = (line_same)
