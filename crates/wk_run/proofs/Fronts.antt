-- What a read from a place in a list takes.
use Rattle.std.proofs.Common.{◌≡◌, ℕ, ◌+◌, ◌<◌, List, [], ◌++◌, length, take, drop, min, sym, arith, length-drop}
use Rattle.std.proofs.lemmas.List.{take-append-drop, drop-drop, drop_all}

-- the front that was copied, and what is left, are what there was
pub front-rest : (at n : ℕ) (bytes to : List ℕ) → take n to ≡ take n (drop at bytes) → drop at bytes ≡ take n to ++ drop (at + n) bytes
front-rest at n bytes to copied = rw (copied, ← drop-drop n at bytes) (sym (take-append-drop n (drop at bytes)))

-- nothing was copied into room only where nothing was left
pub front-end : (at n : ℕ) (bytes to : List ℕ) → n ≡ min (length (drop at bytes)) (length to) → n ≡ 0 → 0 < length to → drop (at + n) bytes ≡ []
front-end at n bytes to count none room = drop_all (at + n) bytes (omega (arith, length-drop at bytes))

pub ruleset front_laws = (front-rest, front-end)
