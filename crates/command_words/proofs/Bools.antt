-- Facts of tests.
use Rattle.std.proofs.Common.{◌≡◌, refl, sym, true, false, true≢false, Bool, ◌&&◌, not, ◌||◌}

pub both : (a b : Bool) → (a && b) ≡ true → (a ≡ true) × (b ≡ true)
both true b h = (refl, h)
both false b h = absurd (true≢false (sym h))

pub all_five : (a b c d e : Bool) → (a && b && c && d && e) ≡ true
    → (a ≡ true) × (b ≡ true) × (c ≡ true) × (d ≡ true) × (e ≡ true)
all_five true true true true true h = (refl, refl, refl, refl, refl)
all_five true true true true false h = absurd (true≢false (sym h))
all_five true true true false e h = absurd (true≢false (sym h))
all_five true true false d e h = absurd (true≢false (sym h))
all_five true false c d e h = absurd (true≢false (sym h))
all_five false b c d e h = absurd (true≢false (sym h))

pub five_true : (a b c d e : Bool) → a ≡ true → b ≡ true → c ≡ true → d ≡ true → e ≡ true → (a && b && c && d && e) ≡ true
five_true a b c d e p q r s t = rw (p, q, r, s, t) refl

pub from_not : (a b : Bool) → (not a && b) ≡ true → (a ≡ false) × (b ≡ true)
from_not false b h = (refl, h)
from_not true b h = absurd (true≢false (sym h))

pub neither : (a b : Bool) → (a || b) ≡ false → (a ≡ false) × (b ≡ false)
neither false b h = (refl, h)
neither true b h = absurd (true≢false h)
