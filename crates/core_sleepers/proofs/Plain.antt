-- What can't be, and what is the same.
use Rattle.std.proofs.Common.{◌≡◌, Bool, true, false, Some, None, arith}

pub some_same : {A : Type 0} (a b : A) → Some a ≡ Some b → a ≡ b
some_same a b h = cc

pub no_some : {A : Type 0} {x : A} → None ≡ Some x → ⊥
no_some h = cc

pub both : (b : Bool) → b ≡ true → b ≡ false → ⊥
both b t f = grind (arith, t, f)
