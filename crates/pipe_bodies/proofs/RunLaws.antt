-- Bodies that have all ended stay so.
use Rattle.std.proofs.Common.{◌≡◌, ℕ, List, ◌<◌, get_or, set, Bool, true, false, map, length, subst, sym, All}
use Rattle.std.specs.Prelude.{◌↔◌, IsTrue}
use Rattle.std.proofs.lemmas.List.Elements.{All-set}
use Rattle.pipe_bodies.specs.Bodies.{BodyView}
use Rattle.pipe_bodies.specs.Nets.{lasting_of, HasEnded}

-- what is known of bodies of which some had a turn
pub record Turned (first now : List BodyView) : Type 0 where
  pub lasting : map lasting_of now ≡ map lasting_of first
  pub count : length now ≡ length first
  pub ended : All HasEnded first → All HasEnded now

-- what is known of the bodies of a run that goes on after n of its rounds
pub record GoesOn (first now : List BodyView) (n : ℕ) : Type 0 where
  pub lasting : map lasting_of now ≡ map lasting_of first
  pub ended : All HasEnded first → All HasEnded now
  pub running : 0 < n → All HasEnded first → ⊥

module _ (bs : List BodyView) (i : ℕ) (b : BodyView) (all : All HasEnded bs) (within : i < length bs) (at : b ≡ get_or bs i b) where
  pub ended-at : HasEnded b
  ended-at = subst HasEnded (sym at) (all i b within)

  pub ended-set : (b' : BodyView) → (HasEnded b → HasEnded b') → All HasEnded (set bs i b')
  ended-set b' keeps = All-set HasEnded bs i b' (keeps ended-at) all

pub not_all : (b : Bool) (bs : List BodyView) → (IsTrue b ↔ All HasEnded bs) → b ≡ false → All HasEnded bs → ⊥
not_all b bs test off all = let on : IsTrue b = test.1 all in cc

pub never : false ≡ true → ⊥
never e = cc
