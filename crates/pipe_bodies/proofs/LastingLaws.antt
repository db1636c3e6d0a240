-- What a body keeps for good comes back from its numbers.
use Rattle.std.proofs.Common.{◌≡◌, ◌∙◌, ℕ, List, [], ◌∷◌, map, refl, sym, ap}
use Rattle.std.specs.Prelude.{Option, Some, None}
use denote.RawPtr.{Ptr, block_ptr, null_ptr}
use Rattle.pipe_bodies.proofs.CodeLaws.{plan_of-code}
use Rattle.pipe_bodies.specs.Bodies.{Lasting}
use Rattle.pipe_bodies.specs.Codes.{plan_code, plan_of}
use Rattle.pipe_bodies.specs.Rings.{Ring}
use Rattle.rtrb.specs.Shared.{Names}
use Rattle.pipe_bodies.specs.Lastings.{ptr_code, ring_code, lasting_code, ring_at, lasting_of}

some_back : (words slots : Ptr) (names : Names) (room : ℕ) (more : List ℕ)
    → ring_at (ring_code (Some (record { words = words; slots = slots; names = names; room = room })) more)
    ≡ (Some (record { words = words; slots = slots; names = names; room = room }), more)
some_back (block_ptr a b) (block_ptr c d) names room more = refl
some_back (block_ptr a b) null_ptr names room more = refl
some_back null_ptr (block_ptr c d) names room more = refl
some_back null_ptr null_ptr names room more = refl

ring_back : (r : Option Ring) (more : List ℕ) → ring_at (ring_code r more) ≡ (r, more)
ring_back None more = refl
ring_back (Some r) more = some_back r.words r.slots r.names r.room more

pub lasting_back : (l : Lasting) → lasting_of (lasting_code l) ≡ l
lasting_back l =
    let c : List ℕ = ring_code l.rings.output (plan_code l.begun) in
    let b : List ℕ = ring_code l.rings.right c in
    ap (λ (z : Option Ring × List ℕ). record {
      task = l.task;
      begun = plan_of (ring_at (ring_at z.1).1).1;
      rings = record { left = z.0; right = (ring_at z.1).0; output = (ring_at (ring_at z.1).1).0 };
    }) (ring_back l.rings.left b)
    ∙ ap (λ (z : Option Ring × List ℕ). record {
      task = l.task;
      begun = plan_of (ring_at z.1).1;
      rings = record { left = l.rings.left; right = z.0; output = (ring_at z.1).0 };
    }) (ring_back l.rings.right c)
    ∙ ap (λ (z : Option Ring × List ℕ). record {
      task = l.task;
      begun = plan_of z.1;
      rings = record { left = l.rings.left; right = l.rings.right; output = z.0 };
    }) (ring_back l.rings.output (plan_code l.begun))
    ∙ ap (λ p. record { task = l.task; begun = p; rings = l.rings }) (plan_of-code l.begun)

all_back : (ls : List Lasting) → map lasting_of (map lasting_code ls) ≡ ls
all_back [] = refl
all_back (l ∷ ls) = λ i. lasting_back l i ∷ all_back ls i

-- bodies that keep the same numbers keep the same
pub same_lastings : (xs ys : List Lasting) → map lasting_code xs ≡ map lasting_code ys → xs ≡ ys
same_lastings xs ys e = sym (all_back xs) ∙ ap (map lasting_of) e ∙ all_back ys

pub same_lasting : (a b : Lasting) → lasting_code a ≡ lasting_code b → a ≡ b
same_lasting a b e = sym (lasting_back a) ∙ ap lasting_of e ∙ lasting_back b
