-- A body's invariant through a turn.
use Rattle.std.proofs.Common.{◌≡◌, Bool, true, false, ap, sym, ◌∙◌, subst, refl}
use Rattle.pipe_tasks.specs.Feeds.{FeedingGivesLines}
use Rattle.pipe_bodies.specs.Turns.{Seen, Turns, Sound}
use Rattle.pipe_bodies.specs.Parts.{Rings, Stands, IsJoined, KeepsNone, IsClear}
use Rattle.task_script.specs.declared.plan.Plan.{Plan}
use Rattle.pipe_bodies.specs.declared.verdict.Verdict.{Verdict}
use Rattle.pipe_bodies.specs.declared.verdict.Then.TheVariants.{Exit}
use Rattle.pipe_bodies.proofs.TurnLaws.{Sound-turn, IsJoined-turn, ended-turn, over-turn, exit-turn}
use Rattle.std.proofs.Common.{ℕ, List}
use Rattle.std.specs.Prelude.{Option, Some, None, [], ◌∷◌}
use Rattle.rtrb.specs.declared.producer.Producer.{Producer}
use Rattle.pipe_tasks.specs.Words.{Line}
use Rattle.pipe_bodies.specs.Rings.{out_ring, out_of}
use Rattle.pipe_bodies.specs.declared.item.Item.{Item}
use Rattle.pipe_bodies.specs.Items.{outputs}
use Rattle.pipe_bodies.specs.Codes.{plan_code, plan_of}
use Rattle.pipe_bodies.specs.Bodies.{fresh_seen}
use Rattle.pipe_bodies.proofs.CodeLaws.{plan_of-code}

pub Stands-turn : FeedingGivesLines → (begun : Plan) (a b : Seen) (r s : Rings) (v : Verdict) → s ≡ r → Stands begun a r false → Turns a b v → Stands begun b s false
Stands-turn law begun a b r s v e k t = record {
  sound = λ _. Sound-turn law begun a (k.sound refl) b v t;
  joined = λ _. IsJoined-turn a b v s.left s.right (subst (λ z. IsJoined a.plan z.left z.right) (sym e) (k.joined refl)) t;
  broken_open = λ (f : false ≡ true). cc;
}

pub Stands-broken : (begun : Plan) (b : Seen) (s : Rings) → b.ended ≡ false → Stands begun b s true
Stands-broken begun b s e = record {
  sound = λ (f : true ≡ false). cc;
  joined = λ (f : true ≡ false). cc;
  broken_open = λ _. e;
}

pub Stands-ended : (begun : Plan) (a b : Seen) (r : Rings) (v : Verdict) → Stands begun a r false → Turns a b v → a.ended ≡ true → b.ended ≡ true
Stands-ended begun a b r v k t e = ap (λ z. z.ended) (ended-turn a b v e (k.sound refl).ordered t) ∙ e

pub Stands-over : (begun : Plan) (a b : Seen) (r : Rings) (v : Verdict) → Stands begun a r false → Turns a b v → a.ended ≡ true → v.then ≡ Exit
Stands-over begun a b r v k t e = over-turn a b v e (k.sound refl).ordered t

pub Stands-exit : (begun : Plan) (a b : Seen) (r : Rings) (v : Verdict) → Stands begun a r false → Turns a b v → v.then ≡ Exit → b.ended ≡ true
Stands-exit begun a b r v k t e = exit-turn a b v e (k.sound refl).ordered t

pub clear-open : (b : Bool) (said : List Line) → b ≡ false → IsClear b said → said ≡ []
clear-open true said e k = cc
clear-open false said e k = k

pub clear-still : (b : Bool) (said : List Line) → b ≡ false → said ≡ [] → IsClear b said
clear-still true said e k = cc
clear-still false said e k = k

pub ruleset body_laws = (Stands-turn, Stands-broken, Stands-ended, Stands-over, Stands-exit, clear-open, clear-still)

-- what a body that has ended is known to be
sound_by : (begun : Plan) (a : Seen) (r : Rings) (b : Bool) → Stands begun a r b → a.ended ≡ true → Sound begun a
sound_by begun a r false k e = k.sound refl
sound_by begun a r true k e = let n : a.ended ≡ false = k.broken_open refl in cc

-- ---- a body that has done nothing

pub Stands-fresh : (code : List ℕ) (p : Plan) (r : Rings) → code ≡ plan_code p → IsJoined (Some p) r.left r.right → Stands (plan_of code) (fresh_seen p) r false
Stands-fresh code p r e j = record {
  sound = λ _. record { faithful = λ s t. ap (λ z. outputs (Some z) s t) (ap plan_of e ∙ plan_of-code p); ordered = tt };
  joined = λ _. j;
  broken_open = λ (f : false ≡ true). cc;
}

pub plan_of-at : (code : List ℕ) (p : Plan) → code ≡ plan_code p → plan_of code ≡ p
plan_of-at code p e = ap plan_of e ∙ plan_of-code p

-- ---- what is kept

pub none_kept_yet : {A P : Type 0} (o : Option (Producer Item A P)) (kept : List Line) (ended : Bool) → KeepsNone (out_ring o) kept → out_of o kept ended ≡ [] → kept ≡ []
none_kept_yet None [] ended k e = refl
none_kept_yet None (a ∷ kept) ended k e = cc
none_kept_yet (Some p) kept ended k e = k
