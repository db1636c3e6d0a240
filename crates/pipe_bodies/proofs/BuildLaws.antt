-- Bodies that are joined one after another are a net.
use Rattle.std.proofs.Common.{◌≡◌, ◌≢◌, ℕ, zero, suc, ◌+◌, ◌<◌, ◌≤◌, List, [], ◌∷◌, ◌++◌, map, length, get_or, set, refl, sym, ap, ◌∙◌, arith, append_assoc, subst, below_more, length-append, All}
use Rattle.std.specs.Prelude.{Option, Some, None, IsSome, slice_index_or, slice_set}
use Rattle.std.proofs.lemmas.List.{get_or_append_left, get_or_push, get_or-set_same, get_or-set_other, length-set}
use Rattle.std.proofs.lemmas.List.{map-set, map-append, length-map}
use Rattle.std.proofs.lemmas.List.Elements.{All-set, All-push, All-map}
use Rattle.std.proofs.Math.Seq.{map-set_same}
use Rattle.rtrb.specs.Ring.{IsPair, producer_capacity, consumer_capacity}
use Rattle.rtrb.specs.declared.producer.Producer.{Producer}
use Rattle.rtrb.specs.declared.consumer.Consumer.{Consumer}
use Rattle.pipe_bodies.specs.Bodies.{joined_by, lasting_by}
use Rattle.pipe_bodies.specs.Rings.{ring_in, ring_out}
use Rattle.task_script.specs.Plan.{sides}
use Rattle.pipe_bodies.specs.Rings.{Ring}
use Rattle.pipe_bodies.specs.Parts.{IsJoined}
use Rattle.pipe_bodies.specs.Bodies.{Lasting, BodyView, IsFresh, IsOfRoom, HasRoom}
use Rattle.pipe_bodies.specs.Nets.{others, IsSide, IsNetAfter, lasting_of, output_in, output_of, NotIn, IsReading, reads_on, Part, part_of, IsBegun, IsFree, Links, SideIn, JointIn, Built}
use Rattle.task_script.specs.declared.plan.Plan.{Plan}
use Rattle.task_script.specs.declared.plan.Plan.TheVariants.{Lines, Count, Upper, Number, Keep, Drop, Tally, Cat, Weave, Pin, Table}
use Rattle.task_script.specs.declared.script.TaskDef.{TaskDef}

-- ---- one more ring

none-some : (r : Option Ring) → IsSome r → r ≡ None → ⊥
none-some None s e = cc
none-some (Some x) s e = cc

SideIn-set : (from : List ℕ) (r : Option Ring) (n : ℕ) (outs : List (Option Ring)) (y : ℕ) (v : Option Ring) → slice_index_or outs y None ≡ None → SideIn from r n outs
    → SideIn from r n (slice_set outs y v)
SideIn-set [] r n outs y v free s = s
SideIn-set (x ∷ from) r n outs y v free s =
    let ne : x ≢ y = λ (e : x ≡ y). none-some r s.1 (s.2 ∙ ap (λ z. slice_index_or outs z None) e ∙ free) in
    (s.0, s.1, s.2 ∙ sym (get_or-set_other outs y x v None ne))

module _ (ds : List TaskDef) (reads : List ℕ) (parts : List Part) (outs : List (Option Ring)) (b : Built ds reads parts outs) where
  pub Built-link : (x : ℕ) (v : Option Ring) → NotIn reads x → Built ds (x ∷ reads) parts (slice_set outs x v)
  Built-link x v free = record {
    parts_length = b.parts_length;
    outputs_length = length-set outs x v ∙ b.outputs_length;
    joints = λ k d p l. let j = b.joints k d p l in record {
      number = j.number;
      inputs = j.inputs;
      plan = j.plan;
      left = SideIn-set _ _ k outs x v (b.unread x free) j.left;
      right = SideIn-set _ _ k outs x v (b.unread x free) j.right;
    };
    unread = λ y n. get_or-set_other outs x y v None n.0 ∙ b.unread y n.1;
  }

  pub free-at : (from : List ℕ) → IsReading (length ds) reads from → IsFree from outs
  free-at [] r = tt
  free-at (x ∷ from) r = (subst (λ z. x < z) (sym b.outputs_length) r.0, b.unread x r.1)

-- ---- one more body

get-none : (outs : List (Option Ring)) (x : ℕ) → slice_index_or (outs ++ None ∷ []) x None ≡ slice_index_or outs x None
get-none [] zero = refl
get-none [] (suc x) = refl
get-none (o ∷ outs) zero = refl
get-none (o ∷ outs) (suc x) = get-none outs x

SideIn-push : (from : List ℕ) (r : Option Ring) (n : ℕ) (outs : List (Option Ring)) → SideIn from r n outs → SideIn from r n (outs ++ None ∷ [])
SideIn-push [] r n outs s = s
SideIn-push (x ∷ from) r n outs s = (s.0, s.1, s.2 ∙ sym (get-none outs x))

JointIn-push : (d : TaskDef) (p : Part) (n : ℕ) (outs : List (Option Ring)) → JointIn d p n outs → JointIn d p n (outs ++ None ∷ [])
JointIn-push d p n outs j = record { number = j.number; inputs = j.inputs; plan = j.plan; left = SideIn-push _ _ n outs j.left; right = SideIn-push _ _ n outs j.right }

length-push : {X : Type 0} (xs : List X) (x : X) → length (xs ++ x ∷ []) ≡ length xs + 1
length-push xs x = length-append xs (x ∷ [])

module _ (ds : List TaskDef) (reads : List ℕ) (parts : List Part) (outs : List (Option Ring)) (b : Built ds reads parts outs) where
  Built-push : (d : TaskDef) (p : Part) → JointIn d p (length ds) outs → Built (ds ++ d ∷ []) reads (parts ++ p ∷ []) (outs ++ None ∷ [])
  Built-push d p j = record {
    parts_length = length-push parts p ∙ ap (λ z. z + 1) b.parts_length ∙ sym (length-push ds d);
    outputs_length = length-push outs None ∙ ap (λ z. z + 1) b.outputs_length ∙ sym (length-push ds d);
    joints = λ k e q l. below_more (λ n. JointIn (slice_index_or (ds ++ d ∷ []) n e) (slice_index_or (parts ++ p ∷ []) n q) n (outs ++ None ∷ [])) (length ds)
        (λ n below. let pl : n < length parts = subst (λ z. n < z) (sym b.parts_length) below in
        rw (get_or_append_left ds (d ∷ []) e n below, get_or_append_left parts (p ∷ []) q n pl) (JointIn-push _ _ n outs (b.joints n e q below)))
        (rw (get_or_push ds d e (length ds) refl, get_or_push parts p q (length ds) b.parts_length) (JointIn-push d p (length ds) outs j)) k (subst (λ z. k < z) (length-push ds d) l);
    unread = λ x n. get-none outs x ∙ b.unread x n;
  }

pub most_sides : (p : Plan) → sides p ≤ 2
most_sides (Lines l) = omega arith
most_sides (Count n l) = omega arith
most_sides Upper = omega arith
most_sides (Number n) = omega arith
most_sides (Keep f) = omega arith
most_sides (Drop f) = omega arith
most_sides (Tally n) = omega arith
most_sides (Cat turn) = omega arith
most_sides (Weave turn ended) = omega arith
most_sides (Pin n on) = omega arith
most_sides (Table table ends) = omega arith

linked : (x : ℕ) (n : ℕ) (a c : List (Option Ring)) (r : Option Ring) → x < n → length a ≡ n → IsSome r → c ≡ slice_set a x r → (x < n) × IsSome r × (r ≡ slice_index_or c x None)
linked x n a c r l e s q = (l, s, sym (ap (λ z. slice_index_or z x None) q ∙ get_or-set_same a x r None (subst (λ z. x < z) (sym e) l)))

module _ (ds : List TaskDef) (d : TaskDef) (reads : List ℕ) (parts : List Part) (o0 o1 o2 : List (Option Ring)) (l r : Option Ring) (b : Built ds reads parts o0)
    (n : length d.from ≡ sides d.plan) where
  by_from : (from : List ℕ) → d.from ≡ from → length from ≤ 2 → IsReading (length ds) reads from → Links from o0 o1 l → Links (others from) o1 o2 r
      → Built (ds ++ d ∷ []) (reads_on from reads) (parts ++ record { task = length ds; begun = d.plan; left = l; right = r } ∷ []) (o2 ++ None ∷ [])
  by_from [] e m k p q =
      let same : o2 ≡ o0 = q.0 ∙ p.0 in
      subst (λ z. Built (ds ++ d ∷ []) reads (parts ++ record { task = length ds; begun = d.plan; left = l; right = r } ∷ []) (z ++ None ∷ [])) (sym same)
      (Built-push ds reads parts o0 b d _ (record { number = refl; inputs = n; plan = refl; left = rw e p.1; right = rw e q.1 }))
  by_from (x ∷ []) e m k p q =
      let c : Built ds (x ∷ reads) parts (slice_set o0 x l) = Built-link ds reads parts o0 b x l k.1 in
      let c1 : Built ds (x ∷ reads) parts o1 = subst (λ z. Built ds (x ∷ reads) parts z) (sym p.1) c in
      let c2 : Built ds (x ∷ reads) parts o2 = subst (λ z. Built ds (x ∷ reads) parts z) (sym q.0) c1 in
      Built-push ds (x ∷ reads) parts o2 c2 d _ (record { number = refl; inputs = n; plan = refl; left = rw e (linked x (length ds) o0 o2 l k.0 b.outputs_length p.0 (q.0 ∙ p.1)); right = rw e q.1 })
  by_from (x ∷ y ∷ []) e m k p q =
      let c : Built ds (x ∷ reads) parts (slice_set o0 x l) = Built-link ds reads parts o0 b x l k.1 in
      let c1 : Built ds (x ∷ reads) parts o1 = subst (λ z. Built ds (x ∷ reads) parts z) (sym p.1) c in
      let f : Built ds (y ∷ x ∷ reads) parts (slice_set o1 y r) = Built-link ds (x ∷ reads) parts o1 c1 y r k.2.1 in
      let c2 : Built ds (y ∷ x ∷ reads) parts o2 = subst (λ z. Built ds (y ∷ x ∷ reads) parts z) (sym q.1) f in
      let left1 : SideIn (x ∷ y ∷ []) l (length ds) o1 = linked x (length ds) o0 o1 l k.0 b.outputs_length p.0 p.1 in
      let left2 : SideIn (x ∷ y ∷ []) l (length ds) o2 = subst (λ z. SideIn (x ∷ y ∷ []) l (length ds) z) (sym q.1) (SideIn-set (x ∷ y ∷ []) l (length ds) o1 y r (c1.unread y k.2.1) left1) in
      Built-push ds (y ∷ x ∷ reads) parts o2 c2 d _ (record { number = refl; inputs = n; plan = refl; left = rw e left2; right = rw e (linked y (length ds) o1 o2 r k.2.0 c1.outputs_length q.0 q.1) })
  by_from (x ∷ y ∷ z ∷ from) e m k p q = absurd (omega arith)

  pub Built-one : IsReading (length ds) reads d.from → Links d.from o0 o1 l → Links (others d.from) o1 o2 r
      → Built (ds ++ d ∷ []) (reads_on d.from reads) (parts ++ record { task = length ds; begun = d.plan; left = l; right = r } ∷ []) (o2 ++ None ∷ [])
  Built-one k p q = let most = most_sides d.plan in by_from d.from refl (omega arith) k p q

  -- the second side is free once the first is joined
  free_by : (from : List ℕ) → IsReading (length ds) reads from → Links from o0 o1 l → IsFree (others from) o1
  free_by [] k p = tt
  free_by (x ∷ []) k p = tt
  free_by (x ∷ y ∷ from) k p =
      let c1 : Built ds (x ∷ reads) parts o1 = subst (λ z. Built ds (x ∷ reads) parts z) (sym p.1) (Built-link ds reads parts o0 b x l k.1) in
      free-at ds (x ∷ reads) parts o1 c1 (y ∷ from) k.2

pub joined-by : (from : List ℕ) (p : Plan) (a b c : List (Option Ring)) (l r : Option Ring) → length from ≡ sides p → Links from a b l → Links (others from) b c r → IsJoined (Some p) l r
joined-by [] p a b c l r e u v = ((λ h. absurd (omega arith)), (λ h. absurd (omega arith)))
joined-by (x ∷ []) p a b c l r e u v = ((λ h. u.0), (λ h. absurd (omega arith)))
joined-by (x ∷ y ∷ from) p a b c l r e u v = ((λ h. u.0), (λ h. v.0))

-- ---- all bodies

IsSide-take : (from : List ℕ) (r : Option Ring) (po rest : List (Option Ring)) → SideIn from r (length po) (po ++ rest) → IsSide from r po
IsSide-take [] r po rest s = s
IsSide-take (x ∷ from) r po rest s = (s.0, s.1, s.2 ∙ get_or_append_left po rest None x s.0)

net-by : (po : List (Option Ring)) (ds : List TaskDef) (bs : List BodyView) → length bs ≡ length ds
    → ((k : ℕ) (d : TaskDef) (p : Part) → k < length ds → JointIn (slice_index_or ds k d) (slice_index_or (map part_of bs) k p) (length po + k) (po ++ map output_of bs))
    → IsNetAfter po ds (map lasting_of bs)
net-by po [] [] e j = tt
net-by po [] (b ∷ bs) e j = absurd (omega arith)
net-by po (d ∷ ds) [] e j = absurd (omega arith)
net-by po (d ∷ ds) (b ∷ bs) e j =
    let first : JointIn d (part_of b) (length po + 0) (po ++ output_of b ∷ map output_of bs) = j 0 d (part_of b) (omega arith) in
    let zero_more : length po + 0 ≡ length po = omega arith in
    let here : JointIn d (part_of b) (length po) (po ++ output_of b ∷ map output_of bs) = subst (λ z. JointIn d (part_of b) z (po ++ output_of b ∷ map output_of bs)) zero_more first in (
      record { number = here.number; inputs = here.inputs; plan = here.plan; left = IsSide-take _ _ po _ here.left; right = IsSide-take _ _ po _ here.right },
      net-by (po ++ output_of b ∷ []) ds bs (omega arith)
          (λ k q p l.
          let more : length po + suc k ≡ length (po ++ output_of b ∷ []) + k = (let f = length-append po (output_of b ∷ []) in omega arith) in
          let tail : JointIn (slice_index_or ds k q) (slice_index_or (map part_of bs) k p) (length po + suc k) (po ++ output_of b ∷ map output_of bs) = j (suc k) q p (omega arith) in
          rw (append_assoc po (output_of b ∷ []) (map output_of bs), ← more) tail),
    )

pub net-built : (ds : List TaskDef) (bs : List BodyView) (reads : List ℕ) → length bs ≡ length ds → Built ds reads (map part_of bs) (map output_of bs) → IsNetAfter [] ds (map lasting_of bs)
net-built ds bs reads e b = net-by [] ds bs e (λ k d p l. let none : 0 + k ≡ k = omega arith in rw none (b.joints k d p l))

pub outputs_in : (bs : List BodyView) → map output_in (map lasting_of bs) ≡ map output_of bs
outputs_in [] = refl
outputs_in (b ∷ bs) = ap (λ z. output_of b ∷ z) (outputs_in bs)

pub Built-none : Built [] [] [] []
Built-none = record { parts_length = refl; outputs_length = refl; joints = λ k d p l. absurd (omega arith); unread = λ x n. refl }

-- ---- one ring, in the code's words

module _ (bs : List BodyView) (x : ℕ) (b b' : BodyView) (ring : Ring) (at : b ≡ get_or bs x b) (l : b'.lasting ≡ joined_by b.lasting ring) where
  pub parts-joined : map part_of (set bs x b') ≡ map part_of bs
  parts-joined = map-set_same part_of bs x b' b (ap (λ (z : Lasting). let p : Part = record { task = z.task; begun = z.begun; left = z.rings.left; right = z.rings.right } in p) l ∙ ap part_of at)

  pub outputs-joined : map output_of (set bs x b') ≡ set (map output_of bs) x (Some ring)
  outputs-joined = map-set output_of bs x b' ∙ ap (λ z. set (map output_of bs) x z) (ap (λ (z : Lasting). z.rings.output) l)

pub links-by : (from : List ℕ) (a c : List (Option Ring)) (ring : Ring) → 1 ≤ length from → c ≡ set a (get_or from 0 0) (Some ring) → Links from a c (Some ring)
links-by [] a c ring l e = absurd (omega arith)
links-by (x ∷ from) a c ring l e = (refl, e)

module _ {T A P : Type 0} where
  pub pair-ring : (p : Producer T A P) (c : Consumer T A P) → IsPair p c → producer_capacity p ≡ consumer_capacity c → ring_out p ≡ ring_in c
  pair-ring p c e r = ap (λ z. let r : Ring = record { words = z; slots = p.end.slots; names = p.end.names; room = producer_capacity p } in r) (sym e.0)
      ∙ ap (λ z. let r : Ring = record { words = c.end.words; slots = z; names = p.end.names; room = producer_capacity p } in r) (sym e.1)
      ∙ ap (λ z. let r : Ring = record { words = c.end.words; slots = c.end.slots; names = z; room = producer_capacity p } in r) (sym e.2)
      ∙ ap (λ z. let r : Ring = record { words = c.end.words; slots = c.end.slots; names = c.end.names; room = z } in r) r

pub built-step : (ds : List TaskDef) (d : TaskDef) (reads : List ℕ) (b0 b1 b2 : List BodyView) (n : BodyView) (t : ℕ) (l r : Option Ring)
    → Built ds reads (map part_of b0) (map output_of b0) → length d.from ≡ sides d.plan → IsReading (length ds) reads d.from
    → Links d.from (map output_of b0) (map output_of b1) l → Links (others d.from) (map output_of b1) (map output_of b2) r
    → map part_of b2 ≡ map part_of b0 → n.lasting ≡ lasting_by t d.plan l r → t ≡ length ds
    → Built (ds ++ d ∷ []) (reads_on d.from reads) (map part_of (b2 ++ n ∷ [])) (map output_of (b2 ++ n ∷ []))
built-step ds d reads b0 b1 b2 n t l r b s k p q pe le te =
    let part : part_of n ≡ record { task = length ds; begun = d.plan; left = l; right = r } = ap (λ (z : Lasting). let p : Part = record {
      task = z.task;
      begun = z.begun;
      left = z.rings.left;
      right = z.rings.right;
    } in p) le
    ∙ ap (λ z. let p : Part = record { task = z; begun = d.plan; left = l; right = r } in p) te in
    let out : output_of n ≡ None = ap (λ (z : Lasting). z.rings.output) le in
    rw (map-append part_of b2 (n ∷ []), map-append output_of b2 (n ∷ []), part, out, pe)
    (Built-one ds d reads (map part_of b0) (map output_of b0) (map output_of b1) (map output_of b2) l r b s k p q)

-- ---- each body has done nothing, and its rings have the room of the script

module _ (room : ℕ) where
  pub begun-at : (from : List ℕ) (bs : List BodyView) (b : BodyView) → 1 ≤ length from → IsFree from (map output_of bs) → b ≡ get_or bs (get_or from 0 0) b → All (IsBegun room) bs → IsBegun room b
  begun-at [] bs b l f e all = absurd (omega arith)
  begun-at (x ∷ from) bs b l f e all = subst (λ z. IsBegun room z) (sym e) (all x b (subst (λ z. x < z) (length-map bs output_of) f.0))

  pub begun-joined : (bs : List BodyView) (x : ℕ) (b b' : BodyView) (ring : Ring) → All (IsBegun room) bs → IsBegun room b → b'.lasting ≡ joined_by b.lasting ring → ring.room ≡ room → IsFresh b'
      → All (IsBegun room) (set bs x b')
  begun-joined bs x b b' ring all old l r fresh = All-set (IsBegun room) bs x b' (record {
    fresh = fresh;
    rooms = subst (λ z. HasRoom room z) (sym l) (record { left = old.rooms.left; right = old.rooms.right; output = r });
  }) all

  pub begun-push : (bs : List BodyView) (b : BodyView) (t : ℕ) (p : Plan) (l r : Option Ring) → All (IsBegun room) bs → b.lasting ≡ lasting_by t p l r → IsOfRoom room l → IsOfRoom room r → IsFresh b
      → All (IsBegun room) (bs ++ b ∷ [])
  begun-push bs b t p l r all e left right fresh = All-push (IsBegun room) bs b all (record {
    fresh = fresh;
    rooms = subst (λ z. HasRoom room z) (sym e) (record { left = left; right = right; output = tt });
  })

  pub all-fresh : (bs : List BodyView) → All (IsBegun room) bs → All IsFresh bs
  all-fresh bs all k b l = (all k b l).fresh

  pub all-rooms : (bs : List BodyView) → All (IsBegun room) bs → All (HasRoom room) (map lasting_of bs)
  all-rooms bs all = All-map (HasRoom room) lasting_of bs (λ k b l. (all k b l).rooms)
