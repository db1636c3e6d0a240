-- What each kind of table act leaves of the rule: a step on a word alone, a slot that is taken, and one that is put home.
use Rattle.std.proofs.Common.{◌≡◌, ◌≢◌, ℕ, ◌+◌, ◌*◌, ◌<◌, Bool, true, false, set, length, length-set, refl, sym, ap, ◌∙◌, subst, List, [], ◌∷◌, ◌⊎◌, inl, ⊎_elim, arith}
use mathlib.Core.Logic.{dite}
use mathlib.Core.Option.{none, some, some-injective, some-ne-none}
use mathlib.Core.Option as maybe
use native.Mathlib.Decide.{ℕ_discrete}
use lib.ListN.{get_elem?}
use Rattle.atomic_table.specs.Table.{State}
use Rattle.atomic_table.proofs.Lists.{at_set, set_here, set_else}
use Rattle.core_data.specs.Columns.{put}
use Rattle.core_stores.proofs.Columns.{put_there, put_other}
use Rattle.core_data.specs.Entries.{has_entry}
use Rattle.core_data.specs.declared.values.WaitEntry.{WaitEntry}
use Rattle.word_steps.specs.Exclusives.{exclusive_entry}
use Rattle.word_rule.specs.WordsHold.{WordsHold}
use Rattle.word_rule.specs.Sorts.{OfWait}
use Rattle.word_steps.specs.Records.{Rec}
use Rattle.word_steps.specs.Words.{words_of}
use Rattle.word_steps.specs.declared.val.Val.TheVariants as val
use Rattle.word_table.proofs.Exclusives.{TellsAll, told_still, told_gone, told_put}
use Rattle.word_table.specs.Exclusives.{gave_exclusive, ExclusivesTold}
use Rattle.word_table.specs.Layout.{SLOTS, BODY_SLOT, rows_of, slot_of, slot_at}
use Rattle.word_table.specs.Outs.{has_out}
use Rattle.word_table.specs.Parts.{Known}
use Rattle.word_table.specs.Plays.{one, part}
use Rattle.word_table.specs.Ruled.{Each, Fits, SlotOut, IsRoomed, IsBody, homes_of, known_of, Ruled}
use Rattle.word_table.specs.declared.slot.Key.{Key}
use Rattle.word_table.specs.declared.slot.Slot.{Slot}
use Rattle.word_table.specs.declared.slot.Slot.TheVariants.{Held, Body}
use Rattle.word_table.specs.declared.view.View.{View}

pub each_map : {A : Type 0} (P Q : A → Type 0) (xs : List A) → ((x : A) → P x → Q x) → Each P xs → Each Q xs
each_map P Q [] f e = tt
each_map P Q (x ∷ xs) f e = (f x e.0, each_map P Q xs f e.1)

put_same : {A : Type 0} (f : ℕ → A) (k : ℕ) (v : A) → put f k v k ≡ v
put_same f k v = put_there f k v k refl

-- what F sees of a put that it doesn't see
put_unseen : {A C : Type 0} (F : A → C) (f : ℕ → A) (k : ℕ) (v : A) → F v ≡ F (f k) → (j : ℕ) → F (put f k v j) ≡ F (f j)
put_unseen F f k v e j = dite (ℕ_discrete j k) (λ is. ap F (put_there f k v j is) ∙ e ∙ ap (λ (z : ℕ). F (f z)) (sym is)) (λ ne. ap F (put_other f k v j ne))

module _ {B : Type 0} (lasting : B → List ℕ) (ended_of : B → Bool) (key : Key B) where
  abbrev pub St : Type 0
  St = State (Slot B) View

  abbrev Lying : Type 0
  Lying = List (maybe.Option (Slot B))

  abbrev pub R : St → Type 0
  R = Ruled lasting ended_of key

  abbrev pub seats : ℕ
  seats = key.shape.cpus + key.shape.agents

  abbrev last : ℕ
  last = SLOTS * rows_of key.shape

  -- what the rule has of a seat with one part
  pub record Mine (s : St) (r : R s) (id k : ℕ) (known : Known) (trace : List Rec) : Type 0 where
    pub near : k < seats
    pub owned : r.owner k ≡ id
    pub trace_is : trace ≡ r.trace k
    pub known_is : known ≡ known_of lasting key

  pub mine : (s : St) (r : R s) (id k : ℕ) (known : Known) (trace : List Rec)
      → get_elem? s.views id ≡ some (one known (part k trace)) → Mine s r id k known trace
  mine s r id k known trace at = let e = r.parts id (one known (part k trace)) at in let f = e.0.0 in record {
    near = f.near;
    owned = f.owned;
    trace_is = f.trace_is;
    known_is = ⊎_elim (λ z. z) (λ z. let no : part k trace ∷ [] ≡ [] = z in cc) e.1;
  }

  -- what the seats have out, after the seat k has the trace tr'
  abbrev SlotsAfter : (s : St) → R s → (k : ℕ) → List Rec → Lying → (ℕ → ℕ) → Type 0
  SlotsAfter s r k tr' homes' keeper' = (j q : ℕ) → q < seats → has_out j (put r.trace k tr' q) ≡ true → SlotOut homes' keeper' j q

  abbrev BodiesAfter : Lying → (ℕ → Bool) → Type 0
  BodiesAfter homes' ended' = (t : ℕ) (b : B) → get_elem? homes' (slot_at t BODY_SLOT) ≡ some (some (Body b)) → IsBody lasting key ended_of ended' t b

  abbrev KeptAfter : (s : St) → R s → (k : ℕ) → List Rec → (i x : ℕ) → Lying → (ℕ → Bool) → Type 0
  KeptAfter s r k tr' i x homes' ended' = WordsHold key.shape (words_of (set s.words i x)) (homes_of homes' ended') (put r.trace k tr')

  moved : (s : St) (r : R s) (id k : ℕ) (known : Known) (tr tr' : List Rec) (i x : ℕ) (homes' : Lying) (keeper' : ℕ → ℕ) (ended' : ℕ → Bool)
      → get_elem? s.views id ≡ some (one known (part k tr)) → length homes' ≡ length s.homes
      → get_elem? homes' last ≡ get_elem? s.homes last
      → SlotsAfter s r k tr' homes' keeper' → BodiesAfter homes' ended'
      → ExclusivesTold (put r.trace k tr') (homes_of homes' ended').wait → KeptAfter s r k tr' i x homes' ended'
      → R record { words = set s.words i x; homes = homes'; views = set s.views id (one known (part k tr')) }
  moved s r id k known tr tr' i x homes' keeper' ended' at as_long same_room slots bodies told inv = let me = mine s r id k known tr at in record {
    trace = put r.trace k tr';
    owner = r.owner;
    keeper = keeper';
    ended = ended';
    bare = λ q far. put_other r.trace k tr' q (λ e. omega (arith, e, far, me.near)) ∙ r.bare q far;
    wide = length-set s.words i x ∙ r.wide;
    deep = as_long ∙ r.deep;
    room = subst (IsRoomed key.shape.tasks) (sym same_room) r.room;
    parts = λ j v there. ⊎_elim
        (λ e. subst (λ (u : View). Each (Fits seats (put r.trace k tr') r.owner j) u.parts × ((u.known ≡ known_of lasting key) ⊎ (u.parts ≡ []))) e.1
        ((record { near = me.near; owned = me.owned ∙ sym e.0; trace_is = sym (put_same r.trace k tr') }, tt), inl me.known_is))
        (λ e. let old = r.parts j v e.1 in (
          each_map (Fits seats r.trace r.owner j) (Fits seats (put r.trace k tr') r.owner j) v.parts
              (λ p f. let ne : p.number ≢ k = λ same. e.0 (sym f.owned ∙ ap r.owner same ∙ me.owned) in record {
                near = f.near;
                owned = f.owned;
                trace_is = f.trace_is ∙ sym (put_other r.trace k tr' p.number ne);
              })
              old.0,
          old.1,
        ))
        (at_set s.views id j (one known (part k tr')) v there);
    slots = slots;
    bodies = bodies;
    inv = inv;
    exclusives = told;
  }

  -- A step on a word alone
  pub steady : (s : St) (r : R s) (id k : ℕ) (known : Known) (tr tr' : List Rec) (i x : ℕ)
      → get_elem? s.views id ≡ some (one known (part k tr))
      → ((j : ℕ) → has_out j tr' ≡ has_out j tr) → TellsAll tr tr' → KeptAfter s r k tr' i x s.homes r.ended
      → R record { words = set s.words i x; homes = s.homes; views = set s.views id (one known (part k tr')) }
  steady s r id k known tr tr' i x at quiet more inv = let me = mine s r id k known tr at in
      let same : (j q : ℕ) → has_out j (put r.trace k tr' q) ≡ has_out j (r.trace q) = λ j. put_unseen (has_out j) r.trace k tr' (quiet j ∙ ap (has_out j) me.trace_is) in
      moved s r id k known tr tr' i x s.homes r.keeper r.ended at refl refl
      (λ j q near e. r.slots j q near (sym (same j q) ∙ e))
      r.bodies (told_still r.trace k tr tr' me.trace_is more (homes_of s.homes r.ended).wait r.exclusives) inv

  -- The slot j, which nobody else has, comes into the seat's hand
  pub ups : (s : St) (r : R s) (id k : ℕ) (known : Known) (tr tr' : List Rec) (j i x : ℕ)
      → get_elem? s.views id ≡ some (one known (part k tr)) → j < length s.homes → j < last
      → ((o : ℕ) → o ≢ j → has_out o tr' ≡ has_out o tr)
      → ((q : ℕ) → q < seats → has_out j (r.trace q) ≡ true → ⊥)
      → TellsAll tr tr' → KeptAfter s r k tr' i x (set s.homes j none) r.ended
      → R record { words = set s.words i x; homes = set s.homes j none; views = set s.views id (one known (part k tr')) }
  ups s r id k known tr tr' j i x at there below quiet alone more inv = let me = mine s r id k known tr at in
      let same : (o q : ℕ) → o ≢ j → has_out o (put r.trace k tr' q) ≡ has_out o (r.trace q) = λ o q ne. put_unseen (has_out o) r.trace k tr' (quiet o ne ∙ ap (has_out o) me.trace_is) q in
      moved s r id k known tr tr' i x (set s.homes j none) (put r.keeper j k) r.ended at (length-set s.homes j none) (set_else s.homes j last none (λ e. omega (arith, e, below)))
      (λ o q near e. dite (ℕ_discrete o j)
      (λ is. dite (ℕ_discrete q k)
      (λ mine_too. subst (λ (z : ℕ). SlotOut (set s.homes j none) (put r.keeper j k) z q) (sym is)
      (subst (λ (z : ℕ). SlotOut (set s.homes j none) (put r.keeper j k) j z) (sym mine_too)
      record { kept = put_same r.keeper j k; lies = set_here s.homes j none there }))
      (λ other. absurd (alone q near (subst (λ (z : ℕ). has_out z (r.trace q) ≡ true) is (ap (has_out o) (sym (put_other r.trace k tr' q other)) ∙ e)))))
      (λ ne. let old = r.slots o q near (sym (same o q ne) ∙ e) in record { kept = put_other r.keeper j k o ne ∙ old.kept; lies = set_else s.homes j o none ne ∙ old.lies }))
      (λ t b is. ⊎_elim (λ e. absurd (some-ne-none (Body b) (sym e.1))) (λ e. r.bodies t b e.1) (at_set s.homes j (slot_at t BODY_SLOT) none (some (Body b)) is))
      (told_gone r.trace k tr tr' me.trace_is more s.homes r.ended r.exclusives j) inv

  -- The slot j goes from the seat's hand to its place, with y in it
  pub downs : (s : St) (r : R s) (id k : ℕ) (known : Known) (tr tr' : List Rec) (j i x : ℕ) (y : Slot B) (ended' : ℕ → Bool)
      → get_elem? s.views id ≡ some (one known (part k tr)) → j < length s.homes → j < last
      → ((o : ℕ) → o ≢ j → has_out o tr' ≡ has_out o tr) → has_out j tr ≡ true → has_out j tr' ≡ false
      → ((t : ℕ) (b : B) → slot_at t BODY_SLOT ≡ j → y ≡ Body b → IsBody lasting key ended_of ended' t b)
      → ((t : ℕ) → slot_at t BODY_SLOT ≢ j → r.ended t ≡ ended' t)
      → TellsAll tr tr'
      → ((l t : ℕ) (entries : List WaitEntry) → slot_at l (slot_of OfWait) ≡ j → y ≡ Held (val.Wait entries)
      → has_entry entries (exclusive_entry t) ≡ true → gave_exclusive tr' l t ≡ true)
      → KeptAfter s r k tr' i x (set s.homes j (some y)) ended'
      → R record { words = set s.words i x; homes = set s.homes j (some y); views = set s.views id (one known (part k tr')) }
  downs s r id k known tr tr' j i x y ended' at there below quiet had back body others more new inv = let me = mine s r id k known tr at in
      let same : (o q : ℕ) → o ≢ j → has_out o (put r.trace k tr' q) ≡ has_out o (r.trace q) = λ o q ne. put_unseen (has_out o) r.trace k tr' (quiet o ne ∙ ap (has_out o) me.trace_is) q in
      let had' : has_out j (r.trace k) ≡ true = ap (has_out j) (sym me.trace_is) ∙ had in
      moved s r id k known tr tr' i x (set s.homes j (some y)) r.keeper ended' at (length-set s.homes j (some y)) (set_else s.homes j last (some y) (λ e. omega (arith, e, below)))
      (λ o q near e. dite (ℕ_discrete o j)
      (λ is. dite (ℕ_discrete q k)
      (λ mine_too.
      let out : has_out j tr' ≡ true = sym (ap (has_out j) (put_same r.trace k tr'))
      ∙ subst (λ (z : ℕ). has_out j (put r.trace k tr' z) ≡ true) mine_too (subst (λ (z : ℕ). has_out z (put r.trace k tr' q) ≡ true) is e) in
      let no : false ≡ true = sym back ∙ out in absurd (let never : ⊥ = cc in never))
      (λ other. let old = r.slots j q near (subst (λ (z : ℕ). has_out z (r.trace q) ≡ true) is (ap (has_out o) (sym (put_other r.trace k tr' q other)) ∙ e)) in
      absurd (other (sym old.kept ∙ (r.slots j k me.near had').kept))))
      (λ ne. let old = r.slots o q near (sym (same o q ne) ∙ e) in record { kept = old.kept; lies = set_else s.homes j o (some y) ne ∙ old.lies }))
      (λ t b is. ⊎_elim (λ e. body t b e.0 (some-injective y (Body b) e.1))
      (λ e. let old = r.bodies t b e.1 in record { lasts = old.lasts; ends = old.ends ∙ others t e.0 })
      (at_set s.homes j (slot_at t BODY_SLOT) (some y) (some (Body b)) is))
      (told_put r.trace k tr tr' me.trace_is more s.homes r.ended r.exclusives j y ended' new) inv
