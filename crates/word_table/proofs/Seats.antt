-- How seats are dealt and gathered.
use Rattle.std.proofs.Common.{◌≡◌, ◌≢◌, ℕ, zero, suc, ◌+◌, ◌<◌, set, length, map, length-set, refl, sym, ap, ◌∙◌, subst, List, [], ◌∷◌, ◌++◌, ◌⊎◌, inl, inr, ⊎_elim, Bool, arith}
use mathlib.Core.Option.{none, some, some-injective, some-ne-none}
use native.Mathlib.Decide.{ℕ_discrete}
use lib.ListN.{get_elem?}
use Rattle.atomic_table.specs.Table.{State, Splits, Joins, Enters, step}
use Rattle.atomic_table.proofs.Lists.{at_set, set_else}
use Rattle.core_data.specs.Columns.{put}
use Rattle.core_stores.proofs.Columns.{put_there, put_other}
use Rattle.word_steps.specs.Records.{Rec}
use Rattle.word_table.specs.Parts.{Part, Known}
use Rattle.word_table.proofs.Acts.{each_map}
use Rattle.word_table.specs.End.{part_of}
use Rattle.word_table.specs.Plays.{Sat, sat, bare, entered, spent}
use Rattle.word_table.specs.Ruled.{Each, Fits, known_of, Ruled, fresh, first_view, but_first, first_alone, joined, none_kept, all_given, taken_back}
use Rattle.word_table.specs.Views.{TokenView}
use Rattle.word_table.specs.declared.slot.Key.{Key}
use Rattle.word_table.specs.declared.slot.Slot.{Slot}
use Rattle.word_table.specs.declared.view.View.{View}

each_append : {A : Type 0} (P : A → Type 0) (xs ys : List A) → Each P xs → Each P ys → Each P (xs ++ ys)
each_append P [] ys a b = b
each_append P (x ∷ xs) ys a b = (a.0, each_append P xs ys a.1 b)

-- the last place of a list, or one before it
snoc_at : {A : Type 0} (l : List A) (a b : A) (j : ℕ) → get_elem? (l ++ a ∷ []) j ≡ some b
    → (get_elem? l j ≡ some b) ⊎ ((j ≡ length l) × (a ≡ b))
snoc_at [] a b zero e = inr (refl, some-injective a b e)
snoc_at [] a b (suc j) e = absurd (some-ne-none b (sym e))
snoc_at (x ∷ xs) a b zero e = inl e
snoc_at (x ∷ xs) a b (suc j) e = ⊎_elim inl (λ t. inr (omega (arith, t.0), t.1)) (snoc_at xs a b j e)

-- the parts that are dealt later have higher numbers
later : (m : ℕ) (trace : ℕ → List Rec) (owner : ℕ → ℕ) (j b low k n : ℕ) → low < k
    → Each (Fits m trace owner j) (fresh k n) → Each (Fits m trace (put owner low b) j) (fresh k n)
later m trace owner j b low k zero lt e = tt
later m trace owner j b low k (suc n) lt e = let f = e.0 in (
  record {
    near = f.near;
    owned = put_other owner low b k (λ same. omega arith)
        ∙ f.owned;
    trace_is = f.trace_is;
  },
  later m trace owner j b low (suc k) n (omega arith) e.1,
)

-- what the seat `other` had is the seat id's
moved_by : (id other n : ℕ) → Dec (n ≡ other) → ℕ
moved_by id other n (yes e) = id
moved_by id other n (no ne) = n

abbrev moved_to : (id other : ℕ) (o : ℕ → ℕ) → ℕ → ℕ
moved_to id other o q = moved_by id other (o q) (ℕ_discrete (o q) other)

by_other : (id other n : ℕ) (d : Dec (n ≡ other)) → n ≡ other → moved_by id other n d ≡ id
unfolding moved_by
by_other id other n (yes e) same = refl
by_other id other n (no ne) same = absurd (ne same)

by_else : (id other n : ℕ) (d : Dec (n ≡ other)) → n ≢ other → moved_by id other n d ≡ n
unfolding moved_by
by_else id other n (yes e) apart = absurd (apart e)
by_else id other n (no ne) apart = refl

from_other : (id other : ℕ) (o : ℕ → ℕ) (q : ℕ) → o q ≡ other → moved_to id other o q ≡ id
from_other id other o q e = by_other id other (o q) (ℕ_discrete (o q) other) e

from_else : (id other : ℕ) (o : ℕ → ℕ) (q : ℕ) → o q ≢ other → moved_to id other o q ≡ o q
from_else id other o q e = by_else id other (o q) (ℕ_discrete (o q) other) e

module _ {B : Type 0} (lasting : B → List ℕ) (ended_of : B → Bool) (key : Key B) where
  abbrev St : Type 0
  St = State (Slot B) View

  abbrev R : St → Type 0
  R = Ruled lasting ended_of key

  abbrev seats : ℕ
  seats = key.shape.cpus + key.shape.agents

  abbrev view_of : List Part → View
  view_of ps = record { parts = ps; known = known_of lasting key }

  -- what the rule says of the view at the seat j
  abbrev IsAt : {s : St} (r : R s) (owner : ℕ → ℕ) (j : ℕ) → View → Type 0
  IsAt r owner j v =
      Each (Fits seats r.trace owner j) v.parts × ((v.known ≡ known_of lasting key) ⊎ (v.parts ≡ []))

  -- the rule hangs on views only by whose each part is
  reseated : {s : St} (r : R s) (views : List View) (owner : ℕ → ℕ)
      → ((j : ℕ) (v : View) → get_elem? views j ≡ some v → IsAt r owner j v)
      → R record { words = s.words; homes = s.homes; views = views }
  reseated r views own parts = record {
    trace = r.trace;
    owner = own;
    keeper = r.keeper;
    ended = r.ended;
    bare = r.bare;
    wide = r.wide;
    deep = r.deep;
    room = r.room;
    parts = parts;
    slots = r.slots;
    bodies = r.bodies;
    inv = r.inv;
    exclusives = r.exclusives;
  }

  -- the seat has the parts from k on, and deals the first
  deals : (id k n : ℕ) → Splits R id (view_of (fresh k (suc n))) (view_of (fresh (suc k) n)) (view_of (fresh k 1))
  deals id k n s r at =
      let e = r.parts id (view_of (fresh k (suc n))) at in let f = e.0.0 in let b : ℕ = length s.views in
      let own : ℕ → ℕ = put r.owner k b in
      reseated r (set s.views id (view_of (fresh (suc k) n)) ++ view_of (fresh k 1) ∷ []) own
      (λ j u there. ⊎_elim
      (λ old. ⊎_elim
      (λ t. subst (IsAt r own j) t.1 (
        later seats r.trace r.owner j b k (suc k) n (omega arith)
            (subst (λ (z : ℕ). Each (Fits seats r.trace r.owner z) (fresh (suc k) n)) (sym t.0) e.0.1),
        inl refl,
      ))
      (λ t. let o = r.parts j u t.1 in (
        each_map (Fits seats r.trace r.owner j) (Fits seats r.trace own j) u.parts
            (λ p g. record {
              near = g.near;
              owned = put_other r.owner k b p.number (λ same. t.0 (sym g.owned ∙ ap r.owner same ∙ f.owned)) ∙ g.owned;
              trace_is = g.trace_is;
            })
            o.0,
        o.1,
      ))
      (at_set s.views id j (view_of (fresh (suc k) n)) u old))
      (λ new. subst (IsAt r own j) new.1 (
        (
          record {
            near = f.near;
            owned = put_there r.owner k b k refl
                ∙ sym (length-set s.views id (view_of (fresh (suc k) n)))
                ∙ sym new.0;
            trace_is = f.trace_is;
          },
          tt,
        ),
        inl refl,
      ))
      (snoc_at (set s.views id (view_of (fresh (suc k) n))) (view_of (fresh k 1)) u j there))

  gathers : (id other : ℕ) (v w : View) → v.known ≡ known_of lasting key → Joins R id v other w (joined v w) spent
  gathers id other v w is s r at apart there =
      let own : ℕ → ℕ = moved_to id other r.owner in
      let there' : get_elem? s.views other ≡ some w = sym (set_else s.views id other (joined v w) apart) ∙ there in
      let F : (ℕ → ℕ) → ℕ → Part → Type 0 = λ o j. Fits seats r.trace o j in
      reseated r (set (set s.views id (joined v w)) other spent) own
      (λ j u here. ⊎_elim
      (λ t. subst (IsAt r own j) t.1 (tt, inr refl))
      (λ t. ⊎_elim
      (λ z. subst (IsAt r own j) z.1 (
        each_append (F own j) w.parts v.parts
            (each_map (F r.owner other) (F own j) w.parts
            (λ p g. record {
              near = g.near;
              owned = from_other id other r.owner p.number g.owned
                  ∙ sym z.0;
              trace_is = g.trace_is;
            })
            (r.parts other w there').0)
            (each_map (F r.owner id) (F own j) v.parts
            (λ p g. record {
              near = g.near;
              owned = from_else id other r.owner p.number (λ e. apart (sym e ∙ g.owned))
                  ∙ (g.owned ∙ sym z.0);
              trace_is = g.trace_is;
            })
            (r.parts id v at).0),
        inl is,
      ))
      (λ z. let o = r.parts j u z.1 in (
        each_map (F r.owner j) (F own j) u.parts
            (λ p g. record {
              near = g.near;
              owned = from_else id other r.owner p.number (λ e. t.0 (sym g.owned ∙ e))
                  ∙ g.owned;
              trace_is = g.trace_is;
            })
            o.0,
        o.1,
      ))
      (at_set s.views id j (joined v w) u t.1))
      (at_set (set s.views id (joined v w)) other j spent u here))

  -- a seat hands all its parts to a new one
  hands_over : (id : ℕ) (v : View) → Splits R id v (none_kept v) (all_given v)
  hands_over id v s r at =
      let own : ℕ → ℕ = moved_to (length s.views) id r.owner in
      let F : (ℕ → ℕ) → ℕ → Part → Type 0 = λ o j. Fits seats r.trace o j in let mine = r.parts id v at in
      reseated r (set s.views id spent ++ v ∷ []) own
      (λ j u there. ⊎_elim
      (λ old. ⊎_elim (λ t. subst (IsAt r own j) t.1 (tt, inr refl))
      (λ t. let o = r.parts j u t.1 in (
        each_map (F r.owner j) (F own j) u.parts
            (λ p g. record {
              near = g.near;
              owned = from_else (length s.views) id r.owner p.number (λ e. t.0 (sym g.owned ∙ e)) ∙ g.owned;
              trace_is = g.trace_is;
            })
            o.0,
        o.1,
      ))
      (at_set s.views id j spent u old))
      (λ new. subst (IsAt r own j) new.1 (
        each_map (F r.owner id) (F own j) v.parts
            (λ p g. record {
              near = g.near;
              owned = from_other (length s.views) id r.owner p.number g.owned
                  ∙ (sym (length-set s.views id spent) ∙ sym new.0);
              trace_is = g.trace_is;
            })
            mine.0,
        mine.1,
      ))
      (snoc_at (set s.views id spent) v u j there))

  -- a seat with no part takes those of another back
  hands_back : (id other : ℕ) (w : View) → Joins R id spent other w (taken_back spent w) spent
  hands_back id other w s r at apart there =
      let own : ℕ → ℕ = moved_to id other r.owner in
      let there' : get_elem? s.views other ≡ some w = sym (set_else s.views id other w apart) ∙ there in
      let F : (ℕ → ℕ) → ℕ → Part → Type 0 = λ o j. Fits seats r.trace o j in let theirs = r.parts other w there' in
      reseated r (set (set s.views id w) other spent) own
      (λ j u here. ⊎_elim
      (λ t. subst (IsAt r own j) t.1 (tt, inr refl))
      (λ t. ⊎_elim
      (λ z. subst (IsAt r own j) z.1 (
        each_map (F r.owner other) (F own j) w.parts
            (λ p g. record {
              near = g.near;
              owned = from_other id other r.owner p.number g.owned ∙ sym z.0;
              trace_is = g.trace_is;
            })
            theirs.0,
        theirs.1,
      ))
      (λ z. let o = r.parts j u z.1 in (
        each_map (F r.owner j) (F own j) u.parts
            (λ p g. record {
              near = g.near;
              owned = from_else id other r.owner p.number (λ e. t.0 (sym g.owned ∙ e)) ∙ g.owned;
              trace_is = g.trace_is;
            })
            o.0,
        o.1,
      ))
      (at_set s.views id j w u t.1))
      (at_set (set s.views id w) other j spent u here))

  pub over_at : (id : ℕ) (m : Sat B) → Splits R id m.0 (none_kept m.0) (all_given m.0)
  over_at id m = hands_over id m.0

  pub back_at : (id other : ℕ) (m : Sat B) (w : View) (i : ℕ) (x : Slot B) → m ≡ bare i x
      → Joins R id m.0 other w (taken_back m.0 w) spent
  back_at id other m w i x is = subst (λ (z : View). Joins R id z other w (taken_back z w) spent)
      (sym (ap (λ (z : Sat B). z.0) is)) (hands_back id other w)

  pub deals_at : (id k n c : ℕ) (v : View) → c ≡ suc n → v ≡ view_of (fresh k c)
      → Splits R id v (but_first v) (first_alone v)
  deals_at id k n c v e is = subst (λ (z : View). Splits R id z (but_first z) (first_alone z))
      (sym (is ∙ λ j. view_of (fresh k (e j)))) (deals id k n)

  pub gathers_at : (id other : ℕ) (m : Sat B) (w : View) (ps : List Part) → m ≡ (view_of ps, [])
      → Joins R id m.0 other w (joined m.0 w) spent
  gathers_at id other m w ps is = gathers id other m.0 w (ap (λ (z : Sat B). z.0.known) is)

  -- a seat with no part enters
  pub enters : (slots i : ℕ) → Enters R slots i
      (λ n w. entered {B = B} (step slots i 0 0 none) (first_view lasting key, []) n (w, []))
  enters slots i s r deep _ = let w : View = view_of [] in (
    w,
    reseated r (s.views ++ w ∷ []) r.owner (λ j u there. ⊎_elim (λ old. r.parts j u old)
        (λ new. subst (IsAt r r.owner j) new.1 (tt, inl refl)) (snoc_at s.views w u j there)),
    refl,
  )

-- The seats before and after
module _ {B : Type 0} (lasting : B → List ℕ) (key : Key B) where
  abbrev with_parts : List Part → Sat B
  with_parts ps = (record { parts = ps; known = known_of lasting key }, [])

  full : (k n c : ℕ) (m : Sat B) → c ≡ suc n → m ≡ with_parts (fresh k c) → m ≡ with_parts (fresh k (suc n))
  full k n c m count is = is ∙ ap (λ (z : ℕ). with_parts (fresh k z)) count

  -- the seat that was dealt
  pub dealt : (k n c : ℕ) (m other : Sat B) → c ≡ suc n → m ≡ with_parts (fresh k c) → other ≡ (first_alone m.0, [])
      → other ≡ sat (known_of lasting key) k []
  dealt k n c m other count is got = got ∙ ap (λ (z : Sat B). (first_alone z.0, [])) (full k n c m count is)

  -- the one that dealt it
  pub dealt_from : (k n c r : ℕ) (m after : Sat B) → c ≡ suc n → r ≡ n → m ≡ with_parts (fresh k c)
      → after ≡ (but_first m.0, m.1) → after ≡ with_parts (fresh (k + 1) r)
  dealt_from k n c r m after count rest is got =
      got ∙ ap (λ (z : Sat B). (but_first z.0, z.1)) (full k n c m count is)
      ∙ ap (λ (z : ℕ × ℕ). with_parts (fresh z.0 z.1)) (up rest)
    where
      up : r ≡ n → ◌≡◌ {A = ℕ × ℕ} (suc k, n) (k + 1, r)
      up same = let one : suc k ≡ k + 1 = omega arith in λ j. (one j, sym same j)

  pub rests : (m : Sat B) (known : Known) (s : ℕ) (trace : List Rec) → m ≡ sat known s trace → m.1 ≡ []
  rests m known s trace is = ap (λ (z : Sat B). z.1) is

  -- the seat that was joined in
  pub gathered : (done : List TokenView) (token : TokenView) (known : Known) (m other after : Sat B)
      → m ≡ with_parts (map part_of done) → other ≡ sat known token.seat token.trace → after ≡ (joined m.0 other.0, m.1)
      → after ≡ with_parts (map part_of (token ∷ done))
  gathered done token known m other after is it got = got ∙ λ j. (joined (is j).0 (it j).0, (is j).1)
