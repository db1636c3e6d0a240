-- Each kind of step keeps the rule, and tells its seat what it did.
use Rattle.std.proofs.Common.{◌≡◌, ℕ, suc, ◌*◌, ◌<◌, ◌≤◌, Bool, true, eqb, set, get_or, length, lt-ltb, refl, sym, ap, ◌∙◌, subst, List, [], ◌∷◌, arith}
use Rattle.std.specs.Prelude.{Some, slice_index_or}
use mathlib.Core.Option.{none, some, some-injective}
use mathlib.Core.Option as maybe
use lib.ListN.{get_elem?}
use lib.Seq.{set-get_or}
use prog.Atomic.{either}
use Rattle.atomic_table.specs.Table.{step, Act, keeps, takes, gives, Valid, carried_after, stepped, Allows}
use Rattle.atomic_table.proofs.Lists.{set_again, exchanged}
use Rattle.core_data.specs.Columns.{put}
use Rattle.core_stores.proofs.Columns.{put_there, put_other}
use Rattle.handoff_data.specs.declared.shape.Shape.{Shape}
use Rattle.word_rule.proofs.BodyLaws.{take_body_law, return_body_law}
use Rattle.word_rule.proofs.LockLaws.{home_there, take_law, give_law}
use Rattle.word_rule.proofs.Taken.{take_told}
use Rattle.word_rule.specs.WordsHold.{WordsHold}
use Rattle.word_rule.specs.May.{MayGive, MayTakeBody, MayReturnBody}
use Rattle.word_rule.specs.Told.{TakeTold}
use Rattle.word_rule.specs.Sorts.{Sort, OfTask, OfQueue, OfWorks, OfWait, lock_of, count_of, held_of, IsOf, with_home}
use Rattle.word_steps.specs.Decode.{Homes}
use Rattle.word_steps.specs.Records.{Rec, Took, Gave, OutBody, HomeBody}
use Rattle.word_steps.specs.Words.{STRIDE, BODY, words_of}
use Rattle.word_steps.specs.declared.val.Val.{Val}
use Rattle.word_steps.specs.declared.val.Val.TheVariants as val
use Rattle.word_steps.proofs.FlatWords.{words_of-set}
use Rattle.word_table.specs.Kinds.{Note, May, Told, LeavesSlots, KeepsRule}
use Rattle.word_table.specs.Layout.{SLOTS, BODY_SLOT, rows_of, slot_of, word_at, slot_at}
use Rattle.word_table.specs.Outs.{has_out}
use Rattle.word_table.specs.Parts.{Known}
use Rattle.word_table.specs.Plays.{one, part, sat, holding, push, lift, lay, Sat, became, stored, tried, took, gave, left, came}
use Rattle.word_table.specs.Ruled.{IsBody, homes_of, lastings}
use Rattle.word_table.specs.declared.slot.Key.{Key}
use Rattle.word_table.specs.declared.slot.Slot.{Slot}
use Rattle.word_table.specs.declared.slot.Slot.TheVariants.{Empty, Held, Body}
use Rattle.word_table.specs.declared.view.View.{View}
use Rattle.word_table.proofs.Acts.{St, R, seats, mine, steady, ups, downs}
use Rattle.word_table.proofs.Exclusives.{tells_more, given_told}
use Rattle.word_table.proofs.Decoded.{without_shown, home_shown, body_shown, value_there, body_there}
use Rattle.word_table.proofs.Rows.{count_rows, tasks_rows}
use Rattle.word_table.proofs.Slotted.{sort_is, held_is, low_slot, quiet_out, took_else, held_out, gave_back, gave_else, body_out, left_else, came_back, came_else}

pub lock_low : (sort : Sort) → lock_of sort < STRIDE
lock_low OfTask = omega arith
lock_low OfQueue = omega arith
lock_low OfWorks = omega arith
lock_low OfWait = omega arith

-- what is given is of the lock's sort
given_is : (s : ℕ) (trace : List Rec) (shape : Shape) (sort : Sort) (n : ℕ) (v : Val) → MayGive s trace shape sort n v → IsOf sort v
given_is s trace shape OfTask n (val.Task v) may = tt
given_is s trace shape OfTask n (val.Queue v) may = may
given_is s trace shape OfTask n (val.Works v) may = may
given_is s trace shape OfTask n (val.Wait v) may = may
given_is s trace shape OfQueue n (val.Task v) may = may
given_is s trace shape OfQueue n (val.Queue v) may = tt
given_is s trace shape OfQueue n (val.Works v) may = may
given_is s trace shape OfQueue n (val.Wait v) may = may
given_is s trace shape OfWorks n (val.Task v) may = may
given_is s trace shape OfWorks n (val.Queue v) may = may
given_is s trace shape OfWorks n (val.Works v) may = tt
given_is s trace shape OfWorks n (val.Wait v) may = may
given_is s trace shape OfWait n (val.Task v) may = may
given_is s trace shape OfWait n (val.Queue v) may = may
given_is s trace shape OfWait n (val.Works v) may = may
given_is s trace shape OfWait n (val.Wait v) may = tt

word_seen : (ws : List ℕ) (n c : ℕ) → c < STRIDE → words_of ws n c ≡ get_or ws (word_at n c) 0
word_seen ws n c low = rw (lt-ltb c 64 low)

module _ {B : Type 0} where
  abbrev slot_in : List (ℕ × Slot B) → Slot B
  slot_in [] = Empty
  slot_in (x ∷ xs) = x.1

module _ {B : Type 0} (lasting : B → List ℕ) (ended_of : B → Bool) (key : Key B) where
  abbrev Goes : St lasting ended_of key → ℕ → ℕ → Sat B → (ℕ → Sat B → Type 0) → ℕ → Type 0
  Goes s i id m told x = (w : View) × (a : Act (Slot B)) × Valid s.homes m.1 a × R lasting ended_of key (stepped s i x id m.1 w a) × told (get_or s.words i 0) (w, carried_after m.1 a)

  -- nothing changes
  stands : (s : St lasting ended_of key) (r : R lasting ended_of key s) (i id : ℕ) (m : Sat B) (told : ℕ → Sat B → Type 0)
      → get_elem? s.views id ≡ some m.0 → told (get_or s.words i 0) m → Goes s i id m told (get_or s.words i 0)
  stands s r i id m told at tells = (
    m.0,
    keeps,
    tt,
    subst (R lasting ended_of key) (λ j. record { words = sym (set-get_or s.words i 0) j; homes = s.homes; views = sym (set_again s.views id m.0 at) j }) r,
    tells,
  )

  in_words : (s : St lasting ended_of key) (r : R lasting ended_of key s) (n c : ℕ) → n < rows_of key.shape → c < STRIDE
      → word_at n c < length s.words
  in_words s r n c lt low = let w = r.wide in omega (arith, w, lt, low)

  in_homes : (s : St lasting ended_of key) (r : R lasting ended_of key s) (n c : ℕ) → n < rows_of key.shape → c < SLOTS
      → slot_at n c < length s.homes
  in_homes s r n c lt low = let w = r.deep in omega (arith, w, lt, low)

  before_room : (n c : ℕ) → n < rows_of key.shape → c < SLOTS → slot_at n c < SLOTS * rows_of key.shape
  before_room n c lt low = omega (arith, lt, low)

  -- A kind of step on one word, by what a `Kind` has
  module _ (col : ℕ) (bound : Shape → ℕ) (note : Note) (may : May) (told : Told) (low : col < STRIDE) (rows : (shape : Shape) → bound shape ≤ rows_of shape)
      (quiet : LeavesSlots note)
      (keep : KeepsRule col bound note may told) where
    pub by_kind : (s : St lasting ended_of key) (r : R lasting ended_of key s) (id k n y : ℕ) (known : Known) (tr : List Rec)
        → n < bound key.shape → get_elem? s.views id ≡ some (one known (part k tr))
        → may key.shape k tr n (get_or s.words (word_at n col) 0) y
        → R lasting ended_of key record {
          words = set s.words (word_at n col) y;
          homes = s.homes;
          views = set s.views id (one known (part k (note k tr n y (get_or s.words (word_at n col) 0) ∷ tr)));
        } × told known.shape k tr n (get_or s.words (word_at n col) 0)
    by_kind s r id k n y known tr lt at ok =
        let m = mine lasting ended_of key s r id k known tr at in let x : ℕ = get_or s.words (word_at n col) 0 in
        let is : words_of s.words n col ≡ x = word_seen s.words n col low in
        let row : n < rows_of key.shape = (let h = rows key.shape in omega (arith, lt, h)) in
        let homes = homes_of s.homes r.ended in
        let kept = keep key.shape (words_of s.words) homes r.trace k n y r.inv m.near lt (subst (λ (z : ℕ × List Rec). may key.shape k z.1 n z.0 y) (λ j. (sym is j, m.trace_is j)) ok) in
        let shown = words_of-set s.words n col y low (in_words s r n col row low) in (
          steady lasting ended_of key s r id k known tr (note k tr n y x ∷ tr) (word_at n col) y at (quiet_out (note k tr n y x) tr (quiet k tr n y x)) (tells_more (note k tr n y x) tr)
              (subst (λ (z : (ℕ → ℕ → ℕ) × List Rec × ℕ). WordsHold key.shape z.0 homes (put r.trace k (note k z.1 n y z.2 ∷ z.1))) (λ j. (sym shown j, sym m.trace_is j, is j)) kept.0),
          subst (λ (z : Known × List Rec × ℕ). told z.0.shape k z.1 n z.2)
              (λ j. (sym m.known_is j, sym m.trace_is j, is j)) kept.1,
        )

    pub may_become : (f : ℕ → ℕ) (slots a id k n : ℕ) (known : Known) (tr : List Rec) → n < bound key.shape
        → ((x : ℕ) → may key.shape k tr n x (f x))
        → Allows (R lasting ended_of key) slots id (sat known k tr) (word_at n col) f (became col note told f (step slots (word_at n col) a 0 none) (sat known k tr))
    may_become f slots a id k n known tr lt ok s r deep at _ = let x : ℕ = get_or s.words (word_at n col) 0 in
        let z = by_kind s r id k n (f x) known tr lt at (ok x) in (
          one known (part k (note k tr n (f x) x ∷ tr)),
          keeps,
          tt,
          z.0,
          λ u same. let e : n ≡ u = omega (arith, same) in (
            subst (λ (w : ℕ). told known.shape k tr w x) e z.1,
            ap (λ (w : ℕ). push (note k tr w (f x) x) (sat known k tr)) e,
          ),
        )

    pub may_store : (slots id k n y : ℕ) (known : Known) (tr : List Rec) → n < bound key.shape → ((x : ℕ) → may key.shape k tr n x y)
        → ((x : ℕ) → note k tr n y x ≡ note k tr n y y)
        → Allows (R lasting ended_of key) slots id (sat known k tr) (word_at n col) (λ _. y) (λ _. stored col note told (step slots (word_at n col) y 0 none) (sat known k tr) y)
    may_store slots id k n y known tr lt ok plain s r deep at _ = let x : ℕ = get_or s.words (word_at n col) 0 in
        let z = by_kind s r id k n y known tr lt at (ok x) in (
          one known (part k (note k tr n y x ∷ tr)),
          keeps,
          tt,
          z.0,
          λ u same. let e : n ≡ u = omega (arith, same) in ap (λ (w : Rec). push w (sat known k tr)) (plain x) ∙ ap (λ (w : ℕ). push (note k tr w y y) (sat known k tr)) e,
        )

    pub may_try : (slots id k n old new : ℕ) (known : Known) (tr : List Rec) → n < bound key.shape → may key.shape k tr n old new
        → Allows (R lasting ended_of key) slots id (sat known k tr) (word_at n col) (λ x. either (eqb x old) new x) (tried col note told (step slots (word_at n col) old new none) (sat known k tr))
    may_try slots id k n old new known tr lt ok s r deep at _ = let x : ℕ = get_or s.words (word_at n col) 0 in
        let says = tried col note told (step slots (word_at n col) old new none) (sat known k tr) in
        exchanged x old new (Goes s (word_at n col) id (sat known k tr) says)
        (λ hit. let z = by_kind s r id k n new known tr lt at (subst (λ (w : ℕ). may key.shape k tr n w new) (sym hit) ok) in (
          one known (part k (note k tr n new x ∷ tr)),
          keeps,
          tt,
          z.0,
          λ u same. let e : n ≡ u = omega (arith, same) in (
            (λ _. (
              subst (λ (w : ℕ). told known.shape k tr w x) e z.1,
              ap (λ (w : ℕ). push (note k tr w new x) (sat known k tr)) e,
            )),
            λ miss. absurd (miss hit),
          ),
        ))
        (λ miss. stands s r (word_at n col) id (sat known k tr) says at (λ u same. ((λ hit. absurd (miss hit)), λ _. refl)))

  -- a slot that lies at home is out with nobody
  at_home : (s : St lasting ended_of key) (r : R lasting ended_of key s) (j q : ℕ) (y : Slot B) → get_elem? s.homes j ≡ some (some y)
      → q < seats lasting ended_of key → has_out j (r.trace q) ≡ true → ⊥
  at_home s r j q y lies near out = let e : ◌≡◌ {A = maybe.Option (Slot B)} none (some y) = some-injective none (some y) (sym (r.slots j q near out).lies ∙ lies) in cc

  -- The locks

  pub may_take : (slots id k : ℕ) (sort : Sort) (n : ℕ) (known : Known) (tr : List Rec) → n < count_of sort key.shape
      → Allows (R lasting ended_of key) slots id (sat known k tr) (word_at n (lock_of sort)) (λ x. either (eqb x 0)
      (suc k) x) (took sort (step slots (word_at n (lock_of sort)) 0 (suc k) none) (sat known k tr))
  may_take slots id k sort n known tr lt s r deep at _ = let m = mine lasting ended_of key s r id k known tr at in
      let i : ℕ = word_at n (lock_of sort) in let x : ℕ = get_or s.words i 0 in let j : ℕ = slot_at n (slot_of sort) in
      let homes = homes_of s.homes r.ended in
      let row : n < rows_of key.shape = (let h = count_rows sort key.shape in omega (arith, lt, h)) in
      let room : j < length s.homes = in_homes s r n (slot_of sort) row (low_slot sort) in
      let says = took sort (step slots i 0 (suc k) none) (sat known k tr) in
      exchanged x 0 (suc k) (Goes s i id (sat known k tr) says)
      (λ hit. let free : words_of s.words n (lock_of sort) ≡ 0 = word_seen s.words n (lock_of sort) (lock_low sort) ∙ hit in
      let there = home_there sort key.shape (words_of s.words) homes r.trace n r.inv lt free in let v : Val = there.0 in
      let lies = value_there sort s.homes r.ended n v there.1 in
      let tells : (u : ℕ) → n ≡ u → TakeTold known.shape k tr sort u v =
      λ u e. subst (λ (z : Known × List Rec × ℕ). TakeTold z.0.shape k z.1 sort z.2 v)
      (λ h. (sym m.known_is h, sym m.trace_is h, e h)) (take_told key.shape (words_of s.words) homes r.trace k r.inv sort n v there.1) in (
        one known (part k (Took n v ∷ tr)),
        takes j (Held v),
        lies,
        ups lasting ended_of key s r id k known tr (Took n v ∷ tr) j i (suc k) at room (before_room n (slot_of sort) row (low_slot sort)) (took_else sort n v there.2 tr)
            (λ q near out. at_home s r j q (Held v) lies near out) (tells_more (Took n v) tr)
            (subst (λ (z : (ℕ → ℕ → ℕ) × Homes × List Rec). WordsHold key.shape z.0 z.1 (put r.trace k (Took n v ∷ z.2)))
            (λ h. (
              sym (words_of-set s.words n (lock_of sort) (suc k) (lock_low sort) (in_words s r n (lock_of sort) row (lock_low sort))) h,
              sym (without_shown s.homes r.ended sort n room) h,
              sym m.trace_is h,
            ))
            (take_law sort key.shape (words_of s.words) homes r.trace k n v r.inv m.near lt free there.1)),
        λ u same. let e : n ≡ u = omega (arith, same) in (
          (λ _. (v, there.2, tells u e, ap (λ (z : ℕ). lift (slot_at z (slot_of sort)) (Held v) (push (Took z v) (sat known k tr))) e)),
          λ miss. absurd (miss hit),
        ),
      ))
      (λ miss. stands s r i id (sat known k tr) says at (λ u same. ((λ hit. absurd (miss hit)), λ _. refl)))

  pub may_give : (slots id k : ℕ) (sort : Sort) (n : ℕ) (known : Known) (tr : List Rec) (v w : Val) → n < count_of sort key.shape
      → held_of sort tr n ≡ Some v → MayGive k tr key.shape sort n w
      → Allows (R lasting ended_of key) slots id (holding known k tr (slot_at n (slot_of sort))
      (Held w)) (word_at n (lock_of sort)) (λ _. 0) (λ _. gave sort (step slots (word_at n (lock_of sort)) 0 0 none) (holding known k tr (slot_at n (slot_of sort)) (Held w)) 0)
  may_give slots id k sort n known tr v w lt has may s r deep at _ = let j : ℕ = slot_at n (slot_of sort) in
      let i : ℕ = word_at n (lock_of sort) in let m = mine lasting ended_of key s r id k known tr at in
      let homes = homes_of s.homes r.ended in let row : n < rows_of key.shape = (let h = count_rows sort key.shape in omega (arith, lt, h)) in
      let room : j < length s.homes = in_homes s r n (slot_of sort) row (low_slot sort) in
      let is = sort_is sort w (given_is k tr key.shape sort n w may) in let of = held_is sort tr n v has in
      let shown : homes_of (set s.homes j (some (Held w))) r.ended ≡ with_home n w homes =
      ap (λ (z : Sort). homes_of (set s.homes (slot_at n (slot_of z)) (some (Held w))) r.ended) is
      ∙ home_shown s.homes r.ended n w (subst (λ (z : Sort). slot_at n (slot_of z) < length s.homes) is room) in (
        one known (part k (Gave n v w ∷ tr)),
        gives,
        tt,
        downs lasting ended_of key s r id k known tr (Gave n v w ∷ tr) j i 0 (Held w) r.ended at room (before_room n (slot_of sort) row (low_slot sort)) (gave_else sort n v of w tr)
            (held_out sort tr n v has) (gave_back sort n v of w tr) (λ u b e d. let no : Held w ≡ Body b = d in cc) (λ u ne. refl) (tells_more (Gave n v w) tr)
            (λ l u es e d has. let x : Slot B = Held w in let y : Slot B = Held (val.Wait es) in let f : x ≡ y = d in let w' : w ≡ val.Wait es = cc in given_told n v w tr sort l u es e w' has)
            (subst (λ (z : (ℕ → ℕ → ℕ) × Homes × List Rec). WordsHold key.shape z.0 z.1 (put r.trace k (Gave n v w ∷ z.2)))
            (λ h. (sym (words_of-set s.words n (lock_of sort) 0 (lock_low sort) (in_words s r n (lock_of sort) row (lock_low sort))) h, sym shown h, sym m.trace_is h))
            (give_law sort key.shape (words_of s.words) homes r.trace k n v w r.inv m.near lt (ap (λ (z : List Rec). held_of sort z n) (sym m.trace_is)
            ∙ has) (subst (λ (z : List Rec). MayGive k z key.shape sort n w) m.trace_is may))),
        λ u v' w' same has' holds. let e : n ≡ u = omega (arith, same) in
            let a : Some v ≡ Some v' = sym has ∙ (ap (λ (z : ℕ). held_of sort tr z) e ∙ has') in let b : v ≡ v' = cc in
            let x : Slot B = Held w in let y : Slot B = Held w' in let c : x ≡ y = ap (λ (z : List (ℕ × Slot B)). slot_in z) holds in
            let d : w ≡ w' = cc in
            λ h. lay (push (Gave (e h) (b h) (d h)) (holding known k tr j (Held w))),
      )

  -- Bodies

  pub may_leave : (slots id k t : ℕ) (known : Known) (tr : List Rec) → t < key.shape.tasks → MayTakeBody k tr t
      → Allows (R lasting ended_of key) slots id (sat known k tr) (word_at t BODY) (λ x. x) (left lasting ended_of (step slots (word_at t BODY) 0 0 none) (sat known k tr))
  may_leave slots id k t known tr lt may s r deep at _ = let m = mine lasting ended_of key s r id k known tr at in
      let i : ℕ = word_at t BODY in let j : ℕ = slot_at t BODY_SLOT in
      let homes = homes_of s.homes r.ended in let row : t < rows_of key.shape = (let h = tasks_rows key.shape in omega (arith, lt, h)) in
      let room : j < length s.homes = in_homes s r t BODY_SLOT row (omega arith) in
      let law = take_body_law key.shape (words_of s.words) homes r.trace k t r.inv m.near lt (subst (λ (z : List Rec). MayTakeBody k z t) m.trace_is may) in
      let there = body_there (get_elem? s.homes j) law.0 in let b : B = there.0 in let is = r.bodies t b there.1 in (
        one known (part k (OutBody t (ended_of b) ∷ tr)),
        takes j (Body b),
        there.1,
        ups lasting ended_of key s r id k known tr (OutBody t (ended_of b) ∷ tr) j i (get_or s.words i 0) at room (before_room t BODY_SLOT row (omega arith)) (left_else t (ended_of b) tr may.home)
            (λ q near out. at_home s r j q (Body b) there.1 near out) (tells_more (OutBody t (ended_of b)) tr)
            (subst (λ (z : List ℕ × Homes × List Rec × Bool). WordsHold key.shape (words_of z.0) z.1 (put r.trace k (OutBody t z.3 ∷ z.2)))
            (λ h. (sym (set-get_or s.words i 0) h, sym (body_shown s.homes r.ended t none room) h, sym m.trace_is h, sym is.ends h)) law.1),
        λ u same. let e : t ≡ u = omega (arith, same) in (
          b,
          ap (λ (z : ℕ). lift (slot_at z BODY_SLOT) (Body b) (push (OutBody z (ended_of b)) (sat known k tr))) e,
          is.lasts ∙ ap (λ (z : Known). slice_index_or z.lasting t []) (sym m.known_is) ∙ ap (λ (z : ℕ). slice_index_or known.lasting z []) e,
        ),
      )

  pub may_come : (slots id k t : ℕ) (known : Known) (tr : List Rec) (b : B) → t < key.shape.tasks → MayReturnBody k tr t (ended_of b)
      → lasting b ≡ slice_index_or (lastings lasting key) t []
      → Allows (R lasting ended_of key) slots id (holding known k tr (slot_at t BODY_SLOT)
      (Body b)) (word_at t BODY) (λ x. x) (came ended_of (step slots (word_at t BODY) 0 0 none) (holding known k tr (slot_at t BODY_SLOT)
      (Body b)))
  may_come slots id k t known tr b lt may lasts s r deep at _ = let i : ℕ = word_at t BODY in let j : ℕ = slot_at t BODY_SLOT in
      let m = mine lasting ended_of key s r id k known tr at in
      let homes = homes_of s.homes r.ended in let row : t < rows_of key.shape = (let h = tasks_rows key.shape in omega (arith, lt, h)) in
      let room : j < length s.homes = in_homes s r t BODY_SLOT row (omega arith) in
      let law = return_body_law key.shape (words_of s.words) homes r.trace k t (ended_of b) r.inv m.near lt (subst (λ (z : List Rec). MayReturnBody k z t (ended_of b)) m.trace_is may) in
      let ended' : ℕ → Bool = put r.ended t (ended_of b) in (
        one known (part k (HomeBody t (ended_of b) ∷ tr)),
        gives,
        tt,
        downs lasting ended_of key s r id k known tr (HomeBody t (ended_of b) ∷ tr) j i (get_or s.words i 0) (Body b) ended' at room (before_room t BODY_SLOT row (omega arith))
            (came_else t (ended_of b) tr may.out)
            (body_out tr t may.out) (came_back t (ended_of b) tr)
            (λ u c e d. let e' : t ≡ u = omega (arith, e) in let d' : b ≡ c = cc in subst (λ (z : ℕ × B). IsBody lasting key ended_of ended' z.0 z.1) (λ h. (e' h, d' h)) record {
              lasts = lasts;
              ends = sym (put_there r.ended t (ended_of b) t refl);
            })
            (λ u ne. sym (put_other r.ended t (ended_of b) u (λ e. ne (omega (arith, e)))))
            (tells_more (HomeBody t (ended_of b)) tr) (λ l u es e d has. let no : Body b ≡ Held (val.Wait es) = d in cc)
            (subst (λ (z : List ℕ × Homes × List Rec). WordsHold key.shape (words_of z.0) z.1 (put r.trace k (HomeBody t (ended_of b) ∷ z.2)))
            (λ h. (sym (set-get_or s.words i 0) h, sym (body_shown s.homes ended' t (some (Body b)) room) h, sym m.trace_is h)) law.1),
        λ u c same holds. let e : t ≡ u = omega (arith, same) in let d : Body b ≡ Body c = ap (λ (z : List (ℕ × Slot B)). slot_in z) holds in
            let d' : b ≡ c = cc in
            λ h. lay (push (HomeBody (e h) (ended_of (d' h))) (holding known k tr j (Body b))),
      )
