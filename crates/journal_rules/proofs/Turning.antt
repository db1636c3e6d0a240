-- What turns say of one another, and what stands behind the facts of the kinds TurnIn, Due and Taken.
use Rattle.std.proofs.Common.{◌≡◌, ◌+◌, ◌<◌, ◌⊎◌, ◌↔◌, ℕ, zero, suc, Bool, true, false, List, Option, Some, None, arith, sym, ◌∙◌, refl, subst, inl, inr, length, get_or}
use Rattle.std.specs.Prelude.{Contains, slice_get}
use Rattle.std.proofs.lemmas.Option.{get_or_from_slice_get, slice_get_within}
use Rattle.std.specs.Option.{option_and_then}
use Rattle.std.proofs.lemmas.Bool.{cases_lt}
use Rattle.handoff_data.specs.declared.entry.Entry.{Entry}
use Rattle.handoff_data.specs.declared.entry.Entry.TheVariants as entry
use Rattle.handoff_data.specs.History.{History}
use Rattle.handoff_data.specs.Positions.{Stands, IsBefore, IsSomewhere}
use Rattle.handoff_data.specs.Rules.{IsTurn, IsLastTurn, HasNoTurn, IsOffline}
use Rattle.journal_facts.specs.declared.fact.Fact.{Fact}
use Rattle.journal_facts.specs.declared.fact.Kind.TheVariants as kind
use Rattle.journal_facts.specs.Facts.{fact_at, here_on}
use Rattle.journal_facts.specs.Answers.{HasFront, TellsBefore, IsLastIndex}
use Rattle.journal_facts.proofs.KindNumbers.{rebuilt}
use Rattle.journal_rules.specs.Known.{KnowsFacts}
use Rattle.journal_rules.proofs.Meaning.{same, says_turn, says_due}
use Rattle.journal_rules.proofs.Words.{found, listed}
use Rattle.journal_rules.specs.Turns.{IsTurnBefore, MayGo, MayReturn, IsGone, KeptSoFar}

pub some_inside : {A : Type 0} (x y : A) → Some x ≡ Some y → x ≡ y
some_inside x y e = cc

-- one entry stands at a position
pub one_stands : (j : History) (s i : ℕ) (a b : Entry) → Stands j s i a → Stands j s i b → a ≡ b
one_stands j s i a b x y = some_inside a b (sym x.at ∙ y.at)

-- a journal has one last turn
pub one_turn : (j : History) (s i : ℕ) (a b : Entry) → IsLastTurn j s i a → IsLastTurn j s i b → a ≡ b
one_turn j s i a b x y =
    let la : ℕ = x.1.0 in
    let lb : ℕ = y.1.0 in
    elim (cases_lt la lb) [
      | inl less ↦ absurd (x.1.3 lb b less y.1.1 y.1.2 y.0)
      | inr other ↦ elim (cases_lt lb la) [
        | inl more ↦ absurd (y.1.3 la a more x.1.1 x.1.2 x.0)
        | inr rest ↦
            let e : la ≡ lb = omega arith in
            one_stands j s lb a b (subst (λ (k : ℕ). Stands j s k a) e x.1.2) y.1.2
      ]
    ]

pub no_turn : (j : History) (s i : ℕ) (a : Entry) → HasNoTurn j s i → IsLastTurn j s i a → ⊥
no_turn j s i a none x = none x.1.0 a x.1.1 x.1.2 x.0

up_inside : (c e c' e' : ℕ) → entry.Up c e ≡ entry.Up c' e' → e ≡ e'
up_inside c e c' e' h = cc

offline_inside : (c e c' e' : ℕ) → entry.Offline c e ≡ entry.Offline c' e' → e ≡ e'
offline_inside c e c' e' h = cc

abbrev Goes : History → ℕ → ℕ → ℕ → Type 0
Goes j s i e = (HasNoTurn j s i × (e ≡ 0)) ⊎ ((c' : ℕ) × IsLastTurn j s i (entry.Up c' e))

goes : (j : History) (s i e : ℕ) (a : Entry) → IsLastTurn j s i a → MayGo (Some a) e → Goes j s i e
goes j s i e a = elim a as (λ x. IsLastTurn j s i x → MayGo (Some x) e → Goes j s i e) [
  | entry.Up c last ↦ λ x h. inr (c, subst (λ (n : ℕ). IsLastTurn j s i (entry.Up c n)) (sym h) x)
  | _ ↦ λ x h. absurd h
]

gone_by : (j : History) (s i e : ℕ) (a : Entry) → IsLastTurn j s i a → Goes j s i e → MayGo (Some a) e
gone_by j s i e a x h = elim h [
  | inl none ↦ absurd (no_turn j s i a none.0 x)
  | inr up ↦ subst (λ (y : Entry). MayGo (Some y) e) (one_turn j s i (entry.Up up.0 e) a up.1 x) refl
]

-- whether a processor may go offline, by the last turn
pub go_words : (j : History) (s i e : ℕ) (turn : Option Entry) → IsTurnBefore j s i turn
    → MayGo turn e ↔ ((HasNoTurn j s i × (e ≡ 0)) ⊎ ((c' : ℕ) × IsLastTurn j s i (entry.Up c' e)))
go_words j s i e None none = (λ h. inl (none, h), λ h. elim h [ inl z ↦ z.1 | inr up ↦ absurd (no_turn j s i _ none up.1) ])
go_words j s i e (Some a) x = (λ h. goes j s i e a x h, λ h. gone_by j s i e a x h)

abbrev Returns : History → ℕ → ℕ → ℕ → Type 0
Returns j s i e = (c' e' : ℕ) × IsLastTurn j s i (entry.Offline c' e') × (e ≡ e' + 1)

returns_by : (j : History) (s i e : ℕ) (a : Entry) → IsLastTurn j s i a → MayReturn (Some a) e → Returns j s i e
returns_by j s i e a = elim a as (λ x. IsLastTurn j s i x → MayReturn (Some x) e → Returns j s i e) [
  | entry.Offline c last ↦ λ x h. (c, last, x, h)
  | _ ↦ λ x h. absurd h
]

-- whether it may come back
pub return_words : (j : History) (s i e : ℕ) (turn : Option Entry) → IsTurnBefore j s i turn
    → MayReturn turn e ↔ ((c' e' : ℕ) × IsLastTurn j s i (entry.Offline c' e') × (e ≡ e' + 1))
return_words j s i e None none = (λ h. absurd h, λ h. absurd (no_turn j s i _ none h.2))
return_words j s i e (Some a) x = (
  λ h. returns_by j s i e a x h,
  λ h. subst (λ (y : Entry). MayReturn (Some y) e) (one_turn j s i (entry.Offline h.0 h.1) a h.2 x) h.3,
)

gone : (j : History) (s i : ℕ) (a : Entry) → IsLastTurn j s i a → IsGone (Some a) → IsOffline j s i
gone j s i a = elim a as (λ x. IsLastTurn j s i x → IsGone (Some x) → IsOffline j s i) [
  | entry.Offline c last ↦ λ x h. (c, last, x)
  | _ ↦ λ x h. absurd h
]

-- whether it is offline
pub gone_words : (j : History) (s i : ℕ) (turn : Option Entry) → IsTurnBefore j s i turn → IsGone turn ↔ IsOffline j s i
gone_words j s i None none = (λ h. absurd h, λ h. absurd (no_turn j s i _ none h.2))
gone_words j s i (Some a) x = (
  λ h. gone j s i a x h,
  λ h. subst (λ (y : Entry). IsGone (Some y)) (one_turn j s i (entry.Offline h.0 h.1) a h.2 x) tt,
)

-- what was listed to the processor in the epochs before its last return was queued before
pub taken_earlier : (j : History) (s i c e : ℕ) → KeptSoFar j s i → ((c' : ℕ) × IsLastTurn j s i (entry.Up c' e)) → c ≡ s
    → (t m epoch : ℕ) → epoch < e → IsSomewhere j (entry.List t m c epoch) → IsBefore j s i (entry.Enq t (m + 1) c true)
taken_earlier j s i c e kept up own t m epoch less somewhere =
    let back = kept.leaves_none up.1.1.0 (entry.Up up.0 e) up.1.1.1 up.1.1.2 in
    let c' : ℕ = back.0 in
    let e' : ℕ = back.1 in
    let off = back.2 in
    let at : ℕ = off.1.0 in
    let up_at : ℕ = up.1.1.0 in
    let sooner : at < up_at = off.1.1 in
    let before : up_at < i = up.1.1.1 in
    let next : e ≡ e' + 1 = back.3 in
    let seat_is : c' ≡ s = (kept.in_range at (entry.Offline c' e') (omega arith) off.1.2).1 in
    let same : c ≡ c' = own ∙ sym seat_is in
    let left = (kept.leaves_none at (entry.Offline c' e') (omega arith) off.1.2).1 in
    let q = left t m epoch (omega arith) (subst (λ (x : ℕ). IsSomewhere j (entry.List t m x epoch)) same somewhere) in
    let k : ℕ = q.0 in
    let below : k < at = q.1 in
    (k, omega arith, subst (λ (x : ℕ). Stands j s k (entry.Enq t (m + 1) x true)) (sym same) q.2)

says_taken_by : (s i : ℕ) (t' m' c' : ℕ) (b : Bool) (t m c s' i' : ℕ) → fact_at kind.Taken s i (entry.Enq t' m' c' b) ≡ Some (here_on kind.Taken s' i' t m c)
    → (entry.Enq t' m' c' b ≡ entry.Enq t (m + 1) c true) × (s ≡ s') × (i ≡ i')
says_taken_by s i t' zero c' b t m c s' i' h = absurd (cc)
says_taken_by s i t' (suc m') c' true t m c s' i' h =
    let q = same kind.Taken kind.Taken s i t' m' c' s' i' t m c h in
    let n : suc m' ≡ m + 1 = omega (arith, q.number) in
    (cc (q.subject, n, q.cpu), q.seat, q.index)
says_taken_by s i t' (suc m') c' false t m c s' i' h = absurd (cc)

says_taken : (s i : ℕ) (e : Entry) (t m c s' i' : ℕ) → fact_at kind.Taken s i e ≡ Some (here_on kind.Taken s' i' t m c)
    → (e ≡ entry.Enq t (m + 1) c true) × (s ≡ s') × (i ≡ i')
says_taken s i e t m c s' i' =
    elim e as (λ x. fact_at kind.Taken s i x ≡ Some (here_on kind.Taken s' i' t m c) → (x ≡ entry.Enq t (m + 1) c true) × (s ≡ s') × (i ≡ i')) [
      | entry.Enq t' m' c' b ↦ says_taken_by s i t' m' c' b t m c s' i'
      | _ ↦ λ h. absurd (cc)
    ]

tells_taken : (s i t m c n : ℕ) → n ≡ suc m → fact_at kind.Taken s i (entry.Enq t n c true) ≡ Some (here_on kind.Taken s i t m c)
tells_taken s i t m c n e = subst (λ (x : ℕ). fact_at kind.Taken s i (entry.Enq t x c true) ≡ Some (here_on kind.Taken s i t m c)) (sym e) refl

pub at_place : (j : History) (s i s' i' : ℕ) (e : Entry) → s ≡ s' → i ≡ i' → Stands j s i e → Stands j s' i' e
at_place j s i s' i' e es ei x = subst (λ (y : ℕ). Stands j y i' e) es (subst (λ (y : ℕ). Stands j s y e) ei x)

module _ (j : History) (facts : List Fact) (knows : KnowsFacts j facts) where
  pub taken_words : (t m c s i : ℕ) → TellsBefore facts kind.Taken t m c s i ↔ IsBefore j s i (entry.Enq t (m + 1) c true)
  taken_words t m c s i = (
    λ g.
        let f = found j facts knows _ g.told in
        let e = says_taken f.seat f.index f.entry t m c s g.before f.tells in
        (g.before, g.below, at_place j f.seat f.index s g.before _ e.1 e.2 (subst (λ (x : Entry). Stands j f.seat f.index x) e.0 f.stands)),
    λ h. record {
      before = h.0;
      below = h.1;
      told = listed j facts knows kind.Taken s h.0 (entry.Enq t (m + 1) c true) _ h.2 (tells_taken s h.0 t m c (m + 1) (omega arith));
    },
  )

  -- a turn at a place that a fact names
  pub turn_told : (s k : ℕ) → Contains facts (here_on kind.TurnIn s k 0 0 0) → (a : Entry) × Stands j s k a × IsTurn a
  turn_told s k told =
      let f = found j facts knows _ told in
      let e = says_turn f.seat f.index f.entry 0 0 0 s k f.tells in
      (f.entry, at_place j f.seat f.index s k _ e.1 e.2 f.stands, e.0)

  tells_turn : (s k : ℕ) (a : Entry) → IsTurn a → fact_at kind.TurnIn s k a ≡ Some (here_on kind.TurnIn s k 0 0 0)
  tells_turn s k a = elim a as (λ x. IsTurn x → fact_at kind.TurnIn s k x ≡ Some (here_on kind.TurnIn s k 0 0 0)) [
    | entry.Offline c e ↦ λ h. refl
    | entry.Up c e ↦ λ h. refl
    | _ ↦ λ h. absurd h
  ]

  turn_listed : (s k : ℕ) (a : Entry) → Stands j s k a → IsTurn a → Contains facts (here_on kind.TurnIn s k 0 0 0)
  turn_listed s k a stands turn = listed j facts knows kind.TurnIn s k a _ stands (tells_turn s k a turn)

  -- the entry at the last index is the last turn
  pub last_turn : (s i last : ℕ) (a : Entry) → IsLastIndex facts kind.TurnIn 0 s i last → Stands j s last a → IsLastTurn j s i a
  last_turn s i last a x stands =
      let told = turn_told s last x.told in
      let turn : IsTurn a = subst (λ (y : Entry). IsTurn y) (one_stands j s last told.0 a told.1 stands) told.2 in
      (turn, (last, x.below, stands, λ k b later before there is. x.none_later k later before (turn_listed s k b there is)))

  pub no_turn_told : (s i : ℕ) → ((k : ℕ) → k < i → ¬ Contains facts (here_on kind.TurnIn s k 0 0 0)) → HasNoTurn j s i
  no_turn_told s i none k a below stands turn = none k below (turn_listed s k a stands turn)

  -- the listing at the place that a fact names
  pub due_told : (f : Fact) (c e : ℕ) → Contains facts f → HasFront f kind.Due c e → (t m : ℕ) × Stands j f.seat f.index (entry.List t m c e)
  due_told f c e told front =
      let is : f ≡ here_on kind.Due f.seat f.index c e f.cpu = rebuilt f kind.Due c e f.cpu f.seat f.index front.kind_is front.subject_is front.number_is refl refl refl in
      let g = found j facts knows _ (subst (λ (x : Fact). Contains facts x) is told) in
      let d = says_due g.seat g.index g.entry c e f.cpu f.seat f.index g.tells in
      (d.0.0, d.0.1, at_place j g.seat g.index f.seat f.index _ d.1 d.2 (subst (λ (x : Entry). Stands j g.seat g.index x) d.0.2 g.stands))

  pub due_listed : (t m c e s i : ℕ) → Stands j s i (entry.List t m c e) → Contains facts (here_on kind.Due s i c e 0)
  due_listed t m c e s i stands = listed j facts knows kind.Due s i (entry.List t m c e) _ stands refl

-- what holds of each element before n, and of that at n, holds of each before n + 1
pub up_to_next : (P : Fact → Entry → Type 0) (dues : List Fact) (n : ℕ) (d : Fact) → n < length dues
    → ((k : ℕ) (f : Fact) (e : Entry) → k < n → slice_get dues k ≡ Some f → P f e) → ((e : Entry) → P (get_or dues n d) e)
    → (k : ℕ) (f : Fact) (e : Entry) → k < n + 1 → slice_get dues k ≡ Some f → P f e
up_to_next P dues n d within so_far here k f e below at =
    elim (cases_lt k n) [
      | inl less ↦ so_far k f e less at
      | inr other ↦
          let same_k : k ≡ n = omega arith in
          let at_n : slice_get dues n ≡ Some f = subst (λ (x : ℕ). slice_get dues x ≡ Some f) same_k at in
          let is : get_or dues n d ≡ f = get_or_from_slice_get dues n f d at_n in
          subst (λ (x : Fact). P x e) is (here e)
    ]

within_by : (j : History) (s i : ℕ) (a : Entry) (o : Option (List Entry)) → slice_get j.seats s ≡ o → option_and_then (λ (journal : List Entry). slice_get journal i) o ≡ Some a
    → s < length j.seats
within_by j s i a None is at = absurd (cc)
within_by j s i a (Some journal) is at = slice_get_within j.seats s journal is

-- what stands somewhere stands in a journal
pub stands_within : (j : History) (s i : ℕ) (a : Entry) → Stands j s i a → s < length j.seats
stands_within j s i a x = within_by j s i a (slice_get j.seats s) refl x.at
