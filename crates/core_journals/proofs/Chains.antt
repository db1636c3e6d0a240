-- The changes of a task are numbered 1, 2, 3 and so on to the number of its word, each once; and none follows a death.
use Rattle.std.proofs.Common.{◌≡◌, ◌≢◌, ℕ, zero, suc, ◌+◌, ◌-◌, ◌<◌, ◌≤◌, inl, inr, Option, Some, None, refl, sym, subst, ap, ◌∙◌, arith}
use Rattle.std.proofs.lemmas.Bool.{cases_eq, cases_order}
use Rattle.core_data.specs.Columns.{Columns}
use Rattle.core_invariant.specs.Invariant.{Holds}
use Rattle.core_invariant.specs.Journals.{EachKeeps}
use Rattle.core_journals.proofs.NewEntries.{same-first, same-second}
use Rattle.core_journals.proofs.Running.{past}
use Rattle.core_kinds.specs.Steps.{dead}
use Rattle.handoff_data.specs.History.{History}
use Rattle.handoff_data.specs.Numbers.{change_of, identity, Identity, Change}
use Rattle.handoff_data.specs.Positions.{Stands, entry_at}
use Rattle.handoff_data.specs.Rules.{NotRepeated, Chained, IsQueued, IsSleep}
use Rattle.handoff_data.specs.declared.entry.Entry.{Entry}
use Rattle.handoff_data.specs.declared.entry.Entry.TheVariants as entry
use Rattle.handoff_data.specs.declared.state.State.{State}

abbrev as_change : Option (ℕ × ℕ) → Option Identity
as_change None = None
as_change (Some p) = Some (Change p.0 p.1)

change-identity : (e : Entry) (t m : ℕ) → change_of e ≡ Some (t, m) → identity e ≡ Some (Change t m)
change-identity (entry.New u k c) t m h = ap as_change h
change-identity (entry.Sleep u k c) t m h = ap as_change h
change-identity (entry.Wake u k) t m h = absurd (grind (arith, h))
change-identity (entry.List u k c x) t m h = absurd (grind (arith, h))
change-identity (entry.Enq u k c by_list) t m h = ap as_change h
change-identity (entry.Out u k c) t m h = ap as_change h
change-identity (entry.In u k c) t m h = ap as_change h
change-identity (entry.Die u k c) t m h = ap as_change h
change-identity (entry.Pick u k c) t m h = absurd (grind (arith, h))
change-identity (entry.Finish u k c) t m h = absurd (grind (arith, h))
change-identity (entry.Mask u r mask) t m h = absurd (grind (arith, h))
change-identity (entry.Stood u r k at) t m h = absurd (grind (arith, h))
change-identity (entry.Done u r) t m h = absurd (grind (arith, h))
change-identity (entry.Offline c x) t m h = absurd (grind (arith, h))
change-identity (entry.Up c x) t m h = absurd (grind (arith, h))
change-identity (entry.Refused u state) t m h = absurd (grind (arith, h))

abbrev or_else : Entry → Option Entry → Entry
or_else d None = d
or_else d (Some y) = y

same-entry : (a b : Entry) → Some a ≡ Some b → a ≡ b
same-entry a b r = ap (or_else a) r

-- two entries with one identity are one
once : (j : History) (s i k l : ℕ) (e x : Entry) (g : Identity) → EachKeeps NotRepeated j → Stands j s i e → Stands j k l x → identity e ≡ Some g → identity x ≡ Some g → e ≡ x
once j s i k l e x g p h q is is' = elim (cases_order s k) [
  | inl same ↦ elim (cases_order i l) [
    | inl alike ↦ same-entry e x (sym h.at ∙ ap (λ z. entry_at j z i) same ∙ ap (λ z. entry_at j k z) alike ∙ q.at)
    | inr apart ↦ elim apart [
      | inl lt ↦ absurd (p k l x q g is' s i e (inr (same, lt)) h is)
      | inr gt ↦ absurd (p s i e h g is k l x (inr (sym same, gt)) q is')
    ]
  ]
  | inr apart ↦ elim apart [
    | inl lt ↦ absurd (p k l x q g is' s i e (inl lt) h is)
    | inr gt ↦ absurd (p s i e h g is k l x (inl gt) q is')
  ]
]

pub once-change : (j : History) (s i k l : ℕ) (e x : Entry) (t m : ℕ) → EachKeeps NotRepeated j → Stands j s i e → Stands j k l x → change_of e ≡ Some (t, m) → change_of x ≡ Some (t, m) → e ≡ x
once-change j s i k l e x t m p h q is is' = once j s i k l e x (Change t m) p h q (change-identity e t m is) (change-identity x t m is')

-- it isn't a death
abbrev pub LeavesAlive : Entry → Type 0
LeavesAlive (entry.Die t m c) = ⊥
LeavesAlive _ = Unit {0}

-- an entry that is change m of t, and of which P holds
pub record HasChange (P : Entry → Type 0) (j : History) (t m : ℕ) : Type 0 where
  pub seat : ℕ
  pub index : ℕ
  pub entry : Entry
  pub stands : Stands j seat index entry
  pub is : change_of entry ≡ Some (t, m)
  pub holds : P entry

queued-change : (j : History) (t m c : ℕ) → IsQueued j t m c → HasChange LeavesAlive j t m
queued-change j t m c h = elim h [
  | inl a ↦ record { seat = a.0; index = a.1.0; entry = entry.New t m c; stands = a.1.1; is = refl; holds = tt }
  | inr b ↦ elim b [
    | inl a ↦ record { seat = a.0; index = a.1.0; entry = entry.In t m c; stands = a.1.1; is = refl; holds = tt }
    | inr a ↦ record { seat = a.1.0; index = a.1.1.0; entry = entry.Enq t m c a.0; stands = a.1.1.1; is = refl; holds = tt }
  ]
]

sleep-change : (j : History) (t m : ℕ) → IsSleep j t m → HasChange LeavesAlive j t m
sleep-change j t m h = record { seat = h.1.0; index = h.1.1.0; entry = entry.Sleep t m h.0; stands = h.1.1.1; is = refl; holds = tt }

-- the number before that of the next change
number-before : (u k t m : ℕ) → ◌≡◌ {A = Option (ℕ × ℕ)} (Some (u, k)) (Some (t, m + 1)) → k - 1 ≡ m
number-before u k t m q = let r = same-second u k t (m + 1) q in omega (arith, r)

-- the change before one of a started task, by what chains them
chain-before : (j : History) (s i : ℕ) (e : Entry) (t m : ℕ) → Chained j s i e → change_of e ≡ Some (t, m + 1) → m ≢ 0 → HasChange LeavesAlive j t m
chain-before j s i (entry.New u k c) t m h q some = absurd (some (let r = same-second u k t (m + 1) q in omega (arith, r, h)))
chain-before j s i (entry.Sleep u k c) t m h q some =
    queued-change j t m c (subst (λ z. IsQueued j t z c) (number-before u k t m q) (subst (λ z. IsQueued j z (k - 1) c) (same-first u k t (m + 1) q) h.1))
chain-before j s i (entry.Die u k c) t m h q some =
    queued-change j t m c (subst (λ z. IsQueued j t z c) (number-before u k t m q) (subst (λ z. IsQueued j z (k - 1) c) (same-first u k t (m + 1) q) h.1))
chain-before j s i (entry.Out u k c) t m h q some =
    queued-change j t m c (subst (λ z. IsQueued j t z c) (number-before u k t m q) (subst (λ z. IsQueued j z (k - 1) c) (same-first u k t (m + 1) q) h.1))
chain-before j s i (entry.Enq u k c by_list) t m h q some =
    sleep-change j t m (subst (λ z. IsSleep j t z) (number-before u k t m q) (subst (λ z. IsSleep j z (k - 1)) (same-first u k t (m + 1) q) h.1))
chain-before j s i (entry.In u k c) t m h q some =
    let out = h.1.1 in
    record {
      seat = s;
      index = out.0;
      entry = entry.Out u (k - 1) h.1.0;
      stands = out.1;
      is = ap (λ z. Some (z, k - 1)) (same-first u k t (m + 1) q) ∙ ap (λ z. Some (t, z)) (number-before u k t m q);
      holds = tt;
    }
chain-before j s i (entry.Wake u k) t m h q some = absurd (grind (arith, q))
chain-before j s i (entry.List u k c x) t m h q some = absurd (grind (arith, q))
chain-before j s i (entry.Pick u k c) t m h q some = absurd (grind (arith, q))
chain-before j s i (entry.Finish u k c) t m h q some = absurd (grind (arith, q))
chain-before j s i (entry.Mask u r mask) t m h q some = absurd (grind (arith, q))
chain-before j s i (entry.Stood u r k at) t m h q some = absurd (grind (arith, q))
chain-before j s i (entry.Done u r) t m h q some = absurd (grind (arith, q))
chain-before j s i (entry.Offline c x) t m h q some = absurd (grind (arith, q))
chain-before j s i (entry.Up c x) t m h q some = absurd (grind (arith, q))
chain-before j s i (entry.Refused u state) t m h q some = absurd (grind (arith, q))

abbrev pub IsAny : Entry → Type 0
IsAny e = Unit {0}

any-change : (P : Entry → Type 0) (j : History) (t m : ℕ) → HasChange P j t m → HasChange IsAny j t m
any-change P j t m h = record { seat = h.seat; index = h.index; entry = h.entry; stands = h.stands; is = h.is; holds = tt }

dead-is : (x : State) → x.0 ≡ 0x80 → x ≡ dead
dead-is x h = ap (λ n. record { 0 = n }) h

-- the last change of a task that isn't dead
last-alive : (core : Columns) (t : ℕ) → Holds core → core.changes t ≢ 0 → core.state t ≢ dead → HasChange LeavesAlive (past core) t (core.changes t)
last-alive core t holds some alive =
    let p = holds.journals.last_changes in
    elim (cases_eq (core.on_rq t) 1) [
      | inl one ↦ queued-change (past core) t (core.changes t) (core.cpu t) (p.queued t one)
      | inr a ↦ elim (cases_eq (core.on_rq t) 2) [
        | inl two ↦
            let held = holds.places.moving.locked t two in
            let out = p.moving t held.0 two held.1 in
            record { seat = held.0; index = out.1.0; entry = entry.Out t (core.changes t) out.0; stands = out.1.1; is = refl; holds = tt }
        | inr b ↦ let few = holds.places.on_rq t in sleep-change (past core) t (core.changes t) (p.off t some (omega (arith, a, b, few)) alive)
      ]
    ]

-- and that of any
last-any : (core : Columns) (t : ℕ) → Holds core → core.changes t ≢ 0 → HasChange IsAny (past core) t (core.changes t)
last-any core t holds some = elim (cases_eq (core.state t).0 0x80) [
  | inr alive ↦ any-change LeavesAlive (past core) t (core.changes t) (last-alive core t holds some (λ d. alive (ap (λ (x : State). x.0) d)))
  | inl d ↦ elim (cases_eq (core.on_rq t) 0) [
    | inl off ↦
        let die = holds.journals.last_changes.ended t some off (dead-is (core.state t) d) in
        record { seat = die.1.0; index = die.1.1.0; entry = entry.Die t (core.changes t) die.0; stands = die.1.1.1; is = refl; holds = tt }
    | inr on ↦ elim (cases_eq (core.on_rq t) 1) [
      | inl one ↦ any-change LeavesAlive (past core) t (core.changes t) (queued-change (past core) t (core.changes t) (core.cpu t) (holds.journals.last_changes.queued t one))
      | inr a ↦
          let few = holds.places.on_rq t in
          let two : core.on_rq t ≡ 2 = omega (arith, a, on, few) in
          let held = holds.places.moving.locked t two in
          let out = holds.journals.last_changes.moving t held.0 two held.1 in
          record { seat = held.0; index = out.1.0; entry = entry.Out t (core.changes t) out.0; stands = out.1.1; is = refl; holds = tt }
    ]
  ]
]

-- Each number up to that of the word is that of a change.
each-down : (core : Columns) (t : ℕ) → Holds core → (d m : ℕ) → m ≢ 0 → m + d ≡ core.changes t → HasChange IsAny (past core) t m
each-down core t holds zero m some is =
    let same : core.changes t ≡ m = omega (arith, is) in
    subst (λ z. HasChange IsAny (past core) t z) same (last-any core t holds (λ z. some (omega (arith, z, same))))
each-down core t holds (suc d) m some is =
    let next = each-down core t holds d (m + 1) (λ z. omega (arith, z)) (omega (arith, is)) in
    any-change LeavesAlive (past core) t m (chain-before (past core) next.seat next.index next.entry t m (holds.journals.rules.chained next.seat next.index next.entry next.stands) next.is some)

pub each-change : (core : Columns) (t m : ℕ) → Holds core → m ≢ 0 → m ≤ core.changes t → HasChange IsAny (past core) t m
each-change core t m holds some below = each-down core t holds (core.changes t - m) m some (omega (arith, below))

-- a change with the number of a death is that death
dies-there : (j : History) (s i t m c : ℕ) → EachKeeps NotRepeated j → Stands j s i (entry.Die t m c) → HasChange LeavesAlive j t m → ⊥
dies-there j s i t m c p h old = subst LeavesAlive (once-change j old.seat old.index s i old.entry (entry.Die t m c) t m p old.stands h old.is refl) old.holds

-- so no change follows a death
die-last : (core : Columns) (s i t m c : ℕ) → Holds core → Stands (past core) s i (entry.Die t m c) → m ≢ 0 → core.changes t ≡ m
die-last core s i t m c holds h some =
    let p = holds.journals in
    let below = p.numbered.change s i (entry.Die t m c) t m h refl in
    elim (cases_eq (core.changes t) m) [
      | inl same ↦ same
      | inr more ↦
          let next = each-change core t (m + 1) holds (λ z. omega (arith, z)) (omega (arith, below, more)) in
          absurd
          (dies-there (past core) s i t m c p.rules.not_repeated h
          (chain-before (past core) next.seat next.index next.entry t m (p.rules.chained next.seat next.index next.entry next.stands) next.is some))
    ]

-- A task with a death in some journal is dead.
pub dead-of_die : (core : Columns) (s i t m c : ℕ) → Holds core → Stands (past core) s i (entry.Die t m c) → core.state t ≡ dead
dead-of_die core s i t m c holds h =
    let above : 1 < m = (holds.journals.rules.chained s i (entry.Die t m c) h).0 in
    let last = die-last core s i t m c holds h (λ z. omega (arith, z, above)) in
    elim (cases_eq (core.state t).0 0x80) [
      | inl d ↦ dead-is (core.state t) d
      | inr alive ↦
          let old = last-alive core t holds (λ z. omega (arith, z, last, above)) (λ d. alive (ap (λ (x : State). x.0) d)) in
          absurd (dies-there (past core) s i t m c holds.journals.rules.not_repeated h (subst (λ z. HasChange LeavesAlive (past core) t z) last old))
    ]
