-- An outage leaves nothing listed, and the processor idle.
use Rattle.std.proofs.Common.{◌≡◌, ℕ, zero, suc, ◌+◌, ◌-◌, Option, Some, None, sym, refl, arith, subst, inl, inr}
use Rattle.std.proofs.lemmas.Bool.{cases_lt}
use Rattle.handoff_data.specs.declared.entry.Entry.{Entry}
use Rattle.handoff_data.specs.declared.entry.Entry.TheVariants as entry
use Rattle.handoff_data.specs.History.{History}
use Rattle.handoff_data.specs.Legal.{HasNoBad}
use Rattle.handoff_data.specs.Numbers.{Change}
use Rattle.handoff_data.specs.Positions.{Stands, entry_at}
use Rattle.handoff_data.specs.Rules.{IsTurn, IsLastTurn, IsOffline}
use Rattle.journal_laws.proofs.Kept.{keeps-order}
use Rattle.journal_laws.proofs.Once.{one-position}
use Rattle.journal_laws.specs.Outages.{OutageIsEmpty, StaysOffline, UsesProcessor}

-- at this index nothing stands, or no Offline and no Up, so the last of them is the same behind it
abbrev NoTurnAt : History → ℕ → ℕ → Type 0
NoTurnAt j s k = (e : Entry) → Stands j s k e → IsTurn e → ⊥

still-last : (j : History) (s k : ℕ) (turn : Entry) → IsLastTurn j s k turn → NoTurnAt j s k → IsLastTurn j s (k + 1) turn
still-last j s k turn last none = (
  last.0,
  (
    last.1.0,
    omega (arith, last.1.1),
    last.1.2,
    λ i e more less at is. elim (cases_lt i k) [
      | inl below ↦ last.1.3 i e more below at is
      | inr up ↦ let same : i ≡ k = omega arith in none e (subst (λ (x : ℕ). Stands j s x e) same at) is
    ],
  ),
)

new-last : (j : History) (s k : ℕ) (turn : Entry) → IsTurn turn → Stands j s k turn → IsLastTurn j s (k + 1) turn
new-last j s k turn is at = (is, (k, omega arith, at, λ i e more less at' is'. absurd (omega arith)))

at-most : (j : History) (s k : ℕ) (e e' : Entry) → Stands j s k e → Stands j s k e' → e ≡ e'
at-most j s k e e' at at' = let here = at.at in let there = at'.at in cc

-- one more entry, which is no Up, leaves the processor offline
stays-by : (j : History) (s k : ℕ) → IsOffline j s k → (e : Entry) → Stands j s k e → ((c' e' : ℕ) → Stands j s k (entry.Up c' e') → ⊥) → IsOffline j s (k + 1)
stays-by j s k off (entry.Offline c e) at no_up = (c, e, new-last j s k (entry.Offline c e) tt at)
stays-by j s k off (entry.Up c e) at no_up = absurd (no_up c e at)
stays-by j s k off e at no_up = (off.0, off.1, still-last j s k _ off.2 (λ e' at' is. let same = at-most j s k e e' at at' in absurd (subst IsTurn (sym same) is)))

gone : (j : History) (s k : ℕ) → entry_at j s k ≡ None → IsOffline j s k → IsOffline j s (k + 1)
gone j s k none off = (off.0, off.1, still-last j s k _ off.2 (λ e at is. let here = at.at in absurd cc))

stays-at : (j : History) (s k : ℕ) → IsOffline j s k → ((c' e' : ℕ) → Stands j s k (entry.Up c' e') → ⊥) → (o : Option Entry) → entry_at j s k ≡ o → IsOffline j s (k + 1)
stays-at j s k off no_up None is = gone j s k is off
stays-at j s k off no_up (Some e) is = stays-by j s k off e (record { at = is }) no_up

stays : (j : History) (s from : ℕ) → IsOffline j s (from + 1) → (d : ℕ) → StaysOffline j s from (from + 1 + d) → IsOffline j s (from + 1 + d)
stays j s from off zero no_up = subst (λ (x : ℕ). IsOffline j s x) (omega arith) off
stays j s from off (suc d) no_up =
    let same : from + 1 + d + 1 ≡ from + 1 + suc d = omega arith in
    let so_far = stays j s from off d (λ k c' e' more less at. no_up k c' e' more (omega arith) at) in
    subst (λ (x : ℕ). IsOffline j s x) same (stays-at j s (from + 1 + d) so_far (λ c' e' at. no_up (from + 1 + d) c' e' (omega arith) (omega arith) at) _ refl)

-- what a rule forbids while the processor is offline
idle-by : (j : History) → HasNoBad j → (c k : ℕ) (e : Entry) → Stands j c k e → UsesProcessor e c → IsOffline j c k → ⊥
idle-by j no_bad c k (entry.Pick t n c') at uses off = (no_bad c k _ at 9).outage_leaves_none refl uses off
idle-by j no_bad c k (entry.Enq t m c' by_list) at uses off = (no_bad c k _ at 9).outage_leaves_none refl uses off
idle-by j no_bad c k (entry.In t m c') at uses off = (no_bad c k _ at 9).outage_leaves_none refl uses off
idle-by j no_bad c k _ at uses off = absurd uses

pub outage-empty : (j : History) → HasNoBad j → (s i c e : ℕ) → Stands j s i (entry.Offline c e) → OutageIsEmpty j s i c e
outage-empty j no_bad s i c e at =
    let own : c ≡ s = ((no_bad s i _ at 1).in_range refl).1 in
    let here : Stands j c i (entry.Offline c e) = subst (λ (x : ℕ). Stands j x i (entry.Offline c e)) (sym own) at in
    let taken = ((no_bad c i _ here 9).outage_leaves_none refl).1 in
    let off : IsOffline j c (i + 1) = (c, e, new-last j c i (entry.Offline c e) tt here) in
    record {
      own = sym own;
      none_left = λ w k t m epoch lists low. taken t m epoch low (w, (k, lists));
      later_alone = λ after w k t m epoch behind queues lists. elim (cases_lt e epoch) [
        | inl less ↦ less
        | inr low ↦
            let before = taken t m epoch low (w, (k, lists)) in
            let one = one-position j (keeps-order j no_bad) (Change t (m + 1)) c after c before.0 _ _ queues before.2 refl refl in
            absurd (omega (arith, before.1, one.1))
      ];
      idle = λ after e' behind no_up at' uses.
          let same : i + 1 + (after - (i + 1)) ≡ after = omega arith in
          let far = stays j c i off (after - (i + 1)) (subst (λ (x : ℕ). StaysOffline j c i x) (sym same) no_up) in
          idle-by j no_bad c after e' at' uses (subst (λ (x : ℕ). IsOffline j c x) same far);
    }
