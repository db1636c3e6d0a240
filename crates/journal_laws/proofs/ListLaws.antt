-- What is listed is queued in the order of each waker.
use Rattle.std.proofs.Common.{◌≡◌, ℕ, ◌+◌, ◌-◌, ◌<◌, ◌≤◌, Bool, true, false, ap, sym, refl, arith, subst}
use Rattle.handoff_data.specs.declared.entry.Entry.{Entry}
use Rattle.handoff_data.specs.declared.entry.Entry.TheVariants as entry
use Rattle.handoff_data.specs.History.{History}
use Rattle.handoff_data.specs.Legal.{HasNoBad, IsLegal}
use Rattle.handoff_data.specs.Numbers.{Change, Listing}
use Rattle.handoff_data.specs.Positions.{Stands, IsSomewhere}
use Rattle.handoff_data.specs.Rules.{IsListing}
use Rattle.journal_laws.proofs.Kept.{KeepsOrder, keeps-order, kept}
use Rattle.journal_laws.proofs.Once.{one-position, one-entry}
use Rattle.journal_laws.proofs.WakeLaws.{queued}
use Rattle.journal_laws.specs.Listings.{IsHandedOver, QueuesInOrder, QueuesAllInOrder}

-- the task and the number of a listing, or what stands for them at another entry
abbrev listed-task : Entry → ℕ
listed-task (entry.List t m c e) = t
listed-task _ = 0

abbrev listed-change : Entry → ℕ
listed-change (entry.List t m c e) = m
listed-change _ = 0

abbrev listed-to : Entry → ℕ
listed-to (entry.List t m c e) = c
listed-to _ = 0

abbrev queued-task : Entry → ℕ
queued-task (entry.Enq t m c by_list) = t
queued-task _ = 0

abbrev queued-change : Entry → ℕ
queued-change (entry.Enq t m c by_list) = m
queued-change _ = 0

-- what stands at one place is one entry
one-there : (j : History) (s i : ℕ) (e e' : Entry) → Stands j s i e → Stands j s i e' → e ≡ e'
one-there j s i e e' at at' = let here = at.at in let there = at'.at in cc

same-numbers : (j : History) → KeepsOrder j → (s i s' i' t t' m m' c c' : ℕ) (b b' : Bool) → t ≡ t' → m ≡ m'
    → Stands j s i (entry.Enq t m c b) → Stands j s' i' (entry.Enq t' m' c' b') → (s ≡ s') × (i ≡ i')
same-numbers j rules s i s' i' t t' m m' c c' b b' tt mm at at' =
    let there : Stands j s' i' (entry.Enq t m c' b') =
    subst (λ (n : ℕ). Stands j s' i' (entry.Enq t n c' b')) (sym mm) (subst (λ (x : ℕ). Stands j s' i' (entry.Enq x m' c' b')) (sym tt) at') in
    one-position j rules (Change t m) s i s' i' _ _ at there refl refl

same-listing : (j : History) → KeepsOrder j → (s i s' i' t t' m m' c c' e e' : ℕ) → t ≡ t' → m ≡ m'
    → Stands j s i (entry.List t m c e) → Stands j s' i' (entry.List t' m' c' e') → (s ≡ s') × (i ≡ i')
same-listing j rules s i s' i' t t' m m' c c' e e' tt mm at at' =
    let there : Stands j s' i' (entry.List t m c' e') =
    subst (λ (n : ℕ). Stands j s' i' (entry.List t n c' e')) (sym mm) (subst (λ (x : ℕ). Stands j s' i' (entry.List x m' c' e')) (sym tt) at') in
    one-position j rules (Listing t m) s i s' i' _ _ at there refl refl

module _ (j : History) (no_bad : HasNoBad j) where
  rules : KeepsOrder j
  rules = keeps-order j no_bad

  listing : (waker k c i : ℕ) (h : IsHandedOver j waker k c i) → IsListing j waker k h.t (h.m + 1) c
  listing waker k c i h = record { listed = h.m; next = refl; epoch = h.epoch; stands = h.lists }

  -- no earlier queueing is of a later listing
  not-before : (waker k k' c i i' : ℕ) → IsHandedOver j waker k c i → IsHandedOver j waker k' c i' → i' < i → k' ≤ k
  not-before waker k k' c i i' h h' before =
      (no_bad c i _ h.queues 8).listed_in_order refl waker k (listing waker k c i h) i' h'.t (h'.m + 1) c before h'.queues k' (listing waker k' c i' h')

  one-queueing : (waker k c i i' : ℕ) → IsHandedOver j waker k c i → IsHandedOver j waker k c i' → i ≡ i'
  one-queueing waker k c i i' h h' =
      let same = one-there j waker k _ _ h.lists h'.lists in
      let next : h.m + 1 ≡ h'.m + 1 = ap (λ (e : Entry). listed-change e + 1) same in
      (same-numbers j rules c i c i' h.t h'.t (h.m + 1) (h'.m + 1) c c true true (ap listed-task same) next h.queues h'.queues).1

  one-listing : (waker waker' k k' c i : ℕ) → IsHandedOver j waker k c i → IsHandedOver j waker' k' c i → (waker ≡ waker') × (k ≡ k')
  one-listing waker waker' k k' c i h h' =
      let same = one-there j c i _ _ h.queues h'.queues in
      let next : h.m + 1 ≡ h'.m + 1 = ap queued-change same in
      let mm : h.m ≡ h'.m = omega arith in
      same-listing j rules waker k waker' k' h.t h'.t h.m h'.m c c h.epoch h'.epoch (ap queued-task same) mm h.lists h'.lists

  in-order : (waker k k' c i i' : ℕ) → IsHandedOver j waker k c i → IsHandedOver j waker k' c i' → k < k' → i < i'
  in-order waker k k' c i i' h h' less =
      let no_sooner : (i' < i) → ⊥ = λ before. let up = not-before waker k k' c i i' h h' before in omega arith in
      let not_there : (i ≡ i') → ⊥ = λ same.
      let there : IsHandedOver j waker k' c i = subst (λ (x : ℕ). IsHandedOver j waker k' c x) (sym same) h' in
      let one = one-listing waker waker k k' c i h there in
      omega (arith, one.1) in
      omega (arith, no_sooner, not_there)

  was-listed : (s i t m c : ℕ) → Stands j s i (entry.Enq t m c true) → (s ≡ c) × ((waker k : ℕ) × IsHandedOver j waker k c i)
  was-listed s i t m c at =
      let own : c ≡ s = ((no_bad s i _ at 1).in_range refl).2 refl in
      let by = rules.caused s i _ at in
      let list = by.1.1 in
      let next : m ≡ m - 1 + 1 = omega (arith, by.0) in
      let here : Stands j c i (entry.Enq t (m - 1 + 1) c true) =
      subst (λ (x : ℕ). Stands j x i (entry.Enq t (m - 1 + 1) c true)) (sym own) (subst (λ (n : ℕ). Stands j s i (entry.Enq t n c true)) next at) in
      (sym own, (list.0, list.1.0, record { t = t; m = m - 1; epoch = by.1.0; lists = list.1.1; queues = here }))

  pub queues-in_order : QueuesInOrder j
  queues-in_order = record { in_order = in-order; one_queueing = one-queueing; one_listing = one-listing; was_listed = was-listed }

  -- where the queueing of a listed task is known, it is from the list of that processor
  from-list : (waker k t m c e c' s i : ℕ) (by_list : Bool) → Stands j waker k (entry.List t m c e) → Stands j s i (entry.Enq t (m + 1) c' by_list) → Stands j c i (entry.Enq t (m + 1) c true)
  from-list waker k t m c e c' s i false lists at =
      let by = rules.caused s i _ at in
      let less : m + 1 - 1 ≡ m = omega arith in
      absurd (by.2 (subst (λ (n : ℕ). (x y : ℕ) × IsSomewhere j (entry.List t n x y)) (sym less) (c, e, (waker, (k, lists)))))
  from-list waker k t m c e c' s i true lists at =
      let own : c' ≡ s = ((no_bad s i _ at 1).in_range refl).2 refl in
      let by = rules.caused s i _ at in
      let less : m + 1 - 1 ≡ m = omega arith in
      let there : IsSomewhere j (entry.List t m c' by.1.0) = subst (λ (n : ℕ). IsSomewhere j (entry.List t n c' by.1.0)) less by.1.1 in
      let same = one-entry j rules (Listing t m) _ _ there (waker, (k, lists)) refl refl in
      let to : c' ≡ c = ap listed-to same in
      subst (λ (x : ℕ). Stands j x i (entry.Enq t (m + 1) x true)) to (subst (λ (x : ℕ). Stands j x i (entry.Enq t (m + 1) c' true)) (sym own) at)

pub queues-all : (j : History) → IsLegal j → QueuesAllInOrder j
queues-all j legal = record {
  all = λ waker k t m c e lists.
      let wake = (kept j legal).caused waker k _ lists in
      let next = queued j legal t m (waker, (wake.0, wake.2)) in
      let at = next.2 in
      (at.1.0, record { t = t; m = m; epoch = e; lists = lists; queues = from-list j legal.no_bad waker k t m c e next.0 at.0 at.1.0 next.1 lists at.1.1 });
  order = queues-in_order j legal.no_bad;
}
