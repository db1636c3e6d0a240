-- Marks: what one says, how one is raised, and which listings an entry takes.
use Rattle.std.proofs.Common.{◌≡◌, ◌+◌, ◌-◌, ◌<◌, ◌≤◌, ◌⊎◌, ◌↔◌, ℕ, true, false, List, Option, Some, None, arith, ap, sym, ◌∙◌, refl, subst, inl, inr, length, get_or}
use Rattle.std.specs.Prelude.{Contains, slice_get, slice_set, replicate}
use Rattle.std.proofs.lemmas.Bool.{cases_lt, cases_eq}
use Rattle.std.proofs.lemmas.List.{get_or-set_same, get_or-set_other, length-set, get_or-replicate, length-replicate}
use Rattle.std.proofs.lemmas.List.Elements.{Contains-get_or}
use Rattle.std.proofs.lemmas.Option.{slice_get_within, slice_get-get_or, get_or_from_slice_get}
use Rattle.handoff_data.specs.declared.entry.Entry.{Entry}
use Rattle.handoff_data.specs.declared.entry.Entry.TheVariants as entry
use Rattle.handoff_data.specs.History.{History}
use Rattle.handoff_data.specs.Positions.{Stands}
use Rattle.handoff_data.specs.Rules.{IsListing, ListedInOrder}
use Rattle.journal_facts.specs.declared.fact.Fact.{Fact}
use Rattle.journal_facts.specs.declared.fact.Kind.TheVariants as kind
use Rattle.journal_facts.specs.Facts.{here_on}
use Rattle.journal_facts.specs.Answers.{IsOn}
use Rattle.journal_facts.proofs.KindNumbers.{rebuilt}
use Rattle.journal_rules.specs.Known.{KnowsFacts}
use Rattle.journal_rules.proofs.Meaning.{says_listed}
use Rattle.journal_rules.proofs.Words.{found, listed}
use Rattle.journal_rules.specs.declared.marks.Mark.{Mark}
use Rattle.journal_rules.specs.Marks.{IsTakenFrom, IsPassed, EndsAt, IsPlaceOf, IsLastOf, IsMarkOf, AreMarks, AreMarksOf, IsRaised}
use Rattle.journal_rules.proofs.Turning.{one_stands, at_place, some_inside, stands_within}

-- a mark is behind an index where one of the meant indexes is
pub mark_passes : (P : ℕ → Type 0) (seat k : ℕ) (m : Mark) → IsLastOf P seat m
    → ((m.seat ≡ seat) × (k < m.index)) ↔ ((k' : ℕ) × (k < k') × P k')
mark_passes P seat k m x = (
  λ h. (m.index, h.1, x.taken h.0),
  λ h. let l = x.last h.0 h.2 in
      let k' : ℕ = h.0 in
      let less : k < k' = h.1 in
      let up : k' ≤ m.index = l.1 in
      (l.0, omega arith),
)

-- the mark of the same indexes
mark_ext : (P Q : ℕ → Type 0) (seat : ℕ) (mark : Option Mark) → ((k : ℕ) → P k ↔ Q k) → IsMarkOf P seat mark → IsMarkOf Q seat mark
mark_ext P Q seat None same x = λ k q. x k ((same k).1 q)
mark_ext P Q seat (Some m) same x = record { not_later = x.not_later; last = λ k q. x.last k ((same k).1 q); taken = λ e. (same m.index).0 (x.taken e) }

pub marks_ext : (P Q : ℕ → ℕ → Type 0) (n seat : ℕ) (marks : List (Option Mark)) → ((w k : ℕ) → P w k ↔ Q w k) → AreMarksOf P n seat marks → AreMarksOf Q n seat marks
marks_ext P Q n seat marks same x =
    record { marked = x.marked; each = λ w mark at. mark_ext (P w) (Q w) seat mark (same w) (x.each w mark at) }

raise_one : (P : ℕ → Type 0) (seat k : ℕ) (mark : Option Mark) (after : Mark) → IsMarkOf P seat mark → IsRaised mark seat k after
    → IsLastOf (λ (x : ℕ). P x ⊎ (x ≡ k)) seat after
raise_one P seat k None after none r =
    let at : after.seat ≡ seat = r.seat_is in
    let up : k ≤ after.index = r.covers in
    record {
      not_later = omega arith;
      last = λ x h. elim h [ inl p ↦ absurd (none x p) | inr e ↦ let same : x ≡ k = e in (at, omega arith) ];
      taken = λ _. elim r.one [ inl e ↦ inr e | inr q ↦ let off : None ≡ Some q.0 = q.1 in absurd (cc) ];
    }
raise_one P seat k (Some m) after is r =
    let at : after.seat ≡ seat = r.seat_is in
    let up : k ≤ after.index = r.covers in
    record {
      not_later = omega arith;
      last = λ x h. elim h [
        | inl p ↦
            let l = is.last x p in
            let low : x ≤ m.index = l.1 in
            let high : m.index ≤ after.index = r.keeps m refl l.0 in
            (at, omega arith)
        | inr e ↦ let same : x ≡ k = e in (at, omega arith)
      ];
      taken = λ _. elim r.one [
        | inl e ↦ inr e
        | inr q ↦
            let same : m ≡ q.0 = some_inside m q.0 q.1 in
            let seat_is : m.seat ≡ seat = ap (λ (y : Mark). y.seat) same ∙ q.2 in
            let index_is : m.index ≡ after.index = ap (λ (y : Mark). y.index) same ∙ sym q.3 in
            inl (subst (λ (y : ℕ). P y) index_is (is.taken seat_is))
      ];
    }

-- one mark is raised
pub raise : (P : ℕ → ℕ → Type 0) (n seat : ℕ) (marks : List (Option Mark)) (w k : ℕ) (d : Option Mark) (after : Mark) → AreMarksOf P n seat marks
    → w < length marks → IsRaised (get_or marks w d) seat k after
    → AreMarksOf (λ (w' k' : ℕ). P w' k' ⊎ ((w' ≡ w) × (k' ≡ k))) n seat (slice_set marks w (Some after))
raise P n seat marks w k d after x within r = record {
  marked = length-set marks w (Some after) ∙ x.marked;
  each = λ w' mark at. elim (cases_eq w' w) [
    | inl same ↦
        let old : IsMarkOf (P w) seat (get_or marks w d) = x.each w (get_or marks w d) (slice_get-get_or marks w d within) in
        let new : IsLastOf (λ (y : ℕ). P w y ⊎ (y ≡ k)) seat after = raise_one (P w) seat k (get_or marks w d) after old r in
        let at_w : slice_get (slice_set marks w (Some after)) w ≡ Some mark = subst (λ (y : ℕ). slice_get (slice_set marks w (Some after)) y ≡ Some mark) same at in
        let is : Some after ≡ mark = sym (get_or-set_same marks w (Some after) d within) ∙ get_or_from_slice_get (slice_set marks w (Some after)) w mark d at_w in
        let here : IsMarkOf (λ (y : ℕ). P w y ⊎ ((w ≡ w) × (y ≡ k))) seat (Some after)
        = mark_ext (λ (y : ℕ). P w y ⊎ (y ≡ k)) (λ (y : ℕ). P w y ⊎ ((w ≡ w) × (y ≡ k))) seat (Some after)
        (λ y. (λ h. elim h [ inl p ↦ inl p | inr e ↦ inr (refl, e) ], λ h. elim h [ inl p ↦ inl p | inr e ↦ inr e.1 ])) new in
        subst (λ (v : ℕ). IsMarkOf (λ (y : ℕ). P v y ⊎ ((v ≡ w) × (y ≡ k))) seat mark) (sym same)
        (subst (λ (z : Option Mark). IsMarkOf (λ (y : ℕ). P w y ⊎ ((w ≡ w) × (y ≡ k))) seat z) is here)
    | inr other ↦
        let inside : w' < length (slice_set marks w (Some after)) = slice_get_within (slice_set marks w (Some after)) w' mark at in
        let long : length (slice_set marks w (Some after)) ≡ length marks = length-set marks w (Some after) in
        let inside_old : w' < length marks = omega arith in
        let there : get_or marks w' mark ≡ mark
        = sym (get_or-set_other marks w w' (Some after) mark other) ∙ get_or_from_slice_get (slice_set marks w (Some after)) w' mark mark at in
        let old : IsMarkOf (P w') seat mark = x.each w' mark (slice_get-get_or marks w' mark inside_old ∙ ap (λ (z : Option Mark). Some z) there) in
        mark_ext (P w') (λ (y : ℕ). P w' y ⊎ ((w' ≡ w) × (y ≡ k))) seat mark
        (λ y. (λ p. inl p, λ h. elim h [ inl p ↦ p | inr e ↦ absurd (other e.0) ])) old
  ];
}

-- of the first n facts one is about index k of the waker's journal
pub record IsPlaceBelow (facts : List Fact) (n waker k : ℕ) : Type 0 where
  pub position : ℕ
  pub below : position < n
  pub fact : Fact
  pub at : slice_get facts position ≡ Some fact
  pub seat_is : fact.seat ≡ waker
  pub index_is : fact.index ≡ k

module _ (T : ℕ → ℕ → Type 0) (facts : List Fact) where
  pub none_below : (w k : ℕ) → T w k ↔ (T w k ⊎ IsPlaceBelow facts 0 w k)
  none_below w k = (λ t. inl t, λ h. elim h [ inl t ↦ t | inr b ↦ absurd (omega (arith, b.below)) ])

  pub one_more : (n : ℕ) (d : Fact) → n < length facts → (w k : ℕ)
      → ((T w k ⊎ IsPlaceBelow facts n w k) ⊎ ((w ≡ (get_or facts n d).seat) × (k ≡ (get_or facts n d).index))) ↔ (T w k ⊎ IsPlaceBelow facts (n + 1) w k)
  one_more n d within w k = (
    λ h. elim h [
      | inl old ↦ elim old [
        | inl t ↦ inl t
        | inr b ↦ let less : b.position < n = b.below in
            inr (record { position = b.position; below = omega arith; fact = b.fact; at = b.at; seat_is = b.seat_is; index_is = b.index_is })
      ]
      | inr new ↦ inr (record { position = n; below = omega arith; fact = get_or facts n d; at = slice_get-get_or facts n d within; seat_is = sym new.0; index_is = sym new.1 })
    ],
    λ h. elim h [
      | inl t ↦ inl (inl t)
      | inr b ↦ elim (cases_lt b.position n) [
        | inl less ↦ inl (inr (record { position = b.position; below = less; fact = b.fact; at = b.at; seat_is = b.seat_is; index_is = b.index_is }))
        | inr other ↦
            let below : b.position < n + 1 = b.below in
            let same : b.position ≡ n = omega arith in
            let at_n : slice_get facts n ≡ Some b.fact = subst (λ (x : ℕ). slice_get facts x ≡ Some b.fact) same b.at in
            let is : get_or facts n d ≡ b.fact = get_or_from_slice_get facts n b.fact d at_n in
            inr (sym b.seat_is ∙ ap (λ (x : Fact). x.seat) (sym is), sym b.index_is ∙ ap (λ (x : Fact). x.index) (sym is))
      ]
    ],
  )

  pub all_below : (n : ℕ) → length facts ≤ n → (w k : ℕ) → (T w k ⊎ IsPlaceBelow facts n w k) ↔ (T w k ⊎ IsPlaceOf facts w k)
  all_below n past w k = (
    λ h. elim h [
      | inl t ↦ inl t
      | inr b ↦
          let inside : b.position < length facts = slice_get_within facts b.position b.fact b.at in
          let is : get_or facts b.position b.fact ≡ b.fact = get_or_from_slice_get facts b.position b.fact b.fact b.at in
          inr (record { fact = b.fact; listed = (b.position, inside, is); seat_is = b.seat_is; index_is = b.index_is })
    ],
    λ h. elim h [
      | inl t ↦ inl t
      | inr p ↦
          let c = p.listed in
          let i : ℕ = c.0 in
          let inside : i < length facts = c.1 in
          inr (record {
            position = i;
            below = omega arith;
            fact = p.fact;
            at = slice_get-get_or facts i p.fact inside ∙ ap (λ (x : Fact). Some x) c.2;
            seat_is = p.seat_is;
            index_is = p.index_is;
          })
    ],
  )

ends_as : (j : History) (e : Entry) (w k : ℕ) → EndsAt j e w k → (t m c : ℕ) × (e ≡ entry.Enq t m c true) × IsListing j w k t m c
ends_as j (entry.Enq t m c true) w k x = (t, m, c, refl, x)
ends_as j (entry.Enq t m c false) w k x = absurd x
ends_as j _ w k x = absurd x

-- what is taken before the next index is what was taken before this one, and what the entry here takes
pub next_taken : (j : History) (s i : ℕ) (e : Entry) → Stands j s i e → (w k : ℕ) → (IsTakenFrom j s i w k ⊎ EndsAt j e w k) ↔ IsTakenFrom j s (i + 1) w k
next_taken j s i e stands w k = (
  λ h. elim h [
    | inl t ↦ let before : ℕ = t.0 in let less : before < i = t.4 in (before, t.1, t.2, t.3, omega arith, t.5, t.6)
    | inr x ↦ let a = ends_as j e w k x in
        (i, a.0, a.1, a.2, omega arith, subst (λ (y : Entry). Stands j s i y) a.3 stands, a.4)
  ],
  λ t.
      let before : ℕ = t.0 in
      let less : before < i + 1 = t.4 in
      elim (cases_lt before i) [
        | inl sooner ↦ inl (before, t.1, t.2, t.3, sooner, t.5, t.6)
        | inr other ↦
            let same : before ≡ i = omega arith in
            let here : Stands j s i (entry.Enq t.1 t.2 t.3 true) = subst (λ (y : ℕ). Stands j s y (entry.Enq t.1 t.2 t.3 true)) same t.5 in
            let is : entry.Enq t.1 t.2 t.3 true ≡ e = one_stands j s i _ e here stands in
            inr (subst (λ (y : Entry). EndsAt j y w k) is t.6)
      ],
)

not_below : (a b : ℕ) → (a < b → ⊥) → b ≤ a
not_below a b f = elim (cases_lt a b) [ inl less ↦ absurd (f less) | inr other ↦ omega arith ]

-- rule 8, by what was taken before
pub order_words : (j : History) (s i : ℕ) (e : Entry) → ((w k : ℕ) → EndsAt j e w k → ¬ IsPassed j s i w k) ↔ ListedInOrder j s i e
order_words j s i (entry.Enq t m c true) = (
  λ h w k listing before t' m' c' less stands k' listing'. not_below k k' (λ behind. h w k listing (k', behind, (before, t', m', c', less, stands, listing'))),
  λ h w k listing p.
      let k' : ℕ = p.0 in
      let behind : k < k' = p.1 in
      let q = p.2 in
      let up : k' ≤ k = h w k listing q.0 q.1 q.2 q.3 q.4 q.5 k' q.6 in
      omega arith,
)
order_words j s i (entry.Enq t m c false) = (λ h. tt, λ h w k x. absurd x)
order_words j s i _ = (λ h. tt, λ h w k x. absurd x)

-- the facts of listings are about those that a queueing ends
pub listing_places : (j : History) (facts ended : List Fact) → KnowsFacts j facts → (t m c : ℕ) → 0 < m
    → ((f : Fact) → Contains ended f ↔ (Contains facts f × IsOn f kind.ListedTo t (m - 1) c)) → (w k : ℕ) → IsPlaceOf ended w k ↔ IsListing j w k t m c
listing_places j facts ended knows t m c some those w k = (
  λ p.
      let f = p.fact in
      let h = (those f).0 p.listed in
      let front = h.1.front in
      let is : f ≡ here_on kind.ListedTo f.seat f.index t (m - 1) c = rebuilt f kind.ListedTo t (m - 1) c f.seat f.index front.kind_is front.subject_is front.number_is h.1.cpu_is refl refl in
      let g = found j facts knows _ (subst (λ (x : Fact). Contains facts x) is h.0) in
      let d = says_listed g.seat g.index g.entry t (m - 1) c f.seat f.index g.tells in
      let there = at_place j g.seat g.index w k _ (d.1 ∙ p.seat_is) (d.2 ∙ p.index_is) (subst (λ (x : Entry). Stands j g.seat g.index x) d.0.1 g.stands) in
      record { listed = m - 1; next = omega arith; epoch = d.0.0; stands = there },
  λ l.
      let one : m ≡ l.listed + 1 = l.next in
      let same : l.listed ≡ m - 1 = omega arith in
      let stands : Stands j w k (entry.List t (m - 1) c l.epoch) = subst (λ (x : ℕ). Stands j w k (entry.List t x c l.epoch)) same l.stands in
      let told : Contains facts (here_on kind.ListedTo w k t (m - 1) c) = listed j facts knows kind.ListedTo w k (entry.List t (m - 1) c l.epoch) _ stands refl in
      let on : IsOn (here_on kind.ListedTo w k t (m - 1) c) kind.ListedTo t (m - 1) c
      = record { front = record { kind_is = refl; subject_is = refl; number_is = refl }; cpu_is = refl } in
      record { fact = here_on kind.ListedTo w k t (m - 1) c; listed = (those _).1 (told, on); seat_is = refl; index_is = refl },
)

-- what holds of no fact before n, nor of that at n, holds of none before n + 1
pub still_none : (P : Fact → Type 0) (facts : List Fact) (n : ℕ) (d : Fact) → n < length facts
    → ((k : ℕ) (f : Fact) → k < n → slice_get facts k ≡ Some f → ¬ P f) → ¬ P (get_or facts n d)
    → (k : ℕ) (f : Fact) → k < n + 1 → slice_get facts k ≡ Some f → ¬ P f
still_none P facts n d within so_far here k f below at =
    elim (cases_lt k n) [
      | inl less ↦ so_far k f less at
      | inr other ↦
          let same_k : k ≡ n = omega arith in
          let at_n : slice_get facts n ≡ Some f = subst (λ (x : ℕ). slice_get facts x ≡ Some f) same_k at in
          let is : get_or facts n d ≡ f = get_or_from_slice_get facts n f d at_n in
          λ p. here (subst (λ (x : Fact). P x) (sym is) p)
    ]

pub inside : (facts : List Fact) (n n' i : ℕ) (d : Fact) → ((f : Fact) → Contains facts f → f.seat < n) → i < length facts → n' ≡ n
    → (get_or facts i d).seat < n'
inside facts n n' i d within below same =
    let h : (get_or facts i d).seat < n = within (get_or facts i d) (Contains-get_or facts i d below) in omega arith

-- what an entry ends stands in some journal
ends_within : (j : History) (e : Entry) (w k : ℕ) → EndsAt j e w k → w < length j.seats
ends_within j e w k x = stands_within j w k _ (ends_as j e w k x).4.stands

module _ (j : History) (e : Entry) (facts : List Fact) (those : (w k : ℕ) → IsPlaceOf facts w k ↔ EndsAt j e w k) where
  place : (f : Fact) → Contains facts f → EndsAt j e f.seat f.index
  place f has = (those f.seat f.index).0 (record { fact = f; listed = has; seat_is = refl; index_is = refl })

  pub all_within : (n : ℕ) → n ≡ length j.seats → (f : Fact) → Contains facts f → f.seat < n
  all_within n same f has = let h : f.seat < length j.seats = ends_within j e f.seat f.index (place f has) in omega arith

  -- rule 8, by the listings that the entry ends
  pub order_by : (s i : ℕ) → ((f : Fact) → Contains facts f → ¬ IsPassed j s i f.seat f.index) ↔ ListedInOrder j s i e
  order_by s i = (
    λ h. (order_words j s i e).0 (λ w k x p.
        let q = (those w k).1 x in
        h q.fact q.listed (subst (λ (y : ℕ). IsPassed j s i q.fact.seat y) (sym q.index_is) (subst (λ (y : ℕ). IsPassed j s i y k) (sym q.seat_is) p))),
    λ h f has. (order_words j s i e).1 h f.seat f.index (place f has),
  )

  pub taken_next : (s i : ℕ) → Stands j s i e → (w k : ℕ) → (IsTakenFrom j s i w k ⊎ IsPlaceOf facts w k) ↔ IsTakenFrom j s (i + 1) w k
  taken_next s i stands w k =
      let n = next_taken j s i e stands w k in (
        λ h. n.0 (elim h [ inl t ↦ inl t | inr p ↦ inr ((those w k).0 p) ]),
        λ t. elim (n.1 t) [ inl old ↦ inl old | inr x ↦ inr ((those w k).1 x) ],
      )

not_some : (P : Type 0) (m : Mark) → None ≡ Some m → P
not_some P m e = absurd (cc)

start_mark : (j : History) (n w : ℕ) (mark : Option Mark) → slice_get (replicate n None) w ≡ Some mark → IsMarkOf (IsTakenFrom j 0 0 w) 0 mark
start_mark j n w None at = λ k t. let less : t.0 < 0 = t.4 in omega arith
start_mark j n w (Some m) at =
    let empty : Option Mark = None in
    let inside : w < length (replicate n empty) = slice_get_within (replicate n empty) w (Some m) at in
    let long : length (replicate n empty) ≡ n = length-replicate n empty in
    let is : get_or (replicate n empty) w empty ≡ Some m = get_or_from_slice_get (replicate n empty) w (Some m) empty at in
    let none : get_or (replicate n empty) w empty ≡ empty = get_or-replicate n w empty empty (omega arith) in
    not_some _ m (sym none ∙ is)

-- nothing is taken before the first entry of all
pub start_marks : (j : History) (marks : List (Option Mark)) → marks ≡ replicate (length j.seats) None → AreMarks j 0 0 marks
start_marks j marks is = record {
  marked = ap (λ (xs : List (Option Mark)). length xs) is ∙ length-replicate (length j.seats) None;
  each = λ w mark at. start_mark j (length j.seats) w mark (subst (λ (xs : List (Option Mark)). slice_get xs w ≡ Some mark) is at);
}
