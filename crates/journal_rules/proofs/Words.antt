-- What is told of the journals, in the words of the rules.
use Rattle.std.proofs.Common.{◌≡◌, ◌≤◌, ◌↔◌, ℕ, Bool, true, false, List, Option, Some, None, ap, sym, ◌∙◌, refl, subst, inl, inr, arith}
use Rattle.std.specs.Prelude.{Contains, slice_get, IsTrue, not}
use Rattle.std.specs.Option.{option_and_then}
use Rattle.handoff_data.specs.declared.entry.Entry.{Entry}
use Rattle.handoff_data.specs.declared.entry.Entry.TheVariants as entry
use Rattle.handoff_data.specs.declared.mask.CpuMask.{CpuMask}
use Rattle.handoff_data.specs.History.{History}
use Rattle.handoff_data.specs.Positions.{Stands, IsIn, IsBefore, IsSomewhere}
use Rattle.handoff_data.specs.Rules.{IsQueued, IsSleep, IsListed}
use Rattle.journal_facts.specs.declared.fact.Fact.{Fact}
use Rattle.journal_facts.specs.declared.fact.Kind.{Kind}
use Rattle.journal_facts.specs.declared.fact.Kind.TheVariants as kind
use Rattle.journal_facts.specs.Facts.{fact_at, here_on, IsTold}
use Rattle.journal_facts.specs.Answers.{Tells, TellsOn, TellsBefore, TellsFrom}
use Rattle.handoff_data.specs.Mask.{HasCpu}
use Rattle.journal_facts.specs.Members.{IsEntryMember, IsMaskMember, member}
use Rattle.journal_rules.specs.Known.{KnowsFacts, KnowsMembers}
use Rattle.journal_rules.proofs.Meaning.{told_kind, says_slept, says_died, says_wake, says_picked, says_left, says_finished, says_listing, says_listed, says_mask, says_stood, says_queued}

pub both : {A B C : Type 0} → A ↔ B → B ↔ C → A ↔ C
both f g = (λ a. g.0 (f.0 a), λ c. f.1 (g.1 c))

pub not_yes : (b : Bool) → IsTrue (not b) → IsTrue b → ⊥
not_yes true n y = cc
not_yes false n y = cc

pub never : (b : Bool) → b ≡ false → IsTrue b → ⊥
never b f y = cc

pub yes_not : (b : Bool) → (IsTrue b → ⊥) → IsTrue (not b)
yes_not true f = absurd (f refl)
yes_not false f = refl

record Within {A B : Type 0} (g : A → Option B) (o : Option A) (y : B) : Type 0 where
  x : A
  is : o ≡ Some x
  gives : g x ≡ Some y

within : {A B : Type 0} (g : A → Option B) (o : Option A) (y : B) → option_and_then g o ≡ Some y → Within g o y
within g None y e = absurd (cc)
within g (Some x) y e = record { x = x; is = refl; gives = e }

-- an entry that tells the fact
pub record Found (j : History) (f : Fact) : Type 0 where
  pub seat : ℕ
  pub index : ℕ
  pub entry : Entry
  pub stands : Stands j seat index entry
  pub tells : fact_at f.kind seat index entry ≡ Some f

module _ (j : History) (facts : List Fact) (knows : KnowsFacts j facts) where
  pub found : (f : Fact) → Contains facts f → Found j f
  found f c =
      let t : IsTold j.seats f = (knows.told f).0 c in
      let k : f.kind ≡ t.kind = told_kind t.kind t.seat t.index t.entry f t.tells in
      record {
        seat = t.seat;
        index = t.index;
        entry = t.entry;
        stands = record { at = ap (option_and_then (λ (journal : List Entry). slice_get journal t.index)) t.in_journals ∙ t.in_journal };
        tells = subst (λ (x : Kind). fact_at x t.seat t.index t.entry ≡ Some f) (sym k) t.tells;
      }

  pub listed : (k : Kind) (s i : ℕ) (e : Entry) (f : Fact) → Stands j s i e → fact_at k s i e ≡ Some f → Contains facts f
  listed k s i e f stands tells =
      let w = within (λ (journal : List Entry). slice_get journal i) (slice_get j.seats s) e stands.at in
      (knows.told f).1 (record { seat = s; journal = w.x; in_journals = w.is; index = i; entry = e; in_journal = w.gives; kind = k; tells = tells })

  there : {x : Fact} (f : Found j x) (e : Entry) → f.entry ≡ e → IsSomewhere j e
  there f e same = (f.seat, (f.index, subst (λ (y : Entry). Stands j f.seat f.index y) same f.stands))

  pub slept_words : (t m : ℕ) → Tells facts kind.Slept t m ↔ IsSleep j t m
  slept_words t m = (
    λ g.
        let f = found _ g.told in
        let e = says_slept f.seat f.index f.entry t m g.cpu g.seat g.index f.tells in
        (g.cpu, there f _ e),
    λ h. record { cpu = h.0; seat = 0; index = 0; told = listed kind.Slept h.1.0 h.1.1.0 (entry.Sleep t m h.0) _ h.1.1.1 refl },
  )

  pub slept_on_words : (t m c : ℕ) → TellsOn facts kind.Slept t m c ↔ IsSomewhere j (entry.Sleep t m c)
  slept_on_words t m c = (
    λ g.
        let f = found _ g.told in
        let e = says_slept f.seat f.index f.entry t m c g.seat g.index f.tells in
        (there f _ e),
    λ h. record { seat = 0; index = 0; told = listed kind.Slept h.0 h.1.0 (entry.Sleep t m c) _ h.1.1 refl },
  )

  pub queued_words : (t m c : ℕ) → TellsOn facts kind.Queued t m c ↔ IsQueued j t m c
  queued_words t m c = (
    λ g.
        let f = found _ g.told in
        elim (says_queued f.seat f.index f.entry t m c g.seat g.index f.tells) [
          | inl e ↦ inl (there f _ e)
          | inr more ↦ elim more [
            | inl e ↦ inr (inl (there f _ e))
            | inr e ↦ inr (inr (e.0, there f _ e.1))
          ]
        ],
    λ h. elim h [
      | inl a ↦ record { seat = 0; index = 0; told = listed kind.Queued a.0 a.1.0 (entry.New t m c) _ a.1.1 refl }
      | inr more ↦ elim more [
        | inl a ↦ record { seat = 0; index = 0; told = listed kind.Queued a.0 a.1.0 (entry.In t m c) _ a.1.1 refl }
        | inr a ↦ record { seat = 0; index = 0; told = listed kind.Queued a.1.0 a.1.1.0 (entry.Enq t m c a.0) _ a.1.1.1 refl }
      ]
    ],
  )

  pub wake_words : (t m s i : ℕ) → TellsBefore facts kind.Wake t m 0 s i ↔ IsBefore j s i (entry.Wake t m)
  wake_words t m s i = (
    λ g.
        let f = found _ g.told in
        let e = says_wake f.seat f.index f.entry t m 0 s g.before f.tells in (
          g.before,
          g.below,
          subst (λ (x : ℕ). Stands j x g.before (entry.Wake t m)) e.1 (subst (λ (x : ℕ). Stands j f.seat x (entry.Wake t m)) e.2
              (subst (λ (x : Entry). Stands j f.seat f.index x) e.0 f.stands)),
        ),
    λ h. record { before = h.0; below = h.1; told = listed kind.Wake s h.0 (entry.Wake t m) _ h.2 refl },
  )

  pub listing_words : (t m : ℕ) → Tells facts kind.Listing t m ↔ IsListed j t m
  listing_words t m = (
    λ g.
        let f = found _ g.told in
        let e = says_listing f.seat f.index f.entry t m g.cpu g.seat g.index f.tells in
        (e.0, e.1, there f _ e.2),
    λ h. record { cpu = 0; seat = h.2.0; index = h.2.1.0; told = listed kind.Listing h.2.0 h.2.1.0 (entry.List t m h.0 h.1) _ h.2.1.1 refl },
  )

  pub listed_words : (t m c : ℕ) → TellsOn facts kind.ListedTo t m c ↔ ((e : ℕ) × IsSomewhere j (entry.List t m c e))
  listed_words t m c = (
    λ g.
        let f = found _ g.told in
        let e = says_listed f.seat f.index f.entry t m c g.seat g.index f.tells in
        (e.0.0, there f _ e.0.1),
    λ h. record { seat = h.1.0; index = h.1.1.0; told = listed kind.ListedTo h.1.0 h.1.1.0 (entry.List t m c h.0) _ h.1.1.1 refl },
  )

  pub left_words : (t m s : ℕ) → TellsBefore facts kind.Left t m 0 s 1 ↔ ((c : ℕ) × IsIn j s (entry.Out t m c))
  left_words t m s = (
    λ g.
        let f = found _ g.told in
        let e = says_left f.seat f.index f.entry t m 0 s g.before f.tells in
        (e.0.0, (f.index, subst (λ (x : ℕ). Stands j x f.index (entry.Out t m e.0.0)) e.1 (subst (λ (x : Entry). Stands j f.seat f.index x) e.0.1 f.stands))),
    λ h. record { before = 0; below = omega arith; told = listed kind.Left s h.1.0 (entry.Out t m h.0) _ h.1.1 refl },
  )

  pub finished_words : (t n : ℕ) → Tells facts kind.Finished t n ↔ ((c : ℕ) × IsSomewhere j (entry.Finish t n c))
  finished_words t n = (
    λ g.
        let f = found _ g.told in
        let e = says_finished f.seat f.index f.entry t n g.cpu g.seat g.index f.tells in
        (e.0, there f _ e.1),
    λ h. record { cpu = 0; seat = 0; index = 0; told = listed kind.Finished h.1.0 h.1.1.0 (entry.Finish t n h.0) _ h.1.1.1 refl },
  )

  pub picked_words : (t n c s i : ℕ) → TellsBefore facts kind.Picked t n c s i ↔ IsBefore j s i (entry.Pick t n c)
  picked_words t n c s i = (
    λ g.
        let f = found _ g.told in
        let e = says_picked f.seat f.index f.entry t n c s g.before f.tells in (
          g.before,
          g.below,
          subst (λ (x : ℕ). Stands j x g.before (entry.Pick t n c)) e.1 (subst (λ (x : ℕ). Stands j f.seat x (entry.Pick t n c)) e.2
              (subst (λ (x : Entry). Stands j f.seat f.index x) e.0 f.stands)),
        ),
    λ h. record { before = h.0; below = h.1; told = listed kind.Picked s h.0 (entry.Pick t n c) _ h.2 refl },
  )

  pub died_words : (t m : ℕ) → Tells facts kind.Died t m ↔ ((c : ℕ) × IsSomewhere j (entry.Die t m c))
  died_words t m = (
    λ g.
        let f = found _ g.told in
        let e = says_died f.seat f.index f.entry t m g.cpu g.seat g.index f.tells in
        (g.cpu, there f _ e),
    λ h. record { cpu = h.0; seat = 0; index = 0; told = listed kind.Died h.1.0 h.1.1.0 (entry.Die t m h.0) _ h.1.1.1 refl },
  )

  pub died_on_words : (t m c : ℕ) → TellsOn facts kind.Died t m c ↔ IsSomewhere j (entry.Die t m c)
  died_on_words t m c = (
    λ g.
        let f = found _ g.told in
        let e = says_died f.seat f.index f.entry t m c g.seat g.index f.tells in
        (there f _ e),
    λ h. record { seat = 0; index = 0; told = listed kind.Died h.0 h.1.0 (entry.Die t m c) _ h.1.1 refl },
  )

  pub mask_words : (t r : ℕ) → Tells facts kind.Mask t r ↔ ((mask : CpuMask) × IsSomewhere j (entry.Mask t r mask))
  mask_words t r = (
    λ g.
        let f = found _ g.told in
        let e = says_mask f.seat f.index f.entry t r g.cpu g.seat g.index f.tells in
        (e.0.0, there f _ e.0.1),
    λ h. record { cpu = 0; seat = h.1.0; index = h.1.1.0; told = listed kind.Mask h.1.0 h.1.1.0 (entry.Mask t r h.0) _ h.1.1.1 refl },
  )

  pub masked_before_words : (t r s i : ℕ) → TellsBefore facts kind.Mask t r 0 s i ↔ ((mask : CpuMask) × IsBefore j s i (entry.Mask t r mask))
  masked_before_words t r s i = (
    λ g.
        let f = found _ g.told in
        let e = says_mask f.seat f.index f.entry t r 0 s g.before f.tells in (
          e.0.0,
          (
            g.before,
            g.below,
            subst (λ (x : ℕ). Stands j x g.before (entry.Mask t r e.0.0)) e.1
                (subst (λ (x : ℕ). Stands j f.seat x (entry.Mask t r e.0.0)) e.2 (subst (λ (x : Entry). Stands j f.seat f.index x) e.0.1 f.stands)),
          ),
        ),
    λ h. record { before = h.1.0; below = h.1.1; told = listed kind.Mask s h.1.0 (entry.Mask t r h.0) _ h.1.2 refl },
  )

  pub stood_words : (t r : ℕ) → TellsFrom facts kind.Stood t r ↔ ((r' m : ℕ) × (at : Option ℕ) × (r ≤ r') × IsSomewhere j (entry.Stood t r' m at))
  stood_words t r = (
    λ g.
        let f = found _ g.told in
        let e = says_stood f.seat f.index f.entry t g.number' g.cpu g.seat g.index f.tells in
        (g.number', e.0, e.1, g.from, there f _ e.2),
    λ h. record {
      number' = h.0;
      from = h.3;
      cpu = 0;
      seat = 0;
      index = 0;
      told = listed kind.Stood h.4.0 h.4.1.0 (entry.Stood t h.0 h.1 h.2) _ h.4.1.1 refl;
    },
  )

-- an entry that sets a mask with the processor
record Masked (e : Entry) (f : Fact) : Type 0 where
  t : ℕ
  r : ℕ
  mask : CpuMask
  is : e ≡ entry.Mask t r mask
  has : IsMaskMember t r mask f

masked : (e : Entry) (f : Fact) → IsEntryMember e f → Masked e f
masked (entry.Mask t r mask) f h = record { t = t; r = r; mask = mask; is = refl; has = h }
masked _ f h = absurd h

pub member_words : (j : History) (members : List Fact) (knows : KnowsMembers j members) (t r c : ℕ)
    → TellsOn members kind.Member t r c ↔ ((mask : CpuMask) × IsSomewhere j (entry.Mask t r mask) × HasCpu mask c)
member_words j members knows t r c = (
  λ g.
      let m = (knows.told _).0 g.told in
      let x = masked m.has.entry _ m.has.has in
      let f : here_on kind.Member g.seat g.index t r c ≡ member x.t x.r x.has.cpu = x.has.is in
      let et : x.t ≡ t = sym (ap (λ (y : Fact). y.subject) f) in
      let er : x.r ≡ r = sym (ap (λ (y : Fact). y.number) f) in
      let ec : x.has.cpu ≡ c = sym (ap (λ (y : Fact). y.cpu) f) in
      let is : m.has.entry ≡ entry.Mask t r x.mask = x.is ∙ ap (λ (y : ℕ). entry.Mask y x.r x.mask) et ∙ ap (λ (y : ℕ). entry.Mask t y x.mask) er in
      let at : Stands j m.seat m.has.index m.has.entry
      = record { at = ap (option_and_then (λ (journal : List Entry). slice_get journal m.has.index)) m.in_journals ∙ m.has.in_journal } in
      (x.mask, (m.seat, (m.has.index, subst (λ (y : Entry). Stands j m.seat m.has.index y) is at)), subst (λ (y : ℕ). HasCpu x.mask y) ec x.has.has),
  λ h.
      let w = within (λ (journal : List Entry). slice_get journal h.1.1.0) (slice_get j.seats h.1.0) (entry.Mask t r h.0) h.1.1.1.at in
      let own : IsMaskMember t r h.0 (here_on kind.Member 0 0 t r c) = record { cpu = c; has = h.2; is = refl } in
      record {
        seat = 0;
        index = 0;
        told = (knows.told _).1 (record {
          seat = h.1.0;
          journal = w.x;
          in_journals = w.is;
          has = record { index = h.1.1.0; entry = entry.Mask t r h.0; in_journal = w.gives; has = own };
        });
      },
)
