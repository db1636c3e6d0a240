-- The last entry of a task, by the facts.
use Rattle.std.proofs.Common.{◌≡◌, ◌<◌, ℕ, List, Option, Some, None, ap, sym, ◌∙◌, subst}
use Rattle.std.specs.Prelude.{Contains, IfSome, IfNone}
use Rattle.std.specs.Option.{option_map}
use Rattle.handoff_data.specs.declared.entry.Entry.{Entry}
use Rattle.handoff_data.specs.History.{History}
use Rattle.handoff_data.specs.Positions.{Stands, entry_at}
use Rattle.journal_facts.specs.declared.fact.Fact.{Fact}
use Rattle.journal_facts.specs.declared.fact.Kind.{Kind}
use Rattle.journal_facts.specs.Facts.{fact_at, here, here_on}
use Rattle.journal_facts.specs.Answers.{Tells, IsLastIndex, IsHighest}
use Rattle.journal_rules.specs.Known.{KnowsFacts}
use Rattle.journal_rules.proofs.Meaning.{same}
use Rattle.journal_rules.proofs.Words.{found, listed}
use Rattle.journal_rules.specs.Order.{IsLast, HasNone, IsHighestOf, IsNowhere}

pub none_gives : {X : Type 0} (o : Option X) {Q : Type 0} → Q → IfNone o Q
none_gives None q = q
none_gives (Some x) q = tt

-- numbers of t, and a place that is this one
record Numbered (o : Option (ℕ × ℕ)) (s i t s' i' : ℕ) : Type 0 where
  number : ℕ
  is : o ≡ Some (t, number)
  seat : s ≡ s'
  index : i ≡ i'

-- what a fact with no number says
in_place : (k : Kind) (o : Option (ℕ × ℕ)) (s i t s' i' : ℕ) → option_map (λ x. here k s i (x.0, 0)) o ≡ Some (here_on k s' i' t 0 0) → Numbered o s i t s' i'
in_place k None s i t s' i' h = absurd (cc)
in_place k (Some x) s i t s' i' h =
    let q = same k k s i x.0 0 0 s' i' t 0 0 h in
    record { number = x.1; is = ap (λ (y : ℕ). Some (y, x.1)) q.subject; seat = q.seat; index = q.index }

-- what a fact with a number says
numbered : (k : Kind) (o : Option (ℕ × ℕ)) (s i t n c s' i' : ℕ) → option_map (here k s i) o ≡ Some (here_on k s' i' t n c) → (o ≡ Some (t, n)) × (s ≡ s') × (i ≡ i')
numbered k None s i t n c s' i' h = absurd (cc)
numbered k (Some x) s i t n c s' i' h =
    let q = same k k s i x.0 x.1 0 s' i' t n c h in
    (ap (λ (y : ℕ). Some (y, x.1)) q.subject ∙ ap (λ (y : ℕ). Some (t, y)) q.number, q.seat, q.index)

one_entry : (a b : Entry) (o : Option Entry) → o ≡ Some a → o ≡ Some b → a ≡ b
one_entry a b o p q = cc

module _ (j : History) (facts : List Fact) (knows : KnowsFacts j facts) (numbers : Entry → Option (ℕ × ℕ)) where
  module _ (k : Kind) (tells : (s i : ℕ) (e : Entry) → fact_at k s i e ≡ option_map (λ x. here k s i (x.0, 0)) (numbers e)) where
    tell_in : (t n s i : ℕ) (e : Entry) → Stands j s i e → numbers e ≡ Some (t, n) → Contains facts (here_on k s i t 0 0)
    tell_in t n s i e stands is = listed j facts knows k s i e (here_on k s i t 0 0) stands
        (tells s i e ∙ ap (option_map (λ (x : ℕ × ℕ). here k s i (x.0, 0))) is)

    -- what stands at a last index
    at_last : (t s index l : ℕ) → IsLastIndex facts k t s index l → (e : Entry) → entry_at j s l ≡ Some e → IsLast numbers j s index t e
    at_last t s index l last e at =
        let f = found j facts knows (here_on k s l t 0 0) last.told in
        let x = in_place k (numbers f.entry) f.seat f.index t s l (sym (tells f.seat f.index f.entry) ∙ f.tells) in
        let there : Stands j s l f.entry = subst (λ (y : ℕ). Stands j y l f.entry) x.seat (subst (λ (y : ℕ). Stands j f.seat y f.entry) x.index f.stands) in
        let one : f.entry ≡ e = one_entry f.entry e (entry_at j s l) there.at at in
        record {
          number = x.number;
          numbered = subst (λ (y : Entry). numbers y ≡ Some (t, x.number)) one x.is;
          last = l;
          below = last.below;
          stands = record { at = at };
          none_later = λ i n e' after before stands is. last.none_later i after before (tell_in t n s i e' stands is);
        }

    pub is_last : (t s index l : ℕ) → IsLastIndex facts k t s index l → (o : Option Entry) → o ≡ entry_at j s l → IfSome o (IsLast numbers j s index t)
    is_last t s index l last None at = tt
    is_last t s index l last (Some e) at = at_last t s index l last e (sym at)

    pub some_last : (t s index l : ℕ) → IsLastIndex facts k t s index l → (o : Option Entry) → o ≡ entry_at j s l → IfNone o (HasNone numbers j s index t)
    some_last t s index l last None at =
        let f = found j facts knows (here_on k s l t 0 0) last.told in
        let x = in_place k (numbers f.entry) f.seat f.index t s l (sym (tells f.seat f.index f.entry) ∙ f.tells) in
        let there : Stands j s l f.entry = subst (λ (y : ℕ). Stands j y l f.entry) x.seat (subst (λ (y : ℕ). Stands j f.seat y f.entry) x.index f.stands) in
        let is = there.at in
        absurd (cc)
    some_last t s index l last (Some e) at = tt

    pub no_last : (t s index : ℕ) → ((i : ℕ) → i < index → Contains facts (here_on k s i t 0 0) → ⊥) → HasNone numbers j s index t
    no_last t s index none i n e below stands is = none i below (tell_in t n s i e stands is)

  module _ (k : Kind) (tells : (s i : ℕ) (e : Entry) → fact_at k s i e ≡ option_map (here k s i) (numbers e)) where
    tell : (t n s i : ℕ) (e : Entry) → Stands j s i e → numbers e ≡ Some (t, n) → Contains facts (here_on k s i t n 0)
    tell t n s i e stands is = listed j facts knows k s i e (here_on k s i t n 0) stands
        (tells s i e ∙ ap (option_map (here k s i)) is)

    pub is_highest : (t : ℕ) (f : Fact) → IsHighest facts k t f → IsHighestOf numbers j t f.number
    is_highest t f highest =
        let g = found j facts knows _ (subst (λ (y : Fact). Contains facts y) highest.is highest.listed) in
        let x = numbered k (numbers g.entry) g.seat g.index t f.number f.cpu f.seat f.index (sym (tells g.seat g.index g.entry) ∙ g.tells) in
        record {
          entry = g.entry;
          numbered = x.0;
          somewhere = (g.seat, (g.index, g.stands));
          none_higher = λ other n at is. highest.none_higher n 0 at.0 at.1.0 (tell t n at.0 at.1.0 other at.1.1 is);
        }

    pub no_highest : (t : ℕ) → ((n : ℕ) → Tells facts k t n → ⊥) → IsNowhere numbers j t
    no_highest t none e n at is = none n (record { cpu = 0; seat = at.0; index = at.1.0; told = tell t n at.0 at.1.0 e at.1.1 is })
