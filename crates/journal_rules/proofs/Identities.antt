-- Which entries have an identity, by the facts that they tell.
use Rattle.std.proofs.Common.{◌≡◌, ◌↔◌, ℕ, Bool, List, Option, Some, None, ap, sym, ◌∙◌, refl, subst}
use Rattle.std.specs.Prelude.{IsTrue, not}
use Rattle.std.specs.Option.{option_map}
use Rattle.handoff_data.specs.declared.entry.Entry.{Entry}
use Rattle.handoff_data.specs.declared.entry.Entry.TheVariants as entry
use Rattle.handoff_data.specs.History.{History}
use Rattle.handoff_data.specs.Numbers.{Identity, identity, Change, Run, Waking, Listing, Masking, Leaving, Returning}
use Rattle.handoff_data.specs.Positions.{Stands, IsEarlier}
use Rattle.handoff_data.specs.Rules.{NotRepeated}
use Rattle.journal_facts.specs.declared.fact.Fact.{Fact}
use Rattle.journal_facts.specs.declared.fact.Kind.TheVariants as kind
use Rattle.journal_facts.specs.Facts.{fact_at, here_on}
use Rattle.journal_facts.specs.Answers.{TellsEarlier}
use Rattle.journal_rules.specs.Keys.{key_of}
use Rattle.journal_rules.specs.Known.{KnowsFacts}
use Rattle.journal_rules.proofs.Meaning.{same}
use Rattle.journal_rules.proofs.Words.{found, listed, not_yes, yes_not}

-- the entry has the identity, and stands at this place
record Has (g : Identity) (e : Entry) (s i s' i' : ℕ) : Type 0 where
  is : identity e ≡ Some g
  seat : s ≡ s'
  index : i ≡ i'

told_change : (t m s i : ℕ) (e : Entry) (s' i' : ℕ) → fact_at kind.Change s i e ≡ Some (here_on kind.Change s' i' t m 0) → Has (Change t m) e s i s' i'
told_change t m s i e s' i' = elim e as (λ x. fact_at kind.Change s i x ≡ Some (here_on kind.Change s' i' t m 0) → Has (Change t m) x s i s' i') [
  | entry.New t' m' c' ↦ λ h. let q = same kind.Change kind.Change s i t' m' 0 s' i' t m 0 h in record { is = cc (q.subject, q.number); seat = q.seat; index = q.index }
  | entry.Sleep t' m' c' ↦ λ h. let q = same kind.Change kind.Change s i t' m' 0 s' i' t m 0 h in record { is = cc (q.subject, q.number); seat = q.seat; index = q.index }
  | entry.Enq t' m' c' b' ↦ λ h. let q = same kind.Change kind.Change s i t' m' 0 s' i' t m 0 h in record { is = cc (q.subject, q.number); seat = q.seat; index = q.index }
  | entry.Out t' m' c' ↦ λ h. let q = same kind.Change kind.Change s i t' m' 0 s' i' t m 0 h in record { is = cc (q.subject, q.number); seat = q.seat; index = q.index }
  | entry.In t' m' c' ↦ λ h. let q = same kind.Change kind.Change s i t' m' 0 s' i' t m 0 h in record { is = cc (q.subject, q.number); seat = q.seat; index = q.index }
  | entry.Die t' m' c' ↦ λ h. let q = same kind.Change kind.Change s i t' m' 0 s' i' t m 0 h in record { is = cc (q.subject, q.number); seat = q.seat; index = q.index }
  | _ ↦ λ h. absurd (cc)
]

tells_change : (t m s i : ℕ) (e : Entry) → identity e ≡ Some (Change t m) → fact_at kind.Change s i e ≡ Some (here_on kind.Change s i t m 0)
tells_change t m s i e = elim e as (λ x. identity x ≡ Some (Change t m) → fact_at kind.Change s i x ≡ Some (here_on kind.Change s i t m 0)) [
  | entry.New t' m' c' ↦ λ h. let et : t' ≡ t = cc in let em : m' ≡ m = cc in ap (λ (y : ℕ). Some (here_on kind.Change s i y m' 0)) et ∙ ap (λ (y : ℕ). Some (here_on kind.Change s i t y 0)) em
  | entry.Sleep t' m' c' ↦ λ h. let et : t' ≡ t = cc in let em : m' ≡ m = cc in ap (λ (y : ℕ). Some (here_on kind.Change s i y m' 0)) et ∙ ap (λ (y : ℕ). Some (here_on kind.Change s i t y 0)) em
  | entry.Enq t' m' c' b' ↦ λ h. let et : t' ≡ t = cc in let em : m' ≡ m = cc in ap (λ (y : ℕ). Some (here_on kind.Change s i y m' 0)) et ∙ ap (λ (y : ℕ). Some (here_on kind.Change s i t y 0)) em
  | entry.Out t' m' c' ↦ λ h. let et : t' ≡ t = cc in let em : m' ≡ m = cc in ap (λ (y : ℕ). Some (here_on kind.Change s i y m' 0)) et ∙ ap (λ (y : ℕ). Some (here_on kind.Change s i t y 0)) em
  | entry.In t' m' c' ↦ λ h. let et : t' ≡ t = cc in let em : m' ≡ m = cc in ap (λ (y : ℕ). Some (here_on kind.Change s i y m' 0)) et ∙ ap (λ (y : ℕ). Some (here_on kind.Change s i t y 0)) em
  | entry.Die t' m' c' ↦ λ h. let et : t' ≡ t = cc in let em : m' ≡ m = cc in ap (λ (y : ℕ). Some (here_on kind.Change s i y m' 0)) et ∙ ap (λ (y : ℕ). Some (here_on kind.Change s i t y 0)) em
  | _ ↦ λ h. absurd (cc)
]

told_run : (t m s i : ℕ) (e : Entry) (s' i' : ℕ) → fact_at kind.Run s i e ≡ Some (here_on kind.Run s' i' t m 0) → Has (Run t m) e s i s' i'
told_run t m s i e s' i' = elim e as (λ x. fact_at kind.Run s i x ≡ Some (here_on kind.Run s' i' t m 0) → Has (Run t m) x s i s' i') [
  | entry.Pick t' m' c' ↦ λ h. let q = same kind.Run kind.Run s i t' m' 0 s' i' t m 0 h in record { is = cc (q.subject, q.number); seat = q.seat; index = q.index }
  | entry.Finish t' m' c' ↦ λ h. let q = same kind.Run kind.Run s i t' m' 0 s' i' t m 0 h in record { is = cc (q.subject, q.number); seat = q.seat; index = q.index }
  | _ ↦ λ h. absurd (cc)
]

tells_run : (t m s i : ℕ) (e : Entry) → identity e ≡ Some (Run t m) → fact_at kind.Run s i e ≡ Some (here_on kind.Run s i t m 0)
tells_run t m s i e = elim e as (λ x. identity x ≡ Some (Run t m) → fact_at kind.Run s i x ≡ Some (here_on kind.Run s i t m 0)) [
  | entry.Pick t' m' c' ↦ λ h. let et : t' ≡ t = cc in let em : m' ≡ m = cc in ap (λ (y : ℕ). Some (here_on kind.Run s i y m' 0)) et ∙ ap (λ (y : ℕ). Some (here_on kind.Run s i t y 0)) em
  | entry.Finish t' m' c' ↦ λ h. let et : t' ≡ t = cc in let em : m' ≡ m = cc in ap (λ (y : ℕ). Some (here_on kind.Run s i y m' 0)) et ∙ ap (λ (y : ℕ). Some (here_on kind.Run s i t y 0)) em
  | _ ↦ λ h. absurd (cc)
]

told_waking : (t m s i : ℕ) (e : Entry) (s' i' : ℕ) → fact_at kind.Wake s i e ≡ Some (here_on kind.Wake s' i' t m 0) → Has (Waking t m) e s i s' i'
told_waking t m s i e s' i' = elim e as (λ x. fact_at kind.Wake s i x ≡ Some (here_on kind.Wake s' i' t m 0) → Has (Waking t m) x s i s' i') [
  | entry.Wake t' m' ↦ λ h. let q = same kind.Wake kind.Wake s i t' m' 0 s' i' t m 0 h in record { is = cc (q.subject, q.number); seat = q.seat; index = q.index }
  | _ ↦ λ h. absurd (cc)
]

tells_waking : (t m s i : ℕ) (e : Entry) → identity e ≡ Some (Waking t m) → fact_at kind.Wake s i e ≡ Some (here_on kind.Wake s i t m 0)
tells_waking t m s i e = elim e as (λ x. identity x ≡ Some (Waking t m) → fact_at kind.Wake s i x ≡ Some (here_on kind.Wake s i t m 0)) [
  | entry.Wake t' m' ↦ λ h. let et : t' ≡ t = cc in let em : m' ≡ m = cc in ap (λ (y : ℕ). Some (here_on kind.Wake s i y m' 0)) et ∙ ap (λ (y : ℕ). Some (here_on kind.Wake s i t y 0)) em
  | _ ↦ λ h. absurd (cc)
]

told_listing : (t m s i : ℕ) (e : Entry) (s' i' : ℕ) → fact_at kind.Listing s i e ≡ Some (here_on kind.Listing s' i' t m 0) → Has (Listing t m) e s i s' i'
told_listing t m s i e s' i' = elim e as (λ x. fact_at kind.Listing s i x ≡ Some (here_on kind.Listing s' i' t m 0) → Has (Listing t m) x s i s' i') [
  | entry.List t' m' c' e' ↦ λ h. let q = same kind.Listing kind.Listing s i t' m' 0 s' i' t m 0 h in record { is = cc (q.subject, q.number); seat = q.seat; index = q.index }
  | _ ↦ λ h. absurd (cc)
]

tells_listing : (t m s i : ℕ) (e : Entry) → identity e ≡ Some (Listing t m) → fact_at kind.Listing s i e ≡ Some (here_on kind.Listing s i t m 0)
tells_listing t m s i e = elim e as (λ x. identity x ≡ Some (Listing t m) → fact_at kind.Listing s i x ≡ Some (here_on kind.Listing s i t m 0)) [
  | entry.List t' m' c' e' ↦ λ h. let et : t' ≡ t = cc in let em : m' ≡ m = cc in ap (λ (y : ℕ). Some (here_on kind.Listing s i y m' 0)) et ∙ ap (λ (y : ℕ). Some (here_on kind.Listing s i t y 0)) em
  | _ ↦ λ h. absurd (cc)
]

told_masking : (t m s i : ℕ) (e : Entry) (s' i' : ℕ) → fact_at kind.Mask s i e ≡ Some (here_on kind.Mask s' i' t m 0) → Has (Masking t m) e s i s' i'
told_masking t m s i e s' i' = elim e as (λ x. fact_at kind.Mask s i x ≡ Some (here_on kind.Mask s' i' t m 0) → Has (Masking t m) x s i s' i') [
  | entry.Mask t' m' mask' ↦ λ h. let q = same kind.Mask kind.Mask s i t' m' 0 s' i' t m 0 h in record { is = cc (q.subject, q.number); seat = q.seat; index = q.index }
  | _ ↦ λ h. absurd (cc)
]

tells_masking : (t m s i : ℕ) (e : Entry) → identity e ≡ Some (Masking t m) → fact_at kind.Mask s i e ≡ Some (here_on kind.Mask s i t m 0)
tells_masking t m s i e = elim e as (λ x. identity x ≡ Some (Masking t m) → fact_at kind.Mask s i x ≡ Some (here_on kind.Mask s i t m 0)) [
  | entry.Mask t' m' mask' ↦ λ h. let et : t' ≡ t = cc in let em : m' ≡ m = cc in ap (λ (y : ℕ). Some (here_on kind.Mask s i y m' 0)) et ∙ ap (λ (y : ℕ). Some (here_on kind.Mask s i t y 0)) em
  | _ ↦ λ h. absurd (cc)
]

told_leaving : (t m s i : ℕ) (e : Entry) (s' i' : ℕ) → fact_at kind.Offline s i e ≡ Some (here_on kind.Offline s' i' t m 0) → Has (Leaving t m) e s i s' i'
told_leaving t m s i e s' i' = elim e as (λ x. fact_at kind.Offline s i x ≡ Some (here_on kind.Offline s' i' t m 0) → Has (Leaving t m) x s i s' i') [
  | entry.Offline t' m' ↦ λ h. let q = same kind.Offline kind.Offline s i t' m' 0 s' i' t m 0 h in record { is = cc (q.subject, q.number); seat = q.seat; index = q.index }
  | _ ↦ λ h. absurd (cc)
]

tells_leaving : (t m s i : ℕ) (e : Entry) → identity e ≡ Some (Leaving t m) → fact_at kind.Offline s i e ≡ Some (here_on kind.Offline s i t m 0)
tells_leaving t m s i e = elim e as (λ x. identity x ≡ Some (Leaving t m) → fact_at kind.Offline s i x ≡ Some (here_on kind.Offline s i t m 0)) [
  | entry.Offline t' m' ↦ λ h. let et : t' ≡ t = cc in let em : m' ≡ m = cc in ap (λ (y : ℕ). Some (here_on kind.Offline s i y m' 0)) et ∙ ap (λ (y : ℕ). Some (here_on kind.Offline s i t y 0)) em
  | _ ↦ λ h. absurd (cc)
]

told_returning : (t m s i : ℕ) (e : Entry) (s' i' : ℕ) → fact_at kind.Up s i e ≡ Some (here_on kind.Up s' i' t m 0) → Has (Returning t m) e s i s' i'
told_returning t m s i e s' i' = elim e as (λ x. fact_at kind.Up s i x ≡ Some (here_on kind.Up s' i' t m 0) → Has (Returning t m) x s i s' i') [
  | entry.Up t' m' ↦ λ h. let q = same kind.Up kind.Up s i t' m' 0 s' i' t m 0 h in record { is = cc (q.subject, q.number); seat = q.seat; index = q.index }
  | _ ↦ λ h. absurd (cc)
]

tells_returning : (t m s i : ℕ) (e : Entry) → identity e ≡ Some (Returning t m) → fact_at kind.Up s i e ≡ Some (here_on kind.Up s i t m 0)
tells_returning t m s i e = elim e as (λ x. identity x ≡ Some (Returning t m) → fact_at kind.Up s i x ≡ Some (here_on kind.Up s i t m 0)) [
  | entry.Up t' m' ↦ λ h. let et : t' ≡ t = cc in let em : m' ≡ m = cc in ap (λ (y : ℕ). Some (here_on kind.Up s i y m' 0)) et ∙ ap (λ (y : ℕ). Some (here_on kind.Up s i t y 0)) em
  | _ ↦ λ h. absurd (cc)
]

told_identity : (g : Identity) (s i : ℕ) (e : Entry) (s' i' : ℕ) → fact_at (key_of g).kind s i e ≡ Some (here_on (key_of g).kind s' i' (key_of g).subject (key_of g).number 0) → Has g e s i s' i'
told_identity (Change t m) s i e s' i' h = told_change t m s i e s' i' h
told_identity (Run t m) s i e s' i' h = told_run t m s i e s' i' h
told_identity (Waking t m) s i e s' i' h = told_waking t m s i e s' i' h
told_identity (Listing t m) s i e s' i' h = told_listing t m s i e s' i' h
told_identity (Masking t m) s i e s' i' h = told_masking t m s i e s' i' h
told_identity (Leaving t m) s i e s' i' h = told_leaving t m s i e s' i' h
told_identity (Returning t m) s i e s' i' h = told_returning t m s i e s' i' h

tells_identity : (g : Identity) (s i : ℕ) (e : Entry) → identity e ≡ Some g → fact_at (key_of g).kind s i e ≡ Some (here_on (key_of g).kind s i (key_of g).subject (key_of g).number 0)
tells_identity (Change t m) s i e h = tells_change t m s i e h
tells_identity (Run t m) s i e h = tells_run t m s i e h
tells_identity (Waking t m) s i e h = tells_waking t m s i e h
tells_identity (Listing t m) s i e h = tells_listing t m s i e h
tells_identity (Masking t m) s i e h = tells_masking t m s i e h
tells_identity (Leaving t m) s i e h = tells_leaving t m s i e h
tells_identity (Returning t m) s i e h = tells_returning t m s i e h

record Named (e : Entry) (key : Fact) : Type 0 where
  g : Identity
  is : identity e ≡ Some g
  key_is : key_of g ≡ key

named_by : (o : Option Identity) (e : Entry) (key : Fact) → identity e ≡ o → option_map key_of o ≡ Some key → Named e key
named_by None e key i h = absurd (cc)
named_by (Some g) e key i h = record { g = g; is = i; key_is = cc }

named : (e : Entry) (key : Fact) → option_map key_of (identity e) ≡ Some key → Named e key
named e key h = named_by (identity e) e key refl h

unnamed : (o : Option Identity) (g : Identity) → o ≡ Some g → option_map key_of o ≡ None → ⊥
unnamed None g a b = cc
unnamed (Some x) g a b = cc

inner : (g g' : Identity) → Some g ≡ Some g' → g ≡ g'
inner g g' e = cc

module _ (j : History) (facts : List Fact) (knows : KnowsFacts j facts) where
  private_told : (g : Identity) (s i s' i' : ℕ) (e' : Entry) → IsEarlier s' i' s i → Stands j s' i' e' → identity e' ≡ Some g
      → TellsEarlier facts (key_of g).kind (key_of g).subject (key_of g).number s i
  private_told g s i s' i' e' earlier stands is = record {
    seat' = s';
    index' = i';
    earlier = earlier;
    told = listed j facts knows (key_of g).kind s' i' e' _ stands (tells_identity g s' i' e' is);
  }

  -- the entry repeats none, where no earlier one tells a fact with its key
  pub repeats_none : (e : Entry) (key : Fact) (s i : ℕ) (told : Bool) → option_map key_of (identity e) ≡ Some key
      → IsTrue told ↔ TellsEarlier facts key.kind key.subject key.number s i → IsTrue (not told) ↔ NotRepeated j s i e
  repeats_none e key s i told is asked =
      let n = named e key is in
      let asked' : IsTrue told ↔ TellsEarlier facts (key_of n.g).kind (key_of n.g).subject (key_of n.g).number s i
      = subst (λ (k : Fact). IsTrue told ↔ TellsEarlier facts k.kind k.subject k.number s i) (sym n.key_is) asked in (
        λ yes g is_g s' i' e' earlier stands again.
            let one : g ≡ n.g = inner g n.g (sym is_g ∙ n.is) in
            not_yes told yes (asked'.1 (private_told n.g s i s' i' e' earlier stands (again ∙ ap (λ (x : Identity). Some x) one))),
        λ h. yes_not told (λ yes.
            let t = asked'.0 yes in
            let f = found j facts knows _ t.told in
            let x = told_identity n.g f.seat f.index f.entry t.seat' t.index' f.tells in
            h n.g n.is f.seat f.index f.entry (subst (λ (y : ℕ). IsEarlier y f.index s i) (sym x.seat) (subst (λ (y : ℕ). IsEarlier t.seat' y s i) (sym x.index) t.earlier))
            f.stands x.is),
      )

  -- an entry with no identity repeats none
  pub repeats_nothing : (e : Entry) (s i : ℕ) → option_map key_of (identity e) ≡ None → NotRepeated j s i e
  repeats_nothing e s i none g is s' i' e' earlier stands again = absurd (unnamed (identity e) g is none)
