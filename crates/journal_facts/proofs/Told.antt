-- The facts that are listed are those that entries tell.
use Rattle.std.proofs.Common.{◌≡◌, ℕ, zero, suc, ◌+◌, ◌<◌, ◌⊎◌, ◌↔◌, List, [], ◌∷◌, Option, Some, None, get_or, ap, sym, ◌∙◌, refl, arith, subst, inl, inr}
use Rattle.std.specs.Option.{option_to_list}
use Rattle.std.specs.Prelude.{Contains, slice_get}
use Rattle.std.proofs.lemmas.List.Elements.{Contains-append_left, Contains-append_right, Contains-append_cases}
use Rattle.handoff_data.specs.declared.entry.Entry.{Entry}
use Rattle.journal_facts.specs.declared.fact.Fact.{Fact}
use Rattle.journal_facts.specs.declared.fact.Kind.{Kind}
use Rattle.journal_facts.specs.declared.fact.Kind.TheVariants as kind
use Rattle.journal_facts.specs.Facts.{fact_at, kinds, told_of, told_by, told_in, told_from, IsTold}

-- the entry tells the fact
record ToldAt (s i : ℕ) (e : Entry) (f : Fact) : Type 0 where
  kind : Kind
  tells : fact_at kind s i e ≡ Some f

record ToldIn (s i : ℕ) (es : List Entry) (f : Fact) : Type 0 where
  n : ℕ
  entry : Entry
  at : slice_get es n ≡ Some entry
  told : ToldAt s (i + n) entry f

record ToldFrom (s : ℕ) (js : List (List Entry)) (f : Fact) : Type 0 where
  m : ℕ
  journal : List Entry
  at : slice_get js m ≡ Some journal
  told : ToldIn (s + m) 0 journal f

only_one : (x f : Fact) (k : ℕ) → k < 1 → get_or (x ∷ []) k f ≡ f → x ≡ f
only_one x f zero less e = e
only_one x f (suc k) less e = absurd (omega arith)

from_opt : (o : Option Fact) (f : Fact) → Contains (option_to_list o) f → o ≡ Some f
from_opt None f c = absurd (omega (arith, c.1))
from_opt (Some x) f c = ap (λ (y : Fact). Some y) (only_one x f c.0 (omega (arith, c.1)) c.2)

to_opt : (o : Option Fact) (f : Fact) → o ≡ Some f → Contains (option_to_list o) f
to_opt o f e = subst (λ (x : Option Fact). Contains (option_to_list x) f) (sym e) (0, omega arith, refl)

from_of : (ks : List Kind) (s i : ℕ) (e : Entry) (f : Fact) → Contains (told_of ks s i e) f → ToldAt s i e f
from_of [] s i e f c = absurd (omega (arith, c.1))
from_of (k ∷ ks) s i e f c =
    elim (Contains-append_cases (option_to_list (fact_at k s i e)) (told_of ks s i e) f c) [
      | inl first ↦ record { kind = k; tells = from_opt (fact_at k s i e) f first }
      | inr more ↦ from_of ks s i e f more
    ]

from_by : (s i : ℕ) (e : Entry) (f : Fact) → Contains (told_by s i e) f → ToldAt s i e f
unfolding told_by
from_by s i e f c = from_of kinds s i e f c

abbrev Among : Kind → List Kind → Type 0
Among k [] = ⊥
Among k (x ∷ xs) = (x ≡ k) ⊎ Among k xs

to_of : (ks : List Kind) (k : Kind) (s i : ℕ) (e : Entry) (f : Fact) → Among k ks → fact_at k s i e ≡ Some f → Contains (told_of ks s i e) f
to_of [] k s i e f among tells = absurd among
to_of (x ∷ ks) k s i e f among tells =
    elim among [
      | inl same ↦ Contains-append_left (option_to_list (fact_at x s i e)) (told_of ks s i e) f (to_opt (fact_at x s i e) f (ap (λ (y : Kind). fact_at y s i e) same ∙ tells))
      | inr more ↦ Contains-append_right (option_to_list (fact_at x s i e)) (told_of ks s i e) f (to_of ks k s i e f more tells)
    ]

all_kinds : (k : Kind) (s i : ℕ) (e : Entry) (f : Fact) → fact_at k s i e ≡ Some f → Among k kinds
all_kinds kind.Change s i e f tells = inl refl
all_kinds kind.Run s i e f tells = inr (inl refl)
all_kinds kind.Wake s i e f tells = inr (inr (inl refl))
all_kinds kind.Listing s i e f tells = inr (inr (inr (inl refl)))
all_kinds kind.Mask s i e f tells = inr (inr (inr (inr (inl refl))))
all_kinds kind.Offline s i e f tells = inr (inr (inr (inr (inr (inl refl)))))
all_kinds kind.Up s i e f tells = inr (inr (inr (inr (inr (inr (inl refl))))))
all_kinds kind.Queued s i e f tells = inr (inr (inr (inr (inr (inr (inr (inl refl)))))))
all_kinds kind.Slept s i e f tells = inr (inr (inr (inr (inr (inr (inr (inr (inl refl))))))))
all_kinds kind.Left s i e f tells = inr (inr (inr (inr (inr (inr (inr (inr (inr (inl refl)))))))))
all_kinds kind.Died s i e f tells = inr (inr (inr (inr (inr (inr (inr (inr (inr (inr (inl refl))))))))))
all_kinds kind.ListedTo s i e f tells = inr (inr (inr (inr (inr (inr (inr (inr (inr (inr (inr (inl refl)))))))))))
all_kinds kind.Taken s i e f tells = inr (inr (inr (inr (inr (inr (inr (inr (inr (inr (inr (inr (inl refl))))))))))))
all_kinds kind.Picked s i e f tells = inr (inr (inr (inr (inr (inr (inr (inr (inr (inr (inr (inr (inr (inl refl)))))))))))))
all_kinds kind.Finished s i e f tells = inr (inr (inr (inr (inr (inr (inr (inr (inr (inr (inr (inr (inr (inr (inl refl))))))))))))))
all_kinds kind.Stood s i e f tells = inr (inr (inr (inr (inr (inr (inr (inr (inr (inr (inr (inr (inr (inr (inr (inl refl)))))))))))))))
all_kinds kind.ChangeIn s i e f tells = inr (inr (inr (inr (inr (inr (inr (inr (inr (inr (inr (inr (inr (inr (inr (inr (inl refl))))))))))))))))
all_kinds kind.RunIn s i e f tells = inr (inr (inr (inr (inr (inr (inr (inr (inr (inr (inr (inr (inr (inr (inr (inr (inr (inl refl)))))))))))))))))
all_kinds kind.TurnIn s i e f tells = inr (inr (inr (inr (inr (inr (inr (inr (inr (inr (inr (inr (inr (inr (inr (inr (inr (inr (inl refl))))))))))))))))))
all_kinds kind.Due s i e f tells = inr (inr (inr (inr (inr (inr (inr (inr (inr (inr (inr (inr (inr (inr (inr (inr (inr (inr (inr (inl refl)))))))))))))))))))
all_kinds kind.Member s i e f tells = absurd (cc)

to_by : (s i : ℕ) (e : Entry) (f : Fact) → ToldAt s i e f → Contains (told_by s i e) f
unfolding told_by
to_by s i e f t = to_of kinds t.kind s i e f (all_kinds t.kind s i e f t.tells) t.tells

from_in : (s i : ℕ) (es : List Entry) (f : Fact) → Contains (told_in s i es) f → ToldIn s i es f
from_in s i [] f c = absurd (omega (arith, c.1))
from_in s i (e ∷ es) f c =
    elim (Contains-append_cases (told_by s i e) (told_in s (i + 1) es) f c) [
      | inl first ↦ record { n = 0; entry = e; at = refl; told = subst (λ (x : ℕ). ToldAt s x e f) (omega arith) (from_by s i e f first) }
      | inr more ↦ let t = from_in s (i + 1) es f more in
          record { n = suc t.n; entry = t.entry; at = t.at; told = subst (λ (x : ℕ). ToldAt s x t.entry f) (omega arith) t.told }
    ]

to_in : (s i : ℕ) (es : List Entry) (f : Fact) (n : ℕ) (entry : Entry) → slice_get es n ≡ Some entry → ToldAt s (i + n) entry f → Contains (told_in s i es) f
to_in s i [] f n entry at told = absurd (cc)
to_in s i (e ∷ es) f zero entry at told =
    let same : e ≡ entry = cc in
    let here : ToldAt s i entry f = subst (λ (x : ℕ). ToldAt s x entry f) (omega arith) told in
    Contains-append_left (told_by s i e) (told_in s (i + 1) es) f (to_by s i e f (subst (λ (x : Entry). ToldAt s i x f) (sym same) here))
to_in s i (e ∷ es) f (suc n) entry at told =
    Contains-append_right (told_by s i e) (told_in s (i + 1) es) f
    (to_in s (i + 1) es f n entry at (subst (λ (x : ℕ). ToldAt s x entry f) (omega arith) told))

from_all : (s : ℕ) (js : List (List Entry)) (f : Fact) → Contains (told_from s js) f → ToldFrom s js f
from_all s [] f c = absurd (omega (arith, c.1))
from_all s (j ∷ js) f c =
    elim (Contains-append_cases (told_in s 0 j) (told_from (s + 1) js) f c) [
      | inl first ↦ record { m = 0; journal = j; at = refl; told = subst (λ (x : ℕ). ToldIn x 0 j f) (omega arith) (from_in s 0 j f first) }
      | inr more ↦ let t = from_all (s + 1) js f more in
          record { m = suc t.m; journal = t.journal; at = t.at; told = subst (λ (x : ℕ). ToldIn x 0 t.journal f) (omega arith) t.told }
    ]

to_all : (s : ℕ) (js : List (List Entry)) (f : Fact) (m : ℕ) (journal : List Entry) (n : ℕ) (entry : Entry) → slice_get js m ≡ Some journal
    → slice_get journal n ≡ Some entry → ToldAt (s + m) n entry f → Contains (told_from s js) f
to_all s [] f m journal n entry here at told = absurd (cc)
to_all s (j ∷ js) f zero journal n entry here at told =
    let same : j ≡ journal = cc in
    let now : ToldAt s n entry f = subst (λ (x : ℕ). ToldAt x n entry f) (omega arith) told in
    let first : Contains (told_in s 0 journal) f = to_in s 0 journal f n entry at (subst (λ (x : ℕ). ToldAt s x entry f) (omega arith) now) in
    Contains-append_left (told_in s 0 j) (told_from (s + 1) js) f (subst (λ (x : List Entry). Contains (told_in s 0 x) f) (sym same) first)
to_all s (j ∷ js) f (suc m) journal n entry here at told =
    Contains-append_right (told_in s 0 j) (told_from (s + 1) js) f
    (to_all (s + 1) js f m journal n entry here at (subst (λ (x : ℕ). ToldAt x n entry f) (omega arith) told))

plain_at : (s i s' i' : ℕ) (e : Entry) (f : Fact) → s ≡ s' → i ≡ i' → ToldAt s i e f → ToldAt s' i' e f
plain_at s i s' i' e f es ei t = subst (λ (x : ℕ). ToldAt x i' e f) es (subst (λ (x : ℕ). ToldAt s x e f) ei t)

pub told_is : (js : List (List Entry)) (f : Fact) → Contains (told_from 0 js) f ↔ IsTold js f
told_is js f = (
  λ c.
      let t = from_all 0 js f c in
      let here = plain_at (0 + t.m) (0 + t.told.n) t.m t.told.n t.told.entry f (omega arith) (omega arith) t.told.told in
      record { seat = t.m; journal = t.journal; in_journals = t.at; index = t.told.n; entry = t.told.entry; in_journal = t.told.at; kind = here.kind; tells = here.tells },
  λ t. to_all 0 js f t.seat t.journal t.index t.entry t.in_journals t.in_journal
      (plain_at t.seat t.index (0 + t.seat) t.index t.entry f (omega arith) refl (record { kind = t.kind; tells = t.tells })),
)
