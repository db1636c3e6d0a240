-- A token that is open: its seat, and how it closes.
use Rattle.std.proofs.Common.{◌≡◌, ◌≢◌, ℕ, ◌*◌, ◌<◌, refl, sym, ap, ◌∙◌, subst, List, [], ◌∷◌, true, false, arith}
use mathlib.Core.Logic.{dite}
use native.Mathlib.Decide.{ℕ_discrete}
use Rattle.std.specs.Prelude.{Option, Some, None, IsSome}
use Rattle.atomic_table.specs.Seated.{TableId}
use Rattle.atomic_table.specs.Table.{rest}
use Rattle.handoff_data.specs.declared.shape.Shape.{Shape}
use Rattle.word_steps.specs.Records.{Rec}
use Rattle.word_steps.specs.Words.{STRIDE}
use Rattle.word_steps.specs.declared.val.Val.{Val}
use Rattle.word_table.specs.Kinds.{Note, Told}
use Rattle.word_table.specs.Layout.{rows_of, word_at}
use Rattle.word_table.specs.Parts.{Known}
use Rattle.word_table.specs.Plays.{one, part, trace_in, seat_in, sat, holding, bare, spent, push, lift, lay, Sat}
use Rattle.word_table.specs.Ruled.{none_kept, all_given, taken_back}
use Rattle.word_table.specs.Taken.{val_in_hand}
use Rattle.word_table.specs.Shown.{trace_of, known_in, token_view, IsToken}
use Rattle.word_table.specs.Views.{TokenView, IsSame}
use Rattle.word_table.specs.declared.slot.Slot.{Slot}
use Rattle.word_table.specs.declared.slot.Slot.TheVariants.{Empty, Held, Body}
use Rattle.word_table.specs.declared.token.Token.TheInside.{Inside}
use Rattle.word_table.specs.declared.view.View.{View}

-- a word that lies in the table
pub in_table : (shape shape' : Shape) (size n col i : ℕ) → size ≡ STRIDE * rows_of shape' → shape' ≡ shape → n < rows_of shape
    → col < STRIDE → i ≡ word_at n col → i < size
in_table shape shape' size n col i long same row low at = let e : size ≡ STRIDE * rows_of shape = long ∙ ap (λ (z : Shape). STRIDE * rows_of z) same in omega (arith, e, row, low, at)

abbrev first_of : View → List View → View
first_of d [] = d
first_of d (v ∷ vs) = v

-- what a token knows
abbrev pub known_by : TokenView → Known
known_by p = record { shape = p.shape; lasting = p.lasting }

-- the views of a token
abbrev pub made : Known → ℕ → List Rec → List View
made known s trace = one known (part s trace) ∷ []

views_are : (i : Inside) (p : TokenView) → IsToken i → token_view i ≡ p → i.badge.views ≡ made (known_by p) p.seat p.trace
views_are i p is seen = is ∙ λ j. made (known_by (seen j)) (seen j).seat (seen j).trace

-- what a token shows once it has the seat again
pub record Closing (i : Inside) (p : TokenView) (views' : List View) (name' : TableId) (trace' : List Rec) : Type 0 where
  pub is : views' ≡ one (known_in views') (part i.seat (trace_of views')) ∷ []
  pub same : IsSame p record { of = name'; shape = (known_in views').shape; lasting = (known_in views').lasting; seat = i.seat; trace = trace_of views' }
  pub trace_is : trace_of views' ≡ trace'

module _ {B : Type 0} where
  -- the seat that a token rests on
  pub opened : (i : Inside) (p : TokenView) (views : List View) (m : Sat B) → IsToken i → token_view i ≡ p → views ≡ i.badge.views
      → views ≡ m.0 ∷ [] → m.1 ≡ [] → m ≡ sat (known_by p) p.seat p.trace
  opened i p views m is seen same at free = let e : m.0 ≡ one (known_by p) (part p.seat p.trace) = ap (first_of m.0) (sym at ∙ (same ∙ views_are i p is seen)) in λ j. (e j, free j)

  -- .. by the names of the table: of the badge, of the seat after and before, and of the badge that was opened
  pub closing : (i : Inside) (p : TokenView) (views' : List View) (name' after before badge : TableId) (m' : Sat B) (trace' : List Rec)
      → token_view i ≡ p → name' ≡ after → after ≡ before → before ≡ badge → badge ≡ i.badge.table_id
      → views' ≡ m'.0 ∷ [] → m' ≡ sat (known_by p) p.seat trace' → Closing i p views' name' trace'
  closing i p views' name' after before badge m' trace' seen closed kept opens same at is =
      let e : views' ≡ made (known_by p) p.seat trace' = at ∙ ap (λ (z : Sat B). z.0 ∷ []) is in
      let number : i.seat ≡ p.seat = ap (λ (z : TokenView). z.seat) seen in record {
        is = e ∙ λ j. made (sym (ap known_in e) j) (sym number j) (sym (ap trace_of e) j);
        same = record {
          table = closed ∙ (kept ∙ (opens ∙ (same ∙ ap (λ (z : TokenView). z.of) seen)));
          same_shape = ap (λ (z : List View). (known_in z).shape) e;
          same_lasting = ap (λ (z : List View). (known_in z).lasting) e;
          same_seat = number;
        };
        trace_is = ap trace_of e;
      }

  -- the seat with the record of its step
  pub noted_from : (note : ℕ → List Rec → ℕ → ℕ → ℕ → Rec) (m m' : Sat B) (known : Known) (s : ℕ) (trace : List Rec) (n y x : ℕ)
      → m ≡ sat known s trace → m' ≡ push (note (seat_in m.0.parts) (trace_in m.0.parts) n y x) m
      → m' ≡ sat known s (note s trace n y x ∷ trace)
  noted_from note m m' known s trace n y x rest now = now ∙ λ h. push (note (seat_in (rest h).0.parts) (trace_in (rest h).0.parts) n y x) (rest h)

  tried_trace : (x old : ℕ) (m m' : Sat B) (F : ℕ → Type 0) (r : ℕ → Rec) (known : Known) (s : ℕ) (trace : List Rec)
      → m ≡ sat known s trace → (x ≡ old → F x × (m' ≡ push (r x) (sat known s trace))) × (x ≢ old → m' ≡ m)
      → (trace' : List Rec) × (m' ≡ sat known s trace') × (x ≡ old → trace' ≡ r old ∷ trace) × (x ≡ old → F old) × (x ≢ old → trace' ≡ trace)
  tried_trace x old m m' F r known s trace is t = dite (ℕ_discrete x old)
      (λ e. (r old ∷ trace, (t.0 e).1 ∙ ap (λ (z : ℕ). sat known s (r z ∷ trace)) e, (λ _. refl), (λ _. subst F e (t.0 e).0), λ ne. absurd (ne e)))
      (λ ne. (trace, t.1 ne ∙ is, (λ e. absurd (ne e)), (λ e. absurd (ne e)), λ _. refl))

  -- the trace after one try, and what is told of the word found
  pub tried_from : (told : Told) (note : Note) (x old n y : ℕ) (m m' : Sat B) (known : Known) (s : ℕ)
      (trace : List Rec) → m ≡ sat known s trace
      → (x ≡ old → told m.0.known.shape (seat_in m.0.parts) (trace_in m.0.parts) n x
      × (m' ≡ push (note (seat_in m.0.parts) (trace_in m.0.parts) n y x) m)) × (x ≢ old → m' ≡ m)
      → (trace' : List Rec) × (m' ≡ sat known s trace') × (x ≡ old → trace' ≡ note s trace n y old ∷ trace)
      × (x ≡ old → told known.shape s trace n old) × (x ≢ old → trace' ≡ trace)
  tried_from told note x old n y m m' known s trace is t =
      tried_trace x old m m' (told known.shape s trace n) (note s trace n y) known s trace is (
        λ hit. (
          subst (λ (z : Sat B). told z.0.known.shape (seat_in z.0.parts) (trace_in z.0.parts) n x) is (t.0 hit).0,
          subst (λ (z : Sat B). m' ≡ push (note (seat_in z.0.parts) (trace_in z.0.parts) n y x) z) is (t.0 hit).1,
        ),
        t.1,
      )

  abbrev slot_in : List (ℕ × Slot B) → Slot B
  slot_in [] = Empty
  slot_in (x ∷ xs) = x.1

  -- a plain exchange on the slot in the seat's hand
  pub swapped : (m m' : Sat B) (known : Known) (s j : ℕ) (trace : List Rec) (y x new : Slot B) → m ≡ holding known s trace j y
      → m.1 ≡ (j, x) ∷ rest m.1 → m' ≡ (m.0, (j, new) ∷ rest m.1)
      → (x ≡ y) × (m' ≡ holding known s trace j new)
  swapped m m' known s j trace y x new is had now = (sym (ap slot_in had) ∙ ap (λ (z : Sat B). slot_in z.1) is, now ∙ λ h. ((is h).0, (j, new) ∷ rest (is h).1))

  pub in_hand : (m : Sat B) (known : Known) (s j : ℕ) (trace : List Rec) (y : Slot B) → m ≡ holding known s trace j y
      → m.1 ≡ (j, y) ∷ rest m.1
  in_hand m known s j trace y is = ap (λ (z : Sat B). z.1) is ∙ λ h. (j, y) ∷ rest (sym is h).1

  -- the slot i = j comes into the hand of a seat at rest, with a record
  pub took_from : (m m' : Sat B) (known : Known) (s : ℕ) (trace : List Rec) (i j : ℕ) (x : Slot B) (r : Rec) → m ≡ sat known s trace
      → m' ≡ lift j x (push r m) → i ≡ j → m' ≡ holding known s (r ∷ trace) i x
  took_from m m' known s trace i j x r rest now same = now ∙ λ h. lift (sym same h) x (push r (rest h))

  -- the seat hands its parts to a new one, and keeps the slot in its hand
  pub handed_from : (m m' own : Sat B) (known : Known) (s : ℕ) (trace : List Rec) (i : ℕ) (x : Slot B) (r : Rec) → m ≡ sat known s trace
      → m' ≡ lift i x (push r m) → own ≡ (all_given m'.0, []) → own ≡ sat known s (r ∷ trace)
  handed_from m m' own known s trace i x r rest now got = got ∙ (λ h. (all_given (now h).0, [])) ∙ λ h. (all_given (lift i x (push r (rest h))).0, [])

  pub kept_from : (m m' left : Sat B) (known : Known) (s : ℕ) (trace : List Rec) (i j : ℕ) (x : Slot B) (r : Rec) → m ≡ sat known s trace
      → m' ≡ lift i x (push r m) → left ≡ (none_kept m'.0, m'.1) → j ≡ i → left ≡ bare j x
  kept_from m m' left known s trace i j x r rest now got same = got ∙ (λ h. (none_kept (now h).0, (now h).1)) ∙ λ h. (spent, (lift (sym same h) x (push r (rest h))).1)

  -- .. and takes them back
  pub back_from : (m own m' : Sat B) (known : Known) (s : ℕ) (trace : List Rec) (i j : ℕ) (x : Slot B) → m ≡ bare i x
      → own ≡ sat known s trace → m' ≡ (taken_back m.0 own.0, m.1) → i ≡ j → m' ≡ holding known s trace j x
  back_from m own m' known s trace i j x had rest got same = got ∙ (λ h. ((rest h).0, (had h).1)) ∙ λ h. holding known s trace (same h) x

  pub laid_from : (m m' : Sat B) (known : Known) (s : ℕ) (trace : List Rec) (i : ℕ) (x : Slot B) (r : Rec)
      → m ≡ holding known s trace i x → m' ≡ lay (push r m) → m' ≡ sat known s (r ∷ trace)
  laid_from m m' known s trace i x r had now = now ∙ λ h. lay (push r (had h))

  -- the slot in the hand of a seat of no part
  pub alone : (m : Sat B) (i : ℕ) (x : Slot B) → m ≡ bare i x → m.1 ≡ (i, x) ∷ rest m.1
  alone m i x is = ap (λ (z : Sat B). z.1) is ∙ λ h. (i, x) ∷ rest (sym is h).1

  pub hand_is : (m : Sat B) (i : ℕ) (v : Val) → m ≡ bare i (Held v) → m ≡ bare i (Held (val_in_hand m.1))
  hand_is m i v is = is ∙ λ h. bare i (Held (val_in_hand (sym is h).1))

  pub held_same : (v w : Val) → ◌≡◌ {A = Slot B} (Held v) (Held w) → v ≡ w
  held_same v w e = cc

  pub body_same : (b c : B) → ◌≡◌ {A = Slot B} (Body b) (Body c) → b ≡ c
  body_same b c e = cc

pub has_value : (o : Option Val) → IsSome o → (v : Val) × (o ≡ Some v)
has_value None e = let no : false ≡ true = e in cc
has_value (Some v) e = (v, refl)
