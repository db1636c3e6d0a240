-- What the rule says at the end, of all tokens together.
use Rattle.std.proofs.Common.{◌≡◌, ◌≢◌, ℕ, zero, suc, ◌+◌, ◌*◌, ◌<◌, ◌≤◌, Bool, true, false, get_or, length, map, refl, sym, ap, ◌∙◌, subst, inl, inr, List, [], ◌∷◌, eq-eqb, ne_eqb, arith}
use Rattle.std.specs.Prelude.{Option, Some, None, is_some}
use Rattle.std.specs.List.{All, Contains}
use Rattle.std.proofs.lemmas.Bool.{cases_eq, cases_lt}
use mathlib.Core.Path.{fun_ext}
use lib.ListN.{get_elem?}
use Rattle.atomic_table.specs.Table.{Final, Seen, Me}
use Rattle.word_rule.specs.WordsHold.{WordsHold}
use Rattle.word_steps.specs.Decode.{Homes}
use Rattle.word_steps.specs.Folds.{body_held}
use Rattle.word_steps.specs.Records.{Rec}
use Rattle.word_steps.specs.Words.{words_of}
use Rattle.word_table.proofs.Decoded.{body_there}
use Rattle.word_table.proofs.Opening.{room_there}
use Rattle.word_table.specs.End.{HasEachSeat, IsIdle, IsLeft, traces_of, part_of}
use Rattle.word_table.specs.Exclusives.{ExclusivesTold}
use Rattle.word_table.specs.Layout.{SLOTS, BODY_SLOT, rows_of, slot_at}
use Rattle.word_table.specs.Ruled.{Each, Fits, homes_of, known_of, Ruled}
use Rattle.word_table.specs.Views.{TokenView}
use Rattle.word_table.specs.declared.slot.Key.{Key}
use Rattle.word_table.specs.declared.slot.Slot.{Slot}
use Rattle.word_table.specs.declared.slot.Slot.TheVariants.{Body, Room}
use Rattle.word_table.specs.declared.view.View.{View}

-- The traces

abbrev seats_of : List TokenView → List ℕ
seats_of tokens = map (λ (t : TokenView). t.seat) tokens

first_trace : (token : TokenView) (tokens : List TokenView) (s : ℕ) → token.seat ≡ s
    → traces_of (token ∷ tokens) s ≡ token.trace
first_trace token tokens s e = rw (eq-eqb token.seat s e)

later_trace : (token : TokenView) (tokens : List TokenView) (s : ℕ) → token.seat ≢ s
    → traces_of (token ∷ tokens) s ≡ traces_of tokens s
later_trace token tokens s ne = rw (ne_eqb token.seat s ne)

module _ (m : ℕ) (trace : ℕ → List Rec) (owner : ℕ → ℕ) (j : ℕ) where
  -- a seat that has a token has its trace
  found_trace : (tokens : List TokenView) (s : ℕ) → Each (Fits m trace owner j) (map part_of tokens)
      → Contains (seats_of tokens) s → traces_of tokens s ≡ trace s
  found_trace [] s fits there = absurd (omega (arith, there.1))
  found_trace (token ∷ tokens) s fits there = elim (cases_eq token.seat s) [
    | inl e ↦ first_trace token tokens s e ∙ fits.0.trace_is ∙ ap trace e
    | inr ne ↦ later_trace token tokens s ne ∙ found_trace tokens s fits.1 (rest there.0 there.1 there.2 ne)
  ]
    where
      rest : (k : ℕ) → k < length (seats_of (token ∷ tokens)) → get_or (seats_of (token ∷ tokens)) k s ≡ s
          → token.seat ≢ s → Contains (seats_of tokens) s
      rest zero lt e ne = absurd (ne e)
      rest (suc k) lt e ne = (k, omega arith, e)

  -- one past the seats has none
  no_trace : (tokens : List TokenView) (s : ℕ) → m ≤ s → Each (Fits m trace owner j) (map part_of tokens)
      → traces_of tokens s ≡ []
  no_trace [] s far fits = refl
  no_trace (token ∷ tokens) s far fits = later_trace token tokens s (λ e. let near = fits.0.near in omega arith)
      ∙ no_trace tokens s far fits.1

-- no seat has a body out
idle_bodies : (tokens : List TokenView) → Each IsIdle tokens → (s : ℕ) → body_held (traces_of tokens s) ≡ None
idle_bodies [] idle s = refl
idle_bodies (token ∷ tokens) idle s = elim (cases_eq token.seat s) [
  | inl e ↦ ap body_held (first_trace token tokens s e) ∙ idle.0.body
  | inr ne ↦ ap body_held (later_trace token tokens s ne) ∙ idle_bodies tokens idle.1 s
]

pub all_each : {A : Type 0} (P : A → Type 0) (xs : List A) → All P xs → Each P xs
all_each P [] all = tt
all_each P (x ∷ xs) all = (all 0 x (omega arith), all_each P xs (λ k d lt. all (suc k) d (omega arith)))

is_true : (b : Bool) → (b ≡ false → ⊥) → b ≡ true
is_true true never = refl
is_true false never = absurd (never refl)

module _ {B : Type 0} (lasting : B → List ℕ) (ended_of : B → Bool) (key : Key B) where
  -- the view of the seat that has the parts of all
  abbrev all_parts : List TokenView → View
  all_parts tokens = record { parts = map part_of tokens; known = known_of lasting key }

  left : (id : ℕ) (tokens : List TokenView) (words : List ℕ) (slots : List (Slot B))
      → HasEachSeat (key.shape.cpus + key.shape.agents) (seats_of tokens) → Each IsIdle tokens
      → Final (Seen (Ruled lasting ended_of key) id (all_parts tokens)) words slots
      → IsLeft lasting ended_of key tokens words slots
  left id tokens words slots all idle final =
      let s = final.0 in let r = final.1.0 in let seats : ℕ = key.shape.cpus + key.shape.agents in
      let fits = (r.parts id (all_parts tokens) final.1.1).0 in
      let traces : r.trace ≡ traces_of tokens = fun_ext (λ q. elim (cases_lt q seats) [
        | inl near ↦ sym (found_trace seats r.trace r.owner id tokens q fits (all.each q near))
        | inr far ↦ r.bare q far ∙ sym (no_trace seats r.trace r.owner id tokens q far fits)
      ]) in
      let homes : Homes = homes_of s.homes r.ended in
      let kept : WordsHold key.shape (words_of words) homes (traces_of tokens) =
      subst (λ (z : List ℕ). WordsHold key.shape (words_of z) homes (traces_of tokens)) final.2
      (subst (WordsHold key.shape (words_of s.words) homes) traces r.inv) in
      let room = room_there key.shape.tasks (get_elem? s.homes (SLOTS * rows_of key.shape)) r.room in
      record {
        homes = homes;
        kept = kept;
        exclusives = subst (λ (z : ℕ → List Rec). ExclusivesTold z homes.wait) traces r.exclusives;
        room = (
          room.0,
          final.4 (SLOTS * rows_of key.shape) (Room room.0) room.1,
          record { none = room.2.0; enough = room.2.1 },
        );
        bodies = λ t lt.
            let home : homes.body t ≡ true = is_true (homes.body t) (λ away.
            let out = kept.holds.busy.bodies.away_out t lt away in
            let no : ◌≡◌ {A = Option ℕ} None (Some t) = sym (idle_bodies tokens idle out.0) ∙ out.1 in
            let no' : false ≡ true = ap is_some no in cc) in
            let b = body_there (get_elem? s.homes (slot_at t BODY_SLOT)) home in
            (b.0, final.4 (slot_at t BODY_SLOT) (Body b.0) b.1, (r.bodies t b.0 b.1).lasts, (r.bodies t b.0 b.1).ends);
      }

  pub left_of : (id : ℕ) (tokens : List TokenView) (words : List ℕ) (slots : List (Slot B))
      → HasEachSeat (key.shape.cpus + key.shape.agents) (seats_of tokens) → All IsIdle tokens
      → (seat : Me (Slot B) View) → seat ≡ (all_parts tokens, [])
      → Final (Seen (Ruled lasting ended_of key) id seat.0) words slots → IsLeft lasting ended_of key tokens words slots
  left_of id tokens words slots all idle seat me final =
      left id tokens words slots all (all_each IsIdle tokens idle)
      (subst (λ (z : View). Final (Seen (Ruled lasting ended_of key) id z) words slots)
      (ap (λ (m : Me (Slot B) View). m.0) me) final)
