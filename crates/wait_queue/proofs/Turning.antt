-- Entries that go from the head to the tail.
use Rattle.std.proofs.Common.{◌≡◌, ◌∙◌, ℕ, ◌+◌, ◌<◌, ◌++◌, ◌∷◌, [], List, refl, sym, ap, length, arith}
use Rattle.std.proofs.lemmas.List.{append_assoc, length-append, append-nil}
use Rattle.core_data.specs.declared.values.WaitEntry.{WaitEntry}
use Rattle.wait_queue.specs.Walks.{IsTurned}

-- the head of a list, and the rest of it
abbrev pub head_or : WaitEntry → List WaitEntry → WaitEntry
head_or x [] = x
head_or x (y ∷ ys) = y

abbrev pub rest_of : List WaitEntry → List WaitEntry
rest_of [] = []
rest_of (y ∷ ys) = ys

pub turned_none : (xs : List WaitEntry) → IsTurned 0 xs xs
turned_none xs = record { front = []; back = xs; many = refl; before = refl; after = sym (append-nil xs) }

-- one more goes to the tail
pub turned_more : (i : ℕ) (old now rest : List WaitEntry) (x : WaitEntry) → IsTurned i old now → i < length old
    → now ≡ x ∷ rest → IsTurned (i + 1) old (rest ++ x ∷ [])
turned_more i old now rest x h lt e = by_back h.back h.before (sym e ∙ h.after)
  where
    by_back : (back : List WaitEntry) → old ≡ h.front ++ back → x ∷ rest ≡ back ++ h.front
        → IsTurned (i + 1) old (rest ++ x ∷ [])
    by_back [] before after =
        let len : length old ≡ length h.front = ap length before ∙ ap length (append-nil h.front) in
        let many = h.many in
        absurd (omega arith)
    by_back (y ∷ ys) before after =
        let heads : x ≡ y = ap (head_or x) after in
        let tails : rest ≡ ys ++ h.front = ap rest_of after in
        let len = length-append h.front (y ∷ []) in
        let many = h.many in
        record {
          front = h.front ++ y ∷ [];
          back = ys;
          many = omega arith;
          before = before ∙ sym (append_assoc h.front (y ∷ []) ys);
          after = ap (λ (z : WaitEntry × List WaitEntry). z.1 ++ z.0 ∷ []) (λ k. (heads k, tails k))
              ∙ append_assoc ys h.front (y ∷ []);
        }

-- two ways to cut a list after as many
pub same_cut : (a b c d : List WaitEntry) → length a ≡ length c → a ++ b ≡ c ++ d → (a ≡ c) × (b ≡ d)
same_cut [] b [] d len e = (refl, e)
same_cut [] b (y ∷ ys) d len e = absurd (omega arith)
same_cut (x ∷ xs) b [] d len e = absurd (omega arith)
same_cut (x ∷ xs) b (y ∷ ys) d len e =
    let rest = same_cut xs b ys d (omega arith) (ap rest_of e) in
    let heads : x ≡ y = ap (head_or x) e in
    (ap (λ (z : WaitEntry × List WaitEntry). z.0 ∷ z.1) (λ k. (heads k, rest.0 k)), rest.1)

-- the entries before a cut, once turned, follow those behind it
pub turned_cut : (front back new : List WaitEntry) → IsTurned (length front) (front ++ back) new → new ≡ back ++ front
turned_cut front back new h =
    let cut = same_cut h.front h.back front back h.many (sym h.before) in
    h.after ∙ ap (λ (z : List WaitEntry × List WaitEntry). z.1 ++ z.0) (λ k. (cut.0 k, cut.1 k))

-- entries that go round are as many as before
pub turned_length : (i : ℕ) (old now : List WaitEntry) → IsTurned i old now → length now ≡ length old
turned_length i old now h =
    let before = ap length h.before ∙ length-append h.front h.back in
    let after = ap length h.after ∙ length-append h.back h.front in
    omega arith
