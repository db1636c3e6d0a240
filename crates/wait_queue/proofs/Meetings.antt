-- A walk, entry by entry.
use Rattle.std.proofs.Common.{◌≡◌, ◌≢◌, ◌∙◌, ℕ, ◌+◌, ◌-◌, ◌*◌, ◌<◌, ◌≤◌, ◌++◌, ◌∷◌, [], List, refl, sym, ap, subst, length, arith}
use Rattle.std.specs.Prelude.{Bool, true, false, ◌&&◌, ◌==◌, Option, Some, IfSome, if◌then◌else◌}
use Rattle.std.proofs.lemmas.Bool.Decides.{nat_tests}
use Rattle.std.proofs.lemmas.List.{append_assoc, length-append, append-nil, map-append, length-map}
use Rattle.core_data.specs.Entries.{has_entry, same_entry, same_truth}
use Rattle.core_data.specs.declared.values.WaitEntry.{WaitEntry}
use Rattle.handoff_data.specs.declared.shape.Shape.{Shape}
use Rattle.run_queue.specs.Rests.{Rests}
use Rattle.task_words.specs.Views.{PassView, IsSameSeat}
use Rattle.wait_queue.proofs.Parts.{any_there}
use Rattle.wait_queue.proofs.Passes.{same_seat_again, rests_none, rests_again, passed_still, passed_more}
use Rattle.wait_queue.proofs.Turning.{head_or, rest_of, turned_cut}
use Rattle.wait_queue.specs.Meets.{Meeting, DidWakeTask, HasMet, HasMetOne, HasPassedAll, is_true, is_true_exclusive, entries_of, staying, count_true, count_exclusive}
use Rattle.wait_queue.specs.Walks.{HasWalked, IsTurned}

none_behind : (before after : List Meeting) → [] ≡ before ++ after → after ≡ []
none_behind [] after e = sym e
none_behind (b ∷ bs) after e = absurd (grind (arith, e))

abbrev rest_after : List Meeting → List Meeting
rest_after [] = []
rest_after (y ∷ ys) = ys

abbrev first_or : Meeting → List Meeting → Meeting
first_or x [] = x
first_or x (y ∷ ys) = y

-- One meeting more

module _ (x : Meeting) where
  pub entries_more : (ms : List Meeting) → entries_of (ms ++ x ∷ []) ≡ entries_of ms ++ x.entry ∷ []
  entries_more ms = map-append (λ y. y.entry) ms (x ∷ [])

  abbrev staying_one : Bool → List WaitEntry
  staying_one true = []
  staying_one false = x.entry ∷ []

  staying_more : (ms : List Meeting) → staying (ms ++ x ∷ []) ≡ staying ms ++ staying_one (is_true x.answer)
  staying_more [] = elim (is_true x.answer) as (λ b. (if b then [] else x.entry ∷ []) ≡ staying_one b) [ true ↦ refl | false ↦ refl ]
  staying_more (y ∷ ys) =
      elim (is_true y.answer)
      as (λ b. (if b then staying (ys ++ x ∷ []) else y.entry ∷ staying (ys ++ x ∷ []))
      ≡ (if b then staying ys else y.entry ∷ staying ys) ++ staying_one (is_true x.answer)) [
        | true ↦ staying_more ys
        | false ↦ ap (λ zs. y.entry ∷ zs) (staying_more ys)
      ]

  true_more : (ms : List Meeting) → count_true (ms ++ x ∷ []) ≡ count_true ms + (if is_true x.answer then 1 else 0)
  true_more [] = elim (is_true x.answer) as (λ b. (if b then 1 else 0) ≡ 0 + (if b then 1 else 0)) [ true ↦ refl | false ↦ refl ]
  true_more (y ∷ ys) = let more = true_more ys in
      elim (is_true y.answer)
      as (λ b. (if b then count_true (ys ++ x ∷ []) + 1 else count_true (ys ++ x ∷ []))
      ≡ (if b then count_true ys + 1 else count_true ys) + (if is_true x.answer then 1 else 0)) [
        | true ↦ omega arith
        | false ↦ more
      ]

  exclusive_more : (ms : List Meeting)
      → count_exclusive (ms ++ x ∷ []) ≡ count_exclusive ms + (if is_true_exclusive x then 1 else 0)
  exclusive_more [] = elim (is_true_exclusive x) as (λ b. (if b then 1 else 0) ≡ 0 + (if b then 1 else 0)) [ true ↦ refl | false ↦ refl ]
  exclusive_more (y ∷ ys) = let more = exclusive_more ys in
      elim (is_true_exclusive y)
      as (λ b. (if b then count_exclusive (ys ++ x ∷ []) + 1 else count_exclusive (ys ++ x ∷ []))
      ≡ (if b then count_exclusive ys + 1 else count_exclusive ys) + (if is_true_exclusive x then 1 else 0)) [
        | true ↦ omega arith
        | false ↦ more
      ]

  met_more : (shape : Shape) (ms : List Meeting) (old mid new : PassView) → HasMet shape ms old mid
      → DidWakeTask x.entry.t shape mid new x.answer → HasMet shape (ms ++ x ∷ []) old new
  met_more shape [] old mid new same did = (new, (subst (λ p. DidWakeTask x.entry.t shape p new x.answer) same did, refl))
  met_more shape (y ∷ ys) old mid new met did = (met.0, (met.1.0, met_more shape ys met.0 mid new met.1.1 did))

  -- what stands before the last meeting has no more true exclusive wakes than all before it
  prefix_count : (ms before after : List Meeting) → after ≢ [] → ms ++ x ∷ [] ≡ before ++ after
      → count_exclusive before ≤ count_exclusive ms
  prefix_count ms [] after some e = omega arith
  prefix_count [] (b ∷ bs) after some e = absurd (some (none_behind bs after (ap rest_after e)))
  prefix_count (m ∷ ms) (b ∷ bs) after some e =
      let less = prefix_count ms bs after some (ap rest_after e) in
      subst (λ (y : Meeting). count_exclusive (y ∷ bs) ≤ count_exclusive (m ∷ ms)) (ap (first_or m) e)
      (elim (is_true_exclusive m)
      as (λ c. (if c then count_exclusive bs + 1 else count_exclusive bs) ≤ (if c then count_exclusive ms + 1 else count_exclusive ms)) [
        | true ↦ omega arith
        | false ↦ less
      ])

pub staying_length : (ms : List Meeting) → length (staying ms) ≤ length ms
staying_length [] = omega arith
staying_length (x ∷ xs) = let less = staying_length xs in
    elim (is_true x.answer) as (λ b. length (if b then staying xs else x.entry ∷ staying xs) ≤ length (x ∷ xs)) [
      | true ↦ omega arith
      | false ↦ omega arith
    ]

pub true_length : (ms : List Meeting) → count_true ms ≤ length ms
true_length [] = omega arith
true_length (x ∷ xs) = let less = true_length xs in
    elim (is_true x.answer) as (λ b. (if b then count_true xs + 1 else count_true xs) ≤ length (x ∷ xs)) [
      | true ↦ omega arith
      | false ↦ omega arith
    ]

pub exclusive_length : (ms : List Meeting) → count_exclusive ms ≤ length ms
exclusive_length [] = omega arith
exclusive_length (x ∷ xs) = let less = exclusive_length xs in
    elim (is_true_exclusive x) as (λ b. (if b then count_exclusive xs + 1 else count_exclusive xs) ≤ length (x ∷ xs)) [
      | true ↦ omega arith
      | false ↦ omega arith
    ]

-- so many entries were met, and none but the last may be the last that was asked for
pub record IsUnderway (shape : Shape) (limit : Option ℕ) (taken entries : List WaitEntry) (old now : PassView) (met woken exclusive : ℕ) : Type 0 where
  pub meetings : List Meeting
  pub rest : List WaitEntry
  pub all : taken ≡ entries_of meetings ++ rest
  pub there : entries ≡ rest ++ staying meetings
  pub many : length meetings ≡ met
  pub chain : HasMet shape meetings old now
  pub same : IsSameSeat old now
  pub rests : Rests old.seat old.trace now.trace
  pub passed : HasPassedAll meetings now.trace
  pub spare : old.turn.spare ≤ now.turn.spare + 2 * met
  pub trues : woken ≡ count_true meetings
  pub exclusives : exclusive ≡ count_exclusive meetings
  pub most : (n : ℕ) → limit ≡ Some n → count_exclusive meetings ≤ n
  pub no_later : (n : ℕ) → limit ≡ Some n → (before after : List Meeting) → after ≢ [] → meetings ≡ before ++ after
      → count_exclusive before < n

pub underway_none : (shape : Shape) (limit : Option ℕ) (taken : List WaitEntry) (old : PassView)
    → IsUnderway shape limit taken taken old old 0 0 0
underway_none shape limit taken old = record {
  meetings = [];
  rest = taken;
  all = refl;
  there = sym (append-nil taken);
  many = refl;
  chain = refl;
  same = record { table = refl; same_shape = refl; same_lasting = refl; same_seat = refl; same_told = refl };
  rests = rests_none old.seat old.trace;
  passed = tt;
  spare = omega arith;
  trues = refl;
  exclusives = refl;
  most = λ n e. omega arith;
  no_later = λ n e before after some cut. absurd (some (none_behind before after cut));
}

-- so many entries are left
pub left_length : (taken rest : List WaitEntry) (ms : List Meeting) → taken ≡ entries_of ms ++ rest
    → length taken ≡ length ms + length rest
left_length taken rest ms all =
    ap length all ∙ length-append (entries_of ms) rest ∙ ap (λ n. n + length rest) (length-map ms (λ y. y.entry))

truth_most : (b : Bool) → (if b then 1 else 0) ≤ 1
truth_most true = omega arith
truth_most false = omega arith

-- the entry at the head goes to the tail, where it stays
tail_after : (b : Bool) (x : Meeting) (left rest staying_now : List WaitEntry) → left ≡ rest ++ staying_now
    → (if b then left else left ++ x.entry ∷ []) ≡ rest ++ (staying_now ++ staying_one x b)
tail_after true x left rest now e = e ∙ ap (λ z. rest ++ z) (sym (append-nil now))
tail_after false x left rest now e = ap (λ z. z ++ x.entry ∷ []) e ∙ append_assoc rest now (x.entry ∷ [])

module _ (shape : Shape) (limit : Option ℕ) (taken entries given : List WaitEntry) (old now next : PassView) (met woken exclusive true_wakes exclusive_wakes : ℕ) where
  pub underway_more : IsUnderway shape limit taken entries old now met woken exclusive
      → ((n : ℕ) → limit ≡ Some n → exclusive < n) → met < length taken
      → HasMetOne shape given entries now next true_wakes exclusive_wakes → IsSameSeat now next
      → Rests now.seat now.trace next.trace → now.turn.spare ≤ next.turn.spare + 2
      → IsUnderway shape limit taken given old next (met + 1) (woken + true_wakes) (exclusive + exclusive_wakes)
  underway_more u below lt h same rests spent = by_rest u.rest u.all (sym u.there ∙ h.head)
    where
      x : Meeting
      x = record { entry = h.entry; answer = h.answer }

      by_rest : (rest : List WaitEntry) → taken ≡ entries_of u.meetings ++ rest → rest ++ staying u.meetings ≡ h.entry ∷ h.left
          → IsUnderway shape limit taken given old next (met + 1) (woken + true_wakes) (exclusive + exclusive_wakes)
      by_rest [] all e =
          let len = left_length taken [] u.meetings all in let many = u.many in absurd (omega arith)
      by_rest (y ∷ ys) all e =
          let heads : y ≡ h.entry = ap (head_or y) e in
          let tails : ys ++ staying u.meetings ≡ h.left = ap rest_of e in
          let seat : now.seat ≡ old.seat = u.same.same_seat in
          let rested = subst (λ s. Rests s now.trace next.trace) seat rests in
          let len = length-append u.meetings (x ∷ []) in
          let many = u.many in
          let spare = u.spare in
          let more = exclusive_more x u.meetings in
          let exclusives = u.exclusives in
          let trues = u.trues in
          let all_true = true_more x u.meetings in
          let one = h.woken in
          let other = h.exclusive in
          let least = truth_most (is_true_exclusive x) in
          record {
            meetings = u.meetings ++ x ∷ [];
            rest = ys;
            all = all ∙ ap (λ z. entries_of u.meetings ++ z ∷ ys) heads
                ∙ sym (append_assoc (entries_of u.meetings) (h.entry ∷ []) ys)
                ∙ ap (λ z. z ++ ys) (sym (entries_more x u.meetings));
            there = h.tail ∙ tail_after (is_true h.answer) x h.left ys (staying u.meetings) (sym tails)
                ∙ ap (λ z. ys ++ z) (sym (staying_more x u.meetings));
            many = omega arith;
            chain = met_more x shape u.meetings old now next u.chain h.did;
            same = same_seat_again old now next u.same same;
            rests = rests_again old.seat old.trace now.trace next.trace u.rests rested;
            passed = passed_more u.meetings x next.trace
                (passed_still u.meetings now.trace next.trace u.passed rested.apart) (h.passed, tt);
            spare = omega arith;
            trues = omega arith;
            exclusives = omega arith;
            most = λ n e. let less = below n e in omega arith;
            no_later = λ n e before after some cut.
                let less = below n e in
                let front = prefix_count x u.meetings before after some cut in
                omega arith;
          }

-- The end of a walk

pub walked_all : (shape : Shape) (limit : Option ℕ) (taken entries : List WaitEntry) (old now : PassView) (met woken exclusive : ℕ)
    → IsUnderway shape limit taken entries old now met woken exclusive → met ≡ length taken
    → HasWalked shape limit entries taken old now woken
walked_all shape limit taken entries old now met woken exclusive u done = by_rest u.rest u.all u.there
  where
    by_rest : (rest : List WaitEntry) → taken ≡ entries_of u.meetings ++ rest → entries ≡ rest ++ staying u.meetings
        → HasWalked shape limit entries taken old now woken
    by_rest [] all there = record {
      meetings = u.meetings;
      rest = [];
      all = all;
      stays = there ∙ sym (append-nil (staying u.meetings));
      met = u.chain;
      passed = u.passed;
      end = record { reached = λ some. absurd (some refl); no_later = u.no_later };
      answer = u.trues;
    }
    by_rest (y ∷ ys) all there =
        let len = left_length taken (y ∷ ys) u.meetings all in let many = u.many in absurd (omega arith)

pub walked_reached : (shape : Shape) (limit : Option ℕ) (taken entries given : List WaitEntry) (old now : PassView) (met woken exclusive : ℕ)
    → IsUnderway shape limit taken entries old now met woken exclusive → limit ≡ Some exclusive
    → IsTurned (length taken - met) entries given → HasWalked shape limit given taken old now woken
walked_reached shape limit taken entries given old now met woken exclusive u reached turned =
    let len = left_length taken u.rest u.meetings u.all in
    let many = u.many in
    let left : length taken - met ≡ length u.rest = omega arith in
    record {
      meetings = u.meetings;
      rest = u.rest;
      all = u.all;
      stays = turned_cut u.rest (staying u.meetings) given
          (subst (λ (z : ℕ × List WaitEntry). IsTurned z.0 z.1 given) (λ k. (left k, u.there k)) turned);
      met = u.chain;
      passed = u.passed;
      end = record { reached = λ some. reached ∙ ap (λ (n : ℕ). Some n) u.exclusives; no_later = u.no_later };
      answer = u.trues;
    }

-- What a walk needs of its next entry

same_self : (x : WaitEntry) → same_entry x x ≡ true
same_self x = elim (x.exclusive) as (λ b. ((x.t == x.t) && same_truth b b) ≡ true) [ true ↦ grind (arith, nat_tests) | false ↦ grind (arith, nat_tests) ]

pub record IsLeftOver (taken entries : List WaitEntry) : Type 0 where
  pub head : WaitEntry
  pub others : List WaitEntry
  pub there : entries ≡ head ∷ others
  pub among : has_entry taken head ≡ true

pub underway_head : (shape : Shape) (limit : Option ℕ) (taken entries : List WaitEntry) (old now : PassView) (met woken exclusive : ℕ)
    → IsUnderway shape limit taken entries old now met woken exclusive → met < length taken → IsLeftOver taken entries
underway_head shape limit taken entries old now met woken exclusive u lt = by_rest u.rest u.all u.there
  where
    by_rest : (rest : List WaitEntry) → taken ≡ entries_of u.meetings ++ rest → entries ≡ rest ++ staying u.meetings
        → IsLeftOver taken entries
    by_rest [] all there =
        let len = left_length taken [] u.meetings all in let many = u.many in absurd (omega arith)
    by_rest (y ∷ ys) all there = record {
      head = y;
      others = ys ++ staying u.meetings;
      there = there;
      among = ap (λ zs. has_entry zs y) all ∙ any_there (λ z. same_entry z y) (entries_of u.meetings) ys y (same_self y);
    }

pub underway_length : (shape : Shape) (limit : Option ℕ) (taken entries : List WaitEntry) (old now : PassView) (met woken exclusive : ℕ)
    → IsUnderway shape limit taken entries old now met woken exclusive
    → (length entries ≤ length taken) × (length taken - met ≤ length entries)
underway_length shape limit taken entries old now met woken exclusive u =
    let len = left_length taken u.rest u.meetings u.all in
    let both = ap length u.there ∙ length-append u.rest (staying u.meetings) in
    let less = staying_length u.meetings in
    let many = u.many in
    (omega arith, omega arith)

pub underway_counts : (shape : Shape) (limit : Option ℕ) (taken entries : List WaitEntry) (old now : PassView) (met woken exclusive : ℕ)
    → IsUnderway shape limit taken entries old now met woken exclusive → (woken ≤ met) × (exclusive ≤ met)
underway_counts shape limit taken entries old now met woken exclusive u =
    let trues = true_length u.meetings in
    let exclusives = exclusive_length u.meetings in
    let many = u.many in
    let one = u.trues in
    let other = u.exclusives in
    (omega arith, omega arith)

pub one_counts : (shape : Shape) (given taken : List WaitEntry) (old new : PassView) (woken exclusive : ℕ)
    → HasMetOne shape given taken old new woken exclusive → (woken ≤ 1) × (exclusive ≤ 1)
one_counts shape given taken old new woken exclusive h =
    let trues = truth_most (is_true h.answer) in
    let exclusives = truth_most (is_true h.answer && h.entry.exclusive) in
    let one = h.woken in
    let other = h.exclusive in
    (omega arith, omega arith)

-- the number asked for isn't reached yet
pub still_below : (limit : Option ℕ) (exclusive : ℕ) → ((n : ℕ) → limit ≡ Some n → exclusive ≤ n) → limit ≢ Some exclusive
    → (n : ℕ) → limit ≡ Some n → exclusive < n
still_below limit exclusive most other n e =
    let least = most n e in
    let apart : exclusive ≢ n = λ same. other (e ∙ ap (λ (m : ℕ). Some m) (sym same)) in
    grind (arith, nat_tests, least, apart)

pub least_asked : (limit : Option ℕ) → IfSome limit (λ n. 0 < n) → (n : ℕ) → limit ≡ Some n → 0 < n
least_asked limit some n e = subst (λ (o : Option ℕ). IfSome o (λ n. 0 < n)) e some

-- as many true exclusive wakes as all but the last leave room for
last_of : (x : Meeting) (xs : List Meeting) → (front : List Meeting) × ((last : Meeting) × (x ∷ xs ≡ front ++ last ∷ []))
last_of x [] = ([], (x, refl))
last_of x (y ∷ ys) = let h = last_of y ys in (x ∷ h.0, (h.1.0, ap (λ zs. x ∷ zs) h.1.1))

pub last_count : (n : ℕ) → 0 < n → (ms : List Meeting)
    → ((before after : List Meeting) → after ≢ [] → ms ≡ before ++ after → count_exclusive before < n)
    → count_exclusive ms ≤ n
last_count n some [] earlier = omega arith
last_count n some (x ∷ xs) earlier =
    let h = last_of x xs in
    let less = earlier h.0 (h.1.0 ∷ []) (λ none. grind (arith, none)) h.1.1 in
    let more : count_exclusive (x ∷ xs) ≡ count_exclusive h.0 + (if is_true_exclusive h.1.0 then 1 else 0) =
    ap count_exclusive h.1.1 ∙ exclusive_more h.1.0 h.0 in
    let least = truth_most (is_true_exclusive h.1.0) in
    omega arith
