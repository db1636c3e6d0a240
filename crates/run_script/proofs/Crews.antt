-- Workers to whom seats are dealt, and from whom they are taken back.
use Rattle.std.proofs.Common.{◌≡◌, ◌<◌, ◌≤◌, ◌∙◌, ◌%◌, ◌+◌, ℕ, ◌++◌, ◌∷◌, [], List, map, length, get_or, set, sym, subst, ap, All, arith}
use Rattle.std.proofs.lemmas.List.{length-map, length-append, length_push, map-set, get_or-map, same_from_push}
use Rattle.std.proofs.lemmas.List.Elements.{All-get_or}
use Rattle.run_rounds.specs.declared.seat.Seat.{Seat}
use Rattle.run_rounds.specs.declared.seat.Worker.{Worker}
use Rattle.run_script.proofs.Rows.{IsPartOf, IsNext, one_dealt, few_dealt, next_back}
use Rattle.run_script.specs.Dealt.{with_last}
use Rattle.run_script.specs.Seated.{seats_of}

module _ {G : Type 0} where
  -- the row of a worker
  row_is : (ws : List (Worker G)) (i : ℕ) (w : Worker G) → i < length ws → w ≡ get_or ws i w → get_or (map seats_of ws) i [] ≡ seats_of w
  row_is ws i w within at = get_or-map seats_of ws i w [] within ∙ ap seats_of (sym at)

  -- a worker is given the seat x
  pub handed : (ws : List (Worker G)) (i : ℕ) (w v : Worker G) (x : Seat G) → i < length ws → w ≡ get_or ws i w → seats_of v ≡ seats_of w ++ x ∷ []
      → map seats_of (set ws i v) ≡ with_last (map seats_of ws) i x
  handed ws i w v x within at more =
      map-set seats_of ws i v ∙ ap (set (map seats_of ws) i) (more ∙ ap (λ (r : List (Seat G)). r ++ x ∷ []) (sym (row_is ws i w within at)))

  pub part_handed : (count : ℕ) (all first before : List (Seat G)) (ws : List (Worker G)) (n i : ℕ) (w v : Worker G) (x : Seat G)
      → IsPartOf count all before (map seats_of ws) → before ≡ first ++ x ∷ [] → n ≡ length first → i ≡ n % count
      → i < length ws → w ≡ get_or ws i w → seats_of v ≡ seats_of w ++ x ∷ [] → IsPartOf count all first (map seats_of (set ws i v))
  part_handed count all first before ws n i w v x part is many place within at more =
      subst (IsPartOf count all first) (sym (handed ws i w v x within at more ∙ ap (λ (j : ℕ). with_last (map seats_of ws) j x) (place ∙ ap (λ (m : ℕ). m % count) many)))
      (one_dealt count all first x (map seats_of ws) (subst (λ (xs : List (Seat G)). IsPartOf count all xs (map seats_of ws)) is part))

  -- no worker has as many seats as there are, as long as one isn't dealt
  pub has_few : (count : ℕ) → 0 < count → (all first before : List (Seat G)) (ws : List (Worker G)) (i : ℕ) (w : Worker G) (x : Seat G)
      → IsPartOf count all before (map seats_of ws) → before ≡ first ++ x ∷ [] → i < length ws → w ≡ get_or ws i w
      → length (seats_of w) < length all
  has_few count some all first before ws i w x part is within at =
      let few : length (seats_of w) ≤ length part.rest =
      subst (λ (r : List (Seat G)). length r ≤ length part.rest) (row_is ws i w within at)
      (All-get_or (λ (r : List (Seat G)). length r ≤ length part.rest) (map seats_of ws) i []
      (subst (λ (n : ℕ). i < n) (sym (length-map ws seats_of)) within)
      (subst (All (λ (r : List (Seat G)). length r ≤ length part.rest)) (sym part.rows_are) (few_dealt count some (length before) part.rest))) in
      let a : length before ≡ length first + 1 = ap length is ∙ length_push first x in
      let b : length before + length part.rest ≡ length all = sym (length-append before part.rest) ∙ ap length part.whole in
      omega (arith, few, a, b)

  -- the last seat of a worker is the next one
  taken : (ws : List (Worker G)) (i : ℕ) (w v : Worker G) (front : List (Seat G)) (next x : Seat G) → i < length ws → w ≡ get_or ws i w
      → get_or (map seats_of ws) i [] ≡ front ++ next ∷ [] → seats_of w ≡ seats_of v ++ x ∷ [] → (seats_of v ≡ front) × (x ≡ next)
  taken ws i w v front next x within at row less =
      same_from_push (seats_of v) front x next (sym less ∙ sym (row_is ws i w within at) ∙ row)

  pub part_taken : (count : ℕ) → 0 < count → (all first : List (Seat G)) (ws : List (Worker G)) (n i : ℕ) (w v : Worker G) (x : Seat G)
      → IsPartOf count all first (map seats_of ws) → length first < length all → n ≡ length first → i ≡ n % count → i < length ws → w ≡ get_or ws i w
      → seats_of w ≡ seats_of v ++ x ∷ [] → IsPartOf count all (first ++ x ∷ []) (map seats_of (set ws i v))
  part_taken count some all first ws n i w v x part more many place within at less =
      let next : IsNext count all first (map seats_of ws) = next_back count some all first (map seats_of ws) more part in
      let same : i ≡ length first % count = place ∙ ap (λ (m : ℕ). m % count) many in
      let is = taken ws i w v next.front next.next x within at (ap (λ (j : ℕ). get_or (map seats_of ws) j []) same ∙ next.row_is) less in
      subst (IsPartOf count all (first ++ x ∷ []))
      (sym (map-set seats_of ws i v ∙ ap (λ (r : List (Seat G)). set (map seats_of ws) i r) is.0 ∙ ap (λ (j : ℕ). set (map seats_of ws) j next.front) same))
      (subst (λ (y : Seat G). IsPartOf count all (first ++ y ∷ []) (set (map seats_of ws) (length first % count) next.front)) (sym is.1) next.then)

  -- there is one
  pub not_none : (count : ℕ) → 0 < count → (all first : List (Seat G)) (ws : List (Worker G)) (n i : ℕ) (w : Worker G)
      → IsPartOf count all first (map seats_of ws) → length first < length all → n ≡ length first → i ≡ n % count → i < length ws → w ≡ get_or ws i w
      → seats_of w ≡ [] → ⊥
  not_none count some all first ws n i w part more many place within at none =
      let next : IsNext count all first (map seats_of ws) = next_back count some all first (map seats_of ws) more part in
      let same : i ≡ length first % count = place ∙ ap (λ (m : ℕ). m % count) many in
      let is : [] ≡ next.front ++ next.next ∷ [] =
      sym none ∙ sym (row_is ws i w within at) ∙ ap (λ (j : ℕ). get_or (map seats_of ws) j []) same ∙ next.row_is in
      let many : 0 ≡ length next.front + 1 = ap length is ∙ length_push next.front next.next in omega (arith, many)
