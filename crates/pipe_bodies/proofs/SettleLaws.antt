-- What is known while bodies are taken apart, one after another.
use Rattle.std.proofs.Common.{◌≡◌, ℕ, zero, ◌+◌, ◌<◌, ◌≤◌, List, [], ◌∷◌, ◌++◌, map, length, refl, sym, ap, ◌∙◌, arith, append-nil, append_assoc, subst, length-append, Global, All}
use Rattle.std.specs.Prelude.{Option, Some, None, IsSome, Bool, true, false, ◌||◌, nat_eq, slice_index_or, if◌then◌else◌}
use Rattle.std.specs.List.{enumerate_from}
use Rattle.std.proofs.lemmas.Bool.Decides.{nat_tests}
use Rattle.std.proofs.Common.{get_or, drop}
use Rattle.std.proofs.Common.{zero-add}
use Rattle.std.proofs.lemmas.List.{drop_more, drop_all, length-map, get_or-map, get_or_append_left, ext_get_or}
use Rattle.std.proofs.lemmas.List.Folds.{list_any-append}
use Rattle.std.proofs.lemmas.List.FromFn.{length-enumerate_from, get_or-enumerate_from}
use Rattle.std.proofs.lemmas.List.Elements.{All-tail}
use Rattle.rtrb.specs.declared.AnyItems.{AnyItems}
use Rattle.rtrb.specs.declared.producer.Producer.{Producer}
use Rattle.pipe_tasks.specs.Words.{Line}
use Rattle.task_script.specs.Forest.{reads}
use Rattle.pipe_tasks.specs.Tasks.{task_lines, lines_after, all_lines, is_among, forest_lines}
use Rattle.pipe_bodies.specs.Rings.{Ring, out_ring}
use Rattle.pipe_bodies.specs.Parts.{KeepsNone}
use Rattle.pipe_bodies.specs.Bodies.{BodyView, Lasting}
use Rattle.pipe_bodies.specs.Nets.{others, IsSide, IsJoint, IsNetAfter, IsNet, with_plan, begun_tasks, lasting_of, kept_of, output_in, output_of, HasEnded, AllPutOut, sent_by}
use Rattle.pipe_bodies.proofs.BuildLaws.{most_sides}
use Rattle.pipe_bodies.specs.declared.item.Item.{Item}
use Rattle.task_script.specs.declared.script.TaskDef.{TaskDef}

abbrev pub Outputs : Type 0
Outputs = List (Option (Producer Item Global AnyItems))

pub record Settling (tasks ds : List TaskDef) (all rest : List BodyView) (outs : Outputs) (kept : List (List Line)) : Type 0 where
  pub done : List (List Line)
  pub net : IsNetAfter (map out_ring outs) ds (map lasting_of rest)
  pub ended : All HasEnded rest
  pub put_out : AllPutOut (map out_ring outs) (map sent_by outs) kept done
  pub lines : lines_after done ds ≡ all_lines tasks
  pub kept_all : kept ++ map kept_of rest ≡ map kept_of all
  pub rings_all : map out_ring outs ++ map output_of rest ≡ map output_of all

pub starts : (tasks : List TaskDef) (all : List BodyView) → IsNet tasks (map lasting_of all) → All HasEnded all → Settling tasks tasks all all [] []
starts tasks all net ended = record {
  done = [];
  net = net.joined;
  ended = ended;
  put_out = record { rings_length = refl; pasts_length = refl; kept_length = refl; each = λ t l. absurd (omega arith) };
  lines = refl;
  kept_all = refl;
  rings_all = refl;
}

module _ (tasks : List TaskDef) (all : List BodyView) (outs : Outputs) (kept : List (List Line)) where
  pub never_none : (d : TaskDef) (ds : List TaskDef) (rest : List BodyView) → rest ≡ [] → Settling tasks (d ∷ ds) all rest outs kept → ⊥
  never_none d ds rest e s = let n : IsNetAfter (map out_ring outs) (d ∷ ds) [] = subst (λ z. IsNetAfter (map out_ring outs) (d ∷ ds) (map lasting_of z)) e s.net in n

  module _ (d : TaskDef) (ds : List TaskDef) (b : BodyView) (rest : List BodyView) (s : Settling tasks (d ∷ ds) all (b ∷ rest) outs kept) where
    pub next-joint : IsJoint d b.lasting (map out_ring outs)
    next-joint = s.net.0

    pub next-ended : HasEnded b
    next-ended = s.ended zero b (omega arith)

    pub steps : (outs' : Outputs) (kept' : List (List Line)) → map out_ring outs' ≡ map out_ring outs ++ output_of b ∷ [] → kept' ≡ kept ++ kept_of b ∷ []
        → ((done : List (List Line)) → AllPutOut (map out_ring outs) (map sent_by outs) kept done → AllPutOut (map out_ring outs') (map sent_by outs') kept' (done ++ task_lines d done ∷ []))
        → Settling tasks ds all rest outs' kept'
    steps outs' kept' ro ke more = record {
      done = s.done ++ task_lines d s.done ∷ [];
      net = rw ro s.net.1;
      ended = All-tail HasEnded b rest s.ended;
      put_out = more s.done s.put_out;
      lines = s.lines;
      kept_all = rw ke (append_assoc kept (kept_of b ∷ []) (map kept_of rest) ∙ s.kept_all);
      rings_all = rw ro (append_assoc (map out_ring outs) (output_of b ∷ []) (map output_of rest) ∙ s.rings_all);
    }

length-lines_after : (done : List (List Line)) (ds : List TaskDef) → length (lines_after done ds) ≡ length done + length ds
length-lines_after done [] = omega arith
length-lines_after done (d ∷ ds) = let e = length-lines_after (done ++ task_lines d done ∷ []) ds in let f = length-append done (task_lines d done ∷ []) in omega arith

-- ---- which rings there are

none_kept : (ring : Option Ring) (kept : List Line) → IsSome ring → KeepsNone ring kept → kept ≡ []
none_kept None kept s k = cc
none_kept (Some r) kept s k = k

-- a side's task writes a ring
side_ring : (outs more : List (Option Ring)) (x : ℕ) (ring : Option Ring) → x < length outs → IsSome ring → ring ≡ slice_index_or outs x None → IsSome (slice_index_or (outs ++ more) x None)
side_ring outs more x ring within some e = subst (λ z. IsSome z) (e ∙ sym (get_or_append_left outs more None x within)) some

module _ (outs more : List (Option Ring)) (t : ℕ) where
  from_ring : (from : List ℕ) (left right : Option Ring) → length from ≤ 2 → IsSide from left outs → IsSide (others from) right outs → is_among from t ≡ true
      → IsSome (slice_index_or (outs ++ more) t None)
  from_ring [] left right few l r among = cc
  from_ring (x ∷ []) left right few l r among = first_ring x left l (nat_eq x t) refl among where
    first_ring : (x : ℕ) (left : Option Ring) → IsSide (x ∷ []) left outs → (b : Bool) → nat_eq x t ≡ b → (b || false) ≡ true → IsSome (slice_index_or (outs ++ more) t None)
    first_ring x left l true e among = let same : x ≡ t = grind (arith, nat_tests) in subst (λ z. IsSome (slice_index_or (outs ++ more) z None)) same (side_ring outs more x left l.0 l.1 l.2)
    first_ring x left l false e among = cc
  from_ring (x ∷ y ∷ []) left right few l r among = either_ring (nat_eq x t) (nat_eq y t) refl refl among where
    either_ring : (b c : Bool) → nat_eq x t ≡ b → nat_eq y t ≡ c → (b || (c || false)) ≡ true → IsSome (slice_index_or (outs ++ more) t None)
    either_ring true c e f among = let same : x ≡ t = grind (arith, nat_tests) in subst (λ z. IsSome (slice_index_or (outs ++ more) z None)) same (side_ring outs more x left l.0 l.1 l.2)
    either_ring false true e f among = let same : y ≡ t = grind (arith, nat_tests) in subst (λ z. IsSome (slice_index_or (outs ++ more) z None)) same (side_ring outs more y right r.0 r.1 r.2)
    either_ring false false e f among = cc
  from_ring (x ∷ y ∷ z ∷ from) left right few l r among = absurd (omega arith)

read_ring : (outs : List (Option Ring)) (ds : List TaskDef) (ls : List Lasting) → IsNetAfter outs ds ls → (t : ℕ) → is_among (reads ds) t ≡ true
    → IsSome (slice_index_or (outs ++ map output_in ls) t None)
read_ring outs [] [] n t among = cc
read_ring outs [] (l ∷ ls) n t among = absurd n
read_ring outs (d ∷ ds) [] n t among = absurd n
read_ring outs (d ∷ ds) (l ∷ ls) n t among = by_reader (is_among d.from t) refl (sym (list_any-append (λ s. nat_eq s t) d.from (reads ds)) ∙ among)
    (λ later. read_ring (outs ++ output_in l ∷ []) ds ls n.1 t later) where
      by_reader : (b : Bool) → is_among d.from t ≡ b → (b || is_among (reads ds) t) ≡ true
          → (is_among (reads ds) t ≡ true → IsSome (slice_index_or ((outs ++ output_in l ∷ []) ++ map output_in ls) t None))
          → IsSome (slice_index_or (outs ++ (output_in l ∷ map output_in ls)) t None)
      by_reader true here among later = let most = most_sides d.plan in let inputs = n.0.inputs in
          from_ring outs (output_in l ∷ map output_in ls) t d.from l.rings.left l.rings.right (omega arith) n.0.left n.0.right here
      by_reader false here among later = subst (λ z. IsSome (slice_index_or z t None)) (append_assoc outs (output_in l ∷ []) (map output_in ls)) (later among)

-- ---- at the end

no_rest : (outs : Outputs) (rest : List BodyView) → IsNetAfter (map out_ring outs) [] (map lasting_of rest) → rest ≡ []
no_rest outs [] n = refl
no_rest outs (b ∷ rest) n = absurd n

module _ (tasks : List TaskDef) (all rest : List BodyView) (outs : Outputs) (kept : List (List Line)) (s : Settling tasks [] all rest outs kept) where
  pub settled-kept : kept ≡ map kept_of all
  settled-kept = sym (append-nil kept) ∙ ap (λ z. kept ++ map kept_of z) (sym (no_rest outs rest s.net)) ∙ s.kept_all

  rings : map out_ring outs ≡ map output_of all
  rings = sym (append-nil (map out_ring outs)) ∙ ap (λ z. map out_ring outs ++ map output_of z) (sym (no_rest outs rest s.net)) ∙ s.rings_all

  every_ring : (bs : List BodyView) → map output_in (map lasting_of bs) ≡ map output_of bs
  every_ring [] = refl
  every_ring (b ∷ bs) = ap (λ z. output_of b ∷ z) (every_ring bs)

  abbrev unless_read : ℕ × List Line → List Line
  unless_read e = if is_among (reads tasks) e.0 then [] else e.1

  module _ (net : IsNet tasks (map lasting_of all)) where
    -- a task that another reads keeps nothing, and any other all of its lines
    kept_by : (t : ℕ) (read : Bool) → is_among (reads tasks) t ≡ read → t < length s.done → slice_index_or kept t [] ≡ (if read then [] else slice_index_or s.done t [])
    kept_by t true among within =
        let ring : IsSome (slice_index_or (map output_in (map lasting_of all)) t None) = read_ring [] tasks (map lasting_of all) net.joined t among in
        none_kept (slice_index_or (map out_ring outs) t None) (slice_index_or kept t []) (subst (λ z. IsSome (slice_index_or z t None)) (every_ring all ∙ sym rings) ring)
        (s.put_out.each t within).none
    kept_by t false among within =
        (s.put_out.each t within).in_kept (ap (λ z. slice_index_or z t None) (rings ∙ sym (every_ring all)) ∙ net.unread t among)

    pub settled-forest : kept ≡ forest_lines tasks
    settled-forest =
        let same : length s.done ≡ length (all_lines tasks) = ap length s.lines in
        let count = s.put_out.kept_length in
        let numbered = length-enumerate_from 0 (all_lines tasks) in
        let mapped = length-map (enumerate_from 0 (all_lines tasks)) unless_read in
        ext_get_or [] kept (map unless_read (enumerate_from 0 (all_lines tasks))) (omega arith) (λ t within.
        let inside : t < length s.done = omega arith in
        let there : t < length (enumerate_from 0 (all_lines tasks)) = omega arith in
        let line : t < length (all_lines tasks) = omega arith in
        kept_by t (is_among (reads tasks) t) refl inside ∙ ap (λ z. if is_among (reads tasks) t then [] else slice_index_or z t []) s.lines
        ∙ sym (get_or-map unless_read (enumerate_from 0 (all_lines tasks)) t (0, []) [] there ∙ ap unless_read (get_or-enumerate_from 0 (all_lines tasks) t (0, []) line)
        ∙ ap (λ k. if is_among (reads tasks) k then [] else slice_index_or (all_lines tasks) t []) (zero-add t)))

-- ---- at a place of the script

module _ (whole tasks : List TaskDef) (all : List BodyView) (outs : Outputs) (kept : List (List Line)) (i : ℕ) where
  here : (d : TaskDef) → i < length tasks → d ≡ get_or tasks i d → drop i tasks ≡ d ∷ drop (i + 1) tasks
  here d l e = drop_more tasks i d l ∙ ap (λ z. z ∷ drop (i + 1) tasks) (sym e)

  pub at_body : (d : TaskDef) (b : BodyView) (rest rest' : List BodyView) → i < length tasks → d ≡ get_or tasks i d → rest' ≡ b ∷ rest
      → Settling whole (begun_tasks (drop i tasks) (map lasting_of rest')) all rest' outs kept
      → Settling whole (with_plan d b.lasting.begun ∷ begun_tasks (drop (i + 1) tasks) (map lasting_of rest)) all (b ∷ rest) outs kept
  at_body d b rest rest' l e f s = subst (λ z. Settling whole (begun_tasks z (map lasting_of (b ∷ rest))) all (b ∷ rest) outs kept) (here d l e)
      (subst (λ z. Settling whole (begun_tasks (drop i tasks) (map lasting_of z)) all z outs kept) f s)

  pub at_none : (d : TaskDef) (rest : List BodyView) → i < length tasks → d ≡ get_or tasks i d → length rest ≡ 0
      → Settling whole (begun_tasks (drop i tasks) (map lasting_of rest)) all rest outs kept → ⊥
  at_none d [] l e f s = never_none whole all outs kept d (drop (i + 1) tasks) [] refl (subst (λ z. Settling whole (begun_tasks z []) all [] outs kept) (here d l e) s)
  at_none d (b ∷ rest) l e f s = omega arith

  pub at_end : (rest : List BodyView) → length tasks ≤ i → Settling whole (begun_tasks (drop i tasks) (map lasting_of rest)) all rest outs kept → Settling whole [] all rest outs kept
  at_end rest l s = subst (λ z. Settling whole (begun_tasks z (map lasting_of rest)) all rest outs kept) (drop_all i tasks l) s
