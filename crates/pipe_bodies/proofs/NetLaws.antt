-- A body that has ended has put out the lines of its task.
use Rattle.std.proofs.Common.{◌≡◌, ℕ, ◌+◌, ◌<◌, List, [], ◌∷◌, ◌++◌, map, length, refl, sym, ap, ◌∙◌, append-nil, true, subst, below_more, length-append}
use Rattle.std.specs.Prelude.{Option, Some, None, IsSome, slice_index_or}
use Rattle.std.proofs.lemmas.List.{get_or_append_left, get_or_push}
use Rattle.pipe_tasks.specs.Words.{Line}
use Rattle.pipe_tasks.specs.Plans.{lines_of}
use Rattle.pipe_tasks.specs.Tasks.{first_input, second_input, task_lines}
use Rattle.pipe_bodies.specs.Items.{texts, items, as_texts, outputs}
use Rattle.pipe_bodies.specs.Rings.{Ring, out_ring, out_of, end_if}
use Rattle.pipe_bodies.specs.Turns.{Seen, Ordered, Sound}
use Rattle.pipe_bodies.specs.Bodies.{Lasting}
use Rattle.pipe_bodies.specs.Nets.{others, IsSide, IsJoint, PutOut, AllPutOut, input_past, sent_by}
use Rattle.pipe_bodies.specs.Parts.{KeepsNone}
use Rattle.std.proofs.lemmas.List.{map-append}
use Rattle.std.proofs.Common.{Global}
use Rattle.rtrb.specs.declared.AnyItems.{AnyItems}
use Rattle.rtrb.specs.declared.consumer.Consumer.{Consumer}
use Rattle.pipe_bodies.specs.declared.parts.Parts.{Parts}
use Rattle.pipe_bodies.specs.Parts.{seen}
use Rattle.pipe_bodies.specs.Rings.{got, known}
use Rattle.rtrb.specs.declared.producer.Producer.{Producer}
use Rattle.task_script.specs.declared.plan.Plan.{Plan}
use Rattle.pipe_bodies.specs.declared.item.Item.{Item}
use Rattle.pipe_bodies.specs.declared.item.Item.TheVariants.{End}
use Rattle.task_script.specs.declared.script.TaskDef.{TaskDef}
use Rattle.pipe_bodies.proofs.ItemLaws.{texts-items}

second-others : (from : List ℕ) (done : List (List Line)) → first_input (others from) done ≡ second_input from done
second-others [] done = refl
second-others (x ∷ from) done = refl

-- ---- one body

over-plan : (p : Option Plan) (h : List Item) → Ordered true p h → (p ≡ None) × (h ≡ [])
over-plan None h o = (refl, o)
over-plan (Some p) h o = absurd o

-- all of its output, for all that was sent to it
pub ended-out : (begun : Plan) (a : Seen) (s t : List Item) → Sound begun a → a.ended ≡ true → a.out ≡ outputs (Some begun) (a.got_left ++ s) (a.got_right ++ t)
ended-out begun a s t k e =
    let o : (a.plan ≡ None) × (a.held ≡ []) = over-plan a.plan a.held (subst (λ z. Ordered z a.plan a.held) e k.ordered) in
    sym (k.faithful s t ∙ ap (λ z. (a.out ++ z) ++ outputs a.plan s t) o.1 ∙ ap (λ z. (a.out ++ []) ++ outputs z s t) o.0 ∙ append-nil (a.out ++ []) ∙ append-nil a.out)

module _ (rings : List (Option Ring)) (pasts : List (List Item)) (kept done : List (List Line)) (all : AllPutOut rings pasts kept done) where
  pub input-texts : (from : List ℕ) (ring : Option Ring) → IsSide from ring rings → texts (input_past from pasts) ≡ first_input from done
  input-texts [] ring side = refl
  input-texts (x ∷ from) ring side =
      let within : x < length done = subst (λ z. x < z) all.rings_length side.0 in
      let some : IsSome (slice_index_or rings x None) = subst (λ z. IsSome z) side.2 side.1 in
      ap texts ((all.each x within).on_ring some) ∙ texts-items (slice_index_or done x [])

  pub task-out : (d : TaskDef) (l : Lasting) (a : Seen) (s t : List Item) → Sound l.begun a → a.ended ≡ true → IsJoint d l rings
      → a.got_left ++ s ≡ input_past d.from pasts → a.got_right ++ t ≡ input_past (others d.from) pasts → a.out ≡ items (task_lines d done)
  task-out d l a s t k e j p q =
      ended-out l.begun a s t k e
      ∙ ap (λ z. items (lines_of z (texts (a.got_left ++ s)) (texts (a.got_right ++ t)))) j.plan
      ∙ ap (λ z. items (lines_of d.plan z (texts (a.got_right ++ t)))) (ap texts p ∙ input-texts d.from l.rings.left j.left)
      ∙ ap (λ z. items (lines_of d.plan (first_input d.from done) z)) (ap texts q ∙ input-texts (others d.from) l.rings.right j.right ∙ second-others d.from done)

  pub AllPutOut-push : (r : Option Ring) (p : List Item) (k x : List Line) → PutOut r p k x → AllPutOut (rings ++ r ∷ []) (pasts ++ p ∷ []) (kept ++ k ∷ []) (done ++ x ∷ [])
  AllPutOut-push r p k x out = record {
    rings_length = length-append rings (r ∷ []) ∙ ap (λ z. z + 1) all.rings_length ∙ sym (length-append done (x ∷ []));
    pasts_length = length-append pasts (p ∷ []) ∙ ap (λ z. z + 1) all.pasts_length ∙ sym (length-append done (x ∷ []));
    kept_length = length-append kept (k ∷ []) ∙ ap (λ z. z + 1) all.kept_length ∙ sym (length-append done (x ∷ []));
    each =
        λ t within. below_more
        (λ n. PutOut (slice_index_or (rings ++ r ∷ []) n None) (slice_index_or (pasts ++ p ∷ []) n []) (slice_index_or (kept ++ k ∷ []) n []) (slice_index_or (done ++ x ∷ []) n [])) (length done)
        (λ n below.
        let rl : n < length rings = subst (λ z. n < z) (sym all.rings_length) below in
        let pl : n < length pasts = subst (λ z. n < z) (sym all.pasts_length) below in
        let kl : n < length kept = subst (λ z. n < z) (sym all.kept_length) below in
        rw (
          get_or_append_left rings (r ∷ []) None n rl,
          get_or_append_left pasts (p ∷ []) [] n pl,
          get_or_append_left kept (k ∷ []) [] n kl,
          get_or_append_left done (x ∷ []) [] n below,
        ) (all.each n below))
        (rw (
          get_or_push rings r None (length done) all.rings_length,
          get_or_push pasts p [] (length done) all.pasts_length,
          get_or_push kept k [] (length done) all.kept_length,
          get_or_push done x [] (length done) refl,
        ) out)
        t (subst (λ z. t < z) (length-append done (x ∷ [])) within);
  }

-- ---- where its output lies

texts-kept : (x : List Line) → texts (as_texts x ++ End ∷ []) ≡ x
texts-kept [] = refl
texts-kept (a ∷ x) = ap (λ z. a ∷ z) (texts-kept x)

module _ {A P : Type 0} where
  pub PutOut-of : (o : Option (Producer Item A P)) (kept lines : List Line) → KeepsNone (out_ring o) kept → out_of o kept true ≡ items lines → PutOut (out_ring o) (sent_by o) kept lines
  PutOut-of None kept lines k e = record {
    none = tt;
    on_ring = λ (s : IsSome {T = Ring} None). cc;
    in_kept = λ _. sym (texts-kept kept) ∙ ap texts e ∙ texts-items lines;
  }
  PutOut-of (Some p) kept lines k e = record {
    none = k;
    on_ring = λ _. e;
    in_kept = λ (n : Some (Rattle.pipe_bodies.specs.Rings.ring_out p) ≡ None). cc;
  }

-- ---- the parts of one more body

pub settled : {W : Type 0} (d : TaskDef) (l : Lasting) (a : Seen) (p : Parts W) (left right : Option (Consumer Item Global AnyItems))
    (before between after : List (Option (Producer Item Global AnyItems))) (kept done : List (List Line))
    → Sound l.begun a → a.ended ≡ true → KeepsNone (out_ring p.output) p.kept → IsJoint d l (map out_ring before) → AllPutOut (map out_ring before) (map sent_by before) kept done
    → seen p ≡ a → got left ≡ got p.left → got right ≡ got p.right
    → map sent_by between ≡ map sent_by before → map out_ring after ≡ map out_ring before → map sent_by after ≡ map sent_by before
    → got left ++ known left ≡ input_past d.from (map sent_by before) → got right ++ known right ≡ input_past (others d.from) (map sent_by between)
    → AllPutOut (map out_ring (after ++ p.output ∷ [])) (map sent_by (after ++ p.output ∷ [])) (kept ++ p.kept ∷ []) (done ++ task_lines d done ∷ [])
settled d l a p left right before between after kept done k e n j all s gl gr pb ra pa fl fr =
    let out : a.out ≡ items (task_lines d done) = task-out (map out_ring before) (map sent_by before) kept done all d l a (known left) (known right) k e j
    (ap (λ z. z ++ known left) (ap (λ z. z.got_left) (sym s) ∙ sym gl) ∙ fl) (ap (λ z. z ++ known right) (ap (λ z. z.got_right) (sym s) ∙ sym gr) ∙ fr ∙ ap (λ z. input_past (others d.from) z) pb) in
    let ended : p.ended ≡ true = ap (λ z. z.ended) s ∙ e in
    let mine : out_of p.output p.kept true ≡ items (task_lines d done) = ap (λ z. out_of p.output p.kept z) (sym ended) ∙ ap (λ z. z.out) s ∙ out in
    rw (map-append out_ring after (p.output ∷ []), map-append sent_by after (p.output ∷ []), ra, pa)
    (AllPutOut-push (map out_ring before) (map sent_by before) kept done all (out_ring p.output) (sent_by p.output) p.kept (task_lines d done) (PutOut-of p.output p.kept (task_lines d done) n mine))
