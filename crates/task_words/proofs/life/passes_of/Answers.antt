use Rattle.std.proofs.Common.{◌≡◌, ◌+◌, ◌∷◌, ◌++◌, [], List, length, length-append, append_assoc, rules, sym, ap, ◌∙◌, subst, arith}
use Rattle.std.proofs.lemmas.List.{map_push}
use Rattle.std.specs.Vec.{vec_len, vec_capacity}
use Rattle.task_words.specs.Closing.{new_pass}
use Rattle.task_words.specs.Views.{PassView}
use Rattle.word_table.proofs.Ending.{all_each}
use Rattle.word_table.specs.Ruled.{Each}
use Rattle.word_table.specs.Views.{TokenView}
use Rattle.task_words.proofs.life.passes_of.Goals as goal

pub loop-token-init : goal.loop-token-init
loop-token-init c =
    let is = c.into_iter-token-iterator.ensures.into_iter_gives.0 in let tokens = c.args.tokens.items in record {
      can_next = tt;
      is_finite = tt;
      traces = subst (Each (λ (t : TokenView). t.trace ≡ [])) (sym is)
          (all_each (λ (t : TokenView). t.trace ≡ []) tokens c.requires.traces);
      tasks = subst (Each (λ (t : TokenView). t.shape.tasks ≡ c.args.tasks)) (sym is)
          (all_each (λ (t : TokenView). t.shape.tasks ≡ c.args.tasks) tokens c.requires.tasks);
      all = is;
      passes = c.in_ok-passes.ensures.items;
      full = c.in_ok-passes.ensures.len;
      room = λ j. vec_capacity c.in_ok-passes.passes;
    }

pub pass_of-requires-clause-trace : goal.pass_of-requires-clause-trace
pass_of-requires-clause-trace c =
    (subst (Each (λ (t : TokenView). t.trace ≡ [])) c.in-Some.ensures.steps.0 c.loop-token.invariant.traces).0

pub pass_of-requires-clause-tasks : goal.pass_of-requires-clause-tasks
pass_of-requires-clause-tasks c =
    (subst (Each (λ (t : TokenView). t.shape.tasks ≡ c.args.tasks)) c.in-Some.ensures.steps.0 c.loop-token.invariant.tasks).0

pub push_reserved-requires : goal.push_reserved-requires
push_reserved-requires c =
    let was = c.loop-token.invariant in let left = c.loop-token.token-iterator.rest.items in
    let yielded = c.loop-token.yielded in let tokens = c.args.tokens in
    let count : length yielded + length left ≡ length tokens.items = sym (length-append yielded left)
    ∙ ap length was.all in
    let some : length left ≡ length
    (c.in-Some.token ∷ c.next.new.self.rest.items) = ap length c.in-Some.ensures.steps.0 in
    let room : vec_capacity c.loop-token.passes ≡ vec_len tokens = was.room ∙ c.in_ok-passes.ensures.exact
    ∙ c.len.ensures in
    let full : vec_len c.loop-token.passes ≡ length yielded = was.full in
    let size : vec_len tokens ≡ length tokens.items = search rules in
    omega arith

pub loop-token-preserved : goal.loop-token-preserved
loop-token-preserved c =
    let was = c.loop-token.invariant in let step = c.in-Some.ensures.steps.0 in let token = c.in-Some.token in
    let left = c.next.new.self.rest.items in let yielded = c.loop-token.yielded in
    let begun : TokenView → PassView = λ t. new_pass t.of t.shape t.lasting t.seat in record {
      can_next = tt;
      is_finite = tt;
      traces = (subst (Each (λ (t : TokenView). t.trace ≡ [])) step was.traces).1;
      tasks = (subst (Each (λ (t : TokenView). t.shape.tasks ≡ c.args.tasks)) step was.tasks).1;
      all = append_assoc yielded (token ∷ []) left ∙ ap (λ (z : List TokenView). yielded ++ z) (sym step) ∙ was.all;
      passes = c.push_reserved.ensures.items ∙ (λ j. was.passes j ++ c.in_ok-pass_of.ensures j ∷ [])
          ∙ sym (map_push begun yielded token);
      full = (let a = c.push_reserved.ensures.len in let b = length-append yielded (token ∷ []) in
          let d = was.full in omega arith);
      room = c.push_reserved.ensures.capacity ∙ was.room;
    }
