use Rattle.std.proofs.Common.{◌≡◌, ◌∷◌, ◌++◌, [], List, append-nil, append_assoc, length, map, rules, sym, ap, ◌∙◌}
use Rattle.std.proofs.lemmas.List.{map_push}
use Rattle.task_words.proofs.Tokens.{token_is_of}
use Rattle.task_words.specs.Closing.{token_of}
use Rattle.task_words.specs.Views.{PassView, IsOf}
use Rattle.word_table.proofs.Ending.{all_each}
use Rattle.word_table.proofs.Gatherings.{last_of, others_of, none_left}
use Rattle.word_table.specs.Views.{TokenView}
use Rattle.task_words.proofs.close.gather.Goals as goal

pub loop-pass-init : goal.loop-pass-init
loop-pass-init g c =
    let passes = c.args.passes.items in record {
      of = all_each (IsOf c.args.words.now) passes c.requires.of;
      gathered = c.gather-gathered.ensures.of;
      done = ap (λ (z : List TokenView). map token_of passes ++ z) c.gather-gathered.ensures.none
          ∙ append-nil (map token_of passes);
    }

pub take_back-requires-clause-of : goal.take_back-requires-clause-of
take_back-requires-clause-of g c κs live =
    token_is_of c.args.words.now c.in-Some.pass c.into_token.result c.into_token.ensures
    (last_of (IsOf c.args.words.now) c.loop-pass.passes.items c.pop.new.self.items c.in-Some.pass
    c.in-Some.ensures.items c.loop-pass.invariant.of)

pub loop-pass-preserved : goal.loop-pass-preserved
loop-pass-preserved g c =
    let before = c.loop-pass in let was = before.invariant in let left = c.pop.new.self.items in
    let pass = c.in-Some.pass in let is = c.in-Some.ensures.items in let done = before.gathered.tokens in
    record {
      of = others_of (IsOf c.args.words.now) before.passes.items left pass is was.of;
      gathered = c.take_back.ensures.of;
      done = ap (λ (z : List TokenView). map token_of left ++ z)
          (c.take_back.ensures.tokens ∙ ap (λ (t : TokenView). t ∷ done) c.into_token.ensures)
          ∙ sym (append_assoc (map token_of left) (token_of pass ∷ []) done)
          ∙ ap (λ (z : List TokenView). z ++ done) (sym (ap (map token_of) is ∙ map_push token_of left pass))
          ∙ was.done;
    }

pub returns-clause-tokens : goal.returns-clause-tokens
returns-clause-tokens g c =
    let was = c.loop-pass.invariant in let none : length c.loop-pass.passes.items ≡ 0 = search rules in
    ap (λ (z : List PassView). map token_of z ++ c.loop-pass.gathered.tokens)
    (sym (none_left c.loop-pass.passes.items none)) ∙ was.done
