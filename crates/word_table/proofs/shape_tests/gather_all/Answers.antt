use Rattle.std.proofs.Common.{◌≡◌, ◌++◌, List, append-nil, length, rules, sym, ap, ◌∙◌}
use Rattle.word_table.proofs.Ending.{all_each}
use Rattle.word_table.proofs.Gatherings.{last_of, others_of, none_left, one_back}
use Rattle.word_table.specs.Views.{TokenView, IsOf}
use Rattle.word_table.proofs.shape_tests.gather_all.Goals as goal

pub loop-token-init : goal.loop-token-init
loop-token-init g c =
    let items = c.args.tokens.items in record {
      of = all_each (IsOf c.args.words.now) items c.requires.of;
      gathered = c.gather-gathered.ensures.of;
      done = ap (λ (z : List TokenView). items ++ z) c.gather-gathered.ensures.none ∙ append-nil items;
    }

pub take_back-requires-clause-of : goal.take_back-requires-clause-of
take_back-requires-clause-of g c κs live =
    last_of (IsOf c.args.words.now) c.loop-token.tokens.items c.pop.new.self.items c.in-Some.token
    c.in-Some.ensures.items c.loop-token.invariant.of

pub loop-token-preserved : goal.loop-token-preserved
loop-token-preserved g c =
    let before = c.loop-token in let was = before.invariant in let left = c.pop.new.self.items in
    let token = c.in-Some.token in let is = c.in-Some.ensures.items in record {
      of = others_of (IsOf c.args.words.now) before.tokens.items left token is was.of;
      gathered = c.take_back.ensures.of;
      done = ap (λ (z : List TokenView). left ++ z) c.take_back.ensures.tokens
          ∙ one_back before.tokens.items left before.gathered.tokens c.args.tokens.items token is was.done;
    }

pub returns-clause-tokens : goal.returns-clause-tokens
returns-clause-tokens g c =
    let was = c.loop-token.invariant in let none : length c.loop-token.tokens.items ≡ 0 = search rules in
    ap (λ (z : List TokenView). z ++ c.loop-token.gathered.tokens) (sym (none_left c.loop-token.tokens.items none)) ∙ was.done
