use Rattle.std.proofs.Common.{◌≡◌, ◌+◌, ◌*◌, ℕ, List, length, map, subst, sym, ap, ◌∙◌}
use Rattle.std.specs.List.{All}
use Rattle.atomic_table.specs.Seated.{TableId}
use Rattle.handoff_data.specs.declared.shape.Shape.{Shape}
use Rattle.word_steps.specs.Words.{words_of}
use Rattle.word_table.specs.Begin.{IsLaid, first_tokens}
use Rattle.word_table.specs.End.{HasEachSeat}
use Rattle.word_table.specs.Ruled.{lastings}
use Rattle.word_table.specs.Views.{TokenView, IsFor}
use Rattle.word_table.proofs.Opening.{opens}
use Rattle.word_table.proofs.Tokens.{firsts_are, firsts_each}
use Rattle.word_table.proofs.words.Words.new.Goals as goal

pub new-requires : goal.new-requires
new-requires g c =
    let seen = ap (λ v. v.items) c.of.ensures in let words = c.as_slice.ensures.value in
    opens g.B.Kept.lasting g.B.Kept.ended record { shape = c.args.shape.now; bodies = c.of.result } c.all-mask.result
    c.as_slice.result.now c.in_ok-slots.slots.items
    c.requires.shape c.all-mask.ensures (ap length seen ∙ c.requires.tasks)
    (ap words_of words ∙ c.in_ok-words.ensures.words)
    (ap length words ∙ c.in_ok-words.ensures.long ∙ ap (λ (n : ℕ). 64 * n) c.rows_of-rows.ensures)
    (subst (λ bodies. IsLaid c.args.shape.now c.all-mask.result bodies c.in_ok-slots.slots.items) (sym seen)
    c.in_ok-slots.ensures)

pub returns-clause-of : goal.returns-clause-of
returns-clause-of g c =
    let made = c.in-Ok.made.0.shared in let name : TableId = made.table_id in
    let n : ℕ = c.args.shape.now.cpus + c.args.shape.now.agents in
    let shape : made.key.shape ≡ c.args.shape.now = ap (λ k. k.shape) c.in-Ok.ensures.ok.5 in
    let ls = lastings g.B.Kept.lasting made.key in
    subst (All (IsFor name c.args.shape.now ls)) (ap (λ (s : Shape). first_tokens name s ls n) (sym shape)
    ∙ sym c.in_ok-tokens.ensures) (firsts_are name c.args.shape.now ls n)

pub returns-clause-each : goal.returns-clause-each
returns-clause-each g c =
    let made = c.in-Ok.made.0.shared in let n : ℕ = c.args.shape.now.cpus + c.args.shape.now.agents in
    subst (λ (tokens : List TokenView). HasEachSeat n (map (λ (t : TokenView). t.seat) tokens))
    (sym c.in_ok-tokens.ensures)
    (firsts_each made.table_id made.key.shape (lastings g.B.Kept.lasting made.key) n)
