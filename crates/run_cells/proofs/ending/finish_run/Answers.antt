use Rattle.std.proofs.Common.{◌≡◌, ◌∙◌, sym, ap, subst, map, All, List}
use Rattle.pipe_bodies.specs.Bodies.{Lasting, BodyView}
use Rattle.pipe_bodies.specs.Nets.{IsNet, HasEnded, begun_tasks, lasting_of}
use Rattle.pipe_tasks.specs.Tasks.{forest_lines}
use Rattle.std.specs.Prelude.{IfOk}
use Rattle.run_cells.specs.Ends.{kept_of}
use Rattle.run_cells.proofs.EndLaws.{are_dead, have_ended, kept_back, same_net}
use Rattle.run_cells.proofs.ending.finish_run.Goals as goal
use Rattle.task_words.specs.Closing.{journals_in}

pub settle-requires-clause-net : goal.settle-requires-clause-net
settle-requires-clause-net g c = λ _ _.
    subst (λ (z : List Lasting). IsNet (begun_tasks c.args.tasks.now z) z)
    (same_net c.law_lastings.ensures.all c.close-closed.result.bodies.items c.requires.table.keeps (c.close-closed.ensures.lasting ∙ c.requires.table.same)
    ∙ ap (λ (z : List BodyView). map lasting_of z) (sym c.in_ok-bodies.ensures.bodies)) c.requires.table.net

pub settle-requires-clause-ended : goal.settle-requires-clause-ended
settle-requires-clause-ended g c = λ _ _.
    subst (λ (z : List BodyView). All HasEnded z) (sym c.in_ok-bodies.ensures.bodies)
    (have_ended c.args.wk.shape c.close-closed.result.bodies.items c.close-closed.result.states.items c.close-closed.ensures.sizes.0
    (are_dead c.args.wk.shape (journals_in c.args.wk.shape c.args.passes.items) c.close-closed.result.states.items c.requires.died c.close-closed.ensures.dead)
    c.close-closed.ensures.ended)

pub returns-in_err-bodies-clause-legal : goal.returns-in_err-bodies-clause-legal
returns-in_err-bodies-clause-legal g c =
    c.close-closed.ensures.legal
    (are_dead c.args.wk.shape (journals_in c.args.wk.shape c.args.passes.items) c.close-closed.result.states.items c.requires.died c.close-closed.ensures.dead)

pub returns-clause-legal : goal.returns-clause-legal
returns-clause-legal g c =
    c.close-closed.ensures.legal
    (are_dead c.args.wk.shape (journals_in c.args.wk.shape c.args.passes.items) c.close-closed.result.states.items c.requires.died c.close-closed.ensures.dead)

pub returns-clause-lines : goal.returns-clause-lines
returns-clause-lines g c =
    subst (λ (z : List Lasting). IfOk c.settle.result (λ r. r.items ≡ forest_lines (begun_tasks c.args.tasks.now z)))
    (sym (ap kept_of c.requires.table.same ∙ kept_back c.law_lastings.ensures.back c.requires.table.keeps
    ∙ (same_net c.law_lastings.ensures.all c.close-closed.result.bodies.items c.requires.table.keeps (c.close-closed.ensures.lasting ∙ c.requires.table.same)
    ∙ ap (λ (z : List BodyView). map lasting_of z) (sym c.in_ok-bodies.ensures.bodies)))) c.settle.ensures.forest
