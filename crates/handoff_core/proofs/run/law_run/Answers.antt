use Rattle.std.proofs.Common.{arith, rules, ◌<◌, length}
use Rattle.std.proofs.lemmas.Option.{slice_get_past}
use Rattle.core_data.specs.Columns.{columns}
use Rattle.core_law.specs.Steps.{May}
use Rattle.core_law.proofs.Reached.{holds_of, kept_after_each, moves_taken}
use Rattle.handoff_core.proofs.RunLemmas.{ran_on}
use Rattle.handoff_core.proofs.run.law_run.Goals as goal

pub loop-event-preserved : goal.loop-event-preserved
loop-event-preserved c =
    let e = c.event-item.result in
    let may : May (columns c.loop-event.core) e.seat e.step = search rules in
    let lt : c.loop-event.event-index < length c.args.events.now = omega arith in
    record {
      taken = omega arith;
      ran = ran_on _ c.args.events.now c.loop-event.event-index (columns c.loop-event.core) _ e lt c.event-item.is c.loop-event.invariant.ran may c.in_ok-happen.ensures;
    }

pub returns-clause-stops : goal.returns-clause-stops
returns-clause-stops c =
    λ e h may. let none = slice_get_past c.args.events.now c.loop-event.taken (omega arith) in grind (arith, none, h)

pub returns-clause-kept : goal.returns-clause-kept
returns-clause-kept c = holds_of _ _ _ c.loop-event.invariant.ran

pub returns-clause-moves : goal.returns-clause-moves
returns-clause-moves c = moves_taken (columns c.args.core) c.args.events.now _ _ _ c.loop-event.invariant.taken c.loop-event.invariant.ran

pub returns-then-not-may_happen-clause-kept : goal.returns-then-not-may_happen-clause-kept
returns-then-not-may_happen-clause-kept c = holds_of _ _ _ c.loop-event.invariant.ran

pub returns-then-not-may_happen-clause-moves : goal.returns-then-not-may_happen-clause-moves
returns-then-not-may_happen-clause-moves c = moves_taken (columns c.args.core) c.args.events.now _ _ _ c.loop-event.invariant.taken c.loop-event.invariant.ran

pub returns-clause-kept_after_each : goal.returns-clause-kept_after_each
returns-clause-kept_after_each c = kept_after_each (columns c.args.core) c.args.events.now _ _ _ c.loop-event.invariant.taken c.loop-event.invariant.ran

pub returns-then-not-may_happen-clause-kept_after_each : goal.returns-then-not-may_happen-clause-kept_after_each
returns-then-not-may_happen-clause-kept_after_each c = kept_after_each (columns c.args.core) c.args.events.now _ _ _ c.loop-event.invariant.taken c.loop-event.invariant.ran
