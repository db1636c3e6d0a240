use Rattle.std.proofs.Common.{◌∙◌, refl, sym, rules}
use Rattle.sched_switch.proofs.Reading.{read_under, stops_under}
use Rattle.sched_switch.proofs.switching.switch_out.Goals as goal

pub returns-then-goes_on-clause-did : goal.returns-then-goes_on-clause-did
returns-then-goes_on-clause-did g c = (
  c.load_state-state.result,
  record {
    read = read_under c.args.t c.load_state-state.result c.seat-c.result c.lock_queue-queue.result.val c.args.pass.now
        c.lock_queue-queue.new.pass c.lock_queue-queue.ensures.same.same.same_seat c.lock_queue-queue.ensures.trace
        c.requires.steady c.requires.current c.load_state-state.ensures.still;
    runs = search rules;
    queue = c.lock_queue-queue.result.val;
    others = search rules;
    n = c.clear_busy.result;
    did = search rules;
    turn = search rules;
    same_seat = search rules;
  },
)

pub returns-clause-did : goal.returns-clause-did
returns-clause-did g c = (
  c.load_state-state.result,
  record {
    read = read_under c.args.t c.load_state-state.result c.seat-c.result c.lock_queue-queue.result.val c.args.pass.now
        c.lock_queue-queue.new.pass c.lock_queue-queue.ensures.same.same.same_seat c.lock_queue-queue.ensures.trace
        c.requires.steady c.requires.current c.load_state-state.ensures.still;
    stops = stops_under c.args.t c.load_state-state.result c.seat-c.result c.lock_queue-queue.result.val c.args.pass.now
        c.lock_queue-queue.new.pass c.lock_queue-queue.ensures.same.same.same_seat c.lock_queue-queue.ensures.trace
        c.requires.steady c.requires.current c.load_state-state.ensures.own (sym c.goes_on.ensures ∙ c.if-goes_on.false);
    queue = c.lock_queue-queue.result.val;
    before = c.dequeue_task-before.result;
    n = c.clear_busy-2.result;
    number = refl;
    did = search rules;
    turn = search rules;
    same_seat = search rules;
  },
)
