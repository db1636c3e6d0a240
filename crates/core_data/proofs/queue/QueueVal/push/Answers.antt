use Rattle.std.proofs.Common.{◌≡◌, ◌≤◌, ◌<◌, arith, sym, subst, length}
use Rattle.core_data.specs.Queue.{Queue, times_in, IsOnce}
use Rattle.core_data.proofs.QueueLemmas.{IsOnce-push, length-push}
use Rattle.core_data.proofs.queue.QueueVal.push.Goals as goal

pub invariant_of-self : goal.invariant_of-self
invariant_of-self c =
    let none : times_in c.self.inside.waiting.items c.args.t ≡ 0 = subst {A = Queue} (λ q. times_in q.waiting c.args.t ≡ 0) (sym c.self.view_is) c.requires.absent in
    let room : length c.self.inside.waiting.items < 200 = subst {A = Queue} (λ q. length q.waiting < 200) (sym c.self.view_is) c.requires.room in (
      omega arith,
      subst (λ xs. IsOnce xs) (sym c.push_back_reserved.ensures.items) (IsOnce-push c.self.inside.waiting.items c.args.t c.self.invariant.1 none),
      subst (λ xs. length xs ≤ 200) (sym c.push_back_reserved.ensures.items) (length-push c.self.inside.waiting.items c.args.t room),
    )
