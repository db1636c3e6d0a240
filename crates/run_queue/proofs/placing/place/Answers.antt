use Rattle.std.proofs.Common.{◌≡◌, ◌∙◌, ℕ, ◌∷◌, List, sym, subst, ap}
use Rattle.run_queue.proofs.placing.place.Goals as goal
use Rattle.word_rule.specs.May.{MayCpuWord}
use Rattle.word_steps.specs.Records.{Rec, LoadedCpu}

pub store_cpu-requires-clause-may : goal.store_cpu-requires-clause-may
store_cpu-requires-clause-may g c κs within = λ x.
    let from = c.load_cpu-from.result in
    let trace : c.load_cpu-from.new.pass.trace ≡ LoadedCpu c.args.task.now.task from ∷ c.args.pass.now.trace =
    c.load_cpu-from.ensures.trace ∙ ap (λ (k : ℕ). LoadedCpu k from ∷ c.args.pass.now.trace) c.task.ensures in
    subst (λ (z : ℕ × List Rec). MayCpuWord z.0 z.1 c.args.wk.now.shape c.args.task.now.task x c.args.c)
    (λ i. (sym c.load_cpu-from.ensures.same.same.same_seat i, sym trace i)) (c.requires.may from x)
