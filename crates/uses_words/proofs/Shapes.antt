-- What a seat did with a queue since it took the queue's lock, where it read nothing between: by its trace as it is.
use Rattle.std.proofs.Common.{◌≡◌, ℕ, ◌∷◌, ◌++◌, [], List, ap}
use Rattle.std.specs.Prelude.{◌⊎◌}
use Rattle.core_data.specs.Queue.{Queue}
use Rattle.handoff_data.specs.declared.shape.Shape.{Shape}
use Rattle.task_words.specs.Gives.{since, IsQueuedHere, IsPut, IsWoken}
use Rattle.word_rule.specs.Told.{TakenQueue, IsOff}
use Rattle.word_steps.specs.Records.{Rec, Took, Queued, MadeRunnable}
use Rattle.word_steps.specs.declared.val.Val.TheVariants as val

module _ (shape : Shape) (s c t on m : ℕ) (v : Queue) (trace rs : List Rec) where
  pub queued_here : trace ≡ Queued t c on m ∷ Took c (val.Queue v) ∷ rs → TakenQueue shape s rs c v → IsOff rs t
      → IsQueuedHere shape s trace c t v
  queued_here did told off = record { rs = rs; on = on; m = m; did = ap since did; told = told; off = off }

  pub put_here : (given : Queue) → trace ≡ Queued t c on m ∷ Took c (val.Queue v) ∷ rs → TakenQueue shape s rs c v
      → (m ≡ 0) ⊎ (on ≡ 2) → given ≡ record v { waiting = v.waiting ++ t ∷ [] } → IsPut shape s trace c given
  put_here given did told ready put = record { t = t; on = on; m = m; v = v; rs = rs; did = ap since did; told = told; ready = ready; put = put }

  pub woken_here : (given : Queue) → trace ≡ MadeRunnable t ∷ Queued t c on m ∷ Took c (val.Queue v) ∷ rs → TakenQueue shape s rs c v
      → given ≡ record v { waiting = v.waiting ++ t ∷ [] } → IsWoken shape s trace c given
  woken_here given did told put = record { t = t; on = on; m = m; v = v; rs = rs; did = ap since did; told = told; put = put }
