use Rattle.std.proofs.Common.{rules, ap, slice_set, ◌≡◌, ◌<◌, ◌∙◌, ◌%◌, ◌+◌, length, map, sym, subst, arith}
use Rattle.std.proofs.lemmas.List.{length-set, length_push}
use Rattle.run_script.proofs.Crews.{part_taken, not_none}
use Rattle.run_script.proofs.Rows.{IsPartOf}
use Rattle.run_script.specs.Seated.{seats_of}
use Rattle.run_script.proofs.dealing.gather.Goals as goal

pub unreachable-requires : goal.unreachable-requires
unreachable-requires g c =
    let was = c.loop-s.invariant in
    let all = c.requires.dealt.0 in
    let count : c.len-places.result ≡ length c.args.workers.now.items = search rules in
    let some : 0 < length c.args.workers.now.items = c.requires.some in
    let many : length all ≡ c.args.count = c.requires.dealt.1 in
    not_none (length c.args.workers.now.items) some all c.loop-s.seats.items c.loop-s.workers.items c.loop-s.s (c.loop-s.s % c.len-places.result)
    c.index_mut.result.now (was.part all many c.requires.dealt.2) (let a = was.many in let b = c.loop-s-test.true in omega (arith, a, b, many)) (sym was.many)
    (λ j. c.loop-s.s % count j) (let same = was.count in omega (arith, same, count, some)) c.index_mut.ensures.value c.in_default.ensures.none

pub loop-s-preserved : goal.loop-s-preserved
loop-s-preserved g c =
    let was = c.loop-s.invariant in
    let i = c.loop-s.s % c.len-places.result in
    let count : c.len-places.result ≡ length c.args.workers.now.items = search rules in
    let some : 0 < length c.args.workers.now.items = c.requires.some in
    let within : i < length c.loop-s.workers.items = (let same = was.count in omega (arith, same, count, some)) in
    record {
      part = λ all many is.
          subst (λ xs. IsPartOf (length c.args.workers.now.items) all xs (map seats_of (slice_set c.loop-s.workers.items i c.take_last.new.worker)))
          (sym c.push_reserved.ensures.items)
          (part_taken (length c.args.workers.now.items) some all c.loop-s.seats.items c.loop-s.workers.items c.loop-s.s i c.index_mut.result.now
          c.take_last.new.worker c.in-Some.seat (was.part all many is)
          (let a = was.many in let b = c.loop-s-test.true in omega (arith, a, b, many)) (sym was.many) (λ j. c.loop-s.s % count j) within
          c.index_mut.ensures.value c.in-Some.ensures.taken);
      many = (let a = length_push c.loop-s.seats.items c.in-Some.seat in ap length c.push_reserved.ensures.items ∙ a ∙ ap (λ n. n + 1) was.many);
      count = length-set c.loop-s.workers.items i c.take_last.new.worker ∙ was.count;
      capacity = c.push_reserved.ensures.capacity ∙ was.capacity;
    }
