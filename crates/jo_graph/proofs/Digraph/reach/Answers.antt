use Rattle.std.proofs.Common.{◌≡◌, true, false, length, replicate, set, sym, ◌∙◌, ap, subst, arith}
use Rattle.jo_graph.specs.Queues.{LeadsInside, IsQueueOf}
use Rattle.jo_graph.proofs.QueueLemmas.{queue_of_one}
use Rattle.jo_graph.proofs.Digraph.reach.Goals as goal

pub spread-requires-clause-inside : goal.spread-requires-clause-inside
spread-requires-clause-inside c = subst LeadsInside (sym c.as_slice.ensures.value) c.self.invariant

pub spread-requires-clause-first : goal.spread-requires-clause-first
spread-requires-clause-first c =
    let n = length c.args.found.now in
    let queue = c.as_mut_slice-queue.result.now in
    let len : length queue ≡ n = omega (arith, ap length c.as_mut_slice-queue.ensures.value, c.work.inside.places.ok.0, c.work.view_is, c.requires.work, c.requires.found) in
    let first : c.set.new.self ≡ set (replicate n false) c.args.start true = c.set.ensures.set ∙ ap (λ row. set row c.args.start true) c.clear.ensures in
    subst (λ row. IsQueueOf row (set queue 0 c.args.start) 1) (sym first) (queue_of_one n c.args.start queue (omega (arith, c.requires.start, c.requires.found)) len)
