use Rattle.std.proofs.Common.{◌≡◌, ◌+◌, ◌<◌, ◌++◌, ◌∷◌, [], length, get_or, take, sym, ◌∙◌, arith}
use Rattle.std.proofs.lemmas.Bool.{not-true, not-false}
use Rattle.std.proofs.lemmas.List.{take_more, take_all}
use Rattle.jo_graph.proofs.QueueLemmas.{room, follows_none, follows_new, follows_known}
use Rattle.dependence.proofs.searches.follow.Goals as goal
use Rattle.dependence.proofs.searches.follow.Goals.{then-set, else-set}

pub set-requires : goal.set-requires
set-requires c =
    let i = c.loop-number.number-index in
    omega (arith, c.requires.inside i 0 c.loop-number-test.true, c.loop-number.invariant.same_length)

pub bounds-queue-end : goal.bounds-queue-end
bounds-queue-end c =
    let i = c.loop-number.number-index in
    let number = get_or c.args.numbers.now i 0 in
    let below : number < length c.loop-number.found =
    omega (arith, c.requires.inside i 0 c.loop-number-test.true, c.loop-number.invariant.same_length) in
    room (take i c.args.numbers.now) c.args.found.now c.args.queue.now c.args.end c.loop-number.found c.loop-number.queue c.loop-number.end number c.loop-number.invariant below
    (not-true _ (sym c.set.ensures.new ∙ c.if-set.true))

pub loop-number-init : goal.loop-number-init
loop-number-init c = follows_none c.args.found.now c.args.queue.now c.args.end c.requires.queue

pub loop-number-preserved : goal.loop-number-preserved
loop-number-preserved c =
    let i = c.loop-number.number-index in
    let numbers = c.args.numbers.now in
    let number = get_or numbers i 0 in
    let more : take (i + 1) numbers ≡ take i numbers ++ number ∷ [] = take_more numbers i 0 c.loop-number-test.true in
    let below : number < length c.loop-number.found =
    omega (arith, c.requires.inside i 0 c.loop-number-test.true, c.loop-number.invariant.same_length) in
    elim c.if-set.branch [
      | then-set w ↦
          rw (more, c.set.ensures.set, w.queue-is, w.end-is)
          (follows_new (take i numbers) c.args.found.now c.args.queue.now c.args.end c.loop-number.found c.loop-number.queue c.loop-number.end number c.loop-number.invariant below
          (not-true _ (sym c.set.ensures.new ∙ w.if-set.true)))
      | else-set w ↦
          rw (more, c.set.ensures.set, w.queue-is, w.end-is)
          (follows_known (take i numbers) c.args.found.now c.args.queue.now c.args.end c.loop-number.found c.loop-number.queue c.loop-number.end number c.loop-number.invariant below
          (not-false _ (sym c.set.ensures.new ∙ w.if-set.false)))
    ]

pub returns : goal.returns
returns c = rw (sym (take_all c.loop-number.number-index c.args.numbers.now (omega arith))) c.loop-number.invariant
