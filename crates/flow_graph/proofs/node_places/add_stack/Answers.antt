use Rattle.std.proofs.Common.{◌≡◌, ◌+◌, Contains, subst, arith}
use Rattle.dependence.specs.declared.flow.Place.TheVariants.{Stack}
use Rattle.dependence.specs.NodePlaces.{stack_places}
use Rattle.flow_graph.specs.Adding.{AddsThose}
use Rattle.flow_graph.proofs.AddingLemmas.{adds_number}
use Rattle.flow_graph.proofs.node_places.add_stack.Goals as goal

pub loop-above-preserved : goal.loop-above-preserved
loop-above-preserved c =
    adds_number Stack c.args.from c.loop-above.above c.args.places.now c.loop-above.places c.add.new.self c.in-Some.place c.in-Some.ensures c.loop-above.invariant c.in_ok-add.ensures.ok

pub returns : goal.returns
returns c =
    let all : c.loop-above.above ≡ c.args.count = omega (arith, c.loop-above-test.false, c.loop-above.auto.above-end) in
    subst (λ n. AddsThose (Contains (stack_places c.args.from n)) c.args.places.now c.loop-above.places) all c.loop-above.invariant
