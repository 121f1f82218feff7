use Rattle.std.specs.Prelude.{map}
use Rattle.std.specs.List.{range_with_len}
use Rattle.std.proofs.Common.{rules, ◌≡◌, ℕ, ◌+◌, Contains, ap, subst, arith}
use Rattle.dependence.specs.declared.flow.Place.{Place}
use Rattle.dependence.specs.declared.flow.Place.TheVariants.{Local}
use Rattle.flow_graph.specs.Adding.{AddsThose}
use Rattle.flow_graph.proofs.AddingLemmas.{adds_number}
use Rattle.flow_graph.proofs.node_places.add_locals.Goals as goal

pub loop-k-preserved : goal.loop-k-preserved
loop-k-preserved c =
    let k = c.loop-k.k in
    let same : c.in-Ok.local ≡ k = search rules in
    let is : ◌≡◌ {A = Place} (Local c.in-Ok.local) (Local (0 + k)) = ap Local (omega (arith, same)) in
    adds_number Local 0 k c.args.places.now c.loop-k.places c.add.new.self (Local c.in-Ok.local) is c.loop-k.invariant c.in_ok-add.ensures.ok

pub returns : goal.returns
returns c =
    let all : c.loop-k.k ≡ c.args.count = omega (arith, c.loop-k-test.false, c.loop-k.auto.k-end) in
    subst (λ n. AddsThose (Contains (map Local (range_with_len 0 n))) c.args.places.now c.loop-k.places) all c.loop-k.invariant
