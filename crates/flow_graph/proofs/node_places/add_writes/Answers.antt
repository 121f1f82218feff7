use Rattle.std.proofs.Common.{rules, ◌≡◌, ℕ, ◌+◌, ◌-◌, Option, Contains, ◌∙◌, ap, subst}
use Rattle.dependence.specs.NodePlaces.{stack_use_of, local_place, stack_places}
use Rattle.dependence.proofs.FlowLemmas.{if_ok}
use Rattle.flow_graph.specs.Adding.{AddsThose}
use Rattle.flow_graph.proofs.ReadLemmas.{writes_added}
use Rattle.flow_graph.proofs.node_places.add_writes.Goals as goal

pub returns : goal.returns
returns c =
    let old = c.args.places.now in
    let mid = c.add_local.new.places in
    let new = c.add_stack.new.places in
    let u = c.stack_use_of-stack.result in
    let row = c.stack_use_of-stack.ensures ∙ ap stack_use_of c.opcode_of.ensures in
    let first = subst (λ (l : Option ℕ). AddsThose (Contains (local_place l)) old mid) c.local_written.ensures c.in_ok-add_local.ensures in
    let kept = c.saturating_sub.result + c.from-3.result in
    let pushes : c.from-4.result ≡ u.pushes = search rules in
    let from : kept ≡ c.args.height - u.pops + u.leaves = search rules in
    if_ok c.add_stack.result _ _ (λ second. writes_added c.args.insn c.args.height u.pops u.leaves u.pushes row old mid new kept from first
    (subst (λ n. AddsThose (Contains (stack_places kept n)) mid new) pushes second)) c.add_stack.ensures
