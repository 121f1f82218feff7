use Rattle.std.proofs.Common.{rules, ◌≡◌, ◌<◌, ◌≤◌, ◌+◌, List, [], length, refl, ap, subst, arith}
use Rattle.dep_nodes.specs.OnceLists.{IsOnceEach}
use Rattle.dep_nodes.specs.GrowingGraphs.{AppendsNew}
use Rattle.dep_nodes.specs.declared.kinds.NodeKind.{NodeKind}
use Rattle.dep_nodes.specs.declared.kinds.NodeKind.TheVariants.{Entry}
use Rattle.dep_nodes.proofs.OnceLemmas.{contains_at}
use Rattle.flow_graph.specs.Exploring.{AddsAll}
use Rattle.flow_graph.proofs.ExploreLemmas.{begun, begun_few, grown, all_nodes, has_more}
use Rattle.flow_graph.proofs.exploring.wide_nodes.Goals as goal

pub loop-done-init : goal.loop-done-init
loop-done-init c =
    let appends = subst (λ (xs : List NodeKind). AppendsNew xs Entry c.add_node.new.nodes) c.new-nodes.ensures c.in_ok-add_node.ensures in
    record { explores = begun c.args.program.now c.args.method c.add_node.new.nodes appends; few = begun_few c.args.program.now c.args.method c.add_node.new.nodes appends }

pub wide_steps-requires-clause-there : goal.wide_steps-requires-clause-there
wide_steps-requires-clause-there c = c.loop-done.invariant.explores.reached c.kind_at-kind.result (contains_at c.loop-done.nodes c.loop-done.done c.kind_at-kind.result c.kind_at-kind.ensures)

pub returns-then-as_slice-gt-MOST_NODES-clause-limit : goal.returns-then-as_slice-gt-MOST_NODES-clause-limit
returns-then-as_slice-gt-MOST_NODES-clause-limit c =
    let nodes = c.add_all.new.nodes in
    let adds : AddsAll c.in_ok-steps.steps.items c.loop-done.nodes nodes = search rules in
    let on = grown c.args.program.now c.args.method c.loop-done.nodes nodes c.in_ok-steps.steps.items c.loop-done.done c.kind_at-kind.result c.loop-done.invariant.explores c.kind_at-kind.ensures c.in_ok-steps.ensures adds in
    let many : 16384 < length nodes = omega (arith, c.if-as_slice-gt-MOST_NODES.true, ap length c.as_slice-in-loop-done-2.ensures.items) in
    let once = subst (λ (xs : List NodeKind). IsOnceEach xs) c.as_slice-in-loop-done-2.ensures.items c.as_slice-in-loop-done-2.ensures.once in
    (refl, has_more c.args.program.now c.args.method nodes (c.loop-done.done + 1) on many once)

pub loop-done-preserved : goal.loop-done-preserved
loop-done-preserved c =
    let nodes = c.add_all.new.nodes in
    let adds : AddsAll c.in_ok-steps.steps.items c.loop-done.nodes nodes = search rules in
    record {
      explores = grown c.args.program.now c.args.method c.loop-done.nodes nodes c.in_ok-steps.steps.items c.loop-done.done c.kind_at-kind.result c.loop-done.invariant.explores c.kind_at-kind.ensures c.in_ok-steps.ensures adds;
      few = omega (arith, c.if-as_slice-gt-MOST_NODES.false, ap length c.as_slice-in-loop-done-2.ensures.items);
    }

pub returns-clause-nodes : goal.returns-clause-nodes
returns-clause-nodes c =
    let once = subst (λ (xs : List NodeKind). IsOnceEach xs) c.as_slice.ensures.items c.as_slice.ensures.once in
    let over : length c.loop-done.nodes ≤ c.loop-done.done = omega (arith, c.loop-done-test.false, ap length c.as_slice.ensures.items) in
    all_nodes c.args.program.now c.args.method c.loop-done.nodes c.loop-done.done c.loop-done.invariant.explores over once
