use Rattle.jo_ids.specs.Path.{stays}
use Rattle.jo_prog.specs.TypingPaths.{HasHeightAt}
use Rattle.dep_nodes.specs.declared.kinds.NodeKind.TheVariants.{Entry}
use Rattle.object_types.proofs.MadeLemmas.{if_ok_more}
use Rattle.instance_flows.specs.BySite.{BySite}
use Rattle.instance_flows.proofs.NullLemmas.{kind_below}
use Rattle.instance_flows.proofs.RaisingLemmas.{raising_are}
use Rattle.instance_flows.proofs.FlowLemmas.{wide_of_key, flow_is}
use Rattle.instance_flows.proofs.flow.flow_of.Goals as goal

pub nulls_of-requires-clause-graph : goal.nulls_of-requires-clause-graph
nulls_of-requires-clause-graph g c = wide_of_key c.args.program.now c.args.facts.now c.args.typed.now c.args.instance c.args.wide.now c.instance-method.result c.instance-method.ensures c.requires.wide c.requires.typed

pub raising_of-requires-clause-graph : goal.raising_of-requires-clause-graph
raising_of-requires-clause-graph g c = wide_of_key c.args.program.now c.args.facts.now c.args.typed.now c.args.instance c.args.wide.now c.instance-method.result c.instance-method.ensures c.requires.wide c.requires.typed

pub raising_of-requires-clause-heights : goal.raising_of-requires-clause-heights
raising_of-requires-clause-heights g c = c.requires.typed c.instance-method.result c.instance-method.ensures

pub kept_of-requires-clause-graph : goal.kept_of-requires-clause-graph
kept_of-requires-clause-graph g c = wide_of_key c.args.program.now c.args.facts.now c.args.typed.now c.args.instance c.args.wide.now c.instance-method.result c.instance-method.ensures c.requires.wide c.requires.typed

pub kept_of-requires-clause-raising : goal.kept_of-requires-clause-raising
kept_of-requires-clause-raising g c =
    let m = c.instance-method.result.method in
    let is = wide_of_key c.args.program.now c.args.facts.now c.args.typed.now c.args.instance c.args.wide.now c.instance-method.result c.instance-method.ensures c.requires.wide c.requires.typed in
    raising_are c.args.program.now (BySite c.args.facts.now c.args.instance) (HasHeightAt c.args.program.now m) m c.args.wide.now c.args.uses.now c.in_ok-raising.raising is c.requires.uses c.in_ok-raising.ensures.each

pub entry_of-requires : goal.entry_of-requires
entry_of-requires g c =
    let is = wide_of_key c.args.program.now c.args.facts.now c.args.typed.now c.args.instance c.args.wide.now c.instance-method.result c.instance-method.ensures c.requires.wide c.requires.typed in
    is.graph.each_node Entry (stays Entry)

pub part_of-requires-clause-start : goal.part_of-requires-clause-start
part_of-requires-clause-start g c =
    let m = c.instance-method.result.method in
    let is = wide_of_key c.args.program.now c.args.facts.now c.args.typed.now c.args.instance c.args.wide.now c.instance-method.result c.instance-method.ensures c.requires.wide c.requires.typed in
    kind_below c.args.program.now m (HasHeightAt c.args.program.now m) c.args.wide.now is c.entry_of.result Entry c.entry_of.ensures

pub part_of-requires-clause-same : goal.part_of-requires-clause-same
part_of-requires-clause-same g c = c.in_ok-kept.ensures.same_length

pub returns : goal.returns
returns g c =
    let program = c.args.program.now in
    let facts = c.args.facts.now in
    let own = c.instance-method.result in
    let is = wide_of_key program facts c.args.typed.now c.args.instance c.args.wide.now own c.instance-method.ensures c.requires.wide c.requires.typed in
    if_ok_more c.part_of.result
    (λ part is_part. flow_is program facts c.args.instance own c.numbered_once.ensures c.instance-method.ensures c.args.wide.now c.in_ok-kept.kept part is c.in_ok-kept.ensures c.entry_of.result c.entry_of.ensures is_part)
    c.part_of.ensures
