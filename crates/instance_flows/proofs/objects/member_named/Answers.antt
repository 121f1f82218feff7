use Rattle.std.proofs.Common.{◌∙◌, ap}
use Rattle.flow_graph.specs.NodeUses.{ref_in}
use Rattle.instance_flows.proofs.objects.member_named.Goals as goal

pub returns : goal.returns
returns c = λ next. c.member_in-named.ensures ∙ ap ref_in (c.operand_of-operand.ensures next)
