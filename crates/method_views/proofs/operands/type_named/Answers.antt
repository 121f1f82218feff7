use Rattle.std.proofs.Common.{◌∙◌, ap}
use Rattle.dependence.specs.FlowGraph.{type_in}
use Rattle.method_views.proofs.operands.type_named.Goals as goal

pub returns : goal.returns
returns c = λ next. c.type_in-named.ensures ∙ ap type_in (c.operand_of-operand.ensures next)
