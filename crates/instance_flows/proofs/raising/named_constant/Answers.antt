use Rattle.std.proofs.Common.{◌∙◌, ap}
use Rattle.dependence.specs.MayBeNull.{int_operand}
use Rattle.instance_flows.proofs.raising.named_constant.Goals as goal

pub returns : goal.returns
returns c = λ next. c.int_operand-value.ensures ∙ ap int_operand (c.operand_of-operand.ensures next)
