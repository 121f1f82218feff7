use Rattle.std.proofs.Common.{◌∙◌, ap}
use Rattle.method_views.specs.Standing.{ref_in}
use Rattle.method_views.proofs.operands.member_named.Goals as goal

pub returns : goal.returns
returns c = λ next. c.member_in-named.ensures ∙ ap ref_in (c.operand_of-operand.ensures next)
