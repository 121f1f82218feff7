use Rattle.std.proofs.Common.{rules, ◌∙◌, ap}
use Rattle.jo_prog.specs.TypingPaths.{HasHeightAt}
use Rattle.dependence.specs.FactRules.{is_text}
use Rattle.fact_rules.proofs.ValueLemmas.{loads_told}
use Rattle.fact_rules.proofs.value_rules.loads_text.Goals as goal

pub returns-then-within : goal.returns-then-within
returns-then-within c = λ pc next at.
    loads_told c.args.view.now.program.now c.args.view.now.method (HasHeightAt c.args.view.now.program.now c.args.view.now.method) pc next c.args.insn at c.is_text.result c.is_text.result (search rules)
    (c.is_text.ensures ∙ ap is_text (c.operand_of-operand.ensures next))
