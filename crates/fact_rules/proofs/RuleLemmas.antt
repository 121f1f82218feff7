-- The rules of calls are among those of facts.
use Rattle.std.proofs.Common.{ℕ, List}
use Rattle.contexts.specs.Policies.{ContextPolicy}
use Rattle.jo_prog.specs.declared.program.Program.{Program}
use Rattle.dependence.specs.declared.facts.Fact.{Fact}
use Rattle.dependence.specs.FactRules
use Rattle.dependence.specs.FactRules.{ByRule}
use Rattle.fact_rules.specs.CallRules.{ByCall, is_called, comes_back, comes_out, waits}

pub call_by_rule : (program : Program) (policy : ContextPolicy) (H : ℕ → ℕ → ℕ → Type 0) (entry : ℕ) (facts : Fact (List ℕ) → Type 0) (g : Fact (List ℕ)) → ByCall facts g → ByRule program policy H entry facts g
call_by_rule program policy H entry facts _ (is_called i j pc runs takes) = FactRules.is_called i j pc runs takes
call_by_rule program policy H entry facts _ (comes_back i j pc o runs takes has) = FactRules.comes_back i j pc o runs takes has
call_by_rule program policy H entry facts _ (comes_out i j pc o runs takes has) = FactRules.comes_out i j pc o runs takes has
call_by_rule program policy H entry facts _ (waits i j pc runs takes stalls) = FactRules.waits i j pc runs takes stalls
