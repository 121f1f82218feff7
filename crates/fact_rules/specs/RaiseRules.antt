-- The rule of ByRaise, pair by pair (this project's own form).
use Rattle.std.specs.Prelude.{◌≡◌, ℕ, List, Some}
use Rattle.jo_prog.specs.declared.program.Program.{Program}
use Rattle.jo_prog.specs.Sites.{class_raised}
use Rattle.contexts.specs.Policies.{ContextPolicy}
use Rattle.dep_nodes.specs.declared.kinds.NodeKind.TheVariants.{Throw}
use Rattle.dependence.specs.declared.facts.InstKey.{InstKey}
use Rattle.dependence.specs.declared.facts.Fact.{Fact}
use Rattle.dependence.specs.declared.facts.Fact.TheVariants.{Holds}
use Rattle.dependence.specs.FactRules.{SiteAt, object_at}
use Rattle.method_views.specs.declared.raised.Raised.{Raised}

-- the exception that the machine makes there is thrown there
pub record ThrowsRaised (program : Program) (policy : ContextPolicy) (i : InstKey (List ℕ)) (r : Raised) (g : Fact (List ℕ)) : Type 0 where
  pub site : ℕ
  pub is_site : SiteAt program i.method r.pc (Some (class_raised r.cause)) site
  pub is : g ≡ Holds i (Throw r.pc) (object_at site (policy.heap i.context site))
