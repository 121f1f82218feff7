use Rattle.std.proofs.Common.{[], sym, subst}
use Rattle.dependence.specs.FlowData.{AreUses}
use Rattle.method_views.proofs.TableLemmas.{no_nodes_no_uses}
use Rattle.method_views.proofs.tests.a_graph_without_nodes_has_no_uses.Goals as goal

pub build-requires : goal.build-requires
build-requires g c = subst (λ rows. AreUses rows []) (sym c.new-wide.ensures) no_nodes_no_uses
