use Rattle.jo_prog.specs.TypingPaths.{HasHeightAt}
use Rattle.method_views.specs.Heights.{HeightIs}
use Rattle.points_to.proofs.HeightLemmas.{graph_at}
use Rattle.points_to.proofs.tables.table_of.Goals as goal

pub returns-clause-table : goal.returns-clause-table
returns-clause-table c =
    record {
      graph = graph_at c.args.program.now c.args.method (HeightIs c.args.typed.now) (HasHeightAt c.args.program.now c.args.method) c.in-Ok.wide c.requires.heights c.in-Ok.ensures.graph;
      uses = c.in_ok-uses.ensures;
      by_node = c.in_ok-by_node.ensures;
      few = c.in-Ok.ensures.few;
    }
