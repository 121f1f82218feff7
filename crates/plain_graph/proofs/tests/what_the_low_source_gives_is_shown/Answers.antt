use Rattle.std.proofs.Common.{sym, subst}
use Rattle.jo_prog.specs.PlainCode.{IsPlainProgram}
use Rattle.jo_prog.specs.Worked.{worked_program}
use Rattle.plain_graph.proofs.ChainWalks.{edges_inside}
use Rattle.plain_graph.proofs.WorkedPlain.{worked_is_plain}
use Rattle.plain_graph.proofs.tests.what_the_low_source_gives_is_shown.Goals as goal

pub build-requires-clause-plain : goal.build-requires-clause-plain
build-requires-clause-plain g c =
    subst (λ p. IsPlainProgram p c.in_ok-labels.labels) (sym c.in_ok-program.ensures) (subst (λ l. IsPlainProgram worked_program l) (sym c.in_ok-labels.ensures) worked_is_plain)

pub walk-requires-clause-edges : goal.walk-requires-clause-edges
walk-requires-clause-edges g c = edges_inside c.in_ok-program.program c.in_ok-labels.labels c.in_ok-graph.graph c.in_ok-graph.ensures

pub walk-requires-2-clause-edges : goal.walk-requires-2-clause-edges
walk-requires-2-clause-edges g c = edges_inside c.in_ok-program.program c.in_ok-labels.labels c.in_ok-graph.graph c.in_ok-graph.ensures
