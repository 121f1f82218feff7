use Rattle.std.proofs.Common.{◌≡◌, true, false}
use Rattle.plain_graph.specs.Slices.{is_marked, mark_at, distance_of}
use Rattle.plain_graph.proofs.SlicerLemmas.{marking-set}
use Rattle.plain_graph.proofs.slicer.follow_back.Goals as goal

pub returns-clause-marking : goal.returns-clause-marking
returns-clause-marking c =
    let e = c.args.edge in
    let end : is_marked (mark_at c.args.marks.now.items e.to) ≡ true = cc in
    let begin : is_marked (mark_at c.args.marks.now.items e.from) ≡ false = cc in
    let at : c.number.result ≡ e.from = cc in
    let far : c.distance-distance.result ≡ distance_of (mark_at c.args.marks.now.items e.to) = cc in
    rw at (marking-set c.args.graph.now c.args.marks.now.items e.from e.to c.distance-distance.result e.kind c.requires.marking c.requires.of_graph c.requires.inside end begin far)
