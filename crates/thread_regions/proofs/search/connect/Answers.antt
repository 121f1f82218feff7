use Rattle.std.proofs.Common.{ℕ, subst}
use Rattle.std.proofs.lemmas.Result.{on_ok_weaker}
use Rattle.jo_graph.specs.Graphs.{AddsEdge}
use Rattle.thread_regions.specs.Searches.{number_of}
use Rattle.thread_regions.proofs.SpotLemmas.{adds_one}
use Rattle.thread_regions.proofs.search.connect.Goals as goal

pub returns : goal.returns
returns c =
    let old = c.args.search.now in
    let new = c.add.new.self in
    on_ok_weaker c.add.result
    (λ adds. adds_one old new c.args.from c.args.to
    (subst (λ (n : ℕ). AddsEdge old new (number_of c.args.from) n) c.number-2.ensures (subst (λ (n : ℕ). AddsEdge old new n c.number-2.result) c.number.ensures adds)))
    c.add.ensures.ok
