use Rattle.std.proofs.Common.{◌≡◌, ℕ, List, [], replicate, sym, ◌∙◌, ap, subst, arith}
use Rattle.jo_graph.specs.Queues.{LeadsInside}
use Rattle.jo_graph.proofs.GraphLemmas.{empty_leads_inside}
use Rattle.jo_graph.proofs.Digraph.new.Goals as goal

pub invariant_of-result : goal.invariant_of-result
invariant_of-result c = subst LeadsInside (sym c.loop.invariant) (empty_leads_inside c.loop.counter)

pub returns : goal.returns
returns c =
    let all : c.loop.counter ≡ c.args.len = omega arith in
    c.loop.invariant ∙ ap (λ n. replicate {A = List ℕ} n []) all
