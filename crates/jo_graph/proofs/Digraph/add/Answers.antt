use Rattle.std.proofs.Common.{◌<◌, [], ◌++◌, ◌∷◌, length, set, inl, inr, ◌∙◌, ap, subst, arith}
use Rattle.std.proofs.lemmas.List.{get_or_read}
use Rattle.jo_graph.specs.Graphs.{AddsEdge}
use Rattle.jo_graph.proofs.GraphLemmas.{adds_edge, set_leads_inside}
use Rattle.jo_graph.proofs.Digraph.add.Goals as goal
use Rattle.jo_graph.proofs.Digraph.add.Goals.{in-Ok, in-Err}

pub invariant_of-self : goal.invariant_of-self
invariant_of-self c =
    let graph = c.self.inside.successors.items in
    let from : c.args.a < length graph = omega (arith, ap length c.self.view_is, c.requires.from) in
    let to : c.args.b < length graph = omega (arith, ap length c.self.view_is, c.requires.to) in
    let old = get_or_read graph c.args.a c.index_mut.result.now from c.index_mut.ensures.value [] in
    elim c.match-push.branch [
      | in-Ok w ↦ let e = w.in-Ok.ensures.ok in set_leads_inside graph c.args.a c.args.b c.push.new.self c.self.invariant from to (inl (e ∙ ap (λ ns. ns ++ c.args.b ∷ []) old))
      | in-Err w ↦ let e = w.in-Err.ensures.err in set_leads_inside graph c.args.a c.args.b c.push.new.self c.self.invariant from to (inr (e ∙ old))
    ]

pub returns-clause-ok : goal.returns-clause-ok
returns-clause-ok c =
    let graph = c.self.inside.successors.items in
    let from : c.args.a < length graph = omega (arith, ap length c.self.view_is, c.requires.from) in
    let old = get_or_read graph c.args.a c.index_mut.result.now from c.index_mut.ensures.value [] in
    elim c.match-push.branch [
      | in-Ok w ↦
          let e = w.in-Ok.ensures.ok in
          rw w.result-is (subst (λ g. AddsEdge g (set graph c.args.a c.push.new.self) c.args.a c.args.b) c.self.view_is
          (adds_edge graph c.args.a c.args.b c.push.new.self from (e ∙ ap (λ ns. ns ++ c.args.b ∷ []) old)))
      | in-Err w ↦ rw w.result-is tt
    ]
