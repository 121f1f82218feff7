use Rattle.std.proofs.Common.{◌≡◌, inl, inr, subst}
use Rattle.sdg.specs.Links.{link, by_word}
use Rattle.sdg.specs.Growth.{LinksAdded}
use Rattle.sdg.proofs.GrowthLemmas.{lacks_end, ends_of, below_of, edge_growing, edge_result}
use Rattle.sdg.proofs.growing.GrowingProgramGraph.add_edge_between.Goals as goal

pub returns-in_default : goal.returns-in_default
returns-in_default c = lacks_end c.args.self.now c.args.from.now c.args.to.now (by_word c.args.word) (inl c.in_default.ensures.absent)

pub returns-in_default-number_of : goal.returns-in_default-number_of
returns-in_default-number_of c = lacks_end c.args.self.now c.args.from.now c.args.to.now (by_word c.args.word) (inr c.in_default-number_of.ensures.absent)

pub invariant_of-self : goal.invariant_of-self
invariant_of-self c =
    edge_growing c.add_edge.result c.self.inside.graph c.add_edge.new.self c.self.inside.nodes c.in-Some.begin c.args.word c.in-Some-number_of.end c.self.invariant
    (below_of c.args.self.now c.self.inside.graph c.self.inside.nodes c.in-Some.begin c.self.view_is c.in-Some.ensures.within) c.add_edge.ensures.ok c.add_edge.ensures.err

pub returns : goal.returns
returns c =
    let rows = c.self.inside.graph in
    let nodes = c.self.inside.nodes in
    subst (λ seen. LinksAdded c.add_edge.result seen (record { rows = c.add_edge.new.self; nodes = nodes }) (λ l. l ≡ link c.args.from.now (by_word c.args.word) c.args.to.now)) c.self.view_is
    (edge_result c.add_edge.result rows c.add_edge.new.self nodes c.in-Some.begin c.in-Some-number_of.end c.args.from.now c.args.to.now c.args.word
    (ends_of c.args.self.now rows nodes c.in-Some.begin c.in-Some-number_of.end c.args.from.now c.args.to.now c.self.view_is c.self.invariant c.in-Some.ensures.found c.in-Some-number_of.ensures.found)
    c.add_edge.ensures.ok c.add_edge.ensures.err c.add_edge.ensures.limit)
