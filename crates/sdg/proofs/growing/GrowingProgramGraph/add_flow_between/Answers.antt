use Rattle.std.proofs.Common.{◌≡◌, inl, inr, subst, sym}
use Rattle.sdg.specs.Growing.{IsGrowing}
use Rattle.sdg.specs.Links.{link, by_flow}
use Rattle.sdg.specs.Growth.{LinksAdded}
use Rattle.sdg.proofs.GrowthLemmas.{lacks_end, ends_of, below_of, flow_grows, flow_done, flow_refused}
use Rattle.sdg.proofs.growing.GrowingProgramGraph.add_flow_between.Goals as goal
use Rattle.sdg.proofs.growing.GrowingProgramGraph.add_flow_between.Goals.{in-Ok, in-Err}

pub returns-in_default : goal.returns-in_default
returns-in_default c = lacks_end c.args.self.now c.args.from.now c.args.to.now by_flow (inl c.in_default.ensures.absent)

pub returns-in_default-number_of : goal.returns-in_default-number_of
returns-in_default-number_of c = lacks_end c.args.self.now c.args.from.now c.args.to.now by_flow (inr c.in_default-number_of.ensures.absent)

pub invariant_of-self : goal.invariant_of-self
invariant_of-self c =
    elim c.match-add_flow.branch [
      | in-Ok w ↦ flow_grows c.self.inside.graph c.add_flow.new.self c.self.inside.nodes c.in-Some.begin c.in-Some-number_of.end c.self.invariant
          (below_of c.args.self.now c.self.inside.graph c.self.inside.nodes c.in-Some-number_of.end c.self.view_is c.in-Some-number_of.ensures.within) w.in-Ok.ensures.ok
      | in-Err w ↦ subst (λ rows. IsGrowing rows c.self.inside.nodes) (sym w.in-Err.ensures.err) c.self.invariant
    ]

pub returns : goal.returns
returns c =
    let rows = c.self.inside.graph in
    let new = c.add_flow.new.self in
    let nodes = c.self.inside.nodes in
    subst (λ seen. LinksAdded c.match-add_flow.result seen (record { rows = new; nodes = nodes }) (λ l. l ≡ link c.args.from.now by_flow c.args.to.now)) c.self.view_is
    (elim c.match-add_flow.branch [
      | in-Ok w ↦ rw w.result-is (flow_done rows new nodes c.in-Some.begin c.in-Some-number_of.end c.args.from.now c.args.to.now
          (ends_of c.args.self.now rows nodes c.in-Some.begin c.in-Some-number_of.end c.args.from.now c.args.to.now c.self.view_is c.self.invariant c.in-Some.ensures.found c.in-Some-number_of.ensures.found) w.in-Ok.ensures.ok)
      | in-Err w ↦ rw w.result-is (flow_refused rows new nodes c.args.from.now c.args.to.now w.in-Err.ensures.err)
    ])
