use Rattle.std.proofs.Common.{◌↔◌, ℕ, List, Bool, sym, subst}
use Rattle.jo_ids.specs.Path.{Path}
use Rattle.dependence.specs.FlowData.{EdgeIn}
use Rattle.instance_flows.specs.Parts.{IsFound}
use Rattle.instance_flows.proofs.PartLemmas.{reached_is}
use Rattle.instance_flows.proofs.parts.reached_from.Goals as goal

pub returns-clause-each : goal.returns-clause-each
returns-clause-each c =
    let flow = c.args.flow.now in
    let start = c.args.start in
    subst (λ (found : List Bool). (n : ℕ) → IsFound found n ↔ Path (EdgeIn flow) start n) (sym c.set.ensures.set) (reached_is flow start c.reach_behind.new.found c.requires c.reach_behind.ensures.found)
