use Rattle.std.proofs.Common.{◌≡◌, ◌<◌, ◌^◌, ◌++◌, ◌∷◌, [], rules, subst, sym, arith}
use Rattle.dependence.specs.FlowData.{IsFlow, bare}
use Rattle.dependence.proofs.FlowLemmas.{flow_with_node}
use Rattle.dependence.proofs.flows.Flow.add_node.Goals as goal
use Rattle.dependence.proofs.flows.Flow.add_node.Goals.{in-Ok, in-Err}

pub invariant_of-self : goal.invariant_of-self
invariant_of-self c =
    elim c.match-push.branch [
      | in-Ok w ↦
          let made : c.push.new.self.items ≡ c.self.inside.rows.items ++ bare c.args.node ∷ [] = search rules in
          let few : c.push.new.self.len < 2 ^ 32 = search rules in
          flow_with_node c.self.inside.rows.items c.push.new.self.items c.args.node c.self.inside.rows.len c.push.new.self.len c.self.invariant few made
      | in-Err w ↦
          let made : c.push.new.self.items ≡ c.self.inside.rows.items = search rules in
          let few : c.push.new.self.len < 2 ^ 32 = search rules in
          subst (λ xs. IsFlow xs c.push.new.self.len) (sym made) (record { few = few; rows = c.self.invariant.rows })
    ]
