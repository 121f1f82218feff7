use Rattle.std.proofs.Common.{◌≡◌, ◌∙◌, rules}
use Rattle.jo_order.specs.Flowing.{flows}
use Rattle.jo_policy.proofs.whole.Policy.flows.Goals as goal

pub returns : goal.returns
returns c =
    let found : c.flows.result ≡ flows c.args.self.now.order c.args.a c.args.b = search rules in
    found ∙ c.args.self.now.flowing c.args.a c.args.b
