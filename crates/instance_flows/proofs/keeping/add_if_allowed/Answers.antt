use Rattle.std.proofs.lemmas.Result.{on_ok_weaker}
use Rattle.instance_flows.proofs.NullLemmas.{kind_says}
use Rattle.instance_flows.proofs.KeepLemmas.{allowed_one}
use Rattle.std.proofs.Common.{rules, ◌≡◌, true}
use Rattle.instance_flows.proofs.keeping.add_if_allowed.Goals as goal

pub returns : goal.returns
returns c =
    let wide = c.args.wide.now in
    let node = c.node.result.now in
    let sure : c.allows.result ≡ true = search rules in
    on_ok_weaker c.add.result (λ made. allowed_one wide c.args.keeps.now c.args.end node.kind c.args.ends.now c.add.new.list (kind_says wide c.args.end node c.node.ensures) (c.allows.ensures.0 sure) made) c.add.ensures
