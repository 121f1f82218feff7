use Rattle.std.proofs.Common.{◌≡◌, sym, ◌∙◌, ap, rules}
use Rattle.jo_prog.specs.Labels.{label_among}
use Rattle.jo_policy.specs.Labelling.{table_at}
use Rattle.jo_policy.proofs.Tables.{label_in_order}
use Rattle.jo_policy.proofs.whole.Policy.label.Goals as goal

pub returns : goal.returns
returns c =
    let found : c.label_at.result ≡ table_at c.args.self.now.by_method.items c.args.method = search rules in
    found ∙ sym (label_in_order c.args.self.now.by_method.items c.args.method) ∙ ap (λ ls. label_among ls c.args.method) (sym c.args.self.now.labelled)
