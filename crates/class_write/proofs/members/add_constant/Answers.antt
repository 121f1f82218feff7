use Rattle.std.proofs.Common.{List, ◌++◌, ℕ, ap, ◌∙◌, append_assoc}
use Rattle.std.proofs.lemmas.Result.{on_ok_weaker}
use Rattle.class_pool.specs.ClassGrammar.{u2}
use Rattle.class_write.specs.Named.{attribute_named}
use Rattle.class_write.proofs.members.add_constant.Goals as goal

pub returns : goal.returns
returns c =
    let name : List ℕ = attribute_named c.args.name 2 in
    let constant : List ℕ = u2 c.args.constant in
    on_ok_weaker c.add_two.result (λ added. added ∙ ap (λ (bytes : List ℕ). bytes ++ constant) c.in_ok-add_attribute.ensures ∙ append_assoc c.args.out.now.items name constant) c.add_two.ensures
