use Rattle.std.proofs.Common.{rules, ◌≡◌, true, [], ◌∷◌, ◌++◌}
use Rattle.jo_ids.specs.Rows.{has_number}
use Rattle.instance_flows.proofs.PartLemmas.{adds_found}
use Rattle.instance_flows.proofs.parts.add_if_found.Goals as goal

pub returns : goal.returns
returns c =
    let is : has_number c.args.found.now c.args.number ≡ true = search rules in
    let made : c.push_new.new.self ≡ c.args.numbers.now ++ c.args.number ∷ [] = search rules in
    adds_found c.args.found.now c.args.number c.args.numbers.now c.push_new.new.self is made
