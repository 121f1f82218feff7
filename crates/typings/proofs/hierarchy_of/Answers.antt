use Rattle.std.proofs.Common.{rules, ◌≡◌, true}
use Rattle.typings.proofs.hierarchy_of.Goals as goal

pub build-requires-clause-there : goal.build-requires-clause-there
build-requires-clause-there c =
    let yes : c.has_its_parents.result ≡ true = search rules in
    c.has_its_parents.ensures.0 yes
