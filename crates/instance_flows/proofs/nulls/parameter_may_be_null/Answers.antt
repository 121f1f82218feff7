use Rattle.std.proofs.Common.{◌↔◌, IsTrue, sym, subst}
use Rattle.jo_prog.specs.TypingPaths.{HasHeightAt}
use Rattle.dep_nodes.specs.declared.kinds.NodeKind.TheVariants.{Entry}
use Rattle.dependence.specs.declared.flow.Place.{Place}
use Rattle.dependence.specs.MayBeNull.{MayBeNull}
use Rattle.instance_flows.proofs.NullLemmas.{parameter_told}
use Rattle.instance_flows.proofs.nulls.parameter_may_be_null.Goals as goal

pub returns-in-Local : goal.returns-in-Local
returns-in-Local c =
    let program = c.args.program.now in
    let m = c.args.method in
    let H = HasHeightAt program m in
    let b = c.local_may_be_null.result in
    subst (λ (v : Place). IsTrue b ↔ MayBeNull program m H Entry v) (sym c.in-Local.is) (parameter_told program m H c.in-Local.local b c.local_may_be_null.ensures)
