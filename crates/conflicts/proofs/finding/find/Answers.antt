use Rattle.std.proofs.Common.{List, Some, None, subst}
use Rattle.thread_regions.specs.declared.tables.ForkRegions.{ForkRegions}
use Rattle.conflicts.specs.Finding.{IsOrderAmong, IsDataAmong}
use Rattle.conflicts.proofs.FoundLemmas.{order_found, data_found}
use Rattle.conflicts.proofs.finding.find.Goals as goal

pub returns-in-Some : goal.returns-in-Some
returns-in-Some c =
    let found : IsOrderAmong c.args.regions.now c.args.visible.now (Some c.in-Some.conflict) =
    subst (λ (fs : List ForkRegions). IsOrderAmong fs c.args.visible.now (Some c.in-Some.conflict)) c.as_slice.ensures c.in-Some.ensures in
    order_found c.args.graph.now c.args.regions.now c.requires.regions c.args.visible.now c.args.leads.now c.in-Some.conflict found

pub returns-in-None : goal.returns-in-None
returns-in-None c =
    let none : IsOrderAmong c.args.regions.now c.args.visible.now None =
    subst (λ (fs : List ForkRegions). IsOrderAmong fs c.args.visible.now None) c.as_slice.ensures c.in-None.ensures in
    let among : IsDataAmong c.args.graph.now c.args.regions.now c.args.leads.now c.data_conflict.result =
    subst (λ (fs : List ForkRegions). IsDataAmong c.args.graph.now fs c.args.leads.now c.data_conflict.result) c.as_slice-in-None.ensures c.data_conflict.ensures in
    data_found c.args.graph.now c.args.regions.now c.requires.regions c.args.visible.now c.args.leads.now c.data_conflict.result none among
