use Rattle.std.proofs.Common.{OnOk, Option, Some, sym, subst}
use Rattle.std.proofs.lemmas.Result.{on_ok_weaker}
use Rattle.contexts.specs.Policies.{receiver_at}
use Rattle.fact_sets.specs.Seen.{Known, Listed, instance_seen, object_seen}
use Rattle.fact_rules.specs.Adds.{Adds}
use Rattle.fact_rules.specs.Callees.{entered}
use Rattle.fact_rules.specs.Places.{instance_of}
use Rattle.fact_rules.specs.declared.callees.Callee.{Callee}
use Rattle.fact_rules.specs.TargetRules.{EntryGives, CalleeGives, CalleeGivesIf}
use Rattle.fact_rules.proofs.AddsLemmas.{adds_alike}
use Rattle.fact_rules.proofs.TargetLemmas.{by_one}
use Rattle.fact_rules.proofs.target_rules.add_callee.Goals as goal

pub returns : goal.returns
returns g c =
    let view = c.args.view.now in
    let program = view.program.now in
    let list = g.X.Contexts.list in
    let policy = g.X.Contexts.policy c.args.contexts.now in
    let facts = Known list c.args.facts.now in
    let i = instance_seen list (instance_of view.method c.args.context) in
    let o = object_seen list c.args.object.now in
    let pc = c.args.pc in
    let callee = c.in-Some.callee in
    let to = instance_seen list c.in-Some-entered_by.to in
    let old = Listed list c.args.following.now.items in
    let new = Listed list c.add_entry.new.following.items in
    subst (λ (x : Option Callee). OnOk c.add_entry.result (Adds old new (CalleeGivesIf program facts i pc policy o x))) (sym c.in-Some.is)
    (on_ok_weaker c.add_entry.result
    (λ adds.
    adds_alike old new (EntryGives program facts i pc o callee.fork to) (CalleeGives program facts i pc policy o callee) (adds list g.met.X.Contexts.equal_lists)
    (by_one (entered program policy i pc callee.method (Some (receiver_at o.site o.context))) to (EntryGives program facts i pc o callee.fork) (sym c.in-Some-entered_by.ensures)))
    c.add_entry.ensures)
