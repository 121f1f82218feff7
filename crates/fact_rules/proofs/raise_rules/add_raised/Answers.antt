use Rattle.std.proofs.Common.{◌≡◌, ◌∙◌, ℕ, Some, None, sym, ap}
use Rattle.std.proofs.lemmas.Result.{on_ok_weaker}
use Rattle.jo_ids.specs.declared.ObjKey.{ObjKey}
use Rattle.jo_prog.specs.Sites.{class_raised, sites_of, site_of}
use Rattle.dep_nodes.specs.declared.kinds.NodeKind.TheVariants.{Throw}
use Rattle.dependence.specs.declared.facts.Fact.TheVariants.{Holds}
use Rattle.fact_sets.specs.Seen.{Listed, instance_seen, object_seen}
use Rattle.fact_rules.specs.Places.{instance_of}
use Rattle.fact_rules.specs.RaiseRules.{ThrowsRaised}
use Rattle.fact_rules.proofs.AddsLemmas.{adds_none, adds_alike}
use Rattle.fact_rules.proofs.RaiseLemmas.{siteless, at_site}
use Rattle.fact_rules.proofs.raise_rules.add_raised.Goals as goal

pub returns-in_default : goal.returns-in_default
returns-in_default g c =
    let program = c.args.view.now.program.now in
    let m = c.args.view.now.method in
    let r = c.args.raised.now in
    let policy = g.X.Contexts.policy c.args.contexts.now in
    let list = g.X.Contexts.list in
    let i = instance_seen list (instance_of m c.args.context) in
    let none : site_of (sites_of program.methods) m r.pc (Some (class_raised r.cause)) ≡ None =
    sym (ap (λ sites. site_of sites m r.pc (Some (class_raised r.cause))) program.sites_are) ∙ sym (ap (λ (k : ℕ). site_of program.sites m r.pc (Some k)) c.class_raised-class.ensures) ∙ sym c.site_of.ensures ∙ c.in_default.is in
    adds_none (Listed list c.args.following.now.items) (ThrowsRaised program policy i r) (siteless program policy i r none)

pub returns : goal.returns
returns g c =
    let program = c.args.view.now.program.now in
    let m = c.args.view.now.method in
    let r = c.args.raised.now in
    let policy = g.X.Contexts.policy c.args.contexts.now in
    let list = g.X.Contexts.list in
    let i = instance_seen list (instance_of m c.args.context) in
    let o : ObjKey g.row.X-C.Denot = record { site = c.in-Some.site; context = c.heap.result } in
    let site : site_of (sites_of program.methods) m r.pc (Some (class_raised r.cause)) ≡ Some c.in-Some.site =
    sym (ap (λ sites. site_of sites m r.pc (Some (class_raised r.cause))) program.sites_are) ∙ sym (ap (λ (k : ℕ). site_of program.sites m r.pc (Some k)) c.class_raised-class.ensures) ∙ sym c.site_of.ensures ∙ c.in-Some.is in
    on_ok_weaker c.add_fact.result
    (λ adds.
    adds_alike (Listed list c.args.following.now.items) (Listed list c.add_fact.new.following.items) (λ g. g ≡ Holds i (Throw r.pc) (object_seen list o)) (ThrowsRaised program policy i r) (adds list g.met.X.Contexts.equal_lists)
    (at_site program policy i list r o site c.heap.ensures)) c.add_fact.ensures
