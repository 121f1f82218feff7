use Rattle.std.proofs.Common.{ℕ, sym, subst}
use Rattle.std.proofs.lemmas.Result.{on_ok_weaker}
use Rattle.fact_sets.specs.Seen.{Known, Listed, instance_seen}
use Rattle.fact_rules.specs.Adds.{Adds}
use Rattle.fact_rules.specs.Places.{instance_of}
use Rattle.fact_rules.specs.TargetRules.{CallGivesFor, InsnGives}
use Rattle.fact_rules.proofs.AddsLemmas.{adds_none}
use Rattle.fact_rules.proofs.TargetLemmas.{insn_is, insn_nothing}
use Rattle.fact_rules.proofs.target_rules.follow_insn.Goals as goal

pub returns-in_default-member_named : goal.returns-in_default-member_named
returns-in_default-member_named g c =
    let view = c.args.view.now in
    let program = view.program.now in
    let list = g.X.Contexts.list in
    let facts = Known list c.args.facts.now in
    let i = instance_seen list (instance_of view.method c.args.context) in
    let policy = g.X.Contexts.policy c.args.contexts.now in
    let node = c.args.node.now in
    adds_none (Listed list c.args.following.now.items) (InsnGives program facts i c.args.pc policy node.insn node.method)
    (insn_nothing program facts i c.args.pc policy node.method c.in-Some.insn node.insn c.in-Some.is (sym (c.in_default-member_named.ensures 0)))

pub returns : goal.returns
returns g c =
    let view = c.args.view.now in
    let program = view.program.now in
    let list = g.X.Contexts.list in
    let facts = Known list c.args.facts.now in
    let i = instance_seen list (instance_of view.method c.args.context) in
    let policy = g.X.Contexts.policy c.args.contexts.now in
    let node = c.args.node.now in
    let member = c.in-Some-member_named.member.now in
    let old = Listed list c.args.following.now.items in
    let new = Listed list c.follow_called.new.following.items in
    on_ok_weaker c.follow_called.result
    (λ adds.
    insn_is program facts i c.args.pc policy node.method old new c.in-Some.insn member node.insn c.in-Some.is (sym (c.in-Some-member_named.ensures 0))
    (subst (λ (op : ℕ). Adds old new (CallGivesFor program facts i c.args.pc policy op member node.method)) c.opcode_of.ensures adds))
    c.follow_called.ensures
