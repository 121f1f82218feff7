use Rattle.std.specs.Prelude.{◌↔◌}
use Rattle.std.proofs.Common.{◌≡◌, IsTrue, sym, ◌∙◌, ap, subst}
use Rattle.std.proofs.lemmas.Option.{same_Some}
use Rattle.jo_prog.specs.TypingPaths.{HasHeightAt}
use Rattle.jo_prog.specs.Sites.{opcode_of}
use Rattle.dependence.specs.NodePlaces.{named_by}
use Rattle.dependence.specs.declared.facts.Fact.TheVariants.{Holds}
use Rattle.dependence.specs.FlowGraph.{AnObject}
use Rattle.object_types.proofs.MadeLemmas.{if_ok_more}
use Rattle.instance_flows.specs.BySite.{BySite}
use Rattle.instance_flows.specs.Raising.{alone, ObjectRaises, OperandRaises}
use Rattle.instance_flows.proofs.NullLemmas.{kind_says}
use Rattle.instance_flows.proofs.UseLemmas.{call_here, resolved_here, value_object}
use Rattle.instance_flows.proofs.raising.value_raises.Goals as goal

pub some_object_raises-requires-clause-call : goal.some_object_raises-requires-clause-call
some_object_raises-requires-clause-call g c =
    call_here c.args.program.now c.args.method (HasHeightAt c.args.program.now c.args.method) c.args.wide.now c.requires.graph c.args.u.now c.args.pc c.args.insn c.requires.at

pub some_object_raises-requires-clause-resolved : goal.some_object_raises-requires-clause-resolved
some_object_raises-requires-clause-resolved g c =
    resolved_here c.args.program.now c.args.method (HasHeightAt c.args.program.now c.args.method) c.args.wide.now c.requires.graph c.args.u.now c.args.pc c.args.insn c.requires.at c.node-2.result.now c.node-2.ensures

pub returns : goal.returns
returns g c =
    let program = c.args.program.now in
    let m = c.args.method in
    let insn = c.args.insn in
    let v = c.args.u.now.place in
    let facts = BySite c.args.facts.now c.args.instance in
    let node = c.node.result.now in
    if_ok_more c.some_object_raises.result
    (λ raises told d at.
    let kind = same_Some node.kind d (sym (kind_says c.args.wide.now c.args.u.now.from node c.node.ensures) ∙ at) in
    let holder : c.named_by-holder.result ≡ named_by d v = c.named_by-holder.ensures ∙ ap (λ k. named_by k v) kind in
    value_object program (HasHeightAt program m) m (opcode_of insn) d v facts c.args.pc c.operand_raises.result raises c.if-operand_raises.false
    (subst (λ op. IsTrue c.operand_raises.result ↔ OperandRaises program (HasHeightAt program m) m op d v) c.opcode_of.ensures (c.operand_raises.ensures d at))
    (subst (λ k. IsTrue raises ↔ ((o : AnObject) × facts (Holds (alone m) k o) × ObjectRaises program m c.args.pc (opcode_of insn) o)) holder told))
    c.some_object_raises.ensures
