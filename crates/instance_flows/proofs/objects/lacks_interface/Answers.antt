use Rattle.std.proofs.Common.{rules, ◌≡◌, true, None, Some, sym, ◌∙◌, ap}
use Rattle.std.specs.Option.{option_copied}
use Rattle.jo_prog.specs.declared.sites.Cause.TheVariants.{MissingInterface}
use Rattle.jo_prog.specs.Sites.{opcode_of, may_raise}
use Rattle.dependence.specs.WideGraph.{operand_of}
use Rattle.flow_graph.specs.NodeUses.{ref_in}
use Rattle.instance_flows.proofs.OpcodeLemmas.{interface_calls}
use Rattle.instance_flows.proofs.ObjectLemmas.{lacks_told, unnamed_lacks}
use Rattle.instance_flows.proofs.objects.lacks_interface.Goals as goal

pub returns-in-Some : goal.returns-in-Some
returns-in-Some c = λ o e.
    let program = c.args.program.now in
    let m = c.args.method in
    let next = c.requires.call.next in
    let may : may_raise MissingInterface (opcode_of c.args.insn) ≡ true = search rules in
    let named : ref_in (operand_of program m (Some (c.args.insn, next))) ≡ Some c.in-Some.member.now = sym (c.member_named.ensures next) ∙ ap option_copied c.in-Some.is in
    lacks_told program m c.args.pc next c.args.insn c.requires.call.stands o (c.requires.call.calls (interface_calls (opcode_of c.args.insn) may)) c.in-Some.member.now c.fails_to_fit.result may named (c.fails_to_fit.ensures o e)

pub returns-in-None : goal.returns-in-None
returns-in-None c = λ o e.
    let program = c.args.program.now in
    let m = c.args.method in
    let next = c.requires.call.next in
    let unnamed : ref_in (operand_of program m (Some (c.args.insn, next))) ≡ None = sym (c.member_named.ensures next) ∙ ap option_copied c.in-None.is in
    unnamed_lacks program m c.args.pc next c.args.insn c.requires.call.stands o unnamed
