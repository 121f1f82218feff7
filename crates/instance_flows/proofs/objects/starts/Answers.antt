use Rattle.std.proofs.Common.{rules, ◌≡◌, ◌↔◌, IsTrue, true, None, Some, sym, ◌∙◌, ap, subst}
use Rattle.std.specs.Option.{option_copied}
use Rattle.jo_prog.specs.declared.sites.Cause.TheVariants.{SecondStart}
use Rattle.jo_prog.specs.Sites.{opcode_of, may_raise}
use Rattle.dependence.specs.WideGraph.{operand_of, resolved_at}
use Rattle.dependence.specs.FlowGraph.{type_of_object}
use Rattle.flow_graph.specs.NodeUses.{ref_in}
use Rattle.instance_flows.specs.Raising.{TakesStartOf}
use Rattle.instance_flows.proofs.OpcodeLemmas.{start_calls}
use Rattle.instance_flows.proofs.ObjectLemmas.{starts_told, unnamed_starts}
use Rattle.instance_flows.proofs.objects.starts.Goals as goal

pub returns-in-Some-member_named : goal.returns-in-Some-member_named
returns-in-Some-member_named c = λ o e.
    let program = c.args.program.now in
    let m = c.args.method in
    let insn = c.args.insn in
    let next = c.requires.call.next in
    let ref = c.in-Some-member_named.member.now in
    let may : may_raise SecondStart (opcode_of insn) ≡ true = search rules in
    let named : ref_in (operand_of program m (Some (insn, next))) ≡ Some ref = sym (c.member_named.ensures next) ∙ ap option_copied c.in-Some-member_named.is in
    let own : type_of_object program o ≡ Some c.in-Some.own.now = e ∙ ap option_copied c.in-Some.is in
    let resolves : resolved_at program m c.args.pc ≡ Some c.in-Some-resolved.resolved = sym c.requires.resolved ∙ c.in-Some-resolved.is in
    let told : IsTrue c.takes_start.result ↔ TakesStartOf program m (opcode_of insn) ref.owner c.in-Some-resolved.resolved c.in-Some.own.now = subst (λ op. IsTrue c.takes_start.result ↔ TakesStartOf program m op ref.owner c.in-Some-resolved.resolved c.in-Some.own.now) c.opcode_of-op.ensures c.takes_start.ensures in
    starts_told program m c.args.pc next insn c.requires.call.stands o (c.requires.call.calls (start_calls (opcode_of insn) may)) ref c.in-Some.own.now c.in-Some-resolved.resolved c.takes_start.result may named own resolves told

pub returns-in-None : goal.returns-in-None
returns-in-None c = λ o e.
    let program = c.args.program.now in
    let m = c.args.method in
    let next = c.requires.call.next in
    let unnamed : ref_in (operand_of program m (Some (c.args.insn, next))) ≡ None = sym (c.member_named.ensures next) ∙ ap option_copied c.in-None.is in
    unnamed_starts program m c.args.pc next c.args.insn c.requires.call.stands o unnamed
