use Rattle.std.proofs.Common.{rules, ◌≡◌, true, None, Some, sym, ◌∙◌, ap}
use Rattle.std.specs.Option.{option_copied}
use Rattle.jo_prog.specs.declared.sites.Cause.TheVariants.{FailingCast}
use Rattle.jo_prog.specs.Sites.{opcode_of, may_raise}
use Rattle.dependence.specs.WideGraph.{operand_of}
use Rattle.dependence.specs.FlowGraph.{type_in}
use Rattle.instance_flows.proofs.ObjectLemmas.{cast_told, unnamed_cast}
use Rattle.instance_flows.proofs.objects.cast_fails.Goals as goal

pub returns-in-Some : goal.returns-in-Some
returns-in-Some c = λ o e.
    let program = c.args.program.now in
    let m = c.args.method in
    let next = c.requires.stands.0 in
    let may : may_raise FailingCast (opcode_of c.args.insn) ≡ true = search rules in
    let named : type_in (operand_of program m (Some (c.args.insn, next))) ≡ Some c.in-Some.named.now = sym (c.type_named.ensures next) ∙ ap option_copied c.in-Some.is in
    cast_told program m c.args.pc next c.args.insn c.requires.stands.1 o c.in-Some.named.now c.fails_to_fit.result may named (c.fails_to_fit.ensures o e)

pub returns-in-None : goal.returns-in-None
returns-in-None c = λ o e.
    let program = c.args.program.now in
    let m = c.args.method in
    let next = c.requires.stands.0 in
    let unnamed : type_in (operand_of program m (Some (c.args.insn, next))) ≡ None = sym (c.type_named.ensures next) ∙ ap option_copied c.in-None.is in
    unnamed_cast program m c.args.pc next c.args.insn c.requires.stands.1 o unnamed
