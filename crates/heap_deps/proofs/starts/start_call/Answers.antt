use Rattle.std.specs.Option.{option_copied}
use Rattle.std.proofs.Common.{rules, ◌≡◌, ◌==◌, true, false, None, Some, sym, ap, ◌∙◌, subst}
use Rattle.std.proofs.lemmas.Bool.{both_ways}
use Rattle.jo_text.specs.Descriptors.{IsMethodDesc}
use Rattle.jo_prog.specs.Sites.{opcode_of}
use Rattle.dependence.specs.WideGraph.{operand_of, is_call}
use Rattle.method_views.specs.Standing.{ref_in}
use Rattle.heap_deps.proofs.StartLemmas.{no_member, not_described, start_call}
use Rattle.heap_deps.proofs.starts.start_call.Goals as goal

pub returns-in_default : goal.returns-in_default
returns-in_default c =
    let program = c.args.program.now in
    let m = c.args.method in
    let (next, found) = c.requires.stands in
    let none : ref_in (operand_of program m (Some (c.args.insn, next))) ≡ None = sym (c.member_named.ensures next) ∙ ap option_copied c.in_default.is in
    no_member program m c.args.pc next c.args.insn found none

pub returns-then-branch : goal.returns-then-branch
returns-then-branch c =
    let program = c.args.program.now in
    let m = c.args.method in
    let insn = c.args.insn in
    let (next, found) = c.requires.stands in
    let ref = c.in-Some.member.now in
    let names : ref_in (operand_of program m (Some (insn, next))) ≡ Some ref = sym (c.member_named.ensures next) ∙ ap option_copied c.in-Some.is in
    let sure : c.calls_instance.result ≡ true = search rules in
    let has : c.has_site.result ≡ true = search rules in
    let calls : (is_call (opcode_of insn) ≡ true) × ((opcode_of insn == 184) ≡ false) = subst (λ op. (is_call op ≡ true) × ((op == 184) ≡ false)) c.opcode_of.ensures (c.calls_instance.ensures.0 sure) in
    let described : IsMethodDesc ref.desc = subst IsMethodDesc c.as_slice.ensures (c.in_ok-is_described.ensures.0 c.if-branch.true) in
    start_call program m c.args.pc next insn found ref names calls (c.has_site.ensures.0 has) described

pub returns-else-branch : goal.returns-else-branch
returns-else-branch c =
    let program = c.args.program.now in
    let m = c.args.method in
    let insn = c.args.insn in
    let (next, found) = c.requires.stands in
    let ref = c.in-Some.member.now in
    let names : ref_in (operand_of program m (Some (insn, next))) ≡ Some ref = sym (c.member_named.ensures next) ∙ ap option_copied c.in-Some.is in
    not_described program m c.args.pc next insn found ref names
    (λ described. both_ways c.in_ok-is_described.field-0 c.if-branch.false (c.in_ok-is_described.ensures.1 (subst IsMethodDesc (sym c.as_slice.ensures) described)))
