use Rattle.std.proofs.Common.{rules, ◌≡◌, true, []}
use Rattle.jo_prog.specs.Sites.{opcode_of}
use Rattle.dependence.specs.WideGraph.{is_call}
use Rattle.flow_graph.proofs.UseLemmas.{named_as, not_named}
use Rattle.flow_graph.proofs.node_places.call_named.Goals as goal

pub returns-in-Some : goal.returns-in-Some
returns-in-Some c = λ next.
    let call : is_call (opcode_of c.args.insn) ≡ true = search rules in
    named_as c.args.program.now c.args.method [] c.opcode_of-op.result c.in-Some.member.now next c.args.insn c.opcode_of-op.ensures call (c.in-Some.ensures next)

pub returns-in-None : goal.returns-in-None
returns-in-None c = λ next.
    let call : is_call (opcode_of c.args.insn) ≡ true = search rules in
    not_named c.args.program.now c.args.method [] next c.args.insn call (c.in-None.ensures next)
