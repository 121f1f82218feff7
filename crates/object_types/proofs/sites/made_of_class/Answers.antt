use Rattle.std.proofs.Common.{rules, ◌≡◌, ◌==◌, ◌∙◌, true, false, ap}
use Rattle.std.specs.Prelude.{option_and_then}
use Rattle.jo_prog.specs.Sites.{opcode_of}
use Rattle.dependence.specs.FlowGraph.{array_over}
use Rattle.object_types.proofs.MadeLemmas.{if_ok_more, made_new, made_over}
use Rattle.object_types.proofs.sites.made_of_class.Goals as goal

pub returns-then-opcode_of-eq187 : goal.returns-then-opcode_of-eq187
returns-then-opcode_of-eq187 c =
    let is : (opcode_of c.args.insn == 187) ≡ true = search rules in
    if_ok_more c.copied.result (λ made copy next. copy ∙ c.type_named-named.ensures next ∙ made_new c.args.program.now c.args.method c.args.insn next is) c.copied.ensures

pub returns-else-opcode_of-eq187 : goal.returns-else-opcode_of-eq187
returns-else-opcode_of-eq187 c =
    let is : (opcode_of c.args.insn == 187) ≡ false = search rules in
    if_ok_more c.over_named.result (λ made over next. over ∙ ap (option_and_then (array_over c.args.program.now)) (c.type_named-named.ensures next) ∙ made_over c.args.program.now c.args.method c.args.insn next is) c.over_named.ensures
