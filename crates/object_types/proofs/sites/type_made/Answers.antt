use Rattle.std.proofs.Common.{◌∙◌, sym, ap}
use Rattle.dependence.specs.FlowGraph.{type_made}
use Rattle.object_types.proofs.MadeLemmas.{made_is, if_ok_more}
use Rattle.object_types.proofs.sites.type_made.Goals as goal

pub returns-in-Some : goal.returns-in-Some
returns-in-Some c =
    if_ok_more c.made_by.result
    (λ made says. says c.in-Some.field-0-1 ∙ sym (made_is c.args.program.now c.args.method c.in-Some.insn c.in-Some.field-0-1) ∙ ap (type_made c.args.program.now c.args.method) (sym c.in-Some.is ∙ c.insn_at.ensures))
    c.made_by.ensures
