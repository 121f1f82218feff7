use Rattle.std.specs.Prelude.{if◌then◌else◌}
use Rattle.std.proofs.Common.{rules, ◌≡◌, true, None, sym, ◌∙◌, ap}
use Rattle.jo_prog.specs.Operations.{within}
use Rattle.jo_prog.specs.Program.{operand_at}
use Rattle.dependence.specs.MayBeNull.{int_operand, constant_of}
use Rattle.instance_flows.proofs.raising.constant_of.Goals as goal

pub returns-in-Plain : goal.returns-in-Plain
returns-in-Plain c = c.short_constant.ensures c.args.program.now c.args.method ∙ ap (constant_of c.args.program.now c.args.method) (sym c.in-Plain.is)

pub returns-then-within : goal.returns-then-within
returns-then-within c =
    let program = c.args.program.now in
    let m = c.args.method in
    let loads : within 18 19 c.in-Pooled.op ≡ true = search rules in
    c.named_constant.ensures 0
    ∙ sym (ap (λ b. if b then int_operand (operand_at program m c.in-Pooled.index) else None) loads) ∙ ap (constant_of program m) (sym c.in-Pooled.is)
