use Rattle.std.proofs.Common.{rules, ◌≡◌, ◌∙◌, sym, ap, true, false, Some, w32, pos, FitsSigned}
use Rattle.std.proofs.lemmas.Int.{to_z-of_z}
use Rattle.std.specs.Ordering.{int_eq}
use Rattle.machine.specs.Arithmetic.{divides}
use Rattle.jvm_values.proofs.Operations.{by_division, by_whole}
use Rattle.jvm_values.proofs.arithmetic.int_op.Goals as goal

pub returns-then-divides : goal.returns-then-divides
returns-then-divides c =
    let fits : FitsSigned w32 c.divided.result = search rules in
    let is : divides c.args.op ≡ true = search rules in
    let nonzero : int_eq c.args.b (pos 0) ≡ false = search rules in
    let fits_a : FitsSigned w32 c.args.a = search rules in
    let fits_b : FitsSigned w32 c.args.b = search rules in
    let given = rw (to_z-of_z w32 c.args.a fits_a, to_z-of_z w32 c.args.b fits_b) at c.divided.ensures in
    ap Some (to_z-of_z w32 c.divided.result fits ∙ given) ∙ sym (by_division c.args.op c.args.a c.args.b is nonzero)

pub returns : goal.returns
returns c =
    let fits : FitsSigned w32 c.whole_op.result = search rules in
    let is : divides c.args.op ≡ false = search rules in
    let fits_a : FitsSigned w32 c.args.a = search rules in
    let fits_b : FitsSigned w32 c.args.b = search rules in
    let given = rw (to_z-of_z w32 c.args.a fits_a, to_z-of_z w32 c.args.b fits_b) at c.whole_op.ensures in
    ap Some (to_z-of_z w32 c.whole_op.result fits ∙ given) ∙ sym (by_whole c.args.op c.args.a c.args.b is)
