use Rattle.std.proofs.Common.{◌≡◌, true, Some, length, refl, sym, ap, ◌∙◌, rules}
use Rattle.std.proofs.lemmas.Option.{slice_get_read}
use Rattle.linker.specs.LinkFaults.{has_interface_body}
use Rattle.linker.proofs.Firsts.{none_left, first_here}
use Rattle.linker.proofs.faults.interface_body.Goals as goal

pub returns-then-has_interface_body : goal.returns-then-has_interface_body
returns-then-has_interface_body c =
    let at = slice_get_read c.args.classes.now (length c.args.classes.now) c.loop-number.number c.index-classes-number.result refl c.loop-number-test.true c.index-classes-number.is in
    let passes : has_interface_body c.index-classes-number.result ≡ true = sym c.has_interface_body.ensures ∙ c.if-has_interface_body.true in
    let number : c.of.result ≡ c.loop-number.number = search rules in
    ap Some number ∙ first_here has_interface_body c.args.classes.now c.loop-number.number c.index-classes-number.result at passes c.loop-number.invariant

pub returns : goal.returns
returns c = none_left has_interface_body c.args.classes.now c.loop-number.number c.loop-number-test.false c.loop-number.invariant
