use Rattle.std.proofs.Common.{◌≡◌, true, Some, length, refl, sym, ap, ◌∙◌, rules}
use Rattle.std.proofs.lemmas.Option.{slice_get_read}
use Rattle.linker.specs.LinkFaults.{has_static_init}
use Rattle.linker.proofs.Firsts.{none_left, first_here}
use Rattle.linker.proofs.faults.static_init.Goals as goal

pub returns-then-has_static_init : goal.returns-then-has_static_init
returns-then-has_static_init c =
    let at = slice_get_read c.args.classes.now (length c.args.classes.now) c.loop-number.number c.index-classes-number.result refl c.loop-number-test.true c.index-classes-number.is in
    let passes : has_static_init c.index-classes-number.result ≡ true = sym c.has_static_init.ensures ∙ c.if-has_static_init.true in
    let number : c.of.result ≡ c.loop-number.number = search rules in
    ap Some number ∙ first_here has_static_init c.args.classes.now c.loop-number.number c.index-classes-number.result at passes c.loop-number.invariant

pub returns : goal.returns
returns c = none_left has_static_init c.args.classes.now c.loop-number.number c.loop-number-test.false c.loop-number.invariant
