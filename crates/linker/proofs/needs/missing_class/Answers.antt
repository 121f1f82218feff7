use Rattle.std.proofs.Common.{◌≡◌, true, Some, length, refl, ap, ◌∙◌, rules}
use Rattle.std.proofs.lemmas.Option.{slice_get_read}
use Rattle.linker.specs.NeededClasses.{lacks_class}
use Rattle.linker.proofs.Firsts.{none_left, first_here}
use Rattle.linker.proofs.needs.missing_class.Goals as goal

pub returns-then-lacks : goal.returns-then-lacks
returns-then-lacks c =
    let at = slice_get_read c.args.classes.now (length c.args.classes.now) c.loop-number.number c.index-classes-number.result refl c.loop-number-test.true c.index-classes-number.is in
    let lacks : lacks_class c.args.names.now c.index-classes-number.result ≡ true = search rules in
    let number : c.of.result ≡ c.loop-number.number = search rules in
    ap Some number ∙ first_here (lacks_class c.args.names.now) c.args.classes.now c.loop-number.number c.index-classes-number.result at lacks c.loop-number.invariant

pub returns : goal.returns
returns c = none_left (lacks_class c.args.names.now) c.args.classes.now c.loop-number.number c.loop-number-test.false c.loop-number.invariant
