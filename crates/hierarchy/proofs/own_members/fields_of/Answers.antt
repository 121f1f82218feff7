use Rattle.std.proofs.Common.{◌<◌, arith}
use Rattle.hierarchy.proofs.MemberTables.{number_before, no_fields, one_field}
use Rattle.hierarchy.proofs.own_members.fields_of.Goals as goal

pub loop-left-init : goal.loop-left-init
loop-left-init c = (omega arith, no_fields c.args.program.now c.args.numbers.now c.new-fields.result c.new-fields.ensures.empty)

pub loop-left-preserved : goal.loop-left-preserved
loop-left-preserved c =
    let some : 0 < c.loop-left.left = omega arith in
    let number = c.index-numbers-left.result in
    let next = number_before c.args.numbers.now c.loop-left.left number some c.loop-left.invariant.0 c.index-numbers-left.is in (
      omega arith,
      one_field c.args.program.now c.args.numbers.now c.loop-left.left number c.loop-left.fields c.put_field.new.fields next c.loop-left.invariant.1 c.in_ok-put_field.ensures,
    )
