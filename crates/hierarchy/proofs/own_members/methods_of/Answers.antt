use Rattle.std.proofs.Common.{◌<◌, arith}
use Rattle.hierarchy.proofs.MemberTables.{number_before, no_methods, one_method}
use Rattle.hierarchy.proofs.own_members.methods_of.Goals as goal

pub loop-left-init : goal.loop-left-init
loop-left-init c = (omega arith, no_methods c.args.program.now c.args.numbers.now c.new-methods.result c.new-methods.ensures.empty)

pub loop-left-preserved : goal.loop-left-preserved
loop-left-preserved c =
    let some : 0 < c.loop-left.left = omega arith in
    let number = c.index-numbers-left.result in
    let next = number_before c.args.numbers.now c.loop-left.left number some c.loop-left.invariant.0 c.index-numbers-left.is in (
      omega arith,
      one_method c.args.program.now c.args.numbers.now c.loop-left.left number c.loop-left.methods c.put_method.new.methods next c.loop-left.invariant.1 c.in_ok-put_method.ensures,
    )
