use Rattle.std.proofs.Common.{◌<◌, arith}
use Rattle.typing_effects.proofs.NameTables.{no_names, one_name}
use Rattle.typing_effects.proofs.class_names.class_names.Goals as goal

pub loop-left-init : goal.loop-left-init
loop-left-init c = (omega arith, no_names c.args.classes.now (record { numbers = c.new.result }) c.new.ensures.empty)

pub loop-left-preserved : goal.loop-left-preserved
loop-left-preserved c =
    let some : 0 < c.loop-left.left = omega arith in (
      omega arith,
      one_name c.args.classes.now c.loop-left.left c.index-classes-left.result c.loop-left.names c.put_name.new.names some c.loop-left.invariant.0 c.index-classes-left.is
          c.loop-left.invariant.1 c.in_ok-put_name.ensures,
    )
