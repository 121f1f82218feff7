use Rattle.machine.proofs.RenamedExec.{exec_same, cell_same}
use Rattle.machine.proofs.laws.instructions_do_not_see_addresses.Goals as goal

pub returns : goal.returns
returns g c = record {
  outcome = λ one other is fits instruction x y same vs ws values. exec_same g.B.RenamedFrom.renames one other is fits instruction x y same vs ws values;
  cell = λ one other is instruction vs ws values. cell_same g.B.RenamedFrom.renames one other is instruction vs ws values;
}
