use Rattle.resolved_insns.proofs.TableLemmas.{all_placed}
use Rattle.resolved_insns.proofs.table.row_in.Goals as goal

pub fill-requires-clause-placed : goal.fill-requires-clause-placed
fill-requires-clause-placed c = rw (c.as_slice.ensures, c.in_ok-insns.ensures) (all_placed c.as_slice-bytes.result.now)
