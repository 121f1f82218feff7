use Rattle.jo_insn.proofs.PcMarkLemmas.{marks_are_starts}
use Rattle.jo_insn.proofs.laws.marks_are_starts.Goals as goal

pub returns : goal.returns
returns c = marks_are_starts
