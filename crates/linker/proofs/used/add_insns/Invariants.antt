use Rattle.std.proofs.Common.{drop}
use Rattle.linker.specs.Linking.{names_entry}
use Rattle.linker.proofs.UsedLemmas.{AddsOn}
use Rattle.linker.proofs.used.add_insns.Given as goal

abbrev pub invariant-loop-placed : goal.invariant-loop-placed
invariant-loop-placed l = AddsOn names_entry l.initial.used l.used (drop l.placed-index l.insns) l.insns
