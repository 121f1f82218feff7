use Rattle.std.proofs.Common.{drop}
use Rattle.linker.specs.Linking.{is_used_in}
use Rattle.linker.proofs.UsedLemmas.{AddsOn}
use Rattle.linker.proofs.used.add_methods.Given as goal

abbrev pub invariant-loop-method : goal.invariant-loop-method
invariant-loop-method l = AddsOn is_used_in l.initial.used l.used (drop l.method-index l.methods) l.methods
