use Rattle.std.proofs.Common.{◌≡◌, ◌++◌, drop}
use Rattle.std.specs.List.{AllByRecursion, flat_map}
use Rattle.class_write.specs.Named.{method_named, HasFittingCode}
use Rattle.class_write.proofs.members.add_methods.Given as goal

abbrev pub invariant-loop-method : goal.invariant-loop-method
invariant-loop-method l = record {
  so_far : l.out.items ++ flat_map (method_named l.names) (drop l.method-index l.methods) ≡ l.fn.out.items ++ flat_map (method_named l.names) l.methods;
  fit : AllByRecursion HasFittingCode (drop l.method-index l.methods);
}
