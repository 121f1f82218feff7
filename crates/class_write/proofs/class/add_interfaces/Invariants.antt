use Rattle.std.proofs.Common.{◌≡◌, ◌++◌, drop}
use Rattle.std.specs.List.{flat_map}
use Rattle.class_pool.specs.ClassGrammar.{u2}
use Rattle.class_write.specs.Spelling.{counted}
use Rattle.class_write.proofs.class.add_interfaces.Given as goal

abbrev pub invariant-loop-interface : goal.invariant-loop-interface
invariant-loop-interface l = record {
  so_far : l.out.items ++ flat_map u2 (drop l.interface-index l.interfaces) ≡ l.fn.out.items ++ counted u2 l.interfaces;
}
