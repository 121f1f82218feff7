use Rattle.std.proofs.Common.{◌≡◌, ◌++◌, drop}
use Rattle.std.specs.List.{AllByRecursion, flat_map}
use Rattle.class_pool.specs.declared.classes.MethodInfo.{MethodInfo}
use Rattle.class_dis.specs.Insns.{IsShortCode}
use Rattle.class_dis.specs.Listing.{method_lines}
use Rattle.class_dis.proofs.classes.push_methods.Given as goal

abbrev pub invariant-loop-method : goal.invariant-loop-method
invariant-loop-method l = record {
  short : AllByRecursion (λ (method : MethodInfo). IsShortCode method.code) (drop l.method-index l.methods);
  so_far : l.out.items ++ flat_map (method_lines l.pool) (drop l.method-index l.methods) ≡ l.fn.out.items ++ flat_map (method_lines l.pool) l.methods;
}
