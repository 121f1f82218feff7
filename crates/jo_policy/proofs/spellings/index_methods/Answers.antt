use Rattle.std.proofs.Common.{map, ap}
use Rattle.jo_policy.specs.FileMethods.{entry_in, entries_in}
use Rattle.jo_policy.proofs.MethodEntries.{none_so_far, next_indexed, all_indexed}
use Rattle.jo_policy.proofs.spellings.index_methods.Goals as goal

pub loop-i-init : goal.loop-i-init
loop-i-init c = none_so_far c.args.program.now (map entry_in c.new.result.entries) (ap (map entry_in) c.new.ensures.empty)

pub loop-i-preserved : goal.loop-i-preserved
loop-i-preserved c =
    next_indexed c.args.program.now (entries_in c.loop-i.index) (entries_in c.add_method.new.index) c.loop-i.i c.method-item.result
    c.as_slice-method-items.result.now c.as_slice-method-items.ensures c.loop-i-test.true c.method-item.is c.loop-i.invariant c.in_ok-add_method.ensures

pub returns : goal.returns
returns c = record {
  finds = all_indexed c.args.program.now (entries_in c.loop-i.index) c.loop-i.i c.as_slice-method-items.result.now c.as_slice-method-items.ensures c.loop-i-test.false c.loop-i.invariant;
}
