use Rattle.std.proofs.Common.{rules}
use Rattle.jvm_typing.specs.KindFaults.{kind_fault}
use Rattle.typing_heights.proofs.AddsLemmas.{adds_pushed}
use Rattle.jvm_typing.proofs.kind_faults.add_fault.Goals as goal

pub returns : goal.returns
returns c = adds_pushed c.args.found.now.items c.push.new.self.items (kind_fault c.args.pc) (search rules)
