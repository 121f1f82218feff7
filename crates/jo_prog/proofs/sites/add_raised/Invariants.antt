use Rattle.std.proofs.Common.{◌≡◌, ◌++◌, drop}
use Rattle.jo_prog.specs.Sites.{raised_among}
use Rattle.jo_prog.proofs.sites.add_raised.Given as goal

abbrev pub invariant-loop-cause : goal.invariant-loop-cause
invariant-loop-cause l = l.sites ++ raised_among l.method l.pc l.op (drop l.cause-index l.among) ≡ l.initial.sites ++ raised_among l.method l.pc l.op l.among
