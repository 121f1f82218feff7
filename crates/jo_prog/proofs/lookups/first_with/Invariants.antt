use Rattle.std.proofs.Common.{◌≡◌, drop}
use Rattle.jo_prog.specs.Program.{first_with}
use Rattle.jo_prog.proofs.lookups.first_with.Given as goal

abbrev pub invariant-loop-m : goal.invariant-loop-m
invariant-loop-m l = first_with l.program l.name l.desc (drop l.m-index l.methods) ≡ first_with l.program l.name l.desc l.methods
