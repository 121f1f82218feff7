use Rattle.std.proofs.Common.{◌≡◌, drop, false}
use Rattle.class_pool.specs.Code.{names_wide}
use Rattle.class_pool.proofs.known.names_wide.Given as goal

abbrev pub invariant-loop-byte : goal.invariant-loop-byte
invariant-loop-byte l = names_wide l.in_name (drop l.byte-index l.desc) ≡ names_wide false l.desc
