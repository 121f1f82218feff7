use Rattle.std.proofs.Common.{◌≡◌, ◌++◌, drop}
use Rattle.std.specs.Prelude.{flat_map}
use Rattle.stored_runs.specs.Shown.{two_digits}
use Rattle.stored_runs.proofs.digits_of.Given as goal

-- the bytes before this one have their digits
abbrev pub invariant-loop-byte : goal.invariant-loop-byte
invariant-loop-byte l = l.line.items ++ flat_map two_digits (drop l.byte-index l.bytes) ≡ flat_map two_digits l.bytes
