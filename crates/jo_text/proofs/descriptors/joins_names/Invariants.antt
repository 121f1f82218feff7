use Rattle.std.proofs.Common.{◌≡◌, true, drop}
use Rattle.jo_text.specs.Scan.{names_on}
use Rattle.jo_text.proofs.descriptors.joins_names.Given as goal

abbrev pub invariant-loop-byte : goal.invariant-loop-byte
invariant-loop-byte l = names_on l.empty (drop l.byte-index l.bytes) ≡ names_on true l.bytes
