use Rattle.std.proofs.Common.{◌≡◌, map, drop}
use Rattle.jo_io.specs.MemoryFiles.{pair_of, bytes_under}
use Rattle.jo_io.proofs.memory_files.find_bytes.Given as goal

-- the pairs before this one have other names
abbrev pub invariant-loop-pair : goal.invariant-loop-pair
invariant-loop-pair l =
    bytes_under (map pair_of (drop l.pair-index l.pairs)) l.name ≡ bytes_under (map pair_of l.pairs) l.name
