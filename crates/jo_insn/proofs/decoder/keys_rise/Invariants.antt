use Rattle.std.proofs.Common.{◌≡◌, ◌-◌}
use Rattle.jo_insn.specs.Instructions.{rises, keys_of}
use Rattle.jo_insn.proofs.DecoderLemmas.{rises_from}
use Rattle.jo_insn.proofs.decoder.keys_rise.Given as goal

abbrev pub invariant-loop-pair : goal.invariant-loop-pair
invariant-loop-pair l = rises_from (l.pair - 1) l.pairs l.table ≡ rises (keys_of l.pairs l.table)
