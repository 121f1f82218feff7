use Rattle.std.proofs.Common.{◌≡◌, ◌≤◌, ◌*◌, drop, false}
use Rattle.class_pool.specs.Code.{words_from}
use Rattle.class_pool.proofs.known.argument_words.Given as goal

abbrev pub invariant-loop-byte : goal.invariant-loop-byte
invariant-loop-byte l = record {
  so_far : words_from l.count l.in_array l.in_name (drop l.byte-index l.desc) ≡ words_from 0 false false l.desc;
  few : l.count ≤ 2 * l.byte-index;
}
