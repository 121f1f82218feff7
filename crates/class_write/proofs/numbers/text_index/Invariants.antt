use Rattle.std.proofs.Common.{◌≡◌, ◌+◌, drop}
use Rattle.class_write.specs.Spelling.{index_from, text_index}
use Rattle.class_write.proofs.numbers.text_index.Given as goal

abbrev pub invariant-loop-entry : goal.invariant-loop-entry
invariant-loop-entry l = record {
  so_far : index_from l.index l.text (drop l.entry-index l.pool) ≡ text_index l.pool l.text;
  place : l.index ≡ l.entry-index + 1;
}
