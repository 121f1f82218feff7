use Rattle.std.proofs.Common.{◌≡◌, ◌++◌, drop}
use Rattle.class_pool.specs.Known.{all_facts}
use Rattle.class_pool.proofs.known.all_facts.Given as goal

abbrev pub invariant-loop-entry : goal.invariant-loop-entry
invariant-loop-entry l = l.facts.items ++ all_facts (drop l.entry-index l.entries) ≡ all_facts l.entries
