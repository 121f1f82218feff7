use Rattle.std.proofs.Common.{◌≡◌, ◌<◌, ℕ, map, take}
use Rattle.linker.specs.Linking.{this_name}
use Rattle.linker.specs.LinkFaults.{class_names, IsTwiceDefined}
use Rattle.linker.proofs.names.names_of.Given as goal

-- the names so far, none of which is an earlier one's
abbrev pub invariant-loop-number : goal.invariant-loop-number
invariant-loop-number l = record {
  names : l.names ≡ map this_name (take l.number l.classes);
  once : (j : ℕ) → j < l.number → IsTwiceDefined (class_names l.classes) j → ⊥;
}
