use Rattle.std.proofs.Common.{◌≡◌, drop}
use Rattle.std.specs.List.{list_any}
use Rattle.linker.specs.LinkFaults.{is_of_instances}
use Rattle.linker.proofs.faults.some_of_instances.Given as goal

-- what is left decides
abbrev pub invariant-loop-field : goal.invariant-loop-field
invariant-loop-field l = list_any is_of_instances (drop l.field-index l.fields) ≡ list_any is_of_instances l.fields
