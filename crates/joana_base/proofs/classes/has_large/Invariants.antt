use Rattle.std.proofs.Common.{◌≡◌, drop}
use Rattle.std.specs.List.{list_any}
use Rattle.joana_base.specs.Files.{is_large}
use Rattle.joana_base.specs.Reading.{all_bytes}
use Rattle.joana_base.proofs.classes.has_large.Given as goal

abbrev pub invariant-loop-file : goal.invariant-loop-file
invariant-loop-file l = list_any is_large (all_bytes (drop l.file-index l.files)) ≡ list_any is_large (all_bytes l.files)
