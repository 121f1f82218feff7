use Rattle.std.proofs.Common.{◌≡◌, ◌++◌}
use Rattle.std.specs.Vec.Iter.{into_iter_items}
use Rattle.linker.specs.Linking.{linked_classes}
use Rattle.linker.proofs.linked_classes.Given as goal

abbrev pub invariant-loop-file : goal.invariant-loop-file
invariant-loop-file l = l.classes ++ into_iter_items l.file-iterator ≡ linked_classes l.fn.files.items
