use Rattle.jvm_typing.specs.Sources.{HasFrom}
use Rattle.jvm_typing.proofs.sources.add_places.Given as goal

abbrev pub invariant-loop-place : goal.invariant-loop-place
invariant-loop-place l = HasFrom l.initial.places.items l.from l.place l.places.items
