use Rattle.std.proofs.Common.{rules}
use Rattle.jvm_typing.proofs.SourceLemmas.{places_none, places_more}
use Rattle.jvm_typing.proofs.sources.add_places.Goals as goal

pub loop-place-init : goal.loop-place-init
loop-place-init c = places_none c.args.places.now.items c.args.from

pub loop-place-preserved : goal.loop-place-preserved
loop-place-preserved c = places_more c.args.places.now.items c.loop-place.places.items c.push.new.self.items c.args.from c.loop-place.place c.loop-place.invariant (search rules)
