use Rattle.std.proofs.Common.{rules, ◌≡◌, [], ◌∷◌, ◌++◌}
use Rattle.instance_flows.proofs.PartLemmas.{place_added, place_absent}
use Rattle.instance_flows.proofs.parts.add_place.Goals as goal

pub returns-in_ok-push-in-Some : goal.returns-in_ok-push-in-Some
returns-in_ok-push-in-Some c =
    let made : c.push.new.self.items ≡ c.args.places.now.items ++ c.in-Some.place ∷ [] = search rules in
    place_added c.args.numbers.now c.args.end c.in-Some.place c.args.places.now.items c.push.new.self.items c.requires.once c.in-Some.ensures.found made

pub returns-in-None : goal.returns-in-None
returns-in-None c = place_absent c.args.numbers.now c.args.end c.args.places.now.items c.in-None.ensures.absent
