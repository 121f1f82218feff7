use Rattle.std.proofs.Common.{◌≡◌, ◌-◌, ◌+◌, ◌<◌, length, refl, ap, ◌∙◌, arith}
use Rattle.dep_nodes.specs.OnceLists.{slot_of}
use Rattle.dep_nodes.proofs.OnceLemmas.{walk_starts, walk_goes_on, walk_falls, walk_ends, found_at, not_at}
use Rattle.dep_nodes.proofs.once_lists.find_linked.Goals as goal

pub loop-link-init : goal.loop-link-init
loop-link-init g c =
    let last = c.args.last.now in
    let is : c.slot-start.result ≡ slot_of (length last) (g.T.Keyed.key c.args.item.now) = c.slot-start.ensures.value ∙ ap (slot_of (length last)) c.key.ensures in
    walk_starts g.T.Keyed.key (length last) c.args.items.now c.args.item.now last c.args.before.now c.slot-start.result _ c.requires.table refl is c.slot-start.ensures.within refl

pub returns-then-is-clause-found : goal.returns-then-is-clause-found
returns-then-is-clause-found g c =
    let below : c.loop-link.link - 1 < length c.args.items.now = omega (arith, c.loop-link.invariant.within, c.loop-link-test.true) in
    found_at c.args.items.now (c.loop-link.link - 1) c.index-items-place.result c.args.item.now c.is.result c.is.ensures c.if-is.true c.index-items-place.is below

pub loop-link-smaller : goal.loop-link-smaller
loop-link-smaller g c =
    let below : c.loop-link.link - 1 < length c.args.items.now = omega (arith, c.loop-link.invariant.within, c.loop-link-test.true) in
    omega (arith, walk_falls g.T.Keyed.key (length c.args.last.now) c.args.items.now c.args.last.now c.args.before.now (c.loop-link.link - 1) c.requires.table below, c.loop-link-test.true)

pub loop-link-preserved : goal.loop-link-preserved
loop-link-preserved g c =
    let place = c.loop-link.link - 1 in
    let is : place + 1 ≡ c.loop-link.link = omega (arith, c.loop-link-test.true) in
    walk_goes_on g.T.Keyed.key (length c.args.last.now) c.args.items.now c.args.item.now c.args.last.now c.args.before.now c.loop-link.link place _ c.requires.table c.loop-link.invariant is
    (not_at c.args.items.now place c.index-items-place.result c.args.item.now c.is.result c.is.ensures c.if-is.false c.index-items-place.is) refl

pub returns-clause-absent : goal.returns-clause-absent
returns-clause-absent g c = walk_ends g.T.Keyed.key (length c.args.last.now) c.args.items.now c.args.item.now c.loop-link.link c.loop-link.invariant c.loop-link-test.false
