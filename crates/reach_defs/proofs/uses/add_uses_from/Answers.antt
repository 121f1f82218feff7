use Rattle.std.proofs.Common.{◌≡◌, get_or, arith}
use Rattle.dependence.specs.declared.flow.Place.{Place}
use Rattle.dependence.specs.declared.flow.Place.TheVariants.{Local}
use Rattle.reach_defs.proofs.UseLemmas.{among_more, among_all, written_here, item_is}
use Rattle.reach_defs.proofs.uses.add_uses_from.Goals as goal

pub add_readers-requires : goal.add_readers-requires
add_readers-requires c =
    let places = c.writes-written.result.now in
    let i = c.loop-place.place-index in
    let place : Place = get_or places i (Local 0) in
    record {
      writes = written_here c.args.flow.now c.args.d places i place c.writes-written.ensures.writes c.loop-place-test.true (item_is places i (Local 0) c.loop-place-test.true);
      found = c.reach_behind.ensures.found;
    }

pub loop-place-preserved : goal.loop-place-preserved
loop-place-preserved c =
    let places = c.writes-written.result.now in
    let i = c.loop-place.place-index in
    let place : Place = get_or places i (Local 0) in
    record {
      uses =
          among_more c.args.flow.now c.args.d places i place c.args.uses.now c.loop-place.uses c.add_readers.new.uses c.writes-written.ensures.once c.loop-place-test.true (item_is places i (Local 0) c.loop-place-test.true)
          c.loop-place.invariant.uses c.in_ok-add_readers.ensures;
      found = c.reach_behind.ensures.found.same_length;
      queue = omega (arith, c.reach_behind.ensures.queue, c.loop-place.invariant.queue);
    }

pub returns-clause-uses : goal.returns-clause-uses
returns-clause-uses c = among_all c.args.flow.now c.args.d c.writes-written.result.now c.loop-place.place-index c.args.uses.now c.loop-place.uses c.writes-written.ensures.writes (omega (arith, c.loop-place-test.false)) c.loop-place.invariant.uses
