use Rattle.std.proofs.Common.{get_or, take, arith}
use Rattle.std.proofs.lemmas.List.{take_more}
use Rattle.std.proofs.lemmas.List.Elements.{Contains-get_or}
use Rattle.jo_order.proofs.RowsLemmas.{pairs_none, pairs_more}
use Rattle.jo_order.proofs.closing.mark_pairs.Goals as goal

pub bounds-rows-a : goal.bounds-rows-a
bounds-rows-a c =
    let pair = get_or c.args.pairs.now c.loop-a.a-index (0, 0) in
    let inside = c.requires.inside pair.0 pair.1 (Contains-get_or c.args.pairs.now c.loop-a.a-index (0, 0) c.loop-a-test.true) in
    omega (arith, inside.0, c.loop-a.auto.rows)

pub with_bit-requires : goal.with_bit-requires
with_bit-requires c =
    let pair = get_or c.args.pairs.now c.loop-a.a-index (0, 0) in
    let inside = c.requires.inside pair.0 pair.1 (Contains-get_or c.args.pairs.now c.loop-a.a-index (0, 0) c.loop-a-test.true) in
    omega (arith, inside.1, c.requires.few)

pub loop-a-init : goal.loop-a-init
loop-a-init c = pairs_none c.args.rows.now

pub loop-a-preserved : goal.loop-a-preserved
loop-a-preserved c =
    let pairs = c.args.pairs.now in
    let i = c.loop-a.a-index in
    let pair = get_or pairs i (0, 0) in
    let inside = c.requires.inside pair.0 pair.1 (Contains-get_or pairs i (0, 0) c.loop-a-test.true) in
    rw (take_more pairs i (0, 0) c.loop-a-test.true)
    (pairs_more (take i pairs) c.args.rows.now c.loop-a.rows pair.0 pair.1 c.with_bit.result c.loop-a.invariant (omega (arith, inside.0, c.loop-a.auto.rows)) c.with_bit.ensures)
