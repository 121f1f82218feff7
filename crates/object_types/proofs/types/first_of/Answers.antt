use Rattle.std.proofs.Common.{length, refl, arith}
use Rattle.std.proofs.lemmas.Option.{slice_get_read}
use Rattle.object_types.proofs.CatchLemmas.{none_yet, none_more, none_all}
use Rattle.object_types.proofs.types.first_of.Goals as goal

pub loop-k-init : goal.loop-k-init
loop-k-init c = λ o e. none_yet c.args.program.now c.args.rows.now c.args.pc o

pub loop-k-preserved : goal.loop-k-preserved
loop-k-preserved c = λ o e.
    let at = slice_get_read c.args.rows.now (length c.args.rows.now) c.loop-k.k c.index-rows-k.result refl c.loop-k-test.true c.index-rows-k.is in
    none_more c.args.program.now c.args.rows.now c.args.pc c.loop-k.k o c.index-rows-k.result at (λ catches. let yes = (c.row_catches.ensures o e).1 catches in let no_ = c.if-row_catches.false in absurd (cc)) (c.loop-k.invariant o e)

pub returns-then-row_catches-clause-found : goal.returns-then-row_catches-clause-found
returns-then-row_catches-clause-found c = λ o e.
    let at = slice_get_read c.args.rows.now (length c.args.rows.now) c.loop-k.k c.index-rows-k.result refl c.loop-k-test.true c.index-rows-k.is in
    record { row = c.index-rows-k.result; at = at; catches = (c.row_catches.ensures o e).0 c.if-row_catches.true; before = c.loop-k.invariant o e }

pub returns-clause-absent : goal.returns-clause-absent
returns-clause-absent c = λ o e. none_all c.args.program.now c.args.rows.now c.args.pc c.loop-k.k o (omega (arith, c.loop-k-test.false)) (c.loop-k.invariant o e)
