use Rattle.std.proofs.Common.{◌+◌, ◌≤◌, length}
use Rattle.std.proofs.lemmas.Result.{IfOk-weaker}
use Rattle.typing_heights.specs.Marks.{unknown}
use Rattle.typing_heights.specs.Searches.{VisitsOrRests}
use Rattle.typing_heights.specs.Spreads.{IsSpread}
use Rattle.typing_heights.specs.Subjects.{program_of, typable_of}
use Rattle.typing_heights.proofs.VisitLemmas.{spreads, spread_counts}
use Rattle.typing_heights.proofs.search.visit.Goals as goal

pub returns-in-Some-clause-visits : goal.returns-in-Some-clause-visits
returns-in-Some-clause-visits c =
    let s = c.args.subject.now in
    IfOk-weaker c.spread.result (λ found. IsSpread s.code.now c.args.pc c.in-Some.onward c.args.heights.now c.spread.new.heights found.items)
    (λ found. VisitsOrRests (program_of s) (typable_of s) c.args.pc c.args.height c.args.heights.now c.spread.new.heights found.items)
    (λ found is. spreads (program_of s) (typable_of s) c.args.pc c.args.height c.args.heights.now c.spread.new.heights c.in-Some.onward found.items c.in-Some.ensures c.requires.room is)
    c.spread.ensures

pub returns-in-Some-clause-counted : goal.returns-in-Some-clause-counted
returns-in-Some-clause-counted c =
    let s = c.args.subject.now in
    IfOk-weaker c.spread.result (λ found. IsSpread s.code.now c.args.pc c.in-Some.onward c.args.heights.now c.spread.new.heights found.items)
    (λ found. length found.items + unknown c.spread.new.heights ≤ unknown c.args.heights.now)
    (λ found is. spread_counts (typable_of s) c.args.pc c.args.heights.now c.spread.new.heights c.in-Some.onward found.items is)
    c.spread.ensures
