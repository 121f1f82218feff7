use Rattle.jo_prog.specs.TypingPaths.{HasHeightAt}
use Rattle.instance_flows.proofs.NullLemmas.{move_added, move_skipped}
use Rattle.instance_flows.proofs.nulls.add_move.Goals as goal

pub returns-in_ok-add-in-Some-clause-edges : goal.returns-in_ok-add-in-Some-clause-edges
returns-in_ok-add-in-Some-clause-edges c =
    let program = c.args.program.now in
    let m = c.args.method in
    move_added program m (HasHeightAt program m) c.args.wide.now c.args.u.now c.args.graph.now c.add.new.self c.in-Some.from c.in-Some.ensures.found c.in_ok-add-in-Some.ensures.ok

pub returns-in-None-clause-edges : goal.returns-in-None-clause-edges
returns-in-None-clause-edges c =
    let program = c.args.program.now in
    let m = c.args.method in
    move_skipped program m (HasHeightAt program m) c.args.wide.now c.args.u.now c.args.graph.now c.in-None.ensures.absent
