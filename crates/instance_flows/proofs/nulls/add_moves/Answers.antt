use Rattle.std.proofs.Common.{◌∙◌, List, get_or, sym, subst, arith}
use Rattle.std.proofs.lemmas.List.{take_all}
use Rattle.jo_prog.specs.TypingPaths.{HasHeightAt}
use Rattle.dependence.specs.declared.flow.Place.TheVariants.{Local}
use Rattle.dependence.specs.declared.flows.Use.{Use}
use Rattle.flow_graph.proofs.AddingLemmas.{same_item}
use Rattle.instance_flows.proofs.NullLemmas.{MovedSoFar, use_below, moved_none, moved_more}
use Rattle.instance_flows.proofs.nulls.add_moves.Goals as goal

pub loop-u-init : goal.loop-u-init
loop-u-init c =
    let program = c.args.program.now in
    let m = c.args.method in
    record { edges = moved_none program m (HasHeightAt program m) c.args.wide.now c.args.graph.now; room = c.requires.room }

pub add_move-requires-clause-node : goal.add_move-requires-clause-node
add_move-requires-clause-node c =
    let uses = c.args.uses.now in
    let i = c.loop-u.u-index in
    let none : Use = record { node = 0; place = Local 0; from = 0 } in
    let u : Use = get_or uses i none in
    (use_below c.args.wide.now uses c.requires.uses u (i, c.loop-u-test.true, sym (same_item uses i none c.loop-u-test.true))).0

pub add_move-requires-clause-from : goal.add_move-requires-clause-from
add_move-requires-clause-from c =
    let uses = c.args.uses.now in
    let i = c.loop-u.u-index in
    let none : Use = record { node = 0; place = Local 0; from = 0 } in
    let u : Use = get_or uses i none in
    (use_below c.args.wide.now uses c.requires.uses u (i, c.loop-u-test.true, sym (same_item uses i none c.loop-u-test.true))).1

pub loop-u-preserved : goal.loop-u-preserved
loop-u-preserved c =
    let program = c.args.program.now in
    let m = c.args.method in
    let uses = c.args.uses.now in
    let i = c.loop-u.u-index in
    let none : Use = record { node = 0; place = Local 0; from = 0 } in
    let u : Use = get_or uses i none in
    record {
      edges =
          moved_more program m (HasHeightAt program m) c.args.wide.now c.args.graph.now uses i u c.loop-u.graph c.add_move.new.graph c.loop-u-test.true (same_item uses i none c.loop-u-test.true) c.loop-u.invariant.edges
          c.in_ok-add_move.ensures.edges;
      room = c.in_ok-add_move.ensures.room ∙ c.loop-u.invariant.room;
    }

pub returns-clause-edges : goal.returns-clause-edges
returns-clause-edges c =
    let program = c.args.program.now in
    let m = c.args.method in
    subst (λ (us : List Use). MovedSoFar program m (HasHeightAt program m) c.args.wide.now c.args.graph.now us c.loop-u.graph) (take_all c.loop-u.u-index c.args.uses.now (omega (arith, c.loop-u-test.false))) c.loop-u.invariant.edges
