use Rattle.std.proofs.Common.{◌<◌, List, get_or, sym, ◌∙◌, subst, arith}
use Rattle.std.proofs.lemmas.List.{take_all}
use Rattle.jo_prog.specs.TypingPaths.{HasHeightAt}
use Rattle.dependence.specs.declared.flow.Place.TheVariants.{Local}
use Rattle.dependence.specs.declared.flows.Use.{Use}
use Rattle.flow_graph.proofs.AddingLemmas.{same_item}
use Rattle.instance_flows.specs.BySite.{BySite}
use Rattle.instance_flows.specs.Raising.{AlwaysAt, UseRaises}
use Rattle.instance_flows.proofs.NullLemmas.{use_below}
use Rattle.instance_flows.proofs.MarkLemmas.{UsesMarked, uses_more}
use Rattle.instance_flows.proofs.raising.raising_of.Goals as goal

pub use_raises-requires-clause-node : goal.use_raises-requires-clause-node
use_raises-requires-clause-node g c =
    let uses = c.args.uses.now in
    let i = c.loop-u.u-index in
    let none : Use = record { node = 0; place = Local 0; from = 0 } in
    (use_below c.args.wide.now uses c.requires.uses (get_or uses i none) (i, c.loop-u-test.true, sym (same_item uses i none c.loop-u-test.true))).0

pub use_raises-requires-clause-from : goal.use_raises-requires-clause-from
use_raises-requires-clause-from g c =
    let uses = c.args.uses.now in
    let i = c.loop-u.u-index in
    let none : Use = record { node = 0; place = Local 0; from = 0 } in
    (use_below c.args.wide.now uses c.requires.uses (get_or uses i none) (i, c.loop-u-test.true, sym (same_item uses i none c.loop-u-test.true))).1

pub mark-requires : goal.mark-requires
mark-requires g c =
    let uses = c.args.uses.now in
    let i = c.loop-u.u-index in
    let none : Use = record { node = 0; place = Local 0; from = 0 } in
    let u : Use = get_or uses i none in
    subst (λ k. u.node < k) (sym c.loop-u.invariant.same) (use_below c.args.wide.now uses c.requires.uses u (i, c.loop-u-test.true, sym (same_item uses i none c.loop-u-test.true))).0

pub loop-u-preserved : goal.loop-u-preserved
loop-u-preserved g c =
    let program = c.args.program.now in
    let m = c.args.method in
    let wide = c.args.wide.now in
    let uses = c.args.uses.now in
    let i = c.loop-u.u-index in
    let none : Use = record { node = 0; place = Local 0; from = 0 } in
    let u : Use = get_or uses i none in
    record {
      same = c.mark.ensures.same ∙ c.loop-u.invariant.same;
      each =
          uses_more (AlwaysAt wide) (UseRaises program (BySite c.args.facts.now c.args.instance) (HasHeightAt program m) m wide) uses i u c.loop-u.raising c.mark.new.raising c.in_ok-raises.raises c.loop-u-test.true
          (same_item uses i none c.loop-u-test.true) c.in_ok-raises.ensures c.loop-u.invariant.each c.mark.ensures.each;
    }

pub returns-clause-each : goal.returns-clause-each
returns-clause-each g c =
    let program = c.args.program.now in
    let m = c.args.method in
    let wide = c.args.wide.now in
    subst (λ (us : List Use). UsesMarked (AlwaysAt wide) (UseRaises program (BySite c.args.facts.now c.args.instance) (HasHeightAt program m) m wide) us c.loop-u.raising) (take_all c.loop-u.u-index c.args.uses.now (omega (arith, c.loop-u-test.false)))
    c.loop-u.invariant.each
