use Rattle.std.specs.Prelude.{◌↔◌}
use Rattle.std.proofs.Common.{◌≡◌, true, sym, ◌∙◌, ap, subst, arith}
use Rattle.instance_flows.specs.NodeTests.{always_raises, standing_by}
use Rattle.instance_flows.specs.Raising.{AlwaysAt}
use Rattle.instance_flows.proofs.NullLemmas.{node_says, asked_below}
use Rattle.instance_flows.proofs.MarkLemmas.{below_none, below_more, below_all}
use Rattle.instance_flows.proofs.raising.mark_always.Goals as goal

pub loop-n-init : goal.loop-n-init
loop-n-init c = record { same = c.requires; each = below_none c.args.raising.now (AlwaysAt c.args.wide.now) }

pub loop-n-preserved : goal.loop-n-preserved
loop-n-preserved c = record {
  same = c.mark.ensures.same ∙ c.loop-n.invariant.same;
  each = below_more c.args.raising.now c.loop-n.raising c.mark.new.raising (AlwaysAt c.args.wide.now) c.loop-n.n c.always_raises.result told c.loop-n.invariant.each c.mark.ensures.each;
}
  where
    told : (c.always_raises.result ≡ true) ↔ AlwaysAt c.args.wide.now c.loop-n.n
    told =
        let says = node_says c.args.wide.now (λ node. always_raises (standing_by node.kind node.insn) ≡ true) c.loop-n.n c.node.result.now c.node.ensures in
        subst (λ b. (b ≡ true) ↔ AlwaysAt c.args.wide.now c.loop-n.n) (sym (c.always_raises.ensures ∙ ap always_raises c.standing.ensures)) (says.1, says.0)

pub returns-clause-each : goal.returns-clause-each
returns-clause-each c = below_all c.args.raising.now c.loop-n.raising (AlwaysAt c.args.wide.now) c.loop-n.n (λ x here. (let below = asked_below c.args.wide.now (λ row. always_raises (standing_by row.node.kind row.node.insn) ≡ true) x here in omega (arith, below, c.len-n-end.ensures, c.loop-n-test.false))) c.loop-n.invariant.each
