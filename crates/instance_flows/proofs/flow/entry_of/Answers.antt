use Rattle.std.proofs.Common.{rules, ◌≡◌, true, false, arith}
use Rattle.instance_flows.specs.NodeTests.{is_entry}
use Rattle.instance_flows.proofs.EntryLemmas.{no_entry_yet, no_entry_more, entry_here, not_none}
use Rattle.instance_flows.proofs.flow.entry_of.Goals as goal

pub loop-n-init : goal.loop-n-init
loop-n-init c = no_entry_yet c.args.wide.now

pub returns-then-is_entry : goal.returns-then-is_entry
returns-then-is_entry c =
    let entry : is_entry c.node.result.now.kind ≡ true = search rules in
    entry_here c.args.wide.now c.loop-n.n c.node.result.now c.node.ensures entry

pub loop-n-preserved : goal.loop-n-preserved
loop-n-preserved c =
    let other : is_entry c.node.result.now.kind ≡ false = search rules in
    no_entry_more c.args.wide.now c.loop-n.n c.node.result.now c.node.ensures other c.loop-n.invariant

pub returns : goal.returns
returns c = absurd (not_none c.args.wide.now c.loop-n.n (omega (arith, c.len-n-end.ensures, c.loop-n-test.false)) c.loop-n.invariant c.requires)
