use Rattle.std.proofs.Common.{arith}
use Rattle.std.proofs.lemmas.List.{length-drop}
use Rattle.jo_insn.proofs.SwitchTables.{pairs_end}
use Rattle.class_dis.proofs.SwitchSteps.{lookup_targets}
use Rattle.class_dis.proofs.operands.push_words.Goals as goal

pub push_lookup-requires : goal.push_lookup-requires
push_lookup-requires c =
    let other = c.in-LookupSwitch.other in
    let at = c.in-LookupSwitch.at in
    let pairs = c.in-LookupSwitch.pairs in
    let pc = c.args.placed.now.pc in
    let end = pairs_end c.args.code.now (λ k. (c.type_inv.code k).fits) pc c.args.placed.now.next other pairs at (rw c.in-LookupSwitch.is at c.requires) in
    let left = length-drop at c.args.code.now in
    let targets = rw c.in-LookupSwitch.is at c.in_ok-targets.ensures in
    rw (c.behind.ensures, c.as_slice-targets.ensures.value, targets, lookup_targets c.args.code.now pc pairs at other) (omega (arith, end.0, end.1))
