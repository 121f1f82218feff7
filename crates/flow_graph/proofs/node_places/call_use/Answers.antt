use Rattle.std.proofs.Common.{rules, ◌≡◌, ℕ, List, Some, subst}
use Rattle.jo_text.specs.Descriptors.{SpellsMethod}
use Rattle.flow_graph.specs.NodeUses.{HeightIs, called_at}
use Rattle.flow_graph.proofs.UseLemmas.{has_call_use}
use Rattle.flow_graph.proofs.node_places.call_use.Goals as goal

pub returns-in-Ok : goal.returns-in-Ok
returns-in-Ok c =
    let high : HeightIs c.args.typed.now c.args.pc c.in-Some.height = search rules in
    let found : called_at c.args.program.now c.args.method c.args.pc ≡ Some (c.in-Some-called_at.op, c.in-Some-called_at.member.now) = search rules in
    let spells = subst (λ (b : List ℕ). SpellsMethod c.in-Ok.desc b) c.as_slice.ensures c.in-Ok.ensures.desc in
    has_call_use c.args.program.now c.args.method c.args.typed.now c.args.pc c.in-Some.height c.in-Some-called_at.op c.in-Some-called_at.member.now c.in-Ok.desc c.used_by.result high found spells c.used_by.ensures
