use Rattle.std.specs.Prelude.{IfOk}
use Rattle.std.proofs.Common.{ℕ, List, Option, Contains, sym, subst}
use Rattle.jo_insn.specs.declared.instructions.Insn.{Insn}
use Rattle.dep_nodes.specs.declared.kinds.NodeKind.{NodeKind}
use Rattle.dependence.specs.declared.flow.Place.{Place}
use Rattle.dependence.specs.GraphsAsData.{ListsRead}
use Rattle.flow_graph.specs.Adding.{HasThose}
use Rattle.flow_graph.specs.NodeUses.{HeightIs, read_by}
use Rattle.flow_graph.proofs.AddingLemmas.{ok_then}
use Rattle.flow_graph.proofs.UseLemmas.{insn_reads_are, call_reads_are, catch_reads_are}
use Rattle.flow_graph.proofs.node_places.reads_of.Goals as goal

pub returns-in-Instr : goal.returns-in-Instr
returns-in-Instr c =
    let program = c.args.program.now in
    let typed = c.args.typed.now in
    subst (λ (k : NodeKind). IfOk c.insn_reads.result (λ (places : List Place). HasThose (ListsRead program c.args.method (HeightIs typed) k) places)) (sym c.in-Instr.is)
    (ok_then c.insn_reads.result _ _ (λ places has. insn_reads_are program c.args.method typed c.in-Instr.pc places has)
    (subst (λ (o : Option (Insn × ℕ)). IfOk c.insn_reads.result (λ (places : List Place). HasThose (Contains (read_by o)) places)) c.used_at.ensures c.insn_reads.ensures))

pub returns-in_ok-used-in-Call : goal.returns-in_ok-used-in-Call
returns-in_ok-used-in-Call c =
    let program = c.args.program.now in
    let typed = c.args.typed.now in
    subst (λ (k : NodeKind). IfOk c.argument_places.result (λ (places : List Place). HasThose (ListsRead program c.args.method (HeightIs typed) k) places)) (sym c.in-Call.is)
    (ok_then c.argument_places.result _ _ (λ places has. call_reads_are program c.args.method typed c.in-Call.pc c.in_ok-used-in-Call.used places c.in_ok-used-in-Call.ensures has) c.argument_places.ensures)

pub returns-in-Catch : goal.returns-in-Catch
returns-in-Catch c =
    let program = c.args.program.now in
    let typed = c.args.typed.now in
    subst (λ (k : NodeKind). IfOk c.one_place.result (λ (places : List Place). HasThose (ListsRead program c.args.method (HeightIs typed) k) places)) (sym c.in-Catch.is)
    (ok_then c.one_place.result _ _ (λ places has. catch_reads_are program c.args.method typed c.in-Catch.field-0 places has) c.one_place.ensures)
