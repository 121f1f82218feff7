use Rattle.std.specs.Prelude.{IfOk}
use Rattle.std.proofs.Common.{ℕ, List, Option, Contains, sym, subst}
use Rattle.jo_insn.specs.declared.instructions.Insn.{Insn}
use Rattle.dep_nodes.specs.declared.kinds.NodeKind.{NodeKind}
use Rattle.dependence.specs.declared.flow.Place.{Place}
use Rattle.dependence.specs.NodePlaces.{Writes}
use Rattle.flow_graph.specs.Adding.{HasThose}
use Rattle.flow_graph.specs.NodeUses.{HeightIs, written_by}
use Rattle.flow_graph.proofs.AddingLemmas.{ok_then}
use Rattle.flow_graph.proofs.UseLemmas.{insn_writes_are, entry_writes_are, result_writes_are, throw_writes_are, catch_writes_are}
use Rattle.flow_graph.proofs.node_places.writes_of.Goals as goal

pub returns-in_ok-count-in-Entry : goal.returns-in_ok-count-in-Entry
returns-in_ok-count-in-Entry c =
    let program = c.args.program.now in
    let typed = c.args.typed.now in
    subst (λ (k : NodeKind). IfOk c.parameter_places.result (λ (places : List Place). HasThose (Writes program c.args.method (HeightIs typed) k) places)) (sym c.in-Entry.is)
    (ok_then c.parameter_places.result _ _ (λ places has. entry_writes_are program c.args.method typed c.in_ok-count-in-Entry.count places c.in_ok-count-in-Entry.ensures has) c.parameter_places.ensures)

pub returns-in-Instr : goal.returns-in-Instr
returns-in-Instr c =
    let program = c.args.program.now in
    let typed = c.args.typed.now in
    subst (λ (k : NodeKind). IfOk c.insn_writes.result (λ (places : List Place). HasThose (Writes program c.args.method (HeightIs typed) k) places)) (sym c.in-Instr.is)
    (ok_then c.insn_writes.result _ _ (λ places has. insn_writes_are program c.args.method typed c.in-Instr.pc places has)
    (subst (λ (o : Option (Insn × ℕ)). IfOk c.insn_writes.result (λ (places : List Place). HasThose (Contains (written_by o)) places)) c.used_at.ensures c.insn_writes.ensures))

pub returns-in_ok-used-in-RetVal : goal.returns-in_ok-used-in-RetVal
returns-in_ok-used-in-RetVal c =
    let program = c.args.program.now in
    let typed = c.args.typed.now in
    subst (λ (k : NodeKind). IfOk c.result_places.result (λ (places : List Place). HasThose (Writes program c.args.method (HeightIs typed) k) places)) (sym c.in-RetVal.is)
    (ok_then c.result_places.result _ _ (λ places has. result_writes_are program c.args.method typed c.in-RetVal.pc c.in_ok-used-in-RetVal.used places c.in_ok-used-in-RetVal.ensures has) c.result_places.ensures)

pub returns-in-Throw : goal.returns-in-Throw
returns-in-Throw c =
    let program = c.args.program.now in
    let typed = c.args.typed.now in
    subst (λ (k : NodeKind). IfOk c.one_place.result (λ (places : List Place). HasThose (Writes program c.args.method (HeightIs typed) k) places)) (sym c.in-Throw.is)
    (ok_then c.one_place.result _ _ (λ places has. throw_writes_are program c.args.method typed c.in-Throw.field-0 places has) c.one_place.ensures)

pub returns-in-Catch : goal.returns-in-Catch
returns-in-Catch c =
    let program = c.args.program.now in
    let typed = c.args.typed.now in
    subst (λ (k : NodeKind). IfOk c.one_place-in-Catch.result (λ (places : List Place). HasThose (Writes program c.args.method (HeightIs typed) k) places)) (sym c.in-Catch.is)
    (ok_then c.one_place-in-Catch.result _ _ (λ places has. catch_writes_are program c.args.method typed c.in-Catch.field-0 places has) c.one_place-in-Catch.ensures)
