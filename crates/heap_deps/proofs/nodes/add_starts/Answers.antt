use Rattle.std.specs.Prelude.{◌↔◌}
use Rattle.std.specs.Option.{option_copied}
use Rattle.std.proofs.Common.{◌≡◌, Option, None, Some, Bor, sym, ◌∙◌, subst}
use Rattle.jo_prog.specs.declared.program.MemberRef.{MemberRef}
use Rattle.jo_prog.specs.Sites.{opcode_of}
use Rattle.dependence.specs.FlowGraph.{AnObject}
use Rattle.dependence.specs.WideGraph.{insn_at, resolved_at}
use Rattle.fact_sets.specs.Seen.{Known, instance_seen}
use Rattle.heap_deps.specs.Adds.{From}
use Rattle.heap_deps.specs.ObjectCells.{OfObject}
use Rattle.heap_deps.specs.Accesses.{IsStartCall, IsStartBy, StartMakes, StartsThread, StartsOn}
use Rattle.heap_deps.proofs.GrowLemmas.{grows_none, or_stops_alike}
use Rattle.heap_deps.proofs.StartLemmas.{insn_stands, never_starts, starts_told}
use Rattle.heap_deps.proofs.CallLemmas.{start_makes_told}
use Rattle.heap_deps.proofs.nodes.add_starts.Goals as goal

pub start_call-requires-clause-stands : goal.start_call-requires-clause-stands
start_call-requires-clause-stands g c = insn_stands (insn_at c.args.program.now c.args.key.now.method c.args.pc) c.args.flow_node.now.insn c.in-Some.insn c.requires.insn c.in-Some.is

pub returns-in_default-found : goal.returns-in_default-found
returns-in_default-found g c =
    let program = c.args.program.now in
    let m = c.args.key.now.method in
    let insn = c.in-Some.insn in
    let (next, found) = insn_stands (insn_at program m c.args.pc) c.args.flow_node.now.insn insn c.requires.insn c.in-Some.is in
    let none : IsStartCall program m c.args.pc (opcode_of insn) None = subst (λ (o : Option (Bor MemberRef)). IsStartCall program m c.args.pc (opcode_of insn) (option_copied o)) c.in_default-found.is c.in-Ok.ensures in
    grows_none c.args.graph.now (StartMakes program (Known g.X.Contexts.list c.args.facts.now) (instance_seen g.X.Contexts.list c.args.key.now) c.args.pc c.args.node)
    (λ x made. (let (o, known, by) = made in never_starts program m c.args.pc next insn found none o by.0))

pub returns : goal.returns
returns g c =
    let program = c.args.program.now in
    let list = g.X.Contexts.list in
    let L = c.args.facts.now in
    let key = c.args.key.now in
    let m = key.method in
    let pc = c.args.pc in
    let insn = c.in-Some.insn in
    let ref = c.in-Some-found.member.now in
    let op = c.opcode_of.result in
    let resolved = c.in-Some-method.resolved in
    let (next, found) = insn_stands (insn_at program m pc) c.args.flow_node.now.insn insn c.requires.insn c.in-Some.is in
    let call : IsStartCall program m pc (opcode_of insn) (Some ref) = subst (λ (o : Option (Bor MemberRef)). IsStartCall program m pc (opcode_of insn) (option_copied o)) c.in-Some-found.is c.in-Ok.ensures in
    let resolves : resolved_at program m pc ≡ Some resolved = sym c.requires.method ∙ c.in-Some-method.is in
    let starts : (o : AnObject) → StartsThread program m op ref.owner resolved o ↔ StartsOn program m pc o =
    subst (λ k. (o : AnObject) → StartsThread program m k ref.owner resolved o ↔ StartsOn program m pc o) (sym c.opcode_of.ensures) (starts_told program m pc next insn found ref resolved call resolves) in
    or_stops_alike c.add_each_start.result c.args.graph.now c.add_each_start.new.graph (From c.held-held.result.now (OfObject list L.objects (IsStartBy program m op ref.owner resolved c.args.node)))
    (StartMakes program (Known list L) (instance_seen list key) pc c.args.node) c.add_each_start.ensures
    (start_makes_told list g.met.X.Contexts.equal_lists L c.args.instance key c.instances-count.ensures.once c.requires.is program pc op ref.owner resolved c.args.node c.held-held.result.now c.held-held.ensures.each starts)
