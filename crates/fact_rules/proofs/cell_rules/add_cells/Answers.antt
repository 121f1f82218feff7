use Rattle.std.proofs.Common.{◌≡◌, None, Some, sym, ◌∙◌, ap}
use Rattle.std.proofs.lemmas.Result.{on_ok_weaker}
use Rattle.jo_prog.specs.Sites.{opcode_of}
use Rattle.jo_prog.specs.TypingPaths.{HasHeightAt}
use Rattle.contexts.specs.Policies.{insensitive}
use Rattle.dependence.specs.WideGraph.{resolved_field_at}
use Rattle.fact_sets.specs.Seen.{Known, Listed, instance_seen}
use Rattle.fact_rules.specs.Places.{instance_of}
use Rattle.fact_rules.specs.CellSteps.{access_of, AccessGives, CellsAt}
use Rattle.fact_rules.proofs.AddsLemmas.{adds_none, adds_alike}
use Rattle.fact_rules.proofs.CellLemmas.{nothing_accessed, nothing_there, node_accesses, node_stands}
use Rattle.fact_rules.proofs.cell_rules.add_cells.Goals as goal

pub returns-in_default : goal.returns-in_default
returns-in_default g c = λ list tells.
    let view = c.args.view.now in
    let H = HasHeightAt view.program.now view.method in
    let facts = Known list c.args.facts.now in
    adds_none (Listed list c.args.following.now.items) (CellsAt view.program.now facts H (instance_seen list (instance_of view.method c.args.context)) view.wide.now c.args.n)
    (nothing_there view.program.now view.method H view.wide.now c.requires.view.graph insensitive facts (list c.args.context) c.args.n c.node.result.now c.node.ensures (sym c.standing.ensures ∙ c.in_default.is))

pub returns-in_default-access_of : goal.returns-in_default-access_of
returns-in_default-access_of g c = λ list tells.
    let view = c.args.view.now in
    let H = HasHeightAt view.program.now view.method in
    let facts = Known list c.args.facts.now in
    let none : access_of (opcode_of c.in-Some.insn) ≡ None = sym (ap access_of c.opcode_of.ensures) ∙ sym c.access_of.ensures ∙ c.in_default-access_of.is in
    adds_none (Listed list c.args.following.now.items) (CellsAt view.program.now facts H (instance_seen list (instance_of view.method c.args.context)) view.wide.now c.args.n)
    (nothing_accessed view.program.now view.method H view.wide.now c.requires.view.graph insensitive facts (list c.args.context) c.args.n c.node.result.now c.node.ensures c.in-Some.pc c.in-Some.insn (sym c.standing.ensures ∙ c.in-Some.is) none)

pub add_access-requires-clause-at : goal.add_access-requires-clause-at
add_access-requires-clause-at g c =
    let view = c.args.view.now in
    node_stands view.program.now view.method (HasHeightAt view.program.now view.method) view.wide.now c.requires.view.graph c.args.n c.node.result.now c.node.ensures c.in-Some.pc c.in-Some.insn (sym c.standing.ensures ∙ c.in-Some.is)

pub add_access-requires-clause-is : goal.add_access-requires-clause-is
add_access-requires-clause-is g c = sym (ap access_of c.opcode_of.ensures) ∙ sym c.access_of.ensures ∙ c.in-Some-access_of.is

pub returns : goal.returns
returns g c =
    let view = c.args.view.now in
    let program = view.program.now in
    let H = HasHeightAt program view.method in
    let pc = c.in-Some.pc in
    let access = c.in-Some-access_of.access in
    let is : access_of (opcode_of c.in-Some.insn) ≡ Some access = sym (ap access_of c.opcode_of.ensures) ∙ sym c.access_of.ensures ∙ c.in-Some-access_of.is in
    on_ok_weaker c.add_access.result
    (λ adds list tells.
    let facts = Known list c.args.facts.now in
    let i = instance_seen list (instance_of view.method c.args.context) in
    adds_alike (Listed list c.args.following.now.items) (Listed list c.add_access.new.following.items) (AccessGives program facts H i pc (resolved_field_at program view.method pc) access) (CellsAt program facts H i view.wide.now c.args.n) (adds list tells)
    (node_accesses program view.method H view.wide.now c.requires.view.graph insensitive facts (list c.args.context) c.args.n c.node.result.now c.node.ensures pc c.in-Some.insn (sym c.standing.ensures ∙ c.in-Some.is) access is))
    c.add_access.ensures
