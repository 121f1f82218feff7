use Rattle.std.proofs.Common.{rules, ◌≡◌, ◌≤◌, ◌<◌, ℕ, List, length, Contains, sym, ◌∙◌, ap, subst, arith}
use Rattle.std.proofs.lemmas.Result.{on_ok_weaker}
use Rattle.jo_ids.specs.declared.ObjKey.{ObjKey}
use Rattle.jo_prog.specs.Sites.{opcode_of}
use Rattle.jo_prog.specs.TypingPaths.{HasHeightAt}
use Rattle.dependence.specs.declared.facts.Fact.{Fact}
use Rattle.dependence.specs.FlowGraph.{base_depth}
use Rattle.dependence.specs.FactRules.{BaseHolds}
use Rattle.dependence.specs.NodePlaces.{stack_use_of}
use Rattle.fact_sets.specs.Seen.{Known, Listed, instance_seen}
use Rattle.fact_rules.specs.Adds.{From}
use Rattle.fact_rules.specs.Additions.{OfObject}
use Rattle.fact_rules.specs.Places.{instance_of}
use Rattle.fact_rules.specs.CellSteps.{AreSeen, HoldsBelow, CellGives, BasesGive, cell_on}
use Rattle.fact_rules.proofs.AddsLemmas.{adds_alike}
use Rattle.fact_rules.proofs.CellLemmas.{depth_some, from_seen, bases_seen}
use Rattle.fact_rules.proofs.cell_rules.access_base.Goals as goal

pub numbers_below-requires-clause-first : goal.numbers_below-requires-clause-first
numbers_below-requires-clause-first g c =
    let depth : c.base_depth-depth.result ≡ base_depth (opcode_of c.args.insn) = c.base_depth-depth.ensures ∙ ap base_depth c.opcode_of.ensures in
    subst (λ (d : ℕ). 1 ≤ d) (sym depth) (depth_some (opcode_of c.args.insn))

pub numbers_below-requires-clause-last : goal.numbers_below-requires-clause-last
numbers_below-requires-clause-last g c =
    let depth : c.base_depth-depth.result ≡ base_depth (opcode_of c.args.insn) = c.base_depth-depth.ensures ∙ ap base_depth c.opcode_of.ensures in
    subst (λ (d : ℕ). d ≤ (stack_use_of (opcode_of c.args.insn)).pops) (sym depth) c.requires.base

pub stored_at-requires-clause-last : goal.stored_at-requires-clause-last
stored_at-requires-clause-last g c = λ stores. (let some = depth_some (opcode_of c.args.insn) in let base = c.requires.base in omega (arith, some, base))

pub access_objects-requires-clause-inside : goal.access_objects-requires-clause-inside
access_objects-requires-clause-inside g c =
    let is : c.as_slice.result.now ≡ c.in_ok-stored.stored.items = search rules in
    subst (λ (ns : List ℕ). (o : ℕ) → Contains ns o → o < length c.args.facts.now.objects) (sym is) c.in_ok-stored.ensures.inside

pub access_objects-requires-clause-stored : goal.access_objects-requires-clause-stored
access_objects-requires-clause-stored g c = λ stores list tells.
    let view = c.args.view.now in
    let is : c.as_slice.result.now ≡ c.in_ok-stored.stored.items = search rules in
    subst (λ (ns : List ℕ). AreSeen list c.args.facts.now.objects ns (HoldsBelow view.program.now (Known list c.args.facts.now) (HasHeightAt view.program.now view.method) (instance_seen list (instance_of view.method c.args.context)) c.args.pc 1))
    (sym is) (c.in_ok-stored.ensures.each stores list tells)

pub access_objects-requires-clause-bases : goal.access_objects-requires-clause-bases
access_objects-requires-clause-bases g c =
    let is : c.as_slice-2.result.now ≡ c.in_ok-bases.bases.items = search rules in
    subst (λ (ns : List ℕ). (o : ℕ) → Contains ns o → o < length c.args.facts.now.objects) (sym is) c.in_ok-bases.ensures.inside

pub returns : goal.returns
returns g c =
    let view = c.args.view.now in
    let H = HasHeightAt view.program.now view.method in
    let depth : c.base_depth-depth.result ≡ base_depth (opcode_of c.args.insn) = c.base_depth-depth.ensures ∙ ap base_depth c.opcode_of.ensures in
    let at = c.requires.at in
    let bases = c.as_slice-2.result.now in
    let is : c.as_slice-2.result.now ≡ c.in_ok-bases.bases.items = search rules in
    on_ok_weaker c.access_objects.result
    (λ adds list tells.
    let facts = Known list c.args.facts.now in
    let i = instance_seen list (instance_of view.method c.args.context) in
    let objects = c.args.facts.now.objects in
    let makes : ObjKey (List ℕ) → Fact (List ℕ) → Type 0 = λ base. CellGives view.program.now facts H i c.args.pc c.args.store (cell_on c.args.field.now base) in
    adds_alike (Listed list c.args.following.now.items) (Listed list c.access_objects.new.following.items) (From bases (OfObject list objects makes))
    (BasesGive view.program.now facts H i c.args.pc c.args.store c.args.field.now) (adds list tells)
    (from_seen list objects bases (BaseHolds view.program.now facts H i c.args.pc) makes
    (bases_seen view.program.now view.method H c.args.pc at.next c.args.insn at.stands facts (list c.args.context) c.requires.plain c.base_depth-depth.result depth list objects bases
    (subst (λ (ns : List ℕ). AreSeen list objects ns (HoldsBelow view.program.now facts H i c.args.pc c.base_depth-depth.result)) (sym is) (c.in_ok-bases.ensures.each list tells)))))
    c.access_objects.ensures
