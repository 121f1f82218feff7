use Rattle.std.proofs.Common.{◌≡◌, Some, None, true, false, not, ◌∙◌, ap}
use Rattle.std.specs.Option.{is_some}
use Rattle.std.proofs.lemmas.Result.{on_ok_weaker}
use Rattle.jo_prog.specs.Sites.{opcode_of}
use Rattle.jo_prog.specs.TypingPaths.{HasHeightAt}
use Rattle.dependence.specs.declared.facts.FactCell.TheVariants.{Static}
use Rattle.dependence.specs.WideGraph.{resolved_field_at}
use Rattle.fact_sets.specs.Seen.{Known, Listed, instance_seen}
use Rattle.fact_rules.specs.declared.cell_rules.Access.{Access}
use Rattle.fact_rules.specs.declared.cell_rules.Access.TheVariants.{OfStatic, OfElements}
use Rattle.fact_rules.specs.Places.{instance_of}
use Rattle.fact_rules.specs.CellSteps.{AccessGives, BasesGive, CellGives}
use Rattle.fact_rules.proofs.AddsLemmas.{adds_none, adds_alike}
use Rattle.fact_rules.proofs.CellLemmas.{access_is, access_plain, elements_ready, static_pops, field_here, elements_arm, field_arm, static_arm, no_field_arm, no_static_arm}
use Rattle.fact_rules.proofs.cell_rules.add_access.Goals as goal

pub access_base-requires-clause-plain : goal.access_base-requires-clause-plain
access_base-requires-clause-plain g c = access_plain c.args.access.now (opcode_of c.args.insn) (access_is (opcode_of c.args.insn) c.args.access.now c.requires.is)

pub access_base-requires-clause-base : goal.access_base-requires-clause-base
access_base-requires-clause-base g c =
    let op = opcode_of c.args.insn in
    (elements_ready c.in-OfElements.store op (access_is op (OfElements c.in-OfElements.store) (c.requires.is ∙ ap (λ (a : Access). Some a) c.in-OfElements.is))).pops

pub returns-in-OfElements : goal.returns-in-OfElements
returns-in-OfElements g c =
    let view = c.args.view.now in
    let program = view.program.now in
    let H = HasHeightAt program view.method in
    let store = c.in-OfElements.store in
    let access = c.args.access.now in
    let field = resolved_field_at program view.method c.args.pc in
    on_ok_weaker c.access_base.result
    (λ adds list tells.
    let facts = Known list c.args.facts.now in
    let i = instance_seen list (instance_of view.method c.args.context) in
    adds_alike (Listed list c.args.following.now.items) (Listed list c.access_base.new.following.items) (BasesGive program facts H i c.args.pc store None) (AccessGives program facts H i c.args.pc field access) (adds list tells)
    (elements_arm program view.method H c.args.pc facts (list c.args.context) store access field c.in-OfElements.is))
    c.access_base.ensures

pub returns-then-is_none : goal.returns-then-is_none
returns-then-is_none g c = λ list tells.
    let view = c.args.view.now in
    let program = view.program.now in
    let H = HasHeightAt program view.method in
    let access = c.args.access.now in
    let field = resolved_field_at program view.method c.args.pc in
    let facts = Known list c.args.facts.now in
    let own = c.node.result.now.field in
    let here : own ≡ field = field_here program view.method H view.wide.now c.requires.view.graph c.args.n c.args.pc c.args.insn c.requires.at c.node.result.now c.node.ensures in
    let none : is_some own ≡ false = c.is_none.ensures ∙ ap not c.if-is_none.true in
    adds_none (Listed list c.args.following.now.items) (AccessGives program facts H (instance_seen list (instance_of view.method c.args.context)) c.args.pc field access)
    (no_field_arm program view.method H c.args.pc facts (list c.args.context) c.in-OfField.store access field own here c.in-OfField.is none)

pub returns-else-is_none : goal.returns-else-is_none
returns-else-is_none g c =
    let view = c.args.view.now in
    let program = view.program.now in
    let H = HasHeightAt program view.method in
    let store = c.in-OfField.store in
    let access = c.args.access.now in
    let field = resolved_field_at program view.method c.args.pc in
    let own = c.node.result.now.field in
    let here : own ≡ field = field_here program view.method H view.wide.now c.requires.view.graph c.args.n c.args.pc c.args.insn c.requires.at c.node.result.now c.node.ensures in
    let some_ : is_some own ≡ true = c.is_none.ensures ∙ ap not c.if-is_none.false in
    on_ok_weaker c.access_base-in-OfField.result
    (λ adds list tells.
    let facts = Known list c.args.facts.now in
    let i = instance_seen list (instance_of view.method c.args.context) in
    adds_alike (Listed list c.args.following.now.items) (Listed list c.access_base-in-OfField.new.following.items) (BasesGive program facts H i c.args.pc store own) (AccessGives program facts H i c.args.pc field access) (adds list tells)
    (field_arm program view.method H c.args.pc facts (list c.args.context) store access field own here c.in-OfField.is some_))
    c.access_base-in-OfField.ensures

pub access_static-requires-clause-plain : goal.access_static-requires-clause-plain
access_static-requires-clause-plain g c = access_plain c.args.access.now (opcode_of c.args.insn) (access_is (opcode_of c.args.insn) c.args.access.now c.requires.is)

pub access_static-requires-clause-last : goal.access_static-requires-clause-last
access_static-requires-clause-last g c =
    let op = opcode_of c.args.insn in
    static_pops c.in-OfStatic.store op (access_is op (OfStatic c.in-OfStatic.store) (c.requires.is ∙ ap (λ (a : Access). Some a) c.in-OfStatic.is))

pub returns-in-Some : goal.returns-in-Some
returns-in-Some g c =
    let view = c.args.view.now in
    let program = view.program.now in
    let H = HasHeightAt program view.method in
    let store = c.in-OfStatic.store in
    let access = c.args.access.now in
    let field = resolved_field_at program view.method c.args.pc in
    let own = c.node.result.now.field in
    let f = c.in-Some.field in
    let here : own ≡ field = field_here program view.method H view.wide.now c.requires.view.graph c.args.n c.args.pc c.args.insn c.requires.at c.node.result.now c.node.ensures in
    on_ok_weaker c.access_static.result
    (λ adds list tells.
    let facts = Known list c.args.facts.now in
    let i = instance_seen list (instance_of view.method c.args.context) in
    adds_alike (Listed list c.args.following.now.items) (Listed list c.access_static.new.following.items) (CellGives program facts H i c.args.pc store (Static f)) (AccessGives program facts H i c.args.pc field access) (adds list tells)
    (static_arm program view.method H c.args.pc facts (list c.args.context) store access field own here c.in-OfStatic.is f c.in-Some.is))
    c.access_static.ensures

pub returns-in-None : goal.returns-in-None
returns-in-None g c = λ list tells.
    let view = c.args.view.now in
    let program = view.program.now in
    let H = HasHeightAt program view.method in
    let access = c.args.access.now in
    let field = resolved_field_at program view.method c.args.pc in
    let facts = Known list c.args.facts.now in
    let own = c.node.result.now.field in
    let here : own ≡ field = field_here program view.method H view.wide.now c.requires.view.graph c.args.n c.args.pc c.args.insn c.requires.at c.node.result.now c.node.ensures in
    adds_none (Listed list c.args.following.now.items) (AccessGives program facts H (instance_seen list (instance_of view.method c.args.context)) c.args.pc field access)
    (no_static_arm program view.method H c.args.pc facts (list c.args.context) c.in-OfStatic.store access field own here c.in-OfStatic.is c.in-None.is)
