use Rattle.std.proofs.Common.{◌≡◌, ℕ, List, Contains, sym, ◌∙◌, ap, subst}
use Rattle.std.proofs.lemmas.List.Elements.{Contains-get_or}
use Rattle.jo_prog.specs.TypingPaths.{HasHeightAt}
use Rattle.jo_ids.specs.declared.ObjKey.{ObjKey}
use Rattle.dependence.specs.declared.facts.Fact.{Fact}
use Rattle.fact_sets.specs.declared.numbered.CellNumber.{CellNumber}
use Rattle.fact_sets.specs.FactLists.{IsCell}
use Rattle.fact_sets.specs.Seen.{Known, Listed, instance_seen, object_seen, cell_seen}
use Rattle.fact_rules.specs.Adds.{Adds}
use Rattle.fact_rules.specs.Additions.{OfObject}
use Rattle.fact_rules.specs.Places.{instance_of}
use Rattle.fact_rules.specs.CellSteps.{CellGives, cell_on, number_on}
use Rattle.fact_rules.proofs.AddsLemmas.{adds_alike, over_none, over_item, over_all}
use Rattle.fact_rules.proofs.ListLevel.{of_object}
use Rattle.fact_rules.proofs.CellLemmas.{cell_named, cell_on_seen}
use Rattle.fact_rules.proofs.cell_rules.access_objects.Goals as goal

pub loop-base-init : goal.loop-base-init
loop-base-init g c = λ list tells.
    let view = c.args.view.now in
    let H = HasHeightAt view.program.now view.method in
    let i = instance_seen list (instance_of view.method c.args.context) in
    over_none c.args.bases.now (OfObject list c.args.facts.now.objects (λ base. CellGives view.program.now (Known list c.args.facts.now) H i c.args.pc c.args.store (cell_on c.args.field.now base))) (Listed list c.args.following.now.items)

pub object-requires : goal.object-requires
object-requires g c =
    c.requires.bases c.base-item.result (subst (Contains c.args.bases.now) (sym c.base-item.is) (Contains-get_or c.args.bases.now c.loop-base.base-index c.base-item.result c.loop-base-test.true))

pub access_cell-requires-clause-named : goal.access_cell-requires-clause-named
access_cell-requires-clause-named g c =
    let objects = c.args.facts.now.objects in
    let field = c.args.field.now in
    let key = c.object.result in
    subst (λ (n : CellNumber). IsCell objects n c.cell_on-cell.result) (sym c.number_on-number.ensures)
    (subst (IsCell objects (number_on field c.base-item.result)) (sym c.cell_on-cell.ensures) (cell_named objects field c.base-item.result key c.object.ensures))

pub loop-base-preserved : goal.loop-base-preserved
loop-base-preserved g c = λ list tells.
    let view = c.args.view.now in
    let H = HasHeightAt view.program.now view.method in
    let i = instance_seen list (instance_of view.method c.args.context) in
    let facts = Known list c.args.facts.now in
    let objects = c.args.facts.now.objects in
    let field = c.args.field.now in
    let key = c.object.result in
    let makes : ObjKey (List ℕ) → Fact (List ℕ) → Type 0 = λ base. CellGives view.program.now facts H i c.args.pc c.args.store (cell_on field base) in
    let t = Listed list c.loop-base.following.items in
    let u = Listed list c.access_cell.new.following.items in
    let same : cell_seen list c.cell_on-cell.result ≡ cell_on field (object_seen list key) = ap (cell_seen list) c.cell_on-cell.ensures ∙ cell_on_seen list field key in
    over_item c.args.bases.now (OfObject list objects makes) (Listed list c.args.following.now.items) t u c.loop-base.base-index c.base-item.result c.loop-base-test.true c.base-item.is (c.loop-base.invariant list tells)
    (adds_alike t u (makes (object_seen list key)) (OfObject list objects makes c.base-item.result)
    (subst (λ cell. Adds t u (CellGives view.program.now facts H i c.args.pc c.args.store cell)) same (c.in_ok-access_cell.ensures list tells))
    (of_object list objects c.base-item.result key makes c.object.ensures))

pub returns : goal.returns
returns g c = λ list tells.
    let view = c.args.view.now in
    let H = HasHeightAt view.program.now view.method in
    let i = instance_seen list (instance_of view.method c.args.context) in
    over_all c.args.bases.now (OfObject list c.args.facts.now.objects (λ base. CellGives view.program.now (Known list c.args.facts.now) H i c.args.pc c.args.store (cell_on c.args.field.now base)))
    (Listed list c.args.following.now.items) (Listed list c.loop-base.following.items) c.loop-base.base-index c.loop-base-test.false (c.loop-base.invariant list tells)
