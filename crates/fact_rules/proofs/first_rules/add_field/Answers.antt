use Rattle.std.proofs.Common.{◌≡◌, IsTrue, rules}
use Rattle.std.proofs.lemmas.Result.{on_ok_weaker}
use Rattle.dependence.specs.declared.facts.FactCell.TheVariants.{Static}
use Rattle.dependence.specs.declared.facts.Fact.TheVariants.{CellHolds}
use Rattle.fact_sets.specs.Seen.{Listed, object_seen}
use Rattle.fact_rules.specs.FirstRules.{FieldGives}
use Rattle.fact_rules.proofs.AddsLemmas.{adds_alike, adds_none}
use Rattle.fact_rules.proofs.FirstLemmas.{text_field, field_gives, field_gives_none}
use Rattle.fact_rules.proofs.first_rules.add_field.Goals as goal

pub returns-then-not-is_text_field : goal.returns-then-not-is_text_field
returns-then-not-is_text_field g c =
    let program = c.args.program.now in
    let f = c.args.field in
    let told = text_field program f c.field.result.now c.field.ensures in
    adds_none (Listed g.X.Contexts.list c.args.following.now.items) (FieldGives program f)
    (field_gives_none program f (λ text. let yes = c.is_text_field.ensures.1 (told.1 text) in absurd (cc)))

pub returns : goal.returns
returns g c =
    let program = c.args.program.now in
    let f = c.args.field in
    let list = g.X.Contexts.list in
    let s = Listed list c.args.following.now.items in
    let t = Listed list c.add_fact.new.following.items in
    let o = object_seen list c.object_of.result in
    let text = (text_field program f c.field.result.now c.field.ensures).0 (c.is_text_field.ensures.0 c.if-not-is_text_field.false) in
    on_ok_weaker c.add_fact.result
    (λ adds. adds_alike s t (λ h. h ≡ CellHolds (Static f) o) (FieldGives program f) (adds list g.met.X.Contexts.equal_lists) (field_gives program f o c.object_of.ensures text))
    c.add_fact.ensures
