use Rattle.std.proofs.Common.{◌≡◌, ◌++◌, map, None, ap, ◌∙◌}
use Rattle.class_asm.specs.Layout.{setting_of}
use Rattle.class_asm.specs.Labelled.{setting_in}
use Rattle.class_asm.proofs.LabelPlaces.{set_new, nothing_found}
use Rattle.class_asm.proofs.labels.Labels.set.Goals as goal

pub returns-in-Ok : goal.returns-in-Ok
returns-in-Ok c =
    let same : map setting_in c.self.inside.places.entries ≡ c.args.self.now = cc in
    let key : c.extend_from_slice.new.self.items ≡ c.args.name.now = c.in_ok-extend_from_slice.ensures.items ∙ ap (λ t. t ++ c.args.name.now) c.new-key.ensures.items in
    let none : setting_of c.args.self.now c.args.name.now ≡ None = nothing_found (setting_of c.args.self.now c.args.name.now) c.find.result c.is_some.result c.find.ensures c.is_some.ensures c.if-is_some.false in
    ap (map setting_in) c.in-Ok.ensures.entries ∙ set_new c.self.inside.places.entries c.extend_from_slice.new.self c.args.place c.args.name.now c.args.self.now same key none
