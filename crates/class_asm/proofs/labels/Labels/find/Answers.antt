use Rattle.std.proofs.Common.{◌≡◌, map, option_map, ap, ◌∙◌}
use Rattle.class_asm.specs.Layout.{setting_of}
use Rattle.class_asm.specs.Labelled.{setting_in, place_in}
use Rattle.class_asm.proofs.LabelPlaces.{found}
use Rattle.class_asm.proofs.labels.Labels.find.Goals as goal

pub returns : goal.returns
returns c =
    let same : map setting_in c.self.inside.places.entries ≡ c.args.self.now = cc in
    c.copied.ensures ∙ c.get.ensures.value ∙ found c.self.inside.places.entries c.args.name.now ∙ ap (λ s. option_map place_in (setting_of s c.args.name.now)) same
