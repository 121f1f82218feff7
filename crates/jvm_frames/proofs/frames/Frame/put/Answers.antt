use Rattle.std.proofs.Common.{rules, ◌≡◌, refl, option_map, slice_set}
use Rattle.std.specs.Prelude.{Some}
use Rattle.std.proofs.lemmas.List.{map-set}
use Rattle.jvm_values.specs.Values.{value_of}
use Rattle.jvm_frames.proofs.frames.Frame.put.Goals as goal

pub returns : goal.returns
returns c =
    let locals = c.args.self.now.locals.items in
    let is : c.set.new.items.items ≡ slice_set locals c.args.local (Some c.args.value) = search rules in
    rw (is, map-set (option_map value_of) locals c.args.local (Some c.args.value), c.drop_values.ensures) refl
