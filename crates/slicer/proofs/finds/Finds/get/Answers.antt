use Rattle.std.proofs.Common.{rules, ◌≡◌, ◌<◌, length, take, get_or, refl, sym, ◌∙◌, ap, arith}
use Rattle.std.proofs.lemmas.List.{length-take, get_or-take}
use Rattle.std.proofs.lemmas.Option.{slice_get_read}
use Rattle.slicer.proofs.FindLemmas.{found_below}
use Rattle.slicer.proofs.finds.Finds.get.Goals as goal

pub returns-clause-below : goal.returns-clause-below
returns-clause-below c =
    let s = c.self.inside in
    let item = c.index.result.now in
    let taken = take s.end s.places.items in
    let below : c.args.number < length taken = omega (arith, c.requires, ap (λ v. length v.found) c.self.view_is) in
    let within : c.args.number < s.end = omega (arith, below, length-take s.end s.places.items) in
    let value : item ≡ get_or s.places.items c.args.number item = search rules in
    let is = slice_get_read taken (length taken) c.args.number item refl below (value ∙ sym (get_or-take s.end s.places.items c.args.number item within)) in
    omega (arith, found_below s.first s.second s.places.items s.end c.args.number item c.self.invariant is, ap (λ v. v.count) c.self.view_is)
