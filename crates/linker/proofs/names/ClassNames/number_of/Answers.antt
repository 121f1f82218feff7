use Rattle.std.proofs.Common.{◌≡◌, ℕ, Some, map, sym, ap, ◌∙◌}
use Rattle.linker.specs.KnownNames.{text_in}
use Rattle.linker.specs.Linking.{number_of}
use Rattle.linker.proofs.NameLemmas.{is_place}
use Rattle.linker.proofs.names.ClassNames.number_of.Goals as goal

pub returns-in-Some : goal.returns-in-Some
returns-in-Some c =
    let same : map text_in c.self.inside.names.keys ≡ c.args.self.now = cc in
    let place = is_place c.self.inside.names.keys c.args.name.now in
    ap (λ (n : ℕ). Some n) c.of.ensures ∙ sym c.in-Some.is ∙ c.get_index_of.ensures.index ∙ place ∙ ap (λ names. number_of names c.args.name.now) same

pub returns-in-None : goal.returns-in-None
returns-in-None c =
    let same : map text_in c.self.inside.names.keys ≡ c.args.self.now = cc in
    let place = is_place c.self.inside.names.keys c.args.name.now in
    sym c.in-None.is ∙ c.get_index_of.ensures.index ∙ place ∙ ap (λ names. number_of names c.args.name.now) same
