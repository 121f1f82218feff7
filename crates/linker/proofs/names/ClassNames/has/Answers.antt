use Rattle.std.proofs.Common.{◌≡◌, ◌↔◌, true, map, subst, ap, ◌∙◌, Contains}
use Rattle.linker.specs.KnownNames.{text_in}
use Rattle.linker.specs.LinkFaults.{is_known}
use Rattle.linker.proofs.NameLemmas.{any_named, has_is}
use Rattle.linker.proofs.names.ClassNames.has.Goals as goal

pub returns-clause-known : goal.returns-clause-known
returns-clause-known c =
    let same : map text_in c.self.inside.names.keys ≡ c.args.self.now = cc in
    c.contains.ensures ∙ any_named c.self.inside.names.keys c.args.name.now ∙ ap (λ names. is_known names c.args.name.now) same

pub returns-clause-there : goal.returns-clause-there
returns-clause-there c =
    let same : map text_in c.self.inside.names.keys ≡ c.args.self.now = cc in
    subst (λ names. (c.contains.result ≡ true) ↔ Contains names c.args.name.now) same
    (has_is c.self.inside.names.keys c.args.name.now c.contains.result c.contains.ensures)
