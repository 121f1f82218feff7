use Rattle.std.proofs.Common.{◌≡◌, ◌++◌, ◌∷◌, [], map, subst, ap, ◌∙◌, Contains}
use Rattle.linker.specs.KnownNames.{text_in}
use Rattle.linker.proofs.NameLemmas.{put_last}
use Rattle.linker.proofs.names.ClassNames.add.Goals as goal

pub returns-in-Ok : goal.returns-in-Ok
returns-in-Ok c =
    let same : map text_in c.self.inside.names.keys ≡ c.args.self.now = cc in
    let key : c.extend_from_slice.new.self.items ≡ c.args.name.now = c.in_ok-extend_from_slice.ensures.items ∙ ap (λ t. t ++ c.args.name.now) c.new-text.ensures.items in
    ap (map text_in) c.in-Ok.ensures.keys
    ∙ put_last c.self.inside.names.keys c.extend_from_slice.new.self c.args.name.now key (λ there. c.requires (subst (λ names. Contains names c.args.name.now) same there))
    ∙ ap (λ names. names ++ c.args.name.now ∷ []) same
