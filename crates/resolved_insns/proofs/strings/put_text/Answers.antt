use Rattle.std.proofs.Common.{◌≡◌, ◌∙◌, ◌++◌, ◌∷◌, [], ℕ, List, map, ap}
use Rattle.jo_prog.specs.Constants.{distinct}
use Rattle.resolved_insns.specs.Strings.{key_text}
use Rattle.resolved_insns.proofs.StringLemmas.{text_put}
use Rattle.resolved_insns.proofs.strings.put_text.Goals as goal

pub returns-in-Ok : goal.returns-in-Ok
returns-in-Ok c = λ before are.
    let key : c.extend_from_slice.new.self.items ≡ c.args.text.now = c.in_ok-extend_from_slice.ensures.items ∙ ap (λ (t : List ℕ). t ++ c.args.text.now) c.new-key.ensures.items in
    ap (map key_text) c.in-Ok.ensures.keys ∙ text_put c.args.strings.now.texts.keys c.extend_from_slice.new.self before are
    ∙ ap (λ (t : List ℕ). distinct (before ++ t ∷ [])) key
