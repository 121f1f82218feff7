use Rattle.std.proofs.Common.{◌≡◌, ◌∙◌, ◌++◌, ℕ, List, Some, cond, ap}
use Rattle.std.specs.Str.{bytes_eq}
use Rattle.typing_effects.specs.ClassNames.{number_at, class_by}
use Rattle.typing_effects.proofs.NameTables.{name_put}
use Rattle.typing_effects.proofs.class_names.put_name.Goals as goal

pub returns-in-Ok : goal.returns-in-Ok
returns-in-Ok c =
    let name : c.as_slice.result.now ≡ c.args.class.now.name = cc in
    let key : c.extend_from_slice.new.self.items ≡ c.args.class.now.name =
    c.in_ok-extend_from_slice.ensures.items ∙ ap (λ (t : List ℕ). t ++ c.as_slice.result.now) c.new-key.ensures.items ∙ name in
    let number : c.of.result ≡ c.args.number = cc in
    λ text. ap (λ es. number_at es text) c.in-Ok.ensures.entries
    ∙ name_put c.args.names.now.numbers.entries c.extend_from_slice.new.self c.of.result text
    ∙ ap (λ (k : List ℕ). cond (bytes_eq k text) (Some c.of.result) (class_by c.args.names.now text)) key
    ∙ ap (λ n. cond (bytes_eq c.args.class.now.name text) (Some n) (class_by c.args.names.now text)) number
