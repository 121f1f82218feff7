use Rattle.std.proofs.Common.{rules, ◌≡◌, ℕ, List, Option, Some, refl, sym, subst}
use Rattle.std.specs.Prelude.{◌↔◌}
use Rattle.jo_prog.specs.Program.{method_at}
use Rattle.jo_prog.specs.TypingPaths.{Typable, HasHeightAt}
use Rattle.typing_heights.specs.Searches.{height_at}
use Rattle.typing_heights.proofs.HeightLemmas.{heights_exact}
use Rattle.typing_heights.proofs.heights.heights_of.Goals as goal

pub returns : goal.returns
returns c =
    let t : Typable = record { number = c.args.method; method = c.in-Some.found.now; code = c.in-Some-code.code } in
    let found : method_at c.args.program.now c.args.method ≡ Some c.in-Some.found.now = search rules in
    let coded : c.in-Some.found.now.code ≡ Some c.in-Some-code.code = search rules in
    subst (λ (l : List (Option ℕ)). (pc h : ℕ) → (height_at l pc ≡ Some h) ↔ HasHeightAt c.args.program.now c.args.method pc h) (sym c.of-2.ensures)
    (heights_exact c.args.program.now c.args.method t c.in_ok-heights.heights.items (refl, found, coded) c.in_ok-heights.ensures)
