use Rattle.std.proofs.Common.{rules, ◌≡◌, ℕ, List, Option, Some, Contains, ◌↔◌, refl, subst}
use Rattle.jo_prog.specs.declared.typed.TypeFault.{TypeFault}
use Rattle.jo_prog.specs.Program.{method_at}
use Rattle.jo_prog.specs.TypingPaths.{Typable}
use Rattle.typing_heights.specs.FirstFaults.{IsFirstOf}
use Rattle.typing_heights.specs.Moves.{IsHeightFault}
use Rattle.typing_heights.proofs.AnswerLemmas.{height_answer}
use Rattle.typing_heights.proofs.heights.first_height_fault.Goals as goal

pub returns : goal.returns
returns c =
    let p = c.args.program.now in
    let t : Typable = record { number = c.args.method; method = c.in-Some.found.now; code = c.in-Some-code.code } in
    let found : method_at p c.args.method ≡ Some c.in-Some.found.now = search rules in
    let coded : c.in-Some.found.now.code ≡ Some c.in-Some-code.code = search rules in
    let heights = c.in_ok-heights.heights.items in
    height_answer p c.args.method t (refl, found, coded) heights c.in_ok-heights.ensures c.in_ok-faults.faults.items c.first_of.result
    (subst (λ (l : List (Option ℕ)). (f : TypeFault) → Contains c.in_ok-faults.faults.items f ↔ IsHeightFault p t l f) c.as_slice-2.ensures.value c.in_ok-faults.ensures)
    (subst (λ (l : List TypeFault). IsFirstOf l c.first_of.result) c.as_slice-4.ensures.value c.first_of.ensures)
