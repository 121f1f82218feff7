use Rattle.std.proofs.Common.{rules, ◌≡◌, ◌↔◌, ℕ, List, Option, Some, None, refl, sym, subst}
use Rattle.jo_prog.specs.declared.typed.TypeFault.{TypeFault}
use Rattle.jo_prog.specs.TypingPaths.{HasHeightAt}
use Rattle.jvm_typing.specs.KindFaults.{IsFirstAnswer}
use Rattle.typing_heights.specs.Searches.{height_at}
use Rattle.typing_heights.specs.Subjects.{program_of, typable_of}
use Rattle.typing_heights.proofs.HeightLemmas.{heights_exact, first_paths}
use Rattle.jvm_typing.proofs.typing_methods.typed_or_fault.Goals as goal

pub returns-in-None : goal.returns-in-None
returns-in-None c =
    let s = c.args.subject.now in
    let p = program_of s in
    let none : c.in_ok-first.first ≡ None = search rules in
    let typed = subst (λ (o : Option TypeFault). IsFirstAnswer p s.number o) none c.in_ok-first.ensures in
    let heights = subst (λ (l : List (Option ℕ)). (pc h : ℕ) → (height_at l pc ≡ Some h) ↔ HasHeightAt p s.number pc h) (sym c.of.ensures)
    (heights_exact p s.number (typable_of s) c.in_ok-heights.heights.items (refl, c.requires.subject.found, c.requires.subject.has_code) c.in_ok-heights.ensures) in
    (typed, first_paths p s.number (typable_of s) c.in_ok-heights.heights.items (refl, c.requires.subject.found, c.requires.subject.has_code) c.in_ok-heights.ensures, heights)
