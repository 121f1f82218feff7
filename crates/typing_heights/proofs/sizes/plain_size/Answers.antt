use Rattle.std.proofs.Common.{rules, ◌≡◌, None, option_map, sym, ◌∙◌}
use Rattle.jo_prog.specs.InsnTyping.{first_of, wrong_effect, constant_effect, short_local_effect, array_effect, move_effect, arithmetic_effect, leaving_effect}
use Rattle.typing_heights.specs.Sizes.{size_of}
use Rattle.typing_heights.proofs.SizeLemmas.{none_first}
use Rattle.typing_heights.proofs.sizes.plain_size.Goals as goal

pub returns-in-None : goal.returns-in-None
returns-in-None c = λ kind.
    let op = c.args.op in
    let e1 : option_map size_of (constant_effect op) ≡ None = search rules in
    let e2 : option_map size_of (short_local_effect op) ≡ None = search rules in
    let e3 : option_map size_of (array_effect op) ≡ None = search rules in
    let e4 : option_map size_of (move_effect op) ≡ None = search rules in
    let e5 : option_map size_of (arithmetic_effect op) ≡ None = search rules in
    let e6 : option_map size_of (leaving_effect kind op) ≡ None = search rules in
    c.of_stack.ensures
    ∙ sym (none_first (leaving_effect kind op) wrong_effect e6)
    ∙ sym (none_first (arithmetic_effect op) (first_of (leaving_effect kind op) wrong_effect) e5)
    ∙ sym (none_first (move_effect op) (first_of (arithmetic_effect op) (first_of (leaving_effect kind op) wrong_effect)) e4)
    ∙ sym (none_first (array_effect op) (first_of (move_effect op) (first_of (arithmetic_effect op) (first_of (leaving_effect kind op) wrong_effect))) e3)
    ∙ sym (none_first (short_local_effect op) (first_of (array_effect op) (first_of (move_effect op) (first_of (arithmetic_effect op) (first_of (leaving_effect kind op) wrong_effect)))) e2)
    ∙ sym (none_first (constant_effect op) (first_of (short_local_effect op) (first_of (array_effect op) (first_of (move_effect op) (first_of (arithmetic_effect op) (first_of (leaving_effect kind op) wrong_effect))))) e1)
