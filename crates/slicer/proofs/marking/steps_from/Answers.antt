use Rattle.std.proofs.Common.{get_or, sym, ◌∙◌, ap, subst, arith}
use Rattle.std.proofs.lemmas.Option.{get_or_from_slice_get}
use Rattle.slicer.specs.declared.finds.Found.{Found}
use Rattle.slicer.specs.Slices.{criterion}
use Rattle.slicer.proofs.SearchLemmas.{Walks, walks_first, walks_next, walks_more, walks_done}
use Rattle.slicer.proofs.marking.steps_from.Goals as goal

pub loop-word-init : goal.loop-word-init
loop-word-init c = λ d.
    let number = c.args.number in
    let found = c.args.finds.now.found in
    subst (λ steps. Walks c.args.graph.now found (get_or found number d).place.node number number steps) (sym c.new-steps.ensures) (walks_first c.args.graph.now found number d c.requires.number)

pub get-requires : goal.get-requires
get-requires c = (c.loop-word.invariant (criterion 0)).below

pub get-to-requires : goal.get-to-requires
get-to-requires c =
    let found = c.args.finds.now.found in
    let number = c.loop-word.number in
    let walks = c.loop-word.invariant (criterion 0) in
    let less = walks_next c.args.graph.now found c.requires.search (get_or found c.args.number (criterion 0)).place.node c.args.number number c.in-Step.next c.loop-word.steps c.in-Step.word walks
    (λ d. ap (λ (f : Found). f.way) (get_or_from_slice_get found number c.get.result d c.get.ensures.is) ∙ c.in-Step.is) in
    omega (arith, less, walks.below)

pub loop-word-smaller : goal.loop-word-smaller
loop-word-smaller c =
    let found = c.args.finds.now.found in
    let number = c.loop-word.number in
    walks_next c.args.graph.now found c.requires.search (get_or found c.args.number (criterion 0)).place.node c.args.number number c.in-Step.next c.loop-word.steps c.in-Step.word (c.loop-word.invariant (criterion 0))
    (λ d. ap (λ (f : Found). f.way) (get_or_from_slice_get found number c.get.result d c.get.ensures.is) ∙ c.in-Step.is)

pub loop-word-preserved : goal.loop-word-preserved
loop-word-preserved c = λ d.
    let nodes = c.args.graph.now in
    let found = c.args.finds.now.found in
    let number = c.loop-word.number in
    let next = c.in-Step.next in
    let from = (get_or found c.args.number d).place.node in
    subst (λ steps. Walks nodes found from c.args.number next steps) (sym c.in-Ok.ensures.ok)
    (walks_more nodes found c.requires.search from c.args.number number next c.loop-word.steps c.in-Step.word c.get-to.result.place.node (c.loop-word.invariant d)
    (λ x. ap (λ (f : Found). f.way) (get_or_from_slice_get found number c.get.result x c.get.ensures.is) ∙ c.in-Step.is)
    (λ x. ap (λ (f : Found). f.place.node) (get_or_from_slice_get found next c.get-to.result x c.get-to.ensures.is)))

pub returns : goal.returns
returns c = λ d.
    let found = c.args.finds.now.found in
    let number = c.loop-word.number in
    walks_done c.args.graph.now found c.requires.search (get_or found c.args.number d).place.node c.args.number number c.loop-word.steps (c.loop-word.invariant d)
    (λ x. ap (λ (f : Found). f.way) (get_or_from_slice_get found number c.get.result x c.get.ensures.is) ∙ c.in_default.is) c.requires.number (omega (arith, c.get.ensures.most, c.requires.count))
