use Rattle.std.proofs.Common.{[], map, replicate, ap, ◌∙◌}
use Rattle.jo_prog.specs.Typing.{Unset, Shape}
use Rattle.jo_prog.specs.IntShapes.{kind_of}
use Rattle.jo_prog.proofs.IntShapeLemmas.{map-kind_of-replicate}
use Rattle.jo_prog.proofs.jvm_typing.IntShape.at_start.Goals as goal

pub returns-clause-shape : goal.returns-clause-shape
returns-clause-shape c =
    let items = c.in_ok-vec.ensures.items_if_clones_equal (λ y e. e) in
    let unset = ap (λ bs. map kind_of bs) items ∙ map-kind_of-replicate c.from.result ∙ ap (λ n. replicate n Unset) c.from.ensures in
    ap (λ ks. let s : Shape = record { locals = ks; stack = [] } in s) unset
