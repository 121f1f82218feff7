use Rattle.std.proofs.Common.{rules, ◌≡◌, ◌∙◌, ◌+◌, ◌≤◌, ◌++◌, ◌∷◌, [], List, ℕ, length, drop, refl, ap, subst, arith}
use Rattle.std.specs.List.{flat_map}
use Rattle.std.proofs.lemmas.List.{drop_all}
use Rattle.hierarchy.specs.Orders.{SameFirst, edges}
use Rattle.hierarchy.specs.Hierarchies.{methods_by}
use Rattle.hierarchy.proofs.OrderLemmas.{drop_here, some_more, none_more}
use Rattle.hierarchy.proofs.methods.method_order.Goals as goal

pub loop-class-init : goal.loop-class-init
loop-class-init c =
    let superclasses = c.args.superclasses.now in
    let empty : c.new-order.result ≡ [] = search rules in
    let all = superclasses ++ flat_map (λ k. flat_map (edges c.args.walks.now) (edges c.args.interfaces.now k)) superclasses in
    some_more [] c.add_new.new.order superclasses (flat_map (λ k. flat_map (edges c.args.walks.now) (edges c.args.interfaces.now k)) superclasses) all
    (subst (λ (ys : List ℕ). SameFirst c.add_new.new.order (ys ++ superclasses)) empty c.in_ok-add_new.ensures) (λ look. refl)

pub loop-class-preserved : goal.loop-class-preserved
loop-class-preserved c =
    let i = c.loop-class.class-index in
    let x = c.class-item.result in
    let superclasses = c.args.superclasses.now in
    let walks = c.args.walks.now in
    let interfaces = c.args.interfaces.now in
    let all = methods_by interfaces walks superclasses in
    let here : drop i superclasses ≡ x ∷ drop (i + 1) superclasses = drop_here superclasses i x c.loop-class-test.true c.class-item.is in
    let own : c.edges_at.result.now ≡ edges interfaces x = c.edges_at.ensures ∙ ap (edges interfaces) c.number.ensures in
    some_more c.loop-class.order c.add_interfaces.new.order (flat_map (edges walks) (edges interfaces x))
    (flat_map (λ k. flat_map (edges walks) (edges interfaces k)) (drop (i + 1) superclasses)) all
    (subst (λ (ys : List ℕ). SameFirst c.add_interfaces.new.order (c.loop-class.order ++ flat_map (edges walks) ys)) own c.in_ok-add_interfaces.ensures)
    (subst (λ (ys : List ℕ). SameFirst (c.loop-class.order ++ flat_map (λ k. flat_map (edges walks) (edges interfaces k)) ys) all) here c.loop-class.invariant)

pub returns : goal.returns
returns c =
    let i = c.loop-class.class-index in
    let superclasses = c.args.superclasses.now in
    let walks = c.args.walks.now in
    let interfaces = c.args.interfaces.now in
    let past : length superclasses ≤ i = omega arith in
    none_more c.loop-class.order (flat_map (λ k. flat_map (edges walks) (edges interfaces k)) (drop i superclasses)) (methods_by interfaces walks superclasses)
    (ap (flat_map (λ k. flat_map (edges walks) (edges interfaces k))) (drop_all i superclasses past)) c.loop-class.invariant
