use Rattle.std.proofs.Common.{rules, ◌≡◌, ◌∙◌, ◌+◌, ◌++◌, ◌∷◌, [], List, ℕ, take, sym, ap, subst}
use Rattle.std.proofs.lemmas.List.{take_more}
use Rattle.std.proofs.lemmas.List.Elements.{AllZip-push}
use Rattle.hierarchy.specs.Orders.{SameFirst}
use Rattle.hierarchy.specs.Hierarchies.{methods_by, AreMethodsBy}
use Rattle.hierarchy.proofs.methods.method_orders.Goals as goal

pub loop-above-preserved : goal.loop-above-preserved
loop-above-preserved c =
    let i = c.loop-above.above-index in
    let x = c.above-item.result in
    let interfaces = c.args.interfaces.now in
    let walks = c.args.walks.now in
    let all = c.args.superclasses.now in
    let order = c.in_ok-order.order in
    let more : take (i + 1) all ≡ take i all ++ x ∷ [] = take_more all i x c.loop-above-test.true ∙ ap (λ (y : List ℕ). take i all ++ y ∷ []) (sym c.above-item.is) in
    let grown : c.push.new.self.items ≡ c.loop-above.orders.items ++ order ∷ [] = search rules in
    let same = subst (λ (ys : List ℕ). SameFirst order (methods_by interfaces walks ys)) c.as_slice.ensures c.in_ok-order.ensures in
    subst (λ (p : List (List ℕ)). AreMethodsBy interfaces walks p c.push.new.self.items) (sym more)
    (subst (λ (q : List (List ℕ)). AreMethodsBy interfaces walks (take i all ++ x ∷ []) q) (sym grown)
    (AllZip-push (λ xs order. SameFirst order (methods_by interfaces walks xs)) (take i all) c.loop-above.orders.items x order c.loop-above.invariant same))
