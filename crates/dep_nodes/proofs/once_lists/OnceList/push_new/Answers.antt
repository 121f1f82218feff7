use Rattle.std.proofs.Common.{◌≡◌, ◌++◌, ◌∷◌, [], length, Contains, subst, ap, ◌∙◌, rules, arith}
use Rattle.dep_nodes.specs.OnceLists.{slot_of}
use Rattle.dep_nodes.proofs.OnceLemmas.{list_grows, list_bare}
use Rattle.dep_nodes.proofs.once_lists.OnceList.push_new.Goals as goal

pub invariant_of-self-then-place-slots : goal.invariant_of-self-then-place-slots
invariant_of-self-then-place-slots g c =
    let xs = c.self.inside.items.items in
    let last = c.self.inside.table.last.items in
    let made : c.push.new.self.items ≡ xs ++ c.args.item ∷ [] = search rules in
    let new : Contains xs c.args.item → ⊥ = λ there. c.requires (subst (λ ys. Contains ys c.args.item) (c.self.view_is ∙ c.make_room.ensures) there) in
    let count : c.len-place.result ≡ length xs = search rules in
    let slots : c.len-slots.result ≡ length last = search rules in
    let is : c.slot-slot.result ≡ slot_of (length last) (g.T.Keyed.key c.args.item) = c.slot-slot.ensures.value ∙ ap (slot_of c.len-slots.result) c.key.ensures ∙ ap (λ k. slot_of k (g.T.Keyed.key c.args.item)) slots in
    list_grows g.T.Keyed.key xs c.push.new.self.items c.args.item c.len-place.result c.slot-slot.result last c.self.inside.table.before.items _ _ c.self.invariant made new count (omega (arith, c.if-place-slots.true, slots)) is (omega (arith, c.slot-slot.ensures.within, slots)) c.note.ensures.last c.note.ensures.before

pub invariant_of-self-else-place-slots : goal.invariant_of-self-else-place-slots
invariant_of-self-else-place-slots g c =
    let xs = c.self.inside.items.items in
    let made : c.push.new.self.items ≡ xs ++ c.args.item ∷ [] = search rules in
    let new : Contains xs c.args.item → ⊥ = λ there. c.requires (subst (λ ys. Contains ys c.args.item) (c.self.view_is ∙ c.make_room.ensures) there) in
    list_bare g.T.Keyed.key xs c.push.new.self.items c.args.item c.self.inside.table.last.items c.self.inside.table.before.items _ _ c.self.invariant made new c.clear.ensures.items c.clear-else-place-slots.ensures.items
