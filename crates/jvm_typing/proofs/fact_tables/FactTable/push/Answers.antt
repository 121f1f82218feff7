use Rattle.std.proofs.Common.{rules, ◌≡◌, ℕ, ◌<◌, List, [], ◌∷◌, ◌++◌, length, get_or, set, sym, subst}
use Rattle.jvm_typing.specs.declared.facts.Fact.{Fact}
use Rattle.jvm_typing.specs.Slots.{slot_of, AreListed}
use Rattle.jvm_typing.proofs.SlotLemmas.{still_listed, more_listed}
use Rattle.jvm_typing.proofs.fact_tables.FactTable.push.Goals as goal

pub invariant_of-self-in_err-push : goal.invariant_of-self-in_err-push
invariant_of-self-in_err-push c =
    let facts = c.self.inside.facts.items in
    let slots = c.self.inside.slots.items in
    let slot = c.slot-slot.result in
    let number = c.len-number.result in
    let below : slot < length slots = search rules in
    let noted : c.note.new.slots.items ≡ set slots slot (get_or slots slot [] ++ number ∷ []) = search rules in
    let same : c.push.new.self.items ≡ facts = search rules in
    subst (λ (fs : List Fact). AreListed fs c.note.new.slots.items) (sym same)
    (subst (λ (ns : List (List ℕ)). AreListed facts ns) (sym noted) (still_listed slots slot number below facts c.self.invariant))

pub invariant_of-self-2 : goal.invariant_of-self-2
invariant_of-self-2 c =
    let facts = c.self.inside.facts.items in
    let slots = c.self.inside.slots.items in
    let slot = c.slot-slot.result in
    let number = c.len-number.result in
    let below : slot < length slots = search rules in
    let at : slot ≡ slot_of (length slots) c.args.fact.pc c.args.fact.place = search rules in
    let counted : number ≡ length facts = search rules in
    let noted : c.note.new.slots.items ≡ set slots slot (get_or slots slot [] ++ number ∷ []) = search rules in
    let pushed : c.push.new.self.items ≡ facts ++ c.args.fact ∷ [] = search rules in
    subst (λ (fs : List Fact). AreListed fs c.note.new.slots.items) (sym pushed)
    (subst (λ (ns : List (List ℕ)). AreListed (facts ++ c.args.fact ∷ []) ns) (sym noted) (more_listed slots slot number below facts c.args.fact at counted c.self.invariant))
