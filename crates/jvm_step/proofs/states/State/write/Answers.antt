use Rattle.std.proofs.Common.{rules, ◌≡◌, ◌∙◌, sym, ap, refl, subst, map, slice_set}
use Rattle.std.proofs.lemmas.List.{map-set}
use Rattle.machine.specs.Heaps.{with_content}
use Rattle.jvm_values.specs.Values.{value_of}
use Rattle.jvm_exec.specs.declared.outcomes.Cell.{Cell}
use Rattle.jvm_exec.specs.Outcomes.{cell_of}
use Rattle.jvm_step.specs.States.{state_of, threads_of}
use Rattle.jvm_step.proofs.StateLemmas.{made_of, same_state}
use Rattle.jvm_step.proofs.states.State.write.Goals as goal

pub returns-in-Static-clause-state : goal.returns-in-Static-clause-state
returns-in-Static-clause-state c =
    let old = c.args.self.now in
    let v = c.args.change.now.value in
    let put : c.set.new.items.items ≡ slice_set old.statics.items c.in-Static.field v = search rules in
    subst (λ (cell : Cell). made_of old.heap (map value_of c.set.new.items.items) old.cursors.items (threads_of old.threads.items) ≡ with_content (state_of old) (cell_of cell) (value_of v))
    (sym c.in-Static.is)
    (same_state refl (ap (map value_of) put ∙ map-set value_of old.statics.items c.in-Static.field v) refl refl)
