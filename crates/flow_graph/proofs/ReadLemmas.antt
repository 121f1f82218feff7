-- The places of an instruction are added by its row of the table.
use Rattle.std.specs.Prelude.{◌-◌, ◌++◌}
use Rattle.std.proofs.Common.{◌≡◌, ℕ, ◌+◌, List, Contains, refl, sym, ◌∙◌, ap, subst}
use Rattle.jo_insn.specs.declared.instructions.Insn.{Insn}
use Rattle.jo_prog.specs.Sites.{opcode_of}
use Rattle.dependence.specs.declared.flow.Place.{Place}
use Rattle.dependence.specs.NodePlaces.{StackUse, stack_use, stack_use_of, local_place, local_read, local_written, stack_places, reads_of, writes_of}
use Rattle.flow_graph.specs.Adding.{AddsThose}
use Rattle.flow_graph.proofs.AddingLemmas.{adds_both}

module _ (insn : Insn) (height pops leaves pushes : ℕ) (row : stack_use pops leaves pushes ≡ stack_use_of (opcode_of insn)) (old mid new : List Place) where
  pub reads_added : (from : ℕ) → from ≡ height - pops → AddsThose (Contains (local_place (local_read insn))) old mid → AddsThose (Contains (stack_places from pops)) mid new → AddsThose (Contains (reads_of insn height)) old new
  reads_added from is first second =
      let same : pops ≡ (stack_use_of (opcode_of insn)).pops = ap (λ (s : StackUse). s.pops) row in
      let P : ℕ → Type 0 = λ n. AddsThose (Contains (local_place (local_read insn) ++ stack_places (height - n) n)) old new in
      subst P same (adds_both (local_place (local_read insn)) (stack_places (height - pops) pops) old mid new first (subst (λ f. AddsThose (Contains (stack_places f pops)) mid new) is second))

  pub writes_added : (from : ℕ) → from ≡ height - pops + leaves → AddsThose (Contains (local_place (local_written insn))) old mid → AddsThose (Contains (stack_places from pushes)) mid new → AddsThose (Contains (writes_of insn height)) old new
  writes_added from is first second =
      let P : StackUse → Type 0 = λ s. AddsThose (Contains (local_place (local_written insn) ++ stack_places (height - s.pops + s.leaves) s.pushes)) old new in
      subst P row (adds_both (local_place (local_written insn)) (stack_places (height - pops + leaves) pushes) old mid new first (subst (λ f. AddsThose (Contains (stack_places f pushes)) mid new) is second))
