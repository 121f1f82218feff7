-- What comes of an instruction that never goes on behind itself, or that is no return.
use Rattle.std.proofs.Common.{◌≡◌, ℕ, Bool, true, false, List, [], ◌∷◌, Option, Some, sym, ap}
use Rattle.jo_prog.specs.declared.program.Program.{Program}
use Rattle.jo_prog.specs.Values.{Value, int, null, ref}
use Rattle.jo_prog.specs.Machine.{HeapObject}
use Rattle.machine.specs.Instructions as code
use Rattle.machine.specs.Instructions.{Instruction}
use Rattle.machine.specs.Execution as does
use Rattle.machine.specs.Execution.{Ways, Fits, Outcome, exec}
use Rattle.step_laws.specs.Effects.{IsResult}
use Rattle.step_laws.proofs.TypeLemmas.{never, same_some}
use Rattle.kept_laws.specs.Going.{goes_elsewhere, is_return}

-- the frame doesn't go on at the pc behind the instruction
abbrev pub goes_away : does.Effect ℕ → Bool
goes_away (does.pushes vs) = false
goes_away (does.puts k v) = false
goes_away (does.jumps target) = true
goes_away (does.raises cause) = true
goes_away (does.throws_at a) = true
goes_away (does.allocates info) = false
goes_away (does.returns result) = true

module _ (ways : Ways ℕ) (fits : Fits) where
  pub lands : (i : Instruction) (read : Option (Value ℕ)) (vs : List (Value ℕ)) (outcome : Outcome ℕ) → exec ways fits i read vs ≡ Some outcome → goes_elsewhere i ≡ true → goes_away outcome.effect ≡ true
  lands code.passes read vs outcome is e = never e
  lands code.pushes_null read vs outcome is e = never e
  lands (code.pushes_int z) read vs outcome is e = never e
  lands (code.pushes_text text) read vs outcome is e = never e
  lands (code.loads k) read vs outcome is e = never e
  lands (code.stores k) read vs outcome is e = never e
  lands (code.increments k by) read vs outcome is e = never e
  lands code.loads_element read vs outcome is e = never e
  lands code.stores_element read vs outcome is e = never e
  lands (code.shuffles op) read vs outcome is e = never e
  lands (code.computes op) read vs outcome is e = never e
  lands code.negates read vs outcome is e = never e
  lands (code.narrows op) read vs outcome is e = never e
  lands (code.tests op target) read vs outcome is e = never e
  lands (code.compares op target) read vs outcome is e = never e
  lands (code.compares_references op target) read vs outcome is e = never e
  lands (code.tests_null op target) read vs outcome is e = never e
  lands (code.jumps_to target) read [] outcome is e = ap (λ (o : Outcome ℕ). goes_away o.effect) (sym (same_some is))
  lands (code.jumps_to target) read (v ∷ vs) outcome is e = absurd (cc)
  lands (code.switches cases other) read [] outcome is e = absurd (cc)
  lands (code.switches cases other) read (int z ∷ []) outcome is e = ap (λ (o : Outcome ℕ). goes_away o.effect) (sym (same_some is))
  lands (code.switches cases other) read (null ∷ []) outcome is e = absurd (cc)
  lands (code.switches cases other) read (ref a ∷ []) outcome is e = absurd (cc)
  lands (code.switches cases other) read (int z ∷ w ∷ vs) outcome is e = absurd (cc)
  lands (code.switches cases other) read (null ∷ w ∷ vs) outcome is e = absurd (cc)
  lands (code.switches cases other) read (ref a ∷ w ∷ vs) outcome is e = absurd (cc)
  lands (code.returns_value type) read [] outcome is e = absurd (cc)
  lands (code.returns_value type) read (v ∷ []) outcome is e = ap (λ (o : Outcome ℕ). goes_away o.effect) (sym (same_some is))
  lands (code.returns_value type) read (v ∷ w ∷ vs) outcome is e = absurd (cc)
  lands code.returns_nothing read [] outcome is e = ap (λ (o : Outcome ℕ). goes_away o.effect) (sym (same_some is))
  lands code.returns_nothing read (v ∷ vs) outcome is e = absurd (cc)
  lands (code.gets_static f) read vs outcome is e = never e
  lands (code.puts_static f type) read vs outcome is e = never e
  lands (code.gets_field f) read vs outcome is e = never e
  lands (code.puts_field f type) read vs outcome is e = never e
  lands (code.creates c) read vs outcome is e = never e
  lands (code.creates_array type) read vs outcome is e = never e
  lands code.measures read vs outcome is e = never e
  lands code.throws read [] outcome is e = absurd (cc)
  lands code.throws read (int z ∷ []) outcome is e = absurd (cc)
  lands code.throws read (null ∷ []) outcome is e = ap (λ (o : Outcome ℕ). goes_away o.effect) (sym (same_some is))
  lands code.throws read (ref a ∷ []) outcome is e = ap (λ (o : Outcome ℕ). goes_away o.effect) (sym (same_some is))
  lands code.throws read (int z ∷ w ∷ vs) outcome is e = absurd (cc)
  lands code.throws read (null ∷ w ∷ vs) outcome is e = absurd (cc)
  lands code.throws read (ref a ∷ w ∷ vs) outcome is e = absurd (cc)
  lands (code.casts type) read vs outcome is e = never e
  lands (code.checks type) read vs outcome is e = never e
  lands (code.calls op type method count) read vs outcome is e = never e

pub no_return : (program : Program) (heap : List HeapObject) (i : Instruction) (result : Option (Value ℕ)) → is_return i ≡ false → IsResult program heap i result → ⊥
no_return program heap code.passes result e h = h
no_return program heap code.pushes_null result e h = h
no_return program heap (code.pushes_int z) result e h = h
no_return program heap (code.pushes_text text) result e h = h
no_return program heap (code.loads k) result e h = h
no_return program heap (code.stores k) result e h = h
no_return program heap (code.increments k by) result e h = h
no_return program heap code.loads_element result e h = h
no_return program heap code.stores_element result e h = h
no_return program heap (code.shuffles op) result e h = h
no_return program heap (code.computes op) result e h = h
no_return program heap code.negates result e h = h
no_return program heap (code.narrows op) result e h = h
no_return program heap (code.tests op target) result e h = h
no_return program heap (code.compares op target) result e h = h
no_return program heap (code.compares_references op target) result e h = h
no_return program heap (code.tests_null op target) result e h = h
no_return program heap (code.jumps_to target) result e h = h
no_return program heap (code.switches cases other) result e h = h
no_return program heap (code.returns_value type) result e h = never (sym e)
no_return program heap code.returns_nothing result e h = never (sym e)
no_return program heap (code.gets_static f) result e h = h
no_return program heap (code.puts_static f type) result e h = h
no_return program heap (code.gets_field f) result e h = h
no_return program heap (code.puts_field f type) result e h = h
no_return program heap (code.creates c) result e h = h
no_return program heap (code.creates_array type) result e h = h
no_return program heap code.measures result e h = h
no_return program heap code.throws result e h = h
no_return program heap (code.casts type) result e h = h
no_return program heap (code.checks type) result e h = h
no_return program heap (code.calls op type method count) result e h = h
