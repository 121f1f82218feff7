-- Tables of opcodes behind the rows that an opcode isn't in.
use Rattle.std.proofs.Common.{◌≡◌, ℕ, false, ◌==◌, Option, refl}
use Rattle.jo_text.specs.declared.descriptors.MethodDesc.{MethodDesc}
use Rattle.jo_prog.specs.Operations.{within}
use Rattle.machine.specs.Instructions.{plain_instruction, is_element_load, is_element_store}
use Rattle.resolved_insns.specs.Plain.{later, plain_without}

pub behind_stores : (op : ℕ) → (op == 0) ≡ false → (op == 1) ≡ false → within 2 8 op ≡ false → within 26 29 op ≡ false → within 42 45 op ≡ false → is_element_load op ≡ false → within 59 62 op ≡ false → within 75 78 op ≡ false → is_element_store op ≡ false → plain_without op ≡ later op
behind_stores op a b c d e f g h i = rw (a, b, c, d, e, f, g, h, i) refl

pub returns_none : (type : Option MethodDesc) (op : ℕ) → (op == 172) ≡ false → (op == 176) ≡ false → plain_instruction type op ≡ plain_without op
returns_none type op a b = rw (a, b) refl
