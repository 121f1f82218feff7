-- The instructions of some code, one after another.
use Rattle.std.proofs.Common.{◌≡◌, ℕ, ◌+◌, ◌<◌, List, ◌∷◌, length, drop, get_or, refl, add-one, drop-cons}
use Rattle.jo_insn.specs.declared.instructions.Insn.TheVariants.{Plain}
use Rattle.jo_insn.specs.declared.jumps.Placed.{Placed}

-- what stands past the end of a list of instructions
abbrev pub past : Placed
past = record { pc = 0; insn = Plain 0; next = 0 }

pub split : (insns : List Placed) (i : ℕ) (d : Placed) → i < length insns → drop i insns ≡ get_or insns i d ∷ drop (i + 1) insns
split insns i d more = rw (add-one, drop-cons insns i d) refl
