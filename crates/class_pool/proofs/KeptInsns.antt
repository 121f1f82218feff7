-- What stands behind the operands of an instruction, as it is kept, makes it an instruction.
use Rattle.std.proofs.Common.{◌≡◌, ℕ, inl, inr, ◌==◌, List, Ok, refl}
use Rattle.std.proofs.lemmas.Bool.{cases_Bool, eqb-true, eq-eqb}
use Rattle.jo_insn.specs.declared.instructions.Insn.{Insn}
use Rattle.jo_insn.specs.declared.instructions.Insn.TheVariants.{Plain, Local, Iinc, Push, Pooled, Array, Jump, TableSwitch, LookupSwitch}
use Rattle.jo_insn.specs.Instructions.{decoded, IsInsn}
use Rattle.jo_insn.proofs.Numbers.{AreBytes}
use Rattle.class_pool.specs.declared.entries.PoolEntry.{PoolEntry}
use Rattle.jo_insn.proofs.InsnTables.{call_kept, pooled_kept, offsets_kept, pairs_kept, others_kept}
use Rattle.class_pool.proofs.KeptSizes.{table_of}

module _ (pool : List PoolEntry) (code : List ℕ) (bytes : AreBytes code) where
  pub kept_insn : (pc next : ℕ) (insn : Insn) → decoded code pc ≡ Ok (insn, next) → IsInsn pc insn (table_of pool code pc insn next)
  kept_insn pc next (Plain op) is = others_kept code bytes pc next (Plain op) (λ _ _ e. absurd (cc)) (λ _ _ _ _ e. absurd (cc)) (λ _ _ _ e. absurd (cc)) is
  kept_insn pc next (Local op index wide) is = others_kept code bytes pc next (Local op index wide) (λ _ _ e. absurd (cc)) (λ _ _ _ _ e. absurd (cc)) (λ _ _ _ e. absurd (cc)) is
  kept_insn pc next (Iinc index by wide) is = others_kept code bytes pc next (Iinc index by wide) (λ _ _ e. absurd (cc)) (λ _ _ _ _ e. absurd (cc)) (λ _ _ _ e. absurd (cc)) is
  kept_insn pc next (Push op value) is = others_kept code bytes pc next (Push op value) (λ _ _ e. absurd (cc)) (λ _ _ _ _ e. absurd (cc)) (λ _ _ _ e. absurd (cc)) is
  kept_insn pc next (Pooled op index) is = elim (cases_Bool (op == 185)) [
    | inl call ↦ rw call (call_kept code bytes pc next op index _ (eqb-true op 185 call) refl is)
    | inr other ↦ rw other (pooled_kept code bytes pc next op index (λ e. let call = eq-eqb op 185 e in absurd (cc)) is)
  ]
  kept_insn pc next (Array kind) is = others_kept code bytes pc next (Array kind) (λ _ _ e. absurd (cc)) (λ _ _ _ _ e. absurd (cc)) (λ _ _ _ e. absurd (cc)) is
  kept_insn pc next (Jump op by) is = others_kept code bytes pc next (Jump op by) (λ _ _ e. absurd (cc)) (λ _ _ _ _ e. absurd (cc)) (λ _ _ _ e. absurd (cc)) is
  kept_insn pc next (TableSwitch other low high at) is = offsets_kept code bytes pc next other low high at is
  kept_insn pc next (LookupSwitch other pairs at) is = pairs_kept code bytes pc next other pairs at is
