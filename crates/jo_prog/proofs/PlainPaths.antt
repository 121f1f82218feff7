-- Plain code, an instruction at a time.
use Rattle.std.proofs.Common.{◌≡◌, ℕ, true, length, Some, None, sym, ◌∙◌, subst}
use Rattle.std.proofs.lemmas.Bool.{false≢true}
use Rattle.std.proofs.lemmas.Option.{none-some, some_pair_parts}
use Rattle.jo_prog.specs.declared.operations.Operation.{Operation}
use Rattle.jo_prog.specs.declared.operations.Operation.TheVariants.{Return}
use Rattle.jo_prog.specs.declared.labels.Labels.{Labels}
use Rattle.jo_prog.specs.declared.program.Program.{Program}
use Rattle.jo_prog.specs.declared.program.Code.{Code}
use Rattle.jo_prog.specs.Program.{operation_at, callee_at}
use Rattle.jo_prog.specs.PlainCode.{goes_on, IsPlainFrom, last, then}

module _ (program : Program) (labels : Labels) (m : ℕ) (code : Code) where
  pub plain-return : {pc : ℕ} (next : ℕ) → IsPlainFrom program labels m code pc → operation_at program m pc ≡ Some (Return, next) → next ≡ length code.bytes
  plain-return next (last pc after e f) g = sym (some_pair_parts Return Return after next (sym e ∙ g)).1 ∙ f
  plain-return next (then pc after operation e on rest) g =
      let same = (some_pair_parts operation Return after next (sym e ∙ g)).0 in
      absurd (false≢true (subst (λ (o : Operation). goes_on labels (callee_at program m pc) o ≡ true) same on))

  pub plain-on : {pc : ℕ} (next : ℕ) (operation : Operation) → IsPlainFrom program labels m code pc → operation_at program m pc ≡ Some (operation, next) → (operation ≡ Return → ⊥) → IsPlainFrom program labels m code next × (goes_on labels (callee_at program m pc) operation ≡ true)
  plain-on next operation (last pc after e f) g other = absurd (other (sym (some_pair_parts Return operation after next (sym e ∙ g)).0))
  plain-on next operation (then pc after found e on rest) g other =
      let parts = some_pair_parts found operation after next (sym e ∙ g) in
      (subst (λ (n : ℕ). IsPlainFrom program labels m code n) parts.1 rest, subst (λ (o : Operation). goes_on labels (callee_at program m pc) o ≡ true) parts.0 on)

  pub plain-some : {pc : ℕ} → IsPlainFrom program labels m code pc → operation_at program m pc ≡ None → ⊥
  plain-some (last pc after e f) g = none-some _ (sym g ∙ e)
  plain-some (then pc after found e on rest) g = none-some _ (sym g ∙ e)
