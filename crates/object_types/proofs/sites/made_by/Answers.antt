use Rattle.std.proofs.Common.{◌≡◌, ℕ, Option, IfOk, ◌∙◌, sym, subst}
use Rattle.object_types.specs.Made.{made_as}
use Rattle.object_types.proofs.sites.made_by.Goals as goal

pub returns-in-None : goal.returns-in-None
returns-in-None c =
    subst (λ (k : Option ℕ). IfOk c.made_of_class.result (λ made. (next : ℕ) → made ≡ made_as c.args.program.now c.args.method k c.args.insn next)) (sym c.in-None.is ∙ c.array_kind.ensures) c.made_of_class.ensures
