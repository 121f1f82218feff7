use Rattle.std.proofs.Common.{inr}
use Rattle.linker.specs.declared.causes.LinkCode.TheVariants.{CyclicSuper, MissingMember, NotImplemented}
use Rattle.linked_laws.proofs.AboveLemmas.{implemented}
use Rattle.linked_laws.proofs.CodeLemmas.{code_sound}
use Rattle.linked_laws.proofs.laws.code_without_faults_is_sound.Goals as goal

pub returns : goal.returns
returns c = λ program sound none pools members m method code is_method has_code insns.
    code_sound program sound pools members (none MissingMember) (none NotImplemented) (implemented program (λ k misplaced. none CyclicSuper k (inr misplaced)))
    (c.strings_have_objects.ensures.each program) m method is_method code has_code insns
