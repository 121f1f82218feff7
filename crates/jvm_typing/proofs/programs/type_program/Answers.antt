use Rattle.std.proofs.Common.{rules, ◌≡◌, refl, sym, subst, arith}
use Rattle.jo_prog.specs.declared.typed.TypeCode.TheVariants.{Memory}
use Rattle.jvm_typing.specs.declared.programs.MethodFault.{MethodFault}
use Rattle.jvm_typing.specs.Typings.{IsFirstMethodFault}
use Rattle.jvm_typing.proofs.FirstAnswerLemmas.{memory_is_no_claim}
use Rattle.jvm_typing.proofs.programs.type_program.Goals as goal

pub returns-in-Err-clause-fault : goal.returns-in-Err-clause-fault
returns-in-Err-clause-fault c =
    let p = c.args.program.now in
    let e : c.of.result ≡ 0 = search rules in
    subst (λ (f : MethodFault). IsFirstMethodFault p f) (sym c.wanting.ensures) (record {
      has_fault = memory_is_no_claim p c.of.result (record { code = Memory; pc = 0 }) refl;
      earlier = λ m below. absurd (omega (arith, below, e));
    })
