use Rattle.std.proofs.Common.{rules, ◌≡◌, ◌↔◌, ◌+◌, ℕ, List, Option, Some, refl, sym, subst, arith}
use Rattle.jo_prog.specs.declared.typed.TypeCode.TheVariants.{Memory}
use Rattle.jo_prog.specs.TypingPaths.{IsTypedMethod, HasHeightAt}
use Rattle.jvm_typing.specs.declared.programs.MethodFault.{MethodFault}
use Rattle.typing_heights.specs.FirstPaths.{HasFirstPaths}
use Rattle.typing_heights.specs.Searches.{height_at}
use Rattle.jvm_typing.specs.Typings.{AreTypings, IsFirstMethodFault}
use Rattle.jvm_typing.proofs.FirstAnswerLemmas.{memory_is_no_claim}
use Rattle.jvm_typing.proofs.TypingsLemmas.{none_typed, typings_more}
use Rattle.jvm_typing.proofs.programs.type_all.Goals as goal

pub loop-number-init : goal.loop-number-init
loop-number-init c = subst (λ (l : List (List (Option ℕ))). AreTypings c.args.program.now 0 l) (sym c.new-typings.ensures) (none_typed c.args.program.now)

pub loop-number-preserved : goal.loop-number-preserved
loop-number-preserved c =
    let p = c.args.program.now in
    let n = c.loop-number.number in
    let e : c.of-method.result ≡ n = search rules in
    let typed = subst (λ (m : ℕ). IsTypedMethod p m) e c.in-Ok.ensures.typed in
    let firsts = subst (λ (m : ℕ). HasFirstPaths p m) e c.in-Ok.ensures.first_paths in
    let heights = subst (λ (m : ℕ). (pc h : ℕ) → (height_at c.in-Ok.typed pc ≡ Some h) ↔ HasHeightAt p m pc h) e c.in-Ok.ensures.heights in
    subst (λ (l : List (List (Option ℕ))). AreTypings p (n + 1) l) (sym c.in-Ok-push.ensures.ok) (typings_more p n c.loop-number.typings c.in-Ok.typed c.loop-number.invariant typed firsts heights)

pub returns-in-Err-push-clause-fault : goal.returns-in-Err-push-clause-fault
returns-in-Err-push-clause-fault c =
    let p = c.args.program.now in
    let e : c.of-method.result ≡ c.loop-number.number = search rules in
    subst (λ (f : MethodFault). IsFirstMethodFault p f) (sym c.wanting.ensures) (record {
      has_fault = memory_is_no_claim p c.of-method.result (record { code = Memory; pc = 0 }) refl;
      earlier = λ m below. c.loop-number.invariant.typed m (omega arith);
    })

pub returns-in-Err-clause-fault : goal.returns-in-Err-clause-fault
returns-in-Err-clause-fault c =
    let e : c.of-method.result ≡ c.loop-number.number = search rules in
    record { has_fault = c.in-Err.ensures.fault; earlier = λ m below. c.loop-number.invariant.typed m (omega arith) }
