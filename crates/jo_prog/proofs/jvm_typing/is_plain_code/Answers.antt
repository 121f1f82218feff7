use Rattle.std.proofs.Common.{◌≡◌, ℕ, List, Some, length, true, sym, ap, ◌∙◌, subst}
use Rattle.std.proofs.lemmas.Bool.{eqb-true, eq-eqb}
use Rattle.jo_prog.specs.declared.operations.Operation.{Operation}
use Rattle.jo_prog.specs.Program.{operation_at}
use Rattle.jo_prog.specs.PlainCode.{goes_on, last, then}
use Rattle.jo_prog.proofs.Decoding.{operation_at-code, callee_at-found}
use Rattle.jo_prog.proofs.PlainPaths.{plain-return, plain-on}
use Rattle.jo_prog.proofs.jvm_typing.is_plain_code.Goals as goal
use Rattle.jo_prog.proofs.jvm_typing.is_plain_code.Goals.{In-Some}

-- the operation at the loop's pc
found : (c : In-Some) → operation_at c.args.program.now c.args.labels.now.entry c.loop-operation.pc ≡ Some (c.in-Some.operation, c.in-Some.next)
found c = operation_at-code c.args.program.now c.args.labels.now.entry c.loop-operation.pc c.args.code.now _ c.requires c.in-Some.ensures.value

pub returns-in-Return : goal.returns-in-Return
returns-in-Return c =
    let program = c.args.program.now in
    let labels = c.args.labels.now in
    let pc = c.loop-operation.pc in
    let next = c.in-Some.next in
    let size = ap (λ (bytes : List ℕ). length bytes) c.as_slice.ensures in
    let returns = subst (λ (o : Operation). operation_at program labels.entry pc ≡ Some (o, next)) c.in-Return.is (found (goal.at.returns-in-Return c).In-Some) in (
      λ same. c.loop-operation.invariant.1 (last pc next returns (eqb-true _ _ same ∙ size)),
      λ plain. eq-eqb _ _ (plain-return program labels labels.entry c.args.code.now next (c.loop-operation.invariant.0 plain) returns ∙ sym size),
    )

pub loop-operation-preserved : goal.loop-operation-preserved
loop-operation-preserved c =
    let program = c.args.program.now in
    let labels = c.args.labels.now in
    let pc = c.loop-operation.pc in
    let next = c.in-Some.next in
    let operation = c.in-Some.operation in
    let here = found (goal.at.loop-operation-preserved c).In-Some in
    let callee = callee_at-found program labels.entry pc _ here ∙ sym (c.callee_of.ensures next) in
    let goes = subst (λ callee. goes_on labels callee operation ≡ true) (sym callee) (sym c.goes_on.ensures ∙ c.if-not-goes_on.false) in (
      λ plain. (plain-on program labels labels.entry c.args.code.now next operation (c.loop-operation.invariant.0 plain) here c.in_default-operation.not-Return).0,
      λ rest. c.loop-operation.invariant.1 (then pc next operation here goes rest),
    )
