use Rattle.std.proofs.Common.{◌≡◌, ℕ, ◌<◌, ◌≤◌, cond, List, length, Some, None, refl, sym, ap, ◌∙◌, subst, arith}
use Rattle.std.proofs.lemmas.List.{length-replicate}
use Rattle.jo_prog.specs.Typing.{Int, Shape, After, leads_on, typed_at, Arrives, at_start, by_step}
use Rattle.jo_prog.specs.IntShapes.{shape_of}
use Rattle.jo_prog.proofs.Decoding.{operation_at-code, callee_at-found}
use Rattle.jo_prog.proofs.TypingPaths.{typed_from_end, typed_at-leads, leads_on-return, leads_on-next_pc}
use Rattle.jo_prog.proofs.jvm_typing.is_typed_code.Goals as goal
use Rattle.jo_prog.proofs.jvm_typing.is_typed_code.Goals.{Else-not-apply}

-- what the path does at the loop's pc
typed : (c : Else-not-apply) → typed_at c.args.program.now c.args.method c.args.code.now c.loop-operation.pc (shape_of c.loop-operation.shape) ≡ leads_on c.args.code.now c.in-Some.operation c.in-Some.next (shape_of c.apply.new.self)
typed c =
    let program = c.args.program.now in
    let m = c.args.method in
    let pc = c.loop-operation.pc in
    let next = c.in-Some.next in
    let operation = c.in-Some.operation in
    let s = shape_of c.loop-operation.shape in
    let t = shape_of c.apply.new.self in
    let here = operation_at-code program m pc c.args.code.now (Some (operation, next)) c.requires c.in-Some.ensures.value in
    let named = callee_at-found program m pc (Some (operation, next)) here ∙ sym (c.callee_of.ensures next) in
    let shape = c.apply.ensures ∙ ap (λ b. cond b (Some t) None) c.if-not-apply.false in
    typed_at-leads program m c.args.code.now pc next operation c.callee_of.result s here named t shape

pub loop-operation-init : goal.loop-operation-init
loop-operation-init c =
    record {
      arrives = subst (λ (s : Shape). Arrives c.args.program.now c.args.method c.args.code.now 0 s) (sym c.in_ok-shape.ensures.shape) at_start;
      low = omega (arith, c.in_ok-shape.ensures.low);
    }

pub returns-in-Return : goal.returns-in-Return
returns-in-Return c =
    let step = (goal.at.returns-in-Return c).Else-not-apply in
    let t = shape_of c.apply.new.self in
    let ends = leads_on-return c.args.code.now c.in-Some.operation c.in-Some.next t c.in-Return.is in
    let after : After = record { next = None; shape = t } in (
      λ _. typed_from_end c.args.program.now c.args.method c.args.code.now after c.loop-operation.invariant.arrives (typed step ∙ ends) refl,
      λ _. refl,
    )

pub loop-operation-preserved : goal.loop-operation-preserved
loop-operation-preserved c =
    let step = (goal.at.loop-operation-preserved c).Else-not-apply in
    let t = shape_of c.apply.new.self in
    let next = c.in-Some.next in
    let height = length-replicate c.apply.new.self.height Int in
    let size = ap (λ (bytes : List ℕ). length bytes) c.as_slice-size.ensures in
    let inside : next < length c.args.code.now.bytes = omega (arith, c.if-next-size.false, size) in
    let low : c.apply.new.self.height ≤ c.args.code.now.max_stack = omega (arith, c.if-shape-max_stack.false, c.from-max_stack.ensures) in
    let goes = leads_on-next_pc c.args.code.now c.in-Some.operation next t c.in_default-operation.not-Return inside (omega (arith, height, low)) in
    let after : After = record { next = Some next; shape = t } in
    record {
      arrives = by_step c.loop-operation.pc next (shape_of c.loop-operation.shape) after c.loop-operation.invariant.arrives (typed step ∙ goes) refl;
      low = low;
    }
