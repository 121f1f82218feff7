use Rattle.std.proofs.Common.{◌≡◌, inl, inr, Some, true, false, sym, subst, ◌∙◌, arith}
use Rattle.jo_prog.specs.Program.{method_at, operation_at, callee_at}
use Rattle.jo_prog.specs.Constants.{takes_arguments}
use Rattle.jo_prog.proofs.Decoding.{operation_at-next}
use Rattle.plain_graph.specs.Building.{IsStart, is_call, is_return}
use Rattle.dependence.specs.GraphData.{IsDependenceGraph}
use Rattle.plain_graph.proofs.PlainWalk.{IsWalked, walked_start, walked_all_places, walked_instruction, walked_return, walked_source, walked_sink, walked_result, walked_callee, return_is, no_return_from, walked_next_small, call_no_return}
use Rattle.plain_graph.proofs.sdg.build.Goals as goal

pub loop-operation-init : goal.loop-operation-init
loop-operation-init c =
    let plain = c.requires.plain in
    let short = c.requires.short plain.code plain.found in
    let sizes = c.sizes_of-max_locals.ensures plain.code plain.found in
    let takes = takes_arguments (method_at c.args.program.now c.args.labels.now.entry) in
    walked_start c.args.program.now c.args.labels.now c.in_ok-builder.builder plain short.0 short.1
    (subst (λ n. IsStart c.in_ok-builder.builder takes c.args.labels.now.entry n plain.code.max_stack) sizes.0
    (subst (λ n. IsStart c.in_ok-builder.builder takes c.args.labels.now.entry c.sizes_of-max_locals.result.0 n) sizes.1
    (subst (λ has. IsStart c.in_ok-builder.builder has c.args.labels.now.entry c.sizes_of-max_locals.result.0 c.sizes_of-max_locals.result.1)
    c.takes_arguments-has_arguments.ensures c.in_ok-builder.ensures)))

pub add_call-requires-clause-place : goal.add_call-requires-clause-place
add_call-requires-clause-place c = λ s named source.
    let w = c.loop-operation in
    let found : operation_at c.args.program.now c.args.labels.now.entry w.pc ≡ Some (c.in-Some.operation, c.in-Some.next) = cc in
    let callee : callee_at c.args.program.now c.args.labels.now.entry w.pc ≡ Some s = cc in
    let call : is_call c.in-Some.operation ≡ true = cc in
    walked_result c.args.program.now c.args.labels.now w.pc c.in-Some.next w.height c.in-Some.operation w.builder w.invariant found s call callee source

pub add_instruction-requires-clause-places : goal.add_instruction-requires-clause-places
add_instruction-requires-clause-places c =
    let w = c.loop-operation in
    let found : operation_at c.args.program.now c.args.labels.now.entry w.pc ≡ Some (c.in-Some.operation, c.in-Some.next) = cc in
    walked_all_places c.args.program.now c.args.labels.now w.pc c.in-Some.next w.height c.in-Some.operation w.builder w.invariant found

pub returns-then-is_return : goal.returns-then-is_return
returns-then-is_return c =
    let w = c.loop-operation in
    let found : operation_at c.args.program.now c.args.labels.now.entry w.pc ≡ Some (c.in-Some.operation, c.in-Some.next) = cc in
    let is : is_return c.in-Some.operation ≡ true = cc in
    let graph = walked_return c.args.program.now c.args.labels.now w.pc c.in-Some.next w.height c.in-Some.operation w.builder w.invariant found c.add_instruction.new.self (return_is c.in-Some.operation is) c.in_ok-add_instruction.ensures in
    subst (λ g. IsDependenceGraph c.args.program.now c.args.labels.now g) (sym c.into_graph-then-is_return.ensures) graph

pub loop-operation-preserved : goal.loop-operation-preserved
loop-operation-preserved c =
    let w = c.loop-operation in
    let found : operation_at c.args.program.now c.args.labels.now.entry w.pc ≡ Some (c.in-Some.operation, c.in-Some.next) = cc in
    let plain : is_call c.in-Some.operation ≡ false = cc in
    let other : is_return c.in-Some.operation ≡ false = cc in
    subst (λ h. IsWalked c.args.program.now c.args.labels.now c.in-Some.next h c.add_instruction.new.self) (sym c.height_after-height.ensures)
    (walked_instruction c.args.program.now c.args.labels.now w.pc c.in-Some.next w.height c.in-Some.operation w.builder w.invariant found c.add_instruction.new.self plain (no_return_from c.in-Some.operation other) c.in_ok-add_instruction.ensures)

pub loop-operation-smaller : goal.loop-operation-smaller
loop-operation-smaller c =
    let w = c.loop-operation in
    let found : operation_at c.args.program.now c.args.labels.now.entry w.pc ≡ Some (c.in-Some.operation, c.in-Some.next) = cc in
    let plain : is_call c.in-Some.operation ≡ false = cc in
    let other : is_return c.in-Some.operation ≡ false = cc in
    let small = (walked_instruction c.args.program.now c.args.labels.now w.pc c.in-Some.next w.height c.in-Some.operation w.builder w.invariant found c.add_instruction.new.self plain (no_return_from c.in-Some.operation other) c.in_ok-add_instruction.ensures).small in
    let up = operation_at-next c.args.program.now c.args.labels.now.entry w.pc c.in-Some.next c.in-Some.operation found in
    omega arith

pub loop-operation-preserved-in_ok-height : goal.loop-operation-preserved-in_ok-height
loop-operation-preserved-in_ok-height c =
    let w = c.loop-operation in
    let found : operation_at c.args.program.now c.args.labels.now.entry w.pc ≡ Some (c.in-Some.operation, c.in-Some.next) = cc in
    let call : is_call c.in-Some.operation ≡ true = cc in
    let callee = walked_callee c.args.program.now c.args.labels.now w.pc c.in-Some.next w.height c.in-Some.operation w.builder w.invariant found call in
    let named : c.callee_at-callee.result ≡ Some callee.0 = c.callee_at-callee.ensures ∙ callee.1 in
    elim callee.2 [
      | inl source ↦
          let adds = c.in_ok-height.ensures.source callee.0 named source in
          subst (λ h. IsWalked c.args.program.now c.args.labels.now c.in-Some.next h c.add_call.new.self) (sym adds.1)
          (walked_source c.args.program.now c.args.labels.now w.pc c.in-Some.next w.height c.in-Some.operation w.builder w.invariant found c.add_call.new.self callee.0 call callee.1 source adds.0)
      | inr sink ↦
          let adds = c.in_ok-height.ensures.sink callee.0 named sink in
          subst (λ h. IsWalked c.args.program.now c.args.labels.now c.in-Some.next h c.add_call.new.self) (sym adds.1)
          (walked_sink c.args.program.now c.args.labels.now w.pc c.in-Some.next w.height c.in-Some.operation w.builder w.invariant found c.add_call.new.self callee.0 call callee.1 sink adds.0)
    ]

pub loop-operation-smaller-in_ok-height : goal.loop-operation-smaller-in_ok-height
loop-operation-smaller-in_ok-height c =
    let w = c.loop-operation in
    let found : operation_at c.args.program.now c.args.labels.now.entry w.pc ≡ Some (c.in-Some.operation, c.in-Some.next) = cc in
    let call : is_call c.in-Some.operation ≡ true = cc in
    let up = operation_at-next c.args.program.now c.args.labels.now.entry w.pc c.in-Some.next c.in-Some.operation found in
    let small = walked_next_small c.args.program.now c.args.labels.now w.pc c.in-Some.next w.height c.in-Some.operation w.builder w.invariant found (call_no_return c.in-Some.operation call) in
    omega arith
