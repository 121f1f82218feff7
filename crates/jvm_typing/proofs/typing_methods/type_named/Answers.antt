use Rattle.std.proofs.Common.{rules, ◌≡◌}
use Rattle.jo_prog.specs.declared.typed.TypeCode.TheVariants.{Memory}
use Rattle.jvm_typing.proofs.FirstAnswerLemmas.{typed_answer, first_paths_answer, heights_answer, fault_answer, memory_is_no_claim}
use Rattle.jvm_typing.proofs.typing_methods.type_named.Goals as goal

pub returns-in-Ok-clause-typed : goal.returns-in-Ok-clause-typed
returns-in-Ok-clause-typed c = typed_answer c.args.program.now c.args.method c.in-Ok.answer c.in-Ok.ensures

pub returns-in-Ok-clause-first_paths : goal.returns-in-Ok-clause-first_paths
returns-in-Ok-clause-first_paths c = first_paths_answer c.args.program.now c.args.method c.in-Ok.answer c.in-Ok.ensures

pub returns-in-Ok-clause-heights : goal.returns-in-Ok-clause-heights
returns-in-Ok-clause-heights c = heights_answer c.args.program.now c.args.method c.in-Ok.answer c.in-Ok.ensures

pub returns-in-Ok-clause-fault : goal.returns-in-Ok-clause-fault
returns-in-Ok-clause-fault c = fault_answer c.args.program.now c.args.method c.in-Ok.answer c.in-Ok.ensures

pub returns-in-Err-clause-fault : goal.returns-in-Err-clause-fault
returns-in-Err-clause-fault c =
    let e : c.from.result.code ≡ Memory = search rules in
    memory_is_no_claim c.args.program.now c.args.method c.from.result e
