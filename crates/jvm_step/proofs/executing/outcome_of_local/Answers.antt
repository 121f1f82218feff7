use Rattle.std.proofs.Common.{[], ◌∷◌, map}
use Rattle.jvm_values.specs.Values.{value_of}
use Rattle.jvm_values.specs.Resolved.{seen}
use Rattle.jvm_exec.specs.Forms.{state_with}
use Rattle.jvm_step.proofs.FetchLemmas.{outcome_quiet}
use Rattle.jvm_step.proofs.executing.outcome_of_local.Goals as goal

pub returns-in-Some-clause-quiet : goal.returns-in-Some-clause-quiet
returns-in-Some-clause-quiet c =
    let program = c.args.setting.now.program.now in
    let s = state_with c.args.heap.now (map value_of c.args.statics.now) [] [] in
    outcome_quiet program s (seen program c.args.instruction.now) (value_of c.in-Some.value ∷ []) c.exec.result (c.exec.ensures [] [])
