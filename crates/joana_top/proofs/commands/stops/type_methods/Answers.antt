use Rattle.std.proofs.Common.{ℕ, List, Option, subst}
use Rattle.std.specs.Prelude.{Result, IfErr}
use Rattle.jvm_typing.specs.declared.programs.MethodFault.{MethodFault}
use Rattle.jvm_typing.specs.Typings.{IsFirstMethodFault}
use Rattle.joana_top.proofs.StopLemmas.{method_stopped}
use Rattle.joana_top.proofs.commands.stops.type_methods.Goals as goal

pub returns-clause-stop : goal.returns-clause-stop
returns-clause-stop c =
    let P : Result (List (List (Option ℕ))) MethodFault → Type 0 = λ r. IfErr r (IsFirstMethodFault c.args.program.now) in
    method_stopped c.args.program.now c.in-Err.found c.method_stop.result (subst P c.in-Err.is c.type_program-typings.ensures.fault) c.method_stop.ensures
