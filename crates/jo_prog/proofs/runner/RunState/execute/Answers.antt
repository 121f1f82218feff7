use Rattle.std.proofs.Common.{ap, ◌∙◌}
use Rattle.jo_prog.specs.declared.operations.Operation.{Operation}
use Rattle.jo_prog.specs.Running.{executed}
use Rattle.jo_prog.proofs.runner.RunState.execute.Goals as goal

pub returns-in-Return : goal.returns-in-Return
returns-in-Return c = λ program labels. ap (λ (o : Operation). executed program labels c.args.self.now c.args.next o) c.in-Return.is ∙ c.end.ensures c.args.next program labels
