use Rattle.joana_base.specs.declared.status.Status.TheVariants.{Memory}
use Rattle.joana_cli.proofs.process.run.Goals as goal

pub returns-in-Err : goal.returns-in-Err
returns-in-Err c = (Memory, c.exit.ensures)
