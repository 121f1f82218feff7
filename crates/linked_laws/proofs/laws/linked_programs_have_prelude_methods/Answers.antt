use Rattle.linked_laws.proofs.PreludeMethods.{prelude_methods}
use Rattle.linked_laws.proofs.laws.linked_programs_have_prelude_methods.Goals as goal

pub returns : goal.returns
returns c = prelude_methods
