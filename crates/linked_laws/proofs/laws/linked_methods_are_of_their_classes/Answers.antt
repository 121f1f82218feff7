use Rattle.linked_laws.proofs.MethodFileLemmas.{listed_class, interface_code}
use Rattle.linked_laws.proofs.laws.linked_methods_are_of_their_classes.Goals as goal

pub returns-clause-classes : goal.returns-clause-classes
returns-clause-classes c = listed_class

pub returns-clause-interfaces : goal.returns-clause-interfaces
returns-clause-interfaces c = interface_code
