use Rattle.jo_prog.proofs.HierarchyLemmas.{superclasses_unfold, superinterfaces_unfold, supertypes_unfold, field_by_rule}
use Rattle.jo_prog.proofs.laws.search_orders.Goals as goal

pub returns-clause-superclasses : goal.returns-clause-superclasses
returns-clause-superclasses c = superclasses_unfold

pub returns-clause-superinterfaces : goal.returns-clause-superinterfaces
returns-clause-superinterfaces c = superinterfaces_unfold

pub returns-clause-supertypes : goal.returns-clause-supertypes
returns-clause-supertypes c = supertypes_unfold

pub returns-clause-field : goal.returns-clause-field
returns-clause-field c = field_by_rule
