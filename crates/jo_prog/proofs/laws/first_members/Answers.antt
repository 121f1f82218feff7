use Rattle.jo_prog.specs.Hierarchy.{own_method, method_order, own_field, supertypes, own_instance_method, superclasses}
use Rattle.jo_prog.proofs.WalkLemmas.{is_first, none_found}
use Rattle.jo_prog.proofs.laws.first_members.Goals as goal

pub returns-clause-method : goal.returns-clause-method
returns-clause-method c = λ program k m name desc e. is_first (own_method program name desc) (method_order program k) m e

pub returns-clause-no_method : goal.returns-clause-no_method
returns-clause-no_method c = λ program a k name desc e among. none_found (own_method program name desc) (method_order program a) e k among

pub returns-clause-field : goal.returns-clause-field
returns-clause-field c = λ program k m name desc e. is_first (own_field program name desc) (supertypes program k) m e

pub returns-clause-no_field : goal.returns-clause-no_field
returns-clause-no_field c = λ program a k name desc e among. none_found (own_field program name desc) (supertypes program a) e k among

pub returns-clause-instance : goal.returns-clause-instance
returns-clause-instance c = λ program k m name desc e. is_first (own_instance_method program name desc) (superclasses program k) m e

pub returns-clause-no_instance : goal.returns-clause-no_instance
returns-clause-no_instance c = λ program a k name desc e among. none_found (own_instance_method program name desc) (superclasses program a) e k among
