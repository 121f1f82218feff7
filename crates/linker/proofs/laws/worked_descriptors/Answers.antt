use Rattle.std.proofs.Common.{refl}
use Rattle.linker.proofs.laws.worked_descriptors.Goals as goal

pub returns-clause-all : goal.returns-clause-all
returns-clause-all c = refl

pub returns-clause-first : goal.returns-clause-first
returns-clause-first c = refl

pub returns-clause-last : goal.returns-clause-last
returns-clause-last c = refl

pub returns-clause-none : goal.returns-clause-none
returns-clause-none c = refl

pub returns-clause-class : goal.returns-clause-class
returns-clause-class c = refl

pub returns-clause-array : goal.returns-clause-array
returns-clause-array c = refl
