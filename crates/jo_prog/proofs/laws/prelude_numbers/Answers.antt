use Rattle.std.proofs.Common.{◌≡◌, Some, refl}
use Rattle.std.specs.Prelude.{slice_get}
use Rattle.jo_prog.specs.declared.sites.Cause.{Cause}
use Rattle.jo_prog.specs.declared.sites.Cause.TheVariants.{ZeroDivisor, NullBase, FailingCast, WrongElement, NegativeLength, BadIndex, SecondStart, MissingInterface}
use Rattle.jo_prog.specs.PreludeClasses.{prelude_names}
use Rattle.jo_prog.specs.Sites.{class_raised, name_raised}
use Rattle.jo_prog.proofs.laws.prelude_numbers.Goals as goal

named : (cause : Cause) → slice_get prelude_names (class_raised cause) ≡ Some (name_raised cause)
named ZeroDivisor = refl
named NullBase = refl
named FailingCast = refl
named WrongElement = refl
named NegativeLength = refl
named BadIndex = refl
named SecondStart = refl
named MissingInterface = refl

pub returns-clause-raised : goal.returns-clause-raised
returns-clause-raised c = named

pub returns-clause-object : goal.returns-clause-object
returns-clause-object c = refl

pub returns-clause-string : goal.returns-clause-string
returns-clause-string c = refl

pub returns-clause-thread : goal.returns-clause-thread
returns-clause-thread c = refl

pub returns-clause-order : goal.returns-clause-order
returns-clause-order c = refl
