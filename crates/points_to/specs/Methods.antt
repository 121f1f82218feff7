-- Instances that run have a method of the program (this project's own).
use Rattle.std.specs.Prelude.{◌<◌, ℕ, List, length}
use Rattle.jo_prog.specs.declared.program.Program.{Program}
use Rattle.dependence.specs.declared.facts.Fact.{Fact}
use Rattle.dependence.specs.declared.facts.Fact.TheVariants.{Reached, Target, Fork}

-- an instance that runs, or that is a target, has a method with a number
abbrev pub HasItsMethod : Program → Fact (List ℕ) → Type 0
HasItsMethod program (Reached i) = i.method < length program.methods
HasItsMethod program (Target i pc j) = j.method < length program.methods
HasItsMethod program (Fork i pc j) = j.method < length program.methods
HasItsMethod program _ = Unit {0}
