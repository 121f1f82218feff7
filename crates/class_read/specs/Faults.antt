-- What a fault of the reader says of a file.
use Rattle.std.specs.Prelude.{◌≡◌, ℕ, List, Err}
use Rattle.class_pool.specs.declared.classes.ClassFile.{ClassFile}
use Rattle.class_pool.specs.declared.faults.ClassCode.{ClassCode}
use Rattle.class_pool.specs.declared.faults.ClassCode.TheVariants.{Memory}
use Rattle.class_pool.specs.declared.faults.ClassFault.{ClassFault}
use Rattle.class_pool.specs.ClassOrder.{class_of}
use Rattle.class_pool.specs.ClassGrammar.{IsClass}

-- The first fault of a file: in the order of reading each item before it passes, and the item at its place fails the check
-- that has this code.
abbrev pub ClassFaultOf : List ℕ → ClassFault → Type 0
ClassFaultOf file fault = class_of file ≡ Err fault

-- Memory ran out, which says nothing of the file; or this is its first fault, and it is no class file.
abbrev pub IsFaultBy : ClassCode → List ℕ → ClassFault → Type 0
IsFaultBy Memory file fault = fault.place ≡ 0
IsFaultBy _ file fault = ClassFaultOf file fault × ((class : ClassFile) → IsClass file class → ⊥)

abbrev pub IsFault : List ℕ → ClassFault → Type 0
IsFault file fault = IsFaultBy fault.code file fault
