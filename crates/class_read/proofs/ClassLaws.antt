-- What is read is one answer: a class of the grammar, or the first fault.
use Rattle.std.proofs.Common.{◌≡◌, ℕ, ◌<◌, ◌^◌, List, [], ◌∷◌, Ok, Fits, w8, suc, get_or, refl, arith}
use Rattle.std.specs.List.{AllByRecursion}
use Rattle.class_pool.specs.declared.classes.ClassFile.{ClassFile}
use Rattle.class_pool.specs.declared.faults.ClassCode.{ClassCode}
use Rattle.class_pool.specs.declared.faults.ClassCode.TheVariants as codes
use Rattle.class_pool.specs.declared.faults.ClassFault.{ClassFault}
use Rattle.class_pool.specs.declared.faults.Stop.{Stop}
use Rattle.class_pool.specs.declared.faults.Stop.TheVariants.{Fault, Memory}
use Rattle.class_pool.specs.Outcomes.{Fails}
use Rattle.class_pool.specs.Stops.{fault_of}
use Rattle.class_pool.specs.ClassOrder.{class_of}
use Rattle.class_pool.specs.ClassGrammar.{IsClass}
use Rattle.class_pool.proofs.GrammarClass.{reading_is_the_grammar, no_class}
use Rattle.class_read.specs.Faults.{ClassFaultOf, IsFaultBy, IsFault}
use Rattle.class_read.proofs.OwnFaults.{IsOwn, class_owns}

abbrev pub AllBytes : List ℕ → Type 0
AllBytes file = AllByRecursion (λ (byte : ℕ). byte < 2 ^ 8) file

pub all_bytes : (file : List ℕ) → ((k : ℕ) → Fits w8 (get_or file k 0)) → AllBytes file
all_bytes [] each = tt
all_bytes (byte ∷ rest) each = (omega (arith, each 0), all_bytes rest (λ k. each (suc k)))

pub class_is_read : (file : List ℕ) (class : ClassFile) → AllBytes file → class_of file ≡ Ok class → IsClass file class
class_is_read file class all read = (reading_is_the_grammar file class all).0 read

pub one_fault : (file : List ℕ) (f other : ClassFault) → ClassFaultOf file f → ClassFaultOf file other → f ≡ other
one_fault file f other first second = cc (first, second)

fault_by_code : (code : ClassCode) (file : List ℕ) (f : ClassFault) → IsOwn code → ClassFaultOf file f → IsFaultBy code file f
fault_by_code codes.Memory file f own failed = absurd own
fault_by_code _ file f own failed = (failed, no_class file f failed)

pub stop_is_fault : (file : List ℕ) (stop : Stop) → Fails stop (class_of file) → IsFault file (fault_of stop)
stop_is_fault file Memory failed = refl
stop_is_fault file (Fault f) failed = fault_by_code f.code file f ((class_owns file).failed f failed) failed
