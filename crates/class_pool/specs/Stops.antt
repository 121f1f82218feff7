-- The fault that a public reader answers where an inner one stops.
use Rattle.class_pool.specs.declared.faults.ClassCode.TheVariants as codes
use Rattle.class_pool.specs.declared.faults.ClassFault.{ClassFault}
use Rattle.class_pool.specs.declared.faults.Stop.{Stop}
use Rattle.class_pool.specs.declared.faults.Stop.TheVariants.{Fault, Memory}
use Rattle.class_pool.specs.Items.{fault}

abbrev pub fault_of : Stop → ClassFault
fault_of (Fault f) = f
fault_of Memory = fault codes.Memory 0
