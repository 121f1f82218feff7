-- What a public reader answers where an inner one stops.
use Rattle.std.proofs.Common.{Result, Err, inl, inr, refl}
use Rattle.class_pool.specs.declared.faults.ClassFault.{ClassFault}
use Rattle.class_pool.specs.declared.faults.Stop.{Stop}
use Rattle.class_pool.specs.declared.faults.Stop.TheVariants.{Fault, Memory}
use Rattle.class_pool.specs.Outcomes.{Fails, Answers}
use Rattle.class_pool.specs.Stops.{fault_of}

pub stop_answers : {X Y : Type 0} (view : X → Y) (stop : Stop) (read : Result Y ClassFault) → Fails stop read → Answers view (Err (fault_of stop)) read
stop_answers view Memory read fails = inl refl
stop_answers view (Fault f) read fails = inr fails
