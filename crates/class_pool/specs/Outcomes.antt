-- What a reader of a class file answers, against what reading gives.
use Rattle.std.specs.Prelude.{◌≡◌, ◌⊎◌, Result, Ok, Err}
use Rattle.class_pool.specs.declared.faults.ClassCode.TheVariants as codes
use Rattle.class_pool.specs.declared.faults.ClassFault.{ClassFault}
use Rattle.class_pool.specs.declared.faults.Stop.{Stop}
use Rattle.class_pool.specs.declared.faults.Stop.TheVariants.{Fault, Memory}
use Rattle.class_pool.specs.Items.{fault}

-- a fault is that of reading; want of memory says nothing
abbrev pub Fails : {Y : Type 0} → Stop → Result Y ClassFault → Type 0
Fails (Fault fault) read = read ≡ Err fault
Fails Memory read = Unit {0}

-- what a reader returned, seen by view, is what reading gives
abbrev pub Gives : {X Y : Type 0} → (X → Y) → Result X Stop → Result Y ClassFault → Type 0
Gives view (Ok x) read = read ≡ Ok (view x)
Gives view (Err stop) read = Fails stop read

-- the same of a public reader, whose fault may say that memory ran out
abbrev pub Answers : {X Y : Type 0} → (X → Y) → Result X ClassFault → Result Y ClassFault → Type 0
Answers view (Ok x) read = read ≡ Ok (view x)
Answers view (Err f) read = (f ≡ fault codes.Memory 0) ⊎ (read ≡ Err f)
