-- What assembling a part of a text answers, against what the definition gives.
use Rattle.std.specs.Prelude.{◌≡◌, Result, Ok, Err}
use Rattle.class_asm.specs.declared.causes.Cause.{Cause}
use Rattle.class_asm.specs.declared.causes.Cause.TheVariants as causes
use Rattle.class_asm.specs.declared.causes.Halt.{Halt}
use Rattle.class_asm.specs.declared.causes.Halt.TheVariants.{At, Memory}
use Rattle.class_asm.specs.declared.pool_maker.Lack.{Lack}
use Rattle.class_asm.specs.declared.pool_maker.Lack.TheVariants as lacks

abbrev pub halt_for : Lack → Halt
halt_for lacks.Range = At causes.Range
halt_for lacks.Memory = Memory

-- want of memory says nothing
abbrev pub Halts : {Y : Type 0} → Halt → Result Y Cause → Type 0
Halts (At cause) given = given ≡ Err cause
Halts Memory given = Unit {0}

-- what was returned, seen by view, is what the definition gives
abbrev pub Comes : {X Y : Type 0} → (X → Y) → Result X Halt → Result Y Cause → Type 0
Comes view (Ok x) given = given ≡ Ok (view x)
Comes view (Err halt) given = Halts halt given
