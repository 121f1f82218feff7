-- What a reader of a part of a line answers, against what the grammar gives.
use Rattle.std.specs.Prelude.{◌≡◌, Option, Some, None, Result, Ok, Err}
use Rattle.jo_text.specs.declared.texts.DescFault.{DescFault}
use Rattle.jo_text.specs.declared.texts.DescFault.TheVariants as faults
use Rattle.asm_text.specs.declared.stops.Stop.{Stop}
use Rattle.asm_text.specs.declared.stops.Stop.TheVariants.{Outside, Memory}

abbrev pub stop_for : DescFault → Stop
stop_for faults.Bad = Outside
stop_for faults.Memory = Memory

-- outside the grammar is what it gives nothing for; want of memory says nothing
abbrev pub Fails : {Y : Type 0} → Stop → Option Y → Type 0
Fails Outside given = given ≡ None
Fails Memory given = Unit {0}

-- what a reader returned, seen by view, is what the grammar gives
abbrev pub Gives : {X Y : Type 0} → (X → Y) → Result X Stop → Option Y → Type 0
Gives view (Ok x) given = given ≡ Some (view x)
Gives view (Err stop) given = Fails stop given
