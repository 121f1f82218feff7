-- The names of classes in memory, against the definition. Private functions compute these.
use Rattle.std.specs.Prelude.{ℕ, List, Vec}
use Rattle.std.specs.declared.alloc.Global.{Global}
use Rattle.linker.specs.declared.names.TwiceDefined.{TwiceDefined}
use Rattle.linker.specs.declared.names.TwiceDefined.TheVariants.{Of, Memory}
use Rattle.linker.specs.LinkFaults.{IsTwiceDefined}
use Rattle.program_faults.specs.FirstFaults.{IsFirst}

abbrev pub text_in : Vec ℕ Global → List ℕ
text_in text = text.items

-- the first class that has an earlier one's name, unless memory was wanting
abbrev pub IsTwiceFault : List (List ℕ) → TwiceDefined → Type 0
IsTwiceFault names (Of class) = IsFirst (IsTwiceDefined names) class
IsTwiceFault names Memory = Unit {0}
