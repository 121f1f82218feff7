-- Instructions of one byte that return no value (JVM Specification SE 8, 6.5).
use Rattle.std.specs.Prelude.{ℕ, ◌-◌, ◌==◌, ◌-ℤ◌, pos, if◌then◌else◌, Option, Some, None}
use Rattle.jo_prog.specs.Operations.{within}
use Rattle.machine.specs.Instructions.{Instruction, passes, pushes_null, pushes_int, loads, stores, loads_element, stores_element, shuffles, computes, negates, narrows, returns_nothing, measures, throws, is_element_load, is_element_store}

abbrev pub later : ℕ → Option Instruction
later op =
    if within 87 95 op then Some (shuffles op)
    else if op == 116 then Some negates
    else if within 96 130 op then Some (computes op)
    else if within 145 147 op then Some (narrows op)
    else if op == 177 then Some returns_nothing
    else if op == 190 then Some measures
    else if op == 191 then Some throws
    else None

abbrev pub plain_without : ℕ → Option Instruction
plain_without op =
    if op == 0 then Some passes
    else if op == 1 then Some pushes_null
    else if within 2 8 op then Some (pushes_int (pos op -ℤ pos 3))
    else if within 26 29 op then Some (loads (op - 26))
    else if within 42 45 op then Some (loads (op - 42))
    else if is_element_load op then Some loads_element
    else if within 59 62 op then Some (stores (op - 59))
    else if within 75 78 op then Some (stores (op - 75))
    else if is_element_store op then Some stores_element
    else later op
