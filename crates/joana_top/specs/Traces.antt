-- The text of a trace: a line for each event, then whether all threads have ended (this project's own).
use Rattle.std.specs.Prelude.{ℕ, ℤ, Bool, true, false, List, ◌∷◌, ◌++◌, codes}
use Rattle.std.specs.Fmt.{signed_decimal}
use Rattle.std.specs.List.{flat_map}
use Rattle.jo_prog.specs.declared.program.Program.{Program}
use Rattle.jo_prog.specs.declared.runs.Event.{Event}
use Rattle.jo_prog.specs.declared.runs.Event.TheVariants.{Out, Release}
use Rattle.jo_prog.specs.declared.runs.Trace.{Trace}
use Rattle.jo_prog.specs.Spelling.{spelled_method}

-- what a method shows, behind a word
abbrev pub shown_line : Program → List ℕ → ℕ → ℤ → List ℕ
shown_line program word method value = word ++ spelled_method program method ++ 32 ∷ signed_decimal value ++ codes "\n"

abbrev pub event_line : Program → Event → List ℕ
event_line program (Out sink value) = shown_line program (codes "out ") sink value
event_line program (Release method value) = shown_line program (codes "release ") method value

abbrev pub last_line : Bool → List ℕ
last_line true = codes "ended\n"
last_line false = codes "not ended\n"

abbrev pub trace_text : Program → Trace → List ℕ
trace_text program trace = flat_map (event_line program) trace.events ++ last_line trace.ended
