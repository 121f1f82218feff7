-- Plain forms of labels, inputs and traces (this project's own).
use Rattle.std.specs.Prelude.{ℕ, ℤ, List, [], ◌∷◌, Option, Some, None, codes}
use Rattle.jo_prog.specs.declared.labels.Label.{Label}
use Rattle.jo_prog.specs.declared.labels.Label.TheVariants.{Source, Sink, Release}
use Rattle.jo_prog.specs.declared.runs.Event.{Event}
use Rattle.jo_prog.specs.declared.runs.Event.TheVariants.{Out}

abbrev pub word_of : Label → List ℕ
word_of (Source level) = codes "source"
word_of (Sink level) = codes "sink"
word_of (Release from to) = codes "release"

-- the level of a source or a sink, and that from which a release lets out
abbrev pub level_of : Label → ℕ
level_of (Source level) = level
level_of (Sink level) = level
level_of (Release from to) = from

abbrev pub listed : Option ℤ → List ℤ
listed None = []
listed (Some value) = value ∷ []

-- what is shown, if it is at most one event, and that an output
abbrev pub shown_of : List Event → Option (Option (ℕ × ℤ))
shown_of [] = Some None
shown_of (Out sink value ∷ []) = Some (Some (sink, value))
shown_of events = None
