-- What the labels of a policy say of levels and methods. Labels on a dependence graph are after Hammer and Snelting (2009).
use Rattle.std.specs.Prelude.{ℕ, Bool, true, false, ◌&&◌, ◌||◌, ◌==◌, if◌then◌else◌, List, [], ◌∷◌, Option, Some, None}
use Rattle.jo_prog.specs.declared.labels.Label.{Label}
use Rattle.jo_prog.specs.declared.labels.Label.TheVariants.{Source, Sink, Release}
use Rattle.jo_prog.specs.declared.labels.Labels.{Labels}

-- The reflexive and transitive closure of the pairs: what flows by a pair goes to its first level by the pairs behind it,
-- and on from its second.
abbrev pub flows_by : List (ℕ × ℕ) → ℕ → ℕ → Bool
flows_by [] a b = a == b
flows_by (pair ∷ pairs) a b = flows_by pairs a b || (flows_by pairs a pair.0 && flows_by pairs pair.1 b)

-- level a flows to level b
abbrev pub flows : Labels → ℕ → ℕ → Bool
flows labels a b = flows_by labels.flows a b

-- the label of a method, by the first item that names it
abbrev pub label_among : List (ℕ × Label) → ℕ → Option Label
label_among [] method = None
label_among (item ∷ items) method = if item.0 == method then Some item.1 else label_among items method

abbrev pub label_of : Labels → ℕ → Option Label
label_of labels method = label_among labels.labelled method

-- what is shown at a method that observers see from this level on: a sink's level, a release's `to`
abbrev pub shown_at : Option Label → Option ℕ
shown_at None = None
shown_at (Some (Source level)) = None
shown_at (Some (Sink level)) = Some level
shown_at (Some (Release from to)) = Some to

-- what a method brings in has this level: a source's level, a release's `to`
abbrev pub brings : Option Label → Option ℕ
brings None = None
brings (Some (Source level)) = Some level
brings (Some (Sink level)) = None
brings (Some (Release from to)) = Some to

-- the level that a release lets out
abbrev pub lets_out : Option Label → Option ℕ
lets_out (Some (Release from to)) = Some from
lets_out _ = None

-- there is a level, and it flows to the observer
abbrev pub reaches : Labels → ℕ → Option ℕ → Bool
reaches labels observer None = false
reaches labels observer (Some level) = flows labels level observer

-- there is a level, and it doesn't flow to the observer
abbrev pub misses : Labels → ℕ → Option ℕ → Bool
misses labels observer None = false
misses labels observer (Some level) = if flows labels level observer then false else true
