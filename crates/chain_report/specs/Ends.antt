-- What an observer may not depend on and what it may see, by the label of the method that a node's instruction names (labels
-- after Hammer and Snelting 2009; the ends of an illegal chain, and that a release counts as a source of level `to`, are this
-- project's own).
use Rattle.std.specs.Prelude.{◌≡◌, ℕ, Bool, false, ◌==◌, ◌&&◌, Option, Some, None, IfSome, option_and_then}
use Rattle.jo_order.specs.declared.Levels.{Levels}
use Rattle.jo_order.specs.Flowing.{flows as rows_flow}
use Rattle.jo_prog.specs.declared.labels.Label.{Label}
use Rattle.jo_prog.specs.declared.labels.Labels.{Labels}
use Rattle.jo_prog.specs.Labels.{flows, label_of, reaches, misses, shown_at, brings, lets_out}
use Rattle.dep_nodes.specs.declared.kinds.NodeKind.{NodeKind}
use Rattle.dep_nodes.specs.declared.kinds.NodeKind.TheVariants.{Call, RetVal, Arg}
use Rattle.dep_nodes.specs.declared.graphs.NodeName.{NodeName}

-- the label of the method that a node's instruction names
abbrev pub label_named : Labels → Option ℕ → Option Label
label_named labels resolved = option_and_then (label_of labels) resolved

-- the result of a source whose level doesn't flow to the observer, or of a release whose `to` doesn't
abbrev pub hides_kind : Labels → ℕ → Option Label → NodeKind → Bool
hides_kind labels observer label (RetVal pc) = misses labels observer (brings label)
hides_kind labels observer label _ = false

-- the call of a sink whose level flows to the observer, or of a release whose `to` does, or the argument of a release whose
-- `from` does
abbrev pub shows_kind : Labels → ℕ → Option Label → NodeKind → Bool
shows_kind labels observer label (Call pc) = reaches labels observer (shown_at label)
shows_kind labels observer label (Arg pc i) = (i == 0) && reaches labels observer (lets_out label)
shows_kind labels observer label _ = false

abbrev pub hides : Labels → ℕ → NodeName → Bool
hides labels observer name = hides_kind labels observer (label_named labels name.resolved) name.kind

abbrev pub shows : Labels → ℕ → NodeName → Bool
shows labels observer name = shows_kind labels observer (label_named labels name.resolved) name.kind

-- a chain from the one node to the other is illegal for the observer
abbrev pub are_ends : Labels → ℕ → Option NodeName → Option NodeName → Bool
are_ends labels observer None to = false
are_ends labels observer (Some from) None = false
are_ends labels observer (Some from) (Some to) = hides labels observer from && shows labels observer to

-- where there are rows of the levels, they say the same as the pairs of the policy
abbrev pub KeepFlows : Labels → Option Levels → Type 0
KeepFlows labels rows = IfSome rows (λ order. (a b : ℕ) → rows_flow order a b ≡ flows labels a b)
