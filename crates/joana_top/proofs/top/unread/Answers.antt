use Rattle.std.proofs.Common.{◌∙◌, List, ℕ, subst, refl, inl}
use Rattle.joana_top.specs.Sinks.{sink_change, TookAllOrPart}
use Rattle.joana_top.proofs.top.unread.Goals as goal

-- the line that was tried is the one that was formatted
pub returns-in-Ok : goal.returns-in-Ok
returns-in-Ok g c =
    let P : List ℕ → Type 0 = TookAllOrPart (sink_change g.N.Sink.given g.N.Sink.faults c.args.notes.now c.try_line.new.notes) in
    let line = c.as_bytes.ensures.value ∙ c.in-Ok.ensures.ok in
    inl (refl, rw (← c.as_str-name.ensures.value) (subst P line c.try_line.ensures))
