use Rattle.std.proofs.Common.{◌≡◌, ◌++◌, drop}
use Rattle.std.specs.List.{flat_map}
use Rattle.joana_top.specs.Traces.{event_line}
use Rattle.joana_top.proofs.commands.traces.push_events.Given as goal

-- the lines of the events that are left are still to come
abbrev pub invariant-loop-event : goal.invariant-loop-event
invariant-loop-event l =
    l.out.items ++ flat_map (event_line l.program) (drop l.event-index l.events)
    ≡ l.fn.out.items ++ flat_map (event_line l.program) l.events
