-- The calls that a chain has entered and not left, as they are kept: the last one entered stands last.
use Rattle.std.specs.Prelude.{◌≡◌, Bool, true, false, List, map, reverse, Option, Some, None}
use Rattle.dep_nodes.specs.declared.chains.Word.{Word}
use Rattle.dep_nodes.specs.declared.chains.Word.TheVariants.{Edge, Pass}
use Rattle.dep_nodes.specs.Nodes.{Node, CallSite, sites_of}
use Rattle.dep_nodes.specs.Chains.{adv}
use Rattle.chain_report.specs.declared.open_calls.OpenCall.{OpenCall}

abbrev pub site_of : OpenCall → CallSite
site_of call = record { caller = record { method = call.method; context = sites_of call.sites }; pc = call.pc }

-- the last one entered stands first
abbrev pub calls_of : List OpenCall → List CallSite
calls_of calls = reverse (map site_of calls)

-- the calls that are open behind a step, where it may stand in a valid chain
abbrev pub steps_by : List CallSite → Node → Word → Node → Option (List CallSite)
steps_by calls from (Edge kind) to = adv calls from kind to
steps_by calls from Pass to = Some calls

-- the step may stand there, and this is so behind it; or it may not
abbrev pub IsStepped : {A : Type 0} → Bool → Option A → A → Type 0
IsStepped true behind new = behind ≡ Some new
IsStepped false behind new = behind ≡ None
