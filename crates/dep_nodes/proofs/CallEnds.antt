-- The calls that begin and end at nodes.
use Rattle.std.proofs.Common.{◌≡◌, Bool, true, false, Option, Some, None, if◌then◌else◌, refl}
use Rattle.std.proofs.lemmas.Option.{none-some}
use Rattle.dep_nodes.specs.Nodes.{Node, CallSite, call_site}
use Rattle.dep_nodes.specs.Chains.{goes_in, comes_out, begun_call, ended_call}

there_if : (b : Bool) (o : Option CallSite) (call : CallSite) → (if b then o else None) ≡ Some call → (b ≡ true) × (o ≡ Some call)
there_if true o call e = (refl, e)
there_if false o call e = absurd (none-some call e)

if_there : (b : Bool) (o : Option CallSite) (call : CallSite) → b ≡ true → o ≡ Some call → (if b then o else None) ≡ Some call
if_there true o call is e = e
if_there false o call is e = absurd (cc)

pub begun_parts : (n : Node) (call : CallSite) → begun_call n ≡ Some call → (goes_in n.kind ≡ true) × (call_site n ≡ Some call)
begun_parts n call e = there_if (goes_in n.kind) (call_site n) call e

pub begun_from : (n : Node) (call : CallSite) → goes_in n.kind ≡ true → call_site n ≡ Some call → begun_call n ≡ Some call
begun_from n call is e = if_there (goes_in n.kind) (call_site n) call is e

pub ended_parts : (n : Node) (call : CallSite) → ended_call n ≡ Some call → (comes_out n.kind ≡ true) × (call_site n ≡ Some call)
ended_parts n call e = there_if (comes_out n.kind) (call_site n) call e

pub ended_from : (n : Node) (call : CallSite) → comes_out n.kind ≡ true → call_site n ≡ Some call → ended_call n ≡ Some call
ended_from n call is e = if_there (comes_out n.kind) (call_site n) call is e
