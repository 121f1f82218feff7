-- Where values go into a call, and where a call comes out, there is a call.
use Rattle.std.proofs.Common.{◌≡◌, ℕ, true, Some, refl}
use Rattle.dep_nodes.specs.declared.kinds.NodeKind.{NodeKind}
use Rattle.dep_nodes.specs.declared.kinds.NodeKind.TheVariants.{Entry, Exit, Instr, Call, RetVal, RetKind, Throw, Catch, Poll, XPoll, Arg, Param, Kind, Value, Thrown}
use Rattle.dep_nodes.specs.Nodes.{Instance, CallSite, node}
use Rattle.dep_nodes.specs.Chains.{goes_in, comes_out, begun_call, ended_call}

abbrev site_at : Instance → ℕ → CallSite
site_at i pc = record { caller = i; pc = pc }

pub begun_at : (i : Instance) (k : NodeKind) → goes_in k ≡ true → (call : CallSite) × (begun_call (node i k) ≡ Some call)
begun_at i Entry e = absurd (cc)
begun_at i Exit e = absurd (cc)
begun_at i (Instr pc) e = absurd (cc)
begun_at i (Call pc) e = (site_at i pc, refl)
begun_at i (RetVal pc) e = absurd (cc)
begun_at i (RetKind pc) e = absurd (cc)
begun_at i (Throw pc) e = absurd (cc)
begun_at i (Catch row) e = absurd (cc)
begun_at i (Poll pc target) e = absurd (cc)
begun_at i (XPoll pc row) e = absurd (cc)
begun_at i (Arg pc n) e = (site_at i pc, refl)
begun_at i (Param n) e = absurd (cc)
begun_at i Kind e = absurd (cc)
begun_at i Value e = absurd (cc)
begun_at i Thrown e = absurd (cc)

pub ended_at : (i : Instance) (k : NodeKind) → comes_out k ≡ true → (call : CallSite) × (ended_call (node i k) ≡ Some call)
ended_at i Entry e = absurd (cc)
ended_at i Exit e = absurd (cc)
ended_at i (Instr pc) e = absurd (cc)
ended_at i (Call pc) e = absurd (cc)
ended_at i (RetVal pc) e = (site_at i pc, refl)
ended_at i (RetKind pc) e = (site_at i pc, refl)
ended_at i (Throw pc) e = (site_at i pc, refl)
ended_at i (Catch row) e = absurd (cc)
ended_at i (Poll pc target) e = absurd (cc)
ended_at i (XPoll pc row) e = absurd (cc)
ended_at i (Arg pc n) e = absurd (cc)
ended_at i (Param n) e = absurd (cc)
ended_at i Kind e = absurd (cc)
ended_at i Value e = absurd (cc)
ended_at i Thrown e = absurd (cc)
