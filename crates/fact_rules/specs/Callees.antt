-- What a call runs, and in which instance, as functions of what stands there (this project's own form).
use Rattle.std.specs.Prelude.{◌≡◌, ℕ, Bool, true, false, ◌==◌, if◌then◌else◌, List, Option, Some, None, option_map}
use Rattle.jo_ids.specs.declared.ObjKey.{ObjKey}
use Rattle.jo_text.specs.Tests.{is_method_desc}
use Rattle.jo_prog.specs.declared.program.Program.{Program}
use Rattle.jo_prog.specs.declared.program.Method.{Method}
use Rattle.jo_prog.specs.declared.program.MemberRef.{MemberRef}
use Rattle.jo_prog.specs.declared.program.TypeRef.{TypeRef}
use Rattle.jo_prog.specs.declared.calls.Taken.{Taken}
use Rattle.jo_prog.specs.declared.calls.Taken.TheVariants.{Code, Start}
use Rattle.jo_prog.specs.Program.{method_at}
use Rattle.jo_prog.specs.Calls.{receiver_class, run_of, taken_from, takes}
use Rattle.jo_prog.specs.Sites.{sites_of, site_of}
use Rattle.contexts.specs.Policies.{ContextPolicy, Receiver}
use Rattle.dependence.specs.declared.facts.InstKey.{InstKey}
use Rattle.dependence.specs.FlowGraph.{Fits, type_of_object}
use Rattle.dependence.specs.FactRules.{instance_at}
use Rattle.fact_rules.specs.declared.callees.Callee.{Callee}

-- the method with code that is taken, in the same thread or in a new one
abbrev pub code_in : Taken → Option ℕ
code_in (Code m) = Some m
code_in _ = None

abbrev pub callee_so : Bool → Option ℕ → Option Callee
callee_so fork None = None
callee_so fork (Some m) = Some (record { method = m; fork = fork })

-- Thread.start runs the method `run` of the receiver
abbrev pub callee_by : Taken → Taken → Option Callee
callee_by (Code m) run = Some (record { method = m; fork = false })
callee_by Start run = callee_so true (code_in run)
callee_by _ run = None

-- a call in a method with this opcode, for a receiver of that type
abbrev pub callee_in : Program → ℕ → Option Method → Option ℕ → TypeRef → Option Callee
callee_in program op None resolved own = None
callee_in program op (Some current) None own = None
callee_in program op (Some current) (Some number) own = callee_by (takes program op current.class number (receiver_class own)) (run_of program (receiver_class own))

-- an invokestatic (184), whose descriptor is one
abbrev pub static_callee : Program → ℕ → List ℕ → Option ℕ → Option Callee
static_callee program op desc resolved = if op == 184 then (if is_method_desc desc then callee_so false (code_in (taken_from program resolved)) else None) else None

-- the call runs that for an object, which fits the type that it names
pub record RunsFor (program : Program) (m op : ℕ) (ref : MemberRef) (resolved : Option ℕ) (o : ObjKey (List ℕ)) (callee : Callee) : Type 0 where
  pub named : Fits program o ref.owner
  pub own : TypeRef
  pub is_own : type_of_object program o ≡ Some own
  pub runs : callee_in program op (method_at program m) resolved own ≡ Some callee

-- the instance in which it runs that
abbrev pub entered : Program → ContextPolicy → InstKey (List ℕ) → ℕ → ℕ → Option Receiver → Option (InstKey (List ℕ))
entered program policy i pc method receiver = option_map (λ site. instance_at method (policy.enter i.context site receiver)) (site_of (sites_of program.methods) i.method pc None)
