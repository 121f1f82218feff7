-- The rules of facts that go from one instance that runs, apart by what they need: over lists of sites they are those of the same
-- names of ByRule, for this instance (this project's own form).
use Rattle.std.specs.Prelude.{◌≡◌, ℕ, Bool, true, false, ◌==◌, List, None, Some}
use Rattle.jo_ids.specs.Path.{Path}
use Rattle.jo_ids.specs.declared.ObjKey.{ObjKey}
use Rattle.jo_prog.specs.declared.program.Program.{Program}
use Rattle.jo_prog.specs.declared.sites.Cause.{Cause}
use Rattle.jo_prog.specs.Sites.{class_raised}
use Rattle.contexts.specs.Policies.{ContextPolicy}
use Rattle.dep_nodes.specs.declared.kinds.NodeKind.TheVariants.{Instr, Call, Throw, Catch, Poll, XPoll, Arg, Param, Value, Thrown}
use Rattle.dependence.specs.declared.facts.InstKey.{InstKey}
use Rattle.dependence.specs.declared.facts.FactCell.TheVariants.{Field as FieldOf, Elements, Static}
use Rattle.dependence.specs.declared.facts.Fact.{Fact}
use Rattle.dependence.specs.declared.facts.Fact.TheVariants.{Holds, CellHolds, Target, Fork, Throws, Stalls}
use Rattle.dependence.specs.WideGraph.{resolved_field_at, StandsWith, IsWideNode}
use Rattle.dependence.specs.MayBeNull.{is_move}
use Rattle.dependence.specs.FlowGraph.{Raises, CatchesFirst, PassesAll}
use Rattle.dependence.specs.FactRules.{makes_object, is_array_load, is_array_store, string_object, SiteAt, MadeBy, LoadsText, BaseHolds, TopHolds, MovedHolds, ArgumentHolds, CallsStatic, CallsOn, IsReceiver, IsTarget, CallsInThread}

module _ (program : Program) (policy : ContextPolicy) (facts : Fact (List ℕ) → Type 0) (H : ℕ → ℕ → Type 0) (i : InstKey (List ℕ)) where
  -- what makes objects, and what hands them on: moves, arguments, results, operands of athrow
  pub data ByValue : Fact (List ℕ) → Type 0 where
    makes : (pc site : ℕ) (o : ObjKey (List ℕ)) → IsWideNode program i.method (Instr pc) → StandsWith program i.method pc makes_object
        → SiteAt program i.method pc None site → MadeBy policy i site o → ByValue (Holds i (Instr pc) o)
    loads_text : (pc : ℕ) → IsWideNode program i.method (Instr pc) → LoadsText program i.method pc → ByValue (Holds i (Instr pc) string_object)
    moves : (pc : ℕ) (o : ObjKey (List ℕ)) → IsWideNode program i.method (Instr pc) → StandsWith program i.method pc is_move → MovedHolds program facts H i pc o
        → ByValue (Holds i (Instr pc) o)
    passes : (pc k : ℕ) (o : ObjKey (List ℕ)) → IsWideNode program i.method (Call pc) → ArgumentHolds program facts H i pc k o → ByValue (Holds i (Arg pc k) o)
    throws : (pc : ℕ) (o : ObjKey (List ℕ)) → IsWideNode program i.method (Throw pc) → StandsWith program i.method pc (λ op. op == 191) → TopHolds program facts H i pc o
        → ByValue (Holds i (Throw pc) o)
    returns : (pc : ℕ) (o : ObjKey (List ℕ)) → IsWideNode program i.method (Instr pc) → StandsWith program i.method pc (λ op. op == 176) → TopHolds program facts H i pc o
        → ByValue (Holds i Value o)

  -- loads and stores
  pub data ByCell : Fact (List ℕ) → Type 0 where
    loads_field : (pc f : ℕ) (base o : ObjKey (List ℕ)) → IsWideNode program i.method (Instr pc) → StandsWith program i.method pc (λ op. op == 180)
        → resolved_field_at program i.method pc ≡ Some f → BaseHolds program facts H i pc base → facts (CellHolds (FieldOf f base) o) → ByCell (Holds i (Instr pc) o)
    loads_element : (pc : ℕ) (base o : ObjKey (List ℕ)) → IsWideNode program i.method (Instr pc) → StandsWith program i.method pc is_array_load
        → BaseHolds program facts H i pc base → facts (CellHolds (Elements base) o) → ByCell (Holds i (Instr pc) o)
    loads_static : (pc f : ℕ) (o : ObjKey (List ℕ)) → IsWideNode program i.method (Instr pc) → StandsWith program i.method pc (λ op. op == 178)
        → resolved_field_at program i.method pc ≡ Some f → facts (CellHolds (Static f) o) → ByCell (Holds i (Instr pc) o)
    stores_field : (pc f : ℕ) (base o : ObjKey (List ℕ)) → IsWideNode program i.method (Instr pc) → StandsWith program i.method pc (λ op. op == 181)
        → resolved_field_at program i.method pc ≡ Some f → BaseHolds program facts H i pc base → TopHolds program facts H i pc o → ByCell (CellHolds (FieldOf f base) o)
    stores_element : (pc : ℕ) (base o : ObjKey (List ℕ)) → IsWideNode program i.method (Instr pc) → StandsWith program i.method pc is_array_store
        → BaseHolds program facts H i pc base → TopHolds program facts H i pc o → ByCell (CellHolds (Elements base) o)
    stores_static : (pc f : ℕ) (o : ObjKey (List ℕ)) → IsWideNode program i.method (Instr pc) → StandsWith program i.method pc (λ op. op == 179)
        → resolved_field_at program i.method pc ≡ Some f → TopHolds program facts H i pc o → ByCell (CellHolds (Static f) o)

  -- what a call takes, and what its targets are given
  pub data ByTarget : Fact (List ℕ) → Type 0 where
    calls_static : (j : InstKey (List ℕ)) (pc : ℕ) → IsWideNode program i.method (Call pc) → CallsStatic program policy i pc j → ByTarget (Target i pc j)
    calls_on : (j : InstKey (List ℕ)) (pc : ℕ) (o : ObjKey (List ℕ)) → IsWideNode program i.method (Call pc) → facts (Holds i (Arg pc 0) o)
        → CallsOn program policy i pc o false j → ByTarget (Target i pc j)
    starts : (j : InstKey (List ℕ)) (pc : ℕ) (o : ObjKey (List ℕ)) → IsWideNode program i.method (Call pc) → facts (Holds i (Arg pc 0) o)
        → CallsOn program policy i pc o true j → ByTarget (Fork i pc j)
    is_given_receiver : (j : InstKey (List ℕ)) (pc k : ℕ) (o : ObjKey (List ℕ)) (fork : Bool) → IsTarget facts i pc j → IsReceiver program j.method k
        → facts (Holds i (Arg pc k) o) → CallsOn program policy i pc o fork j → ByTarget (Holds j (Param k) o)
    is_given_argument : (j : InstKey (List ℕ)) (pc k : ℕ) (o : ObjKey (List ℕ)) → IsTarget facts i pc j → (IsReceiver program j.method k → ⊥)
        → facts (Holds i (Arg pc k) o) → ByTarget (Holds j (Param k) o)

  -- the exceptions that the machine makes
  pub data ByRaise : Fact (List ℕ) → Type 0 where
    raises : (pc site : ℕ) (cause : Cause) (o : ObjKey (List ℕ)) → IsWideNode program i.method (Throw pc) → Raises program facts H i pc cause
        → SiteAt program i.method pc (Some (class_raised cause)) site → MadeBy policy i site o → ByRaise (Holds i (Throw pc) o)

  -- what becomes of exceptions
  pub data ByCatch : Fact (List ℕ) → Type 0 where
    is_caught : (pc k : ℕ) (o : ObjKey (List ℕ)) → facts (Holds i (Throw pc) o) → CatchesFirst program i.method pc k o → ByCatch (Holds i (Catch k) o)
    leaves : (pc : ℕ) (o : ObjKey (List ℕ)) → facts (Holds i (Throw pc) o) → PassesAll program i.method pc o → ByCatch (Holds i Thrown o)
    ends_so : (pc : ℕ) (o : ObjKey (List ℕ)) → facts (Holds i (Throw pc) o) → PassesAll program i.method pc o → ByCatch (Throws i)

  -- what may never end by itself: a loop, and a cycle of calls
  pub data ByCycle : Fact (List ℕ) → Type 0 where
    loops : (pc target : ℕ) → IsWideNode program i.method (Poll pc target) → ByCycle (Stalls i)
    loops_caught : (pc k : ℕ) → IsWideNode program i.method (XPoll pc k) → ByCycle (Stalls i)
    recurs : (j : InstKey (List ℕ)) → CallsInThread facts i j → Path (CallsInThread facts) j i → ByCycle (Stalls i)
