-- The laws of plain code, from the definitions of the machine, of typing and of the dependence graph.
use Rattle.std.proofs.Common.{◌≡◌, inl, inr, ℕ, zero, suc, ◌+◌, ◌-◌, ◌%◌, ℤ, Bool, true, false, List, [], ◌∷◌, length, replicate, Option, Some, None, Contains, refl, sym, ap, subst, ◌∙◌, arith}
use Rattle.std.specs.Prelude.{pos, slice_get, slice_set, slice_index, codes}
use Rattle.std.specs.List.{AllByRecursion}
use Rattle.std.specs.Str.{bytes_eq}
use Rattle.std.proofs.lemmas.Bool.{false≢true}
use Rattle.std.proofs.lemmas.List.{length-replicate, length-set}
use Rattle.std.proofs.lemmas.Option.{none-some, same_Some}
use Rattle.jo_prog.specs.declared.operations.Operation.{Operation}
use Rattle.jo_prog.specs.declared.operations.Operation.TheVariants.{Constant, Load, Store as StoreTo, Add, Subtract, InvokeStatic, Return, Other}
use Rattle.jo_prog.specs.declared.labels.Label.{Label}
use Rattle.jo_prog.specs.declared.labels.Label.TheVariants.{Source, Sink, Release}
use Rattle.jo_prog.specs.declared.labels.Labels.{Labels}
use Rattle.jo_prog.specs.declared.program.Program.{Program}
use Rattle.jo_prog.specs.declared.program.Code.{Code}
use Rattle.jo_prog.specs.declared.runs.SourceInput.{SourceInput}
use Rattle.jo_prog.specs.declared.runs.Event.TheVariants.{Out}
use Rattle.jo_prog.specs.Labels.{label_of, reaches, misses, shown_at, brings}
use Rattle.jo_prog.specs.Program.{method_at, operation_at, callee_at}
use Rattle.jo_prog.specs.PlainCode.{IsLabelledNative, IsEntry, IsPlainProgram, goes_on, IsPlainFrom, last, then}
use Rattle.jo_prog.specs.Running.{with_thread}
use Rattle.jo_prog.specs.Runs.{unmoved, advanced, all_ended, sink_level}
use Rattle.jo_prog.specs.Typing.{Kind, Int, Null, Ref, Unset, Shape, shape_at_start, with_stack, exchange_by, shape_after, Arrives, at_start, HasHeight}
use Rattle.jo_prog.specs.Values.{Value, int, ref}
use Rattle.jo_prog.specs.Constants.{takes_arguments, arguments_address}
use Rattle.jo_prog.specs.Machine.{State, Stepped, info_at, execute, silent, input_at, called, after_call, call_native, step_operation, step, first_locals, first_frame, start}
use Rattle.dependence.specs.declared.flow.Place.{Place}
use Rattle.dependence.specs.declared.flow.Place.TheVariants.{Stack}
use Rattle.dep_nodes.specs.declared.kinds.NodeKind.{NodeKind}
use Rattle.dep_nodes.specs.declared.kinds.NodeKind.TheVariants.{Entry, Instr, Call, RetVal, Arg}
use Rattle.dep_nodes.specs.declared.kinds.EdgeKind.TheVariants.{Data}
use Rattle.jo_ids.specs.Path.{stays, goes}
use Rattle.dependence.specs.Dependence.{one, more}
use Rattle.dependence.specs.Flow.{node_of, node_at, falls_through, calls_native, FlowEdge, begins, falls, calls, arrives as arrives_at, IsFlowNode, FlowReaches, reads_of, by_instr as reads_here, Writes, by_instr as writes_here, by_result, ArgumentPlace, of_argument}
use Rattle.dep_nodes.specs.Nodes.{node}
use Rattle.dependence.specs.Graph.{at_entry, DependenceEdge, used, passed, shown, label_at, is_source, is_sink}
use Rattle.plain_graph.proofs.NodeLists.{contains_one, contains_none, contains_first}
use Rattle.plain_graph.proofs.PlainCalls.{result_place}
use Rattle.plain_graph.proofs.PlainLine.{flow_on}
use Rattle.plain_graph.proofs.PlainReaching.{root, no_write_at_call}
use Rattle.plain_graph.proofs.PlainSteps.{instr_writes}
use Rattle.plain_graph.proofs.PlainTyping.{goes_on_from, source_label, sink_label, source_call, sink_call, plain_callee}
use Rattle.low_run.specs.Security.{source_level}
use Rattle.low_run.specs.ByEdges.{CleanByEdges, result, call}
use Rattle.low_run.proofs.PlainFrames.{written_at, value_from, writes_there, StackHolds, empty, push, LocalsHold, pushed_stack, locals_beside, popped_none, frame_at, executed_in, operation_goes}
use Rattle.low_run.proofs.PlainLaws.{Store, with_int, Doing, assigns, takes, shows, returns, read_by, written_by, behind, Keeps, here, further, Feeds, Leads, ends, goes, Moves, PlainLaws}
use Rattle.low_run.proofs.Relevance.{IsRelevant, at_end, within, hidden_irrelevant, reaches_else}

label_of_callee : (program : Program) (labels : Labels) (m pc s : ℕ) → callee_at program m pc ≡ Some s → label_at program labels m pc ≡ label_of labels s
label_of_callee program labels m pc s e = rw e refl

-- each number picks the one thread
first_of_one : (j : ℕ) → slice_index (0 ∷ []) j ≡ 0
first_of_one zero = refl
first_of_one (suc j) = refl

-- whether the entry takes an array or not, it has so many locals at the start
first_count : (takes : Bool) (count address : ℕ) → length (first_locals takes count address) ≡ count
first_count false count address = length-replicate count None
first_count true count address = length-set (replicate count None) 0 (Some (ref address)) ∙ length-replicate count None

no_int_unset : (n k : ℕ) → slice_get (replicate n Unset) k ≡ Some Int → ⊥
no_int_unset zero k e = none-some Int e
no_int_unset (suc n) zero e = (let same : Unset ≡ Int = same_Some Unset Int e in cc)
no_int_unset (suc n) (suc k) e = no_int_unset n k e

-- where a call pops an int, one stands on top
top_int : (locals stack : List Kind) (t : Shape) → exchange_by (Some (1, 0)) (record { locals = locals; stack = stack }) ≡ Some t → (kinds : List Kind) × (stack ≡ Int ∷ kinds) × (record { locals = locals; stack = kinds } ≡ t)
top_int locals [] t e = absurd (none-some t e)
top_int locals (Int ∷ kinds) t e = (kinds, refl, same_Some (record { locals = locals; stack = kinds }) t e)
top_int locals (Null ∷ kinds) t e = absurd (none-some t e)
top_int locals (Ref type ∷ kinds) t e = absurd (none-some t e)
top_int locals (Unset ∷ kinds) t e = absurd (none-some t e)

module _ (program : Program) (labels : Labels) (plain : IsPlainProgram program labels) where
  abbrev m : ℕ
  m = labels.entry

  abbrev code : Code
  code = plain.code

  abbrev natives : AllByRecursion (IsLabelledNative program labels) labels.labelled
  natives = plain.well_labelled.natives

  -- the state at a pc
  abbrev at_pc : List ℕ → ℕ → List (Option (Value ℕ)) → List (Value ℕ) → State
  at_pc cursors pc locals stack = with_thread program labels cursors (frame_at m pc locals stack ∷ [])

  -- an operation that is no call changes the frames alone
  abbrev IsSilent : ℕ → ℕ → Operation → Type 0
  IsSilent pc next operation = (inputs : List SourceInput) (cursors : List ℕ) (locals : List (Option (Value ℕ))) (stack : List (Value ℕ))
      → step_operation program labels inputs (at_pc cursors pc locals stack) 0 (frame_at m pc locals stack) [] (Some (operation, next))
      ≡ silent (at_pc cursors pc locals stack) 0 (executed_in m pc next operation locals stack (info_at (at_pc cursors pc locals stack)))

  -- a pc at which a typing path arrives, from where on the code is plain, and whose node stands in the flow graph
  record Spot : Type 0 where
    pub pc : ℕ
    pub shape : Shape
    pub arrives : Arrives program m code pc shape
    pub plain_on : IsPlainFrom program labels m code pc
    pub flow : IsFlowNode program m (node_at program m pc)

  -- ---- what is done at a spot

  data Does (p : Spot) : Doing Spot → Type 0 where
    silently : (operation : Operation) (n : Spot) → operation_at program m p.pc ≡ Some (operation, n.pc) → falls_through operation ≡ true → node_at program m p.pc ≡ Instr p.pc
        → shape_after program (callee_at program m p.pc) operation p.shape ≡ Some n.shape
        → IsSilent p.pc n.pc operation
        → Does p (assigns (reads_of operation (length p.shape.stack)) (written_at operation (length p.shape.stack)) (value_from operation) n)
    from_source : (k s : ℕ) (n : Spot) → operation_at program m p.pc ≡ Some (InvokeStatic k, n.pc) → callee_at program m p.pc ≡ Some s → is_source (label_of labels s) ≡ true
        → with_stack p.shape (Int ∷ p.shape.stack) ≡ n.shape → Does p (takes s (Stack (length p.shape.stack)) n)
    to_sink : (k s : ℕ) (kinds : List Kind) (n : Spot) → operation_at program m p.pc ≡ Some (InvokeStatic k, n.pc) → callee_at program m p.pc ≡ Some s → is_sink (label_of labels s) ≡ true
        → p.shape.stack ≡ Int ∷ kinds → record { locals = p.shape.locals; stack = kinds } ≡ n.shape → Does p (shows s (Stack (length kinds)) n)
    at_return : (next : ℕ) → operation_at program m p.pc ≡ Some (Return, next) → Does p returns

  abbrev Done : Spot → Type 0
  Done p = (d : Doing Spot) × Does p d

  flow_behind_call : (pc next k : ℕ) → operation_at program m pc ≡ Some (InvokeStatic k, next) → calls_native program (callee_at program m pc) ≡ true → IsFlowNode program m (node_at program m pc) → IsFlowNode program m (node_at program m next)
  flow_behind_call pc next k found native flow =
      let at : node_at program m pc ≡ Call pc = ap (node_of pc) found in
      flow_on program m Entry (RetVal pc) (node_at program m next)
      (flow_on program m Entry (Call pc) (RetVal pc) (subst (λ n. IsFlowNode program m n) at flow) (calls pc next k found native))
      (arrives_at pc next k (node_at program m next) found native refl)

  module _ (p : Spot) where
    done_silently : (next : ℕ) (operation : Operation) → operation_at program m p.pc ≡ Some (operation, next) → falls_through operation ≡ true → node_of p.pc (Some (operation, next)) ≡ Instr p.pc
        → IsSilent p.pc next operation
        → IsPlainFrom program labels m code next → Done p
    done_silently next operation found on instr quiet rest =
        let at : node_at program m p.pc ≡ Instr p.pc = ap (node_of p.pc) found ∙ instr in
        let go = goes_on_from program m code plain.typed p.pc next operation p.shape p.arrives found (λ is. false≢true (ap falls_through (sym is) ∙ on)) in
        let edge : FlowEdge program m (Instr p.pc) (node_at program m next) = falls p.pc next operation (node_at program m next) found on refl in
        let n : Spot = record {
          pc = next;
          shape = go.shape;
          arrives = go.arrives;
          plain_on = rest;
          flow = flow_on program m Entry (Instr p.pc) (node_at program m next) (subst (λ k. IsFlowNode program m k) at p.flow) edge;
        } in
        (assigns (reads_of operation (length p.shape.stack)) (written_at operation (length p.shape.stack)) (value_from operation) n, silently operation n found on at go.made quiet)

    done_source : (next k s : ℕ) → operation_at program m p.pc ≡ Some (InvokeStatic k, next) → callee_at program m p.pc ≡ Some s → is_source (label_of labels s) ≡ true → IsPlainFrom program labels m code next → Done p
    done_source next k s found callee source rest =
        let native = source_call program labels m p.pc s natives callee source in
        let go = goes_on_from program m code plain.typed p.pc next (InvokeStatic k) p.shape p.arrives found (λ is. cc) in
        let made : with_stack p.shape (Int ∷ p.shape.stack) ≡ go.shape = same_Some (with_stack p.shape (Int ∷ p.shape.stack)) go.shape (ap (λ e. exchange_by e p.shape) (sym native.effect) ∙ go.made) in
        let n : Spot = record { pc = next; shape = go.shape; arrives = go.arrives; plain_on = rest; flow = flow_behind_call p.pc next k found native.native p.flow } in
        (takes s (Stack (length p.shape.stack)) n, from_source k s n found callee source made)

    done_sink : (next k s : ℕ) → operation_at program m p.pc ≡ Some (InvokeStatic k, next) → callee_at program m p.pc ≡ Some s → is_sink (label_of labels s) ≡ true → IsPlainFrom program labels m code next → Done p
    done_sink next k s found callee sink rest =
        let native = sink_call program labels m p.pc s natives callee sink in
        let go = goes_on_from program m code plain.typed p.pc next (InvokeStatic k) p.shape p.arrives found (λ is. cc) in
        let top = top_int p.shape.locals p.shape.stack go.shape (ap (λ e. exchange_by e p.shape) (sym native.effect) ∙ go.made) in
        let n : Spot = record { pc = next; shape = go.shape; arrives = go.arrives; plain_on = rest; flow = flow_behind_call p.pc next k found native.native p.flow } in
        (shows s (Stack (length top.0)) n, to_sink k s top.0 n found callee sink top.1 top.2)

    done_operation : (next : ℕ) (operation : Operation) → operation_at program m p.pc ≡ Some (operation, next) → goes_on labels (callee_at program m p.pc) operation ≡ true → IsPlainFrom program labels m code next → Done p
    done_operation next (Constant z) found on rest = done_silently next (Constant z) found refl refl (λ i c l v. refl) rest
    done_operation next (Load k) found on rest = done_silently next (Load k) found refl refl (λ i c l v. refl) rest
    done_operation next (StoreTo k) found on rest = done_silently next (StoreTo k) found refl refl (λ i c l v. refl) rest
    done_operation next Add found on rest = done_silently next Add found refl refl (λ i c l v. refl) rest
    done_operation next Subtract found on rest = done_silently next Subtract found refl refl (λ i c l v. refl) rest
    done_operation next (InvokeStatic k) found on rest =
        let callee = plain_callee labels (callee_at program m p.pc) on in
        elim callee.2 [ inl source ↦ done_source next k callee.0 found callee.1 source rest | inr sink ↦ done_sink next k callee.0 found callee.1 sink rest ]
    done_operation next Return found on rest = absurd (false≢true on)
    done_operation next Other found on rest = absurd (false≢true on)

    done_by : (pc : ℕ) → p.pc ≡ pc → IsPlainFrom program labels m code pc → Done p
    done_by pc same (last q next found end) = (returns, at_return next (ap (operation_at program m) same ∙ found))
    done_by pc same (then q next operation found on rest) =
        done_operation next operation (ap (operation_at program m) same ∙ found) (ap (λ k. goes_on labels (callee_at program m k) operation) same ∙ on) rest

    done : Done p
    done = done_by p.pc refl p.plain_on

  abbrev doing : Spot → Doing Spot
  doing p = (done p).0

  -- ---- what a step does

  record Standing (p : Spot) (store : Store) (cursors : List ℕ) (s : State) : Type 0 where
    pub locals : List (Option (Value ℕ))
    pub stack : List (Value ℕ)
    pub is : s ≡ with_thread program labels cursors (frame_at m p.pc locals stack ∷ [])
    pub locals_hold : LocalsHold store p.shape.locals locals
    pub stack_holds : StackHolds store p.shape.stack stack

  abbrev Over : State → Type 0
  Over s = (cursors : List ℕ) × (s ≡ with_thread program labels cursors [])

  -- a step from a state, and what it does
  record Steps (inputs : List SourceInput) (store : Store) (cursors : List ℕ) (d : Doing Spot) (s : State) : Type 0 where
    pub after : Stepped
    pub is_step : step program labels inputs s 0 ≡ Some after
    pub move : Moves Standing Over inputs store cursors d after

  step_found : (inputs : List SourceInput) (cursors : List ℕ) (pc next : ℕ) (operation : Operation) (locals : List (Option (Value ℕ))) (stack : List (Value ℕ)) (after : Stepped) → operation_at program m pc ≡ Some (operation, next)
      → step_operation program labels inputs (at_pc cursors pc locals stack) 0 (frame_at m pc locals stack) [] (Some (operation, next)) ≡ Some after → step program labels inputs (at_pc cursors pc locals stack) 0 ≡ Some after
  step_found inputs cursors pc next operation locals stack after found e =
      ap (step_operation program labels inputs (at_pc cursors pc locals stack) 0 (frame_at m pc locals stack) []) found ∙ e

  -- a source gives its next int
  source_given : (inputs : List SourceInput) (cursors : List ℕ) (pc next k s : ℕ) (locals : List (Option (Value ℕ))) (stack : List (Value ℕ)) → callee_at program m pc ≡ Some s → is_source (label_of labels s) ≡ true
      → step_operation program labels inputs (at_pc cursors pc locals stack) 0 (frame_at m pc locals stack) [] (Some (InvokeStatic k, next))
      ≡ Some (record { state = at_pc (slice_set cursors s (slice_index cursors s + 1)) next locals (int (input_at inputs s (slice_index cursors s)) ∷ stack); event = None })
  source_given inputs cursors pc next k s locals stack callee source =
      ap (call_native labels inputs (at_pc cursors pc locals stack) 0 (frame_at m pc locals stack) [] next) callee
      ∙ ap (λ l. after_call (at_pc cursors pc locals stack) 0 (frame_at m pc locals stack) [] next (called inputs cursors s l stack)) (source_label (label_of labels s) source).1

  -- a sink shows the int on the stack
  sink_shown : (inputs : List SourceInput) (cursors : List ℕ) (pc next k s : ℕ) (locals : List (Option (Value ℕ))) (z : ℤ) (stack : List (Value ℕ)) → callee_at program m pc ≡ Some s → is_sink (label_of labels s) ≡ true
      → step_operation program labels inputs (at_pc cursors pc locals (int z ∷ stack)) 0 (frame_at m pc locals (int z ∷ stack)) [] (Some (InvokeStatic k, next))
      ≡ Some (record { state = at_pc cursors next locals stack; event = Some (Out s z) })
  sink_shown inputs cursors pc next k s locals z stack callee sink =
      ap (call_native labels inputs (at_pc cursors pc locals (int z ∷ stack)) 0 (frame_at m pc locals (int z ∷ stack)) [] next) callee
      ∙ ap (λ l. after_call (at_pc cursors pc locals (int z ∷ stack)) 0 (frame_at m pc locals (int z ∷ stack)) [] next (called inputs cursors s l (int z ∷ stack))) (sink_label (label_of labels s) sink).1

  module _ (inputs : List SourceInput) (store : Store) (cursors : List ℕ) (p : Spot) (locals : List (Option (Value ℕ))) (ls : LocalsHold store p.shape.locals locals) where
    sink_steps : (k s : ℕ) (kinds : List Kind) (n : Spot) (stack : List (Value ℕ)) → operation_at program m p.pc ≡ Some (InvokeStatic k, n.pc) → callee_at program m p.pc ≡ Some s → is_sink (label_of labels s) ≡ true
        → record { locals = p.shape.locals; stack = kinds } ≡ n.shape → (whole : List Kind) → whole ≡ Int ∷ kinds → StackHolds store whole stack
        → Steps inputs store cursors (shows s (Stack (length kinds)) n) (at_pc cursors p.pc locals stack)
    sink_steps k s kinds n stack found callee sink made whole is empty = (let no : ⊥ = cc in absurd no)
    sink_steps k s kinds n stack found callee sink made whole is (push rest below z value ss) =
        let same : rest ≡ kinds = cc in
        record {
          after = record { state = at_pc cursors n.pc locals below; event = Some (Out s z) };
          is_step = step_found inputs cursors p.pc n.pc (InvokeStatic k) locals (int z ∷ below) _ found (sink_shown inputs cursors p.pc n.pc k s locals z below callee sink);
          move = (
            ap (λ i. Some (Out s i)) (value ∙ ap (λ (ks : List Kind). store (Stack (length ks))) same),
            record {
              locals = locals;
              stack = below;
              is = refl;
              locals_hold = subst (λ (t : Shape). LocalsHold store t.locals locals) made ls;
              stack_holds = subst (λ (t : Shape). StackHolds store t.stack below) made (subst (λ ks. StackHolds store ks below) same ss);
            },
          );
        }

    steps_as : (d : Doing Spot) → Does p d → (stack : List (Value ℕ)) → StackHolds store p.shape.stack stack → Steps inputs store cursors d (at_pc cursors p.pc locals stack)
    steps_as d (silently operation n found on at made quiet) stack ss =
        let go = operation_goes store m p.pc n.pc locals program (callee_at program m p.pc) operation p.shape n.shape stack on made ls ss in
        record {
          after = record { state = at_pc cursors n.pc go.new_locals go.new_stack; event = None };
          is_step = step_found inputs cursors p.pc n.pc operation locals stack _ found (quiet inputs cursors locals stack ∙ ap (silent (at_pc cursors p.pc locals stack) 0) (go.runs (info_at (at_pc cursors p.pc locals stack))));
          move = (refl, record { locals = go.new_locals; stack = go.new_stack; is = refl; locals_hold = go.locals_hold; stack_holds = go.stack_holds });
        }
    steps_as d (from_source k s n found callee source made) stack ss =
        let z = input_at inputs s (slice_index cursors s) in
        let h = length p.shape.stack in
        record {
          after = record { state = at_pc (slice_set cursors s (slice_index cursors s + 1)) n.pc locals (int z ∷ stack); event = None };
          is_step = step_found inputs cursors p.pc n.pc (InvokeStatic k) locals stack _ found (source_given inputs cursors p.pc n.pc k s locals stack callee source);
          move = (
            refl,
            record {
              locals = locals;
              stack = int z ∷ stack;
              is = refl;
              locals_hold = subst (λ (t : Shape). LocalsHold (with_int store (Stack h) z) t.locals locals) made (locals_beside store h z p.shape.locals locals ls);
              stack_holds = subst (λ (t : Shape). StackHolds (with_int store (Stack h) z) t.stack (int z ∷ stack)) made (pushed_stack store p.shape.stack stack z ss);
            },
          );
        }
    steps_as d (to_sink k s kinds n found callee sink top made) stack ss = sink_steps k s kinds n stack found callee sink made p.shape.stack top ss
    steps_as d (at_return next found) stack ss = record {
      after = record { state = with_thread program labels cursors []; event = None };
      is_step = step_found inputs cursors p.pc next Return locals stack _ found (ap (λ o. silent (at_pc cursors p.pc locals stack) 0 (execute (info_at (at_pc cursors p.pc locals stack)) (frame_at m p.pc locals stack) [] next Return o)) (popped_none stack));
      move = (refl, (cursors, refl));
    }

  module _ (p : Spot) (store : Store) (cursors : List ℕ) (s : State) (standing : Standing p store cursors s) (inputs : List SourceInput) where
    abbrev before : State
    before = at_pc cursors p.pc standing.locals standing.stack

    stepped : Steps inputs store cursors (doing p) before
    stepped = steps_as inputs store cursors p standing.locals standing.locals_hold (doing p) (done p).1 standing.stack standing.stack_holds

    advances : (number : ℕ) → advanced program labels inputs before number ≡ stepped.after
    advances number = ap (λ t. unmoved before (step program labels inputs before t)) (first_of_one (number % length {A = ℕ} (0 ∷ []))) ∙ ap (unmoved before) stepped.is_step

    moves_there : (number : ℕ) → Moves Standing Over inputs store cursors (doing p) (advanced program labels inputs s number)
    moves_there number = subst (λ x. Moves Standing Over inputs store cursors (doing p) x) (sym (ap (λ x. advanced program labels inputs x number) standing.is ∙ advances number)) stepped.move

  -- ---- what the graph has of it

  -- the node that reads and writes at a spot
  abbrev node_doing : Spot → Doing Spot → NodeKind
  node_doing p (assigns places v value n) = Instr p.pc
  node_doing p (takes s v n) = RetVal p.pc
  node_doing p (shows s v n) = Arg p.pc 0
  node_doing p returns = Instr p.pc

  abbrev height_at : Spot → ℕ
  height_at p = length p.shape.stack

  has_height : (p : Spot) → HasHeight program m p.pc (height_at p)
  has_height p = (code, p.shape, plain.found, p.arrives, refl)

  -- the writer at a spot, and where it goes on
  record Defines (p : Spot) (k : NodeKind) (v : Place) (n : Spot) : Type 0 where
    pub flow : IsFlowNode program m k
    pub writes : Writes program m k v
    pub edge : FlowEdge program m k (node_at program m n.pc)

  defines : (p : Spot) (d : Doing Spot) (v : Place) (n : Spot) → Does p d → written_by d ≡ Some v → behind d ≡ Some n → Defines p (node_doing p d) v n
  defines p d v n (silently operation next found on at made quiet) writes to =
      let to_next : next ≡ n = same_Some next n to in
      let h = height_at p in
      record {
        flow = subst (λ k. IsFlowNode program m k) at p.flow;
        writes = writes_here p.pc next.pc h operation v found (has_height p)
            (subst (λ ps. Contains ps v) (sym (writes_there operation h on)) (subst (λ w. Contains (written_at operation h ∷ []) w) (same_Some (written_at operation h) v writes) (contains_first (written_at operation h) [])));
        edge = subst (λ (q : Spot). FlowEdge program m (Instr p.pc) (node_at program m q.pc)) to_next (falls p.pc next.pc operation (node_at program m next.pc) found on refl);
      }
  defines p d v n (from_source k s next found callee source made) writes to =
      let native = source_call program labels m p.pc s natives callee source in
      let at : node_at program m p.pc ≡ Call p.pc = ap (node_of p.pc) found in
      let h = height_at p in
      let off : h ≡ h - 0 = omega arith in
      record {
        flow = flow_on program m Entry (Call p.pc) (RetVal p.pc) (subst (λ j. IsFlowNode program m j) at p.flow) (calls p.pc next.pc k found native.native);
        writes = by_result p.pc h 0 v (has_height p) native.counts native.gives (sym (same_Some (Stack h) v writes) ∙ ap (λ i. Stack i) off);
        edge = subst (λ (q : Spot). FlowEdge program m (RetVal p.pc) (node_at program m q.pc)) (same_Some next n to) (arrives_at p.pc next.pc k (node_at program m next.pc) found native.native refl);
      }
  defines p d v n (to_sink k s kinds next found callee sink top made) writes to = absurd (none-some v writes)
  defines p d v n (at_return next found) writes to = absurd (none-some v writes)

  -- a definition that reaches a spot reaches the next, if it isn't written over
  passes : (p : Spot) (d : Doing Spot) (v : Place) (n : Spot) (x : NodeKind) → Does p d → behind d ≡ Some n → (written_by d ≡ Some v → ⊥) → FlowReaches program m v x (node_at program m p.pc) → FlowReaches program m v x (node_at program m n.pc)
  passes p d v n x (silently operation next found on at made quiet) to other reach =
      let h = height_at p in
      let not_here : Writes program m (Instr p.pc) v → ⊥ = λ w.
      other (ap (λ u. Some u) (contains_one (written_at operation h) v (subst (λ ps. Contains ps v) (writes_there operation h on) (instr_writes program labels p.pc next.pc operation found h (has_height p) v w)))) in
      subst (λ (q : Spot). FlowReaches program m v x (node_at program m q.pc)) (same_Some next n to)
      (more (Instr p.pc) (node_at program m next.pc) (subst (λ k. FlowReaches program m v x k) at reach) not_here (falls p.pc next.pc operation (node_at program m next.pc) found on refl))
  passes p d v n x (from_source k s next found callee source made) to other reach =
      let native = source_call program labels m p.pc s natives callee source in
      let at : node_at program m p.pc ≡ Call p.pc = ap (node_of p.pc) found in
      let h = height_at p in
      let off : h - 0 ≡ h = omega arith in
      let not_here : Writes program m (RetVal p.pc) v → ⊥ = λ w.
      other (ap (λ u. Some u) (sym ((result_place program m p.pc h 0 1 v w (has_height p) native.counts native.gives).1 ∙ ap (λ i. Stack i) off))) in
      subst (λ (q : Spot). FlowReaches program m v x (node_at program m q.pc)) (same_Some next n to)
      (more (RetVal p.pc) (node_at program m next.pc)
      (more (Call p.pc) (RetVal p.pc) (subst (λ j. FlowReaches program m v x j) at reach) (no_write_at_call program m p.pc v) (calls p.pc next.pc k found native.native))
      not_here (arrives_at p.pc next.pc k (node_at program m next.pc) found native.native refl))
  passes p d v n x (to_sink k s kinds next found callee sink top made) to other reach =
      let native = sink_call program labels m p.pc s natives callee sink in
      let at : node_at program m p.pc ≡ Call p.pc = ap (node_of p.pc) found in
      let not_here : Writes program m (RetVal p.pc) v → ⊥ = λ w.
      (let none = (result_place program m p.pc (height_at p) 1 0 v w (has_height p) native.counts native.gives).0 in let no : ⊥ = omega arith in no) in
      subst (λ (q : Spot). FlowReaches program m v x (node_at program m q.pc)) (same_Some next n to)
      (more (RetVal p.pc) (node_at program m next.pc)
      (more (Call p.pc) (RetVal p.pc) (subst (λ j. FlowReaches program m v x j) at reach) (no_write_at_call program m p.pc v) (calls p.pc next.pc k found native.native))
      not_here (arrives_at p.pc next.pc k (node_at program m next.pc) found native.native refl))
  passes p d v n x (at_return next found) to other reach = absurd (none-some n to)

  keeps_reach : (v : Place) (x : NodeKind) (p q : Spot) → Keeps doing v p q → FlowReaches program m v x (node_at program m p.pc) → FlowReaches program m v x (node_at program m q.pc)
  keeps_reach v x p q (here r) reach = reach
  keeps_reach v x p q (further r next final to other rest) reach = keeps_reach v x next final rest (passes r (doing r) v next x (done r).1 to other reach)

  -- the argument of a sink
  argument_of : (p : Spot) (k s : ℕ) (kinds : List Kind) (next : ℕ) → operation_at program m p.pc ≡ Some (InvokeStatic k, next) → callee_at program m p.pc ≡ Some s → is_sink (label_of labels s) ≡ true → p.shape.stack ≡ Int ∷ kinds
      → ArgumentPlace program m p.pc 0 (Stack (length kinds))
  argument_of p k s kinds next found callee sink top =
      let native = sink_call program labels m p.pc s natives callee sink in
      let size : height_at p ≡ suc (length kinds) = ap (λ (ks : List Kind). length ks) top in
      let place : length kinds ≡ height_at p - 1 + 0 = omega arith in
      of_argument p.pc (height_at p) 1 0 (Stack (length kinds)) (has_height p) native.counts (omega arith) (ap (λ i. Stack i) place)

  -- a definition that reaches a spot is used there
  uses : (p : Spot) (d : Doing Spot) (v : Place) (x : NodeKind) → Does p d → Contains (read_by d) v → IsFlowNode program m x → FlowReaches program m v x (node_at program m p.pc)
      → DependenceEdge program labels (node (root labels) x) Data (node (root labels) (node_doing p d))
  uses p d v x (silently operation next found on at made quiet) reads flow reach =
      used (root labels) x (Instr p.pc) v at_entry flow (subst (λ k. FlowReaches program m v x k) at reach) (reads_here p.pc next.pc (height_at p) operation v found (has_height p) reads)
  uses p d v x (from_source k s next found callee source made) reads flow reach = absurd (contains_none v reads)
  uses p d v x (to_sink k s kinds next found callee sink top made) reads flow reach =
      let at : node_at program m p.pc ≡ Call p.pc = ap (node_of p.pc) found in
      let same : Stack (length kinds) ≡ v = contains_one (Stack (length kinds)) v reads in
      passed (root labels) x p.pc 0 v at_entry flow (subst (λ j. FlowReaches program m v x j) at reach)
      (subst (λ w. ArgumentPlace program m p.pc 0 w) same (argument_of p k s kinds next.pc found callee sink top))
  uses p d v x (at_return next found) reads flow reach = absurd (contains_none v reads)

  abbrev own_node : Spot → NodeKind
  own_node p = node_doing p (doing p)

  feeds_edge : (p q : Spot) → Feeds doing p q → DependenceEdge program labels (node (root labels) (own_node p)) Data (node (root labels) (own_node q))
  feeds_edge p q f =
      let d = defines p (doing p) f.place f.next (done p).1 f.writes f.on in
      let reach = keeps_reach f.place (own_node p) f.next q f.keeps (one (node_at program m f.next.pc) d.edge d.writes) in
      uses q (doing q) f.place (own_node p) (done q).1 f.reads d.flow reach

  leads_relevant : (observer : ℕ) (p q : Spot) → Leads doing p q → IsRelevant program labels observer (node (root labels) (own_node q)) → IsRelevant program labels observer (node (root labels) (own_node p))
  leads_relevant observer p q (ends r) relevant = relevant
  leads_relevant observer p q (goes a b final f rest) relevant = within (node (root labels) (own_node a)) (node (root labels) (own_node b)) Data refl (feeds_edge a b f) (leads_relevant observer b final rest relevant)

  -- ---- sources and sinks

  record IsSourceAt (p : Spot) (source : ℕ) : Type 0 where
    pub callee : callee_at program m p.pc ≡ Some source
    pub is : is_source (label_of labels source) ≡ true
    pub flow : IsFlowNode program m (RetVal p.pc)

  source_at : (p n : Spot) (d : Doing Spot) (source : ℕ) (v : Place) → Does p d → d ≡ takes source v n → IsSourceAt p source
  source_at p n d source v (silently operation next found on at made quiet) is = (let no : ⊥ = cc in absurd no)
  source_at p n d source v (from_source k s next found callee labelled made) is =
      let same : s ≡ source = cc in
      let native = source_call program labels m p.pc s natives callee labelled in
      let at : node_at program m p.pc ≡ Call p.pc = ap (node_of p.pc) found in
      record {
        callee = callee ∙ ap (λ i. Some i) same;
        is = subst (λ i. is_source (label_of labels i) ≡ true) same labelled;
        flow = flow_on program m Entry (Call p.pc) (RetVal p.pc) (subst (λ j. IsFlowNode program m j) at p.flow) (calls p.pc next.pc k found native.native);
      }
  source_at p n d source v (to_sink k s kinds next found callee sink top made) is = (let no : ⊥ = cc in absurd no)
  source_at p n d source v (at_return next found) is = (let no : ⊥ = cc in absurd no)

  record IsSinkAt (p : Spot) (sink : ℕ) : Type 0 where
    pub callee : callee_at program m p.pc ≡ Some sink
    pub is : is_sink (label_of labels sink) ≡ true
    pub flow : IsFlowNode program m (Call p.pc)
    pub place : Place
    pub argument : ArgumentPlace program m p.pc 0 place

  sink_at : (p n : Spot) (d : Doing Spot) (sink : ℕ) (v : Place) → Does p d → d ≡ shows sink v n → IsSinkAt p sink
  sink_at p n d sink v (silently operation next found on at made quiet) is = (let no : ⊥ = cc in absurd no)
  sink_at p n d sink v (from_source k s next found callee labelled made) is = (let no : ⊥ = cc in absurd no)
  sink_at p n d sink v (to_sink k s kinds next found callee labelled top made) is =
      let same : s ≡ sink = cc in
      let at : node_at program m p.pc ≡ Call p.pc = ap (node_of p.pc) found in
      record {
        callee = callee ∙ ap (λ i. Some i) same;
        is = subst (λ i. is_sink (label_of labels i) ≡ true) same labelled;
        flow = subst (λ j. IsFlowNode program m j) at p.flow;
        place = Stack (length kinds);
        argument = argument_of p k s kinds next.pc found callee labelled top;
      }
  sink_at p n d sink v (at_return next found) is = (let no : ⊥ = cc in absurd no)

  -- what is seen of a sink is shown there
  sink_shows : (observer : ℕ) (label : Option Label) → reaches labels observer (sink_level label) ≡ true → reaches labels observer (shown_at label) ≡ true
  sink_shows observer None h = h
  sink_shows observer (Some (Source level)) h = h
  sink_shows observer (Some (Sink level)) h = h
  sink_shows observer (Some (Release from to)) h = absurd (false≢true h)

  sink_relevant : (observer : ℕ) (p n : Spot) (sink : ℕ) (v : Place) → doing p ≡ shows sink v n → reaches labels observer (sink_level (label_of labels sink)) ≡ true → IsRelevant program labels observer (node (root labels) (own_node p))
  sink_relevant observer p n sink v is is_seen =
      let k = sink_at p n (doing p) sink v (done p).1 is in
      let label = label_of_callee program labels m p.pc sink k.callee in
      let observed = at_end (node (root labels) (Call p.pc)) (call (root labels) p.pc at_entry k.flow (ap (λ l. reaches labels observer (shown_at l)) label ∙ sink_shows observer (label_of labels sink) is_seen)) in
      subst (λ d. IsRelevant program labels observer (node (root labels) (node_doing p d))) (sym is)
      (within (node (root labels) (Arg p.pc 0)) (node (root labels) (Call p.pc)) Data refl (shown (root labels) p.pc k.place at_entry k.flow (ap is_sink label ∙ k.is) k.argument) observed)

  source_flows : (observer : ℕ) → CleanByEdges program labels observer → (p q next after : Spot) (source sink : ℕ) (v w : Place) → doing p ≡ takes source v next → doing q ≡ shows sink w after
      → reaches labels observer (sink_level (label_of labels sink)) ≡ true → Leads doing p q → reaches labels observer (source_level (label_of labels source)) ≡ true
  source_flows observer clean p q next after source sink v w is shown_is is_seen chain =
      let s = source_at p next (doing p) source v (done p).1 is in
      let level = source_label (label_of labels source) s.is in
      let at : label_at program labels m p.pc ≡ Some (Source level.0) = label_of_callee program labels m p.pc source s.callee ∙ level.1 in
      let relevant = subst (λ d. IsRelevant program labels observer (node (root labels) (node_doing p d))) is (leads_relevant observer p q chain (sink_relevant observer q after sink w shown_is is_seen)) in
      ap (λ l. reaches labels observer (source_level l)) level.1
      ∙ reaches_else labels observer level.0 (λ missed. hidden_irrelevant program labels observer (node (root labels) (RetVal p.pc)) clean
      (result (root labels) p.pc at_entry s.flow (ap (λ l. misses labels observer (brings l)) at ∙ missed)) relevant)

  -- ---- the start

  abbrev first_spot : Spot
  first_spot = record {
    pc = 0;
    shape = shape_at_start code;
    arrives = at_start;
    plain_on = plain.plain;
    flow = goes Entry (node_at program m 0) (node_at program m 0) (begins (node_at program m 0) refl) (stays (node_at program m 0));
  }

  abbrev no_ints : Store
  no_ints v = pos 0

  first_standing : Standing first_spot no_ints (replicate (length program.methods) 0) (start program labels)
  first_standing = record {
    locals = first_locals (takes_arguments (method_at program m)) code.max_locals (arguments_address program);
    stack = [];
    is = ap (λ o. with_thread program labels (replicate (length program.methods) 0) (first_frame program m o)) plain.found;
    locals_hold = record {
      count = first_count (takes_arguments (method_at program m)) code.max_locals (arguments_address program) ∙ sym (length-replicate code.max_locals Unset);
      each = λ k is. absurd (no_int_unset code.max_locals k is);
    };
    stack_holds = empty;
  }

  -- plain code has the laws
  pub plain_laws : PlainLaws program labels
  plain_laws = record {
    Spot = Spot;
    doing = doing;
    Stands = Standing;
    IsOver = Over;
    first = first_spot;
    store = no_ints;
    cursors = replicate (length program.methods) 0;
    starts = first_standing;
    moves = moves_there;
    unended = λ p store cursors s standing. ap (λ x. all_ended x.threads) standing.is;
    rests = λ s is inputs number. subst (λ x. advanced program labels inputs x number ≡ record { state = x; event = None }) (sym is.1) refl;
    ended = λ s is. ap (λ (x : State). all_ended x.threads) is.1;
    flows_there = source_flows;
  }
