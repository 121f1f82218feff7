-- Plain code is one line: typing paths arrive at its pcs in order, and each flow node but Entry has one predecessor.
use Rattle.std.proofs.Common.{◌≡◌, ◌⊎◌, inl, inr, ℕ, ◌<◌, ◌≤◌, Bool, true, false, cond, Option, Some, None, IsSome, refl, sym, ap, subst, ◌∙◌, arith}
use Rattle.std.specs.Prelude.{option_and_then}
use Rattle.std.proofs.lemmas.Bool.{cases_lt, false≢true}
use Rattle.std.proofs.lemmas.Option.{none-some, same_Some, some_pair_parts}
use Rattle.jo_prog.specs.declared.operations.Operation.{Operation}
use Rattle.jo_prog.specs.declared.operations.Operation.TheVariants.{Constant, Load, Store, Add, Subtract, InvokeStatic, Return, Other}
use Rattle.jo_prog.specs.declared.program.Program.{Program}
use Rattle.jo_prog.specs.declared.program.Code.{Code}
use Rattle.jo_prog.specs.Program.{operation_at, callee_at}
use Rattle.jo_prog.specs.Typing.{Shape, After, shape_at_start, leads_on, shape_after, typed_by, typed_at, Arrives, at_start, by_step, IsTypedCode}
use Rattle.jo_prog.proofs.Decoding.{operation_at-next}
use Rattle.jo_prog.proofs.TypingPaths.{typed_by-next}
use Rattle.dependence.specs.declared.flow.Place.{Place}
use Rattle.dep_nodes.specs.declared.kinds.NodeKind.{NodeKind}
use Rattle.dep_nodes.specs.declared.kinds.NodeKind.TheVariants.{Entry, Exit, Instr, Call, RetVal}
use Rattle.jo_ids.specs.Path.{stays, goes}
use Rattle.jo_ids.proofs.PathLemmas.{path_more}
use Rattle.dependence.specs.Flow.{node_of, node_at, falls_through, FlowEdge, begins, skips, falls, leaves, calls, arrives, IsFlowNode, FlowPath, FlowReaches}
use Rattle.dependence.specs.Dependence.{one, more}

-- ---- the node at a pc

-- the pc of an instruction's or a call's node
abbrev pub pc_or_zero : NodeKind → ℕ
pc_or_zero (Instr pc) = pc
pc_or_zero (Call pc) = pc
pc_or_zero (RetVal pc) = pc
pc_or_zero _ = 0

node_pc : (pc : ℕ) (o : Option (Operation × ℕ)) → pc_or_zero (node_of pc o) ≡ pc
node_pc pc None = refl
node_pc pc (Some (Constant z, next)) = refl
node_pc pc (Some (Load k, next)) = refl
node_pc pc (Some (Store k, next)) = refl
node_pc pc (Some (Add, next)) = refl
node_pc pc (Some (Subtract, next)) = refl
node_pc pc (Some (InvokeStatic k, next)) = refl
node_pc pc (Some (Return, next)) = refl
node_pc pc (Some (Other, next)) = refl

-- an instruction, or a call
abbrev pub is_step : NodeKind → Bool
is_step (Instr pc) = true
is_step (Call pc) = true
is_step _ = false

node_is_step : (pc : ℕ) (o : Option (Operation × ℕ)) → is_step (node_of pc o) ≡ true
node_is_step pc None = refl
node_is_step pc (Some (Constant z, next)) = refl
node_is_step pc (Some (Load k, next)) = refl
node_is_step pc (Some (Store k, next)) = refl
node_is_step pc (Some (Add, next)) = refl
node_is_step pc (Some (Subtract, next)) = refl
node_is_step pc (Some (InvokeStatic k, next)) = refl
node_is_step pc (Some (Return, next)) = refl
node_is_step pc (Some (Other, next)) = refl

pub node_at_pc : (program : Program) (m pc : ℕ) (n : NodeKind) → node_at program m pc ≡ n → pc_or_zero n ≡ pc
node_at_pc program m pc n e = subst (λ k. pc_or_zero k ≡ pc) e (node_pc pc (operation_at program m pc))

pub node_at_step : (program : Program) (m pc : ℕ) (n : NodeKind) → node_at program m pc ≡ n → is_step n ≡ true
node_at_step program m pc n e = subst (λ k. is_step k ≡ true) e (node_is_step pc (operation_at program m pc))

pub node_at_one : (program : Program) (m a b : ℕ) → node_at program m a ≡ node_at program m b → a ≡ b
node_at_one program m a b e = sym (node_pc a (operation_at program m a)) ∙ ap pc_or_zero e ∙ node_pc b (operation_at program m b)

-- where control leaves what stands at a node: from a call by its result
abbrev pub out_of : NodeKind → NodeKind
out_of (Call pc) = RetVal pc
out_of k = k

-- ---- typing paths go on

pub some_is : {A : Type 0} (o : Option A) → IsSome o → (x : A) × (o ≡ Some x)
some_is None h = absurd (false≢true h)
some_is (Some x) h = (x, refl)

goes_on_to : (b : Bool) (next : ℕ) (s : Shape) (after : After) → cond {A = Option After} b (Some (record { next = Some next; shape = s })) None ≡ Some after → after.next ≡ Some next
goes_on_to true next s after e = ap (λ (a : After). a.next) (sym (same_Some _ after e))
goes_on_to false next s after e = absurd (none-some _ e)

leads_on_to : (code : Code) (operation : Operation) (next : ℕ) (s : Shape) (after : After) → (operation ≡ Return → ⊥) → leads_on code operation next s ≡ Some after → after.next ≡ Some next
leads_on_to code Return next s after other e = absurd (other refl)
leads_on_to code (Constant z) next s after other e = goes_on_to _ next s after e
leads_on_to code (Load k) next s after other e = goes_on_to _ next s after e
leads_on_to code (Store k) next s after other e = goes_on_to _ next s after e
leads_on_to code Add next s after other e = goes_on_to _ next s after e
leads_on_to code Subtract next s after other e = goes_on_to _ next s after e
leads_on_to code (InvokeStatic k) next s after other e = goes_on_to _ next s after e
leads_on_to code Other next s after other e = goes_on_to _ next s after e

led_to : (code : Code) (operation : Operation) (next : ℕ) (o : Option Shape) (after : After) → (operation ≡ Return → ⊥) → option_and_then (leads_on code operation next) o ≡ Some after → after.next ≡ Some next
led_to code operation next None after other e = absurd (none-some _ e)
led_to code operation next (Some s) after other e = leads_on_to code operation next s after other e

typed_by_leads : (program : Program) (code : Code) (callee : Option ℕ) (found : Option (Operation × ℕ)) (s : Shape) (after : After) (operation : Operation) (next : ℕ) → found ≡ Some (operation, next) → (operation ≡ Return → ⊥) → typed_by program code callee found s ≡ Some after → after.next ≡ Some next
typed_by_leads program code callee None s after operation next e other h = absurd (none-some _ e)
typed_by_leads program code callee (Some (found, to)) s after operation next e other h =
    let parts = some_pair_parts found operation to next e in
    led_to code found to (shape_after program callee found s) after (λ is. other (sym parts.0 ∙ is)) h ∙ ap (λ n. Some n) parts.1

-- no path goes on from a return
return_ends : (program : Program) (code : Code) (callee : Option ℕ) (found : Option (Operation × ℕ)) (s : Shape) (after : After) (next then : ℕ) → found ≡ Some (Return, next) → typed_by program code callee found s ≡ Some after → after.next ≡ Some then → ⊥
return_ends program code callee None s after next then e h on = none-some _ e
return_ends program code callee (Some (found, to)) s after next then e h on =
    let is : found ≡ Return = (some_pair_parts found Return to next e).0 in
    let h' = subst (λ o. typed_by program code callee (Some (o, to)) s ≡ Some after) is h in
    none-some then (ap (λ (a : After). a.next) (same_Some _ after h') ∙ on)

-- what is on the line, by its kind
abbrev pub LineAt : Program → ℕ → Code → NodeKind → Type 0
LineAt program m code Entry = Unit {0}
LineAt program m code Exit = Unit {0}
LineAt program m code (Instr p) = (s : Shape) × Arrives program m code p s × (node_at program m p ≡ Instr p)
LineAt program m code (Call p) = (s : Shape) × Arrives program m code p s × (node_at program m p ≡ Call p)
LineAt program m code (RetVal p) = (s : Shape) × Arrives program m code p s × (node_at program m p ≡ Call p)
LineAt program m code _ = ⊥

pub flow_on : (program : Program) (m : ℕ) (a b c : NodeKind) → FlowPath program m a b → FlowEdge program m b c → FlowPath program m a c
flow_on program m a b c path e = path_more path e

pub reaches_flow : (program : Program) (m : ℕ) (v : Place) (d n : NodeKind) → IsFlowNode program m d → FlowReaches program m v d n → IsFlowNode program m n
reaches_flow program m v d n flow (one x e w) = path_more flow e
reaches_flow program m v d n flow (more x y r not e) = path_more (reaches_flow program m v d x flow r) e

module _ (program : Program) (m : ℕ) (code : Code) (typed : IsTypedCode program m code) where
  pub arrive_next : (p next : ℕ) (s : Shape) (operation : Operation) → Arrives program m code p s → operation_at program m p ≡ Some (operation, next) → (operation ≡ Return → ⊥) → (t : Shape) × Arrives program m code next t
  arrive_next p next s operation arr found other =
      let after = some_is (typed_at program m code p s) (typed.no_fault p s arr) in
      let on = typed_by_leads program code (callee_at program m p) (operation_at program m p) s after.0 operation next found other after.1 in
      (after.0.shape, by_step p next s after.0 arr after.1 on)

  line_at_found : (p : ℕ) (s : Shape) → Arrives program m code p s → (o : Option (Operation × ℕ)) → operation_at program m p ≡ o → LineAt program m code (node_of p o)
  line_at_found p s arr None e = (s, arr, ap (node_of p) e)
  line_at_found p s arr (Some (Constant z, next)) e = (s, arr, ap (node_of p) e)
  line_at_found p s arr (Some (Load k, next)) e = (s, arr, ap (node_of p) e)
  line_at_found p s arr (Some (Store k, next)) e = (s, arr, ap (node_of p) e)
  line_at_found p s arr (Some (Add, next)) e = (s, arr, ap (node_of p) e)
  line_at_found p s arr (Some (Subtract, next)) e = (s, arr, ap (node_of p) e)
  line_at_found p s arr (Some (InvokeStatic k, next)) e = (s, arr, ap (node_of p) e)
  line_at_found p s arr (Some (Return, next)) e = (s, arr, ap (node_of p) e)
  line_at_found p s arr (Some (Other, next)) e = (s, arr, ap (node_of p) e)

  pub line_at : (p : ℕ) (s : Shape) → Arrives program m code p s → (n : NodeKind) → node_at program m p ≡ n → LineAt program m code n
  line_at p s arr n e = subst (λ k. LineAt program m code k) e (line_at_found p s arr (operation_at program m p) refl)

  line_step : (a b : NodeKind) → LineAt program m code a → FlowEdge program m a b → LineAt program m code b
  line_step a b line (begins n e) = line_at 0 (shape_at_start code) at_start n e
  line_step a b line skips = tt
  line_step a b line (falls p next operation n found through e) =
      let on = arrive_next p next line.0 operation line.1 found (λ is. false≢true (subst (λ o. falls_through o ≡ true) is through)) in
      line_at next on.0 on.1 n e
  line_step a b line (leaves p next found) = tt
  line_step a b line (calls p next k found native) = line
  line_step a b line (arrives p next k n found native e) =
      let on = arrive_next p next line.0 (InvokeStatic k) line.1 found (λ is. cc) in
      line_at next on.0 on.1 n e

  path_line : (a b : NodeKind) → LineAt program m code a → FlowPath program m a b → LineAt program m code b
  path_line a b line (stays n) = line
  path_line a b line (goes x y z e path) = path_line y z (line_step x y line e) path

  -- flow nodes are on the line
  pub flow_line : (n : NodeKind) → IsFlowNode program m n → LineAt program m code n
  flow_line n flow = path_line Entry n tt flow

-- the paths that arrive below a pc go on, and not beyond it
abbrev pub IsBehind : Program → ℕ → Code → ℕ → Type 0
IsBehind program m code pc = (p : ℕ) (s : Shape) → Arrives program m code p s → p < pc → (operation : Operation) × (next : ℕ) × (operation_at program m p ≡ Some (operation, next)) × (operation ≡ Return → ⊥) × (next ≤ pc)

-- an instruction of the line
module _ (program : Program) (m : ℕ) (code : Code) (typed : IsTypedCode program m code) (pc next : ℕ) (operation : Operation) (found : operation_at program m pc ≡ Some (operation, next)) (behind : IsBehind program m code pc) where
  pub up : pc < next
  up = operation_at-next program m pc next operation found

  -- no path arrives between the pc and the next
  pub between : (p : ℕ) (t : Shape) → Arrives program m code p t → (p ≤ pc) ⊎ ((next ≤ p) × (operation ≡ Return → ⊥))
  between p t at_start = inl (omega arith)
  between p t (by_step q r s after arr e on) =
      let step = typed_by-next program code (callee_at program m q) (operation_at program m q) s after r e on in
      let rises : q < r = operation_at-next program m q r step.0 step.1 in
      elim (between q s arr) [
        | inl up_to ↦ elim (cases_lt q pc) [
          | inl below ↦
              let h = behind q s arr below in
              let same = (some_pair_parts step.0 h.0 r h.1 (sym step.1 ∙ h.2)).1 in
              inl (omega (arith, h.4))
          | inr past ↦
              let here : q ≡ pc = omega arith in
              let at : operation_at program m q ≡ Some (operation, next) = ap (operation_at program m) here ∙ found in
              let same = some_pair_parts step.0 operation r next (sym step.1 ∙ at) in
              inr (
                omega (arith, same.1),
                (λ is. return_ends program code (callee_at program m q) (operation_at program m q) s after next r (at ∙ ap (λ o. Some (o, next)) is) e on),
              )
        ]
        | inr beyond ↦ inr (omega (arith, beyond.0), beyond.1)
      ]

  pub behind_next : (operation ≡ Return → ⊥) → IsBehind program m code next
  behind_next other p s arr below = elim (between p s arr) [
    | inl up_to ↦ elim (cases_lt p pc) [
      | inl before ↦ let h = behind p s arr before in let rises = up in (h.0, h.1, h.2, h.3, omega (arith, h.4))
      | inr past ↦ let here : p ≡ pc = omega arith in (operation, next, ap (operation_at program m) here ∙ found, other, omega arith)
    ]
    | inr beyond ↦ absurd (omega (arith, beyond.0))
  ]

  -- a flow node on the line from which control goes on to the next pc is the one at this pc
  here : (p : ℕ) (s : Shape) (o : Operation) (n : ℕ) → Arrives program m code p s → operation_at program m p ≡ Some (o, n) → n ≡ next → p ≡ pc
  here p s o n arr at same =
      let rises = operation_at-next program m p n o at in
      elim (between p s arr) [
        | inl up_to ↦ elim (cases_lt p pc) [
          | inl before ↦ let h = behind p s arr before in let is = (some_pair_parts o h.0 n h.1 (sym at ∙ h.2)).1 in let rises' = up in absurd (omega (arith, h.4))
          | inr past ↦ omega arith
        ]
        | inr beyond ↦ absurd (omega (arith, beyond.0))
      ]

  predecessor_by : (x n : NodeKind) → FlowEdge program m x n → LineAt program m code x → n ≡ node_at program m next → x ≡ out_of (node_at program m pc)
  predecessor_by x n (begins y e) line is = let rises = up in absurd (omega (arith, node_at_one program m 0 next (e ∙ is)))
  predecessor_by x n skips line is = absurd (false≢true (node_at_step program m next Exit (sym is)))
  predecessor_by x n (falls p to o y at through e) line is =
      let p_here = here p line.0 o to line.1 at (node_at_one program m to next (e ∙ is)) in
      sym (ap out_of (ap (node_at program m) (sym p_here) ∙ line.2))
  predecessor_by x n (leaves p to at) line is = absurd (false≢true (node_at_step program m next Exit (sym is)))
  predecessor_by x n (calls p to k at native) line is = absurd (false≢true (node_at_step program m next (RetVal p) (sym is)))
  predecessor_by x n (arrives p to k y at native e) line is =
      let p_here = here p line.0 (InvokeStatic k) to line.1 at (node_at_one program m to next (e ∙ is)) in
      sym (ap out_of (ap (node_at program m) (sym p_here) ∙ line.2))

  -- the predecessor of the next node
  pub predecessor : (x : NodeKind) → IsFlowNode program m x → FlowEdge program m x (node_at program m next) → x ≡ out_of (node_at program m pc)
  predecessor x flow e = predecessor_by x (node_at program m next) e (flow_line program m code typed x flow) refl
