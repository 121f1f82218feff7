-- Typing paths: code has no jumps here, so a path rises, and it arrives at each pc with one shape.
use Rattle.std.proofs.Common.{◌≡◌, ℕ, suc, ◌<◌, ◌≤◌, Bool, true, false, ◌&&◌, nat_lt, nat_le, cond, length, Option, Some, None, refl, sym, ap, ◌∙◌, subst, inl, inr, arith}
use Rattle.std.specs.Prelude.{IsSome, is_some, option_and_then}
use Rattle.std.proofs.lemmas.Bool.{cases_lt, cases_order, cond-true, and_from, lt-ltb, le-leb}
use Rattle.std.proofs.lemmas.Option.{none-some, same_Some}
use Rattle.jo_prog.specs.declared.operations.Operation.{Operation}
use Rattle.jo_prog.specs.declared.operations.Operation.TheVariants.{Constant, Load, Store, Add, Subtract, InvokeStatic, Return, Other}
use Rattle.jo_prog.specs.declared.program.Program.{Program}
use Rattle.jo_prog.specs.declared.program.Code.{Code}
use Rattle.jo_prog.specs.Program.{operation_at, callee_at}
use Rattle.jo_prog.specs.Typing.{Shape, After, shape_at_start, goes_to, shape_after, leads_on, typed_by, typed_at, Arrives, at_start, by_step, IsTypedCode, HasHeight}
use Rattle.jo_prog.proofs.Decoding.{operation_at-next}

-- ---- a step rises

-- a way on leads to the next pc
goes_to-next : (b : Bool) (next : ℕ) (s : Shape) (after : After) (then : ℕ) → cond {A = Option After} b (Some (record { next = Some next; shape = s })) None ≡ Some after → after.next ≡ Some then → then ≡ next
goes_to-next true next s after then e f =
    sym (same_Some next then (ap (λ (a : After). a.next) (same_Some _ after e) ∙ f))
goes_to-next false next s after then e f = absurd (none-some _ e)

leads_on-next : (code : Code) (operation : Operation) (next : ℕ) (s : Shape) (after : After) (then : ℕ) → leads_on code operation next s ≡ Some after → after.next ≡ Some then → then ≡ next
leads_on-next code Return next s after then e f =
    absurd (none-some then (ap (λ (a : After). a.next) (same_Some _ after e) ∙ f))
leads_on-next code (Constant z) next s after then e f = goes_to-next _ next s after then e f
leads_on-next code (Load k) next s after then e f = goes_to-next _ next s after then e f
leads_on-next code (Store k) next s after then e f = goes_to-next _ next s after then e f
leads_on-next code Add next s after then e f = goes_to-next _ next s after then e f
leads_on-next code Subtract next s after then e f = goes_to-next _ next s after then e f
leads_on-next code (InvokeStatic k) next s after then e f = goes_to-next _ next s after then e f
leads_on-next code Other next s after then e f = goes_to-next _ next s after then e f

led-next : (code : Code) (operation : Operation) (next : ℕ) (o : Option Shape) (after : After) (then : ℕ) → option_and_then (leads_on code operation next) o ≡ Some after → after.next ≡ Some then → then ≡ next
led-next code operation next None after then e f = absurd (none-some _ e)
led-next code operation next (Some s) after then e f = leads_on-next code operation next s after then e f

pub typed_by-next : (program : Program) (code : Code) (callee : Option ℕ) (found : Option (Operation × ℕ)) (s : Shape) (after : After) (then : ℕ) → typed_by program code callee found s ≡ Some after → after.next ≡ Some then → (operation : Operation) × (found ≡ Some (operation, then))
typed_by-next program code callee None s after then e f = absurd (none-some _ e)
typed_by-next program code callee (Some (operation, next)) s after then e f =
    (operation, ap (λ (n : ℕ). Some (operation, n)) (sym (led-next code operation next (shape_after program callee operation s) after then e f)))

module _ (program : Program) (m : ℕ) (code : Code) where
  -- a path's step rises
  pub step-rises : (pc : ℕ) (s : Shape) (after : After) (next : ℕ) → typed_at program m code pc s ≡ Some after → after.next ≡ Some next → pc < next
  step-rises pc s after next e f =
      let found = typed_by-next program code (callee_at program m pc) (operation_at program m pc) s after next e f in
      operation_at-next program m pc next found.0 found.1

  -- a path of so many steps
  data Path : ℕ → ℕ → Shape → Type 0 where
    start : Path 0 0 (shape_at_start code)
    on : (k pc next : ℕ) (s : Shape) (after : After) → Path k pc s → typed_at program m code pc s ≡ Some after → after.next ≡ Some next → Path (suc k) next after.shape

  path_from_arrival : {pc : ℕ} {s : Shape} → Arrives program m code pc s → (k : ℕ) × Path k pc s
  path_from_arrival at_start = (0, start)
  path_from_arrival (by_step pc next s after h e f) =
      let p = path_from_arrival h in (suc p.0, on p.0 pc next s after p.1 e f)

-- a step is a function
determined : (f : ℕ → Shape → Option After) (pc pd next then : ℕ) (s t : Shape) (a b : After) → pc ≡ pd → s ≡ t → f pc s ≡ Some a → f pd t ≡ Some b → a.next ≡ Some next → b.next ≡ Some then → (next ≡ then) × (a.shape ≡ b.shape)
determined f pc pd next then s t a b e g h i j k =
    let same : a ≡ b = cc in
    (same_Some next then (sym j ∙ ap (λ (x : After). x.next) same ∙ k), ap (λ (x : After). x.shape) same)

moved : (f : ℕ → Shape → Option After) (pc pd : ℕ) (s t : Shape) (a : After) → pc ≡ pd → s ≡ t → f pd t ≡ Some a → f pc s ≡ Some a
moved f pc pd s t a e g h = cc

is_some_from : (o : Option After) (a : After) → o ≡ Some a → IsSome o
is_some_from o a e = ap is_some e

module _ (program : Program) (m : ℕ) (code : Code) where
  -- paths of one length are one
  path_same : {k pc pd : ℕ} {s t : Shape} → Path program m code k pc s → Path program m code k pd t → (pc ≡ pd) × (s ≡ t)
  path_same start start = (refl, refl)
  path_same (on k pc next s after p e f) (on l pd then t other q g h) =
      let same = path_same p q in
      determined (typed_at program m code) pc pd next then s t after other same.0 same.1 e g f h

  -- a longer path goes on from where a shorter one arrives
  pub record GoesOn (pc : ℕ) (s : Shape) (last : ℕ) : Type 0 where
    pub after : After
    pub next : ℕ
    pub typed : typed_at program m code pc s ≡ Some after
    pub leads : after.next ≡ Some next
    pub rises : pc < last

  path_before : {j k pc pd : ℕ} {s t : Shape} → Path program m code j pd t → Path program m code k pc s → k < j → GoesOn pc s pd
  path_before start p below = absurd (omega arith)
  path_before {k = k} {pc = pc} {s = s} (on j q next r after path e f) p below =
      elim (cases_lt k j) [
        | inl less ↦
            let earlier = path_before path p less in
            let up = step-rises program m code q r after next e f in
            record { after = earlier.after; next = earlier.next; typed = earlier.typed; leads = earlier.leads; rises = omega (arith, earlier.rises, up) }
        | inr more ↦
            let same_length : k ≡ j = omega arith in
            let same = path_same (subst (λ (n : ℕ). Path program m code n pc s) same_length p) path in
            let up = step-rises program m code q r after next e f in
            record { after = after; next = next; typed = moved (typed_at program m code) pc q s r after same.0 same.1 e; leads = f; rises = omega (arith, same.0, up) }
      ]

  -- paths that arrive at one pc have one shape
  path_one_shape : {j k pc : ℕ} {s t : Shape} → Path program m code j pc s → Path program m code k pc t → s ≡ t
  path_one_shape {j = j} {k = k} {pc = pc} {s = s} {t = t} p q =
      elim (cases_order j k) [
        | inl same ↦ (path_same (subst (λ (n : ℕ). Path program m code n pc s) same p) q).1
        | inr other ↦
            elim other [
              | inl less ↦ absurd (omega (arith, (path_before q p less).rises))
              | inr more ↦ absurd (omega (arith, (path_before p q more).rises))
            ]
      ]

  -- typing paths arrive at each pc with one shape
  pub arrivals_same : {pc : ℕ} {s t : Shape} → Arrives program m code pc s → Arrives program m code pc t → s ≡ t
  arrivals_same h i = path_one_shape (path_from_arrival program m code h).1 (path_from_arrival program m code i).1

  pub one_height : {pc : ℕ} {s t : Shape} → Arrives program m code pc s → Arrives program m code pc t → length s.stack ≡ length t.stack
  one_height h i = ap (λ (x : Shape). length x.stack) (arrivals_same h i)

  path_typed : {j k pc pd : ℕ} {s t : Shape} (after : After) → Path program m code j pc s → typed_at program m code pc s ≡ Some after → after.next ≡ None → Path program m code k pd t → IsSome (typed_at program m code pd t)
  path_typed {j = j} {k = k} {pc = pc} {pd = pd} {s = s} {t = t} after p e f q =
      elim (cases_order j k) [
        | inl same ↦
            let one = path_same (subst (λ (n : ℕ). Path program m code n pc s) same p) q in
            is_some_from _ after (moved (typed_at program m code) pd pc t s after (sym one.0) (sym one.1) e)
        | inr other ↦
            elim other [
              | inl less ↦
                  let on_way = path_before q p less in
                  absurd (none-some on_way.next (sym f ∙ ap (λ (a : After). a.next) (same_Some after on_way.after (sym e ∙ on_way.typed)) ∙ on_way.leads))
              | inr more ↦
                  let on_way = path_before p q more in is_some_from _ on_way.after on_way.typed
            ]
      ]

  -- a path that ends without a fault is all there is, so the code is typed
  pub typed_from_end : {pc : ℕ} {s : Shape} (after : After) → Arrives program m code pc s → typed_at program m code pc s ≡ Some after → after.next ≡ None → IsTypedCode program m code
  typed_from_end after h e f =
      record {
        no_fault = λ pc s i. path_typed after (path_from_arrival program m code h).1 e f (path_from_arrival program m code i).1;
        one_height = λ pc s t i k. one_height i k;
      }

-- the height at a pc is one
pub heights_same : (program : Program) (m pc h k : ℕ) → HasHeight program m pc h → HasHeight program m pc k → h ≡ k
heights_same program m pc h k (code, s, found, arrives, is) (other, t, find, arrive, at) =
    let one : code ≡ other = same_Some code other (sym found ∙ find) in
    let arrived = subst (λ (c : Code). Arrives program m c pc s) one arrives in
    sym is ∙ one_height program m other arrived arrive ∙ at

-- ---- a step, from what is found at its pc

module _ (program : Program) (m : ℕ) (code : Code) (pc next : ℕ) (operation : Operation) (callee : Option ℕ) (s : Shape)
    (found : operation_at program m pc ≡ Some (operation, next)) (named : callee_at program m pc ≡ callee) where
  typed_at-found : typed_at program m code pc s ≡ option_and_then (leads_on code operation next) (shape_after program callee operation s)
  typed_at-found =
      ap (λ (o : Option (Operation × ℕ)). typed_by program code (callee_at program m pc) o s) found
      ∙ ap (λ (c : Option ℕ). option_and_then (leads_on code operation next) (shape_after program c operation s)) named

  pub typed_at-leads : (t : Shape) → shape_after program callee operation s ≡ Some t → typed_at program m code pc s ≡ leads_on code operation next t
  typed_at-leads t e = typed_at-found ∙ ap (λ (o : Option Shape). option_and_then (leads_on code operation next) o) e

pub leads_on-return : (code : Code) (operation : Operation) (next : ℕ) (t : Shape) → operation ≡ Return → leads_on code operation next t ≡ Some (record { next = None; shape = t })
leads_on-return code operation next t e = ap (λ (o : Operation). leads_on code o next t) e

leads_on-goes : (code : Code) (operation : Operation) (next : ℕ) (t : Shape) → (operation ≡ Return → ⊥) → leads_on code operation next t ≡ goes_to code next t
leads_on-goes code Return next t other = absurd (other refl)
leads_on-goes code (Constant z) next t other = refl
leads_on-goes code (Load k) next t other = refl
leads_on-goes code (Store k) next t other = refl
leads_on-goes code Add next t other = refl
leads_on-goes code Subtract next t other = refl
leads_on-goes code (InvokeStatic k) next t other = refl
leads_on-goes code Other next t other = refl

pub leads_on-next_pc : (code : Code) (operation : Operation) (next : ℕ) (t : Shape) → (operation ≡ Return → ⊥) → next < length code.bytes → length t.stack ≤ code.max_stack → leads_on code operation next t ≡ Some (record { next = Some next; shape = t })
leads_on-next_pc code operation next t other inside low =
    leads_on-goes code operation next t other
    ∙ cond-true (nat_lt next (length code.bytes) && nat_le (length t.stack) code.max_stack) _ None (and_from _ _ (lt-ltb _ _ inside) (le-leb _ _ low))
