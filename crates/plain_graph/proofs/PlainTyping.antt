-- What typing says of the heights, the locals and the native methods of plain code.
use Rattle.std.proofs.Common.{◌≡◌, ◌⊎◌, inl, inr, ℕ, zero, suc, ◌+◌, ◌-◌, ◌<◌, ◌≤◌, Bool, true, false, ◌&&◌, cond, List, [], ◌∷◌, length, replicate, set, Option, Some, None, Contains, refl, sym, ap, subst, ◌∙◌, arith, length-append, length-set}
use Rattle.std.specs.Prelude.{◌==◌, option_map, option_and_then, slice_get, nat_lt, nat_le}
use Rattle.std.specs.List.{AllByRecursion}
use Rattle.std.proofs.lemmas.Bool.{false≢true, and_parts, ltb-true, leb-true, eqb-true}
use Rattle.std.proofs.lemmas.Option.{none-some, same_Some, some_pair_parts}
use Rattle.std.proofs.lemmas.List.{length-replicate}
use Rattle.jo_prog.specs.declared.operations.Operation.{Operation}
use Rattle.jo_prog.specs.declared.operations.Operation.TheVariants.{Constant, Load, Store, Add, Subtract, InvokeStatic, Return, Other}
use Rattle.jo_prog.specs.declared.program.Program.{Program}
use Rattle.jo_prog.specs.declared.program.Method.{Method}
use Rattle.jo_prog.specs.declared.program.Code.{Code}
use Rattle.jo_prog.specs.declared.labels.Labels.{Labels}
use Rattle.jo_prog.specs.declared.labels.Label.{Label}
use Rattle.jo_prog.specs.declared.labels.Label.TheVariants.{Source, Sink, Release}
use Rattle.jo_prog.specs.Labels.{label_of, label_among}
use Rattle.jo_prog.specs.Program.{operation_at, callee_at}
use Rattle.jo_prog.specs.PlainCode.{IsLabelledNative, desc_for, calls_labelled, is_source_or_sink}
use Rattle.jo_prog.specs.Typing.{Kind, Int, Null, Ref, Unset, Shape, After, with_stack, pop_ints, push_ints, exchange, exchange_by, loaded, stored, call_effect, call_effect_of, leads_on, shape_after, typed_by, typed_at, Arrives, at_start, by_step, IsTypedCode}
use Rattle.dependence.specs.declared.flow.Place.{Place}
use Rattle.dependence.specs.declared.flow.Place.TheVariants.{Local, Stack}
use Rattle.plain_graph.specs.declared.sdg.Definitions.{Definitions}
use Rattle.dependence.specs.Flow.{writes_of, calls_native, is_native_method, arguments_at, results_at}
use Rattle.dependence.specs.Graph.{is_source, is_sink}
use Rattle.plain_graph.specs.Building.{HasPlace, height_after, is_call}
use Rattle.plain_graph.proofs.PlainLine.{some_is}
use Rattle.plain_graph.proofs.NodeLists.{contains_one, contains_none}

-- ---- the stack

pop-length : (n : ℕ) (stack rest : List Kind) → pop_ints n stack ≡ Some rest → n + length rest ≡ length stack
pop-length zero stack rest e = let same : stack ≡ rest = same_Some stack rest e in let l = ap length same in omega arith
pop-length (suc n) [] rest e = absurd (none-some rest e)
pop-length (suc n) (Int ∷ stack) rest e = let l = pop-length n stack rest e in omega arith
pop-length (suc n) (Null ∷ stack) rest e = absurd (none-some rest e)
pop-length (suc n) (Ref type ∷ stack) rest e = absurd (none-some rest e)
pop-length (suc n) (Unset ∷ stack) rest e = absurd (none-some rest e)

-- a step's shape has this height and as many locals
record HasSizes (s t : Shape) (pops pushes : ℕ) : Type 0 where
  pub there : pops ≤ length s.stack
  pub height : length t.stack ≡ length s.stack - pops + pushes
  pub locals : length t.locals ≡ length s.locals

exchanged : (pops pushes : ℕ) (s t : Shape) (o : Option (List Kind)) → pop_ints pops s.stack ≡ o → option_map (λ stack. with_stack s (push_ints pushes stack)) o ≡ Some t → HasSizes s t pops pushes
exchanged pops pushes s t None popped e = absurd (none-some t e)
exchanged pops pushes s t (Some rest) popped e =
    let is : with_stack s (push_ints pushes rest) ≡ t = same_Some _ t e in
    let high : length t.stack ≡ length (push_ints pushes rest) = ap (λ (x : Shape). length x.stack) (sym is) in
    let l = length-append (replicate pushes Int) rest in
    let r = length-replicate pushes Int in
    let q = pop-length pops s.stack rest popped in
    record { there = omega arith; height = omega arith; locals = ap (λ (x : Shape). length x.locals) (sym is) }

exchange-sizes : (pops pushes : ℕ) (s t : Shape) → exchange pops pushes s ≡ Some t → HasSizes s t pops pushes
exchange-sizes pops pushes s t e = exchanged pops pushes s t (pop_ints pops s.stack) refl e

loaded-sizes : (o : Option Kind) (s t : Shape) → loaded o s ≡ Some t → HasSizes s t 0 1
loaded-sizes None s t e = absurd (none-some t e)
loaded-sizes (Some Int) s t e =
    let is : with_stack s (Int ∷ s.stack) ≡ t = same_Some _ t e in
    let high : length t.stack ≡ suc (length s.stack) = ap (λ (x : Shape). length x.stack) (sym is) in
    record { there = omega arith; height = omega arith; locals = ap (λ (x : Shape). length x.locals) (sym is) }
loaded-sizes (Some Null) s t e = absurd (none-some t e)
loaded-sizes (Some (Ref type)) s t e = absurd (none-some t e)
loaded-sizes (Some Unset) s t e = absurd (none-some t e)

stored_in : (b : Bool) (k : ℕ) (s t : Shape) (rest : List Kind) → nat_lt k (length s.locals) ≡ b → cond {A = Option Shape} b (Some (record { locals = set s.locals k Int; stack = rest })) None ≡ Some t → suc (length rest) ≡ length s.stack → (k < length s.locals) × HasSizes s t 1 0
stored_in false k s t rest within e l = absurd (none-some t e)
stored_in true k s t rest within e l =
    let is = same_Some _ t e in
    let high : length t.stack ≡ length rest = ap (λ (x : Shape). length x.stack) (sym is) in
    (ltb-true k (length s.locals) within, record { there = omega arith; height = omega arith; locals = ap (λ (x : Shape). length x.locals) (sym is) ∙ length-set s.locals k Int })

stored-sizes : (k : ℕ) (s t : Shape) (stack : List Kind) → s.stack ≡ stack → stored k s stack ≡ Some t → (k < length s.locals) × HasSizes s t 1 0
stored-sizes k s t [] is e = absurd (none-some t e)
stored-sizes k s t (Int ∷ rest) is e = stored_in (nat_lt k (length s.locals)) k s t rest refl e (sym (ap length is))
stored-sizes k s t (Null ∷ rest) is e = absurd (none-some t e)
stored-sizes k s t (Ref type ∷ rest) is e = absurd (none-some t e)
stored-sizes k s t (Unset ∷ rest) is e = absurd (none-some t e)

effect-sizes : (o : Option (ℕ × ℕ)) (s t : Shape) (pops pushes : ℕ) → o ≡ Some (pops, pushes) → exchange_by o s ≡ Some t → HasSizes s t pops pushes
effect-sizes None s t pops pushes is e = absurd (none-some _ is)
effect-sizes (Some effect) s t pops pushes is e =
    let same = some_pair_parts effect.0 pops effect.1 pushes is in
    subst (λ p. HasSizes s t p pushes) same.0 (subst (λ q. HasSizes s t effect.0 q) same.1 (exchange-sizes effect.0 effect.1 s t e))

exchange_by-locals : (o : Option (ℕ × ℕ)) (s t : Shape) → exchange_by o s ≡ Some t → length t.locals ≡ length s.locals
exchange_by-locals None s t e = absurd (none-some t e)
exchange_by-locals (Some effect) s t e = (exchange-sizes effect.0 effect.1 s t e).locals

-- the locals stay
locals_after : (program : Program) (callee : Option ℕ) (operation : Operation) (s t : Shape) → shape_after program callee operation s ≡ Some t → length t.locals ≡ length s.locals
locals_after program callee (Constant z) s t e = (exchange-sizes 0 1 s t e).locals
locals_after program callee (Load k) s t e = (loaded-sizes (slice_get s.locals k) s t e).locals
locals_after program callee (Store k) s t e = (stored-sizes k s t s.stack refl e).1.locals
locals_after program callee Add s t e = (exchange-sizes 2 1 s t e).locals
locals_after program callee Subtract s t e = (exchange-sizes 2 1 s t e).locals
locals_after program callee (InvokeStatic k) s t e = exchange_by-locals (call_effect_of program callee) s t e
locals_after program callee Return s t e = ap (λ (x : Shape). length x.locals) (sym (same_Some s t e))
locals_after program callee Other s t e = absurd (none-some t e)

-- the height behind an operation that is no call
pub height_by : (program : Program) (callee : Option ℕ) (operation : Operation) (s t : Shape) → is_call operation ≡ false → shape_after program callee operation s ≡ Some t → length t.stack ≡ height_after operation (length s.stack)
height_by program callee (Constant z) s t plain e = let h = exchange-sizes 0 1 s t e in let q = h.height in omega arith
height_by program callee (Load k) s t plain e = let h = loaded-sizes (slice_get s.locals k) s t e in let q = h.height in omega arith
height_by program callee (Store k) s t plain e = let h = (stored-sizes k s t s.stack refl e).1 in let q = h.height in omega arith
height_by program callee Add s t plain e = let h = exchange-sizes 2 1 s t e in let q = h.height in let r = h.there in omega arith
height_by program callee Subtract s t plain e = let h = exchange-sizes 2 1 s t e in let q = h.height in let r = h.there in omega arith
height_by program callee (InvokeStatic k) s t plain e = absurd (false≢true (sym plain))
height_by program callee Return s t plain e = ap (λ (x : Shape). length x.stack) (sym (same_Some s t e))
height_by program callee Other s t plain e = absurd (none-some t e)

-- what an operation writes stands in the tables, where they are as long as the locals and hold the stack behind it
pub places_by : (program : Program) (callee : Option ℕ) (operation : Operation) (s t : Shape) (definitions : Definitions) → shape_after program callee operation s ≡ Some t → (operation ≡ Return → ⊥)
    → length definitions.locals.items ≡ length s.locals → length t.stack ≤ length definitions.stack.items → (v : Place) → Contains (writes_of operation (length s.stack)) v → HasPlace definitions v
places_by program callee (Constant z) s t definitions e other l high v is =
    subst (λ w. HasPlace definitions w) (contains_one (Stack (length s.stack)) v is) (let h = exchange-sizes 0 1 s t e in let q = h.height in let r : length s.stack < length definitions.stack.items = omega arith in r)
places_by program callee (Load k) s t definitions e other l high v is =
    subst (λ w. HasPlace definitions w) (contains_one (Stack (length s.stack)) v is) (let h = loaded-sizes (slice_get s.locals k) s t e in let q = h.height in let r : length s.stack < length definitions.stack.items = omega arith in r)
places_by program callee (Store k) s t definitions e other l high v is =
    subst (λ w. HasPlace definitions w) (contains_one (Local k) v is) (let h = stored-sizes k s t s.stack refl e in let q = h.0 in let r : k < length definitions.locals.items = omega arith in r)
places_by program callee Add s t definitions e other l high v is =
    subst (λ w. HasPlace definitions w) (contains_one (Stack (length s.stack - 2)) v is) (let h = exchange-sizes 2 1 s t e in let q = h.height in let there = h.there in let r : length s.stack - 2 < length definitions.stack.items = omega arith in r)
places_by program callee Subtract s t definitions e other l high v is =
    subst (λ w. HasPlace definitions w) (contains_one (Stack (length s.stack - 2)) v is) (let h = exchange-sizes 2 1 s t e in let q = h.height in let there = h.there in let r : length s.stack - 2 < length definitions.stack.items = omega arith in r)
places_by program callee (InvokeStatic k) s t definitions e other l high v is = absurd (contains_none v is)
places_by program callee Return s t definitions e other l high v is = absurd (contains_none v is)
places_by program callee Other s t definitions e other l high v is = absurd (contains_none v is)

-- ---- a step of a typing path

-- where a path goes on, with which shape
pub record GoesOnTo (program : Program) (m : ℕ) (code : Code) (pc next : ℕ) (operation : Operation) (s : Shape) : Type 0 where
  pub shape : Shape
  pub made : shape_after program (callee_at program m pc) operation s ≡ Some shape
  pub inside : next < length code.bytes
  pub high : length shape.stack ≤ code.max_stack
  pub arrives : Arrives program m code next shape

gone : (code : Code) (b : Bool) (next : ℕ) (t : Shape) (after : After) → (nat_lt next (length code.bytes) && nat_le (length t.stack) code.max_stack) ≡ b → cond {A = Option After} b (Some (record { next = Some next; shape = t })) None ≡ Some after
    → (next < length code.bytes) × (length t.stack ≤ code.max_stack) × (after ≡ record { next = Some next; shape = t })
gone code false next t after is e = absurd (none-some after e)
gone code true next t after is e =
    let both = and_parts (nat_lt next (length code.bytes)) (nat_le (length t.stack) code.max_stack) is in
    (ltb-true next (length code.bytes) both.0, leb-true (length t.stack) code.max_stack both.1, sym (same_Some _ after e))

leads_gone : (code : Code) (operation : Operation) (next : ℕ) (t : Shape) (after : After) → (operation ≡ Return → ⊥) → leads_on code operation next t ≡ Some after
    → (next < length code.bytes) × (length t.stack ≤ code.max_stack) × (after ≡ record { next = Some next; shape = t })
leads_gone code (Constant z) next t after other e = gone code _ next t after refl e
leads_gone code (Load k) next t after other e = gone code _ next t after refl e
leads_gone code (Store k) next t after other e = gone code _ next t after refl e
leads_gone code Add next t after other e = gone code _ next t after refl e
leads_gone code Subtract next t after other e = gone code _ next t after refl e
leads_gone code (InvokeStatic k) next t after other e = gone code _ next t after refl e
leads_gone code Return next t after other e = absurd (other refl)
leads_gone code Other next t after other e = gone code _ next t after refl e

led_gone : (code : Code) (operation : Operation) (next : ℕ) (o : Option Shape) (after : After) → option_and_then (leads_on code operation next) o ≡ Some after → (t : Shape) × (o ≡ Some t) × (leads_on code operation next t ≡ Some after)
led_gone code operation next None after e = absurd (none-some after e)
led_gone code operation next (Some t) after e = (t, refl, e)

typed_made : (program : Program) (code : Code) (callee : Option ℕ) (found : Option (Operation × ℕ)) (operation : Operation) (next : ℕ) (s : Shape) (after : After) → found ≡ Some (operation, next) → typed_by program code callee found s ≡ Some after
    → (t : Shape) × (shape_after program callee operation s ≡ Some t) × (leads_on code operation next t ≡ Some after)
typed_made program code callee None operation next s after is e = absurd (none-some _ is)
typed_made program code callee (Some (o, n)) operation next s after is e =
    let same = some_pair_parts o operation n next is in
    let made = led_gone code o n (shape_after program callee o s) after e in (
      made.0,
      subst (λ x. shape_after program callee x s ≡ Some made.0) same.0 made.1,
      subst (λ x. leads_on code x next made.0 ≡ Some after) same.0 (subst (λ x. leads_on code o x made.0 ≡ Some after) same.1 made.2),
    )

pub goes_on_from : (program : Program) (m : ℕ) (code : Code) → IsTypedCode program m code → (pc next : ℕ) (operation : Operation) (s : Shape) → Arrives program m code pc s → operation_at program m pc ≡ Some (operation, next) → (operation ≡ Return → ⊥) → GoesOnTo program m code pc next operation s
goes_on_from program m code typed pc next operation s arrives found other =
    let after = some_is (typed_at program m code pc s) (typed.no_fault pc s arrives) in
    let made = typed_made program code (callee_at program m pc) (operation_at program m pc) operation next s after.0 found after.1 in
    let to = leads_gone code operation next made.0 after.0 other made.2 in
    record {
      shape = made.0;
      made = made.1;
      inside = to.0;
      high = to.1;
      arrives = subst (λ (a : After). Arrives program m code next a.shape) to.2 (by_step pc next s after.0 arrives after.1 (ap (λ (a : After). a.next) to.2));
    }

-- the shape that goes on is the one that was made
shape_led : (code : Code) (operation : Operation) (next : ℕ) (t : Shape) (after : After) → leads_on code operation next t ≡ Some after → after.shape ≡ t
shape_led code (Constant z) next t after e = ap (λ (a : After). a.shape) (gone code _ next t after refl e).2
shape_led code (Load k) next t after e = ap (λ (a : After). a.shape) (gone code _ next t after refl e).2
shape_led code (Store k) next t after e = ap (λ (a : After). a.shape) (gone code _ next t after refl e).2
shape_led code Add next t after e = ap (λ (a : After). a.shape) (gone code _ next t after refl e).2
shape_led code Subtract next t after e = ap (λ (a : After). a.shape) (gone code _ next t after refl e).2
shape_led code (InvokeStatic k) next t after e = ap (λ (a : After). a.shape) (gone code _ next t after refl e).2
shape_led code Return next t after e = ap (λ (a : After). a.shape) (sym (same_Some _ after e))
shape_led code Other next t after e = ap (λ (a : After). a.shape) (gone code _ next t after refl e).2

typed_locals : (program : Program) (code : Code) (callee : Option ℕ) (found : Option (Operation × ℕ)) (s : Shape) (after : After) → typed_by program code callee found s ≡ Some after → length after.shape.locals ≡ length s.locals
typed_locals program code callee None s after e = absurd (none-some after e)
typed_locals program code callee (Some (o, n)) s after e =
    let made = led_gone code o n (shape_after program callee o s) after e in
    ap (λ (x : Shape). length x.locals) (shape_led code o n made.0 after made.2) ∙ locals_after program callee o s made.0 made.1

-- a path has the locals of the code
pub arrival_locals : (program : Program) (m : ℕ) (code : Code) (pc : ℕ) (s : Shape) → Arrives program m code pc s → length s.locals ≡ code.max_locals
arrival_locals program m code pc s at_start = length-replicate code.max_locals Unset
arrival_locals program m code pc s (by_step p n r after arrives e on) =
    typed_locals program code (callee_at program m p) (operation_at program m p) r after e ∙ arrival_locals program m code p r arrives

-- ---- native methods

labelled_first : (program : Program) (labels : Labels) (item : ℕ × Label) (rest : Option Label) (s : ℕ) (label : Label) (b : Bool) → (item.0 == s) ≡ b → IsLabelledNative program labels item → (rest ≡ Some label → IsLabelledNative program labels (s, label))
    → cond b (Some item.1) rest ≡ Some label → IsLabelledNative program labels (s, label)
labelled_first program labels item rest s label true is first others e =
    subst (λ l. IsLabelledNative program labels (s, l)) (same_Some item.1 label e) (subst (λ n. IsLabelledNative program labels (n, item.1)) (eqb-true item.0 s is) first)
labelled_first program labels item rest s label false is first others e = others e

labelled_item : (program : Program) (labels : Labels) (items : List (ℕ × Label)) (s : ℕ) (label : Label) → AllByRecursion (IsLabelledNative program labels) items → label_among items s ≡ Some label → IsLabelledNative program labels (s, label)
labelled_item program labels [] s label all e = absurd (none-some label e)
labelled_item program labels (item ∷ items) s label all e =
    labelled_first program labels item (label_among items s) s label (item.0 == s) refl all.0 (λ f. labelled_item program labels items s label all.1 f) e

-- what is known of the call of a labelled native
pub record IsNativeCall (program : Program) (m pc pops pushes : ℕ) : Type 0 where
  pub native : calls_native program (callee_at program m pc) ≡ true
  pub effect : call_effect_of program (callee_at program m pc) ≡ Some (pops, pushes)
  pub counts : arguments_at program m pc ≡ Some pops
  pub gives : results_at program m pc ≡ Some pushes

native_call : (program : Program) (labels : Labels) (m pc s pops pushes : ℕ) (label : Label) → AllByRecursion (IsLabelledNative program labels) labels.labelled → callee_at program m pc ≡ Some s → label_of labels s ≡ Some label
    → call_effect (desc_for label) ≡ Some (pops, pushes) → IsNativeCall program m pc pops pushes
native_call program labels m pc s pops pushes label natives callee is shape =
    let item = labelled_item program labels labels.labelled s label natives is in
    let effect : call_effect_of program (callee_at program m pc) ≡ Some (pops, pushes) =
    ap (call_effect_of program) callee ∙ ap (option_and_then (λ (method : Method). call_effect method.desc)) item.found ∙ ap call_effect item.shape ∙ shape in
    record {
      native = ap (calls_native program) callee ∙ ap is_native_method item.found ∙ item.is_native;
      effect = effect;
      counts = ap (option_map (λ (x : ℕ × ℕ). x.0)) effect;
      gives = ap (option_map (λ (x : ℕ × ℕ). x.1)) effect;
    }

pub source_label : (o : Option Label) → is_source o ≡ true → (level : ℕ) × (o ≡ Some (Source level))
source_label None e = absurd (false≢true e)
source_label (Some (Source level)) e = (level, refl)
source_label (Some (Sink level)) e = absurd (false≢true e)
source_label (Some (Release from to)) e = absurd (false≢true e)

pub sink_label : (o : Option Label) → is_sink o ≡ true → (level : ℕ) × (o ≡ Some (Sink level))
sink_label None e = absurd (false≢true e)
sink_label (Some (Source level)) e = absurd (false≢true e)
sink_label (Some (Sink level)) e = (level, refl)
sink_label (Some (Release from to)) e = absurd (false≢true e)

pub source_call : (program : Program) (labels : Labels) (m pc s : ℕ) → AllByRecursion (IsLabelledNative program labels) labels.labelled → callee_at program m pc ≡ Some s → is_source (label_of labels s) ≡ true → IsNativeCall program m pc 0 1
source_call program labels m pc s natives callee is =
    let l = source_label (label_of labels s) is in native_call program labels m pc s 0 1 (Source l.0) natives callee l.1 refl

pub sink_call : (program : Program) (labels : Labels) (m pc s : ℕ) → AllByRecursion (IsLabelledNative program labels) labels.labelled → callee_at program m pc ≡ Some s → is_sink (label_of labels s) ≡ true → IsNativeCall program m pc 1 0
sink_call program labels m pc s natives callee is =
    let l = sink_label (label_of labels s) is in native_call program labels m pc s 1 0 (Sink l.0) natives callee l.1 refl

-- the callee of plain code is a source or a sink
source_or_sink : (o : Option Label) → is_source_or_sink o ≡ true → (is_source o ≡ true) ⊎ (is_sink o ≡ true)
source_or_sink None e = absurd (false≢true e)
source_or_sink (Some (Source level)) e = inl refl
source_or_sink (Some (Sink level)) e = inr refl
source_or_sink (Some (Release from to)) e = absurd (false≢true e)

pub plain_callee : (labels : Labels) (callee : Option ℕ) → calls_labelled labels callee ≡ true → (s : ℕ) × (callee ≡ Some s) × ((is_source (label_of labels s) ≡ true) ⊎ (is_sink (label_of labels s) ≡ true))
plain_callee labels None e = absurd (false≢true e)
plain_callee labels (Some s) e = (s, refl, source_or_sink (label_of labels s) e)

-- the height behind a call
pub height_by_call : (program : Program) (callee : Option ℕ) (k pops pushes : ℕ) (s t : Shape) → call_effect_of program callee ≡ Some (pops, pushes) → shape_after program callee (InvokeStatic k) s ≡ Some t → (pops ≤ length s.stack) × (length t.stack ≡ length s.stack - pops + pushes)
height_by_call program callee k pops pushes s t effect e = let h = effect-sizes (call_effect_of program callee) s t pops pushes effect e in (h.there, h.height)
