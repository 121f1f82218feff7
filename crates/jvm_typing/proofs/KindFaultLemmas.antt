-- The faults that the kinds of places tell are those that typing paths meet.
use Rattle.std.proofs.Common.{◌≡◌, ◌⊎◌, ℕ, zero, suc, ◌+◌, ◌-◌, ◌<◌, ◌≤◌, Bool, true, false, not, ◌||◌, ◌&&◌, cond, List, [], ◌∷◌, length, get_or, Option, Some, None, refl, sym, ◌∙◌, ap, subst, inl, inr, arith}
use Rattle.std.specs.Prelude.{◌==◌, is_some, nat_lt, slice_get}
use Rattle.std.specs.List.{list_any}
use Rattle.std.proofs.lemmas.Bool.{ltb-true, ltb-false}
use Rattle.std.proofs.lemmas.List.{get_or_append_left, get_or-append-add, get_or-append_right, length-append}
use Rattle.std.proofs.lemmas.Option.{slice_get-get_or, slice_get_within, get_or_from_slice_get}
use Rattle.jo_prog.specs.declared.program.Program.{Program}
use Rattle.jo_prog.specs.declared.typed.TypeFault.{TypeFault}
use Rattle.jo_prog.specs.Typing.{Kind, Unset, Shape}
use Rattle.jo_prog.specs.Shapes.{Need, passes, all_pass}
use Rattle.jo_prog.specs.TypingPaths.{Typable, Step, arrives_at, height_of, shape_of, effect_at, wrong_kind, local_passes, catches_wrong, TypingPath}
use Rattle.jvm_typing.specs.declared.facts.Fact.{Fact}
use Rattle.typing_effects.specs.Kinds.{kind_in}
use Rattle.typing_heights.specs.Searches.{height_at, AreHeights}
use Rattle.typing_heights.specs.Moves.{other_height}
use Rattle.jvm_typing.specs.KindPasses.{flat, Item, item_in, items_of, AreKinds}
use Rattle.jvm_typing.specs.KindFaults.{read_fails, pop_fails, place_fails, is_wrong, kind_fault, FailsAt, IsKindFault}
use Rattle.typing_heights.proofs.ArrivalLemmas.{Meets}
use Rattle.jvm_typing.proofs.FlowLemmas.{is_there}
use Rattle.typing_heights.proofs.MoveLemmas.{has_below}
use Rattle.jvm_typing.proofs.GrowLemmas.{contains_map, from_map}
use Rattle.jvm_typing.proofs.KindLemmas.{locals_long, some_same}

-- ---- tests

or_left : (a b : Bool) → a ≡ true → (a || b) ≡ true
or_left true b e = refl
or_left false b e = absurd (cc)

or_right : (a b : Bool) → b ≡ true → (a || b) ≡ true
or_right true b e = refl
or_right false b e = e

either : (a b : Bool) → (a || b) ≡ true → (a ≡ true) ⊎ ((a ≡ false) × (b ≡ true))
either true b e = inl refl
either false b e = inr (refl, e)

both : (a b : Bool) → (a && b) ≡ true → (a ≡ true) × (b ≡ true)
both true b e = (refl, e)
both false b e = absurd (cc)

not_true : (a : Bool) → not a ≡ true → a ≡ false
not_true true e = absurd (cc)
not_true false e = refl

false_not : (a : Bool) → a ≡ false → not a ≡ true
false_not true e = absurd (cc)
false_not false e = refl

and_false : (a b : Bool) → (a && b) ≡ false → (a ≡ false) ⊎ ((a ≡ true) × (b ≡ false))
and_false true b e = inr (refl, e)
and_false false b e = inl refl

below_is_true : (a b : ℕ) → a < b → nat_lt a b ≡ true
below_is_true a b h = by_value (nat_lt a b) refl
  where
    by_value : (c : Bool) → nat_lt a b ≡ c → nat_lt a b ≡ true
    by_value true e = e
    by_value false e = absurd (let l = ltb-false a b e in omega arith)

past_is_false : (a b : ℕ) → nat_lt (a + b) a ≡ false
past_is_false a b = by_value (nat_lt (a + b) a) refl
  where
    by_value : (c : Bool) → nat_lt (a + b) a ≡ c → nat_lt (a + b) a ≡ false
    by_value true e = absurd (let l = ltb-true (a + b) a e in omega arith)
    by_value false e = e

same_is_true : (a b : ℕ) → a ≡ b → (a == b) ≡ true
same_is_true a b e = grind (arith, e)

-- ---- one place that fails

-- the place of a stack that is popped and hasn't what it is asked for
record FailsPop (program : Program) (needs : List Need) (stack : List Kind) : Type 0 where
  place : ℕ
  need : Need
  kind : Kind
  asked : slice_get needs place ≡ Some need
  has : slice_get stack place ≡ Some kind
  fails : passes program need kind ≡ false

pop_fails_all : (program : Program) (needs : List Need) (stack : List Kind) (k : ℕ) (need : Need) (kind : Kind) → slice_get needs k ≡ Some need → slice_get stack k ≡ Some kind → passes program need kind ≡ false
    → all_pass program needs stack ≡ false
pop_fails_all program [] stack k need kind e f g = absurd (cc)
pop_fails_all program (n ∷ needs) [] k need kind e f g = absurd (cc)
pop_fails_all program (n ∷ needs) (x ∷ stack) zero need kind e f g =
    let same_need : n ≡ need = some_same n need e in
    let same_kind : x ≡ kind = some_same x kind f in
    let fails : passes program n x ≡ false = ap (λ (m : Need). passes program m x) same_need ∙ ap (λ (y : Kind). passes program need y) same_kind ∙ g in
    ap (λ (b : Bool). b && all_pass program needs stack) fails
pop_fails_all program (n ∷ needs) (x ∷ stack) (suc k) need kind e f g =
    ap (λ (b : Bool). passes program n x && b) (pop_fails_all program needs stack k need kind e f g) ∙ and_never (passes program n x)
  where
    and_never : (b : Bool) → (b && false) ≡ false
    and_never true = refl
    and_never false = refl

all_fails_pop : (program : Program) (needs : List Need) (stack : List Kind) → all_pass program needs stack ≡ false → FailsPop program needs stack
all_fails_pop program [] stack e = absurd (cc)
all_fails_pop program (n ∷ needs) [] e = absurd (cc)
all_fails_pop program (n ∷ needs) (x ∷ stack) e = by_case (λ f. all_fails_pop program needs stack f) (and_false (passes program n x) (all_pass program needs stack) e)
  where
    by_case : (all_pass program needs stack ≡ false → FailsPop program needs stack) → (passes program n x ≡ false) ⊎ ((passes program n x ≡ true) × (all_pass program needs stack ≡ false)) → FailsPop program (n ∷ needs) (x ∷ stack)
    by_case later (inl f) = record { place = 0; need = n; kind = x; asked = refl; has = refl; fails = f }
    by_case later (inr f) = (let r = later f.1 in record { place = suc r.place; need = r.need; kind = r.kind; asked = r.asked; has = r.has; fails = r.fails })

-- ---- places of a shape

stack_place : (s : Shape) (locals place : ℕ) (kind : Kind) → length s.locals ≡ locals → locals ≤ place → slice_get (flat s) place ≡ Some kind → slice_get s.stack (place - locals) ≡ Some kind
stack_place s locals place kind long past at =
    let within = slice_get_within (flat s) place kind at in
    let total = length-append s.locals s.stack in
    let inside : place - locals < length s.stack = omega arith in
    slice_get-get_or s.stack (place - locals) Unset inside
    ∙ ap (λ k. Some k) (sym (get_or-append_right s.locals s.stack locals place Unset long past) ∙ get_or_from_slice_get (flat s) place kind Unset at)

place_stack : (s : Shape) (locals k : ℕ) (kind : Kind) → length s.locals ≡ locals → slice_get s.stack k ≡ Some kind → slice_get (flat s) (locals + k) ≡ Some kind
place_stack s locals k kind long at =
    let within = slice_get_within s.stack k kind at in
    let total = length-append s.locals s.stack in
    let inside : locals + k < length (flat s) = omega arith in
    slice_get-get_or (flat s) (locals + k) Unset inside
    ∙ ap (λ x. Some x) (ap (λ n. get_or (flat s) (n + k) Unset) (sym long) ∙ get_or-append-add s.locals s.stack k Unset ∙ get_or_from_slice_get s.stack k kind Unset at)

local_place : (s : Shape) (place : ℕ) (kind : Kind) → place < length s.locals → slice_get (flat s) place ≡ Some kind → get_or s.locals place Unset ≡ kind
local_place s place kind below at = sym (get_or_append_left s.locals s.stack Unset place below) ∙ get_or_from_slice_get (flat s) place kind Unset at

place_local : (s : Shape) (place : ℕ) → place < length s.locals → slice_get (flat s) place ≡ Some (get_or s.locals place Unset)
place_local s place below =
    let total = length-append s.locals s.stack in
    let inside : place < length (flat s) = omega arith in
    slice_get-get_or (flat s) place Unset inside ∙ ap (λ x. Some x) (get_or_append_left s.locals s.stack Unset place below)

-- ---- one of four tests

data Which (a b c d : Bool) : Type 0 where
  first : a ≡ true → Which a b c d
  second : b ≡ true → Which a b c d
  third : c ≡ true → Which a b c d
  fourth : d ≡ true → Which a b c d

which : (a b c d : Bool) → (a || b || c || d) ≡ true → Which a b c d
which true b c d e = first refl
which false true c d e = second refl
which false false true d e = third refl
which false false false true e = fourth refl
which false false false false e = absurd (cc)

some_of : (a b c d : Bool) → Which a b c d → (a || b || c || d) ≡ true
some_of true b c d w = refl
some_of false true c d w = refl
some_of false false true d w = refl
some_of false false false true w = refl
some_of false false false false (first e) = absurd (cc)
some_of false false false false (second e) = absurd (cc)
some_of false false false false (third e) = absurd (cc)
some_of false false false false (fourth e) = absurd (cc)

-- ---- the four tests of a wrong kind

abbrev IsWrongBy : Program → Typable → List Step → Type 0
IsWrongBy program t path =
    Which (effect_at program t (arrives_at path)).wrong (not (all_pass program (effect_at program t (arrives_at path)).pops (shape_of program t path).stack))
    (not (local_passes program (shape_of program t path) (effect_at program t (arrives_at path)).reads)) (list_any (catches_wrong program (arrives_at path)) t.code.rows)

some_wrong : (program : Program) (t : Typable) (path : List Step) → IsWrongBy program t path → wrong_kind program t (arrives_at path) (shape_of program t path) ≡ true
some_wrong program t path w =
    some_of (effect_at program t (arrives_at path)).wrong (not (all_pass program (effect_at program t (arrives_at path)).pops (shape_of program t path).stack))
    (not (local_passes program (shape_of program t path) (effect_at program t (arrives_at path)).reads)) (list_any (catches_wrong program (arrives_at path)) t.code.rows) w

which_wrong : (program : Program) (t : Typable) (path : List Step) → wrong_kind program t (arrives_at path) (shape_of program t path) ≡ true → IsWrongBy program t path
which_wrong program t path e =
    which (effect_at program t (arrives_at path)).wrong (not (all_pass program (effect_at program t (arrives_at path)).pops (shape_of program t path).stack))
    (not (local_passes program (shape_of program t path) (effect_at program t (arrives_at path)).reads)) (list_any (catches_wrong program (arrives_at path)) t.code.rows) e

-- ---- a place that fails makes its path meet a wrong kind

read_wrong : (program : Program) (s : Shape) (reads : Option (ℕ × Need)) (place : ℕ) (kind : Kind) → place < length s.locals → slice_get (flat s) place ≡ Some kind → read_fails program reads place kind ≡ true
    → not (local_passes program s reads) ≡ true
read_wrong program s None place kind below at e = absurd (cc)
read_wrong program s (Some (k, need)) place kind below at e =
    let parts = both (k == place) (not (passes program need kind)) e in
    let same : k ≡ place = (let f = parts.0 in grind (arith, f)) in
    let low : k < length s.locals = omega arith in
    let here : get_or s.locals k Unset ≡ kind = ap (λ n. get_or s.locals n Unset) same ∙ local_place s place kind below at in
    let fails : passes program need (get_or s.locals k Unset) ≡ false = ap (λ (x : Kind). passes program need x) here ∙ not_true (passes program need kind) parts.1 in
    false_not (not (nat_lt k (length s.locals)) || passes program need (get_or s.locals k Unset)) (ap (λ (b : Bool). not (nat_lt k (length s.locals)) || b) fails ∙ ap (λ (b : Bool). not b || false) (below_is_true k (length s.locals) low))

pop_wrong : (program : Program) (needs : List Need) (stack : List Kind) (k : ℕ) (o : Option Need) (kind : Kind) → slice_get needs k ≡ o → slice_get stack k ≡ Some kind → pop_fails program o kind ≡ true
    → not (all_pass program needs stack) ≡ true
pop_wrong program needs stack k None kind e at f = absurd (cc)
pop_wrong program needs stack k (Some need) kind e at f = false_not (all_pass program needs stack) (pop_fails_all program needs stack k need kind e at (not_true (passes program need kind) f))

place_wrong : (program : Program) (t : Typable) (path : List Step) (place : ℕ) (kind : Kind) → slice_get (flat (shape_of program t path)) place ≡ Some kind
    → place_fails program t.code.max_locals (effect_at program t (arrives_at path)) place kind ≡ true → wrong_kind program t (arrives_at path) (shape_of program t path) ≡ true
place_wrong program t path place kind at e = by_test (nat_lt place t.code.max_locals) refl e
  where
    by_test : (b : Bool) → nat_lt place t.code.max_locals ≡ b
        → cond b (read_fails program (effect_at program t (arrives_at path)).reads place kind) (pop_fails program (slice_get (effect_at program t (arrives_at path)).pops (place - t.code.max_locals)) kind) ≡ true
        → wrong_kind program t (arrives_at path) (shape_of program t path) ≡ true
    by_test true f g =
        let below : place < length (shape_of program t path).locals = (let l = ltb-true place t.code.max_locals f in let e = locals_long program t path in omega arith) in
        some_wrong program t path (third (read_wrong program (shape_of program t path) (effect_at program t (arrives_at path)).reads place kind below at g))
    by_test false f g =
        some_wrong program t path (second (pop_wrong program (effect_at program t (arrives_at path)).pops (shape_of program t path).stack (place - t.code.max_locals) (slice_get (effect_at program t (arrives_at path)).pops (place - t.code.max_locals)) kind refl
        (stack_place (shape_of program t path) t.code.max_locals place kind (locals_long program t path) (ltb-false place t.code.max_locals f) at) g))

whole_wrong : (program : Program) (t : Typable) (path : List Step) → is_wrong program t (arrives_at path) ≡ true → wrong_kind program t (arrives_at path) (shape_of program t path) ≡ true
whole_wrong program t path e = by_case (either (effect_at program t (arrives_at path)).wrong (list_any (catches_wrong program (arrives_at path)) t.code.rows) e)
  where
    by_case : ((effect_at program t (arrives_at path)).wrong ≡ true) ⊎ (((effect_at program t (arrives_at path)).wrong ≡ false) × (list_any (catches_wrong program (arrives_at path)) t.code.rows ≡ true))
        → wrong_kind program t (arrives_at path) (shape_of program t path) ≡ true
    by_case (inl f) = some_wrong program t path (first f)
    by_case (inr f) = some_wrong program t path (fourth f.1)

-- ---- and the other way

-- a place that fails, or all of it
data Fails (program : Program) (t : Typable) (path : List Step) : Type 0 where
  at_place : (place : ℕ) (kind : Kind) → slice_get (flat (shape_of program t path)) place ≡ Some kind
      → place_fails program t.code.max_locals (effect_at program t (arrives_at path)) place kind ≡ true → Fails program t path
  whole : is_wrong program t (arrives_at path) ≡ true → Fails program t path

wrong_read : (program : Program) (s : Shape) (k : ℕ) (need : Need) → not (local_passes program s (Some (k, need))) ≡ true → (k < length s.locals) × (passes program need (get_or s.locals k Unset) ≡ false)
wrong_read program s k need e = by_test (nat_lt k (length s.locals)) refl (not_true (not (nat_lt k (length s.locals)) || passes program need (get_or s.locals k Unset)) e)
  where
    by_test : (b : Bool) → nat_lt k (length s.locals) ≡ b → (not b || passes program need (get_or s.locals k Unset)) ≡ false → (k < length s.locals) × (passes program need (get_or s.locals k Unset) ≡ false)
    by_test true f g = (ltb-true k (length s.locals) f, g)
    by_test false f g = absurd (cc)

wrong_fails : (program : Program) (t : Typable) (path : List Step) → wrong_kind program t (arrives_at path) (shape_of program t path) ≡ true → Fails program t path
wrong_fails program t path e = by_which (which_wrong program t path e)
  where
    by_read : (reads : Option (ℕ × Need)) → (effect_at program t (arrives_at path)).reads ≡ reads → not (local_passes program (shape_of program t path) reads) ≡ true → Fails program t path
    by_read None is f = absurd (cc)
    by_read (Some (k, need)) is f =
        let r = wrong_read program (shape_of program t path) k need f in
        let low : k < t.code.max_locals = (let b = r.0 in let l = locals_long program t path in omega arith) in
        let kind = get_or (shape_of program t path).locals k Unset in
        at_place k kind (place_local (shape_of program t path) k r.0)
        (ap (λ (b : Bool). cond b (read_fails program (effect_at program t (arrives_at path)).reads k kind) (pop_fails program (slice_get (effect_at program t (arrives_at path)).pops (k - t.code.max_locals)) kind)) (below_is_true k t.code.max_locals low)
        ∙ ap (λ (o : Option (ℕ × Need)). read_fails program o k kind) is
        ∙ ap (λ (b : Bool). b && not (passes program need kind)) (same_is_true k k refl)
        ∙ false_not (passes program need kind) r.1)

    by_pop : FailsPop program (effect_at program t (arrives_at path)).pops (shape_of program t path).stack → Fails program t path
    by_pop p =
        let at = place_stack (shape_of program t path) t.code.max_locals p.place p.kind (locals_long program t path) p.has in
        at_place (t.code.max_locals + p.place) p.kind at
        (ap (λ (b : Bool). cond b (read_fails program (effect_at program t (arrives_at path)).reads (t.code.max_locals + p.place) p.kind) (pop_fails program (slice_get (effect_at program t (arrives_at path)).pops (t.code.max_locals + p.place - t.code.max_locals)) p.kind))
        (past_is_false t.code.max_locals p.place)
        ∙ ap (λ n. pop_fails program (slice_get (effect_at program t (arrives_at path)).pops n) p.kind) (taken_off t.code.max_locals p.place)
        ∙ ap (λ (o : Option Need). pop_fails program o p.kind) p.asked
        ∙ false_not (passes program p.need p.kind) p.fails)
      where
        taken_off : (a b : ℕ) → a + b - a ≡ b
        taken_off a b = omega arith

    by_which : IsWrongBy program t path → Fails program t path
    by_which (first f) = whole (or_left (effect_at program t (arrives_at path)).wrong (list_any (catches_wrong program (arrives_at path)) t.code.rows) f)
    by_which (second f) = by_pop (all_fails_pop program (effect_at program t (arrives_at path)).pops (shape_of program t path).stack (not_true (all_pass program (effect_at program t (arrives_at path)).pops (shape_of program t path).stack) f))
    by_which (third f) = by_read (effect_at program t (arrives_at path)).reads refl f
    by_which (fourth f) = whole (or_right (effect_at program t (arrives_at path)).wrong (list_any (catches_wrong program (arrives_at path)) t.code.rows) f)

-- ---- exactly the faults that are found

module _ (program : Program) (t : Typable) (heights : List (Option ℕ)) (are : AreHeights program t heights) (facts : List Fact) (kinds : AreKinds program t heights (items_of facts)) where
  reached_some : (o : Option ℕ) → is_some o ≡ true → (h : ℕ) × (o ≡ Some h)
  reached_some None e = absurd (cc)
  reached_some (Some h) e = (h, refl)

  pub kind_found_met : (f : TypeFault) → IsKindFault program t heights facts f → Meets program t f.pc f.code
  kind_found_met f (inl (fact, among, (fails, is))) =
      let h = (kinds (item_in fact)).0 (contains_map item_in facts fact among) in
      subst (λ (g : TypeFault). Meets program t g.pc g.code) (sym is) (record {
        path = h.path;
        is_path = h.is_path;
        arrives = h.arrives;
        meets = place_wrong program t h.path fact.place (kind_in fact.kind) h.holds (subst (λ (pc : ℕ). place_fails program t.code.max_locals (effect_at program t pc) fact.place (kind_in fact.kind) ≡ true) (sym h.arrives) fails);
      })
  kind_found_met f (inr (pc, below, (reached, wrong, is))) =
      let r = reached_some (height_at heights pc) reached in
      let p = are.is_first pc r.0 r.1 in
      subst (λ (g : TypeFault). Meets program t g.pc g.code) (sym is) (record {
        path = p.0;
        is_path = p.1.is_path;
        arrives = p.1.arrives;
        meets = whole_wrong program t p.0 (subst (λ (q : ℕ). is_wrong program t q ≡ true) (sym p.1.arrives) wrong);
      })

  pub kind_met_found : (path : List Step) → TypingPath program t path → wrong_kind program t (arrives_at path) (shape_of program t path) ≡ true → other_height (height_at heights (arrives_at path)) (height_of program t path) ≡ false
      → IsKindFault program t heights facts (kind_fault (arrives_at path))
  kind_met_found path is wrong steady = by_fails (wrong_fails program t path wrong)
    where
      has : height_at heights (arrives_at path) ≡ Some (height_of program t path)
      has = is_there (height_at heights (arrives_at path)) (height_of program t path) steady

      by_fails : Fails program t path → IsKindFault program t heights facts (kind_fault (arrives_at path))
      by_fails (at_place place kind at fails) =
          let x : Item = record { pc = arrives_at path; place = place; kind = kind } in
          let c = (kinds x).1 (record { path = path; is_path = is; arrives = refl; same_height = has; holds = at }) in
          let r = from_map item_in facts x c in
          inl (r.0, r.1, subst (λ (y : Item). FailsAt program t y (kind_fault (arrives_at path))) (sym r.2) (fails, refl))
      by_fails (whole wrong) = inr (arrives_at path, there, (ap is_some has, wrong, refl))
        where
          there : arrives_at path < length heights
          there = has_below heights (arrives_at path) (height_of program t path) has
