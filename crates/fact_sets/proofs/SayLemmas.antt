-- What numbered facts say: the same where more is numbered, each fact by one number and each number of one fact.
use Rattle.std.specs.Prelude.{◌^◌}
use Rattle.std.proofs.Common.{◌≡◌, ◌⊎◌, ◌↔◌, inl, inr, true, false, ℕ, zero, suc, ◌+◌, ◌<◌, ◌≤◌, Contains, List, [], ◌∷◌, ◌++◌, length, Some, Result, Ok, Err, IfOk, slice_get, refl, ap, sym, ◌∙◌, subst, arith, length-append}
use Rattle.std.proofs.lemmas.Option.{same_Some, slice_get_within}
use Rattle.jo_ids.specs.declared.ObjKey.{ObjKey}
use Rattle.dep_nodes.specs.OnceLists.{IsOnceEach}
use Rattle.dep_nodes.specs.GrowingGraphs.{AppendsNew}
use Rattle.dep_nodes.proofs.OnceLemmas.{once_push}
use Rattle.dependence.specs.declared.facts.InstKey.{InstKey}
use Rattle.dependence.specs.declared.facts.FactCell.{FactCell}
use Rattle.dependence.specs.declared.facts.FactCell.TheVariants.{Field, Elements, Static}
use Rattle.dependence.specs.declared.facts.Fact.{Fact}
use Rattle.dependence.specs.declared.facts.Fact.TheVariants.{Reached, Holds, CellHolds, Target, Fork, Throws, Stalls}
use Rattle.fact_sets.specs.declared.numbered.CellNumber.{CellNumber}
use Rattle.fact_sets.specs.declared.numbered.CellNumber.TheVariants.{Field as FieldOf, Elements as ElementsOf, Static as StaticOf}
use Rattle.fact_sets.specs.declared.numbered.Holder.{Holder}
use Rattle.fact_sets.specs.declared.numbered.Holder.TheVariants.{Node, Cell}
use Rattle.fact_sets.specs.declared.numbered.CallPlace.{CallPlace}
use Rattle.fact_sets.specs.declared.numbered.NumberedFact.{NumberedFact}
use Rattle.fact_sets.specs.declared.numbered.NumberedFact.TheVariants.{Reached as IsReached, Holds as IsHeld, Calls as IsCalled, Throws as MayThrow, Stalls as MayStall}
use Rattle.fact_sets.specs.FactLists.{pair_of, object_pair, IsInstance, IsObject, IsCell, of_field, of_elements, of_static, IsCall, IsCallFact, Says, reached, held, in_cell, called, forked, throws, stalls, HasFact, Grows, AppendsEach, instances_in, with_last, objects_in, CellWithin, FactWithin, AreFacts, lists_of}
use Rattle.fact_sets.proofs.SliceLemmas.{at_left}
use Rattle.fact_sets.proofs.TableLemmas.{with_one}

-- ---- lists that go on

pub named_on : {A : Type 0} (old new : List A) (k : ℕ) (x : A) → Grows old new → slice_get old k ≡ Some x → slice_get new k ≡ Some x
named_on old new k x grows is = subst (λ xs. slice_get xs k ≡ Some x) (sym grows.1) (at_left old grows.0 k x is)

at_within : {A : Type 0} (xs ys : List A) (k : ℕ) (x : A) → k < length xs → slice_get (xs ++ ys) k ≡ Some x → slice_get xs k ≡ Some x
at_within [] ys k x below is = absurd (omega (arith, below))
at_within (z ∷ xs) ys zero x below is = is
at_within (z ∷ xs) ys (suc k) x below is = at_within xs ys k x (omega (arith, below)) is

named_back : {A : Type 0} (old new : List A) (k : ℕ) (x : A) → Grows old new → k < length old → slice_get new k ≡ Some x → slice_get old k ≡ Some x
named_back old new k x grows below is = at_within old grows.0 k x below (subst (λ xs. slice_get xs k ≡ Some x) grows.1 is)

pub longer : {A : Type 0} (old new : List A) → Grows old new → length old ≤ length new
longer old new grows = let e : length new ≡ length old + length grows.0 = ap length grows.1 ∙ length-append old grows.0 in omega (arith, e)

pub appended_once : {A : Type 0} (old new : List A) (x : A) → AppendsNew old x new → IsOnceEach old → IsOnceEach new
appended_once old new x (inl (there, same)) once = subst IsOnceEach (sym same) once
appended_once old new x (inr (lacks, made)) once = subst IsOnceEach (sym made) (once_push old x once lacks)

appended_length : {A : Type 0} (old new : List A) (x : A) → AppendsNew old x new → length new ≤ length old + 1
appended_length old new x (inl (there, same)) = let e : length new ≡ length old = ap length same in omega (arith, e)
appended_length old new x (inr (lacks, made)) = let e : length new ≡ length old + length (x ∷ []) = ap length made ∙ length-append old (x ∷ []) in omega (arith, e)

pub each_one : {C : Type 0} (old new : List (ℕ × C)) (x : ℕ × C) → AppendsNew old x new → AppendsEach old (x ∷ []) new
each_one old new x appends = (new, appends, refl)

pub each_last : {C : Type 0} (xs : List (ℕ × C)) (old mid new : List (ℕ × C)) (o : ObjKey C) → AppendsEach old xs mid → AppendsNew mid (object_pair o) new → AppendsEach old (with_last xs o) new
each_last [] old mid new o same last = (new, subst (λ m. AppendsNew m (object_pair o) new) same last, refl)
each_last (x ∷ xs) old mid new o (next, first, rest) last = (next, first, each_last xs next mid new o rest last)

pub each_once : {C : Type 0} (xs : List (ℕ × C)) (old new : List (ℕ × C)) → AppendsEach old xs new → IsOnceEach old → IsOnceEach new
each_once [] old new same once = subst IsOnceEach (sym same) once
each_once (x ∷ xs) old new (next, first, rest) once = each_once xs next new rest (appended_once old next x first once)

each_length : {C : Type 0} (xs : List (ℕ × C)) (old new : List (ℕ × C)) → AppendsEach old xs new → length new ≤ length old + length xs
each_length [] old new same = let e : length new ≡ length old = ap length same in omega (arith, e)
each_length (x ∷ xs) old new (next, first, rest) = omega (arith, each_length xs next new rest, appended_length old next x first)

few_instances : {C : Type 0} (f : Fact C) → length (instances_in f) ≤ 2
few_instances (Reached i) = omega arith
few_instances (Holds i _ o) = omega arith
few_instances (CellHolds cell o) = omega arith
few_instances (Target i pc j) = omega arith
few_instances (Fork i pc j) = omega arith
few_instances (Throws i) = omega arith
few_instances (Stalls i) = omega arith

few_objects : {C : Type 0} (f : Fact C) → length (objects_in f) ≤ 2
few_objects (Reached i) = omega arith
few_objects (Holds i _ o) = omega arith
few_objects (CellHolds (Field f x) o) = omega arith
few_objects (CellHolds (Elements x) o) = omega arith
few_objects (CellHolds (Static f) o) = omega arith
few_objects (Target i pc j) = omega arith
few_objects (Fork i pc j) = omega arith
few_objects (Throws i) = omega arith
few_objects (Stalls i) = omega arith

-- ---- where more is numbered

pub cell_on : {C : Type 0} (o o2 : List (ℕ × C)) (cell : CellNumber) (c : FactCell C) → Grows o o2 → IsCell o cell c → IsCell o2 cell c
cell_on o o2 _ _ g (of_field f x key is) = of_field f x key (named_on o o2 x (object_pair key) g is)
cell_on o o2 _ _ g (of_elements x key is) = of_elements x key (named_on o o2 x (object_pair key) g is)
cell_on o o2 _ _ g (of_static f) = of_static f

pub call_grows : {C : Type 0} (i i2 : List (ℕ × C)) (call : CallPlace) (j pc : ℕ) (key to : InstKey C) → Grows i i2 → IsCall i call j key pc to → IsCall i2 call j key pc to
call_grows i i2 call j pc key to g is = record {
  caller = named_on i i2 call.instance (pair_of key) g is.caller;
  place = is.place;
  target = named_on i i2 j (pair_of to) g is.target;
}

pub says_on : {C : Type 0} (i i2 o o2 : List (ℕ × C)) (n : NumberedFact) (f : Fact C) → Grows i i2 → Grows o o2 → Says i o n f → Says i2 o2 n f
says_on i i2 o o2 _ _ g h (reached a key is) = reached a key (named_on i i2 a (pair_of key) g is)
says_on i i2 o o2 _ _ g h (held a b spot key object is at) = held a b spot key object (named_on i i2 a (pair_of key) g is) (named_on o o2 b (object_pair object) h at)
says_on i i2 o o2 _ _ g h (in_cell cell c b object is at) = in_cell cell c b object (cell_on o o2 cell c h is) (named_on o o2 b (object_pair object) h at)
says_on i i2 o o2 _ _ g h (called call j pc key to is) = called call j pc key to (call_grows i i2 call j pc key to g is)
says_on i i2 o o2 _ _ g h (forked call j pc key to is) = forked call j pc key to (call_grows i i2 call j pc key to g is)
says_on i i2 o o2 _ _ g h (throws a key is) = throws a key (named_on i i2 a (pair_of key) g is)
says_on i i2 o o2 _ _ g h (stalls a key is) = stalls a key (named_on i i2 a (pair_of key) g is)

-- ---- numbers that are there

cell_within : {C : Type 0} (o : List (ℕ × C)) (cell : CellNumber) (c : FactCell C) → IsCell o cell c → CellWithin (length o) cell
cell_within o _ _ (of_field f x key is) = slice_get_within o x (object_pair key) is
cell_within o _ _ (of_elements x key is) = slice_get_within o x (object_pair key) is
cell_within o _ _ (of_static f) = tt

says_within : {C : Type 0} (i o : List (ℕ × C)) (n : NumberedFact) (f : Fact C) → Says i o n f → FactWithin (length i) (length o) n
says_within i o _ _ (reached a key is) = slice_get_within i a (pair_of key) is
says_within i o _ _ (held a b spot key object is at) = (slice_get_within i a (pair_of key) is, slice_get_within o b (object_pair object) at)
says_within i o _ _ (in_cell cell c b object is at) = (cell_within o cell c is, slice_get_within o b (object_pair object) at)
says_within i o _ _ (called call j pc key to is) = (slice_get_within i call.instance (pair_of key) is.caller, slice_get_within i j (pair_of to) is.target)
says_within i o _ _ (forked call j pc key to is) = (slice_get_within i call.instance (pair_of key) is.caller, slice_get_within i j (pair_of to) is.target)
says_within i o _ _ (throws a key is) = slice_get_within i a (pair_of key) is
says_within i o _ _ (stalls a key is) = slice_get_within i a (pair_of key) is

within_more : (a a2 b b2 : ℕ) (n : NumberedFact) → a ≤ a2 → b ≤ b2 → FactWithin a b n → FactWithin a2 b2 n
within_more a a2 b b2 (IsReached i) more too below = omega (arith, more, below)
within_more a a2 b b2 (IsHeld (Node i _) o) more too below = (omega (arith, more, below.0), omega (arith, too, below.1))
within_more a a2 b b2 (IsHeld (Cell (FieldOf f x)) o) more too below = (omega (arith, too, below.0), omega (arith, too, below.1))
within_more a a2 b b2 (IsHeld (Cell (ElementsOf x)) o) more too below = (omega (arith, too, below.0), omega (arith, too, below.1))
within_more a a2 b b2 (IsHeld (Cell (StaticOf f)) o) more too below = (tt, omega (arith, too, below.1))
within_more a a2 b b2 (IsCalled call j fork) more too below = (omega (arith, more, below.0), omega (arith, more, below.1))
within_more a a2 b b2 (MayThrow i) more too below = omega (arith, more, below)
within_more a a2 b b2 (MayStall i) more too below = omega (arith, more, below)

pub held_within : (a b : ℕ) (h : Holder) (o : ℕ) → FactWithin a b (IsHeld h o) → o < b
held_within a b (Node i _) o below = below.1
held_within a b (Cell cell) o below = below.1

-- what is said with more numbers by numbers that were there, was said before
cell_back : {C : Type 0} (o o2 : List (ℕ × C)) (cell : CellNumber) (c : FactCell C) → Grows o o2 → IsCell o2 cell c → CellWithin (length o) cell → IsCell o cell c
cell_back o o2 _ _ g (of_field f x key is) below = of_field f x key (named_back o o2 x (object_pair key) g below is)
cell_back o o2 _ _ g (of_elements x key is) below = of_elements x key (named_back o o2 x (object_pair key) g below is)
cell_back o o2 _ _ g (of_static f) below = of_static f

call_back : {C : Type 0} (i i2 : List (ℕ × C)) (call : CallPlace) (j pc : ℕ) (key to : InstKey C) → Grows i i2 → IsCall i2 call j key pc to → call.instance < length i → j < length i → IsCall i call j key pc to
call_back i i2 call j pc key to g is below too = record {
  caller = named_back i i2 call.instance (pair_of key) g below is.caller;
  place = is.place;
  target = named_back i i2 j (pair_of to) g too is.target;
}

says_back : {C : Type 0} (i i2 o o2 : List (ℕ × C)) (n : NumberedFact) (f : Fact C) → Grows i i2 → Grows o o2 → Says i2 o2 n f → FactWithin (length i) (length o) n → Says i o n f
says_back i i2 o o2 _ _ g h (reached a key is) below = reached a key (named_back i i2 a (pair_of key) g below is)
says_back i i2 o o2 _ _ g h (held a b spot key object is at) below = held a b spot key object (named_back i i2 a (pair_of key) g below.0 is) (named_back o o2 b (object_pair object) h below.1 at)
says_back i i2 o o2 _ _ g h (in_cell cell c b object is at) below = in_cell cell c b object (cell_back o o2 cell c h is below.0) (named_back o o2 b (object_pair object) h below.1 at)
says_back i i2 o o2 _ _ g h (called call j pc key to is) below = called call j pc key to (call_back i i2 call j pc key to g is below.0 below.1)
says_back i i2 o o2 _ _ g h (forked call j pc key to is) below = forked call j pc key to (call_back i i2 call j pc key to g is below.0 below.1)
says_back i i2 o o2 _ _ g h (throws a key is) below = throws a key (named_back i i2 a (pair_of key) g below is)
says_back i i2 o o2 _ _ g h (stalls a key is) below = stalls a key (named_back i i2 a (pair_of key) g below is)

-- ---- one fact by a number

same_key : {C : Type 0} (i : List (ℕ × C)) (a b : ℕ) (k l : InstKey C) → IsInstance i a k → IsInstance i b l → a ≡ b → k ≡ l
same_key {C} i a b k l is at same =
    let e : pair_of k ≡ pair_of l = same_Some (pair_of k) (pair_of l) (sym is ∙ ap (slice_get i) same ∙ at) in
    ap (λ (p : ℕ × C). the_key p.0 p.1) e
  where
    the_key : ℕ → C → InstKey C
    the_key n c = record { method = n; context = c }

same_object : {C : Type 0} (o : List (ℕ × C)) (a b : ℕ) (k l : ObjKey C) → IsObject o a k → IsObject o b l → a ≡ b → k ≡ l
same_object {C} o a b k l is at same =
    let e : object_pair k ≡ object_pair l = same_Some (object_pair k) (object_pair l) (sym is ∙ ap (slice_get o) same ∙ at) in
    ap (λ (p : ℕ × C). the_key p.0 p.1) e
  where
    the_key : ℕ → C → ObjKey C
    the_key n c = record { site = n; context = c }

-- ---- one number of a fact

key_place : {C : Type 0} (i : List (ℕ × C)) (a b : ℕ) (k l : InstKey C) → IsOnceEach i → IsInstance i a k → IsInstance i b l → k ≡ l → a ≡ b
key_place i a b k l once is at same = once a b (pair_of l) (subst (λ m. slice_get i a ≡ Some (pair_of m)) same is) at

object_place : {C : Type 0} (o : List (ℕ × C)) (a b : ℕ) (k l : ObjKey C) → IsOnceEach o → IsObject o a k → IsObject o b l → k ≡ l → a ≡ b
object_place o a b k l once is at same = once a b (object_pair l) (subst (λ m. slice_get o a ≡ Some (object_pair m)) same is) at

same_call : (a b : CallPlace) → a.instance ≡ b.instance → a.pc ≡ b.pc → a ≡ b
same_call a b one two = ap (λ n. the_call n a.pc) one ∙ ap (λ n. the_call b.instance n) two
  where
    the_call : ℕ → ℕ → CallPlace
    the_call n pc = record { instance = n; pc = pc }

same_cell : {C : Type 0} (o : List (ℕ × C)) (m n : CellNumber) (c d : FactCell C) → IsCell o m c → IsCell o n d → m ≡ n → c ≡ d
same_cell o _ _ _ _ (of_field f x key is) (of_field g y l at) e = let one : x ≡ y = cc in let two = same_object o x y key l is at one in let three : f ≡ g = cc in cc
same_cell o _ _ _ _ (of_field f x key is) (of_elements y l at) e = absurd (cc)
same_cell o _ _ _ _ (of_field f x key is) (of_static g) e = absurd (cc)
same_cell o _ _ _ _ (of_elements x key is) (of_field g y l at) e = absurd (cc)
same_cell o _ _ _ _ (of_elements x key is) (of_elements y l at) e = let one : x ≡ y = cc in let two = same_object o x y key l is at one in cc
same_cell o _ _ _ _ (of_elements x key is) (of_static g) e = absurd (cc)
same_cell o _ _ _ _ (of_static f) (of_field g y l at) e = absurd (cc)
same_cell o _ _ _ _ (of_static f) (of_elements y l at) e = absurd (cc)
same_cell o _ _ _ _ (of_static f) (of_static g) e = let one : f ≡ g = cc in cc

cell_place : {C : Type 0} (o : List (ℕ × C)) (m n : CellNumber) (c d : FactCell C) → IsOnceEach o → IsCell o m c → IsCell o n d → c ≡ d → m ≡ n
cell_place o _ _ _ _ once (of_field f x key is) (of_field g y l at) e = let one : key ≡ l = cc in let two = object_place o x y key l once is at one in let three : f ≡ g = cc in cc
cell_place o _ _ _ _ once (of_field f x key is) (of_elements y l at) e = absurd (cc)
cell_place o _ _ _ _ once (of_field f x key is) (of_static g) e = absurd (cc)
cell_place o _ _ _ _ once (of_elements x key is) (of_field g y l at) e = absurd (cc)
cell_place o _ _ _ _ once (of_elements x key is) (of_elements y l at) e = let one : key ≡ l = cc in let two = object_place o x y key l once is at one in cc
cell_place o _ _ _ _ once (of_elements x key is) (of_static g) e = absurd (cc)
cell_place o _ _ _ _ once (of_static f) (of_field g y l at) e = absurd (cc)
cell_place o _ _ _ _ once (of_static f) (of_elements y l at) e = absurd (cc)
cell_place o _ _ _ _ once (of_static f) (of_static g) e = let one : f ≡ g = cc in cc

pub same_fact : {C : Type 0} (i o : List (ℕ × C)) (m n : NumberedFact) (f g : Fact C) → Says i o m f → Says i o n g → m ≡ n → f ≡ g
same_fact i o _ _ _ _ (reached a k is) (reached b l at) e = let one : a ≡ b = cc in let two = same_key i a b k l is at one in cc
same_fact i o _ _ _ _ (reached a k is) (held b q spot2 l oc at oat2) e = absurd (cc)
same_fact i o _ _ _ _ (reached a k is) (in_cell cell2 there2 q oc at oat2) e = absurd (cc)
same_fact i o _ _ _ _ (reached a k is) (called call2 j2 pc2 l to2 at) e = absurd (cc)
same_fact i o _ _ _ _ (reached a k is) (forked call2 j2 pc2 l to2 at) e = absurd (cc)
same_fact i o _ _ _ _ (reached a k is) (throws b l at) e = absurd (cc)
same_fact i o _ _ _ _ (reached a k is) (stalls b l at) e = absurd (cc)
same_fact i o _ _ _ _ (held a p spot k ob is oat) (reached b l at) e = absurd (cc)
same_fact i o _ _ _ _ (held a p spot k ob is oat) (held b q spot2 l oc at oat2) e = let one : a ≡ b = cc in let two : p ≡ q = cc in let three : spot ≡ spot2 = cc in let four = same_key i a b k l is at one in let five = same_object o p q ob oc oat oat2 two in cc
same_fact i o _ _ _ _ (held a p spot k ob is oat) (in_cell cell2 there2 q oc at oat2) e = absurd (cc)
same_fact i o _ _ _ _ (held a p spot k ob is oat) (called call2 j2 pc2 l to2 at) e = absurd (cc)
same_fact i o _ _ _ _ (held a p spot k ob is oat) (forked call2 j2 pc2 l to2 at) e = absurd (cc)
same_fact i o _ _ _ _ (held a p spot k ob is oat) (throws b l at) e = absurd (cc)
same_fact i o _ _ _ _ (held a p spot k ob is oat) (stalls b l at) e = absurd (cc)
same_fact i o _ _ _ _ (in_cell cell there p ob is oat) (reached b l at) e = absurd (cc)
same_fact i o _ _ _ _ (in_cell cell there p ob is oat) (held b q spot2 l oc at oat2) e = absurd (cc)
same_fact i o _ _ _ _ (in_cell cell there p ob is oat) (in_cell cell2 there2 q oc at oat2) e = let one : cell ≡ cell2 = cc in let two : p ≡ q = cc in let three = same_cell o cell cell2 there there2 is at one in let four = same_object o p q ob oc oat oat2 two in cc
same_fact i o _ _ _ _ (in_cell cell there p ob is oat) (called call2 j2 pc2 l to2 at) e = absurd (cc)
same_fact i o _ _ _ _ (in_cell cell there p ob is oat) (forked call2 j2 pc2 l to2 at) e = absurd (cc)
same_fact i o _ _ _ _ (in_cell cell there p ob is oat) (throws b l at) e = absurd (cc)
same_fact i o _ _ _ _ (in_cell cell there p ob is oat) (stalls b l at) e = absurd (cc)
same_fact i o _ _ _ _ (called call j pc k to is) (reached b l at) e = absurd (cc)
same_fact i o _ _ _ _ (called call j pc k to is) (held b q spot2 l oc at oat2) e = absurd (cc)
same_fact i o _ _ _ _ (called call j pc k to is) (in_cell cell2 there2 q oc at oat2) e = absurd (cc)
same_fact i o _ _ _ _ (called call j pc k to is) (called call2 j2 pc2 l to2 at) e = let one : call ≡ call2 = cc in let two : j ≡ j2 = cc in let three : call.instance ≡ call2.instance = ap (λ (c : CallPlace). c.instance) one in let four = same_key i call.instance call2.instance k l is.caller at.caller three in let five = same_key i j j2 to to2 is.target at.target two in let six : pc ≡ pc2 = sym is.place ∙ ap (λ (c : CallPlace). c.pc) one ∙ at.place in cc
same_fact i o _ _ _ _ (called call j pc k to is) (forked call2 j2 pc2 l to2 at) e = absurd (cc)
same_fact i o _ _ _ _ (called call j pc k to is) (throws b l at) e = absurd (cc)
same_fact i o _ _ _ _ (called call j pc k to is) (stalls b l at) e = absurd (cc)
same_fact i o _ _ _ _ (forked call j pc k to is) (reached b l at) e = absurd (cc)
same_fact i o _ _ _ _ (forked call j pc k to is) (held b q spot2 l oc at oat2) e = absurd (cc)
same_fact i o _ _ _ _ (forked call j pc k to is) (in_cell cell2 there2 q oc at oat2) e = absurd (cc)
same_fact i o _ _ _ _ (forked call j pc k to is) (called call2 j2 pc2 l to2 at) e = absurd (cc)
same_fact i o _ _ _ _ (forked call j pc k to is) (forked call2 j2 pc2 l to2 at) e = let one : call ≡ call2 = cc in let two : j ≡ j2 = cc in let three : call.instance ≡ call2.instance = ap (λ (c : CallPlace). c.instance) one in let four = same_key i call.instance call2.instance k l is.caller at.caller three in let five = same_key i j j2 to to2 is.target at.target two in let six : pc ≡ pc2 = sym is.place ∙ ap (λ (c : CallPlace). c.pc) one ∙ at.place in cc
same_fact i o _ _ _ _ (forked call j pc k to is) (throws b l at) e = absurd (cc)
same_fact i o _ _ _ _ (forked call j pc k to is) (stalls b l at) e = absurd (cc)
same_fact i o _ _ _ _ (throws a k is) (reached b l at) e = absurd (cc)
same_fact i o _ _ _ _ (throws a k is) (held b q spot2 l oc at oat2) e = absurd (cc)
same_fact i o _ _ _ _ (throws a k is) (in_cell cell2 there2 q oc at oat2) e = absurd (cc)
same_fact i o _ _ _ _ (throws a k is) (called call2 j2 pc2 l to2 at) e = absurd (cc)
same_fact i o _ _ _ _ (throws a k is) (forked call2 j2 pc2 l to2 at) e = absurd (cc)
same_fact i o _ _ _ _ (throws a k is) (throws b l at) e = let one : a ≡ b = cc in let two = same_key i a b k l is at one in cc
same_fact i o _ _ _ _ (throws a k is) (stalls b l at) e = absurd (cc)
same_fact i o _ _ _ _ (stalls a k is) (reached b l at) e = absurd (cc)
same_fact i o _ _ _ _ (stalls a k is) (held b q spot2 l oc at oat2) e = absurd (cc)
same_fact i o _ _ _ _ (stalls a k is) (in_cell cell2 there2 q oc at oat2) e = absurd (cc)
same_fact i o _ _ _ _ (stalls a k is) (called call2 j2 pc2 l to2 at) e = absurd (cc)
same_fact i o _ _ _ _ (stalls a k is) (forked call2 j2 pc2 l to2 at) e = absurd (cc)
same_fact i o _ _ _ _ (stalls a k is) (throws b l at) e = absurd (cc)
same_fact i o _ _ _ _ (stalls a k is) (stalls b l at) e = let one : a ≡ b = cc in let two = same_key i a b k l is at one in cc

pub same_number : {C : Type 0} (i o : List (ℕ × C)) (m n : NumberedFact) (f g : Fact C) → IsOnceEach i → IsOnceEach o → Says i o m f → Says i o n g → f ≡ g → m ≡ n
same_number i o _ _ _ _ once once2 (reached a k is) (reached b l at) e = let one : k ≡ l = cc in let two = key_place i a b k l once is at one in cc
same_number i o _ _ _ _ once once2 (reached a k is) (held b q spot2 l oc at oat2) e = absurd (cc)
same_number i o _ _ _ _ once once2 (reached a k is) (in_cell cell2 there2 q oc at oat2) e = absurd (cc)
same_number i o _ _ _ _ once once2 (reached a k is) (called call2 j2 pc2 l to2 at) e = absurd (cc)
same_number i o _ _ _ _ once once2 (reached a k is) (forked call2 j2 pc2 l to2 at) e = absurd (cc)
same_number i o _ _ _ _ once once2 (reached a k is) (throws b l at) e = absurd (cc)
same_number i o _ _ _ _ once once2 (reached a k is) (stalls b l at) e = absurd (cc)
same_number i o _ _ _ _ once once2 (held a p spot k ob is oat) (reached b l at) e = absurd (cc)
same_number i o _ _ _ _ once once2 (held a p spot k ob is oat) (held b q spot2 l oc at oat2) e = let one : k ≡ l = cc in let two : ob ≡ oc = cc in let three : spot ≡ spot2 = cc in let four = key_place i a b k l once is at one in let five = object_place o p q ob oc once2 oat oat2 two in cc
same_number i o _ _ _ _ once once2 (held a p spot k ob is oat) (in_cell cell2 there2 q oc at oat2) e = absurd (cc)
same_number i o _ _ _ _ once once2 (held a p spot k ob is oat) (called call2 j2 pc2 l to2 at) e = absurd (cc)
same_number i o _ _ _ _ once once2 (held a p spot k ob is oat) (forked call2 j2 pc2 l to2 at) e = absurd (cc)
same_number i o _ _ _ _ once once2 (held a p spot k ob is oat) (throws b l at) e = absurd (cc)
same_number i o _ _ _ _ once once2 (held a p spot k ob is oat) (stalls b l at) e = absurd (cc)
same_number i o _ _ _ _ once once2 (in_cell cell there p ob is oat) (reached b l at) e = absurd (cc)
same_number i o _ _ _ _ once once2 (in_cell cell there p ob is oat) (held b q spot2 l oc at oat2) e = absurd (cc)
same_number i o _ _ _ _ once once2 (in_cell cell there p ob is oat) (in_cell cell2 there2 q oc at oat2) e = let one : there ≡ there2 = cc in let two : ob ≡ oc = cc in let three = cell_place o cell cell2 there there2 once2 is at one in let four = object_place o p q ob oc once2 oat oat2 two in cc
same_number i o _ _ _ _ once once2 (in_cell cell there p ob is oat) (called call2 j2 pc2 l to2 at) e = absurd (cc)
same_number i o _ _ _ _ once once2 (in_cell cell there p ob is oat) (forked call2 j2 pc2 l to2 at) e = absurd (cc)
same_number i o _ _ _ _ once once2 (in_cell cell there p ob is oat) (throws b l at) e = absurd (cc)
same_number i o _ _ _ _ once once2 (in_cell cell there p ob is oat) (stalls b l at) e = absurd (cc)
same_number i o _ _ _ _ once once2 (called call j pc k to is) (reached b l at) e = absurd (cc)
same_number i o _ _ _ _ once once2 (called call j pc k to is) (held b q spot2 l oc at oat2) e = absurd (cc)
same_number i o _ _ _ _ once once2 (called call j pc k to is) (in_cell cell2 there2 q oc at oat2) e = absurd (cc)
same_number i o _ _ _ _ once once2 (called call j pc k to is) (called call2 j2 pc2 l to2 at) e = let one : k ≡ l = cc in let two : to ≡ to2 = cc in let three : pc ≡ pc2 = cc in let four = same_call call call2 (key_place i call.instance call2.instance k l once is.caller at.caller one) (is.place ∙ three ∙ sym at.place) in let five = key_place i j j2 to to2 once is.target at.target two in cc
same_number i o _ _ _ _ once once2 (called call j pc k to is) (forked call2 j2 pc2 l to2 at) e = absurd (cc)
same_number i o _ _ _ _ once once2 (called call j pc k to is) (throws b l at) e = absurd (cc)
same_number i o _ _ _ _ once once2 (called call j pc k to is) (stalls b l at) e = absurd (cc)
same_number i o _ _ _ _ once once2 (forked call j pc k to is) (reached b l at) e = absurd (cc)
same_number i o _ _ _ _ once once2 (forked call j pc k to is) (held b q spot2 l oc at oat2) e = absurd (cc)
same_number i o _ _ _ _ once once2 (forked call j pc k to is) (in_cell cell2 there2 q oc at oat2) e = absurd (cc)
same_number i o _ _ _ _ once once2 (forked call j pc k to is) (called call2 j2 pc2 l to2 at) e = absurd (cc)
same_number i o _ _ _ _ once once2 (forked call j pc k to is) (forked call2 j2 pc2 l to2 at) e = let one : k ≡ l = cc in let two : to ≡ to2 = cc in let three : pc ≡ pc2 = cc in let four = same_call call call2 (key_place i call.instance call2.instance k l once is.caller at.caller one) (is.place ∙ three ∙ sym at.place) in let five = key_place i j j2 to to2 once is.target at.target two in cc
same_number i o _ _ _ _ once once2 (forked call j pc k to is) (throws b l at) e = absurd (cc)
same_number i o _ _ _ _ once once2 (forked call j pc k to is) (stalls b l at) e = absurd (cc)
same_number i o _ _ _ _ once once2 (throws a k is) (reached b l at) e = absurd (cc)
same_number i o _ _ _ _ once once2 (throws a k is) (held b q spot2 l oc at oat2) e = absurd (cc)
same_number i o _ _ _ _ once once2 (throws a k is) (in_cell cell2 there2 q oc at oat2) e = absurd (cc)
same_number i o _ _ _ _ once once2 (throws a k is) (called call2 j2 pc2 l to2 at) e = absurd (cc)
same_number i o _ _ _ _ once once2 (throws a k is) (forked call2 j2 pc2 l to2 at) e = absurd (cc)
same_number i o _ _ _ _ once once2 (throws a k is) (throws b l at) e = let one : k ≡ l = cc in let two = key_place i a b k l once is at one in cc
same_number i o _ _ _ _ once once2 (throws a k is) (stalls b l at) e = absurd (cc)
same_number i o _ _ _ _ once once2 (stalls a k is) (reached b l at) e = absurd (cc)
same_number i o _ _ _ _ once once2 (stalls a k is) (held b q spot2 l oc at oat2) e = absurd (cc)
same_number i o _ _ _ _ once once2 (stalls a k is) (in_cell cell2 there2 q oc at oat2) e = absurd (cc)
same_number i o _ _ _ _ once once2 (stalls a k is) (called call2 j2 pc2 l to2 at) e = absurd (cc)
same_number i o _ _ _ _ once once2 (stalls a k is) (forked call2 j2 pc2 l to2 at) e = absurd (cc)
same_number i o _ _ _ _ once once2 (stalls a k is) (throws b l at) e = absurd (cc)
same_number i o _ _ _ _ once once2 (stalls a k is) (stalls b l at) e = let one : k ≡ l = cc in let two = key_place i a b k l once is at one in cc

-- ---- one fact more

pub was_there : {C : Type 0} (facts : List NumberedFact) (i o : List (ℕ × C)) (i2 o2 : List (ℕ × C)) (n : NumberedFact) (f : Fact C) → AreFacts facts i o → Grows i i2 → Grows o o2 → Says i2 o2 n f → Contains facts n → HasFact (lists_of facts i o) f
was_there facts i o i2 o2 n f are g h says there = record { numbered = n; there = there; says = says_back i i2 o o2 n f g h says (are.within n there) }

pub has_number : {C : Type 0} (facts : List NumberedFact) (i o : List (ℕ × C)) (i2 o2 : List (ℕ × C)) (n : NumberedFact) (f : Fact C) → Grows i i2 → Grows o o2 → IsOnceEach i2 → IsOnceEach o2 → Says i2 o2 n f → HasFact (lists_of facts i o) f → Contains facts n
has_number facts i o i2 o2 n f g h once once2 says has =
    subst (λ m. Contains facts m) (same_number i2 o2 has.numbered n f f once once2 (says_on i i2 o o2 has.numbered f g h has.says) says refl) has.there

pub new_facts : {C : Type 0} (facts new : List NumberedFact) (i o i2 o2 : List (ℕ × C)) (n : NumberedFact) (f : Fact C) → AreFacts facts i o → Grows i i2 → Grows o o2 → AppendsEach i (instances_in f) i2 → AppendsEach o (objects_in f) o2 → length i < 2 ^ 31 → length o < 2 ^ 31 → Says i2 o2 n f → AppendsNew facts n new → AreFacts new i2 o2
new_facts facts new i o i2 o2 n f are g h each_i each_o few_i few_o says appends = record {
  within = λ m there. by_place m appends there;
  few_instances = omega (arith, each_length (instances_in f) i i2 each_i, few_instances f, few_i);
  few_objects = omega (arith, each_length (objects_in f) o o2 each_o, few_objects f, few_o);
}
  where
    before : (m : NumberedFact) → Contains facts m → FactWithin (length i2) (length o2) m
    before m there = within_more (length i) (length i2) (length o) (length o2) m (longer i i2 g) (longer o o2 h) (are.within m there)

    by_item : (m : NumberedFact) → Contains facts m ⊎ (m ≡ n) → FactWithin (length i2) (length o2) m
    by_item m (inl there) = before m there
    by_item m (inr same) = subst (FactWithin (length i2) (length o2)) (sym same) (says_within i2 o2 n f says)

    by_place : (m : NumberedFact) → AppendsNew facts n new → Contains new m → FactWithin (length i2) (length o2) m
    by_place m (inl (there, same)) at = before m (subst (λ xs. Contains xs m) same at)
    by_place m (inr (lacks, made)) at = by_item m ((with_one facts n m).0 (subst (λ xs. Contains xs m) made at))

pub facts_exact : {C : Type 0} (facts new : List NumberedFact) (i o i2 o2 : List (ℕ × C)) (n : NumberedFact) (f : Fact C) → AreFacts facts i o → Grows i i2 → Grows o o2 → Says i2 o2 n f → AppendsNew facts n new → (q : Fact C) → HasFact (lists_of new i2 o2) q ↔ (HasFact (lists_of facts i o) q ⊎ (q ≡ f))
facts_exact {C} facts new i o i2 o2 n f are g h says appends q = (back, forth)
  where
    is_there : AppendsNew facts n new → Contains new n
    is_there (inl (there, same)) = subst (λ xs. Contains xs n) (sym same) there
    is_there (inr (lacks, made)) = subst (λ xs. Contains xs n) (sym made) ((with_one facts n n).1 (inr refl))

    stays : (m : NumberedFact) → AppendsNew facts n new → Contains facts m → Contains new m
    stays m (inl (there, same)) at = subst (λ xs. Contains xs m) (sym same) at
    stays m (inr (lacks, made)) at = subst (λ xs. Contains xs m) (sym made) ((with_one facts n m).1 (inl at))

    had : (m : NumberedFact) → AppendsNew facts n new → Contains new m → Contains facts m ⊎ (m ≡ n)
    had m (inl (there, same)) at = inl (subst (λ xs. Contains xs m) same at)
    had m (inr (lacks, made)) at = (with_one facts n m).0 (subst (λ xs. Contains xs m) made at)

    by_place : (m : NumberedFact) → Says i2 o2 m q → Contains facts m ⊎ (m ≡ n) → HasFact (lists_of facts i o) q ⊎ (q ≡ f)
    by_place m says_q (inl there) = inl (was_there facts i o i2 o2 m q are g h says_q there)
    by_place m says_q (inr same) = inr (same_fact i2 o2 m n q f says_q says same)

    back : HasFact (lists_of new i2 o2) q → HasFact (lists_of facts i o) q ⊎ (q ≡ f)
    back has = by_place has.numbered has.says (had has.numbered appends has.there)

    forth : HasFact (lists_of facts i o) q ⊎ (q ≡ f) → HasFact (lists_of new i2 o2) q
    forth (inl has) = record { numbered = has.numbered; there = stays has.numbered appends has.there; says = says_on i i2 o o2 has.numbered q g h has.says }
    forth (inr same) = record { numbered = n; there = is_there appends; says = subst (λ r. Says i2 o2 n r) (sym same) says }

-- ---- answers that say as much

pub if_ok_more : {T E : Type 0} {P Q : T → Type 0} (r : Result T E) → ((t : T) → P t → Q t) → IfOk r P → IfOk r Q
if_ok_more (Ok t) more p = more t p
if_ok_more (Err e) more p = p

pub target_said : {C : Type 0} (i o : List (ℕ × C)) (n : NumberedFact) (key : InstKey C) (pc : ℕ) (to : InstKey C) → IsCallFact i n key pc to false → Says i o n (Target key pc to)
target_said i o n key pc to is = subst (λ m. Says i o m (Target key pc to)) (sym is.is) (called is.call is.target pc key to is.is_call)

pub fork_said : {C : Type 0} (i o : List (ℕ × C)) (n : NumberedFact) (key : InstKey C) (pc : ℕ) (to : InstKey C) → IsCallFact i n key pc to true → Says i o n (Fork key pc to)
fork_said i o n key pc to is = subst (λ m. Says i o m (Fork key pc to)) (sym is.is) (forked is.call is.target pc key to is.is_call)
