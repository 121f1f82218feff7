-- Calls that may take Thread.start: what they name is named so, and it is enough to look at the classes of threads.
use Rattle.std.proofs.Common.{◌≡◌, ℕ, ◌+◌, ◌-◌, ◌<◌, ◌&&◌, ◌||◌, ◌==◌, Bool, true, false, cond, List, [], ◌∷◌, ◌++◌, Option, Some, None, IfSome, is_some, option_and_then, refl, sym, ap, ◌∙◌, subst, rules, codes}
use Rattle.std.specs.List.{filter, list_any}
use Rattle.std.specs.Str.{bytes_eq}
use Rattle.std.proofs.lemmas.List.{append_assoc}
use Rattle.std.proofs.lemmas.Bool.{and_parts, false≢true}
use Rattle.std.proofs.lemmas.Option.{none-some, same_Some}
use Rattle.std.proofs.lemmas.Slice.Eq.{bytes_eq-Decides}
use Rattle.jo_insn.specs.AccessFlags.{has_flag, native_flag}
use Rattle.jo_prog.specs.declared.calls.Taken.TheVariants.{Code, Start, Join, Native, Nothing}
use Rattle.jo_prog.specs.declared.program.Program.{Program}
use Rattle.jo_prog.specs.declared.program.Class.{Class}
use Rattle.jo_prog.specs.declared.program.Method.{Method}
use Rattle.jo_prog.specs.Calls.{is_machine_method, taken_as, taken_if, taken_from, is_taken_as_resolved, special, special_in, superclass_at, takes}
use Rattle.jo_prog.specs.Hierarchy.{is_subtype, own_method, own_instance_method, unless_static, is_static_method, search_from, superclasses, method_order, resolve_method, select}
use Rattle.jo_prog.specs.Numbers.{count_from}
use Rattle.jo_prog.specs.Program.{method_at, class_at, has_signature, first_with}
use Rattle.jo_prog.specs.Starts.{is_start, class_numbers, starts_for, may_start_by}
use Rattle.jo_prog.proofs.WalkLemmas.{is_first}
use Rattle.jo_policy.specs.Threads.{selects_start, thread_classes, is_named_start, HasStartName}
use Rattle.jo_policy.proofs.PolicyParts.{count_from-step}

-- ---- names of what is found

-- the method with that number has this name and descriptor
abbrev pub IsNamed : Program → ℕ → List ℕ → List ℕ → Type 0
IsNamed program m name desc = has_signature name desc (method_at program m) ≡ true

first_named : (program : Program) (name desc : List ℕ) (methods : List ℕ) (m : ℕ) → first_with program name desc methods ≡ Some m → IsNamed program m name desc
first_named program name desc [] m found = absurd (none-some m found)
first_named program name desc (x ∷ xs) m found = by_test (has_signature name desc (method_at program x)) refl found (first_named program name desc xs m)
  where
    by_test : (b : Bool) → has_signature name desc (method_at program x) ≡ b → cond b (Some x) (first_with program name desc xs) ≡ Some m
        → (first_with program name desc xs ≡ Some m → IsNamed program m name desc) → IsNamed program m name desc
    by_test true is found more = subst (λ k. IsNamed program k name desc) (same_Some x m found) is
    by_test false is found more = more found

own_named : (program : Program) (name desc : List ℕ) (c m : ℕ) → own_method program name desc c ≡ Some m → IsNamed program m name desc
own_named program name desc c m found = by_class (class_at program c) found
  where
    by_class : (o : Option Class) → option_and_then (λ (class : Class). first_with program name desc class.methods) o ≡ Some m → IsNamed program m name desc
    by_class None found = absurd (none-some m found)
    by_class (Some class) found = first_named program name desc class.methods m found

pub resolved_named : (program : Program) (c : ℕ) (name desc : List ℕ) (m : ℕ) → resolve_method program c name desc ≡ Some m → IsNamed program m name desc
resolved_named program c name desc m found =
    let at = is_first (own_method program name desc) (method_order program c) m found in
    own_named program name desc at.0 m at.5

instance_named : (program : Program) (name desc : List ℕ) (c m : ℕ) → own_instance_method program name desc c ≡ Some m → IsNamed program m name desc
instance_named program name desc c m found = by_own (own_method program name desc c) refl found
  where
    by_static : (k : ℕ) (b : Bool) → own_method program name desc c ≡ Some k → cond b None (Some k) ≡ Some m → IsNamed program m name desc
    by_static k true own found = absurd (none-some m found)
    by_static k false own found = subst (λ n. IsNamed program n name desc) (same_Some k m found) (own_named program name desc c k own)

    by_own : (o : Option ℕ) → own_method program name desc c ≡ o → option_and_then (unless_static program) o ≡ Some m → IsNamed program m name desc
    by_own None own found = absurd (none-some m found)
    by_own (Some k) own found = by_static k (is_static_method (method_at program k)) own found

searched_named : (program : Program) (c : ℕ) (name desc : List ℕ) (m : ℕ) → search_from program c name desc ≡ Some m → IsNamed program m name desc
searched_named program c name desc m found =
    let at = is_first (own_instance_method program name desc) (superclasses program c) m found in
    instance_named program name desc at.0 m at.5

-- ---- Thread.start has its name

by_kind : (m : ℕ) (code start join native : Bool) → is_start (cond code (Code m) (cond start Start (cond join Join (cond native (Native m) Nothing)))) ≡ true → start ≡ true
by_kind m true start join native is = absurd (false≢true is)
by_kind m false true join native is = refl
by_kind m false false true native is = absurd (false≢true is)
by_kind m false false false true is = absurd (false≢true is)
by_kind m false false false false is = absurd (false≢true is)

start_is_named : (m : ℕ) (method : Method) → is_start (taken_as m method) ≡ true → is_named_start method.name method.desc ≡ true
start_is_named m method is =
    let machine = by_kind m (is_some method.code) (is_machine_method (codes "start") method) (is_machine_method (codes "join") method) (has_flag native_flag method.flags) is in
    named_part machine
  where
    named_part : is_machine_method (codes "start") method ≡ true → is_named_start method.name method.desc ≡ true
    named_part machine = search rules

same_names : (method : Method) (name desc : List ℕ) → (bytes_eq method.name name && bytes_eq method.desc desc) ≡ true → is_named_start method.name method.desc ≡ true → is_named_start name desc ≡ true
same_names method name desc same is =
    let (one, other) = and_parts (bytes_eq method.name name) (bytes_eq method.desc desc) same in
    let n : method.name ≡ name = (bytes_eq-Decides method.name name).0 one in
    let d : method.desc ≡ desc = (bytes_eq-Decides method.desc desc).0 other in
    subst (λ n. is_named_start n desc ≡ true) n (subst (λ d. is_named_start method.name d ≡ true) d is)

-- a method with this name that is Thread.start makes the name that of Thread.start
taken_named : (program : Program) (m : ℕ) (name desc : List ℕ) → IsNamed program m name desc → is_start (taken_from program (Some m)) ≡ true → is_named_start name desc ≡ true
taken_named program m name desc named is = by_method (method_at program m) named is
  where
    by_method : (o : Option Method) → has_signature name desc o ≡ true → is_start (taken_if m o) ≡ true → is_named_start name desc ≡ true
    by_method None named is = absurd (false≢true named)
    by_method (Some method) named is = same_names method name desc named (start_is_named m method is)

found_is_named : (program : Program) (name desc : List ℕ) (o : Option ℕ) → IfSome o (λ m. IsNamed program m name desc) → is_start (taken_from program o) ≡ true → is_named_start name desc ≡ true
found_is_named program name desc None named is = absurd (false≢true is)
found_is_named program name desc (Some m) named is = taken_named program m name desc named is

searched_is_named : (program : Program) (c : ℕ) (name desc : List ℕ) → is_start (taken_from program (search_from program c name desc)) ≡ true → is_named_start name desc ≡ true
searched_is_named program c name desc is = found_is_named program name desc (search_from program c name desc) (named_if (search_from program c name desc) refl) is
  where
    named_if : (o : Option ℕ) → search_from program c name desc ≡ o → IfSome o (λ m. IsNamed program m name desc)
    named_if None e = tt
    named_if (Some m) e = searched_named program c name desc m e

-- a search for the name of a method with this one
by_search : (program : Program) (m c : ℕ) (name desc : List ℕ) (method : Method) → (bytes_eq method.name name && bytes_eq method.desc desc) ≡ true
    → is_start (taken_from program (search_from program c method.name method.desc)) ≡ true → is_named_start name desc ≡ true
by_search program m c name desc method same is = same_names method name desc same (searched_is_named program c method.name method.desc is)

selected_named : (program : Program) (receiver m : ℕ) (name desc : List ℕ) → IsNamed program m name desc → is_start (taken_from program (select program receiver m)) ≡ true → is_named_start name desc ≡ true
selected_named program receiver m name desc named is = by_method (method_at program m) named is
  where
    by_method : (o : Option Method) → has_signature name desc o ≡ true → is_start (taken_from program (option_and_then (λ (method : Method). search_from program receiver method.name method.desc) o)) ≡ true
        → is_named_start name desc ≡ true
    by_method None named is = absurd (false≢true is)
    by_method (Some method) named is = by_search program m receiver name desc method named is

special_named : (program : Program) (current m : ℕ) (name desc : List ℕ) → IsNamed program m name desc → is_start (taken_from program (special program current m)) ≡ true → is_named_start name desc ≡ true
special_named program current m name desc named is = by_method (method_at program m) refl named is
  where
    by_super : (method : Method) (c : Option ℕ) → has_signature name desc (Some method) ≡ true
        → is_start (taken_from program (option_and_then (λ c. search_from program c method.name method.desc) c)) ≡ true → is_named_start name desc ≡ true
    by_super method None named is = absurd (false≢true is)
    by_super method (Some c) named is = by_search program m c name desc method named is

    by_test : (method : Method) (b : Bool) → method_at program m ≡ Some method → has_signature name desc (Some method) ≡ true
        → is_start (taken_from program (cond b (Some m) (option_and_then (λ c. search_from program c method.name method.desc) (superclass_at program current)))) ≡ true → is_named_start name desc ≡ true
    by_test method true at named is = taken_named program m name desc (subst (λ o. has_signature name desc o ≡ true) (sym at) named) is
    by_test method false at named is = by_super method (superclass_at program current) named is

    by_method : (o : Option Method) → method_at program m ≡ o → has_signature name desc o ≡ true → is_start (taken_from program (special_in program current m o)) ≡ true → is_named_start name desc ≡ true
    by_method None at named is = absurd (false≢true named)
    by_method (Some method) at named is = by_test method (is_taken_as_resolved current method) at named is

takes_named : (program : Program) (op current m receiver : ℕ) (name desc : List ℕ) → IsNamed program m name desc → is_start (takes program op current m receiver) ≡ true → is_named_start name desc ≡ true
takes_named program op current m receiver name desc named is = by_op (op == 184) (op == 183) is
  where
    by_op : (static special_one : Bool)
        → is_start (cond static (taken_from program (Some m)) (cond special_one (taken_from program (special program current m)) (taken_from program (select program receiver m)))) ≡ true
        → is_named_start name desc ≡ true
    by_op true special_one is = taken_named program m name desc named is
    by_op false true is = special_named program current m name desc named is
    by_op false false is = selected_named program receiver m name desc named is

-- ---- a call of another name takes no Thread.start

false_unless : (b c : Bool) → (b ≡ true → c ≡ true) → c ≡ false → b ≡ false
false_unless true c f e = sym (f refl) ∙ e
false_unless false c f e = refl

any_none : (p : ℕ → Bool) (xs : List ℕ) → ((x : ℕ) → p x ≡ false) → list_any p xs ≡ false
any_none p [] none = refl
any_none p (x ∷ xs) none = rw (none x) (any_none p xs none)

pub no_start : (program : Program) (op current named : ℕ) (name desc : List ℕ) → is_named_start name desc ≡ false
    → may_start_by program op current named (resolve_method program named name desc) ≡ false
no_start program op current named name desc other = by_found (resolve_method program named name desc) refl
  where
    none_for : (m : ℕ) → IsNamed program m name desc → (k : ℕ) → is_start (takes program op current m k) ≡ false
    none_for m is k = false_unless (is_start (takes program op current m k)) (is_named_start name desc) (takes_named program op current m k name desc is) other

    with_false : (b c : Bool) → c ≡ false → (b && c) ≡ false
    with_false true c e = e
    with_false false c e = refl

    by_op : (m : ℕ) (one : Bool) → IsNamed program m name desc
        → cond one (is_start (takes program op current m named)) (list_any (starts_for program op current named m) (class_numbers program)) ≡ false
    by_op m true is = none_for m is named
    by_op m false is = any_none (starts_for program op current named m) (class_numbers program) (λ k. with_false (is_subtype program k named) _ (none_for m is k))

    by_found : (o : Option ℕ) → resolve_method program named name desc ≡ o → may_start_by program op current named o ≡ false
    by_found None found = refl
    by_found (Some m) found = by_op m (op == 183 || op == 184) (resolved_named program named name desc m found)

-- ---- only classes of threads take it

any_filtered : (p q : ℕ → Bool) (xs : List ℕ) → list_any p (filter q xs) ≡ list_any (λ k. p k && q k) xs
any_filtered p q [] = refl
any_filtered p q (x ∷ xs) = by_test (q x) (any_filtered p q xs)
  where
    added : (c : Bool) (one other : Bool) → one ≡ other → (c || one) ≡ ((c && true) || other)
    added true one other more = refl
    added false one other more = more

    passed : (c : Bool) (one other : Bool) → one ≡ other → one ≡ ((c && false) || other)
    passed true one other more = more
    passed false one other more = more

    by_test : (b : Bool) → list_any p (filter q xs) ≡ list_any (λ k. p k && q k) xs
        → list_any p (cond b (x ∷ filter q xs) (filter q xs)) ≡ ((p x && b) || list_any (λ k. p k && q k) xs)
    by_test true more = added (p x) (list_any p (filter q xs)) (list_any (λ k. p k && q k) xs) more
    by_test false more = passed (p x) (list_any p (filter q xs)) (list_any (λ k. p k && q k) xs) more

any_same : (p q : ℕ → Bool) (xs : List ℕ) → ((x : ℕ) → p x ≡ q x) → list_any p xs ≡ list_any q xs
any_same p q [] same = refl
any_same p q (x ∷ xs) same = rw (same x) (ap (λ b. q x || b) (any_same p q xs same))

-- what is selected for a method with the name of Thread.start
selects_alike : (program : Program) (k m : ℕ) → HasStartName program m → is_start (taken_from program (select program k m)) ≡ selects_start program k
unfolding selects_start
selects_alike program k m named = by_method (method_at program m) named
  where
    by_names : (method : Method) → method.name ≡ codes "start" → method.desc ≡ codes "()V"
        → is_start (taken_from program (search_from program k method.name method.desc)) ≡ is_start (taken_from program (search_from program k (codes "start") (codes "()V")))
    by_names method name desc =
        ap (λ (n : List ℕ). is_start (taken_from program (search_from program k n method.desc))) name
        ∙ ap (λ (d : List ℕ). is_start (taken_from program (search_from program k (codes "start") d))) desc

    by_method : (o : Option Method) → has_signature (codes "start") (codes "()V") o ≡ true
        → is_start (taken_from program (option_and_then (λ (method : Method). search_from program k method.name method.desc) o)) ≡ is_start (taken_from program (search_from program k (codes "start") (codes "()V")))
    by_method None named = absurd (false≢true named)
    by_method (Some method) named =
        let (one, other) = and_parts (bytes_eq method.name (codes "start")) (bytes_eq method.desc (codes "()V")) named in
        by_names method ((bytes_eq-Decides method.name (codes "start")).0 one) ((bytes_eq-Decides method.desc (codes "()V")).0 other)

no_either : (b c : Bool) → (b || c) ≡ false → (b ≡ false) × (c ≡ false)
no_either true c e = absurd (false≢true (sym e))
no_either false c e = (refl, e)

-- a call that isn't one of these two takes what its receiver selects
takes_selected : (program : Program) (op current m receiver : ℕ) → (op == 183) ≡ false → (op == 184) ≡ false → takes program op current m receiver ≡ taken_from program (select program receiver m)
takes_selected program op current m receiver special_one static = rw (static, special_one) refl

pub by_threads : (program : Program) (op current named m : ℕ) (found : Bool) → (op == 183 || op == 184) ≡ false → HasStartName program m
    → found ≡ list_any (λ k. is_subtype program k named) (thread_classes program) → found ≡ may_start_by program op current named (Some m)
by_threads program op current named m found other start is =
    let (special_one, static) = no_either (op == 183) (op == 184) other in
    let alike : (k : ℕ) → (is_subtype program k named && selects_start program k) ≡ starts_for program op current named m k = λ k.
    ap (λ b. is_subtype program k named && b) (sym (ap is_start (takes_selected program op current m k special_one static) ∙ selects_alike program k m start)) in
    let all : list_any (λ k. is_subtype program k named) (thread_classes program) ≡ list_any (starts_for program op current named m) (class_numbers program) =
    any_filtered (λ k. is_subtype program k named) (selects_start program) (class_numbers program)
    ∙ any_same (λ k. is_subtype program k named && selects_start program k) (starts_for program op current named m) (class_numbers program) alike in
    is ∙ all ∙ sym (ap (λ b. cond b (is_start (takes program op current m named)) (list_any (starts_for program op current named m) (class_numbers program))) other)

-- the names that a call of Thread.start names
pub start_named : (program : Program) (c m : ℕ) (name desc : List ℕ) → is_named_start name desc ≡ true → resolve_method program c name desc ≡ Some m → HasStartName program m
start_named program c m name desc named found =
    let (one, other) = and_parts (bytes_eq name (codes "start")) (bytes_eq desc (codes "()V")) named in
    subst (λ n. IsNamed program m n (codes "()V")) ((bytes_eq-Decides name (codes "start")).0 one)
    (subst (λ d. IsNamed program m name d) ((bytes_eq-Decides desc (codes "()V")).0 other) (resolved_named program c name desc m found))

-- ---- the classes of threads, one behind another

thread_step : (test : ℕ → Bool) (k n : ℕ) (b : Bool) → k < n → test k ≡ b → filter test (count_from k (n - k)) ≡ cond b (k ∷ filter test (count_from (k + 1) (n - (k + 1)))) (filter test (count_from (k + 1) (n - (k + 1))))
thread_step test k n b below is =
    ap (filter test) (count_from-step k n below) ∙ ap (λ c. cond c (k ∷ filter test (count_from (k + 1) (n - (k + 1)))) (filter test (count_from (k + 1) (n - (k + 1))))) is

pub thread_added : (test : ℕ → Bool) (old new whole : List ℕ) (k n : ℕ) → k < n → test k ≡ true → new ≡ old ++ k ∷ [] → old ++ filter test (count_from k (n - k)) ≡ whole
    → new ++ filter test (count_from (k + 1) (n - (k + 1))) ≡ whole
thread_added test old new whole k n below is added so_far =
    ap (λ xs. xs ++ filter test (count_from (k + 1) (n - (k + 1)))) added ∙ append_assoc old (k ∷ []) (filter test (count_from (k + 1) (n - (k + 1))))
    ∙ sym (ap (λ xs. old ++ xs) (thread_step test k n true below is)) ∙ so_far

pub thread_passed : (test : ℕ → Bool) (old whole : List ℕ) (k n : ℕ) → k < n → test k ≡ false → old ++ filter test (count_from k (n - k)) ≡ whole
    → old ++ filter test (count_from (k + 1) (n - (k + 1))) ≡ whole
thread_passed test old whole k n below is so_far = sym (ap (λ xs. old ++ xs) (thread_step test k n false below is)) ∙ so_far
