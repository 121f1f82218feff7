-- The methods of the prelude's classes in the program of files, and what can't be taken there.
use Rattle.std.proofs.Common.{◌≡◌, ◌∙◌, ℕ, zero, suc, ◌+◌, ◌≤◌, Bool, true, false, ◌&&◌, ◌||◌, not, List, [], ◌∷◌, ◌++◌, map, length, take, Option, Some, None, refl, sym, subst, ap, ◌⊎◌, inl, inr, arith}
use Rattle.std.specs.Prelude.{◌==◌, codes, slice_get, option_map, option_and_then, is_some, if◌then◌else◌}
use Rattle.std.specs.List.{Contains, list_all, list_any}
use Rattle.std.specs.Option.{IsSomeAnd}
use Rattle.std.specs.Str.{bytes_eq}
use Rattle.std.specs.Cmp.Lexicographic.{bytes_decides}
use Rattle.std.proofs.lemmas.Bool.{and_parts, or_cases}
use Rattle.std.proofs.lemmas.List.{length-map}
use Rattle.std.proofs.lemmas.Option.{none-some, same_Some, slice_get-map, slice_get_within}
use Rattle.jo_insn.specs.AccessFlags.{has_flag, static_flag, native_flag, abstract_flag}
use Rattle.class_pool.specs.declared.entries.PoolEntry.{PoolEntry}
use Rattle.class_pool.specs.declared.classes.ClassFile.{ClassFile}
use Rattle.class_pool.specs.declared.classes.CodeInfo.{CodeInfo}
use Rattle.class_pool.specs.declared.classes.MethodInfo.{MethodInfo}
use Rattle.class_pool.specs.ClassGrammar.{HasBody}
use Rattle.jo_prog.specs.declared.calls.Taken.TheVariants.{Code as TakesCode, Start, Join, Native, Nothing}
use Rattle.jo_prog.specs.declared.program.Program.{Program}
use Rattle.jo_prog.specs.declared.program.Class.{Class}
use Rattle.jo_prog.specs.declared.program.Method.{Method}
use Rattle.jo_prog.specs.Calls.{is_machine_method, taken_if, taken_from}
use Rattle.jo_prog.specs.FileClasses.{is_prelude_name, is_file_class, is_of_files}
use Rattle.jo_prog.specs.Hierarchy.{own_method}
use Rattle.jo_prog.specs.PreludeClasses.{thread_number, prelude_names}
use Rattle.jo_prog.specs.Program.{class_at, method_at, has_signature, first_with}
use Rattle.jo_prog.proofs.WalkLemmas.{here, behind, head_or_behind, none_there, at_recursion}
use Rattle.prelude.specs.Classes.{prelude_classes}
use Rattle.linker.specs.declared.causes.LinkCode.TheVariants.{TwiceDefined}
use Rattle.linker.specs.Linking.{this_name, class_of, classes_from, code_of, method_of, methods_from, program_among, linked_classes, program_of}
use Rattle.linker.specs.LinkOrder.{HasNoFault}
use Rattle.linked_laws.specs.Bodies.{HasPreludeMethods}
use Rattle.linked_laws.specs.Files.{HasBodies, IsSoundFile, AreSoundFiles}
use Rattle.linked_laws.proofs.Lists.{each_at, item_behind}
use Rattle.linked_laws.proofs.FileLemmas.{begins_with_prelude, names_begin}
use Rattle.linked_laws.proofs.MemberLemmas.{front_kept, in_front_or_behind, counted, mapped_at}
use Rattle.linked_laws.proofs.MethodFileLemmas.{own_file, owner_of}
use Rattle.linked_laws.proofs.Outlines.{has_outline}
use Rattle.linked_laws.proofs.PoolLemmas.{file_of}
use Rattle.linked_laws.proofs.PreludeSpelled.{Head, head_of, run_head, thread_heads, Spelled, spelled_of, thread_spelled, prelude_spelled, prelude_is_spelled}

never : {X : Type 0} → false ≡ true → X
never e = absurd (cc)

-- ---- each method of the prelude

-- one of java/lang/Thread that the machine runs itself
abbrev is_machines : ℕ → Head → List ℕ → Bool
is_machines c head name = c == thread_number && bytes_eq head.name name && bytes_eq head.desc (codes "()V")

abbrev has_body : ℕ → Head → Bool
has_body c head = head.coded || has_flag abstract_flag head.flags || is_machines c head (codes "start") || is_machines c head (codes "join")

-- in the class with that number: it isn't native, has code or is abstract or the machine's, and those of java/lang/Thread are of instances
abbrev is_fit : ℕ → Head → Bool
is_fit c head = not (has_flag native_flag head.flags) && has_body c head && (not (c == thread_number) || not (has_flag static_flag head.flags))

abbrev are_fit : ℕ → List Spelled → Bool
are_fit c [] = true
are_fit c (s ∷ more) = list_all (is_fit c) s.methods && are_fit (c + 1) more

prelude_fits : are_fit 0 prelude_spelled ≡ true
prelude_fits = refl

fit_at : (c k : ℕ) (spelled : List Spelled) (s : Spelled) → are_fit c spelled ≡ true → slice_get spelled k ≡ Some s → list_all (is_fit (c + k)) s.methods ≡ true
fit_at c k [] s fits at = absurd (none-some s at)
fit_at c zero (x ∷ more) s fits at =
    let number : c ≡ c + 0 = omega arith in
    subst (λ (n : ℕ). list_all (is_fit n) s.methods ≡ true) number (subst (λ (y : Spelled). list_all (is_fit c) y.methods ≡ true) (same_Some x s at) (and_parts (list_all (is_fit c) x.methods) (are_fit (c + 1) more) fits).0)
fit_at c (suc k) (x ∷ more) s fits at =
    let number : c + 1 + k ≡ c + suc k = omega arith in
    subst (λ (n : ℕ). list_all (is_fit n) s.methods ≡ true) number (fit_at (c + 1) k more s (and_parts (list_all (is_fit c) x.methods) (are_fit (c + 1) more) fits).1 at)

-- ---- lists

passes : {X Y : Type 0} (test : Y → Bool) (f : X → Y) (xs : List X) (x : X) → list_all test (map f xs) ≡ true → Contains xs x → test (f x) ≡ true
passes test f [] x all among = absurd (none_there x among)
passes test f (y ∷ ys) x all among =
    let both = and_parts (test (f y)) (list_all test (map f ys)) all in
    elim (head_or_behind y ys x among) [
      | inl same ↦ subst (λ z. test (f z) ≡ true) same both.0
      | inr more ↦ passes test f ys x both.1 more
    ]

contains_early : {X : Type 0} (front rest : List X) (n : ℕ) (x : X) → Contains front x → length front ≤ n → Contains (take n (front ++ rest)) x
contains_early [] rest n x among few = absurd (none_there x among)
contains_early (y ∷ front) rest zero x among few = absurd (omega (arith, few))
contains_early (y ∷ front) rest (suc n) x among few = elim (head_or_behind y front x among) [
  | inl same ↦ subst (λ z. Contains (y ∷ take n (front ++ rest)) z) same (here y (take n (front ++ rest)))
  | inr more ↦ behind y (take n (front ++ rest)) x (contains_early front rest n x more (omega (arith, few)))
]

equal_among : (names : List (List ℕ)) (text : List ℕ) → list_any (λ name. bytes_eq name text) names ≡ true → Contains names text
equal_among [] text is = never is
equal_among (name ∷ more) text is = elim (or_cases (bytes_eq name text) (list_any (λ other. bytes_eq other text) more) is) [
  | inl same ↦ subst (λ (x : List ℕ). Contains (name ∷ more) x) ((bytes_decides name text).0 same) (here name more)
  | inr later ↦ behind name more text (equal_among more text later)
]

-- ---- a method and its head

abbrev head_from : Method → Head
head_from method = record { name = method.name; desc = method.desc; flags = method.flags; coded = is_some method.code }

head_same : (names : List (List ℕ)) (c : ℕ) (pool : List PoolEntry) (info : MethodInfo) → head_from (method_of names c pool info) ≡ head_of pool info
head_same names c pool info = ap (λ (b : Bool). record { name = (head_of pool info).name; desc = (head_of pool info).desc; flags = info.flags; coded = b }) (by_code info.code)
  where
    by_code : (o : Option CodeInfo) → is_some (option_map (code_of names pool) o) ≡ is_some o
    by_code None = refl
    by_code (Some c) = refl

no_not : (b : Bool) → not b ≡ true → b ≡ false
no_not true e = absurd (cc)
no_not false e = refl

-- what isn't taken has no code, isn't the machine's and isn't native
not_taken : (m : ℕ) (a b c d : Bool) → (if a then TakesCode m else if b then Start else if c then Join else if d then Native m else Nothing) ≡ Nothing
    → (a ≡ false) × (b ≡ false) × (c ≡ false) × (d ≡ false)
not_taken m true b c d is = absurd (cc)
not_taken m false true c d is = absurd (cc)
not_taken m false false true d is = absurd (cc)
not_taken m false false false true is = absurd (cc)
not_taken m false false false false is = (refl, refl, refl, refl)

abstract_alone : (a x b c : Bool) → (a || x || b || c) ≡ true → a ≡ false → b ≡ false → c ≡ false → x ≡ true
abstract_alone a true b c some is_a is_b is_c = refl
abstract_alone true false b c some is_a is_b is_c = absurd (cc)
abstract_alone false false true c some is_a is_b is_c = absurd (cc)
abstract_alone false false false true some is_a is_b is_c = absurd (cc)
abstract_alone false false false false some is_a is_b is_c = absurd (cc)

-- ---- of the program of files

prelude_length : length prelude_classes ≡ 23
prelude_length = sym (length-map prelude_classes spelled_of) ∙ ap length prelude_is_spelled

abbrev names : List ClassFile → List (List ℕ)
names files = map this_name (linked_classes files)

-- a method of one of the files
record IsOfFiles (files : List ClassFile) (method : Method) : Type 0 where
  place : ℕ
  class_is : method.class ≡ length prelude_classes + place
  file : ClassFile
  is_file : slice_get files place ≡ Some file
  info : MethodInfo
  is_own : Contains file.methods info
  method_is : method ≡ method_of (names files) method.class file.pool info

module _ (files : List ClassFile) where
  -- a method is one of the prelude, and so fits, or of the files
  by_place : (m : ℕ) (method : Method) → method_at (program_of files) m ≡ Some method → (is_fit method.class (head_from method) ≡ true) ⊎ IsOfFiles files method
  by_place m method is_method =
      let owner = owner_of files m method is_method in
      let (file, info, is_file, flags, among, same) = own_file files method.class m owner.class method owner.is_class owner.lists is_method in
      elim (in_front_or_behind prelude_classes files method.class file is_file) [
        | inl front ↦ inl (
            let drawn : slice_get prelude_spelled method.class ≡ Some (spelled_of file) =
            ap (λ (ss : List Spelled). slice_get ss method.class) (sym prelude_is_spelled) ∙ slice_get-map spelled_of prelude_classes method.class ∙ ap (option_map spelled_of) front in
            let fits = fit_at 0 method.class prelude_spelled (spelled_of file) prelude_fits drawn in
            let number : 0 + method.class ≡ method.class = omega arith in
            let own = passes (is_fit (0 + method.class)) (head_of file.pool) file.methods info fits among in
            let head : head_from method ≡ head_of file.pool info = ap head_from same ∙ head_same (names files) method.class file.pool info in
            subst (λ (n : ℕ). is_fit n (head_from method) ≡ true) number (ap (is_fit (0 + method.class)) head ∙ own)
            )
        | inr (place, number, at) ↦ inr (record { place = place; class_is = number; file = file; is_file = at; info = info; is_own = among; method_is = same })
      ]

  fit_parts : (c : ℕ) (head : Head) → is_fit c head ≡ true → (has_flag native_flag head.flags ≡ false) × (has_body c head ≡ true) × ((not (c == thread_number) || not (has_flag static_flag head.flags)) ≡ true)
  fit_parts c head fits =
      let last = and_parts (not (has_flag native_flag head.flags) && has_body c head) (not (c == thread_number) || not (has_flag static_flag head.flags)) fits in
      let first = and_parts (not (has_flag native_flag head.flags)) (has_body c head) last.0 in
      (no_not (has_flag native_flag head.flags) first.0, first.1, last.1)

  -- ---- what can't be taken

  bare : (names : List (List ℕ)) (pool : List PoolEntry) (flags : ℕ) (o : Option CodeInfo) → HasBody flags o → is_some (option_map (code_of names pool) o) ≡ false → has_flag native_flag flags ≡ false → has_flag abstract_flag flags ≡ true
  bare names pool flags (Some c) body none no_native = never (sym none)
  bare names pool flags None (inl native) none no_native = never (sym no_native ∙ native)
  bare names pool flags None (inr own) none no_native = own

  pub kinds_of_files : AreSoundFiles files → (m : ℕ) (method : Method) → method_at (program_of files) m ≡ Some method → taken_from (program_of files) (Some m) ≡ Nothing → has_flag abstract_flag method.flags ≡ true
  kinds_of_files sound m method is_method none =
      let kinds = not_taken m (is_some method.code) (is_machine_method (codes "start") method) (is_machine_method (codes "join") method) (has_flag native_flag method.flags) (sym (ap (taken_if m) is_method) ∙ none) in
      elim (by_place m method is_method) [
        | inl fits ↦ abstract_alone (is_some method.code) (has_flag abstract_flag method.flags) (is_machine_method (codes "start") method) (is_machine_method (codes "join") method)
            (fit_parts method.class (head_from method) fits).1 kinds.0 kinds.1 kinds.2
        | inr own ↦
            let each : HasBodies own.file = (each_at IsSoundFile files own.place own.file sound own.is_file).bodies in
            let body = at_recursion (λ (info : MethodInfo). HasBody info.flags info.code) own.file.methods own.info each own.is_own in
            let flags : method.flags ≡ own.info.flags = ap (λ (x : Method). x.flags) own.method_is in
            ap (has_flag abstract_flag) flags
            ∙ bare (names files) own.file.pool own.info.flags own.info.code body (sym (ap (λ (x : Method). is_some x.code) own.method_is) ∙ kinds.0) (sym (ap (has_flag native_flag) flags) ∙ kinds.3)
      ]

  -- ---- no class of the files has a name of the prelude's

  own_name : (c place : ℕ) (file : ClassFile) → c ≡ length prelude_classes + place → slice_get files place ≡ Some file → HasNoFault (linked_classes files) → is_prelude_name (this_name file) ≡ true → ⊥
  unfolding is_prelude_name
  own_name c place file number at none is =
      let there : slice_get (names files) c ≡ Some (this_name file) =
      ap (slice_get (names files)) number ∙ slice_get-map this_name (linked_classes files) (length prelude_classes + place) ∙ ap (option_map this_name) (item_behind prelude_classes files place ∙ at) in
      let size = prelude_length in
      let early : Contains (take c (prelude_names ++ map this_name files)) (this_name file) =
      contains_early prelude_names (map this_name files) c (this_name file) (equal_among prelude_names (this_name file) is) (omega (arith, number, size)) in
      none TwiceDefined c (subst (λ (o : Option (List ℕ)). IsSomeAnd o (λ name. Contains (take c (names files)) name)) (sym there)
      (subst (λ (ns : List (List ℕ)). Contains (take c ns) (this_name file)) (sym (names_begin files)) early))

  of_files : HasNoFault (linked_classes files) → (m : ℕ) (method : Method) → method_at (program_of files) m ≡ Some method → IsOfFiles files method → is_of_files (program_of files) method ≡ false → ⊥
  unfolding program_among
  of_files none m method is_method own is =
      let owner = owner_of files m method is_method in
      let by_file = file_of (names files) 0 0 (linked_classes files) method.class owner.class owner.is_class in
      let there : slice_get (linked_classes files) method.class ≡ Some own.file = ap (slice_get (linked_classes files)) own.class_is ∙ item_behind prelude_classes files own.place ∙ own.is_file in
      let name : owner.class.name ≡ this_name own.file = by_file.name_is ∙ ap this_name (same_Some by_file.file own.file (sym by_file.is_file ∙ there)) in
      let is_named : not (is_prelude_name owner.class.name) ≡ false = sym (ap is_file_class owner.is_class) ∙ is in
      own_name method.class own.place own.file own.class_is own.is_file none (sym (ap is_prelude_name name) ∙ not_false (is_prelude_name owner.class.name) is_named)
    where
      not_false : (b : Bool) → not b ≡ false → b ≡ true
      not_false true e = refl
      not_false false e = absurd (cc)

-- ---- java/lang/Thread has a method run

-- a method of a file, among those of its class
numbered : (ns : List (List ℕ)) (first_class field first : ℕ) (files : List ClassFile) (place i : ℕ) (class : Class) (file : ClassFile) (info : MethodInfo)
    → slice_get (classes_from ns field first files) place ≡ Some class → slice_get files place ≡ Some file → slice_get file.methods i ≡ Some info
    → (k : ℕ) × Contains class.methods (first + k) × (slice_get (methods_from ns first_class files) k ≡ Some (method_of ns (first_class + place) file.pool info))
numbered ns first_class field first [] place i class file info is_class is_file at = absurd (none-some file is_file)
numbered ns first_class field first (x ∷ more) zero i class file info is_class is_file at =
    let same : x ≡ file = same_Some x file is_file in
    let own : slice_get x.methods i ≡ Some info = ap (λ (f : ClassFile). slice_get f.methods i) same ∙ at in
    let number : first_class ≡ first_class + 0 = omega arith in
    let there : slice_get (methods_from ns first_class (x ∷ more)) i ≡ Some (method_of ns first_class x.pool info) =
    front_kept (map (method_of ns first_class x.pool) x.methods) (methods_from ns (first_class + 1) more) i (method_of ns first_class x.pool info)
    (slice_get-map (method_of ns first_class x.pool) x.methods i ∙ ap (option_map (method_of ns first_class x.pool)) own) in (
      i,
      subst (λ (c : Class). Contains c.methods (first + i)) (same_Some (class_of ns field first x) class is_class) (counted first (length x.methods) i (slice_get_within x.methods i info own)),
      there ∙ ap (λ (n : ℕ). Some (method_of ns n x.pool info)) number ∙ ap (λ (f : ClassFile). Some (method_of ns (first_class + 0) f.pool info)) same,
    )
numbered ns first_class field first (x ∷ more) (suc place) i class file info is_class is_file at =
    let rest = numbered ns (first_class + 1) (field + length x.fields) (first + length x.methods) more place i class file info is_class is_file at in
    let number : first_class + 1 + place ≡ first_class + suc place = omega arith in (
      length x.methods + rest.0,
      subst (λ (k : ℕ). Contains class.methods k) (omega arith) rest.1,
      ap (λ (k : ℕ). slice_get (methods_from ns first_class (x ∷ more)) k) (ap (λ (n : ℕ). n + rest.0) (sym (length-map x.methods (method_of ns first_class x.pool))))
          ∙ item_behind (map (method_of ns first_class x.pool) x.methods) (methods_from ns (first_class + 1) more) rest.0 ∙ rest.2 ∙ ap (λ (n : ℕ). Some (method_of ns n file.pool info)) number,
    )

has_first : (program : Program) (name desc : List ℕ) (ms : List ℕ) (m : ℕ) → Contains ms m → has_signature name desc (method_at program m) ≡ true → (r : ℕ) × (first_with program name desc ms ≡ Some r)
has_first program name desc [] m among is = absurd (none_there m among)
has_first program name desc (x ∷ xs) m among is = by_test (has_signature name desc (method_at program x)) refl (λ later. has_first program name desc xs m later is)
  where
    by_test : (b : Bool) → has_signature name desc (method_at program x) ≡ b → (Contains xs m → (r : ℕ) × (first_with program name desc xs ≡ Some r))
        → (r : ℕ) × ((if b then Some x else first_with program name desc xs) ≡ Some r)
    by_test true here_is further = (x, refl)
    by_test false other further = elim (head_or_behind x xs m among) [
      | inl same ↦ never (sym other ∙ ap (λ (k : ℕ). has_signature name desc (method_at program k)) same ∙ is)
      | inr later ↦ further later
    ]

own_first : (program : Program) (name desc : List ℕ) (c : ℕ) (class : Class) → class_at program c ≡ Some class → (r : ℕ) × (first_with program name desc class.methods ≡ Some r)
    → (r : ℕ) × (own_method program name desc c ≡ Some r)
own_first program name desc c class is found = (found.0, ap (option_and_then (λ (own : Class). first_with program name desc own.methods)) is ∙ found.1)

run_signed : (ns : List (List ℕ)) (c : ℕ) (pool : List PoolEntry) (info : MethodInfo) (o : Option Method) → o ≡ Some (method_of ns c pool info) → head_of pool info ≡ run_head
    → has_signature (codes "run") (codes "()V") o ≡ true
run_signed ns c pool info o is head = ap (has_signature (codes "run") (codes "()V")) is ∙ ap (λ (h : Head). bytes_eq h.name (codes "run") && bytes_eq h.desc (codes "()V")) head

module _ (files : List ClassFile) where
  thread_run : (r : ℕ) × (own_method (program_of files) (codes "run") (codes "()V") thread_number ≡ Some r)
  unfolding program_among
  thread_run =
      let class = has_outline (program_of files) (begins_with_prelude files) thread_number _ refl in
      let drawn : slice_get (map spelled_of prelude_classes) thread_number ≡ Some thread_spelled = ap (λ (ss : List Spelled). slice_get ss thread_number) prelude_is_spelled in
      let (file, front, spelled) = mapped_at spelled_of prelude_classes thread_number thread_spelled drawn in
      let heads : map (head_of file.pool) file.methods ≡ thread_heads = ap (λ (s : Spelled). s.methods) spelled in
      let (info, at, head) = mapped_at (head_of file.pool) file.methods 2 run_head (ap (λ (hs : List Head). slice_get hs 2) heads) in
      let (k, among, there) = numbered (names files) 0 0 0 (linked_classes files) thread_number 2 class.class file info class.is_there (front_kept prelude_classes files thread_number file front) at in
      let number : 0 + k ≡ k = omega arith in
      let signed : has_signature (codes "run") (codes "()V") (method_at (program_of files) (0 + k)) ≡ true =
      ap (λ (n : ℕ). has_signature (codes "run") (codes "()V") (method_at (program_of files) n)) number ∙ run_signed (names files) (0 + thread_number) file.pool info (method_at (program_of files) k) there head in
      let found = has_first (program_of files) (codes "run") (codes "()V") class.class.methods (0 + k) among signed in
      own_first (program_of files) (codes "run") (codes "()V") thread_number class.class class.is_there found

  pub prelude_methods : HasNoFault (linked_classes files) → HasPreludeMethods (program_of files)
  prelude_methods none = record {
    no_native = λ m method is other. elim (by_place files m method is) [
      | inl fits ↦ (fit_parts files method.class (head_from method) fits).0
      | inr own ↦ absurd (of_files files none m method is own other)
    ];
    thread_instances = λ m method is of_thread. elim (by_place files m method is) [
      | inl fits ↦ instances method of_thread (fit_parts files method.class (head_from method) fits).2
      | inr own ↦ let size = prelude_length in absurd (omega (arith, own.class_is, of_thread, size))
    ];
    thread_run = thread_run;
  }
    where
      instances : (method : Method) → method.class ≡ thread_number → (not (method.class == thread_number) || not (has_flag static_flag method.flags)) ≡ true → has_flag static_flag method.flags ≡ false
      instances method of_thread fits = no_not (has_flag static_flag method.flags) (subst (λ (c : ℕ). (not (c == thread_number) || not (has_flag static_flag method.flags)) ≡ true) of_thread fits)
