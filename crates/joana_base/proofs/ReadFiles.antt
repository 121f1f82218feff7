-- From what single reads say to what reading the files of a program says.
use Rattle.std.proofs.Common.{◌≡◌, ◌∙◌, ℕ, zero, suc, ◌+◌, ◌-◌, ◌<◌, ◌≤◌, ◌^◌, min, Bool, true, false, ◌||◌, List, [], ◌∷◌, ◌++◌, length, drop, get_or, Option, Some, None, IfSome, Result, Err, slice_get, refl, sym, ap, subst, arith}
use Rattle.std.specs.Prelude.{Vec}
use Rattle.std.specs.Str.{IsUtf8}
use Rattle.std.specs.declared.alloc.Global.{Global}
use Rattle.std.proofs.lemmas.Bool.{ltb-false, lt-ltb}
use Rattle.std.proofs.lemmas.List.{append-nil, drop_more, drop_all}
use Rattle.jo_io.specs.Counts.{Rose}
use Rattle.jo_text.specs.Texts.{StopsAt}
use Rattle.joana_base.specs.Files.{Held, ProgramNames, ProgramFiles, listed, paths_of, IsToldAs, AreToldAs, IsThirdToldAs, AreProgramFiles, is_large, are_many, AreReadable, RefusesList, no_text, many_paths, RefusesFiles, too_large, of_list}
use Rattle.joana_base.specs.Reading.{all_bytes, change_of, IsReadBehind, IsProgramRead, AfterReads, AfterRead, IsReadFrom, AfterReadsFrom, AfterListReads, AfterProgramReads, AreToldBehind, third_bytes, ReadsList, ReadsProgram}
use Rattle.joana_base.specs.declared.reading.ProgramFiles as memory
use Rattle.joana_base.specs.declared.reading.FilesBehind.{FilesBehind}
use Rattle.joana_base.specs.declared.answers.Stop.{Stop}
use Rattle.joana_base.specs.declared.answers.Stop.TheVariants.{Faulty, Unread, Memory}
use Rattle.joana_base.specs.declared.status.InputFault.TheVariants.{ClassList}
use Rattle.jo_ids.specs.declared.LimitKind.TheVariants.{M1, M2}
use Rattle.joana_base.specs.declared.status.Refusal.{Refusal}
use Rattle.joana_base.specs.declared.status.Refusal.TheVariants.{Input, Limit}

-- ---- a class list

-- a place in a list that isn't too large is below 2^32
pub list_stop : (list : List ℕ) (at place : ℕ) → is_large list ≡ false → StopsAt IsUtf8 list at → place ≡ min at (2 ^ 32 - 1) → RefusesList list (Input (ClassList place))
list_stop list at place small stops is =
    let below = ltb-false 1048576 (length list) small in
    let inside = stops.inside in
    let same : at ≡ place = omega (arith, is, below, inside) in
    no_text place (subst (StopsAt IsUtf8 list) same stops)

pub too_many : (list : List ℕ) (paths : List (List ℕ)) → IsUtf8 list → paths ≡ paths_of list → 512 < length paths → RefusesList list (Limit M1)
too_many list paths text are more = many_paths text (subst (λ xs. are_many xs ≡ true) are (lt-ltb 512 (length paths) more))

-- what refuses a list doesn't let its paths be read
unread_list : (list : List ℕ) (refusal : Refusal) → RefusesList list refusal → IsUtf8 list → are_many (paths_of list) ≡ false → ⊥
unread_list list _ (no_text place stops) text few = stops.whole text
unread_list list _ (many_paths text many) other few = absurd (cc)

pub few_files : (files : ProgramFiles) → AreReadable files → length files.classes < 2 ^ 32
few_files files ready =
    let below = ltb-false 512 (length (paths_of files.list)) ready.few in
    let each = ready.each in
    omega (arith, below, each)

-- ---- what is held

-- files that hold the same under each name
pub holds_as : (held later : Held) → ((name : List ℕ) → later name ≡ held name) → (name bytes : List ℕ) → IsToldAs later name bytes → IsToldAs held name bytes
holds_as held later same name bytes h = let P : Option (List ℕ) → Type 0 = λ o. IfSome o (λ told. bytes ≡ told) in subst P (same name) h

pub each_holds_as : (held later : Held) → ((name : List ℕ) → later name ≡ held name) → (names files : List (List ℕ)) → AreToldAs later names files → AreToldAs held names files
each_holds_as held later same [] [] h = tt
each_holds_as held later same [] (x ∷ xs) h = absurd h
each_holds_as held later same (n ∷ ns) [] h = absurd h
each_holds_as held later same (n ∷ ns) (x ∷ xs) h = (holds_as held later same n x h.0, each_holds_as held later same ns xs h.1)

pub each_has_one : (held : Held) (names files : List (List ℕ)) → AreToldAs held names files → length files ≡ length names
each_has_one held [] [] h = refl
each_has_one held [] (x ∷ xs) h = absurd h
each_has_one held (n ∷ ns) [] h = absurd h
each_has_one held (n ∷ ns) (x ∷ xs) h = ap suc (each_has_one held ns xs h.1)

later_rose : (old mid new : ℕ) → mid ≡ old → Rose mid new → Rose old new
later_rose old mid new same rose = let P : ℕ → Type 0 = λ n. Rose n new in subst P same rose

or_true : (b : Bool) → (b || true) ≡ true
or_true true = refl
or_true false = refl

pub third_holds_as : (held later : Held) → ((name : List ℕ) → later name ≡ held name) → (third bytes : Option (List ℕ)) → IsThirdToldAs later third bytes → IsThirdToldAs held third bytes
third_holds_as held later same None None h = tt
third_holds_as held later same (Some name) (Some bytes) h = holds_as held later same name bytes h
third_holds_as held later same None (Some bytes) h = absurd h
third_holds_as held later same (Some name) None h = absurd h

abbrev of_parts : List ℕ → List ℕ → Option (List ℕ) → List (List ℕ) → ProgramFiles
of_parts policy list third classes = record { policy = policy; list = list; third = third; classes = classes }

-- ---- reads behind reads that haven't failed

pub reads_on : (T U : Type 0) (A B : ℕ → List ℕ → Type 0) → ((number : ℕ) (name : List ℕ) → A number name → B number name)
    → (held now : Held) (stop : Stop) (before mid after : ℕ) (failed : List ℕ) → mid ≡ before
    → AfterReads {T = T} A (Err stop) (change_of now mid after failed) → AfterReads {T = U} B (Err stop) (change_of held before after failed)
reads_on T U A B names held now (Faulty refusal) before mid after failed same a = a ∙ same
reads_on T U A B names held now (Unread unread) before mid after failed same a = (later_rose before mid after same a.0, names unread.number failed a.1, a.2)
reads_on T U A B names held now Memory before mid after failed same a = omega (arith, same, a)

-- the third file is read before the paths
pub third_first : (third : Option (List ℕ)) (paths : List (List ℕ)) (number : ℕ) (name : List ℕ) → IsReadFrom 2 (listed third) number name → IsReadFrom 2 (listed third ++ paths) number name
third_first None paths number name (k, is, at) = absurd (cc)
third_first (Some file) paths number name (zero, is, at) = (0, is, at)
third_first (Some file) paths number name (suc k, is, at) = absurd (cc)

pub paths_behind : (third : Option (List ℕ)) (paths : List (List ℕ)) (number : ℕ) (name : List ℕ) → IsReadFrom (2 + length (listed third)) paths number name → IsReadFrom 2 (listed third ++ paths) number name
paths_behind None paths number name read = read
paths_behind (Some file) paths number name (k, is, at) = (suc k, omega (arith, is), at)

-- ---- all files of a program

-- what holds where the policy and the list were read
module _ (held : Held) (names : ProgramNames) (policy list : List ℕ) (has_policy : IsToldAs held names.policy policy) (has_list : IsToldAs held names.classes list) where
  pub large_policy : true ≡ is_large policy → (files : ProgramFiles) × AreProgramFiles held names files × RefusesFiles files (Limit M2)
  large_policy large = (
    of_parts policy list None [],
    record { policy = has_policy; list = has_list; behind = λ small _ _ _. absurd (cc) },
    too_large (ap (λ b. b || is_large list) (sym large)),
  )

  pub large_list : true ≡ is_large list → (files : ProgramFiles) × AreProgramFiles held names files × RefusesFiles files (Limit M2)
  large_list large = (
    of_parts policy list None [],
    record { policy = has_policy; list = has_list; behind = λ _ small _ _. absurd (cc) },
    too_large (ap (λ b. is_large policy || b) (sym large) ∙ or_true (is_large policy)),
  )

  -- neither is large; the class files are read after these
  module _ (later : Held) (same : (name : List ℕ) → later name ≡ held name) (small_policy : false ≡ is_large policy) (small_list : false ≡ is_large list) where
    pub program_read : (third : Option (List ℕ)) (classes : List (List ℕ)) → IsUtf8 list × (are_many (paths_of list) ≡ false) × (IsThirdToldAs later names.third third × AreToldAs later (paths_of list) classes)
        → AreReadable (of_parts policy list third classes) × AreProgramFiles held names (of_parts policy list third classes)
    program_read third classes read =
        let each = each_holds_as held later same (paths_of list) classes read.2.1 in
        let third_is = third_holds_as held later same names.third third read.2.0 in (
          record { policy = sym small_policy; list = sym small_list; text = read.0; few = read.1; each = each_has_one held (paths_of list) classes each },
          record { policy = has_policy; list = has_list; behind = λ _ _ _ _. (third_is, each) },
        )

    pub list_stopped : (stop : Stop) → ReadsList later names.third list (Err stop) → ReadsProgram held names (Err stop)
    list_stopped (Faulty refusal) read = (
      of_parts policy list None [],
      record { policy = has_policy; list = has_list; behind = λ _ _ text few. absurd (unread_list list refusal read text few) },
      of_list refusal (sym small_policy) (sym small_list) read,
    )
    list_stopped (Unread unread) read = tt
    list_stopped Memory read = tt

    pub stopped_after : (stop : Stop) (before mid after : ℕ) (failed : List ℕ) → mid ≡ before
        → AfterListReads {T = FilesBehind} names.third list (Err stop) (change_of later mid after failed)
        → AfterProgramReads {T = memory.ProgramFiles} names (Err stop) (change_of held before after failed)
    stopped_after (Faulty refusal) before mid after failed quiet a = a ∙ quiet
    stopped_after (Unread unread) before mid after failed quiet a =
        let path = a.1.3 in
        let P : ℕ → Type 0 = λ n. IsProgramRead held names n failed in
        let second : unread.number ≡ suc (suc path.0) = omega (arith, path.1) in
        let read : IsReadBehind held names path.0 failed = record {
          policy = policy;
          policy_told = has_policy;
          list = list;
          list_told = has_list;
          small_policy = sym small_policy;
          small_list = a.1.0;
          text = a.1.1;
          few = a.1.2;
          path = path.2;
        } in (later_rose before mid after quiet a.0, subst P (sym second) read, a.2)
    stopped_after Memory before mid after failed quiet a = omega (arith, quiet, a)

-- ---- the loop over paths, at one of them

-- what holds at the path with number i: no read has failed, the files hold what they held, and the files read go with paths
pub record PathsRead (held now : Held) (old new : ℕ) (paths : List (List ℕ)) (front : List (Vec ℕ Global)) (i : ℕ) : Type 0 where
  pub quiet : new ≡ old
  pub same : (name : List ℕ) → now name ≡ held name
  pub read : (rest : List (List ℕ)) → AreToldAs held (drop i paths) rest → AreToldAs held paths (all_bytes front ++ rest)

pub path_read : (held now later : Held) (old mid new : ℕ) (paths : List (List ℕ)) (front : List (Vec ℕ Global)) (i : ℕ) (path : List ℕ) (bytes : Vec ℕ Global)
    → i < length paths → path ≡ get_or paths i path → PathsRead held now old mid paths front i → new ≡ mid → ((name : List ℕ) → later name ≡ now name) → IsToldAs now path bytes.items
    → PathsRead held later old new paths (front ++ bytes ∷ []) (i + 1)
path_read held now later old mid new paths front i path bytes below is on quiet same holds =
    let here : drop i paths ≡ path ∷ drop (i + 1) paths = drop_more paths i path below ∙ ap (λ (x : List ℕ). x ∷ drop (i + 1) paths) (sym is) in
    let At : List (List ℕ) → Type 0 = λ ps. (rest : List (List ℕ)) → AreToldAs held ps rest → AreToldAs held paths (all_bytes front ++ rest) in
    let Files : List (List ℕ) → Type 0 = AreToldAs held paths in
    record {
      quiet = quiet ∙ on.quiet;
      same = λ name. same name ∙ on.same name;
      read = λ rest each. subst Files (grown front bytes rest) (subst At here on.read (bytes.items ∷ rest) (holds_as held now on.same path bytes.items holds, each));
    }
  where
    grown : (front : List (Vec ℕ Global)) (bytes : Vec ℕ Global) (rest : List (List ℕ)) → all_bytes front ++ bytes.items ∷ rest ≡ all_bytes (front ++ bytes ∷ []) ++ rest
    grown [] bytes rest = refl
    grown (x ∷ xs) bytes rest = ap (λ (ys : List (List ℕ)). x.items ∷ ys) (grown xs bytes rest)

pub paths_read : (held now : Held) (old new : ℕ) (paths : List (List ℕ)) (front : List (Vec ℕ Global)) (i : ℕ) → length paths ≤ i → PathsRead held now old new paths front i
    → AreToldAs held paths (all_bytes front)
paths_read held now old new paths front i past on =
    let At : List (List ℕ) → Type 0 = λ ps. (rest : List (List ℕ)) → AreToldAs held ps rest → AreToldAs held paths (all_bytes front ++ rest) in
    let Files : List (List ℕ) → Type 0 = AreToldAs held paths in
    subst Files (append-nil (all_bytes front)) (subst At (drop_all i paths past) on.read [] tt)

pub path_stops : (T U : Type 0) (held now : Held) (first : ℕ) (paths : List (List ℕ)) (k : ℕ) (path : List ℕ) (stop : Stop) (before mid after : ℕ) (failed : List ℕ)
    → slice_get paths k ≡ Some path → mid ≡ before → AfterRead {T = T} (k + first) path (Err stop) (change_of now mid after failed)
    → AfterReadsFrom {T = U} first paths (Err stop) (change_of held before after failed)
path_stops T U held now first paths k path stop before mid after failed at same a =
    reads_on T U (λ number name. (number ≡ k + first) × (name ≡ path)) (IsReadFrom first paths) (λ number name is. (k, is.0, at ∙ ap (λ (name : List ℕ). Some name) (sym is.1))) held now stop before mid after failed same a
