-- The sites of a program are in order: those before a place come first. So a search may begin and end by that order.
use Rattle.std.proofs.Common.{◌≡◌, ◌<◌, ◌≤◌, ◌+◌, ℕ, zero, suc, Bool, true, false, List, [], ◌∷◌, ◌++◌, length, drop, get_or, Option, Some, None, Ok, Err, refl, sym, subst, ap, ◌∙◌, ◌⊎◌, inl, inr, arith}
use Rattle.std.specs.Prelude.{◌&&◌, ◌==◌, ◌^◌, nat_lt, if◌then◌else◌, Result}
use Rattle.std.specs.List.{position_from, AllByRecursion, AllWithin}
use Rattle.std.specs.List.Sorted.{IsPartitionedBy}
use Rattle.std.proofs.lemmas.Bool.{cases_lt}
use Rattle.std.proofs.lemmas.Bool.Decides.{nat_tests}
use Rattle.std.proofs.lemmas.List.{get_or-drop, length-drop}
use Rattle.jo_insn.specs.Instructions.{decoded}
use Rattle.jo_insn.specs.declared.instructions.Insn.{Insn}
use Rattle.jo_insn.specs.declared.instructions.InsnFault.{InsnFault}
use Rattle.jo_insn.specs.declared.jumps.Placed.{Placed}
use Rattle.jo_insn.proofs.DecodedMoves.{decoded-moves}
use Rattle.jo_prog.specs.declared.program.Code.{Code}
use Rattle.jo_prog.specs.declared.program.Method.{Method}
use Rattle.jo_prog.specs.declared.sites.Cause.{Cause}
use Rattle.jo_prog.specs.declared.sites.Site.{Site}
use Rattle.jo_prog.specs.declared.sites.Site.TheVariants.{Text, Args, Alloc, Call, Raise}
use Rattle.jo_prog.specs.Operations.{within}
use Rattle.jo_prog.specs.Sites.{opcode_of, class_raised, may_raise, causes, followed, insns_from, insns_in, made_at, raised_among, insn_sites, sites_among, sites_of_method, sites_behind, sites_of, is_site}
use Rattle.jo_prog.specs.SiteOrder.{comes_before, is_before, IsInOrder}

-- ---- lists whose first items alone pass a test

pub data Falls {X : Type 0} (test : X → Bool) : List X → Type 0 where
  behind : (xs : List X) → AllByRecursion (λ x. test x ≡ false) xs → Falls test xs
  passed : (x : X) (xs : List X) → test x ≡ true → Falls test xs → Falls test (x ∷ xs)

both : {X : Type 0} (P : X → Type 0) (xs ys : List X) → AllByRecursion P xs → AllByRecursion P ys → AllByRecursion P (xs ++ ys)
both P [] ys a b = b
both P (x ∷ xs) ys a b = (a.0, both P xs ys a.1 b)

put_before : {X : Type 0} (test : X → Bool) (xs ys : List X) → AllByRecursion (λ x. test x ≡ true) xs → Falls test ys → Falls test (xs ++ ys)
put_before test [] ys a b = b
put_before test (x ∷ xs) ys a b = passed x (xs ++ ys) a.0 (put_before test xs ys a.1 b)

put_behind : {X : Type 0} (test : X → Bool) (xs ys : List X) → Falls test xs → AllByRecursion (λ x. test x ≡ false) ys → Falls test (xs ++ ys)
put_behind test xs ys (behind _ none) b = behind (xs ++ ys) (both (λ x. test x ≡ false) xs ys none b)
put_behind test _ ys (passed x xs is more) b = passed x (xs ++ ys) is (put_behind test xs ys more b)

at_index : {X : Type 0} (P : X → Type 0) (xs : List X) (j : ℕ) (d : X) → AllByRecursion P xs → j < length xs → P (get_or xs j d)
at_index P [] j d all below = absurd (omega arith)
at_index P (x ∷ xs) zero d all below = all.0
at_index P (x ∷ xs) (suc j) d all below = at_index P xs j d all.1 (omega arith)

is_partitioned : {X : Type 0} (test : X → Bool) (xs : List X) → Falls test xs → IsPartitionedBy test xs
is_partitioned test xs (behind _ none) i j d upto below is = let fails = at_index (λ x. test x ≡ false) xs j d none below in absurd (cc)
is_partitioned test _ (passed x xs first more) zero j d upto below is = first
is_partitioned test _ (passed x xs first more) (suc i) zero d upto below is = absurd (omega arith)
is_partitioned test _ (passed x xs first more) (suc i) (suc j) d upto below is = is_partitioned test xs more i j d (omega arith) (omega arith) is

-- ---- the sites of an instruction all stand at its pc

module _ (m place : ℕ) where
  abbrev At : Bool → Site → Type 0
  At b site = is_before m place site ≡ b

  all_raised : (method pc op : ℕ) (b : Bool) (among : List Cause) → comes_before m place method pc ≡ b → AllByRecursion (At b) (raised_among method pc op among)
  all_raised method pc op b [] is = tt
  all_raised method pc op b (cause ∷ more) is = by_cause (may_raise cause op) (all_raised method pc op b more is)
    where
      by_cause : (raises : Bool) → AllByRecursion (At b) (raised_among method pc op more)
          → AllByRecursion (At b) (if raises then Raise method pc (class_raised cause) ∷ raised_among method pc op more else raised_among method pc op more)
      by_cause true rest = (is, rest)
      by_cause false rest = rest

  all_made : (method pc op : ℕ) (b : Bool) → comes_before m place method pc ≡ b → AllByRecursion (At b) (made_at method pc op)
  all_made method pc op b is = by_kind (within 187 189 op) (within 182 185 op)
    where
      by_kind : (makes calls : Bool) → AllByRecursion (At b) (if makes then Alloc method pc ∷ [] else if calls then Call method pc ∷ [] else [])
      by_kind true calls = (is, tt)
      by_kind false true = (is, tt)
      by_kind false false = tt

  all_at : (method : ℕ) (placed : Placed) (b : Bool) → comes_before m place method placed.pc ≡ b → AllByRecursion (At b) (insn_sites method placed)
  all_at method placed b is = both (At b) (made_at method placed.pc (opcode_of placed.insn)) (raised_among method placed.pc (opcode_of placed.insn) causes)
      (all_made method placed.pc (opcode_of placed.insn) b is) (all_raised method placed.pc (opcode_of placed.insn) b causes is)

  -- ---- methods before and behind that of the place

  all_among : (method : ℕ) (b : Bool) → ((pc : ℕ) → comes_before m place method pc ≡ b) → (insns : List Placed) → AllByRecursion (At b) (sites_among method insns)
  all_among method b is [] = tt
  all_among method b is (placed ∷ more) = both (At b) (insn_sites method placed) (sites_among method more) (all_at method placed b (is placed.pc)) (all_among method b is more)

  all_in : (method : ℕ) (b : Bool) → ((pc : ℕ) → comes_before m place method pc ≡ b) → (code : Option Code) → AllByRecursion (At b) (sites_of_method method code)
  all_in method b is None = tt
  all_in method b is (Some code) = by_size (nat_lt (length code.bytes) (2 ^ 16))
    where
      by_size : (short : Bool) → AllByRecursion (At b) (if short then sites_among method (insns_in code.bytes) else [])
      by_size true = all_among method b is (insns_in code.bytes)
      by_size false = tt

  earlier : (method pc : ℕ) → method < m → comes_before m place method pc ≡ true
  earlier method pc below = grind (arith, nat_tests)

  later : (method pc : ℕ) → m < method → comes_before m place method pc ≡ false
  later method pc above = grind (arith, nat_tests)

  -- ---- the method itself

  same_before : (pc : ℕ) → pc < place → comes_before m place m pc ≡ true
  same_before pc below = grind (arith, nat_tests)

  same_behind : (pc : ℕ) → place ≤ pc → comes_before m place m pc ≡ false
  same_behind pc upto = grind (arith, nat_tests)

  none_on : (k : ℕ) (bytes : List ℕ) (pc : ℕ) → place ≤ pc → AllByRecursion (At false) (sites_among m (insns_from k bytes pc))
  unfolding insns_from
  none_on zero bytes pc upto = tt
  none_on (suc k) bytes pc upto = by_insn (λ next past. none_on k bytes next past) (decoded bytes pc) refl
    where
      by_insn : ((next : ℕ) → place ≤ next → AllByRecursion (At false) (sites_among m (insns_from k bytes next))) → (found : Result (Insn × ℕ) InsnFault) → decoded bytes pc ≡ found → AllByRecursion (At false) (sites_among m (followed pc found (insns_from k bytes)))
      by_insn rest (Err fault) is = tt
      by_insn rest (Ok (insn, next)) is =
          let moves = decoded-moves bytes pc next insn is in
          let here : Placed = record { pc = pc; insn = insn; next = next } in
          both (At false) (insn_sites m here) (sites_among m (insns_from k bytes next)) (all_at m here false (same_behind pc upto)) (rest next (omega arith))

  falls_on : (k : ℕ) (bytes : List ℕ) (pc : ℕ) → Falls (is_before m place) (sites_among m (insns_from k bytes pc))
  unfolding insns_from
  falls_on zero bytes pc = behind [] tt
  falls_on (suc k) bytes pc = by_insn (λ next. falls_on k bytes next) (decoded bytes pc) refl
    where
      by_place : (pc next : ℕ) (insn : Insn) → pc < next → Falls (is_before m place) (sites_among m (insns_from k bytes next)) → (pc < place) ⊎ (place ≤ pc)
          → Falls (is_before m place) (insn_sites m (record { pc = pc; insn = insn; next = next }) ++ sites_among m (insns_from k bytes next))
      by_place pc next insn moves rest (inl below) =
          let here : Placed = record { pc = pc; insn = insn; next = next } in
          put_before (is_before m place) (insn_sites m here) (sites_among m (insns_from k bytes next)) (all_at m here true (same_before pc below)) rest
      by_place pc next insn moves rest (inr upto) =
          let here : Placed = record { pc = pc; insn = insn; next = next } in
          behind (insn_sites m here ++ sites_among m (insns_from k bytes next))
          (both (At false) (insn_sites m here) (sites_among m (insns_from k bytes next)) (all_at m here false (same_behind pc upto)) (none_on k bytes next (omega arith)))

      by_insn : ((next : ℕ) → Falls (is_before m place) (sites_among m (insns_from k bytes next))) → (found : Result (Insn × ℕ) InsnFault) → decoded bytes pc ≡ found
          → Falls (is_before m place) (sites_among m (followed pc found (insns_from k bytes)))
      by_insn rest (Err fault) is = behind [] tt
      by_insn rest (Ok (insn, next)) is = by_place pc next insn (decoded-moves bytes pc next insn is).0 (rest next) (cases_lt pc place)

  falls_in : (code : Option Code) → Falls (is_before m place) (sites_of_method m code)
  falls_in None = behind [] tt
  falls_in (Some code) = by_size (nat_lt (length code.bytes) (2 ^ 16))
    where
      by_size : (short : Bool) → Falls (is_before m place) (if short then sites_among m (insns_in code.bytes) else [])
      by_size true = falls_on (length code.bytes) code.bytes 0
      by_size false = behind [] tt

  -- ---- all methods

  none_behind : (number : ℕ) (methods : List Method) → m < number → AllByRecursion (At false) (sites_behind number methods)
  none_behind number [] above = tt
  none_behind number (method ∷ methods) above = both (At false) (sites_of_method number method.code) (sites_behind (number + 1) methods)
      (all_in number false (λ pc. later number pc above) method.code) (none_behind (number + 1) methods (omega arith))

  falls_behind : (number : ℕ) (methods : List Method) → Falls (is_before m place) (sites_behind number methods)
  falls_behind number [] = behind [] tt
  falls_behind number (method ∷ methods) = by_number (falls_behind (number + 1) methods) (cases_lt number m) (cases_lt m number)
    where
      by_number : Falls (is_before m place) (sites_behind (number + 1) methods) → (number < m) ⊎ (m ≤ number) → (m < number) ⊎ (number ≤ m) → Falls (is_before m place) (sites_of_method number method.code ++ sites_behind (number + 1) methods)
      by_number rest (inl below) other = put_before (is_before m place) (sites_of_method number method.code) (sites_behind (number + 1) methods)
          (all_in number true (λ pc. earlier number pc below) method.code) rest
      by_number rest (inr upto) (inl above) = behind (sites_of_method number method.code ++ sites_behind (number + 1) methods)
          (both (At false) (sites_of_method number method.code) (sites_behind (number + 1) methods)
          (all_in number false (λ pc. later number pc above) method.code) (none_behind (number + 1) methods (omega arith)))
      by_number rest (inr upto) (inr from) =
          let same : m ≡ number = omega arith in
          put_behind (is_before m place) (sites_of_method number method.code) (sites_behind (number + 1) methods)
          (subst (λ n. Falls (is_before m place) (sites_of_method n method.code)) same (falls_in method.code)) (none_behind (number + 1) methods (omega arith))

  falls_all : (methods : List Method) → Falls (is_before m place) (sites_of methods)
  unfolding sites_of
  falls_all methods = passed Text (Args ∷ sites_behind 0 methods) refl (passed Args (sites_behind 0 methods) refl (falls_behind 0 methods))

pub in_order : (methods : List Method) → IsInOrder (sites_of methods)
in_order methods m place = is_partitioned (is_before m place) (sites_of methods) (falls_all m place methods)

-- ---- where a search may begin and end

at_no_earlier : (m place method pc : ℕ) → comes_before m place method pc ≡ true → (method == m && pc == place) ≡ false
at_no_earlier m place method pc is = grind (arith, nat_tests)

at_no_later : (m place method pc : ℕ) → comes_before m (place + 1) method pc ≡ false → (method == m && pc == place) ≡ false
at_no_later m place method pc is = grind (arith, nat_tests)

and_more : (a b c : Bool) → (a && b) ≡ false → (a && b && c) ≡ false
and_more true true c is = absurd (cc)
and_more true false c is = refl
and_more false b c is = refl

before_fails : (m place : ℕ) (raised : Option ℕ) (site : Site) → is_before m place site ≡ true → is_site m place raised site ≡ false
before_fails m place None Text is = refl
before_fails m place None Args is = refl
before_fails m place None (Alloc method pc) is = at_no_earlier m place method pc is
before_fails m place None (Call method pc) is = at_no_earlier m place method pc is
before_fails m place None (Raise method pc class) is = refl
before_fails m place (Some raised) Text is = refl
before_fails m place (Some raised) Args is = refl
before_fails m place (Some raised) (Alloc method pc) is = refl
before_fails m place (Some raised) (Call method pc) is = refl
before_fails m place (Some raised) (Raise method pc class) is = and_more (method == m) (pc == place) (class == raised) (at_no_earlier m place method pc is)

behind_fails : (m place : ℕ) (raised : Option ℕ) (site : Site) → is_before m (place + 1) site ≡ false → is_site m place raised site ≡ false
behind_fails m place None Text is = refl
behind_fails m place None Args is = refl
behind_fails m place None (Alloc method pc) is = at_no_later m place method pc is
behind_fails m place None (Call method pc) is = at_no_later m place method pc is
behind_fails m place None (Raise method pc class) is = refl
behind_fails m place (Some raised) Text is = refl
behind_fails m place (Some raised) Args is = refl
behind_fails m place (Some raised) (Alloc method pc) is = refl
behind_fails m place (Some raised) (Call method pc) is = refl
behind_fails m place (Some raised) (Raise method pc class) is = and_more (method == m) (pc == place) (class == raised) (at_no_later m place method pc is)

skip : {X : Type 0} (test : X → Bool) (xs : List X) (n i : ℕ) → i ≤ length xs → AllWithin (λ x. test x ≡ false) xs 0 i → position_from test (n + i) (drop i xs) ≡ position_from test n xs
skip test xs n zero within none = ap (λ k. position_from test k xs) (omega arith)
skip test [] n (suc i) within none = absurd (omega arith)
skip test (x ∷ xs) n (suc i) within none =
    let first : test x ≡ false = none 0 x (omega arith) (omega arith) in
    let more = skip test xs (n + 1) i (omega arith) (λ k d low high. none (suc k) d (omega arith) (omega arith)) in
    rw first (ap (λ k. position_from test k (drop i xs)) (omega arith) ∙ more)

none_more : {X : Type 0} (test : X → Bool) (xs : List X) (n : ℕ) → ((k : ℕ) (d : X) → k < length xs → test (get_or xs k d) ≡ false) → position_from test n xs ≡ None
none_more test [] n none = refl
none_more test (x ∷ xs) n none =
    let first : test x ≡ false = none 0 x (omega arith) in
    rw first (none_more test xs (n + 1) (λ k d below. none (suc k) d (omega arith)))

-- none stands before the first of a place
pub begins_there : (sites : List Site) (m place : ℕ) (raised : Option ℕ) (first : ℕ) → first ≤ length sites → AllWithin (λ site. is_before m place site ≡ true) sites 0 first
    → position_from (is_site m place raised) first (drop first sites) ≡ position_from (is_site m place raised) 0 sites
begins_there sites m place raised first within before =
    ap (λ k. position_from (is_site m place raised) k (drop first sites)) (omega arith)
    ∙ skip (is_site m place raised) sites 0 first within (λ k d low high. before_fails m place raised (get_or sites k d) (before k d low high))

-- and none behind its last
pub ends_there : (sites : List Site) (m place : ℕ) (raised : Option ℕ) (end number : ℕ) → end ≤ number → AllWithin (λ site. is_before m (place + 1) site ≡ false) sites end (length sites)
    → position_from (is_site m place raised) number (drop number sites) ≡ None
ends_there sites m place raised end number past none =
    none_more (is_site m place raised) (drop number sites) number (λ k d below.
    let size = length-drop number sites in
    let same = get_or-drop number sites k d in
    subst (λ site. is_site m place raised site ≡ false) (sym same)
    (behind_fails m place raised (get_or sites (number + k) d) (none (number + k) d (omega arith) (omega arith))))
