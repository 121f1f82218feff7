-- The jumps and the rows of some code: the tests of reading against the grammar.
use Rattle.std.proofs.Common.{◌≡◌, ◌↔◌, ◌⊎◌, inl, inr, ℕ, zero, suc, ◌<◌, Bool, true, false, ◌&&◌, ◌||◌, cond, nat_lt, ◌==◌, List, [], ◌∷◌, length, Option, Some, None, refl, sym, ap, ◌∙◌, arith}
use Rattle.std.specs.Prelude.{ℤ, pos, ◌+ℤ◌}
use Rattle.std.specs.Bool.{Decides}
use Rattle.std.specs.List.{AllByRecursion, list_all}
use Rattle.std.specs.Ordering.{int_eq}
use Rattle.std.proofs.lemmas.Bool.{cases_Bool, and_parts}
use Rattle.std.proofs.lemmas.Option.{none-some}
use Rattle.std.proofs.lemmas.Bool.Decides.{Decides-and, Decides-or, Decides-eqb, Decides-int_eq, Decides-like, Decides-ltb}
use Rattle.class_pool.specs.declared.entries.PoolEntry.{PoolEntry}
use Rattle.class_pool.specs.declared.classes.RowInfo.{RowInfo}
use Rattle.class_pool.specs.declared.faults.ClassCode.TheVariants.{PoolIndex, CodeBounds}
use Rattle.jo_insn.specs.declared.jumps.Placed.{Placed}
use Rattle.jo_insn.specs.Jumps.{is_start, jumps_of}
use Rattle.class_pool.specs.Code.{has_dims_that, dims_at, jumps_well, first_bad_jump, row_fault}
use Rattle.class_pool.specs.ClassGrammar.{IsStart, JumpsWell, IsRow}
use Rattle.class_pool.proofs.GrammarParts.{dims_decided}

-- ---- jumps

start_here : (placed : Placed) (more : List Placed) (target : ℤ) → (pos placed.pc ≡ target) ⊎ IsStart more target → IsStart (placed ∷ more) target
start_here placed more target (inl is) = (placed, (0, omega arith, refl), is)
start_here placed more target (inr (found, (k, below, at), is)) = (found, (suc k, omega arith, at), is)

first_or_later : (placed : Placed) (more : List Placed) (target : ℤ) → IsStart (placed ∷ more) target → (pos placed.pc ≡ target) ⊎ IsStart more target
first_or_later placed more target (found, (zero, below, at), is) = inl (ap (λ (p : Placed). pos p.pc) at ∙ is)
first_or_later placed more target (found, (suc k, below, at), is) = inr (found, (k, omega arith, at), is)

pub is_start_decides : (insns : List Placed) (target : ℤ) → Decides (is_start insns target) (IsStart insns target)
is_start_decides [] target = (λ is. absurd (cc), λ found. absurd (omega (arith, found.1.1)))
is_start_decides (placed ∷ more) target =
    Decides-like (is_start (placed ∷ more) target) (start_here placed more target) (first_or_later placed more target)
    (Decides-or (int_eq (pos placed.pc) target) (is_start more target) (Decides-int_eq (pos placed.pc) target) (is_start_decides more target))

pub all_decides : {X : Type 0} (test : X → Bool) (P : X → Type 0) → ((x : X) → Decides (test x) (P x)) → (xs : List X) → Decides (list_all test xs) (AllByRecursion P xs)
all_decides test P each [] = (λ _. tt, λ _. refl)
all_decides test P each (x ∷ xs) = Decides-and (test x) (list_all test xs) (each x) (all_decides test P each xs)

jumps_decide : (code : List ℕ) (insns : List Placed) (placed : Placed) → Decides (jumps_well code insns placed) (JumpsWell code insns placed)
jumps_decide code insns placed =
    all_decides (λ by. is_start insns (pos placed.pc +ℤ by)) (λ by. IsStart insns (pos placed.pc +ℤ by)) (λ by. is_start_decides insns (pos placed.pc +ℤ by)) (jumps_of code placed.insn)

-- a test of an item, and the tests of the ones behind it
none_when : {A P Q : Type 0} (test : Bool) (later : Option A) (x : A) → Decides test P → (later ≡ None) ↔ Q → (cond test later (Some x) ≡ None) ↔ (P × Q)
none_when true later x decides more = (λ is. (decides.0 refl, more.0 is), λ both. more.1 both.1)
none_when false later x decides more = (λ is. absurd (cc), λ both. let wrong = decides.1 both.0 in absurd (cc))

pub no_bad_jump : (code : List ℕ) (insns these : List Placed) → (first_bad_jump code insns these ≡ None) ↔ AllByRecursion (JumpsWell code insns) these
no_bad_jump code insns [] = (λ _. tt, λ _. refl)
no_bad_jump code insns (placed ∷ more) =
    none_when (jumps_well code insns placed) (first_bad_jump code insns more) placed.pc (jumps_decide code insns placed) (no_bad_jump code insns more)

-- ---- rows

abbrev fits_code : ℕ → List Placed → RowInfo → Bool
fits_code size insns row = nat_lt row.start row.end && (is_start insns (pos row.start) && (is_start insns (pos row.handler) && (row.end == size || is_start insns (pos row.end))))

abbrev names_class : List PoolEntry → RowInfo → Bool
names_class pool row = row.catch_type == 0 || has_dims_that (λ _. true) (dims_at pool row.catch_type)

code_decides : (size : ℕ) (insns : List Placed) (row : RowInfo) → Decides (fits_code size insns row)
    ((row.start < row.end) × (IsStart insns (pos row.start) × (IsStart insns (pos row.handler) × ((row.end ≡ size) ⊎ IsStart insns (pos row.end)))))
code_decides size insns row =
    let ends = Decides-or (row.end == size) (is_start insns (pos row.end)) (Decides-eqb row.end size) (is_start_decides insns (pos row.end)) in
    let handled = Decides-and (is_start insns (pos row.handler)) (row.end == size || is_start insns (pos row.end)) (is_start_decides insns (pos row.handler)) ends in
    let starts = Decides-and (is_start insns (pos row.start)) (is_start insns (pos row.handler) && (row.end == size || is_start insns (pos row.end))) (is_start_decides insns (pos row.start)) handled in
    Decides-and (nat_lt row.start row.end) (is_start insns (pos row.start) && (is_start insns (pos row.handler) && (row.end == size || is_start insns (pos row.end)))) (Decides-ltb row.start row.end) starts

row_decides : (pool : List PoolEntry) (code : List ℕ) (insns : List Placed) (row : RowInfo) → Decides (fits_code (length code) insns row && names_class pool row) (IsRow pool code insns row)
row_decides pool code insns row =
    let named = Decides-or (row.catch_type == 0) (has_dims_that (λ _. true) (dims_at pool row.catch_type)) (Decides-eqb row.catch_type 0) (dims_decided pool (λ _. (λ _. tt, λ _. refl)) row.catch_type) in
    let both = Decides-and (fits_code (length code) insns row) (names_class pool row) (code_decides (length code) insns row) named in (
      λ passes. let parts = both.0 passes in record { forward = parts.0.0; start = parts.0.1.0; handler = parts.0.1.1.0; end = parts.0.1.1.1; catches = parts.1 },
      λ row. both.1 ((row.forward, (row.start, (row.handler, row.end))), row.catches),
    )

row_first : (pool : List PoolEntry) (size : ℕ) (insns : List Placed) (k : ℕ) (row : RowInfo) (more : List RowInfo) → row_fault pool size insns k (row ∷ more) ≡ None
    → ((fits_code size insns row && names_class pool row) ≡ true) × (row_fault pool size insns (suc k) more ≡ None)
row_first pool size insns k row more is = elim (cases_Bool (fits_code size insns row)) [
  | inl fits ↦ elim (cases_Bool (names_class pool row)) [
    | inl named ↦ (rw (fits, named) refl, rw (fits, named) at is)
    | inr unnamed ↦ absurd (none-some (PoolIndex, k) (sym (rw (fits, unnamed) at is)))
  ]
  | inr unfit ↦ absurd (none-some (CodeBounds, k) (sym (rw unfit at is)))
]

pub no_bad_row : (pool : List PoolEntry) (code : List ℕ) (insns : List Placed) (k : ℕ) (rows : List RowInfo) → (row_fault pool (length code) insns k rows ≡ None) ↔ AllByRecursion (IsRow pool code insns) rows
no_bad_row pool code insns k [] = (λ _. tt, λ _. refl)
no_bad_row pool code insns k (row ∷ more) =
    let decides = row_decides pool code insns row in
    let later = no_bad_row pool code insns (suc k) more in (
      λ is. let parts = row_first pool (length code) insns k row more is in (decides.0 parts.0, later.0 parts.1),
      λ all. let parts = and_parts (fits_code (length code) insns row) (names_class pool row) (decides.1 all.0) in rw (parts.0, parts.1) (later.1 all.1),
    )
