-- The checks of code, one after another.
use Rattle.std.proofs.Common.{◌≡◌, ℕ, suc, Bool, List, [], ◌∷◌, length, Option, Some, None, Result, Ok, Err, refl, sym, ap, ◌∙◌}
use Rattle.std.specs.Prelude.{ℤ, pos}
use Rattle.std.specs.List.{AllByRecursion}
use Rattle.class_pool.specs.declared.entries.PoolEntry.{PoolEntry}
use Rattle.class_pool.specs.declared.classes.RowInfo.{RowInfo}
use Rattle.class_pool.specs.declared.faults.ClassCode.{ClassCode}
use Rattle.class_pool.specs.declared.faults.ClassFault.{ClassFault}
use Rattle.class_pool.specs.declared.faults.Stop.{Stop}
use Rattle.class_pool.specs.declared.faults.Stop.TheVariants.{Fault, Memory}
use Rattle.class_pool.specs.Outcomes.{Fails}
use Rattle.class_pool.specs.Pool.{first_failing}
use Rattle.jo_insn.specs.declared.jumps.Placed.{Placed}
use Rattle.jo_insn.specs.Jumps.{is_start}
use Rattle.class_pool.specs.Code.{insns_of, first_bad_jump, row_questions, row_fault, canonical_code}
use Rattle.class_pool.specs.ClassOrder.{Spelled, jump_checked, row_checked, code_checked}
use Rattle.class_pool.specs.ClassGrammar.{AreInsnsFrom, ends, goes_on}
use Rattle.class_pool.proofs.GrammarInsns.{insns_of_grammar}
use Rattle.class_read.specs.Codes.{located}
use Rattle.jo_insn.specs.Jumps.{IsPlacedIn}
use Rattle.class_read.specs.Starts.{jumps_pass, row_by, rows_by, rows_pass}

-- ---- instructions

in_place : (pool : List PoolEntry) (code : List ℕ) {pc : ℕ} {insns : List Placed} → AreInsnsFrom pool code pc insns → AllByRecursion (IsPlacedIn code) insns
in_place pool code (ends pc end) = tt
in_place pool code (goes_on pc next insn more is sound others) = (is, in_place pool code others)

pub all_placed : (pool : List PoolEntry) (code : List ℕ) (insns : List Placed) → insns_of pool code ≡ Ok insns → AllByRecursion (IsPlacedIn code) insns
all_placed pool code insns is = in_place pool code ((insns_of_grammar pool code insns).0 is)

pub read_ok : {A : Type 0} (place : ℕ) (read : Result A (ClassCode × ℕ)) (x : A) → located place read ≡ Ok x → read ≡ Ok x
read_ok place (Ok y) x is = cc
read_ok place (Err (code, pc)) x is = absurd (cc)

-- ---- rows

row_same : (starts : ℤ → Bool) (pool : List PoolEntry) (size : ℕ) (insns : List Placed) (row : RowInfo) → ((t : ℤ) → starts t ≡ is_start insns t)
    → row_by starts pool size row ≡ first_failing (row_questions pool size insns row)
row_same starts pool size insns row same = rw (same (pos row.start), same (pos row.handler), same (pos row.end)) refl

rows_one : (starts : ℤ → Bool) (pool : List PoolEntry) (size : ℕ) (insns : List Placed) (k : ℕ) (row : RowInfo) (more : List RowInfo) (wrong : Option ClassCode)
    → first_failing (row_questions pool size insns row) ≡ wrong → row_by starts pool size row ≡ wrong → rows_by starts pool size (suc k) more ≡ row_fault pool size insns (suc k) more
    → rows_by starts pool size k (row ∷ more) ≡ row_fault pool size insns k (row ∷ more)
rows_one starts pool size insns k row more None there here later = rw (here, there) later
rows_one starts pool size insns k row more (Some code) there here later = rw (here, there) refl

pub rows_same : (starts : ℤ → Bool) (pool : List PoolEntry) (size : ℕ) (insns : List Placed) → ((t : ℤ) → starts t ≡ is_start insns t) → (k : ℕ) (rows : List RowInfo)
    → rows_by starts pool size k rows ≡ row_fault pool size insns k rows
rows_same starts pool size insns same k [] = refl
rows_same starts pool size insns same k (row ∷ more) =
    rows_one starts pool size insns k row more (first_failing (row_questions pool size insns row)) refl (row_same starts pool size insns row same) (rows_same starts pool size insns same (suc k) more)

-- ---- what follows a check

jumps_passed : (place : ℕ) (bad : Option ℕ) (next : Result (List ℕ) ClassFault) → jumps_pass place bad ≡ Ok tt → jump_checked place bad next ≡ next
jumps_passed place None next is = refl
jumps_passed place (Some pc) next is = absurd (cc)

row_stops : (place : ℕ) (bad : Option (ClassCode × ℕ)) (next : Result (List ℕ) ClassFault) (stop : Stop) → Fails stop (rows_pass place bad) → Fails stop (row_checked place bad next)
row_stops place bad next Memory is = tt
row_stops place None next (Fault f) is = absurd (cc)
row_stops place (Some (code, k)) next (Fault f) is = cc

rows_passed : (place : ℕ) (bad : Option (ClassCode × ℕ)) (next : Result (List ℕ) ClassFault) → rows_pass place bad ≡ Ok tt → row_checked place bad next ≡ next
rows_passed place None next is = refl
rows_passed place (Some (code, k)) next is = absurd (cc)

-- ---- the checks in order

module _ (pool : List PoolEntry) (s : Spelled) where
  module _ (insns : List Placed) (read : located s.code_place (insns_of pool s.code) ≡ Ok insns) where
    abbrev bad_jump : Option ℕ
    bad_jump = first_bad_jump s.code insns insns

    abbrev bad_row : Option (ClassCode × ℕ)
    bad_row = row_fault pool (length s.code) insns 0 s.rows

    abbrev kept : Result (List ℕ) ClassFault
    kept = Ok (canonical_code pool s.code insns)

    pub placed : AllByRecursion (IsPlacedIn s.code) insns
    placed = all_placed pool s.code insns (read_ok s.code_place (insns_of pool s.code) insns read)

    in_order : code_checked pool s (insns_of pool s.code) ≡ jump_checked s.code_place bad_jump (row_checked s.rows_place bad_row kept)
    in_order = ap (code_checked pool s) (read_ok s.code_place (insns_of pool s.code) insns read)

    module _ (jumps : jumps_pass s.code_place bad_jump ≡ Ok tt) (starts : ℤ → Bool) (same : (t : ℤ) → starts t ≡ is_start insns t) where
      rows_next : code_checked pool s (insns_of pool s.code) ≡ row_checked s.rows_place (rows_by starts pool (length s.code) 0 s.rows) kept
      rows_next = in_order ∙ jumps_passed s.code_place bad_jump (row_checked s.rows_place bad_row kept) jumps
          ∙ ap (λ (bad : Option (ClassCode × ℕ)). row_checked s.rows_place bad kept) (sym (rows_same starts pool (length s.code) insns same 0 s.rows))

      pub stops_at_row : (stop : Stop) → Fails stop (rows_pass s.rows_place (rows_by starts pool (length s.code) 0 s.rows)) → Fails stop (code_checked pool s (insns_of pool s.code))
      stops_at_row stop is = rw rows_next (row_stops s.rows_place (rows_by starts pool (length s.code) 0 s.rows) kept stop is)

      pub passes : rows_pass s.rows_place (rows_by starts pool (length s.code) 0 s.rows) ≡ Ok tt → code_checked pool s (insns_of pool s.code) ≡ Ok (canonical_code pool s.code insns)
      passes is = rows_next ∙ rows_passed s.rows_place (rows_by starts pool (length s.code) 0 s.rows) kept is
