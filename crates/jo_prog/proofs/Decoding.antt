-- Decoding rises: the next pc is above the pc, and not beyond the end of the code.
use Rattle.std.proofs.Common.{ap, sym, ◌∙◌, ◌≡◌, ℕ, ◌<◌, ◌≤◌, ◌^◌, Bool, true, false, cond, List, length, Option, Some, None, Ok, Err, refl, arith}
use Rattle.std.specs.Prelude.{Result, nat_lt}
use Rattle.std.proofs.lemmas.Bool.{le-ltb}
use Rattle.std.proofs.lemmas.List.{drop_all}
use Rattle.std.proofs.lemmas.Option.{none-some, some_pair_parts}
use Rattle.jo_insn.specs.Instructions.{decoded}
use Rattle.jo_insn.specs.declared.instructions.Insn.{Insn}
use Rattle.jo_insn.specs.declared.instructions.InsnFault.{InsnFault}
use Rattle.jo_insn.specs.declared.instructions.InsnFault.TheVariants.{Cut}
use Rattle.jo_insn.proofs.DecodedMoves.{decoded-moves}
use Rattle.jo_prog.specs.Operations.{operation_of}
use Rattle.jo_prog.specs.declared.operations.Operation.{Operation}
use Rattle.jo_prog.specs.declared.program.Program.{Program}
use Rattle.jo_prog.specs.declared.program.Code.{Code}
use Rattle.jo_prog.specs.Program.{as_operation, code_at, operation_in, operation_at, callee_of, callee_at}

-- a test that guards a value was true where the value is there
guarded : {A : Type 0} (b : Bool) (o : Option A) (y : A) → cond b o None ≡ Some y → (b ≡ true) × (o ≡ Some y)
guarded true o y e = (refl, e)
guarded false o y e = absurd (none-some y e)

-- behind the code's end stands no instruction
decoded-past : (code : List ℕ) (pc : ℕ) → length code ≤ pc → decoded code pc ≡ Err Cut
unfolding decoded
decoded-past code pc past = rw (drop_all pc code past) refl

pub operation_in-past : (code : Code) (pc : ℕ) → length code.bytes ≤ pc → operation_in (Some code) pc ≡ None
operation_in-past code pc past = rw (decoded-past code.bytes pc past) (same_branches (nat_lt (length code.bytes) (2 ^ 16)))
  where
    same_branches : (b : Bool) → cond {A = Option (Operation × ℕ)} b None None ≡ None
    same_branches true = refl
    same_branches false = refl

pub operation_in-long : (code : Code) (pc : ℕ) → 65535 < length code.bytes → operation_in (Some code) pc ≡ None
operation_in-long code pc long = let is : nat_lt (length code.bytes) (2 ^ 16) ≡ false = le-ltb (length code.bytes) (2 ^ 16) (omega arith) in rw is refl

-- what was decoded, where an operation was found
found-decoded : (r : Result (Insn × ℕ) InsnFault) (operation : Operation) (next : ℕ) → as_operation r ≡ Some (operation, next) → (insn : Insn) × (r ≡ Ok (insn, next))
found-decoded (Err fault) operation next e = absurd (none-some _ e)
found-decoded (Ok (insn, after)) operation next e =
    (insn, ap (λ (n : ℕ). Ok (insn, n)) (some_pair_parts (operation_of insn) operation after next e).1)

-- the pc behind what was decoded of the code's bytes
pub next_of : (bytes code : List ℕ) (pc next : ℕ) (insn : Insn) (r : Result (Insn × ℕ) InsnFault) → bytes ≡ code → r ≡ decoded bytes pc → r ≡ Ok (insn, next) → (pc < next) × (next ≤ length code)
next_of bytes code pc next insn r same is found =
    let moved = decoded-moves bytes pc next insn (sym is ∙ found) in
    let sizes : length bytes ≡ length code = ap (λ (xs : List ℕ). length xs) same in
    (moved.0, omega (arith, moved.1))

pub operation_in-next : (code : Option Code) (pc next : ℕ) (operation : Operation) → operation_in code pc ≡ Some (operation, next) → pc < next
operation_in-next None pc next operation e = absurd (none-some _ e)
operation_in-next (Some code) pc next operation e =
    let within = guarded (nat_lt (length code.bytes) (2 ^ 16)) (as_operation (decoded code.bytes pc)) (operation, next) e in
    let found = found-decoded (decoded code.bytes pc) operation next within.1 in
    (decoded-moves code.bytes pc next found.0 found.1).0

-- decoding rises
pub operation_at-next : (program : Program) (m pc next : ℕ) (operation : Operation) → operation_at program m pc ≡ Some (operation, next) → pc < next
operation_at-next program m pc next operation e = operation_in-next (code_at program m) pc next operation e

-- the operation and the callee at a pc, where the code is known
pub operation_at-code : (program : Program) (m pc : ℕ) (code : Code) (found : Option (Operation × ℕ)) → code_at program m ≡ Some code → found ≡ operation_in (Some code) pc → operation_at program m pc ≡ found
operation_at-code program m pc code found here e = ap (λ (c : Option Code). operation_in c pc) here ∙ sym e

pub callee_at-found : (program : Program) (m pc : ℕ) (found : Option (Operation × ℕ)) → operation_at program m pc ≡ found → callee_at program m pc ≡ callee_of program m found
callee_at-found program m pc found e = ap (λ (o : Option (Operation × ℕ)). callee_of program m o) e
