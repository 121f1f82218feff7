-- The opcodes of the profile: number, name, and how the operands are spelled (JVM Specification SE 8, 6.5).
-- Decoding, encoding and the names of opcodes in texts go by this one table.
-- No instruction that may throw writes a local: reaching definitions rest on it.
use Rattle.std.specs.Prelude.{ℕ, Bool, ◌==◌, if◌then◌else◌, List, [], ◌∷◌, Option, Some, None, option_map, codes}
use Rattle.std.specs.Str.{bytes_eq}
use Rattle.jo_insn.specs.declared.opcodes.Operands.{Operands}
use Rattle.jo_insn.specs.declared.opcodes.Operands.TheVariants.{NoOperand, SignedByte, SignedShort, LocalByte, LocalAndStep, WidePrefix, PoolByte, PoolShort, PoolShortAndTwo, ArrayKind, OffsetShort, OffsetInt, OffsetTable, KeyTable}

pub record Opcode : Type 0 where
  pub code : ℕ
  pub name : List ℕ
  pub operands : Operands

abbrev pub entry : ℕ → List ℕ → Operands → Opcode
entry code name operands = record { code = code; name = name; operands = operands }

unfoldable pub opcodes : List Opcode
opcodes =
    entry 0 (codes "nop") NoOperand ∷
    entry 1 (codes "aconst_null") NoOperand ∷
    entry 2 (codes "iconst_m1") NoOperand ∷
    entry 3 (codes "iconst_0") NoOperand ∷
    entry 4 (codes "iconst_1") NoOperand ∷
    entry 5 (codes "iconst_2") NoOperand ∷
    entry 6 (codes "iconst_3") NoOperand ∷
    entry 7 (codes "iconst_4") NoOperand ∷
    entry 8 (codes "iconst_5") NoOperand ∷
    entry 16 (codes "bipush") SignedByte ∷
    entry 17 (codes "sipush") SignedShort ∷
    entry 18 (codes "ldc") PoolByte ∷
    entry 19 (codes "ldc_w") PoolShort ∷
    entry 21 (codes "iload") LocalByte ∷
    entry 25 (codes "aload") LocalByte ∷
    entry 26 (codes "iload_0") NoOperand ∷
    entry 27 (codes "iload_1") NoOperand ∷
    entry 28 (codes "iload_2") NoOperand ∷
    entry 29 (codes "iload_3") NoOperand ∷
    entry 42 (codes "aload_0") NoOperand ∷
    entry 43 (codes "aload_1") NoOperand ∷
    entry 44 (codes "aload_2") NoOperand ∷
    entry 45 (codes "aload_3") NoOperand ∷
    entry 46 (codes "iaload") NoOperand ∷
    entry 50 (codes "aaload") NoOperand ∷
    entry 51 (codes "baload") NoOperand ∷
    entry 52 (codes "caload") NoOperand ∷
    entry 53 (codes "saload") NoOperand ∷
    entry 54 (codes "istore") LocalByte ∷
    entry 58 (codes "astore") LocalByte ∷
    entry 59 (codes "istore_0") NoOperand ∷
    entry 60 (codes "istore_1") NoOperand ∷
    entry 61 (codes "istore_2") NoOperand ∷
    entry 62 (codes "istore_3") NoOperand ∷
    entry 75 (codes "astore_0") NoOperand ∷
    entry 76 (codes "astore_1") NoOperand ∷
    entry 77 (codes "astore_2") NoOperand ∷
    entry 78 (codes "astore_3") NoOperand ∷
    entry 79 (codes "iastore") NoOperand ∷
    entry 83 (codes "aastore") NoOperand ∷
    entry 84 (codes "bastore") NoOperand ∷
    entry 85 (codes "castore") NoOperand ∷
    entry 86 (codes "sastore") NoOperand ∷
    entry 87 (codes "pop") NoOperand ∷
    entry 88 (codes "pop2") NoOperand ∷
    entry 89 (codes "dup") NoOperand ∷
    entry 90 (codes "dup_x1") NoOperand ∷
    entry 91 (codes "dup_x2") NoOperand ∷
    entry 92 (codes "dup2") NoOperand ∷
    entry 93 (codes "dup2_x1") NoOperand ∷
    entry 94 (codes "dup2_x2") NoOperand ∷
    entry 95 (codes "swap") NoOperand ∷
    entry 96 (codes "iadd") NoOperand ∷
    entry 100 (codes "isub") NoOperand ∷
    entry 104 (codes "imul") NoOperand ∷
    entry 108 (codes "idiv") NoOperand ∷
    entry 112 (codes "irem") NoOperand ∷
    entry 116 (codes "ineg") NoOperand ∷
    entry 120 (codes "ishl") NoOperand ∷
    entry 122 (codes "ishr") NoOperand ∷
    entry 124 (codes "iushr") NoOperand ∷
    entry 126 (codes "iand") NoOperand ∷
    entry 128 (codes "ior") NoOperand ∷
    entry 130 (codes "ixor") NoOperand ∷
    entry 132 (codes "iinc") LocalAndStep ∷
    entry 145 (codes "i2b") NoOperand ∷
    entry 146 (codes "i2c") NoOperand ∷
    entry 147 (codes "i2s") NoOperand ∷
    entry 153 (codes "ifeq") OffsetShort ∷
    entry 154 (codes "ifne") OffsetShort ∷
    entry 155 (codes "iflt") OffsetShort ∷
    entry 156 (codes "ifge") OffsetShort ∷
    entry 157 (codes "ifgt") OffsetShort ∷
    entry 158 (codes "ifle") OffsetShort ∷
    entry 159 (codes "if_icmpeq") OffsetShort ∷
    entry 160 (codes "if_icmpne") OffsetShort ∷
    entry 161 (codes "if_icmplt") OffsetShort ∷
    entry 162 (codes "if_icmpge") OffsetShort ∷
    entry 163 (codes "if_icmpgt") OffsetShort ∷
    entry 164 (codes "if_icmple") OffsetShort ∷
    entry 165 (codes "if_acmpeq") OffsetShort ∷
    entry 166 (codes "if_acmpne") OffsetShort ∷
    entry 167 (codes "goto") OffsetShort ∷
    entry 170 (codes "tableswitch") OffsetTable ∷
    entry 171 (codes "lookupswitch") KeyTable ∷
    entry 172 (codes "ireturn") NoOperand ∷
    entry 176 (codes "areturn") NoOperand ∷
    entry 177 (codes "return") NoOperand ∷
    entry 178 (codes "getstatic") PoolShort ∷
    entry 179 (codes "putstatic") PoolShort ∷
    entry 180 (codes "getfield") PoolShort ∷
    entry 181 (codes "putfield") PoolShort ∷
    entry 182 (codes "invokevirtual") PoolShort ∷
    entry 183 (codes "invokespecial") PoolShort ∷
    entry 184 (codes "invokestatic") PoolShort ∷
    entry 185 (codes "invokeinterface") PoolShortAndTwo ∷
    entry 187 (codes "new") PoolShort ∷
    entry 188 (codes "newarray") ArrayKind ∷
    entry 189 (codes "anewarray") PoolShort ∷
    entry 190 (codes "arraylength") NoOperand ∷
    entry 191 (codes "athrow") NoOperand ∷
    entry 192 (codes "checkcast") PoolShort ∷
    entry 193 (codes "instanceof") PoolShort ∷
    entry 196 (codes "wide") WidePrefix ∷
    entry 198 (codes "ifnull") OffsetShort ∷
    entry 199 (codes "ifnonnull") OffsetShort ∷
    entry 200 (codes "goto_w") OffsetInt ∷
    []

-- the first row that passes a test
abbrev pub first_row : (Opcode → Bool) → List Opcode → Option Opcode
first_row passes [] = None
first_row passes (opcode ∷ rest) = if passes opcode then Some opcode else first_row passes rest

unfoldable pub row_of : ℕ → Option Opcode
row_of op = first_row (λ opcode. opcode.code == op) opcodes

-- how the operands of an opcode are spelled, where the profile has it
abbrev pub operands_of : ℕ → Option Operands
operands_of op = option_map (λ (opcode : Opcode). opcode.operands) (row_of op)

-- its name
abbrev pub name_of : ℕ → Option (List ℕ)
name_of op = option_map (λ (opcode : Opcode). opcode.name) (row_of op)

-- the opcode of a name
unfoldable pub opcode_named : List ℕ → Option ℕ
opcode_named name = option_map (λ (opcode : Opcode). opcode.code) (first_row (λ opcode. bytes_eq opcode.name name) opcodes)
