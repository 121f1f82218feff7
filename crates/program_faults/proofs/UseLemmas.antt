-- What instructions name, collected one behind another; and classes that have an instruction.
use Rattle.std.proofs.Common.{◌≡◌, ◌∙◌, ℕ, zero, suc, ◌+◌, ◌<◌, ◌≤◌, List, [], ◌++◌, length, Option, Some, None, Ok, Err, refl, sym, subst, ap, arith, append_assoc}
use Rattle.std.specs.List.{Contains, flat_map}
use Rattle.std.proofs.lemmas.List.{append-nil}
use Rattle.std.proofs.lemmas.Option.{slice_get_within}
use Rattle.jo_insn.specs.declared.instructions.Insn.{Insn}
use Rattle.jo_insn.specs.declared.instructions.InsnFault.{InsnFault}
use Rattle.jo_insn.specs.Instructions.{decoded}
use Rattle.jo_insn.proofs.DecodedMoves.{decoded-moves}
use Rattle.jo_prog.specs.declared.program.Program.{Program}
use Rattle.jo_prog.specs.declared.program.Class.{Class}
use Rattle.jo_prog.specs.Program.{class_at}
use Rattle.jo_prog.specs.Sites.{followed, insns_from, insns_in}
use Rattle.jo_prog.proofs.WalkLemmas.{none_there}
use Rattle.program_faults.specs.declared.uses.Use.{Use}
use Rattle.program_faults.specs.UsedOperands.{used_by, used_at, used_in_method, methods_in, methods_of, uses_of}

module _ (code : List ℕ) (old : List Use) where
  -- what was added up to this pc, and what is still added
  abbrev pub AddsOn : List Use → ℕ → Type 0
  AddsOn uses pc = (k : ℕ) × (length code ≤ k + pc) × (uses ++ flat_map used_at (insns_from k code pc) ≡ old ++ flat_map used_at (insns_in code))

  pub begins : AddsOn old 0
  begins = (length code, omega arith, refl)

  uses_more : (k pc next : ℕ) (insn : Insn) → decoded code pc ≡ Ok (insn, next) → flat_map used_at (insns_from (suc k) code pc) ≡ used_by insn ++ flat_map used_at (insns_from k code next)
  unfolding insns_from
  uses_more k pc next insn is = ap (λ found. flat_map used_at (followed pc found (insns_from k code))) is

  none_left : (k pc : ℕ) (fault : InsnFault) → decoded code pc ≡ Err fault → flat_map used_at (insns_from k code pc) ≡ []
  unfolding insns_from
  none_left zero pc fault is = refl
  none_left (suc k) pc fault is = ap (λ found. flat_map used_at (followed pc found (insns_from k code))) is

  pub adds : (uses new : List Use) (pc next : ℕ) (insn : Insn) → decoded code pc ≡ Ok (insn, next) → new ≡ uses ++ used_by insn → AddsOn uses pc → AddsOn new next
  adds uses new pc next insn is more (zero, enough, so_far) = let moves = decoded-moves code pc next insn is in absurd (omega arith)
  adds uses new pc next insn is more (suc k, enough, so_far) =
      let moves = decoded-moves code pc next insn is in
      let rest : List Use = flat_map used_at (insns_from k code next) in
      let grown : new ++ rest ≡ uses ++ (used_by insn ++ rest) = ap (λ (us : List Use). us ++ rest) more ∙ append_assoc uses (used_by insn) rest in
      (k, omega arith, grown ∙ ap (λ (us : List Use). uses ++ us) (sym (uses_more k pc next insn is)) ∙ so_far)

  pub is_all : (uses : List Use) (pc : ℕ) (fault : InsnFault) → decoded code pc ≡ Err fault → AddsOn uses pc → uses ≡ old ++ flat_map used_at (insns_in code)
  is_all uses pc fault is (k, enough, so_far) = sym (append-nil uses) ∙ ap (λ (us : List Use). uses ++ us) (sym (none_left k pc fault is)) ∙ so_far

-- ---- classes

module _ (program : Program) (c : ℕ) where
  no_methods : class_at program c ≡ None → methods_of program c ≡ []
  no_methods missing = ap (λ (o : Option Class). methods_in o) missing

  -- a class with a method is there
  pub with_method : (m : ℕ) → Contains (methods_of program c) m → c < length program.classes
  with_method m among = by_class (class_at program c) refl
    where
      by_class : (o : Option Class) → class_at program c ≡ o → c < length program.classes
      by_class None at = absurd (none_there m (subst (λ (ms : List ℕ). Contains ms m) (no_methods at) among))
      by_class (Some class) at = slice_get_within program.classes c class at

  -- and one with an instruction that names something
  pub with_use : (used : Use) → Contains (uses_of program c) used → c < length program.classes
  with_use used among = by_class (class_at program c) refl
    where
      by_class : (o : Option Class) → class_at program c ≡ o → c < length program.classes
      by_class None at =
          let none : Contains (flat_map (used_in_method program) []) used = subst (λ (ms : List ℕ). Contains (flat_map (used_in_method program) ms) used) (no_methods at) among in
          absurd (none_there used none)
      by_class (Some class) at = slice_get_within program.classes c class at
