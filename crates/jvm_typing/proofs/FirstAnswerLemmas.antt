-- The first fault that is found is the first that typing paths meet.
use Rattle.std.proofs.Common.{◌≡◌, ◌⊎◌, ◌↔◌, ℕ, ◌*◌, ◌<◌, ◌≤◌, Bool, true, false, List, Option, Some, None, Contains, refl, sym, ap, subst, inl, inr, arith}
use Rattle.std.specs.Prelude.{Result, Ok, Err, IfOk, IfErr}
use Rattle.jo_prog.specs.declared.program.Program.{Program}
use Rattle.jo_prog.specs.declared.typed.TypeCode.{TypeCode}
use Rattle.jo_prog.specs.declared.typed.TypeCode.TheVariants.{Underflow, Overflow, HeightDiffers, WrongKind, FallsOff, LocalRange, Memory}
use Rattle.jo_prog.specs.declared.typed.TypeFault.{TypeFault}
use Rattle.jo_prog.specs.TypingPaths.{Typable, Step, IsTypable, TypingPath, arrives_at, height_of, MeetsAtEnd, MeetsFault, IsLeastFault, IsTypedMethod, HasHeightAt, IsTypeFaultOf, fault_claim, number_of}
use Rattle.jvm_typing.specs.declared.facts.Fact.{Fact}
use Rattle.typing_heights.specs.FirstPaths.{HasFirstPaths}
use Rattle.typing_heights.specs.Adds.{Adds}
use Rattle.typing_heights.specs.Searches.{height_at, AreHeights}
use Rattle.typing_heights.specs.Moves.{IsHeightFault, other_height}
use Rattle.typing_heights.specs.FirstFaults.{IsFirstOf}
use Rattle.jvm_typing.specs.KindPasses.{items_of, AreKinds}
use Rattle.jvm_typing.specs.KindFaults.{kind_fault, IsKindFault, IsFirstAnswer, IsTypeAnswer}
use Rattle.typing_heights.proofs.ArrivalLemmas.{Meets, found_met, FoundBy, met_found, other_found}
use Rattle.typing_heights.proofs.AnswerLemmas.{meets_fault, fault_meets}
use Rattle.jvm_typing.proofs.KindFaultLemmas.{kind_found_met, kind_met_found}

below_eight : (code : TypeCode) → number_of code < 8
below_eight Underflow = omega arith
below_eight Overflow = omega arith
below_eight HeightDiffers = omega arith
below_eight WrongKind = omega arith
below_eight FallsOff = omega arith
below_eight LocalRange = omega arith
below_eight Memory = omega arith

module _ (program : Program) (m : ℕ) (t : Typable) (is : IsTypable program m t) (heights : List (Option ℕ)) (are : AreHeights program t heights) (facts : List Fact) (kinds : AreKinds program t heights (items_of facts)) where
  -- a fault that is found at a pc, with no greater number
  record Found (found : List TypeFault) (pc number : ℕ) : Type 0 where
    fault : TypeFault
    among : Contains found fault
    at_it : fault.pc ≡ pc
    low : number_of fault.code ≤ number

  module _ (found : List TypeFault) (exact : (f : TypeFault) → Contains found f ↔ (IsHeightFault program t heights f ⊎ IsKindFault program t heights facts f)) where
    by_height : (pc number : ℕ) → FoundBy program t heights are pc number → Found found pc number
    by_height pc number by = record { fault = by.fault; among = (exact by.fault).1 (inl by.is_found); at_it = by.at_it; low = by.low }

    wrong_found : (path : List Step) → TypingPath program t path → MeetsAtEnd program t path WrongKind → (b : Bool) → other_height (height_at heights (arrives_at path)) (height_of program t path) ≡ b → Found found (arrives_at path) 4
    wrong_found path typing meets true e =
        let g = by_height (arrives_at path) 3 (other_found program t heights are path typing e) in
        record { fault = g.fault; among = g.among; at_it = g.at_it; low = (let l = g.low in omega arith) }
    wrong_found path typing meets false e = record {
      fault = kind_fault (arrives_at path);
      among = (exact (kind_fault (arrives_at path))).1 (inr (kind_met_found program t heights are facts kinds path typing meets e));
      at_it = refl;
      low = omega arith;
    }

    path_found : (path : List Step) → TypingPath program t path → (code : TypeCode) → MeetsAtEnd program t path code → Found found (arrives_at path) (number_of code)
    path_found path typing Underflow meets = by_height (arrives_at path) 1 (met_found program t heights are path typing Underflow meets (λ e. absurd (cc)))
    path_found path typing Overflow meets = by_height (arrives_at path) 2 (met_found program t heights are path typing Overflow meets (λ e. absurd (cc)))
    path_found path typing HeightDiffers meets = by_height (arrives_at path) 3 (met_found program t heights are path typing HeightDiffers meets (λ e. absurd (cc)))
    path_found path typing WrongKind meets = wrong_found path typing meets (other_height (height_at heights (arrives_at path)) (height_of program t path)) refl
    path_found path typing FallsOff meets = by_height (arrives_at path) 5 (met_found program t heights are path typing FallsOff meets (λ e. absurd (cc)))
    path_found path typing LocalRange meets = by_height (arrives_at path) 6 (met_found program t heights are path typing LocalRange meets (λ e. absurd (cc)))
    path_found path typing Memory meets = absurd meets

    fault_found : (pc : ℕ) (code : TypeCode) → MeetsFault program m pc code → Found found pc (number_of code)
    fault_found pc code met =
        let by = fault_meets program m t is pc code met in
        subst (λ (p : ℕ). Found found p (number_of code)) by.arrives (path_found by.path by.is_path code by.meets)

    found_meets : (f : TypeFault) → Contains found f → MeetsFault program m f.pc f.code
    found_meets f among = meets_fault program m t is f.pc f.code (by_kind ((exact f).0 among))
      where
        by_kind : IsHeightFault program t heights f ⊎ IsKindFault program t heights facts f → Meets program t f.pc f.code
        by_kind (inl h) = found_met program t heights are f h
        by_kind (inr h) = kind_found_met program t heights are facts kinds f h

    pub first_answer : (first : Option TypeFault) → IsFirstOf found first → IsFirstAnswer program m first
    first_answer None none = λ pc code met.
        let g = fault_found pc code met in
        let among = subst (λ (l : List TypeFault). Contains l g.fault) none g.among in
        absurd (omega (arith, among.1))
    first_answer (Some f) is_first = record {
      met = found_meets f is_first.among;
      least_pc = λ pc code less met.
          let g = fault_found pc code met in
          let least = is_first.least g.fault g.among in
          let e = g.at_it in
          let b = below_eight g.fault.code in
          absurd (omega arith);
      least_number = λ code less met.
          let g = fault_found f.pc code met in
          let least = is_first.least g.fault g.among in
          let e = ap (λ n. n * 8) g.at_it in
          let l = g.low in
          absurd (omega arith);
    }

pub least_is_first : (program : Program) (m : ℕ) (fault : TypeFault) → IsLeastFault program m fault → IsTypeFaultOf program m fault
least_is_first program m fault least = by_code fault.code
  where
    by_code : (code : TypeCode) → fault_claim program m fault code
    by_code Underflow = least
    by_code Overflow = least
    by_code HeightDiffers = least
    by_code WrongKind = least
    by_code FallsOff = least
    by_code LocalRange = least
    by_code Memory = tt

pub memory_is_no_claim : (program : Program) (m : ℕ) (fault : TypeFault) → fault.code ≡ Memory → IsTypeFaultOf program m fault
memory_is_no_claim program m fault e = subst (λ (code : TypeCode). fault_claim program m fault code) (sym e) tt

pub joined : (program : Program) (t : Typable) (heights : List (Option ℕ)) (facts : List Fact) (found all : List TypeFault) → ((f : TypeFault) → Contains found f ↔ IsHeightFault program t heights f)
    → Adds (Contains found) (Contains all) (IsKindFault program t heights facts) → (f : TypeFault) → Contains all f ↔ (IsHeightFault program t heights f ⊎ IsKindFault program t heights facts f)
joined program t heights facts found all exact adds f = (λ among. there ((adds f).0 among), λ h. (adds f).1 (back h))
  where
    there : Contains found f ⊎ IsKindFault program t heights facts f → IsHeightFault program t heights f ⊎ IsKindFault program t heights facts f
    there (inl among) = inl ((exact f).0 among)
    there (inr h) = inr h

    back : IsHeightFault program t heights f ⊎ IsKindFault program t heights facts f → Contains found f ⊎ IsKindFault program t heights facts f
    back (inl h) = inl ((exact f).1 h)
    back (inr h) = inr h

-- ---- what a method is answered

abbrev Answer : Type 0
Answer = Result (List (Option ℕ)) TypeFault

pub typed_answer : (program : Program) (m : ℕ) (answer : Answer) → IsTypeAnswer program m answer → IfOk answer (λ typed. IsTypedMethod program m)
typed_answer program m (Ok heights) is = is.0
typed_answer program m (Err fault) is = tt

pub first_paths_answer : (program : Program) (m : ℕ) (answer : Answer) → IsTypeAnswer program m answer → IfOk answer (λ typed. HasFirstPaths program m)
first_paths_answer program m (Ok heights) is = is.1
first_paths_answer program m (Err fault) is = tt

pub heights_answer : (program : Program) (m : ℕ) (answer : Answer) → IsTypeAnswer program m answer → IfOk answer (λ typed. (pc h : ℕ) → (height_at typed pc ≡ Some h) ↔ HasHeightAt program m pc h)
heights_answer program m (Ok heights) is = is.2
heights_answer program m (Err fault) is = tt

pub fault_answer : (program : Program) (m : ℕ) (answer : Answer) → IsTypeAnswer program m answer → IfErr answer (λ fault. IsTypeFaultOf program m fault)
fault_answer program m (Ok heights) is = tt
fault_answer program m (Err fault) is = least_is_first program m fault is
