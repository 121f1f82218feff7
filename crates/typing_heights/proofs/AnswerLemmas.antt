-- The first fault that is told is the first that typing paths meet.
use Rattle.std.proofs.Common.{◌≡◌, ◌↔◌, ℕ, ◌*◌, ◌≤◌, List, Option, Some, None, Contains, sym, ◌∙◌, ap, subst, arith}
use Rattle.jo_prog.specs.declared.program.Program.{Program}
use Rattle.jo_prog.specs.declared.program.Method.{Method}
use Rattle.jo_prog.specs.declared.typed.TypeCode.{TypeCode}
use Rattle.jo_prog.specs.declared.typed.TypeFault.{TypeFault}
use Rattle.jo_prog.specs.Program.{method_at}
use Rattle.jo_prog.specs.TypingPaths.{Typable, IsTypable, MeetsFault, number_of}
use Rattle.typing_heights.specs.Searches.{AreHeights}
use Rattle.typing_heights.specs.Moves.{IsHeightFault}
use Rattle.typing_heights.specs.FirstFaults.{key_of, IsFirstOf}
use Rattle.typing_heights.specs.HeightFaults.{MeetsByHeight, IsHeightAnswer}
use Rattle.typing_heights.proofs.HeightLemmas.{one_typable, some_same}
use Rattle.typing_heights.proofs.ArrivalLemmas.{Meets, found_met, FoundBy, met_found, never_kind}

pub meets_fault : (program : Program) (m : ℕ) (t : Typable) → IsTypable program m t → (pc : ℕ) (code : TypeCode) → Meets program t pc code → MeetsFault program m pc code
meets_fault program m t is pc code met = record { typable = t; is_typable = is; path = met.path; is_path = met.is_path; arrives = met.arrives; meets = met.meets }

pub fault_meets : (program : Program) (m : ℕ) (t : Typable) → IsTypable program m t → (pc : ℕ) (code : TypeCode) → MeetsFault program m pc code → Meets program t pc code
fault_meets program m t is pc code met =
    subst (λ (s : Typable). Meets program s pc code) (one_typable program m met.typable t met.is_typable is)
    (record { path = met.path; is_path = met.is_path; arrives = met.arrives; meets = met.meets })

pub no_fault : (program : Program) (m : ℕ) → method_at program m ≡ None → (pc : ℕ) (code : TypeCode) → MeetsFault program m pc code → ⊥
no_fault program m none pc code met = absurd (let f = met.is_typable.1 in cc)

pub no_code_fault : (program : Program) (m : ℕ) (method : Method) → method_at program m ≡ Some method → method.code ≡ None → (pc : ℕ) (code : TypeCode) → MeetsFault program m pc code → ⊥
no_code_fault program m method found none pc code met =
    let same : met.typable.method ≡ method = some_same met.typable.method method (sym met.is_typable.1 ∙ found) in
    let coded : method.code ≡ Some met.typable.code = ap (λ (x : Method). x.code) (sym same) ∙ met.is_typable.2 in
    absurd (cc)

-- at one pc the lower number has the lower key
pub key_at : (f g : TypeFault) → f.pc ≡ g.pc → number_of f.code ≤ number_of g.code → key_of f ≤ key_of g
key_at f g at low = omega (arith, ap (λ n. n * 8) at)

module _ (program : Program) (m : ℕ) (t : Typable) (is : IsTypable program m t) (heights : List (Option ℕ)) (are : AreHeights program t heights) where
  met_by_height : (f : TypeFault) → IsHeightFault program t heights f → MeetsByHeight program m f
  met_by_height f h = record { met = meets_fault program m t is f.pc f.code (found_met program t heights are f h); of_heights = never_kind program t heights f.pc h.0 f.code h.2.told }

  found_for : (f : TypeFault) → MeetsByHeight program m f → FoundBy program t heights are f.pc (number_of f.code)
  found_for f by =
      let met = fault_meets program m t is f.pc f.code by.met in
      subst (λ (pc : ℕ). FoundBy program t heights are pc (number_of f.code)) met.arrives (met_found program t heights are met.path met.is_path f.code met.meets by.of_heights)

  pub height_answer : (found : List TypeFault) (first : Option TypeFault) → ((f : TypeFault) → Contains found f ↔ IsHeightFault program t heights f) → IsFirstOf found first → IsHeightAnswer program m first
  height_answer found None exact none = λ f by.
      let g = found_for f by in
      let among = subst (λ (l : List TypeFault). Contains l g.fault) none ((exact g.fault).1 g.is_found) in
      absurd (omega (arith, among.1))
  height_answer found (Some first) exact is_first = record {
    met = met_by_height first ((exact first).0 is_first.among);
    least = λ f by.
        let g = found_for f by in
        let low = is_first.least g.fault ((exact g.fault).1 g.is_found) in
        let same = key_at g.fault f g.at_it g.low in
        omega arith;
  }
